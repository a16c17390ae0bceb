-- Laws for functions that write an expression: a cell over what its operands' functions wrote.
use Prim.Native.Nat.{ℕ, ◌-◌, ◌≤◌, ◌<◌}
use native.Mathlib.Omega.{arith}
use mathlib.Core.Path.{◌≡◌, refl, ◌∙◌, subst}
use mathlib.Core.List.{List, ◌++◌}
use lib.ListN.{length}
use Rattle.sql.specs.Expression.{origin, Binary, Expression, constant, column, unary, binary}
use Rattle.cells.specs.declared.Cell.{Cell}
use Rattle.cells.specs.Cells.{cell_words, sized, cell_at, tag_at, start_at}
pub use Rattle.cells.specs.Cells.{plain}
use Rattle.cells.specs.Room.{Wrote, Seals}
use Rattle.cells.proofs.Laws.{then, nothing}
use Rattle.words.specs.Words.{cell, root, expression_words, map_operands}
use Rattle.words.specs.Place.{ExpressionHere, Maps}
use Rattle.words.proofs.Expressions.{by_leaf, by_unary, by_binary, root_is, root_tag, here_operand, here_left, here_right}

module _ {s : List ℕ} {lo hi : ℕ} where
  -- the root's cell over what was written
  pub sealed : (e : Expression) → ExpressionHere s lo hi e → {c : Cell} → c ≡ cell_at s hi → {d : List ℕ} {at m n : ℕ} {d₁ d₂ b : List ℕ} → length d₁ ≡ length d
      → Wrote d at b m d₁ → Seals d₁ at m c n d₂ → Wrote d at (sized b (cell (origin e) (root e))) n d₂
  sealed e u {c} q {d} {at} {m} {n} {d₁} {d₂} {b} k w f = subst (λ (x : Cell). Wrote d at (sized b x) n d₂) (q ∙ root_is e u) (f d b k w)

  -- two operands, one after the other
  pub both_written : {d : List ℕ} {at m j mid : ℕ} {d₁ d₂ : List ℕ} → length d₁ ≡ length d → mid ≡ start_at s (hi - cell_words)
      → (f : Expression → Expression) → Maps f s lo mid d at m d₁ → Maps f s mid (hi - cell_words) d₁ m j d₂
      → (og : ℕ) (o : Binary) (l r : Expression) → ExpressionHere s lo hi (binary og o l r) → Wrote d at (expression_words (f l) ++ expression_words (f r)) j d₂
  both_written e₁ st f a b og o l r u = then e₁ (a l (here_left st og o l r u)) (b r (here_right st og o l r u))

  -- the three ways to write an expression with f of its operands
  module _ (f : Expression → Expression) {c : Cell} (q : c ≡ cell_at s hi) where
    pub operands_leaf : {d : List ℕ} {at n : ℕ} {d' : List ℕ} → tag_at s hi < 10 → Seals d at at c n d' → Maps (map_operands f) s lo hi d at n d'
    unfolding expression_words
    operands_leaf {d} {at} {n} {d'} h w e u = by_leaf (λ e. ExpressionHere s lo hi e → Wrote d at (expression_words (map_operands f e)) n d')
        (λ og v k. sealed (constant og v) k q refl (nothing d at) w) (λ og i k. sealed (column og i) k q refl (nothing d at) w) e (omega (arith, root_tag e u)) u

    pub operands_unary : {d : List ℕ} {at m n : ℕ} {d₁ d₂ : List ℕ} → length d₁ ≡ length d → 30 ≤ tag_at s hi
        → Maps f s lo (hi - cell_words) d at m d₁ → Seals d₁ at m c n d₂ → Maps (map_operands f) s lo hi d at n d₂
    unfolding expression_words
    operands_unary {d} {at} {n} {d₂} e₁ h g w e u = by_unary (λ e. ExpressionHere s lo hi e → Wrote d at (expression_words (map_operands f e)) n d₂)
        (λ og o x v. sealed (unary og o x) v q e₁ (g x (here_operand og o x v)) w) e (omega (arith, root_tag e u)) u

    pub operands_binary : {d : List ℕ} {at m j n mid : ℕ} {d₁ d₂ d₃ : List ℕ} → length d₁ ≡ length d → length d₂ ≡ length d₁ → mid ≡ start_at s (hi - cell_words)
        → 10 ≤ tag_at s hi → tag_at s hi < 30 → Maps f s lo mid d at m d₁ → Maps f s mid (hi - cell_words) d₁ m j d₂ → Seals d₂ at j c n d₃
        → Maps (map_operands f) s lo hi d at n d₃
    unfolding expression_words
    operands_binary {d} {at} {n = n} {d₃ = d₃} e₁ e₂ st h₁ h₂ a b w e u = by_binary (λ e. ExpressionHere s lo hi e → Wrote d at (expression_words (map_operands f e)) n d₃)
        (λ og o l r v. sealed (binary og o l r) v q (e₂ ∙ e₁) (both_written e₁ st f a b og o l r v) w) e (omega (arith, root_tag e u)) (omega (arith, root_tag e u)) u
