-- What each function has written, from what its calls have.
use Prim.Native.Nat.{ℕ, ◌-◌, ◌<◌}
use native.Mathlib.Omega.{arith}
use mathlib.Core.Path.{◌≡◌, refl, sym, ◌∙◌}
use mathlib.Core.List.{List, ◌++◌}
use lib.ListN.{length}
use Rattle.sql.specs.Expression.{And, Or, Binary, logical, Equal, function, Expression, constant, column, unary, binary, and, or, single, both, distribute, conjuncts}
use Rattle.sheet.specs.Content.{binary_tag}
use Rattle.cells.specs.Cells.{cell_words, tag_at, origin_at, start_at}
use Rattle.cells.specs.Room.{Wrote, Seals}
use Rattle.cells.proofs.Laws.{then, full_already}
use Rattle.words.specs.Words.{cell, root, expression_words, map_operands}
use Rattle.words.specs.Place.{ExpressionHere, own, Maps}
use Rattle.words.proofs.Expressions.{tag, by_binary, by_and, by_or, root_tag, root_origin, here_left, here_right}
use Rattle.words.proofs.Stands.{here_own}
use Rattle.words.proofs.Writing.{plain}
use Rattle.cnf.specs.Cnf.{MapsTwo, spread, spread_right}

-- ---- the rewrite at a cell, by its tag

distribute_or : (og : ℕ) (o : Binary) (l r : Expression) → binary_tag o ≡ 11 → distribute (binary og o l r) ≡ spread og l r
distribute_or og o l r = by_or (λ p. distribute (binary og p l r) ≡ spread og l r) refl o

pub distribute_other : (e : Expression) → (tag (root e) ≡ 11 → ⊥) → distribute e ≡ map_operands distribute e
distribute_other (constant og v) h = refl
distribute_other (column og i) h = refl
distribute_other (unary og o x) h = refl
distribute_other (binary og (logical And) l r) h = refl
distribute_other (binary og (logical Or) l r) h = absurd (h refl)
distribute_other (binary og Equal l r) h = refl
distribute_other (binary og (function f) l r) h = refl

conjuncts_and : (og : ℕ) (o : Binary) (l r : Expression) → binary_tag o ≡ 10 → conjuncts (binary og o l r) ≡ both (conjuncts l) (conjuncts r)
conjuncts_and og o l r = by_and (λ p. conjuncts (binary og p l r) ≡ both (conjuncts l) (conjuncts r)) refl o

conjuncts_other : (e : Expression) → (tag (root e) ≡ 10 → ⊥) → conjuncts e ≡ single (distribute e)
conjuncts_other (constant og v) h = refl
conjuncts_other (column og i) h = refl
conjuncts_other (unary og o x) h = refl
conjuncts_other (binary og (logical And) l r) h = absurd (h refl)
conjuncts_other (binary og (logical Or) l r) h = refl
conjuncts_other (binary og Equal l r) h = refl
conjuncts_other (binary og (function f) l r) h = refl

-- an And and an Or over two expressions that were written
module _ {d : List ℕ} {at m j n : ℕ} {d₁ d₂ d₃ : List ℕ} (e₁ : length d₁ ≡ length d) (e₂ : length d₂ ≡ length d₁) (x y : Expression)
    (w₁ : Wrote d at (expression_words x) m d₁) (w₂ : Wrote d₁ m (expression_words y) j d₂) where
  and_written : (new : ℕ) → Seals d₂ at j (plain new 10) n d₃ → Wrote d at (expression_words (and new x y)) n d₃
  unfolding expression_words cell
  and_written new w = w d (expression_words x ++ expression_words y) (e₂ ∙ e₁) (then e₁ w₁ w₂)

  or_written : (new : ℕ) → Seals d₂ at j (plain new 11) n d₃ → Wrote d at (expression_words (or new x y)) n d₃
  unfolding expression_words cell
  or_written new w = w d (expression_words x ++ expression_words y) (e₂ ∙ e₁) (then e₁ w₁ w₂)

pub full : {s : List ℕ} {lo hi : ℕ} {d : List ℕ} {at : ℕ} {d' : List ℕ} (f : Expression → Expression) → length d < at → Maps f s lo hi d at at d'
full f h e u = full_already h

module _ {s : List ℕ} {lo hi : ℕ} {d : List ℕ} {at n : ℕ} {d' : List ℕ} where
  pub distribute_as_or : {mid : ℕ} → mid ≡ start_at s (hi - cell_words) → tag_at s hi ≡ 11 → {new : ℕ} → new ≡ origin_at s hi → MapsTwo (spread new) s lo mid s mid (hi - cell_words) d at n d' → Maps distribute s lo hi d at n d'
  distribute_as_or st h q f e u = by_binary (λ e. ExpressionHere s lo hi e → tag (root e) ≡ 11 → Wrote d at (expression_words (distribute e)) n d')
      (λ og o l r v k. rw (distribute_or og o l r k, sym (q ∙ root_origin (binary og o l r) v)) (f l r (here_left st og o l r v) (here_right st og o l r v))) e (omega (arith, root_tag e u)) (omega (arith, root_tag e u)) u (sym (root_tag e u) ∙ h)

  pub distribute_as_operands : (tag_at s hi ≡ 11 → ⊥) → Maps (map_operands distribute) s lo hi d at n d' → Maps distribute s lo hi d at n d'
  distribute_as_operands h f e u = rw (distribute_other e (λ z. h (root_tag e u ∙ z))) (f e u)

module _ {s t : List ℕ} {a x b z : ℕ} {d : List ℕ} {at : ℕ} where
  pub full_two : (f : Expression → Expression → Expression) {d' : List ℕ} → length d < at → MapsTwo f s a x t b z d at at d'
  full_two f h e g u v = full_already h

  pub both_as_right : (new : ℕ) {n : ℕ} {d' : List ℕ} → (tag_at s x ≡ 10 → ⊥) → MapsTwo (spread_right new) s a x t b z d at n d' → MapsTwo (spread new) s a x t b z d at n d'
  both_as_right new h f e g u v = rw (conjuncts_other e (λ k. h (root_tag e u ∙ k))) (f e g u v)

  module _ {m j n : ℕ} {d₁ d₂ d₃ : List ℕ} (e₁ : length d₁ ≡ length d) (e₂ : length d₂ ≡ length d₁) where
    pub both_and : (new : ℕ) {mid : ℕ} → mid ≡ start_at s (x - cell_words) → tag_at s x ≡ 10 → MapsTwo (spread new) s a mid t b z d at m d₁ → MapsTwo (spread new) s mid (x - cell_words) t b z d₁ m j d₂
        → Seals d₂ at j (plain new 10) n d₃ → MapsTwo (spread new) s a x t b z d at n d₃
    both_and new st h f₁ f₂ w e g u v = by_binary (λ e. ExpressionHere s a x e → tag (root e) ≡ 10 → Wrote d at (expression_words (spread new e g)) n d₃)
        (λ og o l r p k. rw (conjuncts_and og o l r k) (and_written e₁ e₂ (spread new l g) (spread new r g) (f₁ l g (here_left st og o l r p) v) (f₂ r g (here_right st og o l r p) v) new w))
        e (omega (arith, root_tag e u)) (omega (arith, root_tag e u)) u (sym (root_tag e u) ∙ h)

    pub right_and : (new : ℕ) {mid : ℕ} → mid ≡ start_at t (z - cell_words) → tag_at t z ≡ 10 → MapsTwo (spread_right new) s a x t b mid d at m d₁ → MapsTwo (spread_right new) s a x t mid (z - cell_words) d₁ m j d₂
        → Seals d₂ at j (plain new 10) n d₃ → MapsTwo (spread_right new) s a x t b z d at n d₃
    right_and new st h f₁ f₂ w e g u v = by_binary (λ g. ExpressionHere t b z g → tag (root g) ≡ 10 → Wrote d at (expression_words (spread_right new e g)) n d₃)
        (λ og o l r p k. rw (conjuncts_and og o l r k) (and_written e₁ e₂ (spread_right new e l) (spread_right new e r) (f₁ e l u (here_left st og o l r p)) (f₂ e r u (here_right st og o l r p)) new w))
        g (omega (arith, root_tag g v)) (omega (arith, root_tag g v)) v (sym (root_tag g v) ∙ h)

    pub right_or : (new : ℕ) → (tag_at t z ≡ 10 → ⊥) → Maps distribute s a x d at m d₁ → Maps distribute t b z d₁ m j d₂ → Seals d₂ at j (plain new 11) n d₃
        → MapsTwo (spread_right new) s a x t b z d at n d₃
    right_or new h f₁ f₂ w e g u v = rw (conjuncts_other g (λ k. h (root_tag g v ∙ k))) (or_written e₁ e₂ (distribute e) (distribute g) (f₁ e u) (f₂ g v) new w)

-- what was made of two expressions, each by itself, said of where they stand
pub where_both_stand : {s w t v : List ℕ} {a x b z : ℕ} → w ≡ own s a x → v ≡ own t b z → (f : Expression → Expression → Expression) {d d' : List ℕ} {at n : ℕ}
    → MapsTwo f w 0 (length w) v 0 (length v) d at n d' → MapsTwo f s a x t b z d at n d'
where_both_stand p q f m e g h k = m e g (here_own p h) (here_own q k)
