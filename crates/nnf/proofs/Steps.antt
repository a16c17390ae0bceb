-- What each function has written, from what its calls have.
use Prim.Native.Nat.{ℕ, ◌-◌, ◌≤◌, ◌<◌}
use native.Mathlib.Omega.{arith}
use mathlib.Core.Logic.{◌⊎◌, ⊎_elim}
use mathlib.Core.Path.{◌≡◌, refl, sym, ◌∙◌}
use mathlib.Core.List.{List, ◌++◌}
use lib.ListN.{length}
use Rattle.sql.specs.Expression.{And, Or, Unary, Not, function, Binary, logical, Equal, Expression, constant, column, unary, binary, into_nnf, into_nnf_not, into_nnf_operands}
use Rattle.sheet.specs.Content.{unary_tag, binary_tag}
use Rattle.cells.specs.Cells.{cell_words, tag_at, origin_at, start_at}
use Rattle.cells.specs.Room.{Wrote, Seals}
use Rattle.words.specs.Words.{cell, root, expression_words, map_operands}
use Rattle.words.specs.Place.{ExpressionHere, Maps}
use Rattle.words.proofs.Expressions.{tag, by_unary, by_binary, by_not, by_and, by_or, root_tag, root_origin, here_operand}
use Rattle.words.proofs.Writing.{plain, both_written}
use Rattle.nnf.specs.Nnf.{negated}

-- the definition's name for it
as_operands : (e : Expression) → into_nnf_operands e ≡ map_operands into_nnf e
as_operands (constant og v) = refl
as_operands (column og i) = refl
as_operands (unary og o x) = refl
as_operands (binary og o l r) = refl

-- ---- the rewrite at a cell, by its tag

nnf_not : (og : ℕ) (o : Unary) (x : Expression) → unary_tag o ≡ 30 → into_nnf (unary og o x) ≡ into_nnf_not og x
nnf_not og o x = by_not (λ p. into_nnf (unary og p x) ≡ into_nnf_not og x) refl o

nnf_operands : (e : Expression) → (tag (root e) ≡ 30 → ⊥) → into_nnf e ≡ into_nnf_operands e
nnf_operands (constant og v) h = refl
nnf_operands (column og i) h = refl
nnf_operands (unary og Not x) h = absurd (h refl)
nnf_operands (unary og (function f) x) h = refl
nnf_operands (binary og o l r) h = refl

pub nnf_other : (e : Expression) → (tag (root e) ≡ 30 → ⊥) → into_nnf e ≡ map_operands into_nnf e
nnf_other e h = nnf_operands e h ∙ as_operands e

not_not : (new og : ℕ) (o : Unary) (x : Expression) → unary_tag o ≡ 30 → into_nnf_not new (unary og o x) ≡ into_nnf_operands x
not_not new og o x = by_not (λ p. into_nnf_not new (unary og p x) ≡ into_nnf_operands x) refl o

not_and : (new og : ℕ) (o : Binary) (l r : Expression) → binary_tag o ≡ 10 → into_nnf_not new (binary og o l r) ≡ negated 11 new (binary og o l r)
not_and new og o l r = by_and (λ p. into_nnf_not new (binary og p l r) ≡ negated 11 new (binary og p l r)) refl o

not_or : (new og : ℕ) (o : Binary) (l r : Expression) → binary_tag o ≡ 11 → into_nnf_not new (binary og o l r) ≡ negated 10 new (binary og o l r)
not_or new og o l r = by_or (λ p. into_nnf_not new (binary og p l r) ≡ negated 10 new (binary og p l r)) refl o

not_operands : (new : ℕ) (e : Expression) → (tag (root e) ≡ 30 → ⊥) → (tag (root e) ≡ 10 → ⊥) → (tag (root e) ≡ 11 → ⊥) → into_nnf_not new e ≡ unary new Not (into_nnf_operands e)
not_operands new (constant og v) f g h = refl
not_operands new (column og i) f g h = refl
not_operands new (unary og Not x) f g h = absurd (f refl)
not_operands new (unary og (function p) x) f g h = refl
not_operands new (binary og (logical And) l r) f g h = absurd (g refl)
not_operands new (binary og (logical Or) l r) f g h = absurd (h refl)
not_operands new (binary og Equal l r) f g h = refl
not_operands new (binary og (function p) l r) f g h = refl

module _ {s : List ℕ} {lo hi : ℕ} where
  module _ {d : List ℕ} {at n : ℕ} {d' : List ℕ} where
    pub nnf_as_not : {new : ℕ} → new ≡ origin_at s hi → tag_at s hi ≡ 30 → Maps (into_nnf_not new) s lo (hi - cell_words) d at n d' → Maps into_nnf s lo hi d at n d'
    nnf_as_not {new} q h f e u = by_unary (λ e. ExpressionHere s lo hi e → tag (root e) ≡ 30 → Wrote d at (expression_words (into_nnf e)) n d')
        (λ og o x v k. rw (nnf_not og o x k, sym (q ∙ root_origin (unary og o x) v)) (f x (here_operand og o x v))) e (omega (arith, root_tag e u)) u (sym (root_tag e u) ∙ h)

    pub nnf_as_operands : (tag_at s hi ≡ 30 → ⊥) → Maps into_nnf_operands s lo hi d at n d' → Maps into_nnf s lo hi d at n d'
    nnf_as_operands h f e u = rw (nnf_operands e (λ z. h (root_tag e u ∙ z))) (f e u)

    pub not_as_operands : (new : ℕ) → tag_at s hi ≡ 30 → Maps into_nnf_operands s lo (hi - cell_words) d at n d' → Maps (into_nnf_not new) s lo hi d at n d'
    not_as_operands new h f e u = by_unary (λ e. ExpressionHere s lo hi e → tag (root e) ≡ 30 → Wrote d at (expression_words (into_nnf_not new e)) n d')
        (λ og o x v k. rw (not_not new og o x k) (f x (here_operand og o x v))) e (omega (arith, root_tag e u)) u (sym (root_tag e u) ∙ h)

    pub not_as_or : (new : ℕ) → tag_at s hi ≡ 10 → Maps (negated 11 new) s lo hi d at n d' → Maps (into_nnf_not new) s lo hi d at n d'
    not_as_or new h f e u = by_binary (λ e. ExpressionHere s lo hi e → tag (root e) ≡ 10 → Wrote d at (expression_words (into_nnf_not new e)) n d')
        (λ og o l r v k. rw (not_and new og o l r k) (f (binary og o l r) v)) e (omega (arith, root_tag e u)) (omega (arith, root_tag e u)) u (sym (root_tag e u) ∙ h)

    pub not_as_and : (new : ℕ) → tag_at s hi ≡ 11 → Maps (negated 10 new) s lo hi d at n d' → Maps (into_nnf_not new) s lo hi d at n d'
    not_as_and new h f e u = by_binary (λ e. ExpressionHere s lo hi e → tag (root e) ≡ 11 → Wrote d at (expression_words (into_nnf_not new e)) n d')
        (λ og o l r v k. rw (not_or new og o l r k) (f (binary og o l r) v)) e (omega (arith, root_tag e u)) (omega (arith, root_tag e u)) u (sym (root_tag e u) ∙ h)

    pub operands_as : Maps (map_operands into_nnf) s lo hi d at n d' → Maps into_nnf_operands s lo hi d at n d'
    operands_as f e u = rw (as_operands e) (f e u)

  module _ {d : List ℕ} {at m n : ℕ} {d₁ d₂ : List ℕ} (e₁ : length d₁ ≡ length d) where
    pub not_else : (new : ℕ) → (tag_at s hi ≡ 30 → ⊥) → (tag_at s hi ≡ 10 → ⊥) → (tag_at s hi ≡ 11 → ⊥)
        → Maps into_nnf_operands s lo hi d at m d₁ → Seals d₁ at m (plain new 30) n d₂ → Maps (into_nnf_not new) s lo hi d at n d₂
    unfolding expression_words cell
    not_else new g h k f w e u =
        rw (not_operands new e (λ z. g (root_tag e u ∙ z)) (λ z. h (root_tag e u ∙ z)) (λ z. k (root_tag e u ∙ z))) (w d (expression_words (into_nnf_operands e)) e₁ (f e u))

  -- two operands, and a cell
  module _ {d : List ℕ} {at m j n mid : ℕ} {d₁ d₂ d₃ : List ℕ} (e₁ : length d₁ ≡ length d) (e₂ : length d₂ ≡ length d₁) (st : mid ≡ start_at s (hi - cell_words))
      (h₁ : 10 ≤ tag_at s hi) (h₂ : tag_at s hi < 30) where
    pub negated_both : (new t : ℕ) → (t ≡ 10) ⊎ (t ≡ 11) → Maps (into_nnf_not new) s lo mid d at m d₁ → Maps (into_nnf_not new) s mid (hi - cell_words) d₁ m j d₂ → Seals d₂ at j (plain new t) n d₃
        → Maps (negated t new) s lo hi d at n d₃
    unfolding expression_words cell
    negated_both new t z a b w e u = by_binary (λ e. ExpressionHere s lo hi e → Wrote d at (expression_words (negated t new e)) n d₃)
        (λ og o l r v. let c = w d (expression_words (into_nnf_not new l) ++ expression_words (into_nnf_not new r)) (e₂ ∙ e₁) (both_written e₁ st (into_nnf_not new) a b og o l r v) in
        ⊎_elim (λ (k : t ≡ 10). rw k (rw k at c)) (λ (k : t ≡ 11). rw k (rw k at c)) z)
        e (omega (arith, root_tag e u)) (omega (arith, root_tag e u)) u
