-- Laws on the tags of an expression's cells, in the order of its words, and on a rewrite that leaves an expression without a tag as it is.
use Prim.Native.Nat.{ℕ}
use mathlib.Core.Bool.{Bool, false, ◌||◌}
use mathlib.Mathlib.Data.Bool.Basic.{or-eq-false-eq-eq-false-and-eq-false}
use mathlib.Core.Path.{◌≡◌, refl, sym, ap, ap₂, ◌∙◌}
use mathlib.Core.List.{List}
use lib.ListN.{get_or}
use lib.Dec.{eqb}
use borrow.Author.Tests.{eqb-false}
use Rattle.sql.specs.Expression.{Expression, constant, column, unary, binary}
use Rattle.sheet.specs.Content.{constant_cell, column_cell, unary_tag, binary_tag}
use Rattle.cells.specs.Room.{Copies}
use Rattle.words.specs.Words.{cell, root, expression_words, map_operands}
use Rattle.words.specs.Place.{Maps}
use Rattle.words.proofs.Expressions.{tag}
use Rattle.words.proofs.EachCell.{holds}
use Rattle.nnf.specs.Tags.{contains_tag, ContainsTag}

-- the test of a cell's words
abbrev pub has_tag : ℕ → List ℕ → Bool
has_tag t k = eqb (get_or k 1 0) t

pub some_has_tag : (t : ℕ) (e : Expression) → holds (has_tag t) e ≡ contains_tag t e
unfolding cell
some_has_tag t (constant og v) = refl
some_has_tag t (column og i) = refl
some_has_tag t (unary og o x) = ap (λ (b : Bool). b || eqb (unary_tag o) t) (some_has_tag t x)
some_has_tag t (binary og o l r) = ap₂ (λ (a b : Bool). a || (b || eqb (binary_tag o) t)) (some_has_tag t l) (some_has_tag t r)

-- A rewrite that goes on with the operands of each cell that hasn't the tag leaves an expression without the tag as it is, so that its words are copied.
module _ (f : Expression → Expression) (t : ℕ) (other : (e : Expression) → (tag (root e) ≡ t → ⊥) → f e ≡ map_operands f e) where
  unchanged : (e : Expression) → contains_tag t e ≡ false → f e ≡ e
  unchanged (constant og v) h = other (constant og v) (eqb-false (tag (constant_cell v)) t h)
  unchanged (column og i) h = other (column og i) (eqb-false (tag (column_cell i)) t h)
  unchanged (unary og o x) h =
      let (a, k) = (or-eq-false-eq-eq-false-and-eq-false (contains_tag t x) (eqb (unary_tag o) t)).0 h in
      other (unary og o x) (eqb-false (unary_tag o) t k) ∙ ap (unary og o) (unchanged x a)
  unchanged (binary og o l r) h =
      let (a, g) = (or-eq-false-eq-eq-false-and-eq-false (contains_tag t l) (contains_tag t r || eqb (binary_tag o) t)).0 h in
      let (b, k) = (or-eq-false-eq-eq-false-and-eq-false (contains_tag t r) (eqb (binary_tag o) t)).0 g in
      other (binary og o l r) (eqb-false (binary_tag o) t k) ∙ ap₂ (binary og o) (unchanged l a) (unchanged r b)

  pub copied : {s : List ℕ} {lo hi : ℕ} {d : List ℕ} {at n : ℕ} {d' : List ℕ} {r : Bool} → ContainsTag s lo hi t r → r ≡ false
      → Copies s lo hi d at n d' → Maps f s lo hi d at n d'
  copied h k w e u = rw (unchanged e (sym (h e u) ∙ k)) (w (expression_words e) u.part)
