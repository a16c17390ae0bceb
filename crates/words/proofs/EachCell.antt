-- A search through an expression's cells: the words of the expression are cut into its cells, and some cell passes a test exactly if the test holds of the
-- words of some cell.
use Prim.Native.Nat.{ℕ, suc, ◌+◌, ◌-◌, ◌/◌, ◌<◌}
use native.Mathlib.Omega.{arith}
use mathlib.Core.Bool.{Bool, true, false, ◌||◌, or_assoc, or-false}
use mathlib.Core.Path.{◌≡◌, refl, sym, ap, ◌∙◌}
use mathlib.Core.List.{List, [], ◌∷◌, ◌++◌, append_assoc, append-nil}
use lib.ListN.{length, take, drop, get_or}
use Rattle.std.specs.Simd.{first_chunks}
use Rattle.std.proofs.lemmas.List.Recursion.{or_is}
use Rattle.sql.specs.Expression.{Expression, constant, column, unary, binary, size}
use Rattle.sheet.specs.Content.{constant_cell, column_cell, unary_cell, binary_cell}
use Rattle.cells.specs.Cells.{cell_words, words}
use Rattle.cells.proofs.Laws.{part_is}
use Rattle.words.specs.Words.{cell, expression_words}
use Rattle.words.specs.Place.{ExpressionHere}
use Rattle.words.proofs.Sizes.{expression_long}

module _ (p : List ℕ → Bool) where
  -- some of these passes
  abbrev pub some_cell : List (List ℕ) → Bool
  some_cell [] = false
  some_cell (k ∷ ks) = p k || some_cell ks

  -- some cell of the expression does, operands first
  abbrev pub holds : Expression → Bool
  holds (constant og v) = p (words (cell og (constant_cell v)) cell_words)
  holds (column og i) = p (words (cell og (column_cell i)) cell_words)
  holds (unary og o x) = holds x || p (words (cell og (unary_cell o)) (length (expression_words x) + cell_words))
  holds (binary og o l r) = holds l || (holds r || p (words (cell og (binary_cell o)) (length (expression_words l ++ expression_words r) + cell_words)))

  -- an expression's cells, and n cells after them
  cells_before : (e : Expression) (n m : ℕ) (more : List ℕ) → m ≡ size e + n
      → some_cell (first_chunks cell_words m (expression_words e ++ more)) ≡ (holds e || some_cell (first_chunks cell_words n more))
  unfolding expression_words
  cells_before (constant og v) n m more q = let y : m ≡ suc n = omega arith in rw y refl
  cells_before (column og i) n m more q = let y : m ≡ suc n = omega arith in rw y refl
  cells_before (unary og o x) n m more q =
      let k = words (cell og (unary_cell o)) (length (expression_words x) + cell_words) in
      rw append_assoc
      (cells_before x (suc n) m (k ++ more) (omega arith)
      ∙ sym (or_assoc (holds x) (p k) (some_cell (first_chunks cell_words n more))))
  cells_before (binary og o l r) n m more q =
      let k = words (cell og (binary_cell o)) (length (expression_words l ++ expression_words r) + cell_words) in
      rw (append_assoc, append_assoc)
      (cells_before l (size r + suc n) m (expression_words r ++ (k ++ more)) (omega arith)
      ∙ ap (λ (b : Bool). holds l || b)
      (cells_before r (suc n) (size r + suc n) (k ++ more) refl
      ∙ sym (or_assoc (holds r) (p k) (some_cell (first_chunks cell_words n more))))
      ∙ sym (or_assoc (holds l) (holds r || p k) (some_cell (first_chunks cell_words n more))))

  -- what `any` answers of the cells that an expression's words are cut into
  pub any_cell : {s : List ℕ} {lo hi : ℕ} (ks : List (List ℕ)) (b : Bool) → ks ≡ first_chunks cell_words (length (take (hi - lo) (drop lo s)) / cell_words) (take (hi - lo) (drop lo s))
      → (b ≡ true → (i : ℕ) × (i < length ks) × (p (get_or ks i []) ≡ true)) → (b ≡ false → (i : ℕ) → i < length ks → p (get_or ks i []) ≡ false)
      → (e : Expression) → ExpressionHere s lo hi e → b ≡ holds e
  any_cell {s} {lo} {hi} ks b q f g e u =
      let w = expression_words e in
      or_is some_cell p refl (λ _ _. refl) ks [] b f g
      ∙ ap some_cell q
      ∙ rw (part_is u.part)
      (ap (λ (l : List ℕ). some_cell (first_chunks cell_words (length w / cell_words) l)) (sym (append-nil w))
      ∙ cells_before e 0 (length w / cell_words) [] (omega (arith, expression_long e))
      ∙ or-false (holds e))
