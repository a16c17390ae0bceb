-- An expression's words are those of its cells, one after the other.
use Prim.Native.Nat.{ℕ, ◌+◌, ◌-◌, ◌≤◌, ◌<◌}
use native.Mathlib.Omega.{arith}
use mathlib.Core.Path.{◌≡◌, refl, ap, ◌∙◌}
use mathlib.Core.List.{List, [], ◌∷◌, ◌++◌, append_assoc, append-nil}
use lib.ListN.{length, length-append}
use Rattle.sql.specs.Expression.{Expression, constant, column, unary, binary}
use Rattle.sheet.specs.Content.{unary_cell, binary_cell}
use Rattle.cells.specs.declared.Cell.{Cell}
use Rattle.cells.specs.Cells.{cell_words, cell_at, Part}
use Rattle.cells.proofs.Laws.{part_right, part_word, part_in}
use Rattle.words.specs.Words.{cell, expression_words}
use Rattle.column_numbers.specs.Flat.{with_size, flat, cells_before}

before_words : (e : Expression) (ks : List (Cell × ℕ)) → flat (cells_before e ks) ≡ expression_words e ++ flat ks
unfolding expression_words
before_words (constant og v) ks = refl
before_words (column og i) ks = refl
before_words (unary og o x) ks =
    before_words x ((cell og (unary_cell o), length (expression_words x) + cell_words) ∷ ks) ∙ simp append_assoc
before_words (binary og o l r) ks =
    let k : Cell × ℕ = (cell og (binary_cell o), length (expression_words l ++ expression_words r) + cell_words) in
    before_words l (cells_before r (k ∷ ks)) ∙ ap (λ (w : List ℕ). expression_words l ++ w) (before_words r (k ∷ ks)) ∙ simp append_assoc

pub flat_words : (e : Expression) → flat (cells_before e []) ≡ expression_words e
flat_words e = before_words e [] ∙ append-nil (expression_words e)

-- ---- a scan: the cells from i up to hi

module _ {s : List ℕ} {i hi : ℕ} (P : List (Cell × ℕ) → Type 0) where
  pub next_cell : i < hi → ((k : Cell × ℕ) (ks : List (Cell × ℕ)) → cell_at s (i + cell_words) ≡ k.0 → Part s (i + cell_words) hi (flat ks) → P (k ∷ ks))
      → (ks : List (Cell × ℕ)) → Part s i hi (flat ks) → P ks
  next_cell h f [] p = absurd (omega (arith, p.high))
  next_cell h f (k ∷ ks) p = f k ks first (part_right (with_size k) (flat ks) p)
    where
      first : cell_at s (i + cell_words) ≡ k.0
      first =
          rw (part_word p (i + cell_words - cell_words) 0 (omega arith), part_word p (i + cell_words - 6) 1 (omega arith), part_word p (i + cell_words - 5) 2 (omega arith), part_word p (i + cell_words - 4) 3 (omega arith), part_word p (i + cell_words - 3) 4 (omega arith), part_word p (i + cell_words - 2) 5 (omega arith))

  pub no_cell : hi ≤ i → P [] → (ks : List (Cell × ℕ)) → Part s i hi (flat ks) → P ks
  no_cell h f [] p = f
  no_cell h f (k ∷ ks) p = absurd (omega (arith, p.high, length-append (with_size k) (flat ks)))

pub cell_room : {s : List ℕ} {i hi : ℕ} → i < hi → (ks : List (Cell × ℕ)) → Part s i hi (flat ks) → (i + cell_words ≤ hi) × (hi ≤ length s)
cell_room {s} {i} {hi} h ks p = next_cell (λ ks. (i + cell_words ≤ hi) × (hi ≤ length s)) h (λ k ks e q. part_in q) ks p
