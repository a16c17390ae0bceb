-- An expression as the code scans it: its cells one after the other, each with its size.
use Rattle.std.specs.Prelude.{ℕ, ◌+◌, List, ◌∷◌, ◌++◌, length}
use Rattle.sql.specs.Expression.{Expression, constant, column, unary, binary}
use Rattle.sheet.specs.Content.{constant_cell, column_cell, unary_cell, binary_cell}
use Rattle.cells.specs.declared.Cell.{Cell}
use Rattle.cells.specs.Cells.{cell_words, words}
use Rattle.words.specs.Words.{cell, all_words, expression_words}

abbrev pub with_size : Cell × ℕ → List ℕ
with_size k = words k.0 k.1

-- the words of cells
abbrev pub flat : List (Cell × ℕ) → List ℕ
flat ks = all_words with_size ks

-- an expression's cells, and others behind them
abbrev pub cells_before : Expression → List (Cell × ℕ) → List (Cell × ℕ)
cells_before (constant og v) ks = (cell og (constant_cell v), cell_words) ∷ ks
cells_before (column og i) ks = (cell og (column_cell i), cell_words) ∷ ks
cells_before (unary og o x) ks = cells_before x ((cell og (unary_cell o), length (expression_words x) + cell_words) ∷ ks)
cells_before (binary og o l r) ks =
    cells_before l (cells_before r ((cell og (binary_cell o), length (expression_words l ++ expression_words r) + cell_words) ∷ ks))
