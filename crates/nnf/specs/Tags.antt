-- Whether a cell of an expression has a tag: the Rust's `contains` of a test of one cell.
use Rattle.std.specs.Prelude.{ℕ, Bool, ◌||◌, ◌≡◌, List, eqb}
use Rattle.sql.specs.Expression.{Expression, constant, column, unary, binary}
use Rattle.sheet.specs.Content.{cell_of, constant_cell, column_cell, unary_tag, binary_tag}
use Rattle.words.specs.Place.{ExpressionHere}

-- in the order of the words, operands first
abbrev pub contains_tag : ℕ → Expression → Bool
contains_tag t (constant og v) = eqb (cell_of (constant_cell v)).tag t
contains_tag t (column og i) = eqb (cell_of (column_cell i)).tag t
contains_tag t (unary og o x) = contains_tag t x || eqb (unary_tag o) t
contains_tag t (binary og o l r) = contains_tag t l || (contains_tag t r || eqb (binary_tag o) t)

-- r says whether the expression from lo up to hi holds a cell with the tag t.
abbrev pub ContainsTag : List ℕ → ℕ → ℕ → ℕ → Bool → Type 0
ContainsTag s lo hi t r = (e : Expression) → ExpressionHere s lo hi e → r ≡ contains_tag t e
