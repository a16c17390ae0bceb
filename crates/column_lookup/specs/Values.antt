-- The constants of a lookup, as the code writes them.
use Rattle.std.specs.Prelude.{ℕ, ◌%◌, Bool, true, false, cond, List, [], eqb, ltb}
use Rattle.value.specs.Value.{null, float, datum, the_nan}
use Rattle.sql.specs.Expression.{Expression, into_column_values}
use Rattle.cells.specs.declared.Cell.{Cell}
use Rattle.cells.specs.Cells.{sized}
use Rattle.cells.specs.Room.{Wrote}
use Rattle.words.specs.Words.{all_words, constant_words}
use Rattle.words.specs.Place.{ExpressionHere}
use Rattle.sheet.specs.Tags

-- The constants of the expression from lo up to hi are appended to the first `at` words of d, or have no room.
abbrev pub Gathers : List ℕ → ℕ → ℕ → List ℕ → ℕ → ℕ → List ℕ → Type 0
Gathers s lo hi d at n d' = (e : Expression) → ExpressionHere s lo hi e → Wrote d at (all_words constant_words (into_column_values e)) n d'

-- ---- what the code's helpers answer of cells

-- A 64-bit pattern's halves: without the sign the high one is below infinity's, or equals it, and then the low one is 0.
abbrev pub is_number : ℕ → ℕ → Bool
is_number low high =
    cond (ltb (high % 2147483648) 2146435072) true (cond (ltb 2146435072 (high % 2147483648)) false (eqb low 0))

-- a constant's cell, but Null's, with tag 1, and a NaN's, with tag 4
abbrev pub is_defined : Cell → Bool
is_defined k = cond (ltb k.tag 2) false (cond (ltb 5 k.tag) false (cond (eqb k.tag 4) (is_number k.a k.b) true))

abbrev pub value_words : Cell → List ℕ
value_words k = cond (is_defined k) (sized [] k) []

-- of Is Null and of Is NaN
abbrev pub is_words : (tag origin : ℕ) → List ℕ
is_words t new = cond (eqb t Tags.is_null) (constant_words (null, new)) (cond (eqb t Tags.is_nan) (constant_words (datum (float the_nan), new)) [])
