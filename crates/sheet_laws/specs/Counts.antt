-- How many columns a plan can have, by its number of cells.
use Rattle.std.specs.Prelude.{ℕ, ◌+◌, ◌*◌, ◌/◌}

-- The most columns of a plan with so many cells: 256 for each two of them, and for one that is left over. Joins of Scans of 256 columns have them: k Scans and the
-- k - 1 joins over them are 2 k - 1 cells with 256 k columns.
abbrev pub most_columns : (cells : ℕ) → ℕ
most_columns cells = 256 * ((cells + 1) / 2)
