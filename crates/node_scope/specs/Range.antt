-- What the functions on a node ask of its cells, and the bound that they give.
use Rattle.std.specs.Prelude.{ℕ, ◌+◌, ◌≤◌, ◌<◌, ◌≡◌, List}
use Rattle.sheet.specs.Parts.{cell_count}
use Rattle.layout.specs.Layout.{Whole}

-- Cells of a sheet from one number up to another.
pub record Range (s : List ℕ) (from to : ℕ) : Type 0 where
  pub whole : Whole s
  pub order : from ≤ to
  pub within : to ≤ cell_count s

-- The sheet has a cell with this number.
pub record CellAt (s : List ℕ) (at : ℕ) : Type 0 where
  pub whole : Whole s
  pub within : at < cell_count s

-- r is the number n, which is not much more than a bound.
pub record Wide (bound n r : ℕ) : Type 0 where
  pub is : r ≡ n
  pub small : r ≤ bound + 8589934592
