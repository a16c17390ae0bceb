-- A plan that a sheet can hold.
use Rattle.std.specs.Prelude.{ℕ, ◌≤◌, ◌≡◌}
use mathlib.Core.List.{List}
use Rattle.std.proofs.Math.Option.{none}
use Rattle.sql.specs.Plan.{Node, node_size}
use Rattle.sheet.specs.Parts.{table_count}
use Rattle.sheet.specs.Cell.{origins}
use Rattle.sheet.specs.Scope.{outside, target_repeated}
use Rattle.sheet.specs.Check.{text, schema}
use Rattle.sheet_laws.specs.Fits.{Fits, OriginsBelow}

-- From an accepted sheet, a plan in scope that the sheet can hold.
pub record CanHold (s : List ℕ) (m : Node) : Type 0 where
  pub fits : Fits (text s) (table_count s) m
  pub origins_are : OriginsBelow (origins s) m
  pub in_scope : outside (schema s) 0 m ≡ none
  pub targets : target_repeated 0 m ≡ none
  pub room : node_size m ≤ 2048
