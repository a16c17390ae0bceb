-- How many columns a plan can have. A plan has at most 256 for each two of its cells (Counts, most_columns), so the plan of a sheet, which has at most 2,048 cells,
-- has at most 262,144; and 1,024 Scans of 256 columns, joined, have as many.
use Prim.Native.Nat.{ℕ, zero, suc, ◌+◌, ◌*◌, ◌≤◌, ◌<◌}
use Rattle.std.proofs.Common.{arith, lt-ltb, ap, ap₂}
use Rattle.std.specs.Prelude.{◌≡◌, refl, Bool, List, length}
use Rattle.std.proofs.Math.Option.{Option, none, some}
use Rattle.sql.specs.Schema.{Schema, table_of}
use Rattle.sql.specs.Plan.{columns, node_size}
use Rattle.sheet.specs.Parts.{table_count}
use Rattle.sheet.specs.Cell.{origins}
use Rattle.sheet.specs.Cells.{expression_cells, leaf_cells, join_cells, cells}
use Rattle.sheet.specs.Scope.{first_of, unless, outside, target_repeated}
use Rattle.sheet.specs.Check.{text, schema}
use Rattle.sheet_laws.specs.Fits.{Fits, OriginsBelow}
use Rattle.sheet_laws.proofs.Complete.{all_append}
use Rattle.sheet_laws.specs.Counts.{most_columns}
use Rattle.sheet_laws.proofs.Counts.{columns_bound}
use Rattle.sheet_laws.specs.Accepted.{accepted}
use Rattle.sheet_laws.specs.Layout.{tables_good}
use Rattle.sheet_laws.proofs.Plan.{parts_of, plan_fits, plan_size, origins_some}
use Rattle.sheet_laws.specs.Handed.{CanHold}
use Rattle.sheet_laws.proofs.Handed.{written_plan}
use Rattle.sheet_laws.specs.Widest.{Few, PlansFew, joined_scans, widest, ScansReach, SheetsReach}

-- ======== The proofs.

pub few : (cells : ℕ) {columns : ℕ} → cells ≤ 2048 → columns ≤ most_columns cells → Few cells columns
few cells i h = (h, omega arith)

pub plans_few : PlansFew
plans_few s b n h =
    let a = accepted s n h in
    let p = parts_of a in
    few (node_size n) (omega (arith, plan_size s b n h))
    (columns_bound (schema s) (λ t. (tables_good s p a.records_are t).narrow) (text s) (length (text s)) (table_count s) n (plan_fits s b n h))

scans_cells : (table more : ℕ) → node_size (joined_scans table more) ≡ 2 * more + 1
unfolding joined_scans
scans_cells table zero = refl
scans_cells table (suc more) = omega (arith, scans_cells table more)

module _ (schema : Schema) (table : ℕ) (w : length (table_of schema table).columns ≡ 256) where
  scans_columns : (more : ℕ) → columns schema (joined_scans table more) ≡ 256 * (more + 1)
  unfolding joined_scans
  scans_columns zero = w
  scans_columns (suc more) = omega (arith, scans_columns more)

pub scans_reach : ScansReach
scans_reach schema table more w =
    let c = scans_cells table more in
    let d = scans_columns schema table w more in
    (c, (d, omega arith))

-- ---- such a plan can be held

module _ (s : List ℕ) (table : ℕ) (t : table < table_count s) where
  scans_fit : (more : ℕ) → Fits (text s) (table_count s) (joined_scans table more)
  unfolding joined_scans
  scans_fit zero = (tt, (t, tt))
  scans_fit (suc more) = (scans_fit more, ((tt, (t, tt)), (tt, tt)))

scans_inside : (schema : Schema) (table more at : ℕ) → outside schema at (joined_scans table more) ≡ none
unfolding joined_scans
scans_inside schema table zero at = refl
scans_inside schema table (suc more) at = ap (λ (o : Option ℕ). first_of o none) (scans_inside schema table more at)

scans_unrepeated : (table more at : ℕ) → target_repeated at (joined_scans table more) ≡ none
unfolding joined_scans
scans_unrepeated table zero at = refl
scans_unrepeated table (suc more) at = ap (λ (o : Option ℕ). first_of o none) (scans_unrepeated table more at)

scans_origins : (s : List ℕ) (table more : ℕ) → OriginsBelow (origins s) (joined_scans table more)
unfolding joined_scans cells leaf_cells join_cells
scans_origins s table zero = (origins_some s, tt)
scans_origins s table (suc more) =
    all_append (λ c. c.origin < origins s) (cells (joined_scans table more)) _ (scans_origins s table more) (origins_some s, (origins_some s, tt))

module _ (s : List ℕ) (table more c : ℕ) (w : length (table_of (schema s) table).columns ≡ 256) where
  widest_cells : node_size (widest table more c) ≡ 2 * more + 4
  widest_cells = omega (arith, scans_cells table more)

  widest_columns : columns (schema s) (widest table more c) ≡ 256 * (more + 2)
  widest_columns = omega (arith, scans_columns (schema s) table w more)

  widest_origins : OriginsBelow (origins s) (widest table more c)
  unfolding cells leaf_cells join_cells expression_cells
  widest_origins =
      let some = origins_some s in
      all_append (λ c. c.origin < origins s) (cells (joined_scans table more)) _ (scans_origins s table more) (some, (some, (some, tt)))

  widest_held : table < table_count s → c < 256 * (more + 2) → more ≤ 1022 → CanHold s (widest table more c)
  widest_held t i j =
      record {
        fits = (scans_fit s table t more, ((tt, (t, tt)), (tt, tt)));
        origins_are = widest_origins;
        in_scope = ap₂ first_of (scans_inside (schema s) table more 0)
            (ap (λ (b : Bool). unless b (0 + node_size (joined_scans table more) + 1)) (lt-ltb c (columns (schema s) (widest table more c)) (omega (arith, widest_columns))));
        targets = ap (λ (o : Option ℕ). first_of o none) (scans_unrepeated table more 0);
        room = omega (arith, widest_cells);
      }

pub sheets_reach : SheetsReach
sheets_reach s n h table t w =
    let cells = widest_cells s table 1022 262143 w in
    let wide = widest_columns s table 1022 262143 w in
    (written_plan s n h (widest table 1022 262143) (widest_held s table 1022 262143 w t (omega arith) (omega arith)), (omega arith, omega arith))
