-- Document 01: any sheet handed out passes the same checks. For every list of bytes that is accepted, whatever one pass or all five hand out is accepted
-- too, as the plan that was written, with the cells and columns that were answered.
use Rattle.std.specs.Prelude.{ℕ, ◌%◌, ◌≤◌, ◌≡◌, List, length}
use Rattle.sql.specs.Plan.{Node, columns, node_size}
use Rattle.sql.specs.Answer.{done}
use Rattle.sql.specs.Room
use Rattle.sheet.specs.Parts.{table_count}
use Rattle.sheet.specs.Cell.{origins}
use Rattle.sheet.specs.Check.{text, schema, plan}
use Rattle.sheet_laws.specs.Plan.{Bytes}
use Rattle.sheet_laws.proofs.Plan.{plan_origins, origins_some}
use Rattle.sheet_laws.specs.Fits.{OriginsBelow}
use Rattle.sheet_laws.specs.Handed.{CanHold}
use Rattle.sheet_laws.proofs.Handed.{written_text, written_schema, written_plan, written_check}
use Rattle.room.specs.Same.{pass_same, optimize_same}
use Rattle.room.specs.Fits.{pass_fits, optimize_fits}
use Rattle.origins.specs.Origins.{map_node_origins}
use Rattle.origins.proofs.Proved.{passes_keep, five_keep}
use Rattle.sound.specs.Origins.{below_left, left_below}
use Rattle.sound.specs.Passes.{PassesChecks, pass_keeps, optimize_keeps}
use Rattle.sound.specs.HandedOut.{HandedOut, plan_checked, names_inside, plan_room}

module _ (s : List ℕ) (b : Bytes s) (n : Node) (h : plan s ≡ done n) where
  handed : (m : Node) → PassesChecks (schema s) (text s) (table_count s) m × (columns (schema s) m ≡ columns (schema s) n) → node_size m ≤ Room.max_cells → OriginsBelow (origins s) m → HandedOut s n m
  handed m x fits below =
      let c : CanHold s m = record { fits = x.0.fits; origins_are = below; in_scope = x.0.in_scope; targets = x.0.targets; room = fits } in
      record {
        checks = written_check s n h m c;
        stands_for = written_plan s n h m c;
        same_text = written_text s n h m c;
        same_schema = written_schema s n h m c;
        same_columns = x.1;
        has_room = fits;
      }

  -- A pass makes no origin of its own (crate origins). Put through this function, the origins that the sheet has stay as they are, and no others do.
  abbrev remainder : ℕ → ℕ
  remainder og = og % origins s

  same_origins : map_node_origins remainder n ≡ n
  same_origins = below_left (origins s) (origins_some s) n (plan_origins s b n h)

  kept : (m : Node) → map_node_origins remainder m ≡ m → OriginsBelow (origins s) m
  kept = left_below (origins s) (origins_some s)

  -- one pass
  pub pass_handed_out : (k : ℕ) (m : Node) → Room.pass Room.max_cells (schema s) k n ≡ done m → HandedOut s n m
  pass_handed_out k m e =
      handed m
      (pass_keeps (schema s) (text s) (table_count s) (names_inside s b n h) k n m (pass_same Room.max_cells (schema s) k n m e) (plan_checked s b n h))
      (pass_fits Room.max_cells (schema s) k n m e (plan_room s b n h))
      (kept m (passes_keep Room.max_cells (schema s) k remainder n m same_origins e))

  -- all five
  pub optimize_handed_out : (m : Node) → Room.optimize Room.max_cells (schema s) n ≡ done m → HandedOut s n m
  optimize_handed_out m e =
      handed m
      (optimize_keeps (schema s) (text s) (table_count s) (names_inside s b n h) n m (optimize_same Room.max_cells (schema s) n m e) (plan_checked s b n h))
      (optimize_fits Room.max_cells (schema s) n m e (plan_room s b n h))
      (kept m (five_keep Room.max_cells (schema s) remainder n m same_origins e))
