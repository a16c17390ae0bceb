-- How many columns a plan can have. A plan has at most 256 for each two of its cells (Counts, most_columns), so the plan of a sheet, which has at most 2,048 cells,
-- has at most 262,144; and 1,024 Scans of 256 columns, joined, have as many.
use Prim.Native.Nat.{ℕ, zero, suc, ◌+◌, ◌*◌, ◌≤◌, ◌<◌}
use Rattle.std.specs.Prelude.{◌≡◌, false, List, length}
use Rattle.std.proofs.Math.Option.{none, some}
use Rattle.sql.specs.Schema.{Schema, table_of}
use Rattle.sql.specs.Expression.{column}
use Rattle.sql.specs.Plan.{scan, nested_loop, Node, leaf, join, columns, node_size}
use Rattle.sql.specs.Answer.{done}
use Rattle.sheet.specs.Parts.{table_count}
use Rattle.sheet.specs.Cells.{cells}
use Rattle.sheet.specs.Check.{schema, plan}
use Rattle.sheet.specs.Write.{write}
use Rattle.sheet_laws.specs.Counts.{most_columns}
use Rattle.sheet_laws.specs.Plan.{Bytes}

-- ======== The statements. Each is proved in proofs/Widest.antt, under its name in small letters.

-- so many columns are at most 256 for each two of so many cells, and at most 262,144
abbrev pub Few : (cells columns : ℕ) → Type 0
Few cells columns = (columns ≤ most_columns cells) × (columns ≤ 262144)

-- The plan of every accepted sheet.
abbrev pub PlansFew : Type 0
PlansFew = (s : List ℕ) → Bytes s → (n : Node) → plan s ≡ done n → Few (node_size n) (columns (schema s) n)

-- A Scan of a table, and so many more of it, each joined to those before it.
unfoldable pub joined_scans : (table more : ℕ) → Node
joined_scans table zero = leaf 0 (scan table none none)
joined_scans table (suc more) = join 0 false (nested_loop none) (joined_scans table more) (leaf 0 (scan table none none))

-- The same with one Scan more, joined by a predicate that is the bare column c.
abbrev pub widest : (table more c : ℕ) → Node
widest table more c = join 0 false (nested_loop (some (column 0 c))) (joined_scans table more) (leaf 0 (scan table none none))

-- Scans of 256 columns have as many as their cells allow, whatever their number.
abbrev pub ScansReach : Type 0
ScansReach =
    (schema : Schema) (table more : ℕ) → length (table_of schema table).columns ≡ 256
    → (node_size (joined_scans table more) ≡ 2 * more + 1) × ((columns schema (joined_scans table more) ≡ 256 * (more + 1))
    × (columns schema (joined_scans table more) ≡ most_columns (node_size (joined_scans table more))))

-- 1,024 Scans of a table with 256 columns, of any accepted sheet that has one, the last joined by the column 262143: 2,048 cells and 262,144 columns, in a sheet
-- that is accepted too.
abbrev pub SheetsReach : Type 0
SheetsReach =
    (s : List ℕ) (n : Node) → plan s ≡ done n → (table : ℕ) → table < table_count s → length (table_of (schema s) table).columns ≡ 256
    → (plan (write s (widest table 1022 262143)) ≡ done (widest table 1022 262143))
    × ((node_size (widest table 1022 262143) ≡ 2048) × (columns (schema s) (widest table 1022 262143) ≡ 262144))
