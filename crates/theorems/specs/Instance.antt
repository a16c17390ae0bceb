-- Point 3 is not empty: a sheet, and a table with rows, for which all that Same-rows-all-five asks holds, four of the passes change the plan, and a row comes out.
use Rattle.std.specs.Prelude.{ℕ, zero, suc, false, List, [], ◌∷◌, ◌≡◌, refl, pos, length, get_or, replicate}
use Rattle.std.proofs.Math.Option.{none, some}
use Rattle.value.specs.Value.{Value, datum, integer, ok}
use Rattle.sql.specs.Schema.{Schema, Integer, table_of}
use Rattle.sql.specs.Expression.{Expression, Row}
use Rattle.sql.specs.Plan.{by_key, scan, lookup, filter, nested_loop, hash, Node, leaf, over, join}
use Rattle.sql.specs.Answer.{done}
use Rattle.sql.specs.Samples.{scanned, number, equals, plus, A, B}
use Rattle.sheet.specs.Check.{schema, plan}
use Rattle.sheet.specs.Operations.{all_five}
use Rattle.sheet_laws.specs.Plan.{Bytes}
use Rattle.rows.specs.Database.{Wide, no_rows, and_row, Database}
use Rattle.rows.specs.Reading.{read}
use Rattle.same_rows.specs.SameRows.{Premises}
use Rattle.sound.specs.Operations.{sheet_of}

-- The text "tk", a table t with one column k of Integers, its key, and a plan of 12 cells: Filter(#0 = 2 + 3) over a join of two Scans of t on #0 = #1.
abbrev pub sheet : List ℕ
sheet =
    116 ∷ 107 ∷ 0 ∷ 0 ∷ 1 ∷ 0 ∷ 0 ∷ 0 ∷ 0 ∷ 0 ∷ 1 ∷ 0 ∷ 0 ∷ 0 ∷ 0 ∷ 0 ∷ 0 ∷ 0 ∷ 1 ∷ 0 ∷ 1 ∷ 0 ∷ 1 ∷ 0 ∷ 0 ∷ 0 ∷ 0 ∷ 0 ∷ 0 ∷ 0 ∷ 0 ∷ 0 ∷ 0 ∷ 0 ∷
    62 ∷ 0 ∷ 0 ∷ 0 ∷ 0 ∷ 0 ∷ 0 ∷ 0 ∷ 0 ∷ 0 ∷ 0 ∷ 0 ∷ 0 ∷ 0 ∷ 0 ∷ 0 ∷ 62 ∷ 0 ∷ 0 ∷ 0 ∷ 0 ∷ 0 ∷ 0 ∷ 0 ∷ 0 ∷ 0 ∷ 0 ∷ 0 ∷ 0 ∷ 0 ∷ 0 ∷ 0 ∷
    6 ∷ 0 ∷ 0 ∷ 0 ∷ 0 ∷ 0 ∷ 0 ∷ 0 ∷ 0 ∷ 0 ∷ 0 ∷ 0 ∷ 0 ∷ 0 ∷ 0 ∷ 0 ∷ 6 ∷ 0 ∷ 0 ∷ 0 ∷ 1 ∷ 0 ∷ 0 ∷ 0 ∷ 0 ∷ 0 ∷ 0 ∷ 0 ∷ 0 ∷ 0 ∷ 0 ∷ 0 ∷
    12 ∷ 0 ∷ 0 ∷ 0 ∷ 0 ∷ 0 ∷ 0 ∷ 0 ∷ 0 ∷ 0 ∷ 0 ∷ 0 ∷ 0 ∷ 0 ∷ 0 ∷ 0 ∷ 56 ∷ 1 ∷ 0 ∷ 0 ∷ 0 ∷ 0 ∷ 0 ∷ 0 ∷ 0 ∷ 0 ∷ 0 ∷ 0 ∷ 0 ∷ 0 ∷ 0 ∷ 0 ∷
    6 ∷ 0 ∷ 0 ∷ 0 ∷ 0 ∷ 0 ∷ 0 ∷ 0 ∷ 0 ∷ 0 ∷ 0 ∷ 0 ∷ 0 ∷ 0 ∷ 0 ∷ 0 ∷ 3 ∷ 0 ∷ 0 ∷ 0 ∷ 2 ∷ 0 ∷ 0 ∷ 0 ∷ 0 ∷ 0 ∷ 0 ∷ 0 ∷ 0 ∷ 0 ∷ 0 ∷ 0 ∷
    3 ∷ 0 ∷ 0 ∷ 0 ∷ 3 ∷ 0 ∷ 0 ∷ 0 ∷ 0 ∷ 0 ∷ 0 ∷ 0 ∷ 0 ∷ 0 ∷ 0 ∷ 0 ∷ 15 ∷ 0 ∷ 0 ∷ 0 ∷ 0 ∷ 0 ∷ 0 ∷ 0 ∷ 0 ∷ 0 ∷ 0 ∷ 0 ∷ 0 ∷ 0 ∷ 0 ∷ 0 ∷
    12 ∷ 0 ∷ 0 ∷ 0 ∷ 0 ∷ 0 ∷ 0 ∷ 0 ∷ 0 ∷ 0 ∷ 0 ∷ 0 ∷ 0 ∷ 0 ∷ 0 ∷ 0 ∷ 51 ∷ 0 ∷ 0 ∷ 0 ∷ 0 ∷ 0 ∷ 0 ∷ 0 ∷ 0 ∷ 0 ∷ 0 ∷ 0 ∷ 0 ∷ 0 ∷ 0 ∷ 0 ∷
    2 ∷ 0 ∷ 0 ∷ 0 ∷ 18 ∷ 0 ∷ 0 ∷ 0 ∷ 34 ∷ 0 ∷ 0 ∷ 0 ∷ 1 ∷ 0 ∷ 0 ∷ 0 ∷ 246 ∷ 0 ∷ 0 ∷ 0 ∷ []

-- room for what all five passes hand out, a plan of 5 cells
abbrev pub output : List ℕ
output = replicate 134 0

-- What the sheet's records say. t has the rows 5 and 6; no plan here has an Order or an Aggregate.
abbrev pub tables : Schema
tables = record { name = 65536; primary_key = 0; columns = record { name = 65537; kind = Integer; index = false } ∷ [] } ∷ []

abbrev int : ℕ → Value
int n = datum (integer (pos n))

abbrev t_rows : ℕ → List Row
t_rows zero = (int 5 ∷ []) ∷ (int 6 ∷ []) ∷ []
t_rows (suc table) = []

abbrev t_wide : (table : ℕ) → Wide (length (table_of tables table).columns) (t_rows table)
t_wide zero = and_row refl (and_row refl no_rows)
t_wide (suc table) = no_rows

abbrev pub database : Database
database = record {
  schema = tables;
  table_rows = t_rows;
  table_wide = t_wide;
  arrangement = λ directions keys. [];
  aggregated = λ group_by aggregates rows. [];
  aggregated_wide = λ group_by aggregates rows. no_rows;
}

-- ---- the six plans

abbrev joined : Expression → Node → Node → Node
joined predicate left right = join 0 false (nested_loop (some predicate)) left right

abbrev five : Expression
five = equals A (number 5)

abbrev looked_up_5 : Node
looked_up_5 = leaf 0 (lookup by_key 0 none ((int 5, 0) ∷ []))

abbrev hashed : Node
hashed = join 0 false (hash 0 0) looked_up_5 looked_up_5

-- Pass 1 adds 2 and 3, 2 moves the Filter into both Scans, 3 looks 5 up, and 4 makes a HashJoin, which 5 leaves as it is.
abbrev pub plans : ℕ → Node
plans k =
    get_or
    (over 0 (filter (equals A (plus (number 2) (number 3)))) (joined (equals A B) scanned scanned)
    ∷ over 0 (filter five) (joined (equals A B) scanned scanned)
    ∷ joined (equals A B) (leaf 0 (scan 0 none (some five))) (leaf 0 (scan 0 none (some five)))
    ∷ joined (equals A B) looked_up_5 looked_up_5
    ∷ hashed
    ∷ []) k hashed

abbrev pub rows : ℕ → List Row
rows k = (int 5 ∷ int 5 ∷ []) ∷ []

-- ---- what is shown of it, in proofs/Instance.antt, as `instance`

-- What Same-rows-all-five asks for; and then, by it, what comes out: another plan than the one handed in, with one row.
pub record Instance : Type 0 where
  pub bytes : Bytes sheet
  pub long_enough : (all_five sheet output).numbers.number ≡ 15 → ⊥
  pub accepted : plan sheet ≡ done (plans 0)
  pub same_schema : database.schema ≡ schema sheet
  pub premises : Premises database plans rows
  pub handed_out : plan (sheet_of (all_five sheet output)) ≡ done (plans 5)
  pub changed : plans 5 ≡ plans 0 → ⊥
  pub one_row : read database (plans 5) ≡ ok ((int 5 ∷ int 5 ∷ []) ∷ [])
