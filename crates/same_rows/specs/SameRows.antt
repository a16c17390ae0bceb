-- Point 3: the passes change no row. Proved in proofs/Proved.antt as `same_rows`; crate theorems states it from bytes to rows, and has a sheet and tables that meet it.
--
-- Document 01                                                        here
-- tables as wide as declared, with figures of any kind               database: its tables
-- any Order rule and any Aggregate function, one choice for all six  database: its arrangement and aggregated
-- the plan handed in, and the plan after each of the five passes     plans 0, and plans 1 to plans 5
-- no step is refused (by 11 to 14)                                   not_refused, which also says what the six plans are
-- no join in the plan handed in is outer                             inner
-- none of the six plans meets a failing expression                   reads, which also names the rows that are read
-- every equality of two columns (Equal of two Columns, HashJoin)     one_kind
--   that comes out true in the six readings compares one kind
-- equal column counts                                                same_columns
-- equal row counts, and the same figure in each place, to the bit    same_rows: equal lists, where a Float is its 64-bit pattern
use Rattle.std.specs.Prelude.{ℕ, suc, ◌≤◌, ◌<◌, true, List, ◌≡◌}
use Rattle.value.specs.Value.{ok}
use Rattle.sql.specs.Schema.{Schema}
use Rattle.sql.specs.Expression.{Row}
use Rattle.sql.specs.Plan.{Node, columns}
use Rattle.sql.specs.Answer.{done}
use Rattle.sql.specs.Room.{max_cells, pass}
use Rattle.rows.specs.Database.{Database}
use Rattle.rows.specs.Reading.{read}
use Rattle.rows.specs.Equalities.{equalities, of_one_kind, all}
use Rattle.rows.specs.Premises.{no_outer}

-- Document 01's four premises, on six plans read in one database. Plan k + 1 is what pass k + 1 makes of plan k with room for 2,048 cells; rows k are plan k's.
pub record Premises (database : Database) (plans : ℕ → Node) (rows : ℕ → List Row) : Type 0 where
  pub not_refused : (k : ℕ) → k < 5 → pass max_cells database.schema (suc k) (plans k) ≡ done (plans (suc k))
  pub inner : no_outer (plans 0) ≡ true
  pub reads : (k : ℕ) → k ≤ 5 → read database (plans k) ≡ ok (rows k)
  pub one_kind : (k : ℕ) → k ≤ 5 → all of_one_kind (equalities database (plans k)) ≡ true

pub record Same (schema : Schema) (plan other : Node) (rows others : List Row) : Type 0 where
  pub same_columns : columns schema other ≡ columns schema plan
  pub same_rows : others ≡ rows

-- Each of the six plans has the columns and the rows of the plan handed in.
abbrev pub SameRows : Type 0
SameRows =
    (database : Database) (plans : ℕ → Node) (rows : ℕ → List Row) → Premises database plans rows
    → (k : ℕ) → k ≤ 5 → Same database.schema (plans 0) (plans k) (rows 0) (rows k)
