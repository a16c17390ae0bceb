-- Origins are not rows: point 3 holds for sheets of both editions, with its premises as they are. Proved in proofs/Origins.antt, as `origins_are_no_rows` and
-- `premises_without_origins`. That the passes commute with every map on origins: crate origins, Law.antt.
use Rattle.std.specs.Prelude.{ℕ, List, ◌≡◌}
use Rattle.sql.specs.Expression.{Row}
use Rattle.sql.specs.Plan.{Node, columns}
use Rattle.origins.specs.Origins.{map_node_origins}
use Rattle.rows.specs.Database.{Database}
use Rattle.rows.specs.Reading.{read}
use Rattle.rows.specs.Equalities.{equalities}
use Rattle.rows.specs.Premises.{no_outer}
use Rattle.same_rows.specs.SameRows.{Premises}

-- All that point 3 says of a plan, and asks of it, is the same for two plans: the rows, or that an expression fails, and how; the number of columns; whether a
-- join is outer; and the equalities of two columns that the reading meets.
pub record ReadsTheSame (database : Database) (plan other : Node) : Type 0 where
  pub same_reading : read database other ≡ read database plan
  pub same_columns : columns database.schema other ≡ columns database.schema plan
  pub same_outer : no_outer other ≡ no_outer plan
  pub same_equalities : equalities database other ≡ equalities database plan

-- In every database, a plan with its origins put through any function reads as the plan does.
abbrev pub OriginsAreNoRows : Type 0
OriginsAreNoRows = (database : Database) (h : ℕ → ℕ) (n : Node) → ReadsTheSame database n (map_node_origins h n)

-- So six plans that meet the premises of point 3 meet them with other origins too, and the rows are the same; with every origin 0, as edition 1 has them.
abbrev pub PremisesWithoutOrigins : Type 0
PremisesWithoutOrigins =
    (database : Database) (plans : ℕ → Node) (rows : ℕ → List Row) (h : ℕ → ℕ)
    → Premises database plans rows → Premises database (λ k. map_node_origins h (plans k)) rows
