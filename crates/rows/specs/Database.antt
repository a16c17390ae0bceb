-- What a plan is read in: document 01, "Reading rows".
use Rattle.std.specs.Prelude.{ℕ, ◌+◌, Bool, List, [], ◌∷◌, ◌≡◌, length}
use Rattle.sql.specs.Schema.{Schema, table_of}
use Rattle.sql.specs.Expression.{Expression, constant, column, unary, binary, Row}

-- All rows of a list have n values.
pub data Wide (n : ℕ) : List Row → Type 0 where
  no_rows : Wide n []
  and_row : {row : Row} {rows : List Row} → length row ≡ n → Wide n rows → Wide n (row ∷ rows)

-- Origins are not rows: where a rule is given expressions, their every origin is 0.
abbrev pub unmarked : Expression → Expression
unmarked (constant og v) = constant 0 v
unmarked (column og c) = column 0 c
unmarked (unary og o x) = unary 0 o (unmarked x)
unmarked (binary og o l r) = binary 0 o (unmarked l) (unmarked r)

abbrev pub unmarked_aggregate : ℕ × Expression × ℕ → ℕ × Expression
unmarked_aggregate agg = (agg.0, unmarked agg.1)

pub record Database : Type 0 where
  pub schema : Schema
  -- The rows of each table, as wide as the table, with values of any kind.
  pub table_rows : ℕ → List Row
  pub table_wide : (table : ℕ) → Wide (length (table_of schema table).columns) (table_rows table)
  -- Order's rule. It is given whether each key is descending, and the keys' values in each source row, and says which source rows stand in the result,
  -- by their numbers: it can look at nothing else. A rule that names each row once rearranges; what is proved holds for every rule.
  pub arrangement : List Bool → List Row → List ℕ
  -- Aggregate's function, of the node's own cells (their expressions unmarked) and its source rows; its rows are as wide as the node.
  pub aggregated : List Expression → List (ℕ × Expression) → List Row → List Row
  pub aggregated_wide : (group_by : List Expression) (aggregates : List (ℕ × Expression)) (rows : List Row)
      → Wide (length aggregates + length group_by) (aggregated group_by aggregates rows)
