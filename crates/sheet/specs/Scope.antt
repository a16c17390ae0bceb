-- Document 01, "In scope", and the Remap rule: refusals 9 and 10. A plan's cells are numbered in the order in which they stand, so what is met first in
-- that order is the lowest. `at` is everywhere the number of the first cell of what is looked at.
use Rattle.std.specs.Prelude.{ℕ, zero, suc, ◌+◌, Bool, true, false, ◌&&◌, ◌||◌, cond, List, [], ◌∷◌, ltb, eqb, length}
use Rattle.std.proofs.Math.Option.{Option, none, some}
use Rattle.sql.specs.Schema.{Schema, table_of}
use Rattle.sql.specs.Expression.{Expression, constant, column, unary, binary, size}
use Rattle.sql.specs.Plan.{by_key, by_index, Leaf, scan, lookup, nothing, values, Over, limit, offset, order, projection, remap, aggregate, filter, other, Join, nested_loop, hash, Node, leaf, over, join, columns, values_columns, sum, row_size, item_size, key_size, aggregate_size, node_size}

-- the first of two findings
abbrev pub first_of : Option ℕ → Option ℕ → Option ℕ
first_of none y = y
first_of (some x) y = some x

-- a finding at this place if the test fails
abbrev pub unless : Bool → ℕ → Option ℕ
unless true at = none
unless false at = some at

-- the first finding in a row of trees that follow each other
abbrev pub in_each : {A : Type 0} → (ℕ → A → Option ℕ) → (A → ℕ) → ℕ → List A → Option ℕ
in_each f cells at [] = none
in_each f cells at (x ∷ xs) = first_of (f at x) (in_each f cells (at + cells x) xs)

-- ---- refusal 9

-- the first Column that is not below n
abbrev pub column_outside : (n at : ℕ) → Expression → Option ℕ
column_outside n at (constant og v) = none
column_outside n at (column og i) = unless (ltb i n) at
column_outside n at (unary og o x) = column_outside n at x
column_outside n at (binary og o l r) = first_of (column_outside n at l) (column_outside n (at + size l) r)

abbrev pub optional_outside : (n at : ℕ) → Option Expression → Option ℕ
optional_outside n at none = none
optional_outside n at (some e) = column_outside n at e

abbrev pub expressions_outside : (n at : ℕ) → List Expression → Option ℕ
expressions_outside n at es = in_each (column_outside n) size at es

-- Rows of one Values are equally long.
abbrev pub equally_long : ℕ → List (List Expression × ℕ) → Bool
equally_long n [] = true
equally_long n (row ∷ rows) = eqb (length row.0) n && equally_long n rows

module _ (schema : Schema) where
  abbrev pub table_columns : ℕ → ℕ
  table_columns table = length (table_of schema table).columns

  -- A Scan's filter reads its table, a lookup's column is one of its table, and Values read no column.
  abbrev pub leaf_outside : ℕ → Leaf → Option ℕ
  leaf_outside at (scan table alias predicate) = optional_outside (table_columns table) at predicate
  leaf_outside at (lookup by_key table alias constants) = none
  leaf_outside at (lookup (by_index i) table alias constants) = unless (ltb i (table_columns table)) (at + length constants)
  leaf_outside at (nothing labels) = none
  leaf_outside at (values rows) =
      first_of (in_each (λ i (row : List Expression × ℕ). expressions_outside 0 i row.0) row_size at rows) (unless (equally_long (values_columns rows) rows) (at + sum row_size rows))

  -- of a node over a source with n columns, whose cells end where the node's own begin, at `at`
  abbrev pub over_outside : (n at : ℕ) → Over → Option ℕ
  over_outside n at (filter predicate) = column_outside n at predicate
  over_outside n at (other (limit amount)) = none
  over_outside n at (other (offset amount)) = none
  over_outside n at (other (order key)) = in_each (λ i k. column_outside n i k.0) key_size at key
  over_outside n at (other (projection items)) = in_each (λ i e. column_outside n i e.0) item_size at items
  over_outside n at (other (remap targets)) = unless (eqb (length targets) n) (at + length targets)
  over_outside n at (other (aggregate group_by aggregates)) =
      first_of (expressions_outside n at group_by) (in_each (λ i g. column_outside n i g.1) aggregate_size (at + sum size group_by) aggregates)

  -- A predicate reads both sources' columns together, a HashJoin's two columns each their own source's.
  abbrev pub join_outside : (left right at : ℕ) → Join → Option ℕ
  join_outside left right at (nested_loop predicate) = optional_outside (left + right) at predicate
  join_outside left right at (hash i j) = unless (ltb i left && ltb j right) at

  -- The lowest Column or node that is out of scope.
  abbrev pub outside : ℕ → Node → Option ℕ
  outside at (leaf og l) = leaf_outside at l
  outside at (over og o source) = first_of (outside at source) (over_outside (columns schema source) (at + node_size source) o)
  outside at (join og outer j left right) =
      first_of (outside at left)
      (first_of (outside (at + node_size left) right)
      (join_outside (columns schema left) (columns schema right) (at + node_size left + node_size right) j))

-- ---- refusal 10

abbrev pub member : ℕ → List ℕ → Bool
member t [] = false
member t (u ∷ us) = eqb t u || member t us

-- The first Target with flag 1 that equals one before it in the same Remap; `before` are those.
abbrev pub repeated : (before : List ℕ) → ℕ → List (Option ℕ × ℕ) → Option ℕ
repeated before at [] = none
repeated before at ((none, origin) ∷ targets) = repeated before (suc at) targets
repeated before at ((some t, origin) ∷ targets) = elim (member t before) [ true ↦ some at | false ↦ repeated (t ∷ before) (suc at) targets ]

abbrev pub over_repeated : ℕ → Over → Option ℕ
over_repeated at (filter predicate) = none
over_repeated at (other (limit amount)) = none
over_repeated at (other (offset amount)) = none
over_repeated at (other (order key)) = none
over_repeated at (other (projection items)) = none
over_repeated at (other (remap targets)) = repeated [] at targets
over_repeated at (other (aggregate group_by aggregates)) = none

abbrev pub target_repeated : ℕ → Node → Option ℕ
target_repeated at (leaf og l) = none
target_repeated at (over og o source) = first_of (target_repeated at source) (over_repeated (at + node_size source) o)
target_repeated at (join og outer j left right) = first_of (target_repeated at left) (target_repeated (at + node_size left) right)
