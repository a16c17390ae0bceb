-- Reading rows, as document 01 says it. A reading fails where it meets an expression that fails.
use Rattle.std.specs.Prelude.{ℕ, zero, suc, ◌+◌, Bool, true, false, ◌&&◌, ◌||◌, List, [], ◌∷◌, ◌++◌, map, length, get_or, take, drop, replicate}
use Rattle.std.proofs.Math.Option.{Option, none, some}
use Rattle.value.specs.Value.{Truth, False, Unknown, True, Datum, Value, truth, datum, null, Result, ok, err, mismatch}
use Rattle.value.specs.Comparison.{compare, is_equal}
use Rattle.value.specs.Undefined.{is_unknown, is_nan_datum}
use Rattle.sql.specs.Schema.{Schema, table_of}
use Rattle.sql.specs.Expression.{Marked, Expression, column, binary, Equal, Row, bind, evaluate}
use Rattle.sql.specs.Plan.{Label, Access, by_key, by_index, Leaf, scan, lookup, nothing, values, Other, limit, offset, order, projection, remap, aggregate, Over, filter, other, Join, nested_loop, hash, Node, leaf, over, join, columns, values_columns, remap_columns, remap_source, up_to}
use Rattle.sql.specs.Optimizer.{cons_if, keep}
use Rattle.rows.specs.Database.{unmarked, unmarked_aggregate, Database}

-- ---- lists of what may fail

abbrev pub each : {A B : Type 0} → (A → Result B) → List A → Result (List B)
each f [] = ok []
each f (x ∷ xs) = bind (f x) (λ y. bind (each f xs) (λ ys. ok (y ∷ ys)))

abbrev pub keep_each : {A : Type 0} → (A → Result Bool) → List A → Result (List A)
keep_each f [] = ok []
keep_each f (x ∷ xs) = bind (f x) (λ kept. bind (keep_each f xs) (λ ys. ok (cons_if kept x ys)))

-- ---- Filters, a Scan's too, and joins keep what is true, drop false and Null, and fail on other kinds.

abbrev pub is_true : Truth → Bool
is_true False = false
is_true Unknown = false
is_true True = true

abbrev pub kept : Value → Result Bool
kept (truth t) = ok (is_true t)
kept (datum d) = err mismatch

abbrev pub holds : Expression → Row → Result Bool
holds predicate row = bind (evaluate row predicate) kept

-- An absent predicate counts as true.
abbrev pub optional_holds : Option Expression → Row → Result Bool
optional_holds none row = ok true
optional_holds (some predicate) row = holds predicate row

-- of a joined row, whose first n values are the left source's; HashJoin reads as the equality
abbrev pub join_holds : Join → ℕ → Row → Result Bool
join_holds (nested_loop predicate) n row = optional_holds predicate row
join_holds (hash left_column right_column) n row = holds (binary 0 Equal (column 0 left_column) (column 0 (n + right_column))) row

-- Left row by left row, in the right source's order inside.
abbrev pub joined_rows : List Row → List Row → List Row
joined_rows [] right = []
joined_rows (l ∷ left) right = map (λ r. l ++ r) right ++ joined_rows left right

-- An outer join gives a left row without a match once, with n Nulls on the right. (Point 3 leaves outer joins out.)
abbrev pub or_nulls : ℕ → Row → List Row → List Row
or_nulls n l [] = (l ++ replicate n null) ∷ []
or_nulls n l (row ∷ rows) = row ∷ rows

abbrev pub outer_rows : (Row → Result Bool) → ℕ → List Row → List Row → Result (List Row)
outer_rows f n [] right = ok []
outer_rows f n (l ∷ left) right = bind (keep_each f (map (λ r. l ++ r) right)) (λ rows. bind (outer_rows f n left right) (λ more. ok (or_nulls n l rows ++ more)))

abbrev pub read_join : (outer : Bool) → (Row → Result Bool) → ℕ → List Row → List Row → Result (List Row)
read_join false f n left right = keep_each f (joined_rows left right)
read_join true f n left right = outer_rows f n left right

-- ---- A lookup takes a row if a listed constant is Null and so is the row's value, both are NaN, or the two are found equal, which is where Equal is true
-- (proofs/Lookups.antt). It never fails.

abbrev pub is_null_value : Value → Bool
is_null_value (truth t) = is_unknown t
is_null_value (datum d) = false

abbrev pub is_nan_value : Value → Bool
is_nan_value (truth t) = false
is_nan_value (datum d) = is_nan_datum d

abbrev pub takes : Value → Value → Bool
takes constant v = (is_null_value constant && is_null_value v) || ((is_nan_value constant && is_nan_value v) || is_equal (compare constant v))

abbrev pub any : {A : Type 0} → (A → Bool) → List A → Bool
any f [] = false
any f (x ∷ xs) = f x || any f xs

abbrev pub looked_up : ℕ → List (Marked Value) → Row → Bool
looked_up c constants row = any (λ constant. takes constant.0 (get_or row c null)) constants

abbrev pub lookup_column : Schema → ℕ → Access → ℕ
lookup_column schema table by_key = (table_of schema table).primary_key
lookup_column schema table (by_index c) = c

-- ---- the other nodes

abbrev pub evaluate_all : List Expression → Row → Result Row
evaluate_all es row = each (evaluate row) es

-- A row as wide as its node. The rows of a Values in scope are as long as the first, and nothing is done to them (crate same_rows, Values.antt).
abbrev pub fit : ℕ → Row → Row
fit zero row = []
fit (suc n) [] = null ∷ fit n []
fit (suc n) (v ∷ row) = v ∷ fit n row

abbrev pub values_row : ℕ → Marked (List Expression) → Result Row
values_row n es = bind (evaluate_all es.0 []) (λ row. ok (fit n row))

-- row number i, if there is one
abbrev pub pick : ℕ → List Row → List Row
pick i [] = []
pick zero (row ∷ rows) = row ∷ []
pick (suc i) (row ∷ rows) = pick i rows

abbrev pub pick_all : List ℕ → List Row → List Row
pick_all [] rows = []
pick_all (i ∷ numbers) rows = pick i rows ++ pick_all numbers rows

-- Remap follows invert_remap, with Null where no Target points.
abbrev pub optional_value : Row → Option ℕ → Value
optional_value row none = null
optional_value row (some i) = get_or row i null

abbrev pub remap_row : List (Marked (Option ℕ)) → Row → Row
remap_row targets row = map (λ to. optional_value row (remap_source 0 targets to)) (up_to 0 (remap_columns targets))

abbrev pub expressions : {A : Type 0} → List (Expression × A × ℕ) → List Expression
expressions items = map (λ item. item.0) items

abbrev pub directions : List (Expression × Bool × ℕ) → List Bool
directions key = map (λ k. k.1) key

module _ (database : Database) where
  -- in table order, each row once
  abbrev pub read_leaf : Leaf → Result (List Row)
  read_leaf (scan table alias predicate) = keep_each (optional_holds predicate) (database.table_rows table)
  read_leaf (lookup access table alias constants) =
      ok (keep (looked_up (lookup_column database.schema table access) constants) (database.table_rows table))
  read_leaf (nothing labels) = ok []
  read_leaf (values rows) = each (values_row (values_columns rows)) rows

  abbrev pub read_over : Over → List Row → Result (List Row)
  read_over (filter predicate) rows = keep_each (holds predicate) rows
  read_over (other (limit amount)) rows = ok (take amount rows)
  read_over (other (offset amount)) rows = ok (drop amount rows)
  read_over (other (order key)) rows =
      bind (each (evaluate_all (expressions key)) rows) (λ keys. ok (pick_all (database.arrangement (directions key) keys) rows))
  read_over (other (projection items)) rows = each (evaluate_all (expressions items)) rows
  read_over (other (remap targets)) rows = ok (map (remap_row targets) rows)
  read_over (other (aggregate group_by aggregates)) rows = ok (database.aggregated (map unmarked group_by) (map unmarked_aggregate aggregates) rows)

  -- All sources are read whole.
  abbrev pub read : Node → Result (List Row)
  read (leaf og l) = read_leaf l
  read (over og o source) = bind (read source) (read_over o)
  read (join og outer j left right) =
      bind (read left) (λ ls. bind (read right) (λ rs.
      read_join outer (join_holds j (columns database.schema left)) (columns database.schema right) ls rs))
