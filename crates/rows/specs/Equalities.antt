-- The equalities of two columns that a reading meets: each Equal of two Columns and each HashJoin, at each row that it is evaluated at.
use Rattle.std.specs.Prelude.{ℕ, ◌+◌, Bool, true, false, not, ◌&&◌, ◌||◌, List, [], ◌∷◌, ◌++◌, eqb, get_or}
use Rattle.std.proofs.Math.Option.{Option, none, some}
use Rattle.value.specs.Value.{False, Unknown, True, integer, float, string, Value, truth, datum, null, Result, ok, err}
use Rattle.value.specs.Comparison.{equal}
use Rattle.sql.specs.Expression.{Binary, logical, Equal, function, Expression, constant, column, unary, binary, Row, is_column}
use Rattle.sql.specs.Plan.{Leaf, scan, lookup, nothing, values, limit, offset, order, projection, remap, aggregate, Over, filter, other, Join, nested_loop, hash, Node, leaf, over, join, columns}
use Rattle.sql.specs.Optimizer.{flat_map}
use Rattle.rows.specs.Database.{Database}
use Rattle.rows.specs.Reading.{is_true, joined_rows, expressions, read}

-- the two values that are compared
abbrev pub Compared : Type 0
Compared = Value × Value

abbrev pub of_columns : Row → Option ℕ → Option ℕ → List Compared
of_columns row none d = []
of_columns row (some c) none = []
of_columns row (some c) (some d) = (get_or row c null, get_or row d null) ∷ []

abbrev pub of_binary : Row → Binary → Expression → Expression → List Compared
of_binary row (logical o) l r = []
of_binary row Equal l r = of_columns row (is_column l) (is_column r)
of_binary row (function f) l r = []

-- And and Or evaluate both their sides, so an expression's every part is met.
abbrev pub of_expression : Row → Expression → List Compared
of_expression row (constant og v) = []
of_expression row (column og c) = []
of_expression row (unary og o x) = of_expression row x
of_expression row (binary og o l r) = of_expression row l ++ (of_expression row r ++ of_binary row o l r)

abbrev pub of_optional : Option Expression → Row → List Compared
of_optional none row = []
of_optional (some e) row = of_expression row e

abbrev pub of_join : Join → ℕ → Row → List Compared
of_join (nested_loop predicate) n row = of_optional predicate row
of_join (hash left_column right_column) n row = of_expression row (binary 0 Equal (column 0 left_column) (column 0 (n + right_column)))

abbrev pub of_list : List Expression → Row → List Compared
of_list es row = flat_map (of_expression row) es

-- over these source rows
abbrev pub of_over : Over → List Row → List Compared
of_over (filter predicate) rows = flat_map (λ row. of_expression row predicate) rows
of_over (other (limit amount)) rows = []
of_over (other (offset amount)) rows = []
of_over (other (order key)) rows = flat_map (of_list (expressions key)) rows
of_over (other (projection items)) rows = flat_map (of_list (expressions items)) rows
of_over (other (remap targets)) rows = []
of_over (other (aggregate group_by aggregates)) rows = []

-- in the rows of a source, which has been read
abbrev pub in_rows : Result (List Row) → (List Row → List Compared) → List Compared
in_rows (ok rows) f = f rows
in_rows (err e) f = []

module _ (database : Database) where
  abbrev pub of_leaf : Leaf → List Compared
  of_leaf (scan table alias predicate) = flat_map (of_optional predicate) (database.table_rows table)
  of_leaf (lookup access table alias constants) = []
  of_leaf (nothing labels) = []
  of_leaf (values rows) = flat_map (λ es. of_list es.0 []) rows

  abbrev pub equalities : Node → List Compared
  equalities (leaf og l) = of_leaf l
  equalities (over og o source) = equalities source ++ in_rows (read database source) (of_over o)
  equalities (join og outer j left right) = equalities left ++ (equalities right ++
      in_rows (read database left) (λ ls. in_rows (read database right) (λ rs.
      flat_map (of_join j (columns database.schema left)) (joined_rows ls rs))))

-- Null, Boolean, Integer, Float and String
abbrev pub kind_number : Value → ℕ
kind_number (truth Unknown) = 0
kind_number (truth False) = 1
kind_number (truth True) = 1
kind_number (datum (integer i)) = 2
kind_number (datum (float bits)) = 3
kind_number (datum (string reference text)) = 4

abbrev pub is_true_result : Result Value → Bool
is_true_result (ok (truth t)) = is_true t
is_true_result (ok (datum d)) = false
is_true_result (err e) = false

-- If the equality comes out true, it compares values of one kind.
abbrev pub of_one_kind : Compared → Bool
of_one_kind pair = not (is_true_result (equal pair.0 pair.1)) || eqb (kind_number pair.0) (kind_number pair.1)

abbrev pub all : {A : Type 0} → (A → Bool) → List A → Bool
all f [] = true
all f (x ∷ xs) = f x && all f xs
