-- The total value T of an expression: a value that never fails, and that every step of passes 2 to 5 keeps exactly.
--
-- Induction over the steps of a pass can't go by the strict reading: a plan between two steps may fail, or find an Integer and a Float equal, although
-- none of the six plans does. T is kept by each step, and is the strict value wherever that doesn't fail and finds no such equality (Agree.antt).
use Rattle.std.specs.Prelude.{ℕ, Bool, true, false, not, ◌&&◌, get_or}
use Rattle.std.proofs.Math.Option.{Option, none, some}
use Rattle.value.specs.Value.{Truth, False, Unknown, True, Datum, integer, float, string, Value, truth, datum, null, Result, ok, err, mismatch}
use Rattle.value.specs.Logic as Logic
use Rattle.value.specs.Comparison.{Comparison, Null, Found, Less, Equal, Greater, Unordered, NotComparable, compare}
use Rattle.sql.specs.Expression.{Logical, And, Or, Function1, Function2, Unary, Not, Binary, Expression, constant, column, unary, binary, Row, bind, evaluate_unary, evaluate_binary}
use Rattle.sql.specs.Expression
use Rattle.rows.specs.Reading.{is_true}

-- the values of columns
abbrev pub Columns : Type 0
Columns = ℕ → Value

abbrev pub at : Row → Columns
at row c = get_or row c null

-- A Boolean or Null; or another value, and whether a formal Not stands around it. So Not(Not(x)) is x always.
pub data Total : Type 0 where
  known : Truth → Total
  figure : (negated : Bool) → Datum → Total

-- an even or an odd number of Nots around a column, or something else: into_nnf may uncover the column
pub data Shape : Type 0 where
  even_nots odd_nots no_column : Shape

pub data Valued : Type 0 where
  valued : Shape → Total → Valued

abbrev pub total_of : Valued → Total
total_of (valued s t) = t

abbrev pub from_value : Value → Total
from_value (truth t) = known t
from_value (datum d) = figure false d

-- Failures give Null.
abbrev pub or_null : Result Value → Total
or_null (ok v) = from_value v
or_null (err e) = known Unknown

abbrev pub plain : Total → Result Value
plain (known t) = ok (truth t)
plain (figure false d) = ok (datum d)
plain (figure true d) = err mismatch

abbrev pub turn : Shape → Shape
turn even_nots = odd_nots
turn odd_nots = even_nots
turn no_column = no_column

abbrev pub not_total : Total → Total
not_total (known t) = known (Logic.not t)
not_total (figure negated d) = figure (not negated) d

-- And and Or take whatever isn't a Boolean as Null.
abbrev pub as_truth : Valued → Truth
as_truth (valued s (known t)) = t
as_truth (valued s (figure negated d)) = Unknown

abbrev pub table : Logical → Truth → Truth → Truth
table And = Logic.and
table Or = Logic.or

abbrev pub mixed : Datum → Datum → Bool
mixed (integer a) (integer b) = false
mixed (integer a) (float b) = true
mixed (integer a) (string r t) = true
mixed (float a) (integer b) = true
mixed (float a) (float b) = false
mixed (float a) (string r t) = true
mixed (string r t) (integer b) = true
mixed (string r t) (float b) = true
mixed (string r t) (string q u) = false

-- What Equal says of a comparison; kinds that don't fit give Null. `columns_of_two_kinds`: this is an equality of two columns, of values of two kinds; then it
-- isn't true.
abbrev pub truth_of : (columns_of_two_kinds : Bool) → Comparison → Truth
truth_of k Null = Unknown
truth_of k (Found Less) = False
truth_of false (Found Equal) = True
truth_of true (Found Equal) = False
truth_of k (Found Greater) = False
truth_of k (Found Unordered) = False
truth_of k (Found NotComparable) = Unknown

abbrev pub equal_totals : (columns : Bool) → Total → Total → Truth
equal_totals k (known a) (known b) = truth_of false (compare (truth a) (truth b))
equal_totals k (known a) (figure n g) = Unknown
equal_totals k (figure n f) (known b) = Unknown
equal_totals k (figure true f) (figure n g) = Unknown
equal_totals k (figure false f) (figure true g) = Unknown
equal_totals k (figure false f) (figure false g) = truth_of (k && mixed f g) (compare (datum f) (datum g))

abbrev pub is_even : Shape → Bool
is_even even_nots = true
is_even odd_nots = false
is_even no_column = false

abbrev pub equal_valued : Valued → Valued → Truth
equal_valued (valued s t) (valued r u) = equal_totals (is_even s && is_even r) t u

abbrev pub total_unary : Unary → Valued → Valued
total_unary Not (valued s t) = valued (turn s) (not_total t)
total_unary (Expression.function f) (valued s t) = valued no_column (or_null (bind (plain t) (evaluate_unary (Expression.function f))))

abbrev pub total_binary : Binary → Valued → Valued → Valued
total_binary (Expression.logical o) x y = valued no_column (known (table o (as_truth x) (as_truth y)))
total_binary Expression.Equal x y = valued no_column (known (equal_valued x y))
total_binary (Expression.function f) x y =
    valued no_column (or_null (bind (plain (total_of x)) (λ v. bind (plain (total_of y)) (evaluate_binary (Expression.function f) v))))

abbrev pub total : Columns → Expression → Valued
total columns (constant og v) = valued no_column (from_value v)
total columns (column og c) = valued even_nots (from_value (columns c))
total columns (unary og o x) = total_unary o (total columns x)
total columns (binary og o l r) = total_binary o (total columns l) (total columns r)

-- whether T is true
abbrev pub true_at : Columns → Expression → Bool
true_at columns e = is_true (as_truth (total columns e))

abbrev pub optional_true : (Expression → Bool) → Option Expression → Bool
optional_true test none = true
optional_true test (some e) = test e

-- An absent predicate counts as true.
abbrev pub optional_true_at : Columns → Option Expression → Bool
optional_true_at columns e = optional_true (true_at columns) e

-- T as a value
abbrev pub to_value : Total → Value
to_value (known t) = truth t
to_value (figure true d) = null
to_value (figure false d) = datum d

abbrev pub value_at : Columns → Expression → Value
value_at columns e = to_value (total_of (total columns e))
