-- expression.rs: expressions, their values, and the rewrites that the optimizers use.
use Rattle.std.specs.Prelude.{ℕ, suc, ◌+◌, ◌-◌, Bool, true, false, ◌||◌, cond, List, [], ◌∷◌, ◌++◌, eqb, get_or}
use Rattle.std.proofs.Math.Option.{Option, none, some}
use Rattle.value.specs.Value.{Value, datum, float, the_nan, null, Result, ok, err}
use Rattle.value.specs.Logic.{logical_and, logical_or, logical_not}
use Rattle.value.specs.Comparison.{equal, greater_than, less_than}
use Rattle.value.specs.Arithmetic.{checked_add, checked_sub, checked_mul, checked_div, identity, negate, square_root}
use Rattle.value.specs.Undefined.{is_null, is_nan, is_undefined}

-- ---- The Rust's Expression. Operators are grouped by how they treat Null and by their operands, so that a definition takes few clauses.

pub data Logical : Type 0 where
  And Or : Logical

-- operators on one value that hand Null through or test it
pub data Function1 : Type 0 where
  IsNull IsNaN Identity Negate SquareRoot : Function1

-- operators on two values, apart from Equal, that hand Null through
pub data Function2 : Type 0 where
  GreaterThan LessThan Add Divide Subtract Multiply : Function2

pub data Unary : Type 0 where
  Not : Unary
  function : Function1 → Unary

pub data Binary : Type 0 where
  logical : Logical → Binary
  Equal : Binary
  function : Function2 → Binary

-- what a cell says, and its origin
abbrev pub Marked : Type 0 → Type 0
Marked A = A × ℕ

-- A column is its number in the row. Each cell has an origin, which stands first.
pub data Expression : Type 0 where
  constant : ℕ → Value → Expression
  column : ℕ → ℕ → Expression
  unary : ℕ → Unary → Expression → Expression
  binary : ℕ → Binary → Expression → Expression → Expression

abbrev pub and : ℕ → Expression → Expression → Expression
and og = binary og (logical And)

abbrev pub or : ℕ → Expression → Expression → Expression
or og = binary og (logical Or)

abbrev pub not : ℕ → Expression → Expression
not og = unary og Not

-- of the top cell
abbrev pub origin : Expression → ℕ
origin (constant og v) = og
origin (column og c) = og
origin (unary og o x) = og
origin (binary og o l r) = og

-- The number of cells that a sheet writes an expression with: one for each operator, constant and column.
abbrev pub size : Expression → ℕ
size (constant og v) = 1
size (column og c) = 1
size (unary og o x) = suc (size x)
size (binary og o l r) = suc (size l + size r)

-- ---- evaluate

-- The values of a row's columns, in order.
abbrev pub Row : Type 0
Row = List Value

-- the Rust's `?`: goes on with a value, hands an error on
abbrev pub bind : {A B : Type 0} → Result A → (A → Result B) → Result B
bind (ok a) f = f a
bind (err e) f = err e

abbrev pub evaluate_unary : Unary → Value → Result Value
evaluate_unary Not v = logical_not v
evaluate_unary (function IsNull) v = is_null v
evaluate_unary (function IsNaN) v = is_nan v
evaluate_unary (function Identity) v = identity v
evaluate_unary (function Negate) v = negate v
evaluate_unary (function SquareRoot) v = square_root v

abbrev pub evaluate_binary : Binary → Value → Value → Result Value
evaluate_binary (logical And) v w = logical_and v w
evaluate_binary (logical Or) v w = logical_or v w
evaluate_binary Equal v w = equal v w
evaluate_binary (function GreaterThan) v w = greater_than v w
evaluate_binary (function LessThan) v w = less_than v w
evaluate_binary (function Add) v w = checked_add v w
evaluate_binary (function Divide) v w = checked_div v w
evaluate_binary (function Subtract) v w = checked_sub v w
evaluate_binary (function Multiply) v w = checked_mul v w

-- Both operands are evaluated, the left one first. A plan in scope has no column outside its row; such a one would be Null.
abbrev pub evaluate : Row → Expression → Result Value
evaluate row (constant og v) = ok v
evaluate row (column og c) = ok (get_or row c null)
evaluate row (unary og o x) = bind (evaluate row x) (evaluate_unary o)
evaluate row (binary og o l r) = bind (evaluate row l) (λ v. bind (evaluate row r) (evaluate_binary o v))

-- ---- contains, and the rewrites of columns

-- The Rust's `contains` of a test of columns: whether one of the expression's columns passes it.
abbrev pub contains_column : (ℕ → Bool) → Expression → Bool
contains_column test (constant og v) = false
contains_column test (column og c) = test c
contains_column test (unary og o x) = contains_column test x
contains_column test (binary og o l r) = contains_column test l || contains_column test r

-- The Rust's `transform` with a rewrite of columns.
abbrev pub map_columns : (ℕ → ℕ) → Expression → Expression
map_columns f (constant og v) = constant og v
map_columns f (column og c) = column og (f c)
map_columns f (unary og o x) = unary og o (map_columns f x)
map_columns f (binary og o l r) = binary og o (map_columns f l) (map_columns f r)

abbrev pub replace_column : ℕ → ℕ → Expression → Expression
replace_column from to e = map_columns (λ c. cond (eqb c from) to c) e

-- shift_column, by a negative and by a positive amount: from the joined row to the right source's row, and back.
abbrev pub shift_column_down : ℕ → Expression → Expression
shift_column_down n e = map_columns (λ c. c - n) e

abbrev pub shift_column_up : ℕ → Expression → Expression
shift_column_up n e = map_columns (λ c. n + c) e

-- ---- into_nnf: each cell is rewritten once, on the way down; what it became is not rewritten again, its operands are

abbrev pub dual : Logical → Logical
dual And = Or
dual Or = And

abbrev mutual
  pub into_nnf : Expression → Expression
  into_nnf (constant og v) = constant og v
  into_nnf (column og c) = column og c
  into_nnf (unary og Not x) = into_nnf_not og x
  into_nnf (unary og (function f) x) = unary og (function f) (into_nnf x)
  into_nnf (binary og o l r) = binary og o (into_nnf l) (into_nnf r)

  -- into_nnf of Not(x): Not(And(l, r)) becomes Or(Not(l), Not(r)), whose operands are gone into, and Not(Not(x)) becomes x, whose OPERANDS are
  pub into_nnf_not : ℕ → Expression → Expression
  into_nnf_not new (constant og v) = not new (constant og v)
  into_nnf_not new (column og c) = not new (column og c)
  into_nnf_not new (unary og Not x) = into_nnf_operands x
  into_nnf_not new (unary og (function f) x) = not new (unary og (function f) (into_nnf x))
  into_nnf_not new (binary og (logical o) l r) = binary new (logical (dual o)) (into_nnf_not new l) (into_nnf_not new r)
  into_nnf_not new (binary og Equal l r) = not new (binary og Equal (into_nnf l) (into_nnf r))
  into_nnf_not new (binary og (function f) l r) = not new (binary og (function f) (into_nnf l) (into_nnf r))

  -- the expression itself has been rewritten
  pub into_nnf_operands : Expression → Expression
  into_nnf_operands (constant og v) = constant og v
  into_nnf_operands (column og c) = column og c
  into_nnf_operands (unary og o x) = unary og o (into_nnf x)
  into_nnf_operands (binary og o l r) = binary og o (into_nnf l) (into_nnf r)

-- ---- into_cnf: Or(And(x, y), z) becomes And(Or(x, z), Or(y, z)), and with an And on its right alone the mirror image, again once for each cell on
-- ---- the way down. The Ors that come of one are rewritten in turn, so one Or is in the end spread over the Ands at the top of both its operands.

-- the Ands at the top of an expression, and what stands under them, distributed
pub data Conjuncts : Type 0 where
  single : Expression → Conjuncts
  both : Conjuncts → Conjuncts → Conjuncts

abbrev pub or_right : ℕ → Expression → Conjuncts → Expression
or_right new x (single z) = or new x z
or_right new x (both y z) = and new (or_right new x y) (or_right new x z)

abbrev pub or_both : ℕ → Conjuncts → Conjuncts → Expression
or_both new (single x) z = or_right new x z
or_both new (both x y) z = and new (or_both new x z) (or_both new y z)

abbrev mutual
  pub distribute : Expression → Expression
  distribute (constant og v) = constant og v
  distribute (column og c) = column og c
  distribute (unary og o x) = unary og o (distribute x)
  distribute (binary og (logical And) l r) = and og (distribute l) (distribute r)
  distribute (binary og (logical Or) l r) = or_both og (conjuncts l) (conjuncts r)
  distribute (binary og Equal l r) = binary og Equal (distribute l) (distribute r)
  distribute (binary og (function f) l r) = binary og (function f) (distribute l) (distribute r)

  pub conjuncts : Expression → Conjuncts
  conjuncts (constant og v) = single (constant og v)
  conjuncts (column og c) = single (column og c)
  conjuncts (unary og o x) = single (unary og o (distribute x))
  conjuncts (binary og (logical And) l r) = both (conjuncts l) (conjuncts r)
  conjuncts (binary og (logical Or) l r) = single (or_both og (conjuncts l) (conjuncts r))
  conjuncts (binary og Equal l r) = single (binary og Equal (distribute l) (distribute r))
  conjuncts (binary og (function f) l r) = single (binary og (function f) (distribute l) (distribute r))

unfoldable pub into_cnf : Expression → Expression
into_cnf e = distribute (into_nnf e)

-- what is joined by the Ands at the top, from left to right
abbrev pub ands : Expression → List Expression
ands (constant og v) = constant og v ∷ []
ands (column og c) = column og c ∷ []
ands (unary og o x) = unary og o x ∷ []
ands (binary og (logical And) l r) = ands l ++ ands r
ands (binary og (logical Or) l r) = or og l r ∷ []
ands (binary og Equal l r) = binary og Equal l r ∷ []
ands (binary og (function f) l r) = binary og (function f) l r ∷ []

unfoldable pub into_cnf_vec : Expression → List Expression
into_cnf_vec e = ands (into_cnf e)

abbrev pub and_all : ℕ → Expression → List Expression → Expression
and_all new e [] = e
and_all new e (x ∷ xs) = and_all new (and new e x) xs

-- and_vec: And(And(x, y), z) of x, y and z; none of an empty list
abbrev pub and_vec : ℕ → List Expression → Option Expression
and_vec new [] = none
and_vec new (x ∷ xs) = some (and_all new x xs)

-- ---- is_column_lookup and into_column_values

abbrev pub is_column : Expression → Option ℕ
is_column (constant og v) = none
is_column (column og c) = some c
is_column (unary og o x) = none
is_column (binary og o l r) = none

abbrev pub is_constant : Expression → Option (Marked Value)
is_constant (constant og v) = some (v, og)
is_constant (column og c) = none
is_constant (unary og o x) = none
is_constant (binary og o l r) = none

-- the column of Equal(l, r), where one side is a column and the other a constant
abbrev pub is_equal_lookup : Expression → Expression → Option ℕ
is_equal_lookup (constant og v) r = is_column r
is_equal_lookup (column og c) (constant og' v) = some c
is_equal_lookup (column og c) (column og' d) = none
is_equal_lookup (column og c) (unary og' o x) = none
is_equal_lookup (column og c) (binary og' o x y) = none
is_equal_lookup (unary og o x) r = none
is_equal_lookup (binary og o x y) r = none

abbrev pub is_function_lookup : Function1 → Expression → Option ℕ
is_function_lookup IsNull x = is_column x
is_function_lookup IsNaN x = is_column x
is_function_lookup Identity x = none
is_function_lookup Negate x = none
is_function_lookup SquareRoot x = none

abbrev pub same_column : Option ℕ → Option ℕ → Option ℕ
same_column none d = none
same_column (some c) none = none
same_column (some c) (some d) = cond (eqb c d) (some c) none

-- An Or is a lookup when both its sides are lookups of the same column, to any depth.
abbrev pub is_column_lookup : Expression → Option ℕ
is_column_lookup (constant og v) = none
is_column_lookup (column og c) = none
is_column_lookup (unary og Not x) = none
is_column_lookup (unary og (function f) x) = is_function_lookup f x
is_column_lookup (binary og (logical And) l r) = none
is_column_lookup (binary og (logical Or) l r) = same_column (is_column_lookup l) (is_column_lookup r)
is_column_lookup (binary og Equal l r) = is_equal_lookup l r
is_column_lookup (binary og (function f) l r) = none

-- = NULL and = NaN give no value.
abbrev pub equal_values : Option (Marked Value) → List (Marked Value)
equal_values none = []
equal_values (some v) = cond (is_undefined v.0) [] (v ∷ [])

-- into_column_values, of an expression that is a lookup. (The Rust panics at any other.) Is NaN looks up the one NaN that a sheet may hold.
abbrev pub into_column_values : Expression → List (Marked Value)
into_column_values (constant og v) = []
into_column_values (column og c) = []
into_column_values (unary og Not x) = []
into_column_values (unary og (function IsNull) x) = (null, og) ∷ []
into_column_values (unary og (function IsNaN) x) = (datum (float the_nan), og) ∷ []
into_column_values (unary og (function Identity) x) = []
into_column_values (unary og (function Negate) x) = []
into_column_values (unary og (function SquareRoot) x) = []
into_column_values (binary og (logical o) l r) = into_column_values l ++ into_column_values r
into_column_values (binary og Equal l r) = equal_values (is_constant l) ++ equal_values (is_constant r)
into_column_values (binary og (function f) l r) = []
