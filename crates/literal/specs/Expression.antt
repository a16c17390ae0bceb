-- expression.rs, transcribed (Rust.antt says how). Operators that the port leaves out (docs/DIFFERENCES.md, Forms) have no line here.
use Rattle.std.specs.Prelude.{ℕ, zero, suc, ◌-◌, ◌^◌, Bool, true, false, not, ◌&&◌, ◌||◌, cond, List, [], ◌∷◌, ◌++◌, eqb, ℤ, pos, negsuc, neg_ℤ, ◌+ℤ◌}
use Rattle.std.specs.Bool.{beq}
use Rattle.std.proofs.Math.Option.{Option, none, some}
use Rattle.std.specs.Int.Signed.{lt_z}
use Rattle.std.specs.Float.Ieee as Ieee
use Rattle.std.specs.Float.{binary64}
use Rattle.value.specs.Value.{Value, truth, integer, float, string, datum, the_nan, null, mismatch}
use Rattle.sql.specs.Expression.{Marked, And, Or, IsNull, IsNaN, Identity, Negate, SquareRoot, GreaterThan, LessThan, Add, Divide, Subtract, Multiply, Not, logical, Equal, function, Expression, constant, column, unary, binary, and, or, size, Row}
use Rattle.literal.specs.Rust.{Run, Ok, Err, Panic, ◌>>=◌, unwrap, expect, assert_eq, ◌⇒◌, ◌&◌, ◌∣◌, ◌if◌, ◌else◌, and_then, push, get, pop, for_each}
use Rattle.literal.specs.Value.{Departures, i64_eq, as_f64, bytes_eq, bytes_lt, Null?, Boolean?, Integer?, Float?, String?, number?, Boolean, IntegerOr, Float, eq, is_undefined, checked_add, checked_div, checked_mul, checked_sub}
use Rattle.ieee754.specs.Ieee754.{square_root_bits}

-- ---- 19: enum Expression, as patterns: the origin, and what the Rust's pattern binds

abbrev pub Constant? : Expression → Option (ℕ × Value)
Constant? (constant og v) = some (og, v)
Constant? (column og c) = none
Constant? (unary og o x) = none
Constant? (binary og o l r) = none

abbrev pub Column? : Expression → Option (ℕ × ℕ)
Column? (constant og v) = none
Column? (column og c) = some (og, c)
Column? (unary og o x) = none
Column? (binary og o l r) = none

abbrev pub And? : Expression → Option (ℕ × Expression × Expression)
And? (constant og v) = none
And? (column og c) = none
And? (unary og o x) = none
And? (binary og (logical And) l r) = some (og, l, r)
And? (binary og (logical Or) l r) = none
And? (binary og Equal l r) = none
And? (binary og (function f) l r) = none

abbrev pub Or? : Expression → Option (ℕ × Expression × Expression)
Or? (constant og v) = none
Or? (column og c) = none
Or? (unary og o x) = none
Or? (binary og (logical And) l r) = none
Or? (binary og (logical Or) l r) = some (og, l, r)
Or? (binary og Equal l r) = none
Or? (binary og (function f) l r) = none

abbrev pub Not? : Expression → Option (ℕ × Expression)
Not? (constant og v) = none
Not? (column og c) = none
Not? (unary og Not x) = some (og, x)
Not? (unary og (function f) x) = none
Not? (binary og o l r) = none

abbrev pub Equal? : Expression → Option (ℕ × Expression × Expression)
Equal? (constant og v) = none
Equal? (column og c) = none
Equal? (unary og o x) = none
Equal? (binary og (logical o) l r) = none
Equal? (binary og Equal l r) = some (og, l, r)
Equal? (binary og (function f) l r) = none

-- ---- 75: fn evaluate. First the inner matches, in the order in which they stand.

abbrev pub evaluate_and : Value → Value → Run Value
evaluate_and l r =
    (Boolean? l & Boolean? r ⇒ λ (lhs, rhs). Ok (Boolean (lhs && rhs)))
    else (((Boolean? l & Null? r ⇒ λ (b, n). b) if not) ∣ ((Null? l & Boolean? r ⇒ λ (n, b). b) if not) ⇒ λ b. Ok (Boolean false))
    else ((Boolean? l & Null? r ⇒ λ p. l) ∣ (Null? l & Boolean? r ⇒ λ p. l) ∣ (Null? l & Null? r ⇒ λ p. l) ⇒ λ p. Ok null)
    else Err mismatch

abbrev pub evaluate_or : Value → Value → Run Value
evaluate_or l r =
    (Boolean? l & Boolean? r ⇒ λ (lhs, rhs). Ok (Boolean (lhs || rhs)))
    else (((Boolean? l & Null? r ⇒ λ (b, n). b) if (λ b. b)) ∣ ((Null? l & Boolean? r ⇒ λ (n, b). b) if (λ b. b)) ⇒ λ b. Ok (Boolean true))
    else ((Boolean? l & Null? r ⇒ λ p. l) ∣ (Null? l & Boolean? r ⇒ λ p. l) ∣ (Null? l & Null? r ⇒ λ p. l) ⇒ λ p. Ok null)
    else Err mismatch

abbrev pub evaluate_not : Value → Run Value
evaluate_not v =
    (Boolean? v ⇒ λ b. Ok (Boolean (not b)))
    else (Null? v ⇒ λ n. Ok null)
    else Err mismatch

abbrev pub evaluate_equal : Value → Value → Run Value
evaluate_equal l r =
    (Boolean? l & Boolean? r ⇒ λ (lhs, rhs). Ok (Boolean (beq lhs rhs)))
    else (Integer? l & Integer? r ⇒ λ (lhs, rhs). Ok (Boolean (i64_eq lhs rhs)))
    else (Integer? l & Float? r ⇒ λ (lhs, rhs). Ok (Boolean (Ieee.eq (as_f64 lhs) rhs)))
    else (Float? l & Integer? r ⇒ λ (lhs, rhs). Ok (Boolean (Ieee.eq lhs (as_f64 rhs))))
    else (Float? l & Float? r ⇒ λ (lhs, rhs). Ok (Boolean (Ieee.eq lhs rhs)))
    else (String? l & String? r ⇒ λ (lhs, rhs). Ok (Boolean (bytes_eq lhs rhs)))
    else (Null? l ∣ Null? r ⇒ λ n. Ok null)
    else Err mismatch

abbrev pub evaluate_greater_than : Value → Value → Run Value
evaluate_greater_than l r =
    (Boolean? l & Boolean? r ⇒ λ (lhs, rhs). Ok (Boolean (lhs && not rhs)))
    else (Integer? l & Integer? r ⇒ λ (lhs, rhs). Ok (Boolean (lt_z rhs lhs)))
    else (Integer? l & Float? r ⇒ λ (lhs, rhs). Ok (Boolean (Ieee.lt rhs (as_f64 lhs))))
    else (Float? l & Integer? r ⇒ λ (lhs, rhs). Ok (Boolean (Ieee.lt (as_f64 rhs) lhs)))
    else (Float? l & Float? r ⇒ λ (lhs, rhs). Ok (Boolean (Ieee.lt rhs lhs)))
    else (String? l & String? r ⇒ λ (lhs, rhs). Ok (Boolean (bytes_lt rhs lhs)))
    else (Null? l ∣ Null? r ⇒ λ n. Ok null)
    else Err mismatch

abbrev pub evaluate_less_than : Value → Value → Run Value
evaluate_less_than l r =
    (Boolean? l & Boolean? r ⇒ λ (lhs, rhs). Ok (Boolean (not lhs && rhs)))
    else (Integer? l & Integer? r ⇒ λ (lhs, rhs). Ok (Boolean (lt_z lhs rhs)))
    else (Integer? l & Float? r ⇒ λ (lhs, rhs). Ok (Boolean (Ieee.lt (as_f64 lhs) rhs)))
    else (Float? l & Integer? r ⇒ λ (lhs, rhs). Ok (Boolean (Ieee.lt lhs (as_f64 rhs))))
    else (Float? l & Float? r ⇒ λ (lhs, rhs). Ok (Boolean (Ieee.lt lhs rhs)))
    else (String? l & String? r ⇒ λ (lhs, rhs). Ok (Boolean (bytes_lt lhs rhs)))
    else (Null? l ∣ Null? r ⇒ λ n. Ok null)
    else Err mismatch

abbrev pub evaluate_is_nan : Value → Run Value
evaluate_is_nan v =
    (Float? v ⇒ λ f. Ok (Boolean (Ieee.is_nan f)))
    else (Null? v ⇒ λ n. Ok null)
    else Err mismatch

abbrev pub evaluate_identity : Value → Run Value
evaluate_identity v =
    (number? v ∣ Null? v ⇒ λ value. Ok value)
    else Err mismatch

-- `-i` panics where the negative has no 64 bits, unless document 01 departs.
abbrev pub evaluate_negate : Departures → Value → Run Value
evaluate_negate departures v =
    (Integer? v ⇒ λ i. IntegerOr departures.overflowed (neg_ℤ i))
    else (Float? v ⇒ λ f. Ok (Float (Ieee.neg f)))
    else (Null? v ⇒ λ n. Ok null)
    else Err mismatch

-- 186: Integer(i @ 0..)
abbrev pub from_zero : ℤ → Bool
from_zero (pos n) = true
from_zero (negsuc n) = false

-- a Float by its pattern, and f64::sqrt of one: IEEE 754's squareRoot (crate ieee754)
abbrev pub pattern? : Value → Option ℕ
pattern? (truth t) = none
pattern? (datum (integer i)) = none
pattern? (datum (float bits)) = some bits
pattern? (datum (string r t)) = none

abbrev pub sqrt : ℕ → Value
sqrt bits = datum (float (square_root_bits bits))

abbrev pub evaluate_square_root : Value → Run Value
evaluate_square_root v =
    (Integer? v if from_zero ⇒ λ i. Ok (sqrt (Ieee.to_bits binary64 (as_f64 i))))
    else (pattern? v ⇒ λ bits. Ok (sqrt bits))
    else (Null? v ⇒ λ n. Ok null)
    else Err mismatch

-- Is(expr, Null) and Is(expr, Float(NaN)) are two operators here, IsNull and IsNaN; at an Is of another value, which no parser makes, the Rust panics.
module _ (departures : Departures) where
  abbrev pub evaluate : Option Row → Expression → Run Value
  evaluate row (constant og value) = Ok value
  evaluate row (column og index) = expect (and_then row (λ r. get r index))
  evaluate row (binary og (logical And) lhs rhs) = evaluate row lhs >>= λ l. evaluate row rhs >>= λ r. evaluate_and l r
  evaluate row (binary og (logical Or) lhs rhs) = evaluate row lhs >>= λ l. evaluate row rhs >>= λ r. evaluate_or l r
  evaluate row (unary og Not expr) = evaluate row expr >>= λ v. evaluate_not v
  evaluate row (binary og Equal lhs rhs) = evaluate row lhs >>= λ l. evaluate row rhs >>= λ r. evaluate_equal l r
  evaluate row (binary og (function GreaterThan) lhs rhs) = evaluate row lhs >>= λ l. evaluate row rhs >>= λ r. evaluate_greater_than l r
  evaluate row (binary og (function LessThan) lhs rhs) = evaluate row lhs >>= λ l. evaluate row rhs >>= λ r. evaluate_less_than l r
  evaluate row (unary og (function IsNull) expr) = evaluate row expr >>= λ v. Ok (Boolean (eq v null))
  evaluate row (unary og (function IsNaN) expr) = evaluate row expr >>= λ v. evaluate_is_nan v
  evaluate row (binary og (function Add) lhs rhs) = evaluate row lhs >>= λ l. evaluate row rhs >>= λ r. checked_add l r
  evaluate row (binary og (function Divide) lhs rhs) = evaluate row lhs >>= λ l. evaluate row rhs >>= λ r. checked_div departures l r
  evaluate row (binary og (function Multiply) lhs rhs) = evaluate row lhs >>= λ l. evaluate row rhs >>= λ r. checked_mul l r
  evaluate row (unary og (function Identity) expr) = evaluate row expr >>= λ v. evaluate_identity v
  evaluate row (unary og (function Negate) expr) = evaluate row expr >>= λ v. evaluate_negate departures v
  evaluate row (unary og (function SquareRoot) expr) = evaluate row expr >>= λ v. evaluate_square_root v
  evaluate row (binary og (function Subtract) lhs rhs) = evaluate row lhs >>= λ l. evaluate row rhs >>= λ r. checked_sub l r

-- ---- 212: fn walk. The visitor writes to s.

-- `if !visitor(self) { return false; }`, and &&
abbrev pub and_on : {S : Type 0} → S × Bool → (S → S × Bool) → S × Bool
and_on (s, false) f = (s, false)
and_on (s, true) f = f s

abbrev pub walk : {S : Type 0} → (S → Expression → S × Bool) → S → Expression → S × Bool
walk visitor s (binary og o lhs rhs) = and_on (visitor s (binary og o lhs rhs)) (λ t. and_on (walk visitor t lhs) (λ u. walk visitor u rhs))
walk visitor s (unary og o expr) = and_on (visitor s (unary og o expr)) (λ t. walk visitor t expr)
walk visitor s (constant og v) = and_on (visitor s (constant og v)) (λ t. (t, true))
walk visitor s (column og c) = and_on (visitor s (column og c)) (λ t. (t, true))

-- ---- 244: fn contains

abbrev pub contains : (Expression → Bool) → Expression → Bool
contains visitor self = not (walk (λ s e. (s, not (visitor e))) true self).1

-- ---- 250: fn transform

abbrev pub transform_operands : (Expression → Run Expression) → Expression → Run Expression
transform_operands xform (binary og o lhs rhs) = do
  l ← xform lhs
  r ← xform rhs
  Ok (binary og o l r)
transform_operands xform (unary og o expr) = do
  e ← xform expr
  Ok (unary og o e)
transform_operands xform (constant og v) = Ok (constant og v)
transform_operands xform (column og c) = Ok (column og c)

abbrev pub transform : (before after : Expression → Run Expression) → ℕ → Expression → Run Expression
transform before after zero self = Panic
transform before after (suc depth) self = before self >>= transform_operands (transform before after depth) >>= after

-- ---- 331: fn into_nnf

-- match *inner
abbrev pub nnf_match : ℕ → Expression → Expression
nnf_match og inner =
    (And? inner ⇒ λ (o, lhs, rhs). or og (unary og Not lhs) (unary og Not rhs))
    else (Or? inner ⇒ λ (o, lhs, rhs). and og (unary og Not lhs) (unary og Not rhs))
    else (Not? inner ⇒ λ (o, inner). inner)
    else unary og Not inner

-- let Not(inner) = expr else { return expr; }
abbrev pub nnf_xform : Expression → Expression
nnf_xform expr =
    (Not? expr ⇒ λ (og, inner). nnf_match og inner)
    else expr

abbrev pub into_nnf : Expression → Run Expression
into_nnf self = unwrap (transform (λ e. Ok (nnf_xform e)) Ok (size self) self)

-- ---- 292: fn into_cnf

-- match (*lhs, *rhs)
abbrev pub cnf_match : ℕ → Expression → Expression → Expression
cnf_match og lhs rhs =
    (And? lhs ⇒ λ (o, l, r). and og (or og l rhs) (or og r rhs))
    else (And? rhs ⇒ λ (o, l, r). and og (or og lhs l) (or og lhs r))
    else or og lhs rhs

-- let Or(lhs, rhs) = expr else { return expr; }
abbrev pub cnf_xform : Expression → Expression
cnf_xform expr =
    (Or? expr ⇒ λ (og, lhs, rhs). cnf_match og lhs rhs)
    else expr

abbrev pub into_cnf : Expression → Run Expression
into_cnf self = do
  nnf ← into_nnf self
  unwrap (transform (λ e. Ok (cnf_xform e)) Ok (size nnf) nnf)

-- ---- 314: fn into_cnf_vec

-- the loop's body; `on` is its next round
abbrev pub cnf_round : (on : (cnf stack : List Expression) → Run (List Expression)) → (cnf : List Expression) → Expression → (stack : List Expression) → Run (List Expression)
cnf_round on cnf expr stack =
    (And? expr ⇒ λ (og, lhs, rhs). on cnf (stack ++ (rhs ∷ lhs ∷ [])))
    else on (push cnf expr) stack

-- while let Some(expr) = stack.pop()
abbrev pub cnf_loop : ℕ → (cnf stack : List Expression) → Run (List Expression)
cnf_loop zero cnf stack = Panic
cnf_loop (suc rounds) cnf stack =
    (pop stack ⇒ λ (expr, stack). cnf_round (cnf_loop rounds) cnf expr stack)
    else Ok cnf

abbrev pub into_cnf_vec : Expression → Run (List Expression)
into_cnf_vec self = do
  cnf ← into_cnf self
  cnf_loop (suc (size cnf)) [] (cnf ∷ [])

-- ---- 354: fn and_vec

abbrev pub and_vec : ℕ → List Expression → Option Expression
and_vec new [] = none
and_vec new (expr ∷ iter) = some (for_each (λ expr rhs. and new expr rhs) expr iter)

-- ---- 365: fn is_column_lookup

abbrev pub is_column_lookup : Expression → Option ℕ
is_column_lookup (binary og Equal lhs rhs) = (Column? lhs & Constant? rhs ⇒ λ (c, v). c.1) ∣ (Constant? lhs & Column? rhs ⇒ λ (v, c). c.1)
is_column_lookup (unary og (function IsNull) expr) = Column? expr ⇒ λ c. c.1
is_column_lookup (unary og (function IsNaN) expr) = Column? expr ⇒ λ c. c.1
is_column_lookup (binary og (logical Or) lhs rhs) = (is_column_lookup lhs & is_column_lookup rhs) if (λ (l, r). eqb l r) ⇒ λ (l, r). l
is_column_lookup (constant og v) = none
is_column_lookup (column og c) = none
is_column_lookup (unary og Not x) = none
is_column_lookup (unary og (function Identity) x) = none
is_column_lookup (unary og (function Negate) x) = none
is_column_lookup (unary og (function SquareRoot) x) = none
is_column_lookup (binary og (logical And) l r) = none
is_column_lookup (binary og (function f) l r) = none

-- ---- 393: fn into_column_values. Each value gets the origin of the constant, or of the Is, that it was.

abbrev pub into_column_values : ℕ → Expression → Run (List (Marked Value))
into_column_values index (binary og Equal lhs rhs) =
    ((Column? lhs & Constant? rhs) ∣ (Constant? lhs & Column? rhs ⇒ λ (v, c). (c, v))
    ⇒ λ (c, value). assert_eq c.1 index (Ok (cond (is_undefined value.1) [] ((value.1, value.0) ∷ []))))
    else Panic
into_column_values index (unary og (function IsNull) expr) = (Column? expr ⇒ λ c. assert_eq c.1 index (Ok ((null, og) ∷ []))) else Panic
into_column_values index (unary og (function IsNaN) expr) = (Column? expr ⇒ λ c. assert_eq c.1 index (Ok ((datum (float the_nan), og) ∷ []))) else Panic
into_column_values index (binary og (logical Or) lhs rhs) = do
  values ← into_column_values index lhs
  more ← into_column_values index rhs
  Ok (values ++ more)
into_column_values index (constant og v) = Panic
into_column_values index (column og c) = Panic
into_column_values index (unary og Not x) = Panic
into_column_values index (unary og (function Identity) x) = Panic
into_column_values index (unary og (function Negate) x) = Panic
into_column_values index (unary og (function SquareRoot) x) = Panic
into_column_values index (binary og (logical And) l r) = Panic
into_column_values index (binary og (function f) l r) = Panic

-- ---- 424: fn replace_column

abbrev pub replace_xform : (from to : ℕ) → Expression → Expression
replace_xform from to expr =
    (Column? expr if (λ (og, i). eqb i from) ⇒ λ (og, i). column og to)
    else expr

abbrev pub replace_column : (from to : ℕ) → Expression → Run Expression
replace_column from to self = unwrap (transform (λ e. Ok (replace_xform from to e)) Ok (size self) self)

-- ---- 433: fn shift_column

-- of an isize: below zero it wraps. (`i as isize` is i itself: a sheet's column numbers have 32 bits, and no pass shifts below zero, proofs/Right.antt.)
abbrev pub as_usize : ℤ → ℕ
as_usize (pos i) = i
as_usize (negsuc i) = 2 ^ 64 - suc i

abbrev pub shift_xform : ℤ → Expression → Expression
shift_xform diff expr =
    (Column? expr ⇒ λ (og, i). column og (as_usize (pos i +ℤ diff)))
    else expr

abbrev pub shift_column : ℤ → Expression → Run Expression
shift_column diff self = unwrap (transform (λ e. Ok (shift_xform diff e)) Ok (size self) self)
