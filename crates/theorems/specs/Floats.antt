-- Float results are IEEE 754's: `FloatResults` says so, in a line for each operator that works out a result from a Float, at every operand. It is proved in
-- proofs/Floats.antt, as `float_results`; examples are in FloatExamples.antt.
--
-- A line has an operator as `evaluate` applies it (crate sql, Expression.antt; in crate value these are `checked_add`, `checked_sub`, `checked_mul`,
-- `checked_div`, `negate`, `square_root`, `equal`, `greater_than`, `less_than` and `is_nan`), or the one comparison (crate value, Comparison.antt: `compare`), and what IEEE 754's binary64 says of its result, by whole numbers alone (crate ieee754, Ieee754.antt):
--
-- read x        what the 64-bit pattern x stands for: a NaN, an infinity, or a sign and a number of units of 2 ^ -1074
-- sum a b, difference a b, product a b, quotient a b, square_root a, negation x, of_integer i
--               what is asked for: one pattern, or the double nearest to a fraction of units, or to the root of a whole number of units, ties to even
-- Is asked p    p is the pattern that is asked for
-- equal a b, less a b
--               whether the doubles a and b are equal, and whether a is less
--
-- Nothing is asked of the patterns x and y. So every NaN, the infinities, the zeros of both signs and the subnormal numbers are among the operands, and among the
-- results each overflow, each underflow, each division by zero and each one that is no number.
--
-- Covered are a Float with a Float, an Integer with a Float, a Float with an Integer, a Float alone, and the root of an Integer. What other operands give is no matter of IEEE 754, and
-- crate value defines it outright: two Integers are added, subtracted, multiplied, divided and compared exactly, and one is negated so (Arithmetic.antt: `add_integers`,
-- `subtract_integers`, `multiply_integers`, `divide_integers`, `checked`; Comparison.antt: `compare_integers`), and one below zero has no root (`root_of_integer`); Null, Booleans and Strings are in the same two files, the truth tables in Tables.antt.
-- Identity hands a Float back with its pattern.
use Rattle.std.specs.Prelude.{ℕ, Bool, true, false, ◌||◌, ◌≡◌, ◌↔◌, ℤ, pos}
use Rattle.value.specs.Value.{Value, datum, integer, float, boolean, Result, ok}
use Rattle.value.specs.Comparison.{Comparison, Found, Unordered, compare}
use Rattle.value.specs.ComparisonLaws.{Finds}
use Rattle.sql.specs.Expression.{Unary, function, IsNaN, Negate, SquareRoot, Equal, GreaterThan, LessThan, Add, Divide, Subtract, Multiply, evaluate_unary, evaluate_binary}
use Rattle.ieee754.specs.Ieee754 as Ieee754
use Rattle.ieee754.specs.Ieee754.{Double, nan, infinite, finite, read, Is, quiet_nan, sum, difference, product, quotient, square_root, negation, of_integer, less, equal}

-- ======== What is said of a result

abbrev pub Integer : ℤ → Value
Integer i = datum (integer i)

-- by its pattern
abbrev pub Float : ℕ → Value
Float x = datum (float x)

-- There is a pattern that is asked for, and no other is.
pub record ExactlyOne (asked : Ieee754.Result) : Type 0 where
  pub pattern : ℕ
  pub is_asked : Is asked pattern
  pub no_other : (p : ℕ) → Is asked p → p ≡ pattern

-- The result is the Float that is asked for.
pub record Gives (asked : Ieee754.Result) (result : Result Value) : Type 0 where
  pub exactly_one : ExactlyOne asked
  pub is_float : result ≡ ok (Float exactly_one.pattern)

-- The result is this Boolean.
abbrev pub Says : Bool → Result Value → Type 0
Says b result = result ≡ ok (boolean b)

abbrev pub is_nan : Double → Bool
is_nan nan = true
is_nan (infinite s) = false
is_nan (finite s u) = false

-- The comparison finds IEEE 754's relation of the doubles a and b, of which there are four. That it has such a finding at all is in crate value
-- (ComparisonLaws.antt: `null_apart`, `not_comparable`).
pub record Relation (a b : Double) (c : Comparison) : Type 0 where
  pub ordered : Finds (less a b ≡ true) (equal a b ≡ true) (less b a ≡ true) c
  pub unordered : (c ≡ Found Unordered) ↔ ((is_nan a || is_nan b) ≡ true)

-- ======== For which operands

-- Two operands, at least one of them a Float. A Float is taken as the double that its pattern stands for, and an Integer is first rounded to the double nearest to
-- it, ties to even. `Right a b` is what is said of the result for the doubles a and b.
pub record Pairs {A : Type 0} (result : Value → Value → A) (Right : Double → Double → A → Type 0) : Type 0 where
  pub float_float : (x y : ℕ) → Right (read x) (read y) (result (Float x) (Float y))
  pub integer_float : (i : ℤ) (x y : ℕ) → Is (of_integer i) x → Right (read x) (read y) (result (Integer i) (Float y))
  pub float_integer : (x : ℕ) (j : ℤ) (y : ℕ) → Is (of_integer j) y → Right (read x) (read y) (result (Float x) (Integer j))

-- A Float alone. `Right x` is what is said of the result for the pattern x.
abbrev pub Single : Unary → (ℕ → Result Value → Type 0) → Type 0
Single operator Right = (x : ℕ) → Right x (evaluate_unary operator (Float x))

-- ======== The statement

pub record FloatResults : Type 0 where
  -- each Integer has one nearest double, so that the lines on Integers speak of all
  pub every_integer : (i : ℤ) → ExactlyOne (of_integer i)
  -- what is asked for where a result is no number; IEEE 754 leaves open which NaN that is
  pub one_nan : quiet_nan ≡ 0x7FF8000000000000
  pub add : Pairs (evaluate_binary (function Add)) (λ a b. Gives (sum a b))
  pub subtract : Pairs (evaluate_binary (function Subtract)) (λ a b. Gives (difference a b))
  pub multiply : Pairs (evaluate_binary (function Multiply)) (λ a b. Gives (product a b))
  pub divide : Pairs (evaluate_binary (function Divide)) (λ a b. Gives (quotient a b))
  -- a NaN too gives the one pattern, where IEEE 754 would turn its sign's bit alone
  pub negate : Single (function Negate) (λ x. Gives (negation x))
  -- of a Float, and of an Integer from zero up, which is rounded first
  pub square_root : Single (function SquareRoot) (λ x. Gives (square_root (read x)))
  pub root_of_integer : (n x : ℕ) → Is (of_integer (pos n)) x → Gives (Ieee754.square_root (read x)) (evaluate_unary (function SquareRoot) (Integer (pos n)))
  -- what the next three take their answer from
  pub comparison : Pairs compare Relation
  pub equal : Pairs (evaluate_binary Equal) (λ a b. Says (equal a b))
  pub greater_than : Pairs (evaluate_binary (function GreaterThan)) (λ a b. Says (less b a))
  pub less_than : Pairs (evaluate_binary (function LessThan)) (λ a b. Says (less a b))
  pub is_nan : Single (function IsNaN) (λ x. Says (is_nan (read x)))
