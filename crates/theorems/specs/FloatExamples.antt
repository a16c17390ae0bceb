-- Examples of float results. Each is right on both sides of Floats.antt: `evaluate` gives it, and the whole-number definition asks for it.
-- proofs/FloatExamples.antt computes both.
use Rattle.std.specs.Prelude.{ℕ, ◌+◌, ◌-◌, ◌^◌, Bool, true, false, List, [], ◌∷◌, ◌≡◌, ℤ, pos, negsuc}
use Rattle.value.specs.Value.{Value, the_nan, boolean, Result, ok}
use Rattle.sql.specs.Expression.{function, Negate, SquareRoot, Equal, GreaterThan, LessThan, Add, Divide, Subtract, Multiply, evaluate_unary, evaluate_binary}
use Rattle.ieee754.specs.Ieee754 as Ieee754
use Rattle.ieee754.specs.Ieee754.{Is, read, sum, difference, product, quotient, square_root, negation, of_integer}
use Rattle.theorems.specs.Floats.{Integer, Float}

-- A Float by its pattern, or an Integer with the pattern of the double nearest to it.
pub data Operand : Type 0 where
  float : (x : ℕ) → Operand
  integer : ℤ → (x : ℕ) → Operand

abbrev pub value : Operand → Value
value (float x) = Float x
value (integer i x) = Integer i

abbrev pub pattern : Operand → ℕ
pattern (float x) = x
pattern (integer i x) = x

-- an operator's operands and its result
pub data Example : Type 0 where
  add subtract multiply divide : Operand → Operand → (r : ℕ) → Example
  root : Operand → (r : ℕ) → Example
  negate : (x r : ℕ) → Example
  equal greater less : Operand → Operand → (r : Bool) → Example

-- what `evaluate` gives, and what is stated
abbrev pub given : Example → Result Value
given (add v w r) = evaluate_binary (function Add) (value v) (value w)
given (subtract v w r) = evaluate_binary (function Subtract) (value v) (value w)
given (multiply v w r) = evaluate_binary (function Multiply) (value v) (value w)
given (root v r) = evaluate_unary (function SquareRoot) (value v)
given (divide v w r) = evaluate_binary (function Divide) (value v) (value w)
given (negate x r) = evaluate_unary (function Negate) (Float x)
given (equal v w r) = evaluate_binary Equal (value v) (value w)
given (greater v w r) = evaluate_binary (function GreaterThan) (value v) (value w)
given (less v w r) = evaluate_binary (function LessThan) (value v) (value w)

abbrev pub stated : Example → Result Value
stated (add v w r) = ok (Float r)
stated (subtract v w r) = ok (Float r)
stated (multiply v w r) = ok (Float r)
stated (root v r) = ok (Float r)
stated (divide v w r) = ok (Float r)
stated (negate x r) = ok (Float r)
stated (equal v w r) = ok (boolean r)
stated (greater v w r) = ok (boolean r)
stated (less v w r) = ok (boolean r)

-- IEEE 754 asks for the pattern listed with an Integer, and for the result
abbrev pub Taken : Operand → Type 0
Taken (float x) = Unit {0}
Taken (integer i x) = Is (of_integer i) x

abbrev pub Asked : Example → Type 0
Asked (add v w r) = Taken v × Taken w × Is (sum (read (pattern v)) (read (pattern w))) r
Asked (subtract v w r) = Taken v × Taken w × Is (difference (read (pattern v)) (read (pattern w))) r
Asked (multiply v w r) = Taken v × Taken w × Is (product (read (pattern v)) (read (pattern w))) r
Asked (root v r) = Taken v × Is (square_root (read (pattern v))) r
Asked (divide v w r) = Taken v × Taken w × Is (quotient (read (pattern v)) (read (pattern w))) r
Asked (negate x r) = Is (negation x) r
Asked (equal v w r) = Taken v × Taken w × (Ieee754.equal (read (pattern v)) (read (pattern w)) ≡ r)
Asked (greater v w r) = Taken v × Taken w × (Ieee754.less (read (pattern w)) (read (pattern v)) ≡ r)
Asked (less v w r) = Taken v × Taken w × (Ieee754.less (read (pattern v)) (read (pattern w)) ≡ r)

abbrev pub All : (Example → Type 0) → List Example → Type 0
All P [] = Unit {0}
All P (e ∷ l) = P e × All P l

-- ======== The list

abbrev one : ℕ
one = 0x3FF0000000000000

abbrev minus_zero : ℕ
minus_zero = 0x8000000000000000

abbrev infinity : ℕ
infinity = 0x7FF0000000000000

abbrev minus_infinity : ℕ
minus_infinity = 0xFFF0000000000000

abbrev largest : ℕ
largest = 0x7FEFFFFFFFFFFFFF

-- a NaN with its sign set and another payload
abbrev other_nan : ℕ
other_nan = 0xFFF0000000000001

-- 2 ^ 53 and 2 ^ 63 as Floats
abbrev two_to_53 : ℕ
two_to_53 = 0x4340000000000000

abbrev two_to_63 : ℕ
two_to_63 = 0x43E0000000000000

unfoldable pub examples : List Example
examples =
    -- 0.1 + 0.2 is 0.30000000000000004
    add (float 0x3FB999999999999A) (float 0x3FC999999999999A) 0x3FD3333333333334
    -- 2 ^ 53 + 1 is rounded to 2 ^ 53 first; with 1.0 added that is a tie and stays 2 ^ 53. Added exactly, it would be 2 ^ 53 + 2.
    ∷ add (integer (pos (2 ^ 53 + 1)) two_to_53) (float one) two_to_53
    -- subnormal numbers: a sum, and one that is the smallest normal number
    ∷ add (float 1) (float 2) 3
    ∷ add (float 0x000FFFFFFFFFFFFF) (float 1) 0x0010000000000000
    -- overflow
    ∷ add (float largest) (float largest) infinity
    ∷ divide (float largest) (float 0x3FE0000000000000) infinity
    -- zeros: -0.0 + -0.0, -0.0 + 0 and 1.0 + -1
    ∷ add (float minus_zero) (float minus_zero) minus_zero
    ∷ add (float minus_zero) (integer (pos 0) 0) 0
    ∷ add (float one) (integer (negsuc 0) 0xBFF0000000000000) 0
    -- no number: infinity + -infinity, and a NaN's payload is not kept
    ∷ add (float infinity) (float minus_infinity) the_nan
    ∷ add (float other_nan) (integer (pos 1) one) the_nan
    -- 1 / 0.0, 1 / -0.0, 0 / 0.0, 1.0 / 3, 1 / -infinity, and half of the smallest double, a tie
    ∷ divide (integer (pos 1) one) (float 0) infinity
    ∷ divide (integer (pos 1) one) (float minus_zero) minus_infinity
    ∷ divide (integer (pos 0) 0) (float 0) the_nan
    ∷ divide (float one) (integer (pos 3) 0x4008000000000000) 0x3FD5555555555555
    ∷ divide (integer (pos 1) one) (float minus_infinity) minus_zero
    ∷ divide (float 1) (integer (pos 2) 0x4000000000000000) 0
    -- 0.3 - 0.1 is 0.19999999999999998; 2 ^ 53 + 1 is rounded first; 0.0 - 0 and -0.0 - 0; infinity - infinity
    ∷ subtract (float 0x3FD3333333333333) (float 0x3FB999999999999A) 0x3FC9999999999999
    ∷ subtract (integer (pos (2 ^ 53 + 1)) two_to_53) (float two_to_53) 0
    ∷ subtract (float 0) (integer (pos 0) 0) 0
    ∷ subtract (float minus_zero) (integer (pos 0) 0) minus_zero
    ∷ subtract (float infinity) (float infinity) the_nan
    -- 0.1 * 0.1 is 0.010000000000000002; 0 * -1.0 and 0 * infinity; an overflow, and half of the smallest double, a tie
    ∷ multiply (float 0x3FB999999999999A) (float 0x3FB999999999999A) 0x3F847AE147AE147C
    ∷ multiply (integer (pos 0) 0) (float 0xBFF0000000000000) minus_zero
    ∷ multiply (integer (pos 0) 0) (float infinity) the_nan
    ∷ multiply (float largest) (integer (pos 2) 0x4000000000000000) infinity
    ∷ multiply (float 1) (float 0x3FE0000000000000) 0
    -- roots: of 2, of 9007199254741001, which is rounded first, of the smallest double and of the largest, of 0, -0.0, -1.0, the infinities and a NaN
    ∷ root (integer (pos 2) 0x4000000000000000) 0x3FF6A09E667F3BCD
    ∷ root (integer (pos 9007199254741001) 0x4340000000000004) 0x4196A09E667F3BCF
    ∷ root (float 1) 0x1E60000000000000
    ∷ root (float largest) 0x5FEFFFFFFFFFFFFF
    ∷ root (integer (pos 0) 0) 0
    ∷ root (float minus_zero) minus_zero
    ∷ root (float 0xBFF0000000000000) the_nan
    ∷ root (float infinity) infinity
    ∷ root (float minus_infinity) the_nan
    ∷ root (float other_nan) the_nan
    ∷ negate 0 minus_zero
    ∷ negate other_nan the_nan
    -- 9007199254740993 = 9007199254740992.0, and the largest Integer is rounded to 2 ^ 63
    ∷ equal (integer (pos 9007199254740993) two_to_53) (float two_to_53) true
    ∷ less (integer (pos (2 ^ 63 - 1)) two_to_63) (float two_to_63) false
    -- zeros are equal, a NaN is unordered with everything
    ∷ equal (float minus_zero) (integer (pos 0) 0) true
    ∷ less (float minus_zero) (float 0) false
    ∷ equal (float the_nan) (float the_nan) false
    ∷ greater (float the_nan) (integer (pos 1) one) false
    ∷ less (float minus_infinity) (integer (negsuc (2 ^ 63 - 1)) 0xC3E0000000000000) true
    ∷ greater (float 1) (integer (pos 0) 0) true
    ∷ []
