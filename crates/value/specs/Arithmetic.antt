-- value.rs: checked_add, checked_sub, checked_mul and checked_div; expression.rs, evaluate: Identity, Negate and SquareRoot.
use Rattle.std.specs.Prelude.{ℕ, zero, suc, ◌^◌, cond, ltb, ℤ, pos, negsuc, neg_ℤ, ◌+ℤ◌, ◌-ℤ◌, ◌*ℤ◌, Float}
use Rattle.std.specs.Int.Signed.{mag, quot_z}
use Rattle.std.specs.Float.Ieee as Ieee
use Rattle.std.specs.Float.{binary64}
use Rattle.ieee754.specs.Ieee754.{square_root_bits}
use Rattle.value.specs.Value.{Truth, False, Unknown, True, Datum, integer, float, string, Value, truth, datum, null, Result, ok, err, overflow, division_by_zero, mismatch}
use Rattle.value.specs.Comparison.{rounded, number_of}

-- An Integer has 64 bits, from −2^63 to 2^63 − 1: `mag` of n and of −(n + 1) is n.
unfoldable pub checked : ℤ → Result Value
checked i = cond (ltb (mag i) (2 ^ 63)) (ok (datum (integer i))) (err overflow)

-- A Float is written as its 64-bit pattern, a NaN as the one pattern 7FF8000000000000.
abbrev pub written : Float → Result Value
written x = ok (datum (float (Ieee.to_bits binary64 x)))

unfoldable pub add_integers : ℤ → ℤ → Result Value
unfolding checked
add_integers a b = checked (a +ℤ b)

unfoldable pub subtract_integers : ℤ → ℤ → Result Value
unfolding checked
subtract_integers a b = checked (a -ℤ b)

unfoldable pub multiply_integers : ℤ → ℤ → Result Value
unfolding checked
multiply_integers a b = checked (a *ℤ b)

-- The quotient is cut toward zero. The smallest Integer divided by −1 is an overflow.
unfoldable pub divide_integers : ℤ → ℤ → Result Value
unfolding checked
divide_integers a (pos zero) = err division_by_zero
divide_integers a (pos (suc b)) = checked (quot_z a (pos (suc b)))
divide_integers a (negsuc b) = checked (quot_z a (negsuc b))

-- ---- what the Rust's arithmetic functions share; they differ in what they do to two Integers and to two doubles

-- An Integer met by a Float is rounded first.
abbrev pub of_data : (ℤ → ℤ → Result Value) → (Float → Float → Float) → Datum → Datum → Result Value
of_data whole double (integer a) (integer b) = whole a b
of_data whole double (integer a) (float b) = written (double (rounded a) (number_of b))
of_data whole double (integer a) (string r t) = err mismatch
of_data whole double (float a) (integer b) = written (double (number_of a) (rounded b))
of_data whole double (float a) (float b) = written (double (number_of a) (number_of b))
of_data whole double (float a) (string r t) = err mismatch
of_data whole double (string r t) g = err mismatch

-- a Null or Boolean with what is neither: Null with a number is Null
abbrev pub with_datum : Truth → Datum → Result Value
with_datum False g = err mismatch
with_datum True g = err mismatch
with_datum Unknown (integer b) = ok null
with_datum Unknown (float b) = ok null
with_datum Unknown (string r t) = err mismatch

abbrev pub of_truths : Truth → Truth → Result Value
of_truths False b = err mismatch
of_truths True b = err mismatch
of_truths Unknown False = err mismatch
of_truths Unknown Unknown = ok null
of_truths Unknown True = err mismatch

abbrev pub arithmetic : (ℤ → ℤ → Result Value) → (Float → Float → Float) → Value → Value → Result Value
arithmetic whole double (truth a) (truth b) = of_truths a b
arithmetic whole double (truth a) (datum g) = with_datum a g
arithmetic whole double (datum f) (truth b) = with_datum b f
arithmetic whole double (datum f) (datum g) = of_data whole double f g

abbrev pub checked_add : Value → Value → Result Value
checked_add = arithmetic add_integers (Ieee.add binary64)

abbrev pub checked_sub : Value → Value → Result Value
checked_sub = arithmetic subtract_integers (Ieee.sub binary64)

abbrev pub checked_mul : Value → Value → Result Value
checked_mul = arithmetic multiply_integers (Ieee.mul binary64)

abbrev pub checked_div : Value → Value → Result Value
checked_div = arithmetic divide_integers (Ieee.div binary64)

-- ---- one operand, which must be a number or Null

abbrev pub of_truth : Truth → Result Value
of_truth False = err mismatch
of_truth Unknown = ok null
of_truth True = err mismatch

-- A Float is handed back with its pattern.
abbrev pub identity : Value → Result Value
identity (truth a) = of_truth a
identity (datum (integer a)) = ok (datum (integer a))
identity (datum (float a)) = ok (datum (float a))
identity (datum (string r t)) = err mismatch

-- The smallest Integer negated is an overflow. A Float's sign is turned, also a zero's; NaN stays the one pattern.
abbrev pub negate : Value → Result Value
negate (truth a) = of_truth a
negate (datum (integer a)) = checked (neg_ℤ a)
negate (datum (float a)) = written (Ieee.neg (number_of a))
negate (datum (string r t)) = err mismatch

-- the root of the double with the pattern a: the double nearest to it, ties to even (crate ieee754, Ieee754.antt: `square_root`); a NaN below zero
abbrev pub root_of_float : ℕ → Result Value
root_of_float a = ok (datum (float (square_root_bits a)))

-- An Integer is rounded first. One below zero doesn't fit.
abbrev pub root_of_integer : ℤ → Result Value
root_of_integer (pos n) = root_of_float (Ieee.to_bits binary64 (rounded (pos n)))
root_of_integer (negsuc n) = err mismatch

abbrev pub square_root : Value → Result Value
square_root (truth a) = of_truth a
square_root (datum (integer a)) = root_of_integer a
square_root (datum (float a)) = root_of_float a
square_root (datum (string r t)) = err mismatch
