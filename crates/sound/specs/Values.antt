-- Evaluating makes only values that a sheet can hold: Integers of 64 bits, Floats of 64 bits that are no NaN but the one, and no text but what was there.
use Rattle.std.specs.Prelude.{ℕ, zero, suc, ◌^◌, ◌≡◌, Bool, not, ◌||◌, cond, List, [], T, eqb, ℤ, pos, negsuc, neg_ℤ, ◌+ℤ◌, ◌-ℤ◌, ◌*ℤ◌, Float}
use native.Mathlib.Omega.{arith}
use borrow.Author.Tests.{ltb-true}
use Rattle.std.proofs.Math.Path.{refl}
use Rattle.std.proofs.Common.{ap, ◌∙◌, subst}
use Rattle.std.proofs.Math.Bool.{true, false}
use Rattle.std.proofs.Math.Dec.{ltb}
use Rattle.std.specs.Int.Signed.{mag, quot_z}
use Rattle.std.specs.Float.Ieee as Ieee
use Rattle.std.specs.Float.{nan, inf, fin, binary64}
use Rattle.std.specs.Float.Ieee.Fits.{add-fits, sub-fits, mul-fits, div-fits, neg-fits}
use Rattle.std.specs.Float.Ieee.Bits.{to_bits-lt, of_bits-to_bits, of_bits-fits, nan_bits_is}
use Rattle.ieee754.specs.Ieee754.{square_root_bits}
use Rattle.ieee754.proofs.SquareRoot.{root_kept}
use Rattle.value.specs.Value.{Truth, False, Unknown, True, Datum, integer, float, string, Value, truth, datum, Result, ok, err, overflow, the_nan}
use Rattle.value.specs.Comparison.{Comparison, Null, Found, Less, Equal, Greater, Unordered, NotComparable, compare, compared, answer, number_of, rounded, is_equal, is_greater, is_less}
use Rattle.value.specs.Arithmetic.{checked, written, add_integers, subtract_integers, multiply_integers, divide_integers, root_of_float, root_of_integer, of_data, with_datum, of_truths, arithmetic, of_truth}
use Rattle.value.specs.Logic as Logic
use Rattle.sql.specs.Expression.{And, Or, IsNull, IsNaN, Identity, Negate, SquareRoot, GreaterThan, LessThan, Add, Divide, Subtract, Multiply, Unary, Not, Binary, logical, function, Expression, constant, column, unary, binary, evaluate_unary, evaluate_binary, evaluate}
use Rattle.sql.specs.Expression
use Rattle.sheet_laws.specs.Fits.{ValueFits}
use Rattle.sound.specs.Answers.{Valued, valued_bind}
use Rattle.sound.specs.Expressions.{MadeOf}

-- ---- what is written of a Float

abbrev one_nan : ℕ → Bool
one_nan b = not (Ieee.nan_bits binary64 b) || eqb b the_nan

no_other_nan : (x : Float) (b : ℕ) → Ieee.to_bits binary64 x ≡ b → Ieee.nan_bits binary64 b ≡ Ieee.is_nan x → one_nan b ≡ true
unfolding Ieee.to_bits Ieee.is_nan
no_other_nan nan b e h = rw (h, ← e)
no_other_nan (inf s) b e h = rw h
no_other_nan (fin s m x) b e h = rw h

module _ (text : List ℕ) (bytes : ℕ) where
  abbrev P : Value → Type 0
  P = ValueFits text bytes

  abbrev R : Result Value → Type 0
  R = Valued P

  -- the one NaN, which Is NaN looks up
  pub nan_fits : ValueFits text bytes (datum (float the_nan))
  unfolding Ieee.nan_bits
  nan_fits = (omega arith, refl)

  written_fits : (x : Float) → T (Ieee.fits binary64 x) → R (written x)
  written_fits x h =
      (to_bits-lt binary64 x h, no_other_nan x (Ieee.to_bits binary64 x) refl (nan_bits_is binary64 (Ieee.to_bits binary64 x) ∙ ap Ieee.is_nan (of_bits-to_bits binary64 x h)))

  checked_fits : (i : ℤ) → R (checked i)
  unfolding checked
  checked_fits i = go (ltb (mag i) (2 ^ 63)) refl
    where
      go : (b : Bool) → ltb (mag i) (2 ^ 63) ≡ b → R (cond b (ok (datum (integer i))) (err overflow))
      go true e = ltb-true (mag i) (2 ^ 63) e
      go false e = tt

  -- ---- operators on one value

  truth_fits : (a : Truth) → R (of_truth a)
  truth_fits False = tt
  truth_fits Unknown = tt
  truth_fits True = tt

  root_fits : (a : ℕ) → R (root_of_float a)
  root_fits a = subst (λ b. P (datum (float b))) (root_kept a) (written_fits (number_of (square_root_bits a)) (of_bits-fits binary64 (square_root_bits a)))

  integer_root_fits : (i : ℤ) → R (root_of_integer i)
  integer_root_fits (pos n) = root_fits (Ieee.to_bits binary64 (rounded (pos n)))
  integer_root_fits (negsuc n) = tt

  unary_fits : (o : Unary) (v : Value) → P v → R (evaluate_unary o v)
  unary_fits Not (truth a) p = tt
  unary_fits Not (datum d) p = tt
  unary_fits (function IsNull) (truth a) p = tt
  unary_fits (function IsNull) (datum d) p = tt
  unary_fits (function IsNaN) (truth False) p = tt
  unary_fits (function IsNaN) (truth Unknown) p = tt
  unary_fits (function IsNaN) (truth True) p = tt
  unary_fits (function IsNaN) (datum (integer a)) p = tt
  unary_fits (function IsNaN) (datum (float a)) p = tt
  unary_fits (function IsNaN) (datum (string r t)) p = tt
  unary_fits (function Identity) (truth a) p = truth_fits a
  unary_fits (function Identity) (datum (integer a)) p = p
  unary_fits (function Identity) (datum (float a)) p = p
  unary_fits (function Identity) (datum (string r t)) p = tt
  unary_fits (function Negate) (truth a) p = truth_fits a
  unary_fits (function Negate) (datum (integer a)) p = checked_fits (neg_ℤ a)
  unary_fits (function Negate) (datum (float a)) p = written_fits (Ieee.neg (number_of a)) (neg-fits binary64 (number_of a) (of_bits-fits binary64 a))
  unary_fits (function Negate) (datum (string r t)) p = tt
  unary_fits (function SquareRoot) (truth a) p = truth_fits a
  unary_fits (function SquareRoot) (datum (integer a)) p = integer_root_fits a
  unary_fits (function SquareRoot) (datum (float a)) p = root_fits a
  unary_fits (function SquareRoot) (datum (string r t)) p = tt

  -- ---- operators on two values

  logical_fits : (table : Truth → Truth → Truth) (v w : Value) → R (Logic.logical table v w)
  logical_fits table (truth a) (truth b) = tt
  logical_fits table (truth a) (datum g) = tt
  logical_fits table (datum f) w = tt

  answer_fits : (c : Comparison) (holds : Bool) → R (answer c holds)
  answer_fits Null holds = tt
  answer_fits (Found Less) holds = tt
  answer_fits (Found Equal) holds = tt
  answer_fits (Found Greater) holds = tt
  answer_fits (Found Unordered) holds = tt
  answer_fits (Found NotComparable) holds = tt

  compared_fits : (test : Comparison → Bool) (v w : Value) → R (compared test v w)
  compared_fits test v w = answer_fits (compare v w) (test (compare v w))

  with_fits : (a : Truth) (d : Datum) → R (with_datum a d)
  with_fits False d = tt
  with_fits True d = tt
  with_fits Unknown (integer b) = tt
  with_fits Unknown (float b) = tt
  with_fits Unknown (string r t) = tt

  truths_fit : (a b : Truth) → R (of_truths a b)
  truths_fit False b = tt
  truths_fit True b = tt
  truths_fit Unknown False = tt
  truths_fit Unknown Unknown = tt
  truths_fit Unknown True = tt

  module _ (whole : ℤ → ℤ → Result Value) (double : Float → Float → Float)
      (whole_fits : (a b : ℤ) → R (whole a b)) (double_fits : (x y : Float) → T (Ieee.fits binary64 (double x y))) where
    data_fit : (f g : Datum) → R (of_data whole double f g)
    data_fit (integer a) (integer b) = whole_fits a b
    data_fit (integer a) (float b) = written_fits (double (rounded a) (number_of b)) (double_fits (rounded a) (number_of b))
    data_fit (integer a) (string r t) = tt
    data_fit (float a) (integer b) = written_fits (double (number_of a) (rounded b)) (double_fits (number_of a) (rounded b))
    data_fit (float a) (float b) = written_fits (double (number_of a) (number_of b)) (double_fits (number_of a) (number_of b))
    data_fit (float a) (string r t) = tt
    data_fit (string r t) g = tt

    arithmetic_fits : (v w : Value) → R (arithmetic whole double v w)
    arithmetic_fits (truth a) (truth b) = truths_fit a b
    arithmetic_fits (truth a) (datum g) = with_fits a g
    arithmetic_fits (datum f) (truth b) = with_fits b f
    arithmetic_fits (datum f) (datum g) = data_fit f g

  sum_fits : (a b : ℤ) → R (add_integers a b)
  unfolding add_integers
  sum_fits a b = checked_fits (a +ℤ b)

  difference_fits : (a b : ℤ) → R (subtract_integers a b)
  unfolding subtract_integers
  difference_fits a b = checked_fits (a -ℤ b)

  product_fits : (a b : ℤ) → R (multiply_integers a b)
  unfolding multiply_integers
  product_fits a b = checked_fits (a *ℤ b)

  quotient_fits : (a b : ℤ) → R (divide_integers a b)
  unfolding divide_integers
  quotient_fits a (pos zero) = tt
  quotient_fits a (pos (suc b)) = checked_fits (quot_z a (pos (suc b)))
  quotient_fits a (negsuc b) = checked_fits (quot_z a (negsuc b))

  binary_fits : (o : Binary) (v w : Value) → R (evaluate_binary o v w)
  binary_fits (logical And) v w = logical_fits Logic.and v w
  binary_fits (logical Or) v w = logical_fits Logic.or v w
  binary_fits Expression.Equal v w = compared_fits is_equal v w
  binary_fits (function GreaterThan) v w = compared_fits is_greater v w
  binary_fits (function LessThan) v w = compared_fits is_less v w
  binary_fits (function Add) v w = arithmetic_fits add_integers (Ieee.add binary64) sum_fits (add-fits binary64) v w
  binary_fits (function Divide) v w = arithmetic_fits divide_integers (Ieee.div binary64) quotient_fits (div-fits binary64) v w
  binary_fits (function Subtract) v w = arithmetic_fits subtract_integers (Ieee.sub binary64) difference_fits (sub-fits binary64) v w
  binary_fits (function Multiply) v w = arithmetic_fits multiply_integers (Ieee.mul binary64) product_fits (mul-fits binary64) v w

  -- A column outside the row counts as Null.
  pub evaluate_fits : (C : ℕ → Type 0) (e : Expression) → MadeOf (ValueFits text bytes) C e → Valued (ValueFits text bytes) (evaluate [] e)
  evaluate_fits C (constant og v) m = m
  evaluate_fits C (column og c) m = tt
  evaluate_fits C (unary og o x) m = valued_bind P P (evaluate [] x) (evaluate_unary o) (evaluate_fits C x m) (unary_fits o)
  evaluate_fits C (binary og o l r) m =
      valued_bind P P (evaluate [] l) (λ v. Expression.bind (evaluate [] r) (evaluate_binary o v)) (evaluate_fits C l m.0)
      (λ v p. valued_bind P P (evaluate [] r) (evaluate_binary o v) (evaluate_fits C r m.1) (λ w q. binary_fits o v w))
