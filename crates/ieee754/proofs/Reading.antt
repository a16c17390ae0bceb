-- The program logic's library reads and writes a pattern as `read` does. Assumes nothing.
use mathlib.Core.Path.{◌≡◌, refl, sym, ap, ◌∙◌, subst}
use mathlib.Core.Logic.{inl, inr}
use mathlib.Core.Bool.{Bool, true, cond, false≢true}
use Prim.Native.Nat.{ℕ, zero, suc, ◌+◌, ◌*◌, ◌/◌, ◌%◌, ◌^◌, ◌≤◌, ◌<◌}
use native.Mathlib.Nat.{mul-one, mod-mod_of_dvd, dvd-mul_right, div-lt_iff_lt-mul, eq-or-lt_of_le, le_of_eq, le_of_lt}
use native.Mathlib.Omega.{arith}
use lib.Dec.{T, eqb}
use lib.IntN.{ℤ}
use lib.Pow.{pow_pos}
use borrow.Author.Tests.{lt-ltb, le-ltb, le-leb, lt-leb, eq-eqb, ne_eqb}
use lib.Ieee as Ieee
use lib.Ieee.{Float, binary64, up, down, odd, of_fields, of_bits, to_bits, is_nan, fits}
use lib.Ieee.Exact.{HasValue, odd_sign}
use lib.Ieee.Bits.{of_bits-to_bits, nan_bits_is, nan_bits_above}
use Rattle.ieee754.specs.Ieee754.{infinity, one, double_of_fields, units, with_sign, negative, without_sign, Double, nan, infinite, finite, read}
use Rattle.ieee754.proofs.Units.{lt_or_le}

-- x, a float of the library, is what the double d stands for
pub data Stands : Float → Double → Type 0 where
  a_nan : Stands Ieee.nan nan
  an_infinity : (s : Bool) → Stands (Ieee.inf s) (infinite s)
  a_number : {s : Bool} {m : ℕ} {e : ℤ} {u : ℕ} → m * up e * one ≡ u * down e → Stands (Ieee.fin s m e) (finite s u)

-- ---- the sign and the rest

pub sign_and_rest : (b : ℕ) → b < 2 ^ 64 → b ≡ with_sign (negative b) (without_sign b)
sign_and_rest b h = elim (lt_or_le b (2 ^ 63)) [
  | inl l ↦ low b l ∙ ap (λ (s : Bool). with_sign s (b % 2 ^ 63)) (sym (lt-leb (2 ^ 63) b l))
  | inr g ↦ high b h g ∙ ap (λ (s : Bool). with_sign s (b % 2 ^ 63)) (sym (le-leb (2 ^ 63) b g))
]
  where
    low : (b : ℕ) → b < 2 ^ 63 → b ≡ b % 2 ^ 63
    low b l = omega arith

    high : (b : ℕ) → b < 2 ^ 64 → 2 ^ 63 ≤ b → b ≡ 2 ^ 63 + b % 2 ^ 63
    high b h g = omega arith

-- ---- `read` by the pattern without its sign

pub read_nan : (b : ℕ) → infinity < without_sign b → read b ≡ nan
unfolding read
read_nan b h = ap (λ (t : Bool). cond t nan (cond (eqb (without_sign b) infinity) (infinite (negative b)) (finite (negative b) (units (without_sign b))))) (lt-ltb infinity (without_sign b) h)

pub read_infinite : (b : ℕ) → without_sign b ≡ infinity → read b ≡ infinite (negative b)
unfolding read
read_infinite b h =
    ap (λ (t : Bool). cond t nan (cond (eqb (without_sign b) infinity) (infinite (negative b)) (finite (negative b) (units (without_sign b))))) (le-ltb infinity (without_sign b) (le_of_eq h))
    ∙ ap (λ (t : Bool). cond t (infinite (negative b)) (finite (negative b) (units (without_sign b)))) (eq-eqb (without_sign b) infinity h)

pub read_finite : (b : ℕ) → without_sign b < infinity → read b ≡ finite (negative b) (units (without_sign b))
unfolding read
read_finite b h =
    ap (λ (t : Bool). cond t nan (cond (eqb (without_sign b) infinity) (infinite (negative b)) (finite (negative b) (units (without_sign b))))) (le-ltb infinity (without_sign b) (le_of_lt h))
    ∙ ap (λ (t : Bool). cond t (infinite (negative b)) (finite (negative b) (units (without_sign b)))) (ne_eqb (without_sign b) infinity (λ e. differ (without_sign b) h e))
  where
    differ : (x : ℕ) → x < infinity → x ≡ infinity → ⊥
    differ x h e = omega arith

-- ---- `of_bits`

-- what is read from the fields of a pattern below infinity's has that many units
fields_value : (s : Bool) (x t : ℕ) → x < 2047 → HasValue (of_fields binary64 s x t) s (double_of_fields x t) one
unfolding of_fields
fields_value s zero t h = subst (λ (a : ℕ). HasValue (odd 53 s t 0 1074) s a one) (mul-one t) (odd_sign 53 s t 0 1074)
fields_value s (suc x) t h =
    subst (λ (v : Float). HasValue v s (double_of_fields (suc x) t) one)
    (sym (ap (λ (c : Bool). cond c (cond (eqb t 0) (Ieee.inf s) Ieee.nan) (odd 53 s (2 ^ 52 + t) x 1074)) (ne_eqb (suc x) 2047 (λ e. differ (suc x) h e))))
    (odd_sign 53 s (2 ^ 52 + t) x 1074)
  where
    differ : (x : ℕ) → x < 2047 → x ≡ 2047 → ⊥
    differ x h e = omega arith

stands_finite : (x : Float) (s : Bool) (u : ℕ) → HasValue x s u one → Stands x (finite s u)
stands_finite Ieee.nan s u h = absurd h
stands_finite (Ieee.inf t) s u h = absurd h
stands_finite (Ieee.fin t m e) s u h = subst (λ (r : Bool). Stands (Ieee.fin t m e) (finite r u)) h.0 (a_number h.1)

pub ofBits_fields : (b : ℕ) → of_bits binary64 b ≡ of_fields binary64 (negative b) (without_sign b / 2 ^ 52) (without_sign b % 2 ^ 52)
unfolding of_bits
ofBits_fields b = ap (of_fields binary64 (negative b) (without_sign b / 2 ^ 52)) (sym (mod-mod_of_dvd (2 ^ 52) b (dvd-mul_right (2 ^ 52) 2048)))

pub stands_nan : (x : Float) → is_nan x ≡ true → Stands x nan
unfolding is_nan
stands_nan Ieee.nan h = a_nan
stands_nan (Ieee.inf s) h = absurd (false≢true h)
stands_nan (Ieee.fin s m e) h = absurd (false≢true h)

-- every pattern
pub reads : (b : ℕ) → Stands (of_bits binary64 b) (read b)
reads b = elim (lt_or_le infinity (without_sign b)) [
  | inl l ↦
      subst (λ (d : Double). Stands (of_bits binary64 b) d) (sym (read_nan b l))
      (stands_nan (of_bits binary64 b) (sym (nan_bits_is binary64 b) ∙ nan_bits_above binary64 b ∙ lt-ltb infinity (without_sign b) l))
  | inr g ↦ elim (eq-or-lt_of_le g) [
    | inl e ↦
        subst (λ (d : Double). Stands (of_bits binary64 b) d) (sym (read_infinite b e))
        (subst (λ (x : Float). Stands x (infinite (negative b))) (sym (ofBits_fields b ∙ ap (λ (p : ℕ). of_fields binary64 (negative b) (p / 2 ^ 52) (p % 2 ^ 52)) e ∙ at_infinity (negative b))) (an_infinity (negative b)))
    | inr l ↦
        subst (λ (d : Double). Stands (of_bits binary64 b) d) (sym (read_finite b l))
        (subst (λ (x : Float). Stands x (finite (negative b) (units (without_sign b)))) (sym (ofBits_fields b))
        (stands_finite (of_fields binary64 (negative b) (without_sign b / 2 ^ 52) (without_sign b % 2 ^ 52)) (negative b) (units (without_sign b))
        (unfold units in fields_value (negative b) (without_sign b / 2 ^ 52) (without_sign b % 2 ^ 52) ((div-lt_iff_lt-mul (pow_pos 52)).1 l))))
  ]
]
  where
    at_infinity : (s : Bool) → of_fields binary64 s (infinity / 2 ^ 52) (infinity % 2 ^ 52) ≡ Ieee.inf s
    at_infinity s = unfold of_fields in refl

-- every float of the format
pub writes : (x : Float) → T (fits binary64 x) → Stands x (read (to_bits binary64 x))
writes x h = subst (λ (y : Float). Stands y (read (to_bits binary64 x))) (of_bits-to_bits binary64 x h) (reads (to_bits binary64 x))
