-- The program logic's negation of a double changes the sign's bit alone. Assumes nothing.
use mathlib.Core.Path.{◌≡◌, refl, sym, ap, ◌∙◌, subst}
use mathlib.Core.Logic.{inl, inr}
use mathlib.Core.Bool.{Bool, true, false, not, cond, false≢true}
use Prim.Native.Nat.{ℕ, zero, suc, ◌+◌, ◌/◌, ◌%◌, ◌^◌, ◌≤◌, ◌<◌}
use native.Mathlib.Nat.{mod-lt}
use native.Mathlib.Omega.{arith}
use lib.Dec.{T, ltb, eqb}
use lib.Pow.{pow_pos}
use borrow.Author.Tests.{lt-ltb, le-ltb, lt-leb, le-leb}
use lib.Ieee as Ieee
use lib.Ieee.{Float, binary64, odd, of_fields, of_bits, to_bits, is_nan, neg}
use lib.Ieee.Bits.{to_bits-of_bits, nan_bits_is, nan_bits_above}
use Rattle.ieee754.specs.Ieee754.{infinity, with_sign, negative, without_sign, Is, exactly, no_number, negation}
use Rattle.ieee754.proofs.Units.{lt_or_le}
use Rattle.ieee754.proofs.Reading.{ofBits_fields}
use Rattle.ieee754.proofs.Operations.{to_bits_nan}

neg_odd : (d : ℕ) (s : Bool) (q k l : ℕ) → neg (odd d s q k l) ≡ odd d (not s) q k l
unfolding neg odd
neg_odd d s zero k l = refl
neg_odd d s (suc q) k l = refl

neg_fields : (s : Bool) (x t : ℕ) → neg (of_fields binary64 s x t) ≡ of_fields binary64 (not s) x t
unfolding of_fields
neg_fields s zero t = neg_odd 53 s t 0 1074
neg_fields s (suc x) t = by (eqb (suc x) 2047) (eqb t 0) (odd 53 s (2 ^ 52 + t) x 1074) (odd 53 (not s) (2 ^ 52 + t) x 1074) (neg_odd 53 s (2 ^ 52 + t) x 1074)
  where
    by : (b c : Bool) (v w : Float) → neg v ≡ w → neg (cond b (cond c (Ieee.inf s) Ieee.nan) v) ≡ cond b (cond c (Ieee.inf (not s)) Ieee.nan) w
    by true true v w h = unfold neg in refl
    by true false v w h = unfold neg in refl
    by false c v w h = h

-- ---- the sign put before the rest

signed_rest : (s : Bool) (p : ℕ) → p < 2 ^ 63 → without_sign (with_sign s p) ≡ p
signed_rest false p h = omega arith
signed_rest true p h = omega arith

signed_sign : (s : Bool) (p : ℕ) → p < 2 ^ 63 → negative (with_sign s p) ≡ s
signed_sign false p h = lt-leb (2 ^ 63) p h
signed_sign true p h = le-leb (2 ^ 63) (2 ^ 63 + p) (above p)
  where
    above : (p : ℕ) → 2 ^ 63 ≤ 2 ^ 63 + p
    above p = omega arith

signed_lt : (s : Bool) (p : ℕ) → p < 2 ^ 63 → with_sign s p < 2 ^ 64
signed_lt false p h = omega arith
signed_lt true p h = omega arith

module _ (b : ℕ) where
  abbrev turned : ℕ
  turned = with_sign (not (negative b)) (without_sign b)

  rest_lt : without_sign b < 2 ^ 63
  rest_lt = mod-lt b (pow_pos 63)

  turned_is : neg (of_bits binary64 b) ≡ of_bits binary64 turned
  turned_is =
      ap neg (ofBits_fields b)
      ∙ neg_fields (negative b) (without_sign b / 2 ^ 52) (without_sign b % 2 ^ 52)
      ∙ ap (λ (s : Bool). of_fields binary64 s (without_sign b / 2 ^ 52) (without_sign b % 2 ^ 52)) (sym (signed_sign (not (negative b)) (without_sign b) rest_lt))
      ∙ ap (λ (p : ℕ). of_fields binary64 (negative turned) (p / 2 ^ 52) (p % 2 ^ 52)) (sym (signed_rest (not (negative b)) (without_sign b) rest_lt))
      ∙ sym (ofBits_fields turned)

  nan_is : (c : ℕ) → is_nan (of_bits binary64 c) ≡ ltb infinity (without_sign c)
  nan_is c = sym (nan_bits_is binary64 c) ∙ nan_bits_above binary64 c

  nan_stays : (x : Float) → is_nan x ≡ true → to_bits binary64 (neg x) ≡ to_bits binary64 Ieee.nan
  unfolding is_nan neg
  nan_stays Ieee.nan h = refl
  nan_stays (Ieee.inf s) h = absurd (false≢true h)
  nan_stays (Ieee.fin s m e) h = absurd (false≢true h)

  pub negation_law : Is (negation b) (to_bits binary64 (neg (of_bits binary64 b)))
  negation_law = elim (lt_or_le infinity (without_sign b)) [
    | inl l ↦
        subst (λ (t : Bool). Is (cond t no_number (exactly turned)) (to_bits binary64 (neg (of_bits binary64 b)))) (sym (lt-ltb infinity (without_sign b) l))
        (nan_stays (of_bits binary64 b) (nan_is b ∙ lt-ltb infinity (without_sign b) l) ∙ to_bits_nan)
    | inr g ↦
        subst (λ (t : Bool). Is (cond t no_number (exactly turned)) (to_bits binary64 (neg (of_bits binary64 b)))) (sym (le-ltb infinity (without_sign b) g))
        (ap (to_bits binary64) turned_is
        ∙ to_bits-of_bits binary64 turned (signed_lt (not (negative b)) (without_sign b) rest_lt)
        (subst (λ (t : Bool). T (not t))
        (sym (nan_is turned ∙ ap (ltb infinity) (signed_rest (not (negative b)) (without_sign b) rest_lt) ∙ le-ltb infinity (without_sign b) g))
        tt))
  ]
