-- The program logic's comparisons and negation of doubles are IEEE 754's. Assumes nothing.
use mathlib.Core.Path.{◌≡◌, refl, sym, ap, ◌∙◌}
use mathlib.Core.Logic.{inl, inr}
use mathlib.Core.Bool.{Bool, true, false, ◌&&◌, ◌||◌, beq}
use Prim.Native.Nat.{ℕ, zero, suc, ◌+◌, ◌*◌, ◌<◌}
use native.Mathlib.Nat.{eq_of_mul-eq-mul_right, zero-mul, add-mul, zero-lt-suc}
use native.Mathlib.Omega.{arith}
use lib.Dec.{ltb, eqb, leb-suc-zero, leb-suc-suc, eqb-zero-suc, eqb-suc-zero, eqb-suc-suc}
use lib.Signed.{lt_z}
use lib.Pow.{pow_pos}
use borrow.Author.Tests.{lt-ltb, le-ltb, eq-eqb, eqb-true}
use lib.Ieee as Ieee
use lib.Ieee.{Float, up, down, below, level}
use Rattle.ieee754.specs.Ieee754.{one, Double, value, less, same_integer, equal}
use Rattle.ieee754.proofs.Units.{lt_or_le}
use Rattle.ieee754.proofs.Reading.{Stands, a_nan, an_infinity, a_number}
use Rattle.ieee754.proofs.Operations.{order, order_le, left_is, right_is, both_pos}

-- two tests that pass together are one
same_test : (p q : Bool) → (p ≡ true → q ≡ true) → (q ≡ true → p ≡ true) → p ≡ q
same_test true q a b = sym (a refl)
same_test false true a b = b refl
same_test false false a b = refl

and_true : (b : Bool) → (b && true) ≡ b
and_true true = refl
and_true false = refl

and_false : (b : Bool) → (b && false) ≡ false
and_false true = refl
and_false false = refl

and_same : (b : Bool) → (b && b) ≡ b
and_same true = refl
and_same false = refl

-- ---- tests on integers, by sign and magnitude

ltb_zero : (n : ℕ) → ltb n 0 ≡ false
ltb_zero n = leb-suc-zero n

below_is : (s : Bool) (u : ℕ) (t : Bool) (v : ℕ) → below s u t v ≡ lt_z (value s u) (value t v)
below_is false u false v = refl
below_is false u true zero = sym (ltb_zero u)
below_is false u true (suc v) = refl
below_is true zero false v = ap (ltb 0) (zero_plus v)
  where
    zero_plus : (v : ℕ) → 0 + v ≡ v
    zero_plus v = omega arith
below_is true (suc u) false v = lt-ltb 0 (suc u + v) (above u v)
  where
    above : (u v : ℕ) → 0 < suc u + v
    above u v = omega arith
below_is true zero true zero = refl
below_is true zero true (suc v) = ltb_zero (suc v)
below_is true (suc u) true zero = lt-ltb 0 (suc u) (zero-lt-suc u)
below_is true (suc u) true (suc v) = leb-suc-suc (suc v) u

level_is : (s : Bool) (u : ℕ) (t : Bool) (v : ℕ) → level s u t v ≡ same_integer (value s u) (value t v)
level_is false u false v = and_true (eqb u v)
level_is true zero true zero = refl
level_is true zero true (suc v) = and_true (eqb 0 (suc v)) ∙ eqb-zero-suc v
level_is true (suc u) true zero = and_true (eqb (suc u) 0) ∙ eqb-suc-zero u
level_is true (suc u) true (suc v) = and_true (eqb (suc u) (suc v)) ∙ eqb-suc-suc u v
level_is false u true zero = and_same (eqb u 0)
level_is false zero true (suc v) = ap (λ (b : Bool). b && (false || eqb 0 0)) (eqb-zero-suc v)
level_is false (suc u) true (suc v) = ap (λ (b : Bool). eqb (suc u) (suc v) && (false || b)) (eqb-suc-zero u) ∙ and_false (eqb (suc u) (suc v))
level_is true zero false v = and_true (eqb 0 v)
level_is true (suc u) false v = ap (λ (b : Bool). eqb (suc u) v && (false || b)) (eqb-suc-zero u) ∙ and_false (eqb (suc u) v)

-- ---- two finite doubles as fractions with one denominator
module _ (a b c u v : ℕ) (C : 0 < c) (p : a * one ≡ u * c) (q : b * one ≡ v * c) where
  ltb_same : ltb a b ≡ ltb u v
  ltb_same = elim (lt_or_le u v) [
    | inl l ↦ lt-ltb a b (order a b c u v C p q l) ∙ sym (lt-ltb u v l)
    | inr g ↦ le-ltb a b (order_le b a c v u C q p g) ∙ sym (le-ltb u v g)
  ]

  eqb_same : eqb a b ≡ eqb u v
  eqb_same =
      same_test (eqb a b) (eqb u v)
      (λ h. eq-eqb u v (eq_of_mul-eq-mul_right c C u v (sym p ∙ ap (λ (x : ℕ). x * one) (eqb-true a b h) ∙ q)))
      (λ h. eq-eqb a b (eq_of_mul-eq-mul_right one (pow_pos 1074) a b (p ∙ ap (λ (x : ℕ). x * c) (eqb-true u v h) ∙ sym q)))

module _ (a b c u v : ℕ) (C : 0 < c) (p : a * one ≡ u * c) (q : b * one ≡ v * c) where
  nothing : 0 * one ≡ 0 * c
  nothing = zero-mul one ∙ sym (zero-mul c)

  together : (a + b) * one ≡ (u + v) * c
  together = add-mul a b one ∙ ap (λ (x : ℕ). x + b * one) p ∙ ap (λ (x : ℕ). u * c + x) q ∙ sym (add-mul u v c)

  below_same : (s t : Bool) → below s a t b ≡ below s u t v
  below_same false false = ltb_same a b c u v C p q
  below_same false true = refl
  below_same true false = ltb_same 0 (a + b) c 0 (u + v) C nothing together
  below_same true true = ltb_same b a c v u C q p

  level_same : (s t : Bool) → level s a t b ≡ level s u t v
  level_same s t =
      ap (λ (x : Bool). x && (beq s t || eqb a 0)) (eqb_same a b c u v C p q)
      ∙ ap (λ (x : Bool). eqb u v && (beq s t || x)) (eqb_same a 0 c u 0 C p nothing)

pub less_law : {x y : Float} {d e : Double} → Stands x d → Stands y e → Ieee.lt x y ≡ less d e
unfolding Ieee.lt
less_law a_nan k = refl
less_law (an_infinity s) a_nan = refl
less_law (an_infinity s) (an_infinity t) = refl
less_law (an_infinity s) (a_number q) = refl
less_law (a_number p) a_nan = refl
less_law (a_number p) (an_infinity t) = refl
less_law (a_number {s = s} {m = m} {e = i} {u = u} p) (a_number {s = t} {m = n} {e = j} {u = v} q) =
    below_same (m * up i * down j) (n * up j * down i) (down i * down j) u v (both_pos m i n j u v p q) (left_is m i n j u v p q) (right_is m i n j u v p q) s t
    ∙ below_is s u t v

pub equal_law : {x y : Float} {d e : Double} → Stands x d → Stands y e → Ieee.eq x y ≡ equal d e
unfolding Ieee.eq
equal_law a_nan k = refl
equal_law (an_infinity s) a_nan = refl
equal_law (an_infinity s) (an_infinity t) = refl
equal_law (an_infinity s) (a_number q) = refl
equal_law (a_number p) a_nan = refl
equal_law (a_number p) (an_infinity t) = refl
equal_law (a_number {s = s} {m = m} {e = i} {u = u} p) (a_number {s = t} {m = n} {e = j} {u = v} q) =
    level_same (m * up i * down j) (n * up j * down i) (down i * down j) u v (both_pos m i n j u v p q) (left_is m i n j u v p q) (right_is m i n j u v p q) s t
    ∙ level_is s u t v
