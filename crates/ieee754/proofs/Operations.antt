-- The program logic's operations on doubles give what IEEE 754 asks for. Assumes nothing.
use mathlib.Core.Path.{◌≡◌, refl, sym, ap, ◌∙◌, subst}
use mathlib.Core.Logic.{inl, inr}
use mathlib.Core.Bool.{Bool, true, false, not, ◌||◌, beq, cond}
use Prim.Native.Nat.{ℕ, zero, suc, ◌+◌, ◌-◌, ◌*◌, ◌≤◌, ◌<◌}
use native.Mathlib.Nat.{le_refl, le_trans, le_of_eq, le_of_lt, lt_of_le_of_lt, lt_of_lt_of_le, mul-pos, mul-one, zero-mul, zero-lt-suc, lt_irrefl, mul_comm, mul_assoc, mul_right_comm, mul-mul-mul_comm, add-mul, mul-le-mul_right, mul-lt-mul_of_pos_right, le_of_mul-le-mul_right, lt_of_mul-lt-mul_right, eq-or-lt_of_le}
use native.Mathlib.Omega.{arith}
use lib.Dec.{ltb, eqb}
use lib.IntN.{ℤ, pos, negsuc, neg_ℤ, nat_abs, ◌+ℤ◌, +ℤ_comm, neg_ℤ-+ℤ}
use lib.Signed.{non_neg}
use lib.Pow.{pow_pos}
use borrow.Author.Tests.{lt-ltb, le-ltb, eq-eqb, ne_eqb}
use lib.Ieee as Ieee
use lib.Ieee.{Float, binary64, up, down, round, to_bits}
use lib.Ieee.Fits.{up_pos, down_pos}
use Rattle.ieee754.specs.Ieee754.{quiet_nan, one, with_sign, Rounded, Is, no_number, infinite_with, Double, value, unlike, sum_of, sum, opposite, difference, infinite_times, product, quotient_of, quotient}
use Rattle.ieee754.proofs.Units.{lt_or_le}
use Rattle.ieee754.proofs.Nearest.{sub_mul, nearest_same}
use Rattle.ieee754.proofs.Reading.{Stands, a_nan, an_infinity, a_number}
use Rattle.ieee754.proofs.Rounding.{round_nearest, toBits_infinite}

pub to_bits_nan : to_bits binary64 Ieee.nan ≡ quiet_nan
unfolding to_bits
to_bits_nan = refl

-- ---- `round` of a fraction a / c that is n / d units
pub round_at : (s : Bool) (a c n d : ℕ) → 0 < c → 0 < d → a * one * d ≡ n * c → Rounded s n d (to_bits binary64 (round binary64 s a c))
round_at s a c n d C D e =
    let r = round_nearest a c C s in
    record { pattern = r.pattern; nearest = nearest_same (a * one) c n d C D e r.nearest; signed = r.signed }

rounded_as : {s t : Bool} {n m d r : ℕ} → s ≡ t → n ≡ m → Rounded t m d r → Rounded s n d r
rounded_as {s} {t} {n} {m} {d} {r} p q a = subst (λ (b : Bool). Rounded b n d r) (sym p) (subst (λ (k : ℕ). Rounded t k d r) (sym q) a)

-- ---- two finite doubles as fractions with one denominator: a / c is u units, b / c is v units
module _ (a b c u v : ℕ) (C : 0 < c) (p : a * one ≡ u * c) (q : b * one ≡ v * c) where
  pub order : u < v → a < b
  order h = lt_of_mul-lt-mul_right one (lt_of_le_of_lt (le_of_eq p) (lt_of_lt_of_le (mul-lt-mul_of_pos_right h C) (le_of_eq (sym q))))

  pub order_le : u ≤ v → a ≤ b
  order_le h = le_of_mul-le-mul_right (le_trans (le_of_eq p) (le_trans (mul-le-mul_right c h) (le_of_eq (sym q)))) (pow_pos 1074)

  plus_at : (s : Bool) → Rounded s (u + v) 1 (to_bits binary64 (round binary64 s (a + b) c))
  plus_at s = round_at s (a + b) c (u + v) 1 C (le_refl 1) (mul-one ((a + b) * one) ∙ add-mul a b one ∙ ap (λ (x : ℕ). x + b * one) p ∙ ap (λ (x : ℕ). u * c + x) q ∙ sym (add-mul u v c))

  minus_at : (s : Bool) → Rounded s (u - v) 1 (to_bits binary64 (round binary64 s (a - b) c))
  minus_at s = round_at s (a - b) c (u - v) 1 C (le_refl 1) (mul-one ((a - b) * one) ∙ sub_mul a b one ∙ ap (λ (x : ℕ). x - b * one) p ∙ ap (λ (x : ℕ). u * c - x) q ∙ sym (sub_mul u v c))

-- ---- the sum

-- u - v as an integer
minus_lt : (u v : ℕ) → u < v → pos u +ℤ neg_ℤ (pos v) ≡ negsuc (v - suc u)
minus_lt u zero h = absurd (none u h)
  where
    none : (u : ℕ) → u < 0 → ⊥
    none u h = omega arith
minus_lt u (suc v) h = ap (λ (t : Bool). cond t (negsuc (suc v - suc u)) (pos (u - suc v))) (lt-ltb u (suc v) h)

minus_ge : (u v : ℕ) → v ≤ u → pos u +ℤ neg_ℤ (pos v) ≡ pos (u - v)
minus_ge u zero h = ap pos (same u)
  where
    same : (u : ℕ) → u + 0 ≡ u - 0
    same u = omega arith
minus_ge u (suc v) h = ap (λ (t : Bool). cond t (negsuc (suc v - suc u)) (pos (u - suc v))) (le-ltb u (suc v) h)

suc_minus : (u v : ℕ) → u < v → suc (v - suc u) ≡ v - u
suc_minus u v h = omega arith

sum_finite : (s t : Bool) (a b c u v : ℕ) → 0 < c → a * one ≡ u * c → b * one ≡ v * c
    → Is (sum_of s t (value s u +ℤ value t v)) (to_bits binary64 (Ieee.sum binary64 s a t b c))
unfolding Ieee.sum
sum_finite false false a b c u v C p q = plus_at a b c u v C p q false
sum_finite true true a b c u v C p q =
    let e = neg_ℤ-+ℤ (pos u) (pos v) in
    rounded_as (or_true (not (non_neg (neg_ℤ (pos u) +ℤ neg_ℤ (pos v))))) (ap nat_abs (sym e) ∙ natAbs_negative (u + v)) (plus_at a b c u v C p q true)
  where
    or_true : (x : Bool) → (x || true) ≡ true
    or_true true = refl
    or_true false = refl

    natAbs_negative : (n : ℕ) → nat_abs (neg_ℤ (pos n)) ≡ n
    natAbs_negative zero = refl
    natAbs_negative (suc n) = refl
sum_finite false true a b c u v C p q = elim (lt_or_le u v) [
  | inl l ↦
      let e = minus_lt u v l in
      subst (λ (x : Float). Rounded (not (non_neg (pos u +ℤ neg_ℤ (pos v))) || false) (nat_abs (pos u +ℤ neg_ℤ (pos v))) 1 (to_bits binary64 x))
      (ap (λ (t : Bool). cond t (round binary64 true (b - a) c) (round binary64 false (a - b) c)) (sym (lt-ltb a b (order a b c u v C p q l))))
      (rounded_as (ap (λ (z : ℤ). not (non_neg z) || false) e) (ap nat_abs e ∙ suc_minus u v l) (minus_at b a c v u C q p true))
  | inr g ↦
      let e = minus_ge u v g in
      subst (λ (x : Float). Rounded (not (non_neg (pos u +ℤ neg_ℤ (pos v))) || false) (nat_abs (pos u +ℤ neg_ℤ (pos v))) 1 (to_bits binary64 x))
      (ap (λ (t : Bool). cond t (round binary64 true (b - a) c) (round binary64 false (a - b) c)) (sym (le-ltb a b (order_le b a c v u C q p g))))
      (rounded_as (ap (λ (z : ℤ). not (non_neg z) || false) e) (ap nat_abs e) (minus_at a b c u v C p q false))
]
sum_finite true false a b c u v C p q = elim (lt_or_le u v) [
  | inl l ↦
      let e = +ℤ_comm (neg_ℤ (pos u)) (pos v) ∙ minus_ge v u (le_of_lt l) in
      subst (λ (x : Float). Rounded (not (non_neg (neg_ℤ (pos u) +ℤ pos v)) || false) (nat_abs (neg_ℤ (pos u) +ℤ pos v)) 1 (to_bits binary64 x))
      (ap (λ (t : Bool). cond t (round binary64 false (b - a) c) (round binary64 (ltb b a) (a - b) c)) (sym (lt-ltb a b (order a b c u v C p q l))))
      (rounded_as (ap (λ (z : ℤ). not (non_neg z) || false) e) (ap nat_abs e) (minus_at b a c v u C q p false))
  | inr g ↦
      subst (λ (x : Float). Rounded (not (non_neg (neg_ℤ (pos u) +ℤ pos v)) || false) (nat_abs (neg_ℤ (pos u) +ℤ pos v)) 1 (to_bits binary64 x))
      (ap (λ (t : Bool). cond t (round binary64 false (b - a) c) (round binary64 (ltb b a) (a - b) c)) (sym (le-ltb a b (order_le b a c v u C q p g))))
      (elim (eq-or-lt_of_le g) [
        | inl same ↦
            let e = +ℤ_comm (neg_ℤ (pos u)) (pos v) ∙ minus_ge v u (le_of_eq (sym same)) in
            subst (λ (t : Bool). Rounded (not (non_neg (neg_ℤ (pos u) +ℤ pos v)) || false) (nat_abs (neg_ℤ (pos u) +ℤ pos v)) 1 (to_bits binary64 (round binary64 t (a - b) c)))
            (sym (le-ltb b a (order_le a b c u v C p q (le_of_eq (sym same)))))
            (rounded_as (ap (λ (z : ℤ). not (non_neg z) || false) e) (ap nat_abs e ∙ none u v same) (minus_at a b c u v C p q false))
        | inr l ↦
            let e = +ℤ_comm (neg_ℤ (pos u)) (pos v) ∙ minus_lt v u l in
            subst (λ (t : Bool). Rounded (not (non_neg (neg_ℤ (pos u) +ℤ pos v)) || false) (nat_abs (neg_ℤ (pos u) +ℤ pos v)) 1 (to_bits binary64 (round binary64 t (a - b) c)))
            (sym (lt-ltb b a (order b a c v u C q p l)))
            (rounded_as (ap (λ (z : ℤ). not (non_neg z) || false) e) (ap nat_abs e ∙ suc_minus v u l) (minus_at a b c u v C p q true))
      ])
]
  where
    none : (u v : ℕ) → v ≡ u → v - u ≡ u - v
    none u v e = omega arith

-- ---- two finite floats with one denominator
module _ (m : ℕ) (e : ℤ) (n : ℕ) (d : ℤ) (u v : ℕ) (p : m * up e * one ≡ u * down e) (q : n * up d * one ≡ v * down d) where
  pub left_is : m * up e * down d * one ≡ u * (down e * down d)
  left_is = mul_right_comm (m * up e) (down d) one ∙ ap (λ (x : ℕ). x * down d) p ∙ mul_assoc u (down e) (down d)

  pub right_is : n * up d * down e * one ≡ v * (down e * down d)
  right_is = mul_right_comm (n * up d) (down e) one ∙ ap (λ (x : ℕ). x * down e) q ∙ mul_assoc v (down d) (down e) ∙ ap (λ (x : ℕ). v * x) (mul_comm (down d) (down e))

  pub both_pos : 0 < down e * down d
  both_pos = mul-pos (down_pos e) (down_pos d)

infinity_or_nan : (b s : Bool) → Is (cond b (infinite_with s) no_number) (to_bits binary64 (cond b (Ieee.inf s) Ieee.nan))
infinity_or_nan true s = toBits_infinite s
infinity_or_nan false s = to_bits_nan

pub sum_law : {x y : Float} {d e : Double} → Stands x d → Stands y e → Is (sum d e) (to_bits binary64 (Ieee.add binary64 x y))
unfolding Ieee.add
sum_law a_nan k = to_bits_nan
sum_law (an_infinity s) a_nan = to_bits_nan
sum_law (an_infinity s) (an_infinity t) = infinity_or_nan (beq s t) s
sum_law (an_infinity s) (a_number q) = toBits_infinite s
sum_law (a_number p) a_nan = to_bits_nan
sum_law (a_number p) (an_infinity t) = toBits_infinite t
sum_law (a_number {s = s} {m = m} {e = i} {u = u} p) (a_number {s = t} {m = n} {e = j} {u = v} q) =
    sum_finite s t (m * up i * down j) (n * up j * down i) (down i * down j) u v (both_pos m i n j u v p q) (left_is m i n j u v p q) (right_is m i n j u v p q)

-- ---- the difference

opposite_stands : {y : Float} {e : Double} → Stands y e → Stands (Ieee.neg y) (opposite e)
unfolding Ieee.neg
opposite_stands a_nan = a_nan
opposite_stands (an_infinity s) = an_infinity (not s)
opposite_stands (a_number p) = a_number p

pub difference_law : {x y : Float} {d e : Double} → Stands x d → Stands y e → Is (difference d e) (to_bits binary64 (Ieee.sub binary64 x y))
unfolding Ieee.sub
difference_law h k = sum_law h (opposite_stands k)

-- ---- the quotient

-- a float of no units has the significand 0, and only such a float
zero_of : (m : ℕ) (e : ℤ) (u : ℕ) → m * up e * one ≡ u * down e → u ≡ 0 → m ≡ 0
zero_of zero e u p z = refl
zero_of (suc m) e u p z = absurd (lt_irrefl 0 (subst (λ (x : ℕ). 0 < x) (p ∙ ap (λ (x : ℕ). x * down e) z ∙ zero-mul (down e)) (mul-pos (mul-pos (zero-lt-suc m) (up_pos e)) (pow_pos 1074))))

nonzero_of : (m : ℕ) (e : ℤ) (u : ℕ) → m * up e * one ≡ u * down e → 0 < u → m ≡ 0 → ⊥
nonzero_of m e u p h z =
    lt_irrefl 0
    (subst (λ (x : ℕ). 0 < x) (sym p ∙ ap (λ (x : ℕ). x * up e * one) z ∙ ap (λ (x : ℕ). x * one) (zero-mul (up e)) ∙ zero-mul one) (mul-pos h (down_pos e)))

toBits_zero : (s : Bool) → to_bits binary64 (Ieee.fin s 0 (pos 0)) ≡ with_sign s 0
unfolding to_bits
toBits_zero true = refl
toBits_zero false = refl

quotient_finite : (s : Bool) (m : ℕ) (e : ℤ) (n : ℕ) (d : ℤ) (u v : ℕ) → m * up e * one ≡ u * down e → n * up d * one ≡ v * down d
    → Is (quotient_of s u v) (to_bits binary64 (cond (eqb n 0) (cond (eqb m 0) Ieee.nan (Ieee.inf s)) (round binary64 s (m * up e * down d) (n * up d * down e))))
quotient_finite s m e n d zero zero p q =
    ap (λ (b : Bool). to_bits binary64 (cond b (cond (eqb m 0) Ieee.nan (Ieee.inf s)) (round binary64 s (m * up e * down d) (n * up d * down e)))) (eq-eqb n 0 (zero_of n d 0 q refl))
    ∙ ap (λ (b : Bool). to_bits binary64 (cond b Ieee.nan (Ieee.inf s))) (eq-eqb m 0 (zero_of m e 0 p refl))
    ∙ to_bits_nan
quotient_finite s m e n d (suc u) zero p q =
    ap (λ (b : Bool). to_bits binary64 (cond b (cond (eqb m 0) Ieee.nan (Ieee.inf s)) (round binary64 s (m * up e * down d) (n * up d * down e)))) (eq-eqb n 0 (zero_of n d 0 q refl))
    ∙ ap (λ (b : Bool). to_bits binary64 (cond b Ieee.nan (Ieee.inf s))) (ne_eqb m 0 (nonzero_of m e (suc u) p (zero-lt-suc u)))
    ∙ toBits_infinite s
quotient_finite s m e n d u (suc v) p q =
    subst (λ (b : Bool). Rounded s (u * one) (suc v) (to_bits binary64 (cond b (cond (eqb m 0) Ieee.nan (Ieee.inf s)) (round binary64 s (m * up e * down d) (n * up d * down e)))))
    (sym (ne_eqb n 0 (nonzero_of n d (suc v) q (zero-lt-suc v))))
    (round_at s (m * up e * down d) (n * up d * down e) (u * one) (suc v) (mul-pos (mul-pos (positive n (nonzero_of n d (suc v) q (zero-lt-suc v))) (up_pos d)) (down_pos e)) (zero-lt-suc v)
    (cross (m * up e * down d) (n * up d * down e) u (suc v) (down e * down d) (left_is m e n d u (suc v) p q) (right_is m e n d u (suc v) p q)))
  where
    positive : (n : ℕ) → (n ≡ 0 → ⊥) → 0 < n
    positive n h = omega arith

    cross : (a c u v k : ℕ) → a * one ≡ u * k → c * one ≡ v * k → a * one * v ≡ u * one * c
    cross a c u v k p q =
        ap (λ (x : ℕ). x * v) p
        ∙ mul_assoc u k v
        ∙ ap (λ (x : ℕ). u * x) (mul_comm k v ∙ sym q ∙ mul_comm c one)
        ∙ sym (mul_assoc u one c)

pub quotient_law : {x y : Float} {d e : Double} → Stands x d → Stands y e → Is (quotient d e) (to_bits binary64 (Ieee.div binary64 x y))
unfolding Ieee.div
quotient_law a_nan k = to_bits_nan
quotient_law (an_infinity s) a_nan = to_bits_nan
quotient_law (an_infinity s) (an_infinity t) = to_bits_nan
quotient_law (an_infinity s) (a_number {s = t} q) = toBits_infinite (unlike s t)
quotient_law (a_number p) a_nan = to_bits_nan
quotient_law (a_number {s = s} p) (an_infinity t) = toBits_zero (unlike s t)
quotient_law (a_number {s = s} {m = m} {e = i} {u = u} p) (a_number {s = t} {m = n} {e = j} {u = v} q) = quotient_finite (unlike s t) m i n j u v p q

-- ---- the product

infinite_finite : (s : Bool) (m : ℕ) (e : ℤ) (u : ℕ) → m * up e * one ≡ u * down e → Is (infinite_times s u) (to_bits binary64 (cond (eqb m 0) Ieee.nan (Ieee.inf s)))
infinite_finite s m e zero p = ap (λ (b : Bool). to_bits binary64 (cond b Ieee.nan (Ieee.inf s))) (eq-eqb m 0 (zero_of m e 0 p refl)) ∙ to_bits_nan
infinite_finite s m e (suc u) p =
    ap (λ (b : Bool). to_bits binary64 (cond b Ieee.nan (Ieee.inf s))) (ne_eqb m 0 (nonzero_of m e (suc u) p (zero-lt-suc u))) ∙ toBits_infinite s

product_finite : (s : Bool) (a b c d u v : ℕ) → 0 < c → 0 < d → a * one ≡ u * c → b * one ≡ v * d → Rounded s (u * v) one (to_bits binary64 (round binary64 s (a * b) (c * d)))
product_finite s a b c d u v C D p q =
    round_at s (a * b) (c * d) (u * v) one (mul-pos C D) (pow_pos 1074)
    (mul_assoc (a * b) one one ∙ mul-mul-mul_comm a b one one ∙ ap (λ (x : ℕ). x * (b * one)) p ∙ ap (λ (x : ℕ). u * c * x) q ∙ mul-mul-mul_comm u c v d)

pub product_law : {x y : Float} {d e : Double} → Stands x d → Stands y e → Is (product d e) (to_bits binary64 (Ieee.mul binary64 x y))
unfolding Ieee.mul
product_law a_nan k = to_bits_nan
product_law (an_infinity s) a_nan = to_bits_nan
product_law (an_infinity s) (an_infinity t) = toBits_infinite (unlike s t)
product_law (an_infinity s) (a_number {s = t} {m = n} {e = j} {u = v} q) = infinite_finite (unlike s t) n j v q
product_law (a_number p) a_nan = to_bits_nan
product_law (a_number {s = s} {m = m} {e = i} {u = u} p) (an_infinity t) = infinite_finite (unlike s t) m i u p
product_law (a_number {s = s} {m = m} {e = i} {u = u} p) (a_number {s = t} {m = n} {e = j} {u = v} q) =
    product_finite (unlike s t) (m * up i) (n * up j) (down i) (down j) u v (down_pos i) (down_pos j) p q
