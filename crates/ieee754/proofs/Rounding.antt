-- The program logic's `round` gives the nearest double. Assumes nothing.
use mathlib.Core.Path.{◌≡◌, refl, sym, ap, ◌∙◌, subst}
use mathlib.Core.Logic.{◌⊎◌, inl, inr}
use mathlib.Core.Bool.{Bool, true, false, not, cond}
use Prim.Native.Nat.{ℕ, suc, ◌+◌, ◌-◌, ◌*◌, ◌/◌, ◌%◌, ◌^◌, ◌≤◌, ◌<◌, compare, Ordering}
use native.Mathlib.Nat.{le_trans, le_of_eq, le_of_lt, lt_irrefl, lt_of_le_of_lt, eq-or-lt_of_le, eq-zero-or-pos, eq_of_mul-eq-mul_right, mul-pos, div-add-mod', mod-lt, div-div-eq-div-mul, le-div_iff_mul-le}
use native.Mathlib.Omega.{arith}
use lib.Dec.{T, is_le, compare_is_eq, leb→le, nleb→lt, eqb→eq, eqb, eqb_refl}
use lib.Arith.{lt_of_le-ne}
use lib.Pow.{pow_pos, pow-add}
use borrow.Author.Tests.{le-ltb}
use lib.Ieee as Ieee
use lib.Ieee.{Float, binary64, down, size, nearest, round, to_bits}
use lib.Ieee.Digits.{size_reaches}
use lib.Ieee.Exact.{HasValue, units_val}
use lib.Ieee.Fits.{kept-lt, round_is, round-fits, down_pos, nearest-le}
use lib.Ieee.Nearest.{closest, nearest-ge}
use lib.Ieee.Order.{drop, kept}
use lib.Ieee.Bits.{to_bits-lt}
use Rattle.ieee754.specs.Ieee754.{infinity, one, units, with_sign, without_sign, Nearest, Rounded, Double, nan, infinite, finite, read}
use Rattle.ieee754.proofs.Units.{lt_or_le, units_digits, units_lt, units_injective, units_infinity}
use Rattle.ieee754.proofs.Nearest.{Closest, closest_low, closest_high, closest_nearest, closest_infinity}
use Rattle.ieee754.proofs.Reading.{Stands, a_nan, an_infinity, a_number, sign_and_rest, read_nan, read_infinite, read_finite, writes}

-- ---- the nearest whole number of steps

-- what `compare` says
abbrev Compared : Ordering → ℕ → ℕ → Type 0
Compared Ordering.lt a b = a < b
Compared Ordering.eq a b = a ≡ b
Compared Ordering.gt a b = b < a

compared : (a b : ℕ) → Compared (compare a b) a b
compared a b = go (compare a b) (leb→le a b) (nleb→lt a b) (eqb→eq a b) (λ (e : a ≡ b). subst (λ (x : ℕ). T (eqb a x)) e (eqb_refl a))
  where
    go : (o : Ordering) → (T (is_le o) → a ≤ b) → (T (not (is_le o)) → b < a) → (T (compare_is_eq o) → a ≡ b) → (a ≡ b → T (compare_is_eq o)) → Compared o a b
    go Ordering.lt h k e n = lt_of_le-ne (h tt) n
    go Ordering.eq h k e n = e tt
    go Ordering.gt h k e n = k tt

module _ (n d k : ℕ) (D : 0 < d) (fit : n / (d * 2 ^ k) < 2 ^ 53) (lead : (k ≡ 0) ⊎ (2 ^ 52 ≤ n / (d * 2 ^ k))) where
  abbrev step : ℕ
  step = d * 2 ^ k

  step_pos : 0 < step
  step_pos = mul-pos D (pow_pos k)

  whole : n ≡ n / step * step + n % step
  whole = sym (div-add-mod' n step)

  by : (o : Ordering) → Compared o (n % step * 2) step → Closest n d (k * 2 ^ 52 + nearest (n / step) o)
  by Ordering.lt h = closest_low n d k (n / step) (n % step) D fit lead whole (le_of_lt (less (n % step) step h)) (λ e. absurd (differ (n % step) step h e))
    where
      less : (r u : ℕ) → r * 2 < u → r + r < u
      less r u h = omega arith

      differ : (r u : ℕ) → r * 2 < u → r + r ≡ u → ⊥
      differ r u h e = omega arith
  by Ordering.gt h =
      subst (λ (p : ℕ). Closest n d p) (next (k * 2 ^ 52) (n / step))
      (closest_high n d k (n / step) (n % step) D fit lead whole (mod-lt n step_pos) (le_of_lt (more (n % step) step h)) (λ e. absurd (differ (n % step) step h e)))
    where
      next : (b a : ℕ) → suc (b + a) ≡ b + suc a
      next b a = omega arith

      more : (r u : ℕ) → u < r * 2 → u < r + r
      more r u h = omega arith

      differ : (r u : ℕ) → u < r * 2 → r + r ≡ u → ⊥
      differ r u h e = omega arith
  by Ordering.eq h = elim (lt_or_le (n / step % 2) 1) [
    | inl l ↦
        subst (λ (p : ℕ). Closest n d p) (stay (k * 2 ^ 52) (n / step) l)
        (closest_low n d k (n / step) (n % step) D fit lead whole (le_of_eq (tie (n % step) step h)) (λ e. even (n / step) l))
    | inr g ↦
        subst (λ (p : ℕ). Closest n d p) (move (k * 2 ^ 52) (n / step) g)
        (closest_high n d k (n / step) (n % step) D fit lead whole (mod-lt n step_pos) (le_of_eq (sym (tie (n % step) step h))) (λ e. odd (n / step) g))
  ]
    where
      tie : (r u : ℕ) → r * 2 ≡ u → r + r ≡ u
      tie r u h = omega arith

      even : (a : ℕ) → a % 2 < 1 → a % 2 ≡ 0
      even a l = omega arith

      odd : (a : ℕ) → 1 ≤ a % 2 → suc a % 2 ≡ 0
      odd a g = omega arith

      stay : (b a : ℕ) → a % 2 < 1 → b + a ≡ b + (a + a % 2)
      stay b a l = omega arith

      move : (b a : ℕ) → 1 ≤ a % 2 → suc (b + a) ≡ b + (a + a % 2)
      move b a g = omega arith

  pub closest_whole : Closest n d (k * 2 ^ 52 + closest n step)
  closest_whole = by (compare (n % step * 2) step) (compared (n % step * 2) step)

  pub units_whole : units (k * 2 ^ 52 + closest n step) ≡ closest n step * 2 ^ k
  units_whole =
      let o = compare (n % step * 2) step in
      units_digits k (closest n step) (le_trans (nearest-le (n / step) o) fit) (elim lead [ inl z ↦ inl z | inr l ↦ inr (le_trans l (nearest-ge (n / step) o)) ])

-- ---- the pattern of a finite float

same_units : {x : Float} {t : Bool} {v : ℕ} (s : Bool) (u : ℕ) → HasValue x s u one → Stands x (finite t v) → (t ≡ s) × (v ≡ u)
same_units {v = v} s u h (a_number {e = e} k) = (h.0, eq_of_mul-eq-mul_right (down e) (down_pos e) v u (sym k ∙ h.1))

no_nan : {x : Float} (s : Bool) (u : ℕ) → HasValue x s u one → Stands x nan → ⊥
no_nan s u h a_nan = h

no_infinity : {x : Float} {t : Bool} (s : Bool) (u : ℕ) → HasValue x s u one → Stands x (infinite t) → ⊥
no_infinity s u h (an_infinity t) = h

finite_pattern : (b : ℕ) (x : Float) (s : Bool) (u : ℕ) → b < 2 ^ 64 → HasValue x s u one → Stands x (read b)
    → (p : ℕ) × (b ≡ with_sign s p) × (p < infinity) × (units p ≡ u)
finite_pattern b x s u B h k = elim (lt_or_le infinity (without_sign b)) [
  | inl l ↦ absurd (no_nan s u h (subst (λ (d : Double). Stands x d) (read_nan b l) k))
  | inr g ↦ elim (eq-or-lt_of_le g) [
    | inl e ↦ absurd (no_infinity s u h (subst (λ (d : Double). Stands x d) (read_infinite b e) k))
    | inr l ↦
        let r = same_units s u h (subst (λ (d : Double). Stands x d) (read_finite b l) k) in
        (without_sign b, sign_and_rest b B ∙ ap (λ (t : Bool). with_sign t (without_sign b)) r.0, l, r.1)
  ]
]

pub toBits_infinite : (s : Bool) → to_bits binary64 (Ieee.inf s) ≡ with_sign s infinity
unfolding to_bits
toBits_infinite true = refl
toBits_infinite false = refl

-- ---- `round`
module _ (num den : ℕ) (D : 0 < den) where
  abbrev n : ℕ
  n = num * one

  abbrev k : ℕ
  k = drop 53 n den

  abbrev q : ℕ
  q = kept 53 n den

  fit : n / (den * 2 ^ k) < 2 ^ 53
  fit = subst (λ (x : ℕ). x < 2 ^ 53) (div-div-eq-div-mul n den (2 ^ k)) (kept-lt 53 (n / den))

  lead : (k ≡ 0) ⊎ (2 ^ 52 ≤ n / (den * 2 ^ k))
  lead = elim (eq-zero-or-pos k) [
    | inl z ↦ inl z
    | inr g ↦
        inr
        (subst (λ (x : ℕ). 2 ^ 52 ≤ x) (div-div-eq-div-mul n den (2 ^ k))
        ((le-div_iff_mul-le (pow_pos k)).1 (le_trans (le_of_eq (sym (pow-add 2 52 k))) (size_reaches (n / den) (52 + k) (all (size (n / den)) g)))))
  ]
    where
      all : (z : ℕ) → 0 < z - 53 → 52 + (z - 53) < z
      all z h = omega arith

  -- below the overflow the result is finite, and its pattern is the closest one; from there on it is an infinity
  pub round_nearest : (s : Bool) → Rounded s n den (to_bits binary64 (round binary64 s num den))
  round_nearest s = elim (lt_or_le (q * 2 ^ k) (2 ^ 2098)) [
    | inl l ↦
        let x = round binary64 s num den in
        let value : HasValue x s (q * 2 ^ k) one = subst (λ (y : Float). HasValue y s (q * 2 ^ k) one) (sym (round_is binary64 s num den)) (units_val binary64 s q k l) in
        let f = finite_pattern (to_bits binary64 x) x s (q * 2 ^ k) (to_bits-lt binary64 x (round-fits binary64 s num den)) value (writes x (round-fits binary64 s num den)) in
        let e : f.0 ≡ k * 2 ^ 52 + q = units_injective f.0 (k * 2 ^ 52 + q) (f.3 ∙ sym (units_whole n den k D fit lead)) in
        record { pattern = f.0; nearest = closest_nearest n den D f.0 (le_of_lt f.2) (subst (λ (p : ℕ). Closest n den p) (sym e) (closest_whole n den k D fit lead)); signed = f.1 }
    | inr g ↦
        record {
          pattern = infinity;
          nearest = past (le_trans (le_of_eq units_infinity) (le_trans g (le_of_eq (sym (units_whole n den k D fit lead)))));
          signed = ap (to_bits binary64) (round_is binary64 s num den ∙ over g) ∙ toBits_infinite s;
        }
  ]
    where
      over : 2 ^ 2098 ≤ q * 2 ^ k → Ieee.units binary64 s q k ≡ Ieee.inf s
      over g = unfold Ieee.units in ap (λ (t : Bool). cond t (Ieee.odd 54 s q k 1074) (Ieee.inf s)) (le-ltb (q * 2 ^ k) (2 ^ 2098) g)

      past : units infinity ≤ units (k * 2 ^ 52 + q) → Nearest n den infinity
      past h = elim (lt_or_le (k * 2 ^ 52 + q) infinity) [
        | inl l ↦ absurd (lt_irrefl (units infinity) (lt_of_le_of_lt h (units_lt (k * 2 ^ 52 + q) infinity l)))
        | inr g ↦ elim (eq-or-lt_of_le g) [
          | inl e ↦ closest_nearest n den D infinity (le_of_eq refl) (subst (λ (p : ℕ). Closest n den p) (sym e) (closest_whole n den k D fit lead))
          | inr l ↦ closest_infinity n den D (k * 2 ^ 52 + q) l (closest_whole n den k D fit lead)
        ]
      ]
