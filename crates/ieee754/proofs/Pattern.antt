-- The patterns that `nearest_pattern` makes of a number's leading 53 digits are the nearest ones. Assumes nothing.
use mathlib.Core.Path.{◌≡◌, refl, sym, ap, ◌∙◌, subst}
use mathlib.Core.Logic.{inl, inr}
use Prim.Native.Nat.{ℕ, suc, ◌+◌, ◌-◌, ◌*◌, ◌/◌, ◌%◌, ◌^◌, ◌≤◌, ◌<◌, zero-le}
use native.Mathlib.Nat.{le_refl, le_trans, le_of_lt, le_of_eq, lt_of_lt_of_le, one-mul, mul_assoc, add-mul, add-zero, mul-pos, mul-le-mul_right, mul-lt-mul_of_pos_right, eq_of_mul-eq-mul_right, div-add-mod', mod-lt, mod-eq_of_lt, le-div_iff_mul-le}
use native.Mathlib.Numerals.{add-one}
use native.Mathlib.Omega.{arith}
use lib.Pow.{pow_pos, pow-add, pow-lt, pow_mono, shl_lt, shr_lt}
use lib.Count.{count_leading_zeros, leading_top}
use Rattle.ieee754.specs.Ieee754.{infinity, one, Nearest}
use Rattle.ieee754.proofs.Units.{lt_or_le}
use Rattle.ieee754.proofs.Nearest.{closest_nearest, closest_low, closest_high}

-- the patterns stay far below infinity's
within : (k b p : ℕ) → k ≤ 1085 → b ≤ 2 ^ 53 → p ≡ k * 2 ^ 52 + b → p ≤ infinity
within k b p h l e = omega arith

pub nearest_zero : (n : ℕ) → n ≡ 0 → Nearest (n * one) 1 0
nearest_zero n z =
    subst (λ (x : ℕ). Nearest (x * one) 1 0) (sym z)
    (closest_nearest 0 1 (le_refl 1) 0 (within 0 0 0 zero-le zero-le refl) (closest_low 0 1 0 0 0 (le_refl 1) (pow_pos 53) (inl refl) refl zero-le (λ e. refl)))

-- z of the 64 digits of n stand before the leading one, which is digit `place`
pub record Leading (n z : ℕ) : Type 0 where
  pub place : ℕ
  pub places : z + suc place ≡ 64
  pub low : 2 ^ place ≤ n
  pub high : n < 2 ^ suc place

pub leading : (n : ℕ) → (n ≡ 0 → ⊥) → n < 2 ^ 64 → Leading n (count_leading_zeros 64 n)
leading n nonzero fits =
    let l = leading_top 64 n (positive n nonzero) fits in
    record { place = l.0; places = l.1; low = l.2; high = l.3 }
  where
    positive : (n : ℕ) → (n ≡ 0 → ⊥) → 0 < n
    positive n h = omega arith

module _ {n z : ℕ} (lead : Leading n z) where
  pub zeros_lt : z < 64
  zeros_lt = omega arith

  field_le : 1085 - z ≤ 1085
  field_le = omega arith

  -- ---- at most 53 digits: they are moved up until there are 53, and none is lost
  module _ (h : 11 ≤ z) where
    abbrev moved : ℕ
    moved = n * 2 ^ (z - 11)

    pub moved_lt : moved < 2 ^ 53
    moved_lt = subst (λ (x : ℕ). moved < 2 ^ x) (up z lead.place lead.places h) (shl_lt (suc lead.place) (z - 11) lead.high)
      where
        up : (z j : ℕ) → z + suc j ≡ 64 → 11 ≤ z → suc j + (z - 11) ≡ 53
        up z j p h = omega arith

    pub moved_ge : 2 ^ 52 ≤ moved
    moved_ge = subst (λ (x : ℕ). x ≤ moved) (sym (pow-add 2 lead.place (z - 11)) ∙ ap (λ (x : ℕ). 2 ^ x) (up z lead.place lead.places h)) (mul-le-mul_right (2 ^ (z - 11)) lead.low)
      where
        up : (z j : ℕ) → z + suc j ≡ 64 → 11 ≤ z → j + (z - 11) ≡ 52
        up z j p h = omega arith

    pub none_lost : moved % 2 ^ 64 ≡ moved
    none_lost = mod-eq_of_lt (lt_of_lt_of_le moved_lt (le_of_lt (pow-lt {i = 53} {j = 64} (omega arith))))

    pub exact_lt : moved % 2 ^ 64 < 2 ^ 53
    exact_lt = subst (λ (x : ℕ). x < 2 ^ 53) (sym none_lost) moved_lt

    pub exact : Nearest (n * one) 1 ((1085 - z) * 2 ^ 52 + moved % 2 ^ 64)
    exact =
        subst (λ (x : ℕ). Nearest (n * one) 1 ((1085 - z) * 2 ^ 52 + x)) (sym none_lost)
        (closest_nearest (n * one) 1 (le_refl 1) ((1085 - z) * 2 ^ 52 + moved) (within (1085 - z) moved _ field_le (le_of_lt moved_lt) refl)
        (closest_low (n * one) 1 (1085 - z) moved 0 (le_refl 1) moved_lt (inr moved_ge) whole zero-le
        (λ e. absurd (nothing (1 * 2 ^ (1085 - z)) (mul-pos (le_refl 1) (pow_pos (1085 - z))) e))))
      where
        nothing : (u : ℕ) → 0 < u → 0 ≡ u → ⊥
        nothing u a b = omega arith

        all : (z j : ℕ) → z + suc j ≡ 64 → 11 ≤ z → z - 11 + (1085 - z) ≡ 1074
        all z j p h = omega arith

        whole : n * one ≡ moved * (1 * 2 ^ (1085 - z)) + 0
        whole =
            ap (λ (x : ℕ). n * 2 ^ x) (sym (all z lead.place lead.places h))
            ∙ ap (λ (x : ℕ). n * x) (pow-add 2 (z - 11) (1085 - z))
            ∙ sym (mul_assoc n (2 ^ (z - 11)) (2 ^ (1085 - z)))
            ∙ ap (λ (x : ℕ). moved * x) (sym (one-mul (2 ^ (1085 - z))))
            ∙ sym (add-zero (moved * (1 * 2 ^ (1085 - z))))

  -- ---- more digits: those below the leading 53 are dropped, and say whether the number that is left moves up by one
  module _ (h : z < 11) where
    abbrev step : ℕ
    step = 2 ^ (11 - z)

    abbrev whole : ℕ
    whole = n / step

    abbrev rest : ℕ
    rest = n % step

    pub whole_lt : whole < 2 ^ 53
    whole_lt = shr_lt 53 (11 - z) (subst (λ (x : ℕ). n < 2 ^ x) (up z lead.place lead.places h) lead.high)
      where
        up : (z j : ℕ) → z + suc j ≡ 64 → z < 11 → suc j ≡ 53 + (11 - z)
        up z j p h = omega arith

    whole_ge : 2 ^ 52 ≤ whole
    whole_ge = (le-div_iff_mul-le (pow_pos (11 - z))).1 (subst (λ (x : ℕ). x ≤ n) (ap (λ (x : ℕ). 2 ^ x) (up z lead.place lead.places h) ∙ pow-add 2 52 (11 - z)) lead.low)
      where
        up : (z j : ℕ) → z + suc j ≡ 64 → z < 11 → j ≡ 52 + (11 - z)
        up z j p h = omega arith

    -- in units
    step_units : 1 * 2 ^ (1085 - z) ≡ step * one
    step_units = one-mul (2 ^ (1085 - z)) ∙ ap (λ (x : ℕ). 2 ^ x) (all z h) ∙ pow-add 2 (11 - z) 1074
      where
        all : (z : ℕ) → z < 11 → 1085 - z ≡ 11 - z + 1074
        all z h = omega arith

    in_steps : n * one ≡ whole * (1 * 2 ^ (1085 - z)) + rest * one
    in_steps =
        ap (λ (x : ℕ). x * one) (sym (div-add-mod' n step))
        ∙ add-mul (whole * step) rest one
        ∙ ap (λ (x : ℕ). x + rest * one) (mul_assoc whole step one ∙ ap (λ (x : ℕ). whole * x) (sym step_units))

    twice : rest * one + rest * one ≡ (rest + rest) * one
    twice = sym (add-mul rest rest one)

    le_units : {a b x y : ℕ} → x ≡ a * one → y ≡ b * one → a ≤ b → x ≤ y
    le_units p q l = le_trans (le_of_eq p) (le_trans (mul-le-mul_right one l) (le_of_eq (sym q)))

    tie : rest * one + rest * one ≡ 1 * 2 ^ (1085 - z) → rest + rest ≡ step
    tie e = eq_of_mul-eq-mul_right one (pow_pos 1074) (rest + rest) step (sym twice ∙ e ∙ step_units)

    down : rest + rest ≤ step → (rest + rest ≡ step → whole % 2 ≡ 0) → Nearest (n * one) 1 ((1085 - z) * 2 ^ 52 + whole)
    down half even =
        closest_nearest (n * one) 1 (le_refl 1) ((1085 - z) * 2 ^ 52 + whole) (within (1085 - z) whole _ field_le (le_of_lt whole_lt) refl)
        (closest_low (n * one) 1 (1085 - z) whole (rest * one) (le_refl 1) whole_lt (inr whole_ge) in_steps (le_units twice step_units half) (λ e. even (tie e)))

    up : step ≤ rest + rest → (rest + rest ≡ step → suc whole % 2 ≡ 0) → Nearest (n * one) 1 (suc ((1085 - z) * 2 ^ 52 + whole))
    up half even =
        closest_nearest (n * one) 1 (le_refl 1) (suc ((1085 - z) * 2 ^ 52 + whole)) (within (1085 - z) (suc whole) _ field_le whole_lt (next ((1085 - z) * 2 ^ 52) whole))
        (closest_high (n * one) 1 (1085 - z) whole (rest * one) (le_refl 1) whole_lt (inr whole_ge) in_steps
        (lt_of_lt_of_le (mul-lt-mul_of_pos_right (mod-lt n (pow_pos (11 - z))) (pow_pos 1074)) (le_of_eq (sym step_units)))
        (le_units step_units twice half)
        (λ e. even (tie e)))
      where
        next : (b a : ℕ) → suc (b + a) ≡ b + suc a
        next b a = omega arith

    -- ---- the same with the step as the code makes it, by a shift of 1
    abbrev shifted : ℕ
    shifted = 1 * 2 ^ (11 - z) % 2 ^ 64

    shifted_is : shifted ≡ step
    shifted_is = ap (λ (x : ℕ). x % 2 ^ 64) (one-mul step) ∙ mod-eq_of_lt (pow-lt (small z))
      where
        small : (z : ℕ) → 11 - z < 64
        small z = omega arith

    pub step_pos : 0 < shifted
    step_pos = subst (λ (x : ℕ). 0 < x) (sym shifted_is) (pow_pos (11 - z))

    pub rest_lt : n % shifted < 2 ^ 11
    rest_lt = lt_of_lt_of_le (mod-lt n step_pos) (le_trans (le_of_eq shifted_is) (pow_mono (small z)))
      where
        small : (z : ℕ) → 11 - z ≤ 11
        small z = omega arith

    pub less : n % shifted + n % shifted < shifted → Nearest (n * one) 1 ((1085 - z) * 2 ^ 52 + whole)
    less l =
        let m : rest + rest < step = subst (λ (x : ℕ). n % x + n % x < x) shifted_is l in
        down (le_of_lt m) (λ e. absurd (differ (rest + rest) step m e))
      where
        differ : (x y : ℕ) → x < y → x ≡ y → ⊥
        differ x y a b = omega arith

    pub more : shifted < n % shifted + n % shifted → Nearest (n * one) 1 ((1085 - z) * 2 ^ 52 + whole + 1)
    more l =
        let m : step < rest + rest = subst (λ (x : ℕ). x < n % x + n % x) shifted_is l in
        subst (λ (x : ℕ). Nearest (n * one) 1 x) (sym (add-one _)) (up (le_of_lt m) (λ e. absurd (differ step (rest + rest) m e)))
      where
        differ : (x y : ℕ) → x < y → y ≡ x → ⊥
        differ x y a b = omega arith

    -- an odd number moves up, an even one stays
    pub even : shifted ≤ n % shifted + n % shifted → n % shifted + n % shifted ≤ shifted → Nearest (n * one) 1 ((1085 - z) * 2 ^ 52 + whole + whole % 2)
    even a b = elim (lt_or_le (whole % 2) 1) [
      | inl l ↦ subst (λ (x : ℕ). Nearest (n * one) 1 x) (sym (stay ((1085 - z) * 2 ^ 52 + whole) whole l)) (down (subst (λ (x : ℕ). n % x + n % x ≤ x) shifted_is b) (λ e. is_even whole l))
      | inr g ↦ subst (λ (x : ℕ). Nearest (n * one) 1 x) (sym (move ((1085 - z) * 2 ^ 52 + whole) whole g)) (up (subst (λ (x : ℕ). x ≤ n % x + n % x) shifted_is a) (λ e. next_even whole g))
    ]
      where
        stay : (p w : ℕ) → w % 2 < 1 → p + w % 2 ≡ p
        stay p w l = omega arith

        move : (p w : ℕ) → 1 ≤ w % 2 → p + w % 2 ≡ suc p
        move p w g = omega arith

        is_even : (w : ℕ) → w % 2 < 1 → w % 2 ≡ 0
        is_even w l = omega arith

        next_even : (w : ℕ) → 1 ≤ w % 2 → suc w % 2 ≡ 0
        next_even w g = omega arith
