-- The root of each double above zero, from its digits: the pattern that the whole root of these makes is the nearest one. Assumes nothing.
use mathlib.Core.Path.{◌≡◌, refl, sym, ap, ◌∙◌, subst}
use mathlib.Core.Logic.{inl, inr}
use Prim.Native.Nat.{ℕ, zero, suc, ◌+◌, ◌-◌, ◌*◌, ◌/◌, ◌%◌, ◌^◌, ◌≤◌, ◌<◌}
use native.Mathlib.Nat.{le_refl, le_trans, le_of_lt, lt_of_lt_of_le, lt_of_le_of_lt, lt_irrefl, mul_assoc, mul-le-mul_right, mul-lt-mul_of_pos_right, le_of_suc-le-suc, mod-lt, div-lt_iff_lt-mul}
use native.Mathlib.Omega.{arith}
use lib.Pow.{pow_pos, pow-add, pow_mono}
use lib.Count.{count_leading_zeros}
use Rattle.ieee754.specs.Ieee754.{infinity, one, double_of_fields, units, square, nearest_root}
use Rattle.ieee754.specs.Roots.{WholeRoot, Digits, Positive}
use Rattle.ieee754.proofs.Units.{lt_or_le}
use Rattle.ieee754.proofs.Pattern.{Leading, leading, zeros_lt, moved_lt, moved_ge, none_lost}
use Rattle.ieee754.proofs.Root.{square_lt, root_lt, Encloses, nearest_root_is, encloses}

-- m, or twice m where e is odd, has at most 54 digits
pub one_more : {m e : ℕ} → Digits m e → m * (1 + e % 2) < 2 ^ 54
one_more {m} {e} d = less m (e % 2) d.high (mod-lt e (pow_pos 1))
  where
    less : (m b : ℕ) → m < 2 ^ 53 → b < 2 → m * (1 + b) < 2 ^ 54
    less m zero h l = omega arith
    less m (suc zero) h l = omega arith
    less m (suc (suc b)) h l = absurd (omega arith)

-- ---- the 108 digits whose whole root has 54: m * 2 ^ 54, with one more factor 2 where e is odd
module _ {m e r : ℕ} (d : Digits m e) (root : WholeRoot (m * (1 + e % 2) * 2 ^ 54) r) where
  abbrev wide : ℕ
  wide = m * (1 + e % 2) * 2 ^ 54

  wide_ge : square (2 ^ 53) ≤ wide
  wide_ge = mul-le-mul_right (2 ^ 54) (more m (e % 2) d.low)
    where
      more : (m b : ℕ) → 2 ^ 52 ≤ m → 2 ^ 52 ≤ m * (1 + b)
      more m b h = omega arith

  wide_lt : wide < square (2 ^ 54)
  wide_lt = mul-lt-mul_of_pos_right (one_more d) (pow_pos 54)

  pub root_low : 2 ^ 53 ≤ r
  root_low = le_of_suc-le-suc (root_lt {a = 2 ^ 53} {b = suc r} (lt_of_le_of_lt wide_ge root.high))

  pub root_high : r < 2 ^ 54
  root_high = root_lt {a = r} {b = 2 ^ 54} (lt_of_le_of_lt root.low wide_lt)

  abbrev h : ℕ
  h = e / 2 - 27

  in_steps : m * 2 ^ e ≡ wide * (2 ^ h * 2 ^ h)
  in_steps =
      ap (λ (x : ℕ). m * 2 ^ x) (split e d.least)
      ∙ ap (λ (x : ℕ). m * x) (pow-add 2 (e % 2) (54 + (h + h)) ∙ ap (λ (x : ℕ). 2 ^ (e % 2) * x) (pow-add 2 54 (h + h) ∙ ap (λ (x : ℕ). 2 ^ 54 * x) (pow-add 2 h h)))
      ∙ ap (λ (x : ℕ). m * (x * (2 ^ 54 * (2 ^ h * 2 ^ h)))) (power (e % 2) (mod-lt e (pow_pos 1)))
      ∙ sym (mul_assoc m (1 + e % 2) (2 ^ 54 * (2 ^ h * 2 ^ h)))
      ∙ sym (mul_assoc (m * (1 + e % 2)) (2 ^ 54) (2 ^ h * 2 ^ h))
    where
      split : (e : ℕ) → 1022 ≤ e → e ≡ e % 2 + (54 + (e / 2 - 27 + (e / 2 - 27)))
      split e l = omega arith

      power : (b : ℕ) → b < 2 → 2 ^ b ≡ 1 + b
      power zero l = refl
      power (suc zero) l = refl
      power (suc (suc b)) l = absurd (omega arith)

  wide_even : wide % 2 ≡ 0
  wide_even = go (m * (1 + e % 2))
    where
      go : (x : ℕ) → x * 2 ^ 54 % 2 ≡ 0
      go x = omega arith

  abbrev pattern : ℕ
  pattern = (e / 2 - 26) * 2 ^ 52 + r / 2 + r % 2

  pub pattern_encloses : Encloses (m * 2 ^ e) pattern
  pattern_encloses = subst (λ (k : ℕ). Encloses (m * 2 ^ e) (k * 2 ^ 52 + r / 2 + r % 2)) (next e d.least) (encloses (m * 2 ^ e) wide h r in_steps wide_even root root_low root_high)
    where
      next : (e : ℕ) → 1022 ≤ e → suc (e / 2 - 27) ≡ e / 2 - 26
      next e l = omega arith

  pub pattern_lt : pattern < infinity
  pattern_lt = go e r d.most root_high
    where
      go : (e r : ℕ) → e ≤ 3119 → r < 2 ^ 54 → (e / 2 - 26) * 2 ^ 52 + r / 2 + r % 2 < infinity
      go e r l u = omega arith

  pub pattern_ge : 2 ^ 52 ≤ pattern
  pattern_ge = go e r d.least
    where
      go : (e r : ℕ) → 1022 ≤ e → 2 ^ 52 ≤ (e / 2 - 26) * 2 ^ 52 + r / 2 + r % 2
      go e r l = omega arith

  pub pattern_is : pattern ≡ nearest_root (m * 2 ^ e)
  pattern_is = sym (nearest_root_is (m * 2 ^ e) pattern (le_of_lt pattern_lt) pattern_encloses)

-- ---- each number has a whole root
pub whole_root : (n : ℕ) → (r : ℕ) × WholeRoot n r
whole_root zero = (0, record { low = le_refl 0; high = le_refl 1 })
whole_root (suc n) = go (whole_root n)
  where
    go : (r : ℕ) × WholeRoot n r → (r : ℕ) × WholeRoot (suc n) r
    go (r, w) = elim (lt_or_le (suc n) (square (suc r))) [
      | inl l ↦ (r, record { low = le_trans w.low (up n); high = l })
      | inr g ↦ (suc r, record { low = g; high = lt_of_le_of_lt w.high (square_lt {a = suc r} {b = suc (suc r)} (le_refl (suc (suc r)))) })
    ]
      where
        up : (n : ℕ) → n ≤ suc n
        up n = omega arith

-- ---- each double above zero has such digits

-- with a leading digit
pub normal_scaled : (p : ℕ) → 0 < p / 2 ^ 52 → (2 ^ 52 + p % 2 ^ 52) * 2 ^ (1073 + p / 2 ^ 52) ≡ units p * one
unfolding units
normal_scaled p h = fields (p / 2 ^ 52) (p % 2 ^ 52) h
  where
    fields : (x t : ℕ) → 0 < x → (2 ^ 52 + t) * 2 ^ (1073 + x) ≡ double_of_fields x t * one
    fields zero t h = absurd (omega arith)
    fields (suc x) t h = sym (mul_assoc (2 ^ 52 + t) (2 ^ x) one ∙ ap (λ (y : ℕ). (2 ^ 52 + t) * y) (sym (pow-add 2 x 1074)) ∙ ap (λ (y : ℕ). (2 ^ 52 + t) * 2 ^ y) (all x))
      where
        all : (x : ℕ) → x + 1074 ≡ 1073 + suc x
        all x = omega arith

pub normal_digits : (p : ℕ) → p < infinity → Digits (2 ^ 52 + p % 2 ^ 52) (1073 + p / 2 ^ 52)
normal_digits p l = record {
  low = from (p % 2 ^ 52);
  high = to (p % 2 ^ 52) (mod-lt p (pow_pos 52));
  least = least (p / 2 ^ 52);
  most = most (p / 2 ^ 52) ((div-lt_iff_lt-mul (pow_pos 52)).1 l);
}
  where
    from : (t : ℕ) → 2 ^ 52 ≤ 2 ^ 52 + t
    from t = omega arith

    to : (t : ℕ) → t < 2 ^ 52 → 2 ^ 52 + t < 2 ^ 53
    to t h = omega arith

    least : (x : ℕ) → 1022 ≤ 1073 + x
    least x = omega arith

    most : (x : ℕ) → x < 2047 → 1073 + x ≤ 3119
    most x h = omega arith

-- without one: the digits are moved up until there are 53
module _ {p z : ℕ} (lead : Leading p z) (small : p / 2 ^ 52 ≡ 0) where
  pub zeros_ge : 11 ≤ z
  zeros_ge = elim (lt_or_le z 11) [
    | inl l ↦ absurd (lt_irrefl p (lt_of_lt_of_le (under p small) (le_trans (wide lead.place (high_place z lead.place lead.places l)) lead.low)))
    | inr g ↦ g
  ]
    where
      under : (p : ℕ) → p / 2 ^ 52 ≡ 0 → p < 2 ^ 52
      under p h = omega arith

      high_place : (z j : ℕ) → z + suc j ≡ 64 → z < 11 → 52 ≤ j
      high_place z j e h = omega arith

      wide : (j : ℕ) → 52 ≤ j → 2 ^ 52 ≤ 2 ^ j
      wide j h = pow_mono h

  pub small_scaled : p * 2 ^ (z - 11) * 2 ^ (1085 - z) ≡ units p * one
  unfolding units
  small_scaled =
      mul_assoc p (2 ^ (z - 11)) (2 ^ (1085 - z))
      ∙ ap (λ (x : ℕ). p * x) (sym (pow-add 2 (z - 11) (1085 - z)))
      ∙ ap (λ (x : ℕ). p * 2 ^ x) (all z lead.place lead.places zeros_ge)
      ∙ ap (λ (x : ℕ). x * one) (sym (rest p small))
      ∙ ap (λ (x : ℕ). double_of_fields x (p % 2 ^ 52) * one) (sym small)
    where
      rest : (p : ℕ) → p / 2 ^ 52 ≡ 0 → p % 2 ^ 52 ≡ p
      rest p h = omega arith

      all : (z j : ℕ) → z + suc j ≡ 64 → 11 ≤ z → z - 11 + (1085 - z) ≡ 1074
      all z j p h = omega arith

  pub small_digits : Digits (p * 2 ^ (z - 11)) (1085 - z)
  small_digits = record {
    low = moved_ge lead zeros_ge;
    high = moved_lt lead zeros_ge;
    least = least z (zeros_lt lead);
    most = most z;
  }
    where
      least : (z : ℕ) → z < 64 → 1022 ≤ 1085 - z
      least z h = omega arith

      most : (z : ℕ) → 1085 - z ≤ 3119
      most z = omega arith

  -- the code's shift loses nothing
  pub shifted_digits : Digits (p * 2 ^ (z - 11) % 2 ^ 64) (1085 - z)
  shifted_digits = subst (λ (m : ℕ). Digits m (1085 - z)) (sym (none_lost lead zeros_ge)) small_digits

  pub shifted_scaled : p * 2 ^ (z - 11) % 2 ^ 64 * 2 ^ (1085 - z) ≡ units p * one
  shifted_scaled = ap (λ (m : ℕ). m * 2 ^ (1085 - z)) (none_lost lead zeros_ge) ∙ small_scaled

pub leading_digit : {p : ℕ} → Positive p → Leading p (count_leading_zeros 64 p)
leading_digit {p} at = leading p (nonzero p at.above) (short p at.below)
  where
    nonzero : (p : ℕ) → 0 < p → p ≡ 0 → ⊥
    nonzero p h e = omega arith

    short : (p : ℕ) → p < infinity → p < 2 ^ 64
    short p h = omega arith

-- ---- so each has a root, which is in no middle and not subnormal
pub record Root (p r : ℕ) : Type 0 where
  pub between : Encloses (units p * one) r
  pub least : 2 ^ 52 ≤ r
  pub most : r < infinity

pub has_root : {p : ℕ} → Positive p → (r : ℕ) × Root p r
has_root {p} at = elim (lt_or_le (p / 2 ^ 52) 1) [
  | inl s ↦ let lead = leading_digit at in by (small_digits lead (none (p / 2 ^ 52) s)) (small_scaled lead (none (p / 2 ^ 52) s))
  | inr g ↦ by (normal_digits p at.below) (normal_scaled p g)
]
  where
    none : (x : ℕ) → x < 1 → x ≡ 0
    none x h = omega arith

    by : {m e : ℕ} → Digits m e → m * 2 ^ e ≡ units p * one → (r : ℕ) × Root p r
    by {m} {e} d s =
        let w = whole_root (m * (1 + e % 2) * 2 ^ 54) in
        (pattern d w.1, record { between = subst (λ (n : ℕ). Encloses n (pattern d w.1)) s (pattern_encloses d w.1); least = pattern_ge d w.1; most = pattern_lt d w.1 })
