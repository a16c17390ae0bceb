-- The square root at each pattern: what is asked for is worked out, by the definition and by the code's cases. Assumes nothing.
use mathlib.Core.Path.{◌≡◌, refl, sym, ap, ◌∙◌, subst}
use mathlib.Core.Logic.{◌≢◌, inl, inr}
use mathlib.Core.Bool.{Bool, true, false, not}
use Prim.Native.Nat.{ℕ, zero, suc, ◌+◌, ◌-◌, ◌*◌, ◌%◌, ◌^◌, ◌≤◌, ◌<◌, zero-le}
use native.Mathlib.Nat.{le_refl, le_trans, le_antisymm, le_of_lt, le_of_eq, lt_of_lt_of_le, lt_of_le_of_lt, lt_irrefl, mul-one, eq-or-lt_of_le, pos_of_ne-zero}
use native.Mathlib.Omega.{arith}
use lib.Dec.{T}
use borrow.Author.Tests.{le-ltb, le-leb, lt-leb}
use lib.Ieee.{binary64, of_bits, to_bits}
use lib.Ieee.Bits.{to_bits-of_bits, nan_bits_is, nan_bits_above}
use Rattle.ieee754.specs.Ieee754.{infinity, one, units, square, Nearest, NearestRoot, nearest_root, with_sign, negative, without_sign, quiet_nan, Double, nan, infinite, finite, read, Is, square_root_by, square_root, square_root_bits}
use Rattle.ieee754.specs.Roots.{Positive}
use Rattle.ieee754.proofs.Units.{lt_or_le, units_lt, units_le}
use Rattle.ieee754.proofs.Reading.{sign_and_rest, read_nan, read_infinite, read_finite}
use Rattle.ieee754.proofs.Root.{square_le, root_le, encloses_nearest, nearest_root_is, nearest_root_unique}
use Rattle.ieee754.proofs.RootDigits.{Root, has_root}

units_zero : units 0 ≡ 0
unfolding units
units_zero = refl

units_above : (p : ℕ) → 0 < p → 0 < units p
units_above p h = subst (λ (x : ℕ). x < units p) units_zero (units_lt 0 p h)

-- ---- a double above zero

pub root_nearest : {p : ℕ} → Positive p → NearestRoot (units p * one) (nearest_root (units p * one))
root_nearest {p} h =
    let r = has_root h in
    subst (λ (x : ℕ). NearestRoot (units p * one) x) (sym (nearest_root_is (units p * one) r.0 (le_of_lt r.1.most) r.1.between))
    (encloses_nearest (units p * one) r.0 (le_of_lt r.1.most) r.1.between)

-- its root is never in the middle of two doubles that follow each other
pub never_a_tie : {p : ℕ} → Positive p → (q : ℕ) → square (units q + units (suc q)) ≢ 4 * (units p * one)
never_a_tie {p} h q e = go (has_root h)
  where
    go : (r : ℕ) × Root p r → ⊥
    go (r, w) = elim (lt_or_le q r) [
      | inl l ↦ lt_irrefl (4 * (units p * one)) (lt_of_le_of_lt (le_trans (le_of_eq (sym e)) (square_le (more (units q) (units (suc q)) (units r) (units_le (suc q) r l)))) (w.between.low q l))
      | inr g ↦ lt_irrefl (4 * (units p * one)) (lt_of_lt_of_le (w.between.high (suc q) (up r q g)) (le_trans (square_le (less (units r) (units q) (units (suc q)) (units_le r q g))) (le_of_eq e)))
    ]
      where
        more : (a b c : ℕ) → b ≤ c → a + b ≤ a + c
        more a b c h = omega arith

        less : (a b c : ℕ) → a ≤ b → a + c ≤ b + c
        less a b c h = omega arith

        up : (r q : ℕ) → r ≤ q → r < suc q
        up r q h = omega arith

-- and never subnormal
pub never_subnormal : {p : ℕ} → Positive p → 2 ^ 52 ≤ nearest_root (units p * one)
never_subnormal {p} h =
    let r = has_root h in
    subst (λ (x : ℕ). 2 ^ 52 ≤ x) (sym (nearest_root_is (units p * one) r.0 (le_of_lt r.1.most) r.1.between)) r.1.least

pub never_infinite : {p : ℕ} → Positive p → nearest_root (units p * one) < infinity
never_infinite {p} h =
    let r = has_root h in
    subst (λ (x : ℕ). x < infinity) (sym (nearest_root_is (units p * one) r.0 (le_of_lt r.1.most) r.1.between)) r.1.most

-- ---- what is asked for is what is worked out

above : (u p : ℕ) → units p ≡ suc u → p < infinity → Positive p
above u p e l = record { above = pos_of_ne-zero (λ z. none (units p) u e (ap units z ∙ units_zero)); below = l }
  where
    none : (x u : ℕ) → x ≡ suc u → x ≡ 0 → ⊥
    none x u e z = omega arith

root_right : (s : Bool) (u p : ℕ) → units p ≡ u → p < infinity → Is (square_root (finite s u)) (square_root_by (λ p. p) nearest_root (finite s u))
root_right s zero p e l = refl
root_right true (suc u) p e l = refl
root_right false (suc u) p e l = subst (λ (n : ℕ). NearestRoot (n * one) (nearest_root (n * one))) e (root_nearest (above u p e l))

infinite_right : (s : Bool) → Is (square_root (infinite s)) (square_root_by (λ p. p) nearest_root (infinite s))
infinite_right true = refl
infinite_right false = refl

pub square_root_law : (b : ℕ) → Is (square_root (read b)) (square_root_bits b)
square_root_law b = elim (lt_or_le infinity (without_sign b)) [
  | inl l ↦ by (sym (read_nan b l)) refl
  | inr g ↦ elim (eq-or-lt_of_le g) [
    | inl e ↦ by (sym (read_infinite b e)) (infinite_right (negative b))
    | inr l ↦ by (sym (read_finite b l)) (root_right (negative b) (units (without_sign b)) (without_sign b) refl l)
  ]
]
  where
    by : {d e : Double} → d ≡ e → Is (square_root d) (square_root_by (λ p. p) nearest_root d) → Is (square_root e) (square_root_by (λ p. p) nearest_root e)
    by h r = subst (λ (d : Double). Is (square_root d) (square_root_by (λ p. p) nearest_root d)) h r

pub square_root_unique : (d : Double) (p q : ℕ) → Is (square_root d) p → Is (square_root d) q → p ≡ q
square_root_unique nan p q a b = a ∙ sym b
square_root_unique (infinite false) p q a b = a ∙ sym b
square_root_unique (infinite true) p q a b = a ∙ sym b
square_root_unique (finite s zero) p q a b = a ∙ sym b
square_root_unique (finite true (suc u)) p q a b = a ∙ sym b
square_root_unique (finite false (suc u)) p q a b = nearest_root_unique (suc u * one) p q a b

-- ---- read as a float and written again, a root's pattern is the same: it is no NaN's, or the one that is written

kept : (s : Bool) (p : ℕ) → p ≤ infinity → to_bits binary64 (of_bits binary64 (with_sign s p)) ≡ with_sign s p
kept s p h =
    to_bits-of_bits binary64 (with_sign s p) (signed_lt s p h)
    (subst (λ (t : Bool). T (not t))
    (sym (sym (nan_bits_is binary64 (with_sign s p)) ∙ nan_bits_above binary64 (with_sign s p) ∙ le-ltb infinity (without_sign (with_sign s p)) (signed_rest s p h)))
    tt)
  where
    signed_lt : (s : Bool) (p : ℕ) → p ≤ infinity → with_sign s p < 2 ^ 64
    signed_lt false p h = omega arith
    signed_lt true p h = omega arith

    signed_rest : (s : Bool) (p : ℕ) → p ≤ infinity → with_sign s p % 2 ^ 63 ≤ infinity
    signed_rest false p h = omega arith
    signed_rest true p h = omega arith

nan_kept : to_bits binary64 (of_bits binary64 quiet_nan) ≡ quiet_nan
unfolding to_bits of_bits
nan_kept = refl

abbrev Kept : Double → Type 0
Kept d = to_bits binary64 (of_bits binary64 (square_root_by (λ p. p) nearest_root d)) ≡ square_root_by (λ p. p) nearest_root d

infinite_kept : (s : Bool) → Kept (infinite s)
infinite_kept true = nan_kept
infinite_kept false = kept false infinity (le_refl infinity)

finite_kept : (s : Bool) (u p : ℕ) → units p ≡ u → p < infinity → Kept (finite s u)
finite_kept s zero p e l = kept s 0 zero-le
finite_kept true (suc u) p e l = nan_kept
finite_kept false (suc u) p e l = subst (λ (n : ℕ). to_bits binary64 (of_bits binary64 (nearest_root (n * one))) ≡ nearest_root (n * one)) e (kept false (nearest_root (units p * one)) (le_of_lt (never_infinite (above u p e l))))

pub root_kept : (b : ℕ) → to_bits binary64 (of_bits binary64 (square_root_bits b)) ≡ square_root_bits b
root_kept b = elim (lt_or_le infinity (without_sign b)) [
  | inl l ↦ subst Kept (sym (read_nan b l)) nan_kept
  | inr g ↦ elim (eq-or-lt_of_le g) [
    | inl e ↦ subst Kept (sym (read_infinite b e)) (infinite_kept (negative b))
    | inr l ↦ subst Kept (sym (read_finite b l)) (finite_kept (negative b) (units (without_sign b)) (without_sign b) refl l)
  ]
]

-- ---- the nearest double to the root of a square is the nearest to that number, in the sense of every other operation

half : (x n : ℕ) → square x ≤ 4 * (n * n) → x ≤ n + n
half x n h = root_le (le_trans h (le_of_eq (four n)))
  where
    four : (n : ℕ) → 4 * (n * n) ≡ (n + n) * (n + n)
    four n = omega arith

half_ge : (x n : ℕ) → 4 * (n * n) ≤ square x → n + n ≤ x
half_ge x n h = root_le (le_trans (le_of_eq (four n)) h)
  where
    four : (n : ℕ) → (n + n) * (n + n) ≡ 4 * (n * n)
    four n = omega arith

pub root_of_square : (n p : ℕ) → NearestRoot (n * n) p → Nearest n 1 p
root_of_square n p c = record { in_range = c.in_range; nearest = λ q h. by q h; ties = λ q h k t. c.ties q h k (tie (units p) (units q) n (differ q k) (simp mul-one at t)) }
  where
    low : (n x y : ℕ) → y + x ≤ n + n → y < x → n - x * 1 + (x * 1 - n) ≤ n - y * 1 + (y * 1 - n)
    low n x y h l = omega arith

    high : (n x y : ℕ) → n + n ≤ x + y → x < y → n - x * 1 + (x * 1 - n) ≤ n - y * 1 + (y * 1 - n)
    high n x y h l = omega arith

    by : (q : ℕ) → q ≤ infinity → n - units p * 1 + (units p * 1 - n) ≤ n - units q * 1 + (units q * 1 - n)
    by q h = elim (lt_or_le q p) [
      | inl l ↦ low n (units p) (units q) (half (units q + units p) n (c.low q l)) (units_lt q p l)
      | inr g ↦ elim (eq-or-lt_of_le g) [
        | inl e ↦ le_of_eq (ap (λ (x : ℕ). n - units x * 1 + (units x * 1 - n)) e)
        | inr l ↦ high n (units p) (units q) (half_ge (units p + units q) n (c.high q l h)) (units_lt p q l)
      ]
    ]

    differ : (q : ℕ) → q ≢ p → units q ≢ units p
    differ q k e = elim (lt_or_le q p) [
      | inl l ↦ lt_irrefl (units p) (subst (λ (x : ℕ). x < units p) e (units_lt q p l))
      | inr g ↦ elim (eq-or-lt_of_le g) [ inl s ↦ k (sym s) | inr l ↦ lt_irrefl (units p) (subst (λ (x : ℕ). units p < x) e (units_lt p q l)) ]
    ]

    tie : (x y n : ℕ) → y ≢ x → n - y + (y - n) ≡ n - x + (x - n) → square (x + y) ≡ 4 * (n * n)
    tie x y n d e = ap square (sum x y n d e) ∙ four n
      where
        sum : (x y n : ℕ) → y ≢ x → n - y + (y - n) ≡ n - x + (x - n) → x + y ≡ n + n
        sum x y n d e = omega arith

        four : (n : ℕ) → (n + n) * (n + n) ≡ 4 * (n * n)
        four n = omega arith

pub square_of_root : (n p : ℕ) → Nearest n 1 p → NearestRoot (n * n) p
square_of_root n p c = record {
  in_range = c.in_range;
  low = λ q l. le_trans (square_le (low (units q) (units p) n (units_lt q p l) (simp mul-one at (c.nearest q (le_trans (le_of_lt l) c.in_range))))) (le_of_eq (four n));
  high = λ q l h. le_trans (le_of_eq (sym (four n))) (square_le (high (units p) (units q) n (units_lt p q l) (simp mul-one at (c.nearest q h))));
  ties = λ q h k t. c.ties q h k (simp mul-one (tie (units p) (units q) n (le_antisymm (half (units p + units q) n (le_of_eq t)) (half_ge (units p + units q) n (le_of_eq (sym t))))));
}
  where
    four : (n : ℕ) → (n + n) * (n + n) ≡ 4 * (n * n)
    four n = omega arith

    low : (x y n : ℕ) → x < y → n - y + (y - n) ≤ n - x + (x - n) → x + y ≤ n + n
    low x y n l h = omega arith

    high : (x y n : ℕ) → x < y → n - x + (x - n) ≤ n - y + (y - n) → n + n ≤ x + y
    high x y n l h = omega arith

    tie : (x y n : ℕ) → x + y ≡ n + n → n - y + (y - n) ≡ n - x + (x - n)
    tie x y n e = omega arith

-- ---- the cases of `square_root_bits`, by the pattern b

pub at_nan : (b : ℕ) → infinity < b % 2 ^ 63 → quiet_nan ≡ square_root_bits b
at_nan b h = sym (ap (square_root_by (λ p. p) nearest_root) (read_nan b h))

pub at_zero : (b : ℕ) → b < 2 ^ 64 → b % 2 ^ 63 ≡ 0 → b ≡ square_root_bits b
at_zero b f z =
    sign_and_rest b f
    ∙ ap (with_sign (negative b)) z
    ∙ sym (ap (square_root_by (λ p. p) nearest_root) (read_finite b (small (b % 2 ^ 63) z) ∙ ap (finite (negative b)) (ap units z ∙ units_zero)))
  where
    small : (x : ℕ) → x ≡ 0 → x < infinity
    small x e = omega arith

no_root : (u : ℕ) → 0 < u → quiet_nan ≡ square_root_by (λ p. p) nearest_root (finite true u)
no_root zero h = absurd (omega arith)
no_root (suc u) h = refl

a_root : (u : ℕ) → 0 < u → nearest_root (u * one) ≡ square_root_by (λ p. p) nearest_root (finite false u)
a_root zero h = absurd (omega arith)
a_root (suc u) h = refl

pub at_negative : (b : ℕ) → b % 2 ^ 63 ≤ infinity → (b % 2 ^ 63 ≡ 0 → ⊥) → 2 ^ 63 ≤ b → quiet_nan ≡ square_root_bits b
at_negative b i z n = elim (eq-or-lt_of_le i) [
  | inl e ↦ sym (ap (square_root_by (λ p. p) nearest_root) (read_infinite b e ∙ ap infinite (le-leb (2 ^ 63) b n)))
  | inr l ↦
      no_root (units (b % 2 ^ 63)) (units_above (b % 2 ^ 63) (pos_of_ne-zero z))
      ∙ sym (ap (square_root_by (λ p. p) nearest_root) (read_finite b l ∙ ap (λ (s : Bool). finite s (units (b % 2 ^ 63))) (le-leb (2 ^ 63) b n)))
]

pub at_infinity : (b : ℕ) → b < 2 ^ 63 → b % 2 ^ 63 ≡ infinity → infinity ≡ square_root_bits b
at_infinity b n e = sym (ap (square_root_by (λ p. p) nearest_root) (read_infinite b e ∙ ap infinite (lt-leb (2 ^ 63) b n)))

-- the code hands on the pattern without its sign
pub positive : (b : ℕ) → b % 2 ^ 63 ≤ infinity → (b % 2 ^ 63 ≡ 0 → ⊥) → (b % 2 ^ 63 ≡ infinity → ⊥) → Positive (b % 2 ^ 63)
positive b i z e = record { above = pos_of_ne-zero z; below = elim (eq-or-lt_of_le i) [ inl s ↦ absurd (e s) | inr l ↦ l ] }

pub at_positive : (b : ℕ) → b < 2 ^ 63 → Positive (b % 2 ^ 63) → nearest_root (units (b % 2 ^ 63) * one) ≡ square_root_bits b
at_positive b n h =
    a_root (units (b % 2 ^ 63)) (units_above (b % 2 ^ 63) h.above)
    ∙ sym (ap (square_root_by (λ p. p) nearest_root) (read_finite b h.below ∙ ap (λ (s : Bool). finite s (units (b % 2 ^ 63))) (lt-leb (2 ^ 63) b n)))
