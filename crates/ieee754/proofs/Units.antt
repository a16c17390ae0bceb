-- `units` grows with the pattern: each pattern stands for more units than the one before it, so no two stand for the same number. Assumes nothing.
use mathlib.Core.Path.{◌≡◌, refl, sym, ap, ◌∙◌, subst}
use mathlib.Core.Logic.{◌⊎◌, inl, inr}
use mathlib.Core.Bool.{Bool, true, false, not}
use Prim.Native.Nat.{ℕ, zero, suc, ◌+◌, ◌-◌, ◌*◌, ◌/◌, ◌%◌, ◌^◌, ◌≤◌, ◌<◌}
use native.Mathlib.Nat.{le_of_lt, le_of_eq, lt_irrefl, mul-one, mul_assoc, mul-lt-mul_of_pos_right, eq-or-lt_of_le, mod-lt, div-add-mod', pow-succ'}
use native.Mathlib.Omega.{arith}
use lib.Dec.{T, ltb, ltb→lt, nltb→le}
use lib.Arith.{digits_div, digits_mod}
use lib.Pow.{pow_pos}
use Rattle.ieee754.specs.Ieee754.{double_of_fields, units, infinity}

pub lt_or_le : (a b : ℕ) → (a < b) ⊎ (b ≤ a)
lt_or_le a b = go (ltb a b) (ltb→lt a b) (nltb→le a b)
  where
    go : (t : Bool) → (T t → a < b) → (T (not t) → b ≤ a) → (a < b) ⊎ (b ≤ a)
    go true h k = inl (h tt)
    go false h k = inr (k tt)

-- a pattern by its two fields
units_fields : (x t : ℕ) → t < 2 ^ 52 → units (x * 2 ^ 52 + t) ≡ double_of_fields x t
unfolding units
units_fields x t h = ap (λ (y : ℕ). double_of_fields y ((x * 2 ^ 52 + t) % 2 ^ 52)) (digits_div x h) ∙ ap (double_of_fields x) (digits_mod x h)

-- ---- q * 2 ^ k units, where q has 53 digits, or fewer and k = 0

-- no leading digit
digits_low : (k q : ℕ) → k ≡ 0 → q < 2 ^ 52 → units (k * 2 ^ 52 + q) ≡ q * 2 ^ k
digits_low k q z h = ap (λ (x : ℕ). units (x * 2 ^ 52 + q)) z ∙ units_fields 0 q h ∙ sym (mul-one q) ∙ ap (λ (x : ℕ). q * 2 ^ x) (sym z)

up_one : (k q : ℕ) → 2 ^ 52 ≤ q → k * 2 ^ 52 + q ≡ suc k * 2 ^ 52 + (q - 2 ^ 52)
up_one k q l = omega arith

rest_lt : (q : ℕ) → q < 2 ^ 53 → q - 2 ^ 52 < 2 ^ 52
rest_lt q h = omega arith

with_lead : (q : ℕ) → 2 ^ 52 ≤ q → 2 ^ 52 + (q - 2 ^ 52) ≡ q
with_lead q l = omega arith

digits_high : (k q : ℕ) → 2 ^ 52 ≤ q → q < 2 ^ 53 → units (k * 2 ^ 52 + q) ≡ q * 2 ^ k
digits_high k q l h =
    ap units (up_one k q l) ∙ units_fields (suc k) (q - 2 ^ 52) (rest_lt q h) ∙ ap (λ (x : ℕ). x * 2 ^ k) (with_lead q l)

up_two : (k q : ℕ) → q ≡ 2 ^ 53 → k * 2 ^ 52 + q ≡ suc (suc k) * 2 ^ 52 + 0
up_two k q e = omega arith

-- a carry: 2 ^ 53 moves on to the next exponent's field
digits_top : (k q : ℕ) → q ≡ 2 ^ 53 → units (k * 2 ^ 52 + q) ≡ q * 2 ^ k
digits_top k q e =
    ap units (up_two k q e)
    ∙ units_fields (suc (suc k)) 0 (pow_pos 52)
    ∙ ap (λ (x : ℕ). 2 ^ 52 * x) (pow-succ' 2 k)
    ∙ sym (mul_assoc (2 ^ 52) 2 (2 ^ k))
    ∙ ap (λ (x : ℕ). x * 2 ^ k) (sym e)

pub units_digits : (k q : ℕ) → q ≤ 2 ^ 53 → (k ≡ 0) ⊎ (2 ^ 52 ≤ q) → units (k * 2 ^ 52 + q) ≡ q * 2 ^ k
units_digits k q h lead = elim (eq-or-lt_of_le h) [
  | inl e ↦ digits_top k q e
  | inr l ↦ elim (lt_or_le q (2 ^ 52)) [ inl s ↦ elim lead [ inl z ↦ digits_low k q z s | inr b ↦ digits_high k q b l ] | inr b ↦ digits_high k q b l ]
]

-- ---- the next pattern

-- every pattern has that form
as_digits : (p : ℕ) → (k : ℕ) × (q : ℕ) × (p ≡ k * 2 ^ 52 + q) × (q < 2 ^ 53) × ((k ≡ 0) ⊎ (2 ^ 52 ≤ q))
as_digits p = go (p / 2 ^ 52) (p % 2 ^ 52) (sym (div-add-mod' p (2 ^ 52))) (mod-lt p (pow_pos 52))
  where
    wide : (t : ℕ) → t < 2 ^ 52 → t < 2 ^ 53
    wide t h = omega arith

    lead : (t : ℕ) → t < 2 ^ 52 → 2 ^ 52 + t < 2 ^ 53
    lead t h = omega arith

    leads : (t : ℕ) → 2 ^ 52 ≤ 2 ^ 52 + t
    leads t = omega arith

    moved : (p x t : ℕ) → p ≡ suc x * 2 ^ 52 + t → p ≡ x * 2 ^ 52 + (2 ^ 52 + t)
    moved p x t e = omega arith

    go : (x t : ℕ) → p ≡ x * 2 ^ 52 + t → t < 2 ^ 52 → (k : ℕ) × (q : ℕ) × (p ≡ k * 2 ^ 52 + q) × (q < 2 ^ 53) × ((k ≡ 0) ⊎ (2 ^ 52 ≤ q))
    go zero t e h = (0, t, e, wide t h, inl refl)
    go (suc x) t e h = (x, 2 ^ 52 + t, moved p x t e, lead t h, inr (leads t))

pub units_next : (p : ℕ) → units p < units (suc p)
units_next p = go (as_digits p)
  where
    after : (k q : ℕ) → p ≡ k * 2 ^ 52 + q → suc p ≡ k * 2 ^ 52 + suc q
    after k q e = omega arith

    more : (q : ℕ) → 2 ^ 52 ≤ q → 2 ^ 52 ≤ suc q
    more q h = omega arith

    go : (k : ℕ) × (q : ℕ) × (p ≡ k * 2 ^ 52 + q) × (q < 2 ^ 53) × ((k ≡ 0) ⊎ (2 ^ 52 ≤ q)) → units p < units (suc p)
    go (k, q, e, h, lead) =
        subst (λ (x : ℕ). units p < x) (sym (ap units (after k q e) ∙ units_digits k (suc q) h (elim lead [ inl z ↦ inl z | inr l ↦ inr (more q l) ])))
        (subst (λ (x : ℕ). x < suc q * 2 ^ k) (sym (ap units e ∙ units_digits k q (le_of_lt h) lead)) (mul-lt-mul_of_pos_right (le_of_eq refl) (pow_pos k)))

-- ---- the order of patterns is that of their units

pub units_lt : (p q : ℕ) → p < q → units p < units q
units_lt p zero h = absurd (none p h)
  where
    none : (p : ℕ) → p < 0 → ⊥
    none p h = omega arith
units_lt p (suc q) h = elim (eq-or-lt_of_le h) [ inl e ↦ subst (λ (x : ℕ). units p < units x) e (units_next p) | inr l ↦ step p q (units_lt p q (less p q l)) ]
  where
    less : (p q : ℕ) → suc p < suc q → p < q
    less p q l = omega arith

    step : (p q : ℕ) → units p < units q → units p < units (suc q)
    step p q l = let n = units_next q in omega arith

pub units_le : (p q : ℕ) → p ≤ q → units p ≤ units q
units_le p q h = elim (eq-or-lt_of_le h) [ inl e ↦ le_of_eq (ap units e) | inr l ↦ le_of_lt (units_lt p q l) ]

pub units_injective : (p q : ℕ) → units p ≡ units q → p ≡ q
units_injective p q e = elim (lt_or_le p q) [
  | inl l ↦ absurd (lt_irrefl (units q) (subst (λ (x : ℕ). x < units q) e (units_lt p q l)))
  | inr g ↦ elim (eq-or-lt_of_le g) [ inl s ↦ sym s | inr l ↦ absurd (lt_irrefl (units q) (subst (λ (x : ℕ). units q < x) e (units_lt q p l))) ]
]

pub units_infinity : units infinity ≡ 2 ^ 2098
unfolding units
units_infinity = refl
