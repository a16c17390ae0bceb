-- `Nearest`: it has one answer at most, it sees only the value of its fraction, and the quotient of n by a power of two, rounded to a whole number, gives it.
-- Assumes nothing.
use mathlib.Core.Path.{◌≡◌, refl, sym, ap, ◌∙◌}
use mathlib.Core.Logic.{◌⊎◌, inl, inr}
use Prim.Native.Nat.{ℕ, suc, ◌+◌, ◌-◌, ◌*◌, ◌%◌, ◌^◌, ◌≤◌, ◌<◌}
use native.Mathlib.Nat.{le_refl, le_trans, le_of_lt, le_of_eq, le_antisymm, lt_of_lt_of_le, mul_comm, mul_assoc, mul_right_comm, add-mul, mul-sub, mul-le-mul_right, mul-lt-mul_of_pos_right, le_of_mul-le-mul_right, eq_of_mul-eq-mul_right, eq-or-lt_of_le, suc-mul, le_of_suc-le-suc}
use native.Mathlib.Omega.{arith}
use mathlib.Core.Bool.{Bool}
use Rattle.ieee754.specs.Ieee754.{units, infinity, distance, Nearest, with_sign, Rounded}
use Rattle.ieee754.proofs.Units.{lt_or_le, units_digits, units_lt, units_le}

-- ---- distances

pub sub_mul : (a b c : ℕ) → (a - b) * c ≡ a * c - b * c
sub_mul a b c = mul_comm (a - b) c ∙ mul-sub c a b ∙ ap (λ (x : ℕ). x - c * b) (mul_comm c a) ∙ ap (λ (x : ℕ). a * c - x) (mul_comm c b)

distance_mul : (a b c : ℕ) → distance a b * c ≡ distance (a * c) (b * c)
distance_mul a b c = add-mul (a - b) (b - a) c ∙ ap (λ (x : ℕ). x + (b - a) * c) (sub_mul a b c) ∙ ap (λ (x : ℕ). a * c - b * c + x) (sub_mul b a c)

-- ---- where n stands against the middle of x and y says which of the two is nearer
nearer_low : (n x y : ℕ) → x < y → n + n ≤ x + y → distance n x ≤ distance n y
nearer_low n x y l h = omega arith

nearer_high : (n x y : ℕ) → x < y → x + y ≤ n + n → distance n y ≤ distance n x
nearer_high n x y l h = omega arith

middle : (n x y : ℕ) → x < y → distance n x ≡ distance n y → n + n ≡ x + y
middle n x y l h = omega arith

-- ---- one answer
module _ (n d : ℕ) (D : 0 < d) where
  at_lt : (p q : ℕ) → p < q → units p * d < units q * d
  at_lt p q h = mul-lt-mul_of_pos_right (units_lt p q h) D

  -- between two that are as near stands one that is nearer
  never : (p q : ℕ) → p < q → Nearest n d p → Nearest n d q → ⊥
  never p q l a b =
      let same : distance n (units p * d) ≡ distance n (units q * d) = le_antisymm (a.nearest q b.in_range) (b.nearest p a.in_range) in
      let even_p : p % 2 ≡ 0 = a.ties q b.in_range (λ e. differ p q l (sym e)) (sym same) in
      let even_q : q % 2 ≡ 0 = b.ties p a.in_range (λ e. differ p q l e) same in
      let near : suc p < q = gap p q l even_p even_q in
      between n (units p * d) (units (suc p) * d) (units q * d) (at_lt p (suc p) (le_of_eq refl)) (at_lt (suc p) q near) same
      (a.nearest (suc p) (le_trans (le_of_lt near) b.in_range))
    where
      differ : (p q : ℕ) → p < q → p ≡ q → ⊥
      differ p q l e = omega arith

      gap : (p q : ℕ) → p < q → p % 2 ≡ 0 → q % 2 ≡ 0 → suc p < q
      gap p q l e f = omega arith

      between : (n x m y : ℕ) → x < m → m < y → distance n x ≡ distance n y → distance n x ≤ distance n m → ⊥
      between n x m y a b e h = omega arith

pub nearest_unique : (n d p q : ℕ) → 0 < d → Nearest n d p → Nearest n d q → p ≡ q
nearest_unique n d p q D a b = elim (lt_or_le p q) [
  | inl l ↦ absurd (never n d D p q l a b)
  | inr g ↦ elim (eq-or-lt_of_le g) [ inl e ↦ sym e | inr l ↦ absurd (never n d D q p l b a) ]
]

-- ---- equal fractions have the same nearest double
module _ (n d m e : ℕ) (D : 0 < d) (E : 0 < e) (same : n * e ≡ m * d) where
  across : (u : ℕ) → distance n (u * d) * e ≡ distance m (u * e) * d
  across u = distance_mul n (u * d) e ∙ ap (λ (x : ℕ). distance x (u * d * e)) same ∙ ap (λ (x : ℕ). distance (m * d) x) (mul_right_comm u d e) ∙ sym (distance_mul m (u * e) d)

  pub nearest_same : {p : ℕ} → Nearest n d p → Nearest m e p
  nearest_same {p} a = record {
    in_range = a.in_range;
    nearest = λ q h.
        le_of_mul-le-mul_right
        (le_trans (le_of_eq (sym (across (units p)))) (le_trans (mul-le-mul_right e (a.nearest q h)) (le_of_eq (across (units q)))))
        D;
    ties = λ q h k t.
        a.ties q h k
        (eq_of_mul-eq-mul_right e E (distance n (units q * d)) (distance n (units p * d)) (across (units q) ∙ ap (λ (x : ℕ). x * d) t ∙ sym (across (units p))));
  }

-- ---- n / d between two patterns that follow each other
-- p is at least as near as each other pattern, the exponent's range being unbounded, and even where another is as near
pub record Closest (n d p : ℕ) : Type 0 where
  pub low : (q : ℕ) → q < p → units q * d + units p * d ≤ n + n
  pub high : (q : ℕ) → p < q → n + n ≤ units p * d + units q * d
  pub even_low : (q : ℕ) → q < p → units q * d + units p * d ≡ n + n → p % 2 ≡ 0
  pub even_high : (q : ℕ) → p < q → n + n ≡ units p * d + units q * d → p % 2 ≡ 0

module _ (n d : ℕ) (D : 0 < d) where
  -- in the range
  pub closest_nearest : (p : ℕ) → p ≤ infinity → Closest n d p → Nearest n d p
  closest_nearest p P c = record {
    in_range = P;
    nearest = λ q h. by_order q (λ l. nearer_high n (units q * d) (units p * d) (at_lt n d D q p l) (c.low q l)) (λ e. le_of_eq (ap (λ (x : ℕ). distance n (units x * d)) (sym e)))
        (λ l. nearer_low n (units p * d) (units q * d) (at_lt n d D p q l) (c.high q l));
    ties = λ q h k t. by_order q (λ l. c.even_low q l (sym (middle n (units q * d) (units p * d) (at_lt n d D q p l) t))) (λ e. absurd (k e))
        (λ l. c.even_high q l (middle n (units p * d) (units q * d) (at_lt n d D p q l) (sym t)));
  }
    where
      by_order : {A : Type 0} (q : ℕ) → (q < p → A) → (q ≡ p → A) → (p < q → A) → A
      by_order q a b c = elim (lt_or_le q p) [ inl l ↦ a l | inr g ↦ elim (eq-or-lt_of_le g) [ inl e ↦ b (sym e) | inr l ↦ c l ] ]

  -- past its end, infinity is nearest
  pub closest_infinity : (p : ℕ) → infinity < p → Closest n d p → Nearest n d infinity
  closest_infinity p P c = record {
    in_range = le_refl infinity;
    nearest = λ q h. elim (eq-or-lt_of_le h) [
      | inl e ↦ le_of_eq (ap (λ (x : ℕ). distance n (units x * d)) (sym e))
      | inr l ↦
          nearer_high n (units q * d) (units infinity * d) (at_lt n d D q infinity l)
          (under (units q * d) (units infinity * d) (units p * d) n (le_of_lt (at_lt n d D infinity p P)) (c.low q (lt_of_lt_of_le l (le_of_lt P))))
    ];
    ties = λ q h k t. refl;
  }
    where
      under : (x i y n : ℕ) → i ≤ y → x + y ≤ n + n → x + i ≤ n + n
      under x i y n a b = omega arith

-- ---- n is a whole number a of steps of 2 ^ k units, and r: a or the next number up, by how r compares with half a step
module _ (n d k a r : ℕ) (D : 0 < d) (fit : a < 2 ^ 53) (lead : (k ≡ 0) ⊎ (2 ^ 52 ≤ a)) (whole : n ≡ a * (d * 2 ^ k) + r) where
  step_at : (b : ℕ) → b ≤ 2 ^ 53 → (k ≡ 0) ⊎ (2 ^ 52 ≤ b) → units (k * 2 ^ 52 + b) * d ≡ b * (d * 2 ^ k)
  step_at b h l = ap (λ (x : ℕ). x * d) (units_digits k b h l) ∙ mul_assoc b (2 ^ k) d ∙ ap (λ (x : ℕ). b * x) (mul_comm (2 ^ k) d)

  below : units (k * 2 ^ 52 + a) * d ≡ a * (d * 2 ^ k)
  below = step_at a (le_of_lt fit) lead

  above : units (suc (k * 2 ^ 52 + a)) * d ≡ a * (d * 2 ^ k) + d * 2 ^ k
  above = ap (λ (x : ℕ). units x * d) (next (k * 2 ^ 52) a) ∙ step_at (suc a) fit (elim lead [ inl z ↦ inl z | inr l ↦ inr (more a l) ]) ∙ suc-mul a (d * 2 ^ k)
    where
      next : (b a : ℕ) → suc (b + a) ≡ b + suc a
      next b a = omega arith

      more : (a : ℕ) → 2 ^ 52 ≤ a → 2 ^ 52 ≤ suc a
      more a h = omega arith

  pub closest_low : r + r ≤ d * 2 ^ k → (r + r ≡ d * 2 ^ k → a % 2 ≡ 0) → Closest n d (k * 2 ^ 52 + a)
  closest_low half even = record {
    low = λ q l. let x = mul-le-mul_right d (units_le q (k * 2 ^ 52 + a) (le_of_lt l)) in low₁ (units q * d) (units (k * 2 ^ 52 + a) * d) (a * (d * 2 ^ k)) r n x below whole;
    high = λ q l. let x = mul-le-mul_right d (units_le (suc (k * 2 ^ 52 + a)) q l) in high₁ (units q * d) (units (k * 2 ^ 52 + a) * d) (units (suc (k * 2 ^ 52 + a)) * d) (a * (d * 2 ^ k)) (d * 2 ^ k) r n x below above whole half;
    even_low = λ q l e. absurd (low₂ (units q * d) (units (k * 2 ^ 52 + a) * d) (a * (d * 2 ^ k)) r n (at_lt n d D q (k * 2 ^ 52 + a) l) below whole e);
    even_high = λ q l e.
        let x = mul-le-mul_right d (units_le (suc (k * 2 ^ 52 + a)) q l) in
        parity k a (even (high₂ (units q * d) (units (k * 2 ^ 52 + a) * d) (units (suc (k * 2 ^ 52 + a)) * d) (a * (d * 2 ^ k)) (d * 2 ^ k) r n x below above whole half e));
  }
    where
      low₁ : (x y b r n : ℕ) → x ≤ y → y ≡ b → n ≡ b + r → x + y ≤ n + n
      low₁ x y b r n h e f = omega arith

      low₂ : (x y b r n : ℕ) → x < y → y ≡ b → n ≡ b + r → x + y ≡ n + n → ⊥
      low₂ x y b r n h e f g = omega arith

      high₁ : (x y z b u r n : ℕ) → z ≤ x → y ≡ b → z ≡ b + u → n ≡ b + r → r + r ≤ u → n + n ≤ y + x
      high₁ x y z b u r n h e f g k = omega arith

      high₂ : (x y z b u r n : ℕ) → z ≤ x → y ≡ b → z ≡ b + u → n ≡ b + r → r + r ≤ u → n + n ≡ y + x → r + r ≡ u
      high₂ x y z b u r n h e f g k l = omega arith

      parity : (k a : ℕ) → a % 2 ≡ 0 → (k * 2 ^ 52 + a) % 2 ≡ 0
      parity k a h = omega arith

  pub closest_high : r < d * 2 ^ k → d * 2 ^ k ≤ r + r → (r + r ≡ d * 2 ^ k → suc a % 2 ≡ 0) → Closest n d (suc (k * 2 ^ 52 + a))
  closest_high fit_r half even = record {
    low = λ q l. let x = mul-le-mul_right d (units_le q (k * 2 ^ 52 + a) (le_of_suc-le-suc l)) in low₁ (units q * d) (units (k * 2 ^ 52 + a) * d) (units (suc (k * 2 ^ 52 + a)) * d) (a * (d * 2 ^ k)) (d * 2 ^ k) r n x below above whole half;
    high = λ q l. let x = at_lt n d D (suc (k * 2 ^ 52 + a)) q l in high₁ (units q * d) (units (suc (k * 2 ^ 52 + a)) * d) (a * (d * 2 ^ k)) (d * 2 ^ k) r n (le_of_lt x) above whole fit_r;
    even_low = λ q l e.
        let x = mul-le-mul_right d (units_le q (k * 2 ^ 52 + a) (le_of_suc-le-suc l)) in
        parity k a (even (low₂ (units q * d) (units (k * 2 ^ 52 + a) * d) (units (suc (k * 2 ^ 52 + a)) * d) (a * (d * 2 ^ k)) (d * 2 ^ k) r n x below above whole half e));
    even_high = λ q l e.
        let x = at_lt n d D (suc (k * 2 ^ 52 + a)) q l in
        absurd (high₂ (units q * d) (units (suc (k * 2 ^ 52 + a)) * d) (a * (d * 2 ^ k)) (d * 2 ^ k) r n x above whole fit_r e);
  }
    where
      low₁ : (x y z b u r n : ℕ) → x ≤ y → y ≡ b → z ≡ b + u → n ≡ b + r → u ≤ r + r → x + z ≤ n + n
      low₁ x y z b u r n h e f g k = omega arith

      low₂ : (x y z b u r n : ℕ) → x ≤ y → y ≡ b → z ≡ b + u → n ≡ b + r → u ≤ r + r → x + z ≡ n + n → r + r ≡ u
      low₂ x y z b u r n h e f g k l = omega arith

      high₁ : (x z b u r n : ℕ) → z ≤ x → z ≡ b + u → n ≡ b + r → r < u → n + n ≤ z + x
      high₁ x z b u r n h f g k = omega arith

      high₂ : (x z b u r n : ℕ) → z < x → z ≡ b + u → n ≡ b + r → r < u → n + n ≡ z + x → ⊥
      high₂ x z b u r n h f g k l = omega arith

      parity : (k a : ℕ) → suc a % 2 ≡ 0 → suc (k * 2 ^ 52 + a) % 2 ≡ 0
      parity k a h = omega arith

-- ---- with a sign
pub rounded_unique : (s : Bool) (n d a b : ℕ) → 0 < d → Rounded s n d a → Rounded s n d b → a ≡ b
rounded_unique s n d a b D x y = x.signed ∙ ap (with_sign s) (nearest_unique n d x.pattern y.pattern D x.nearest y.nearest) ∙ sym y.signed
