-- `NearestRoot`: it has one answer at most, `nearest_root` works it out, and the whole root of 54 digits, halved, gives it. The root of a double is never in the
-- middle of two doubles, and never subnormal. Assumes nothing.
use mathlib.Core.Path.{◌≡◌, refl, sym, ap, ◌∙◌, subst}
use mathlib.Core.Logic.{inl, inr}
use mathlib.Core.Bool.{Bool, cond}
use Prim.Native.Nat.{ℕ, zero, suc, ◌+◌, ◌-◌, ◌*◌, ◌/◌, ◌%◌, ◌^◌, ◌≤◌, ◌<◌}
use native.Mathlib.Nat.{le_refl, le_trans, le_of_lt, le_of_eq, le_antisymm, lt_of_lt_of_le, lt_of_le_of_lt, lt_irrefl, add-le-add, mul-pos, mul-le-mul, mul-le-mul_right, mul-lt-mul_of_pos_right, mul-mul-mul_comm, eq-or-lt_of_le, pow-succ'}
use native.Mathlib.Omega.{arith}
use lib.Pow.{pow_pos}
use borrow.Author.Tests.{le-leb, lt-leb}
use Rattle.ieee754.specs.Ieee754.{infinity, units, square, NearestRoot, root_bits, nearest_root}
use Rattle.ieee754.specs.Roots.{WholeRoot}
use Rattle.ieee754.proofs.Units.{lt_or_le, units_digits, units_lt, units_le}

-- ---- squares

pub square_le : {a b : ℕ} → a ≤ b → square a ≤ square b
square_le h = mul-le-mul h h

pub square_lt : {a b : ℕ} → a < b → square a < square b
square_lt {a} {b} h = lt_of_le_of_lt (mul-le-mul (le_refl a) (le_of_lt h)) (mul-lt-mul_of_pos_right h (positive a b h))
  where
    positive : (a b : ℕ) → a < b → 0 < b
    positive a b h = omega arith

pub root_le : {a b : ℕ} → square a ≤ square b → a ≤ b
root_le {a} {b} h = elim (lt_or_le b a) [ inl l ↦ absurd (lt_irrefl (square a) (lt_of_le_of_lt h (square_lt l))) | inr g ↦ g ]

pub root_lt : {a b : ℕ} → square a < square b → a < b
root_lt {a} {b} h = elim (lt_or_le a b) [ inl l ↦ l | inr g ↦ absurd (lt_irrefl (square a) (lt_of_lt_of_le h (square_le g))) ]

-- twice the middle of two doubles grows with both
middle_le : (p q r s : ℕ) → p ≤ q → r ≤ s → square (units p + units r) ≤ square (units q + units s)
middle_le p q r s h k = square_le (add-le-add (units_le p q h) (units_le r s k))

-- ---- one answer

never : (n p q : ℕ) → p < q → NearestRoot n p → NearestRoot n q → ⊥
never n p q l a b =
    let same : square (units p + units q) ≡ 4 * n = le_antisymm (b.low p l) (a.high q l b.in_range) in
    let even_p : p % 2 ≡ 0 = a.ties q b.in_range (λ e. differ p q l (sym e)) same in
    let even_q : q % 2 ≡ 0 = b.ties p a.in_range (λ e. differ p q l e) (ap square (swap (units q) (units p)) ∙ same) in
    let near : suc p < q = gap p q l even_p even_q in
    lt_irrefl (4 * n)
    (lt_of_le_of_lt (a.high (suc p) (le_refl (suc p)) (le_trans (le_of_lt near) b.in_range))
    (lt_of_lt_of_le (square_lt (further (units p) (units (suc p)) (units q) (units_lt (suc p) q near))) (le_of_eq same)))
  where
    differ : (p q : ℕ) → p < q → p ≡ q → ⊥
    differ p q l e = omega arith

    swap : (a b : ℕ) → a + b ≡ b + a
    swap a b = omega arith

    gap : (p q : ℕ) → p < q → p % 2 ≡ 0 → q % 2 ≡ 0 → suc p < q
    gap p q l e f = omega arith

    further : (a b c : ℕ) → b < c → a + b < a + c
    further a b c h = omega arith

pub nearest_root_unique : (n p q : ℕ) → NearestRoot n p → NearestRoot n q → p ≡ q
nearest_root_unique n p q a b = elim (lt_or_le p q) [
  | inl l ↦ absurd (never n p q l a b)
  | inr g ↦ elim (eq-or-lt_of_le g) [ inl e ↦ sym e | inr l ↦ absurd (never n q p l b a) ]
]

-- ---- the root is between the middles of p with its neighbours, and in neither
pub record Encloses (n p : ℕ) : Type 0 where
  pub low : (q : ℕ) → q < p → square (units q + units p) < 4 * n
  pub high : (q : ℕ) → p < q → 4 * n < square (units p + units q)

pub encloses_nearest : (n p : ℕ) → p ≤ infinity → Encloses n p → NearestRoot n p
encloses_nearest n p P c = record {
  in_range = P;
  low = λ q l. le_of_lt (c.low q l);
  high = λ q l h. le_of_lt (c.high q l);
  ties = λ q h k t. elim (lt_or_le q p) [
    | inl l ↦ absurd (lt_irrefl (4 * n) (lt_of_le_of_lt (le_of_eq (sym t ∙ ap square (swap (units p) (units q)))) (c.low q l)))
    | inr g ↦ elim (eq-or-lt_of_le g) [ inl e ↦ absurd (k (sym e)) | inr l ↦ absurd (lt_irrefl (4 * n) (lt_of_lt_of_le (c.high q l) (le_of_eq t))) ]
  ];
}
  where
    swap : (a b : ℕ) → a + b ≡ b + a
    swap a b = omega arith

-- ---- `nearest_root` finds such a p

module _ (n p : ℕ) (c : Encloses n p) where
  before_le : (r : ℕ) → 0 < r → r ≤ p → square (units (r - 1) + units r) ≤ 4 * n
  before_le r z h = le_trans (middle_le (r - 1) (p - 1) r p (less r p h) h) (le_of_lt (c.low (p - 1) (below r p z h)))
    where
      less : (r p : ℕ) → r ≤ p → r - 1 ≤ p - 1
      less r p h = omega arith

      below : (r p : ℕ) → 0 < r → r ≤ p → p - 1 < p
      below r p z h = omega arith

  after_lt : (r : ℕ) → p < r → 4 * n < square (units (r - 1) + units r)
  after_lt r h = lt_of_lt_of_le (c.high (suc p) (le_refl (suc p))) (middle_le p (r - 1) (suc p) r (less r p h) h)
    where
      less : (r p : ℕ) → p < r → p ≤ r - 1
      less r p h = omega arith

  pub finds : (i q : ℕ) → q ≤ p → p < q + 2 ^ i → root_bits n i q ≡ p
  unfolding root_bits
  finds zero q l h = same q p l h
    where
      same : (q p : ℕ) → q ≤ p → p < q + 1 → q ≡ p
      same q p l h = omega arith
  finds (suc i) q l h = elim (lt_or_le p (q + 2 ^ i)) [
    | inl below ↦
        ap (λ (t : Bool). root_bits n i (cond t (q + 2 ^ i) q)) (lt-leb (square (units (q + 2 ^ i - 1) + units (q + 2 ^ i))) (4 * n) (after_lt (q + 2 ^ i) below))
        ∙ finds i q l below
    | inr reaches ↦
        ap (λ (t : Bool). root_bits n i (cond t (q + 2 ^ i) q)) (le-leb (square (units (q + 2 ^ i - 1) + units (q + 2 ^ i))) (4 * n) (before_le (q + 2 ^ i) (more q (2 ^ i) (pow_pos i)) reaches))
        ∙ finds i (q + 2 ^ i) reaches (rest p q (2 ^ i) (2 ^ suc i) (pow-succ' 2 i) h)
  ]
    where
      more : (q a : ℕ) → 0 < a → 0 < q + a
      more q a h = omega arith

      rest : (p q a b : ℕ) → b ≡ 2 * a → p < q + b → p < q + a + a
      rest p q a b e h = omega arith

pub nearest_root_is : (n p : ℕ) → p ≤ infinity → Encloses n p → nearest_root n ≡ p
nearest_root_is n p P c = finds n p c 63 0 (none p) (small p P)
  where
    none : (p : ℕ) → 0 ≤ p
    none p = omega arith

    small : (p : ℕ) → p ≤ infinity → p < 0 + 2 ^ 63
    small p h = omega arith

-- ---- the whole root of a, halved: n is a steps of 2 ^ h units, squared

-- with k = h + 1, r / 2 steps of 2 ^ k units is the largest double that isn't above the root
module _ (n a h r : ℕ) (scaled : n ≡ a * (2 ^ h * 2 ^ h)) (even : a % 2 ≡ 0) (root : WholeRoot a r) (low_r : 2 ^ 53 ≤ r) (high_r : r < 2 ^ 54) where
  abbrev k : ℕ
  k = suc h

  four : 4 * n ≡ a * (2 ^ k * 2 ^ k)
  four = ap (λ (x : ℕ). 4 * x) scaled ∙ times a (2 ^ h) (2 ^ k) (pow-succ' 2 h)
    where
      times : (a w v : ℕ) → v ≡ 2 * w → 4 * (a * (w * w)) ≡ a * (v * v)
      times a w v e = ap (λ (x : ℕ). 4 * x) refl ∙ go a w ∙ ap (λ (x : ℕ). a * (x * x)) (sym e)
        where
          go : (a w : ℕ) → 4 * (a * (w * w)) ≡ a * (2 * w * (2 * w))
          go a w = omega arith

  steps_pos : 0 < 2 ^ k * 2 ^ k
  steps_pos = mul-pos (pow_pos k) (pow_pos k)

  at : (b : ℕ) → b ≤ 2 ^ 53 → 2 ^ 52 ≤ b → units (k * 2 ^ 52 + b) ≡ b * 2 ^ k
  at b u l = units_digits k b u (inr l)

  scale : (x : ℕ) → square (x * 2 ^ k) ≡ square x * (2 ^ k * 2 ^ k)
  scale x = mul-mul-mul_comm x (2 ^ k) x (2 ^ k)

  -- a sum of less than r steps, or of r steps where the root isn't r itself, and one of r + 1 steps
  under : (x : ℕ) → x < r * 2 ^ k → square x < 4 * n
  under x l = lt_of_lt_of_le (square_lt l) (le_trans (le_of_eq (scale r)) (le_trans (mul-le-mul_right (2 ^ k * 2 ^ k) root.low) (le_of_eq (sym four))))

  under_odd : (x : ℕ) → r % 2 ≡ 1 → x ≤ r * 2 ^ k → square x < 4 * n
  under_odd x o l = lt_of_le_of_lt (square_le l) (lt_of_le_of_lt (le_of_eq (scale r)) (lt_of_lt_of_le (mul-lt-mul_of_pos_right (odd_lt r a o even root.low) steps_pos) (le_of_eq (sym four))))
    where
      odd_square : (b : ℕ) → (2 * b + 1) * (2 * b + 1) ≡ 2 * (2 * (b * b) + 2 * b) + 1
      odd_square b = omega arith

      halves : (r : ℕ) → r % 2 ≡ 1 → r ≡ 2 * (r / 2) + 1
      halves r o = omega arith

      parity : (s c a : ℕ) → s ≡ 2 * c + 1 → a % 2 ≡ 0 → s ≤ a → s < a
      parity s c a e f l = omega arith

      odd_lt : (r a : ℕ) → r % 2 ≡ 1 → a % 2 ≡ 0 → square r ≤ a → square r < a
      odd_lt r a o e l = parity (square r) _ a (ap square (halves r o) ∙ odd_square (r / 2)) e l

  over : (x : ℕ) → suc r * 2 ^ k ≤ x → 4 * n < square x
  over x l = lt_of_lt_of_le (lt_of_le_of_lt (le_of_eq four) (mul-lt-mul_of_pos_right root.high steps_pos)) (le_trans (le_of_eq (sym (scale (suc r)))) (square_le l))

  pub encloses : Encloses n (k * 2 ^ 52 + r / 2 + r % 2)
  encloses = elim (lt_or_le (r % 2) 1) [
    | inl l ↦ subst (λ (p : ℕ). Encloses n p) (even_is (k * 2 ^ 52) r l) (by_even (r / 2) (even_half r l) (lower r low_r) (upper r high_r))
    | inr g ↦ subst (λ (p : ℕ). Encloses n p) (odd_is (k * 2 ^ 52) r g) (by_odd (r / 2) (odd_half r g) (is_odd r g) (lower r low_r) (upper r high_r))
  ]
    where
      even_is : (b r : ℕ) → r % 2 < 1 → b + r / 2 ≡ b + r / 2 + r % 2
      even_is b r l = omega arith

      odd_is : (b r : ℕ) → 1 ≤ r % 2 → b + suc (r / 2) ≡ b + r / 2 + r % 2
      odd_is b r l = omega arith

      even_half : (r : ℕ) → r % 2 < 1 → r ≡ 2 * (r / 2)
      even_half r l = omega arith

      odd_half : (r : ℕ) → 1 ≤ r % 2 → r ≡ 2 * (r / 2) + 1
      odd_half r l = omega arith

      is_odd : (r : ℕ) → 1 ≤ r % 2 → r % 2 ≡ 1
      is_odd r l = omega arith

      lower : (r : ℕ) → 2 ^ 53 ≤ r → 2 ^ 52 ≤ r / 2
      lower r l = omega arith

      upper : (r : ℕ) → r < 2 ^ 54 → r / 2 < 2 ^ 53
      upper r l = omega arith

      next : (b a : ℕ) → suc (b + a) ≡ b + suc a
      next b a = omega arith

      by_even : (b : ℕ) → r ≡ 2 * b → 2 ^ 52 ≤ b → b < 2 ^ 53 → Encloses n (k * 2 ^ 52 + b)
      by_even b e l u = record {
        low = λ q h. under (units q + units (k * 2 ^ 52 + b)) (less (units q) (units (k * 2 ^ 52 + b)) b (2 ^ k) r e (at b (le_of_lt u) l) (units_lt q (k * 2 ^ 52 + b) h));
        high = λ q h.
            over (units (k * 2 ^ 52 + b) + units q)
            (more (units q) (units (k * 2 ^ 52 + b)) (units (suc (k * 2 ^ 52 + b))) b (2 ^ k) r e (at b (le_of_lt u) l) (ap units (next (k * 2 ^ 52) b) ∙ at (suc b) u (le_trans l (up b)))
            (units_le (suc (k * 2 ^ 52 + b)) q h));
      }
        where
          up : (b : ℕ) → b ≤ suc b
          up b = omega arith

          less : (x y b w r : ℕ) → r ≡ 2 * b → y ≡ b * w → x < y → x + y < r * w
          less x y b w r e f h = subst (λ (z : ℕ). x + y < z * w) (sym e) (go x y b w f h)
            where
              go : (x y b w : ℕ) → y ≡ b * w → x < y → x + y < 2 * b * w
              go x y b w f h = omega arith

          more : (x y z b w r : ℕ) → r ≡ 2 * b → y ≡ b * w → z ≡ suc b * w → z ≤ x → suc r * w ≤ y + x
          more x y z b w r e f g h = subst (λ (t : ℕ). suc t * w ≤ y + x) (sym e) (go x y z b w f g h)
            where
              go : (x y z b w : ℕ) → y ≡ b * w → z ≡ suc b * w → z ≤ x → suc (2 * b) * w ≤ y + x
              go x y z b w f g h = omega arith

      by_odd : (b : ℕ) → r ≡ 2 * b + 1 → r % 2 ≡ 1 → 2 ^ 52 ≤ b → b < 2 ^ 53 → Encloses n (k * 2 ^ 52 + suc b)
      by_odd b e o l u = record {
        low = λ q h.
            under_odd (units q + units (k * 2 ^ 52 + suc b)) o
            (less (units q) (units (k * 2 ^ 52 + b)) (units (k * 2 ^ 52 + suc b)) b (2 ^ k) r e (at b (le_of_lt u) l) (at (suc b) u (le_trans l (up b)))
            (units_le q (k * 2 ^ 52 + b) (before q (k * 2 ^ 52) b h)));
        high = λ q h.
            over (units (k * 2 ^ 52 + suc b) + units q)
            (more (units q) (units (k * 2 ^ 52 + suc b)) b (2 ^ k) r e (at (suc b) u (le_trans l (up b))) (units_lt (k * 2 ^ 52 + suc b) q h));
      }
        where
          up : (b : ℕ) → b ≤ suc b
          up b = omega arith

          before : (q c b : ℕ) → q < c + suc b → q ≤ c + b
          before q c b h = omega arith

          less : (x y z b w r : ℕ) → r ≡ 2 * b + 1 → y ≡ b * w → z ≡ suc b * w → x ≤ y → x + z ≤ r * w
          less x y z b w r e f g h = subst (λ (t : ℕ). x + z ≤ t * w) (sym e) (go x y z b w f g h)
            where
              go : (x y z b w : ℕ) → y ≡ b * w → z ≡ suc b * w → x ≤ y → x + z ≤ (2 * b + 1) * w
              go x y z b w f g h = omega arith

          more : (x y b w r : ℕ) → r ≡ 2 * b + 1 → y ≡ suc b * w → y < x → suc r * w ≤ y + x
          more x y b w r e f h = subst (λ (t : ℕ). suc t * w ≤ y + x) (sym e) (go x y b w f h)
            where
              go : (x y b w : ℕ) → y ≡ suc b * w → y < x → suc (2 * b + 1) * w ≤ y + x
              go x y b w f h = omega arith
