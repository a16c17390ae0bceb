-- The examples of float results, computed: what `evaluate` gives, and apart from that, by whole numbers, that IEEE 754 asks for it.
use Prim.Native.Nat.{ℕ, suc, ◌+◌, ◌-◌, ◌*◌, ◌%◌, ◌≤◌, ◌<◌}
use native.Mathlib.Nat.{le_refl, le_of_eq, lt_of_le_of_lt, lt_of_lt_of_le, add-le-add, eq-or-lt_of_le, mul-le-mul_right, mul-lt-mul_of_pos_right}
use native.Mathlib.Omega.{arith}
use mathlib.Core.Bool.{Bool, true, false, ◌&&◌, ◌||◌, beq}
use mathlib.Core.List.{List, [], ◌∷◌, map}
use mathlib.Core.Logic.{inl, inr}
use mathlib.Core.Path.{◌≡◌, refl, sym, ap}
use lib.Dec.{ltb, leb, eqb}
use lib.Ieee as Ieee
use borrow.Author.Tests.{ltb-true, leb-true, eqb-true, ne_eqb}
use Rattle.rows.specs.Equalities.{all}
use Rattle.value.specs.Comparison.{compare_floats}
use Rattle.ieee754.specs.Ieee754 as Ieee754
use Rattle.ieee754.specs.Ieee754.{infinity, units, distance, square, root_bits, with_sign, without_sign, exactly, rounded, root_of, Is, read, sum, difference, product, quotient, square_root, negation, of_integer}
use Rattle.ieee754.proofs.Units.{lt_or_le, units_lt, units_le}
use Rattle.ieee754.proofs.Root.{square_le, encloses_nearest}
use Rattle.sheet_laws.specs.Content.{and_left, and_right}
use Rattle.theorems.specs.FloatExamples.{Operand, float, integer, pattern, Example, add, subtract, multiply, divide, root, negate, equal, greater, less, given, stated, Taken, Asked, All, examples}

-- ======== A test for what is asked for

-- n / d units are not below the middle of the pattern p and the one before it, nor above that of p and the next; on a middle they are only if p is even
abbrev from_below : (n d p : ℕ) → Bool
from_below n d p = leb (units (p - 1) * d + units p * d + p % 2) (n + n)

abbrev to_above : (n d p : ℕ) → Bool
to_above n d p = leb (n + n + p % 2) (units p * d + units (suc p) * d)

-- so p is nearest; after infinity there is none
abbrev is_nearest : (n d p : ℕ) → Bool
is_nearest n d p = (ltb 0 d && leb p infinity) && (from_below n d p && (eqb p infinity || to_above n d p))

or_true : (a b : Bool) → (a || b) ≡ true → (a ≡ false → b ≡ true)
or_true true b h k = absurd (let z : ◌≡◌ {A = ℕ} 0 1 = cc in omega arith)
or_true false b h k = h

-- y is as near to n as x is, where n lies on y's side of the middle of y and m, and m is no farther from y than x; as near is x only if e is 0
low : (n x m y e : ℕ) → x ≤ m → x < y → m + y + e ≤ n + n → (distance n y ≤ distance n x) × (distance n x ≡ distance n y → e ≡ 0)
low n x m y e h k l = (omega arith, λ t. omega arith)

high : (n y m x e : ℕ) → m ≤ x → y < x → n + n + e ≤ y + m → (distance n y ≤ distance n x) × (distance n x ≡ distance n y → e ≡ 0)
high n y m x e h k l = (omega arith, λ t. omega arith)

module _ (n d p : ℕ) (test : is_nearest n d p ≡ true) where
  range : (ltb 0 d && leb p infinity) ≡ true
  range = and_left (ltb 0 d && leb p infinity) _ test

  sides : (from_below n d p && (eqb p infinity || to_above n d p)) ≡ true
  sides = and_right (ltb 0 d && leb p infinity) _ test

  positive : 0 < d
  positive = ltb-true 0 d (and_left (ltb 0 d) (leb p infinity) range)

  abbrev Nearer : ℕ → Type 0
  Nearer q = (distance n (units p * d) ≤ distance n (units q * d)) × (distance n (units q * d) ≡ distance n (units p * d) → p % 2 ≡ 0)

  below : (q : ℕ) → q < p → Nearer q
  below q l =
      low n (units q * d) (units (p - 1) * d) (units p * d) (p % 2) (mul-le-mul_right d (units_le q (p - 1) (omega arith)))
      (mul-lt-mul_of_pos_right (units_lt q p l) positive) (leb-true _ _ (and_left (from_below n d p) _ sides))

  above : (q : ℕ) → q ≤ infinity → p < q → Nearer q
  above q h l =
      high n (units p * d) (units (suc p) * d) (units q * d) (p % 2) (mul-le-mul_right d (units_le (suc p) q l))
      (mul-lt-mul_of_pos_right (units_lt p q l) positive)
      (leb-true _ _ (or_true (eqb p infinity) (to_above n d p) (and_right (from_below n d p) _ sides) (ne_eqb p infinity differ)))
    where
      differ : p ≡ infinity → ⊥
      differ e = omega arith

  nearest_by_test : Ieee754.Nearest n d p
  nearest_by_test = record {
    in_range = leb-true p infinity (and_right (ltb 0 d) (leb p infinity) range);
    nearest = λ q h. elim (lt_or_le q p) [
      | inl l ↦ (below q l).0
      | inr g ↦ elim (eq-or-lt_of_le g) [ inl e ↦ le_of_eq (ap (λ (x : ℕ). distance n (units x * d)) e) | inr l ↦ (above q h l).0 ]
    ];
    ties = λ q h k t. elim (lt_or_le q p) [
      | inl l ↦ (below q l).1 t
      | inr g ↦ elim (eq-or-lt_of_le g) [ inl e ↦ absurd (k (sym e)) | inr l ↦ (above q h l).1 t ]
    ];
  }

-- the root of n is between the middles of the pattern p with its neighbours
abbrev is_nearest_root : (n p : ℕ) → Bool
is_nearest_root n p = leb p infinity && (ltb (square (units (p - 1) + units p)) (4 * n) && ltb (4 * n) (square (units p + units (suc p))))

root_by_test : (n p : ℕ) → is_nearest_root n p ≡ true → Ieee754.NearestRoot n p
root_by_test n p h = encloses_nearest n p (leb-true p infinity (and_left (leb p infinity) _ h)) (record {
  low = λ q l. lt_of_le_of_lt (square_le (add-le-add (units_le q (p - 1) (omega arith)) (le_refl (units p)))) (ltb-true _ _ (and_left (ltb (square (units (p - 1) + units p)) (4 * n)) _ sides));
  high = λ q l. lt_of_lt_of_le (ltb-true _ _ (and_right (ltb (square (units (p - 1) + units p)) (4 * n)) _ sides)) (square_le (add-le-add (le_refl (units p)) (units_le (suc p) q l)));
})
  where
    sides : (ltb (square (units (p - 1) + units p)) (4 * n) && ltb (4 * n) (square (units p + units (suc p)))) ≡ true
    sides = and_right (leb p infinity) _ h

abbrev is : Ieee754.Result → ℕ → Bool
is (exactly p) r = eqb r p
is (root_of n) r = is_nearest_root n r
is (rounded s n d) r = is_nearest n d (without_sign r) && eqb r (with_sign s (without_sign r))

is_by_test : (asked : Ieee754.Result) (r : ℕ) → is asked r ≡ true → Is asked r
is_by_test (exactly p) r h = eqb-true r p h
is_by_test (root_of n) r h = root_by_test n r h
is_by_test (rounded s n d) r h = record {
  pattern = without_sign r;
  nearest = nearest_by_test n d (without_sign r) (and_left (is_nearest n d (without_sign r)) _ h);
  signed = eqb-true r _ (and_right (is_nearest n d (without_sign r)) _ h);
}

-- ======== The test of an example

abbrev taken : Operand → Bool
taken (float x) = true
taken (integer i x) = is (of_integer i) x

abbrev asked : Example → Bool
asked (add v w r) = (taken v && taken w) && is (sum (read (pattern v)) (read (pattern w))) r
asked (subtract v w r) = (taken v && taken w) && is (difference (read (pattern v)) (read (pattern w))) r
asked (multiply v w r) = (taken v && taken w) && is (product (read (pattern v)) (read (pattern w))) r
asked (root v r) = taken v && is (square_root (read (pattern v))) r
asked (divide v w r) = (taken v && taken w) && is (quotient (read (pattern v)) (read (pattern w))) r
asked (negate x r) = is (negation x) r
asked (equal v w r) = (taken v && taken w) && beq (Ieee754.equal (read (pattern v)) (read (pattern w))) r
asked (greater v w r) = (taken v && taken w) && beq (Ieee754.less (read (pattern w)) (read (pattern v))) r
asked (less v w r) = (taken v && taken w) && beq (Ieee754.less (read (pattern v)) (read (pattern w))) r

operand_by_test : (v : Operand) → taken v ≡ true → Taken v
operand_by_test (float x) h = tt
operand_by_test (integer i x) h = is_by_test (of_integer i) x h

-- both operands, and what a test of the result says
both_and : {A : Type 0} (v w : Operand) (b : Bool) → (b ≡ true → A) → ((taken v && taken w) && b) ≡ true → Taken v × Taken w × A
both_and v w b f h =
    let operands = and_left (taken v && taken w) b h in
    (operand_by_test v (and_left (taken v) (taken w) operands), operand_by_test w (and_right (taken v) (taken w) operands), f (and_right (taken v && taken w) b h))

same : (a b : Bool) → beq a b ≡ true → a ≡ b
same true true h = refl
same false false h = refl
same true false h = sym h
same false true h = h

asked_by_test : (e : Example) → asked e ≡ true → Asked e
asked_by_test (add v w r) h = both_and v w _ (is_by_test (sum (read (pattern v)) (read (pattern w))) r) h
asked_by_test (subtract v w r) h = both_and v w _ (is_by_test (difference (read (pattern v)) (read (pattern w))) r) h
asked_by_test (multiply v w r) h = both_and v w _ (is_by_test (product (read (pattern v)) (read (pattern w))) r) h
asked_by_test (root v r) h = (operand_by_test v (and_left (taken v) _ h), is_by_test (square_root (read (pattern v))) r (and_right (taken v) _ h))
asked_by_test (divide v w r) h = both_and v w _ (is_by_test (quotient (read (pattern v)) (read (pattern w))) r) h
asked_by_test (negate x r) h = is_by_test (negation x) r h
asked_by_test (equal v w r) h = both_and v w _ (same (Ieee754.equal (read (pattern v)) (read (pattern w))) r) h
asked_by_test (greater v w r) h = both_and v w _ (same (Ieee754.less (read (pattern w)) (read (pattern v))) r) h
asked_by_test (less v w r) h = both_and v w _ (same (Ieee754.less (read (pattern v)) (read (pattern w))) r) h

all_by_test : (l : List Example) → all asked l ≡ true → All Asked l
all_by_test [] h = tt
all_by_test (e ∷ l) h = (asked_by_test e (and_left (asked e) (all asked l) h), all_by_test l (and_right (asked e) (all asked l) h))

-- ======== Both sides

pub examples_given : map given examples ≡ map stated examples
unfolding examples compare_floats Ieee.of_int Ieee.of_bits Ieee.to_bits Ieee.add Ieee.sub Ieee.mul Ieee.div Ieee.neg Ieee.eq Ieee.lt read units root_bits
examples_given = refl

pub examples_asked : All Asked examples
examples_asked = all_by_test examples computed
  where
    computed : all asked examples ≡ true
    computed = unfold examples units read in refl
