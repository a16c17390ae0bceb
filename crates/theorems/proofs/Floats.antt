-- The proof of Floats.antt, from the agreement of the program logic's floats with the whole-number definition (crate ieee754, Agreement.antt) and what the one
-- comparison says of doubles (crate value, proofs/Comparison.antt).
use Prim.Native.Nat.{ℕ, zero, suc, ◌<◌}
use native.Mathlib.Nat.{le_refl, zero-lt-suc}
use mathlib.Core.Path.{◌≡◌, refl, sym, ap, ap₂, ◌∙◌, subst}
use mathlib.Core.Bool.{Bool, true, false, ◌||◌, beq, cond}
use lib.Dec.{ltb}
use lib.IntN.{ℤ, pos}
use lib.Pow.{pow_pos}
use lib.Ieee as Ieee
use lib.Ieee.{binary64, of_bits, to_bits, of_int}
use Rattle.value.specs.Value.{Value, boolean, Result, ok}
use Rattle.value.specs.Arithmetic.{written}
use Rattle.value.specs.Comparison.{Comparison, Found, compare_floats, compare, answer, is_equal, is_greater, is_less}
use Rattle.value.proofs.Comparison.{by_tests, is_unordered, equal_floats, less_floats, greater_floats, unordered_floats}
use Rattle.value.proofs.ComparisonLaws.{less_where, equal_where, greater_where, unordered_where}
use Rattle.sql.specs.Expression.{Binary, function, Equal, GreaterThan, LessThan, Add, Divide, Subtract, Multiply, SquareRoot, evaluate_unary, evaluate_binary}
use Rattle.ieee754.specs.Ieee754 as Ieee754
use Rattle.ieee754.specs.Ieee754.{exactly, rounded, root_of, Double, nan, infinite, finite, read, Is, infinity, without_sign, unlike, sum, opposite, difference, infinite_times, product, quotient_of, quotient, square_root, square_root_bits, negation, of_integer}
use Rattle.ieee754.proofs.Nearest.{rounded_unique}
use Rattle.ieee754.proofs.Root.{nearest_root_unique}
use Rattle.ieee754.proofs.Reading.{Stands, a_nan, an_infinity, a_number, reads}
use Rattle.ieee754.proofs.Conversion.{converted}
use Rattle.ieee754.proofs.Agreement.{add_is_sum, sub_is_difference, mul_is_product, div_is_quotient, square_root_is_asked, neg_is_negation, ofInt_is_integer, lt_is_less, eq_is_equal}
use Rattle.theorems.specs.Floats.{Integer, Float, ExactlyOne, Gives, Says, is_nan, Relation, Pairs, FloatResults}

-- ======== What is asked for is one pattern

-- a fraction of units has a denominator above 0
abbrev Proper : Ieee754.Result → Type 0
Proper (exactly p) = Unit {0}
Proper (rounded s n d) = 0 < d
Proper (root_of n) = Unit {0}

only : (asked : Ieee754.Result) → Proper asked → (p q : ℕ) → Is asked p → Is asked q → p ≡ q
only (exactly r) h p q a b = a ∙ sym b
only (rounded s n d) h p q a b = rounded_unique s n d p q h a b
only (root_of n) h p q a b = nearest_root_unique n p q a b

module _ (asked : Ieee754.Result) (proper : Proper asked) (p : ℕ) (right : Is asked p) where
  one_pattern : ExactlyOne asked
  one_pattern = record { pattern = p; is_asked = right; no_other = λ q h. only asked proper q p h right }

  gives : Gives asked (ok (Float p))
  unfolding one_pattern
  gives = record { exactly_one = one_pattern; is_float = refl }

either : (b : Bool) (p q : ℕ) → Proper (cond b (exactly p) (exactly q))
either true p q = tt
either false p q = tt

sum_proper : (a b : Double) → Proper (sum a b)
sum_proper nan b = tt
sum_proper (infinite s) nan = tt
sum_proper (infinite s) (infinite t) = either (beq s t) _ _
sum_proper (infinite s) (finite t v) = tt
sum_proper (finite s u) nan = tt
sum_proper (finite s u) (infinite t) = tt
sum_proper (finite s u) (finite t v) = le_refl 1

infinite_times_proper : (s : Bool) (u : ℕ) → Proper (infinite_times s u)
infinite_times_proper s zero = tt
infinite_times_proper s (suc u) = tt

product_proper : (a b : Double) → Proper (product a b)
product_proper nan b = tt
product_proper (infinite s) nan = tt
product_proper (infinite s) (infinite t) = tt
product_proper (infinite s) (finite t v) = infinite_times_proper (unlike s t) v
product_proper (finite s u) nan = tt
product_proper (finite s u) (infinite t) = infinite_times_proper (unlike s t) u
product_proper (finite s u) (finite t v) = pow_pos 1074

square_root_proper : (a : Double) → Proper (square_root a)
square_root_proper nan = tt
square_root_proper (infinite false) = tt
square_root_proper (infinite true) = tt
square_root_proper (finite s zero) = tt
square_root_proper (finite false (suc u)) = tt
square_root_proper (finite true (suc u)) = tt

quotient_of_proper : (s : Bool) (u v : ℕ) → Proper (quotient_of s u v)
quotient_of_proper s zero zero = tt
quotient_of_proper s (suc u) zero = tt
quotient_of_proper s u (suc v) = zero-lt-suc v

quotient_proper : (a b : Double) → Proper (quotient a b)
quotient_proper nan b = tt
quotient_proper (infinite s) nan = tt
quotient_proper (infinite s) (infinite t) = tt
quotient_proper (infinite s) (finite t v) = tt
quotient_proper (finite s u) nan = tt
quotient_proper (finite s u) (infinite t) = tt
quotient_proper (finite s u) (finite t v) = quotient_of_proper (unlike s t) u v

-- ======== An operator on floats of the program logic

abbrev double : ℕ → Ieee.Float
double x = of_bits binary64 x

-- where a Float is met, the result is `f` of the number that the Float's pattern stands for and of the Integer rounded
record WorksBy {A : Type 0} (result : Value → Value → A) (f : Ieee.Float → Ieee.Float → A) : Type 0 where
  float_float : (x y : ℕ) → result (Float x) (Float y) ≡ f (double x) (double y)
  integer_float : (i : ℤ) (y : ℕ) → result (Integer i) (Float y) ≡ f (of_int binary64 i) (double y)
  float_integer : (x : ℕ) (j : ℤ) → result (Float x) (Integer j) ≡ f (double x) (of_int binary64 j)

-- what is right of two Floats is so of the other pairs: the double nearest to an Integer is the Integer rounded
pairs : {A : Type 0} (result : Value → Value → A) (f : Ieee.Float → Ieee.Float → A) (Right : Double → Double → A → Type 0) → WorksBy result f
    → ((x y : ℕ) → Right (read x) (read y) (f (double x) (double y))) → Pairs result Right
pairs result f Right by right = record {
  float_float = λ x y. subst (Right (read x) (read y)) (sym (by.float_float x y)) (right x y);
  integer_float = λ i x y h. subst (Right (read x) (read y)) (ap (λ z. f z (double y)) (converted i x h).of_int ∙ sym (by.integer_float i y)) (right x y);
  float_integer = λ x j y h. subst (Right (read x) (read y)) (ap (f (double x)) (converted j y h).of_int ∙ sym (by.float_integer x j)) (right x y);
}

-- two doubles are always comparable
answered : (test : Comparison → Bool) (x y : Ieee.Float) → answer (Found (compare_floats x y)) (test (Found (compare_floats x y))) ≡ ok (boolean (test (Found (compare_floats x y))))
unfolding compare_floats
answered test x y = go (Ieee.eq x y) (Ieee.lt x y) (Ieee.lt y x)
  where
    go : (e l g : Bool) → answer (Found (by_tests e l g)) (test (Found (by_tests e l g))) ≡ ok (boolean (test (Found (by_tests e l g))))
    go true l g = refl
    go false true g = refl
    go false false true = refl
    go false false false = refl

compared : (operator : Binary) (test : Comparison → Bool) (right : Double → Double → Bool)
    → WorksBy (evaluate_binary operator) (λ x y. answer (Found (compare_floats x y)) (test (Found (compare_floats x y))))
    → ((x y : ℕ) → test (Found (compare_floats (double x) (double y))) ≡ right (read x) (read y)) → Pairs (evaluate_binary operator) (λ a b. Says (right a b))
compared operator test right by agrees =
    pairs (evaluate_binary operator) (λ x y. answer (Found (compare_floats x y)) (test (Found (compare_floats x y)))) (λ a b. Says (right a b)) by
    (λ x y. answered test (double x) (double y) ∙ ap (λ b. ok (boolean b)) (agrees x y))

same_nan : {x : Ieee.Float} {a : Double} → Stands x a → Ieee.is_nan x ≡ is_nan a
unfolding Ieee.is_nan
same_nan a_nan = refl
same_nan (an_infinity s) = refl
same_nan (a_number p) = refl

-- each finding's test, at two patterns
less_at : (x y : ℕ) → is_less (Found (compare_floats (double x) (double y))) ≡ Ieee754.less (read x) (read y)
less_at x y = less_floats (double x) (double y) ∙ lt_is_less x y

equal_at : (x y : ℕ) → is_equal (Found (compare_floats (double x) (double y))) ≡ Ieee754.equal (read x) (read y)
equal_at x y = equal_floats (double x) (double y) ∙ eq_is_equal x y

greater_at : (x y : ℕ) → is_greater (Found (compare_floats (double x) (double y))) ≡ Ieee754.less (read y) (read x)
greater_at x y = greater_floats (double x) (double y) ∙ lt_is_less y x

unordered_at : (x y : ℕ) → is_unordered (Found (compare_floats (double x) (double y))) ≡ (is_nan (read x) || is_nan (read y))
unordered_at x y = unordered_floats (double x) (double y) ∙ ap₂ ◌||◌ (same_nan (reads x)) (same_nan (reads y))

related : (x y : ℕ) → Relation (read x) (read y) (Found (compare_floats (double x) (double y)))
related x y = let c = Found (compare_floats (double x) (double y)) in record {
  ordered = record {
    finds_less = less_where c _ (less_at x y);
    finds_equal = equal_where c _ (equal_at x y);
    finds_greater = greater_where c _ (greater_at x y);
  };
  unordered = unordered_where c _ (unordered_at x y);
}

-- a root, worked out
rooted : (x : ℕ) → Gives (square_root (read x)) (ok (Float (square_root_bits x)))
rooted x = gives (square_root (read x)) (square_root_proper (read x)) (square_root_bits x) (square_root_is_asked x)

root_of_rounded : (n x : ℕ) → Is (of_integer (pos n)) x → Gives (square_root (read x)) (evaluate_unary (function SquareRoot) (Integer (pos n)))
root_of_rounded n x h =
    subst (λ y. Gives (square_root (read x)) (ok (Float (square_root_bits y)))) (only (of_integer (pos n)) (le_refl 1) x (to_bits binary64 (of_int binary64 (pos n))) h (ofInt_is_integer (pos n))) (rooted x)

-- ======== The statement

pub float_results : FloatResults
float_results = record {
  every_integer = λ i. one_pattern (of_integer i) (le_refl 1) (to_bits binary64 (of_int binary64 i)) (ofInt_is_integer i);
  one_nan = refl;
  add = pairs (evaluate_binary (function Add)) (λ x y. written (Ieee.add binary64 x y)) (λ a b. Gives (sum a b))
      (record { float_float = λ x y. refl; integer_float = λ i y. refl; float_integer = λ x j. refl })
      (λ x y. gives (sum (read x) (read y)) (sum_proper (read x) (read y)) _ (add_is_sum x y));
  subtract = pairs (evaluate_binary (function Subtract)) (λ x y. written (Ieee.sub binary64 x y)) (λ a b. Gives (difference a b))
      (record { float_float = λ x y. refl; integer_float = λ i y. refl; float_integer = λ x j. refl })
      (λ x y. gives (difference (read x) (read y)) (sum_proper (read x) (opposite (read y))) _ (sub_is_difference x y));
  multiply = pairs (evaluate_binary (function Multiply)) (λ x y. written (Ieee.mul binary64 x y)) (λ a b. Gives (product a b))
      (record { float_float = λ x y. refl; integer_float = λ i y. refl; float_integer = λ x j. refl })
      (λ x y. gives (product (read x) (read y)) (product_proper (read x) (read y)) _ (mul_is_product x y));
  divide = pairs (evaluate_binary (function Divide)) (λ x y. written (Ieee.div binary64 x y)) (λ a b. Gives (quotient a b))
      (record { float_float = λ x y. refl; integer_float = λ i y. refl; float_integer = λ x j. refl })
      (λ x y. gives (quotient (read x) (read y)) (quotient_proper (read x) (read y)) _ (div_is_quotient x y));
  negate = λ x. gives (negation x) (either (ltb infinity (without_sign x)) _ _) _ (neg_is_negation x);
  square_root = rooted;
  root_of_integer = root_of_rounded;
  comparison = pairs compare (λ x y. Found (compare_floats x y)) Relation
      (record { float_float = λ x y. refl; integer_float = λ i y. refl; float_integer = λ x j. refl }) related;
  equal = compared Equal is_equal (λ a b. Ieee754.equal a b)
      (record { float_float = λ x y. refl; integer_float = λ i y. refl; float_integer = λ x j. refl })
      equal_at;
  greater_than = compared (function GreaterThan) is_greater (λ a b. Ieee754.less b a)
      (record { float_float = λ x y. refl; integer_float = λ i y. refl; float_integer = λ x j. refl })
      greater_at;
  less_than = compared (function LessThan) is_less (λ a b. Ieee754.less a b)
      (record { float_float = λ x y. refl; integer_float = λ i y. refl; float_integer = λ x j. refl })
      less_at;
  is_nan = λ x. ap (λ b. ok (boolean b)) (same_nan (reads x));
}
