-- Examples of the operators, computed.
use Rattle.std.specs.Prelude.{ℕ, ◌+◌, ◌-◌, ◌^◌, ◌≡◌, refl, true, false, List, [], ◌∷◌, map, ℤ, pos, negsuc, replicate}
use Rattle.std.specs.Float.Ieee as Ieee
use Rattle.value.specs.Value.{Value, integer, float, string, the_nan, datum, null, boolean, Result, ok, err, overflow, division_by_zero, mismatch}
use Rattle.value.specs.Logic.{logical_and}
use Rattle.value.specs.Comparison.{Comparison, Null, Found, Less, Equal, Greater, Unordered, NotComparable, compare_integers, compare_floats, compare_bytes, compare, equal, greater_than, less_than}
use Rattle.ieee754.specs.Ieee754.{units, root_bits, read}
use Rattle.value.specs.Arithmetic.{add_integers, subtract_integers, multiply_integers, divide_integers, checked_add, checked_sub, checked_mul, checked_div, negate, square_root, checked}

abbrev Integer : ℤ → Value
Integer i = datum (integer i)

abbrev Float : ℕ → Value
Float bits = datum (float bits)

-- the reference is of no account here
abbrev String : List ℕ → Value
String bytes = datum (string 0 bytes)

largest : ℤ
largest = pos (2 ^ 63 - 1)

smallest : ℤ
smallest = negsuc (2 ^ 63 - 1)

infinity : ℕ
infinity = 0x7FF0000000000000

largest_plus_one : checked_add (Integer largest) (Integer (pos 1)) ≡ err overflow
unfolding largest add_integers
largest_plus_one = refl

up_to_largest : checked_add (Integer (pos (2 ^ 63 - 2))) (Integer (pos 1)) ≡ ok (Integer largest)
unfolding largest add_integers
up_to_largest = refl

one_over_zero : checked_div (Integer (pos 1)) (Integer (pos 0)) ≡ err division_by_zero
unfolding divide_integers
one_over_zero = refl

one_over_float_zero : checked_div (Integer (pos 1)) (Float 0) ≡ ok (Float infinity)
unfolding infinity Ieee.of_int Ieee.of_bits Ieee.div Ieee.to_bits
one_over_float_zero = refl

smallest_over_minus_one : checked_div (Integer smallest) (Integer (negsuc 0)) ≡ err overflow
unfolding smallest divide_integers
smallest_over_minus_one = refl

smallest_negated : negate (Integer smallest) ≡ err overflow
unfolding smallest checked
smallest_negated = refl

-- 0 − MIN, −1 − MIN
zero_less_smallest : checked_sub (Integer (pos 0)) (Integer smallest) ≡ err overflow
unfolding smallest subtract_integers
zero_less_smallest = refl

minus_one_less_smallest : checked_sub (Integer (negsuc 0)) (Integer smallest) ≡ ok (Integer largest)
unfolding smallest largest subtract_integers
minus_one_less_smallest = refl

smallest_times_minus_one : checked_mul (Integer smallest) (Integer (negsuc 0)) ≡ err overflow
unfolding smallest multiply_integers
smallest_times_minus_one = refl

-- the largest Integer whose square is one, and the next; the smallest Integer as a product
squares : map (λ i. checked_mul (Integer i) (Integer i)) (pos 3037000499 ∷ pos 3037000500 ∷ negsuc 3037000498 ∷ []) ≡
    (ok (Integer (pos 9223372030926249001)) ∷ err overflow ∷ ok (Integer (pos 9223372030926249001)) ∷ [])
unfolding multiply_integers
squares = refl

smallest_as_product : checked_mul (Integer (pos (2 ^ 32))) (Integer (negsuc (2 ^ 31 - 1))) ≡ ok (Integer smallest)
unfolding smallest multiply_integers
smallest_as_product = refl

-- 0 × −1.0 is −0.0, and 0 × ∞ is NaN
zero_times : map (checked_mul (Integer (pos 0))) (Float 0xBFF0000000000000 ∷ Float infinity ∷ []) ≡ (ok (Float (2 ^ 63)) ∷ ok (Float the_nan) ∷ [])
unfolding infinity Ieee.of_int Ieee.of_bits Ieee.mul Ieee.to_bits
zero_times = refl

-- 0.0 − 0.0 and −0.0 − 0 are zeros of two signs
zero_less_zero : map (λ x. checked_sub (Float x) (Integer (pos 0))) (0 ∷ 2 ^ 63 ∷ []) ≡ (ok (Float 0) ∷ ok (Float (2 ^ 63)) ∷ [])
unfolding Ieee.of_int Ieee.of_bits Ieee.sub Ieee.to_bits
zero_less_zero = refl

null_times_string : checked_mul null (String []) ≡ err mismatch
null_times_string = refl

-- √2, √(2^53 + 9), of which the Integer is rounded first, √0, and an Integer below zero
roots_of_integers : map (λ i. square_root (Integer i)) (pos 2 ∷ pos 9007199254741001 ∷ pos 0 ∷ negsuc 0 ∷ []) ≡
    (ok (Float 0x3FF6A09E667F3BCD) ∷ ok (Float 0x4196A09E667F3BCF) ∷ ok (Float 0) ∷ err mismatch ∷ [])
unfolding Ieee.of_int Ieee.to_bits read units root_bits
roots_of_integers = refl

-- of the smallest double, −0.0, −1, ∞ and −∞
roots_of_floats : map (λ x. square_root (Float x)) (1 ∷ 2 ^ 63 ∷ 0xBFF0000000000000 ∷ infinity ∷ (2 ^ 63 + infinity) ∷ []) ≡
    (ok (Float 0x1E60000000000000) ∷ ok (Float (2 ^ 63)) ∷ ok (Float the_nan) ∷ ok (Float infinity) ∷ ok (Float the_nan) ∷ [])
unfolding infinity read units root_bits
roots_of_floats = refl

roots_of_others : map square_root (null ∷ boolean true ∷ String [] ∷ []) ≡ (ok null ∷ err mismatch ∷ err mismatch ∷ [])
roots_of_others = refl

-- −7 / 2 is −3
cut_toward_zero : checked_div (Integer (negsuc 6)) (Integer (pos 2)) ≡ ok (Integer (negsuc 2))
unfolding divide_integers
cut_toward_zero = refl

-- ∞ + −∞
nan_result : checked_add (Float infinity) (Float (2 ^ 63 + infinity)) ≡ ok (Float the_nan)
unfolding infinity Ieee.of_bits Ieee.add Ieee.to_bits
nan_result = refl

null_plus_null : checked_add null null ≡ ok null
null_plus_null = refl

null_plus_string : checked_add null (String []) ≡ err mismatch
null_plus_string = refl

null_equals_string : equal null (String []) ≡ ok null
null_equals_string = refl

-- 2^53 + 1 is rounded to 2^53
rounded_first : equal (Integer (pos (2 ^ 53 + 1))) (Float 0x4340000000000000) ≡ ok (boolean true)
unfolding compare_floats Ieee.of_int Ieee.of_bits Ieee.eq Ieee.lt
rounded_first = refl

-- ---- the one comparison

-- one value of each kind, and NaN
abbrev kinds : List Value
kinds = null ∷ boolean true ∷ Integer (pos 1) ∷ Float 0x3FF0000000000000 ∷ Float the_nan ∷ String (97 ∷ []) ∷ []

-- a line for each left value, a column for each right one
each_kind : map (λ v. map (compare v) kinds) kinds ≡
    ((Null ∷ Null ∷ Null ∷ Null ∷ Null ∷ Null ∷ [])
    ∷ (Null ∷ Found Equal ∷ Found NotComparable ∷ Found NotComparable ∷ Found NotComparable ∷ Found NotComparable ∷ [])
    ∷ (Null ∷ Found NotComparable ∷ Found Equal ∷ Found Equal ∷ Found Unordered ∷ Found NotComparable ∷ [])
    ∷ (Null ∷ Found NotComparable ∷ Found Equal ∷ Found Equal ∷ Found Unordered ∷ Found NotComparable ∷ [])
    ∷ (Null ∷ Found NotComparable ∷ Found Unordered ∷ Found Unordered ∷ Found Unordered ∷ Found NotComparable ∷ [])
    ∷ (Null ∷ Found NotComparable ∷ Found NotComparable ∷ Found NotComparable ∷ Found NotComparable ∷ Found Equal ∷ [])
    ∷ [])
unfolding compare_integers compare_floats compare_bytes Ieee.of_int Ieee.of_bits Ieee.eq Ieee.lt
each_kind = refl

abbrev minus_zero : Value
minus_zero = Float (2 ^ 63)

-- where the left value is less, and with the sides swapped greater
abbrev pairs_in_order : List (Value × Value)
pairs_in_order =
    (boolean false, boolean true)
    ∷ (Integer (negsuc 0), Integer (pos 0))
    ∷ (Integer (pos (2 ^ 53)), Integer (pos (2 ^ 53 + 1)))
    -- the first bytes that differ, compared without a sign; and 'a' before 'ab'
    ∷ (String (97 ∷ 127 ∷ 255 ∷ []), String (97 ∷ 128 ∷ []))
    ∷ (String (97 ∷ []), String (97 ∷ 98 ∷ []))
    ∷ (String [], String (0 ∷ []))
    -- −∞ and −1, −0.0 and the smallest double above 0, 2^53 and 2^53 + 2
    ∷ (Float 0xFFF0000000000000, Float 0xBFF0000000000000)
    ∷ (minus_zero, Float 1)
    ∷ (Integer (pos (2 ^ 53)), Float 0x4340000000000001)
    ∷ (Float 0x4340000000000000, Integer (pos (2 ^ 53 + 2)))
    ∷ []

in_order : map {B = Comparison × Comparison} (λ (p : Value × Value). (compare p.0 p.1, compare p.1 p.0)) pairs_in_order ≡ replicate 10 (Found Less, Found Greater)
unfolding compare_integers compare_floats compare_bytes Ieee.of_int Ieee.of_bits Ieee.eq Ieee.lt
in_order = refl

-- false, zeros of both signs, an Integer 0 with one, and 2^53 + 1, which is rounded to 2^53
equal_pairs : compare (boolean false) (boolean false) ∷ compare minus_zero (Float 0) ∷ compare (Integer (pos 0)) minus_zero ∷ compare (Float 0x4340000000000000) (Integer (pos (2 ^ 53 + 1))) ∷ [] ≡ replicate 4 (Found Equal)
unfolding compare_floats Ieee.of_int Ieee.of_bits Ieee.eq Ieee.lt
equal_pairs = refl

-- each operator at Less, Equal, Greater, Unordered, NotComparable and Null
abbrev findings : (Value → Value → Result Value) → List (Result Value)
findings operator =
    operator (boolean false) (boolean true)
    ∷ operator (boolean true) (boolean true)
    ∷ operator (boolean true) (boolean false)
    ∷ operator (Float the_nan) (Float the_nan)
    ∷ operator (Float the_nan) (boolean true)
    ∷ operator null (Float the_nan)
    ∷ []

abbrev T : Result Value
T = ok (boolean true)

abbrev F : Result Value
F = ok (boolean false)

each_operator : findings less_than ∷ findings equal ∷ findings greater_than ∷ [] ≡
    ((T ∷ F ∷ F ∷ F ∷ err mismatch ∷ ok null ∷ [])
    ∷ (F ∷ T ∷ F ∷ F ∷ err mismatch ∷ ok null ∷ [])
    ∷ (F ∷ F ∷ T ∷ F ∷ err mismatch ∷ ok null ∷ [])
    ∷ [])
unfolding compare_floats Ieee.of_bits Ieee.eq Ieee.lt
each_operator = refl

-- ---- logic

unknown_and_false : logical_and null (boolean false) ≡ ok (boolean false)
unknown_and_false = refl

false_and_integer : logical_and (boolean false) (Integer (pos 1)) ≡ err mismatch
false_and_integer = refl
