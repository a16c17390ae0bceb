-- expression.rs, evaluate: Equal, GreaterThan and LessThan, which all take their answer from one comparison. What holds of it is in ComparisonLaws.antt.
use Rattle.std.specs.Prelude.{ℕ, Bool, true, false, cond, List, [], ◌∷◌, ltb, ℤ, Float}
use Rattle.std.specs.Int.Signed.{lt_z}
use Rattle.std.specs.Float.Ieee as Ieee
use Rattle.std.specs.Float.{binary64}
use Rattle.value.specs.Value.{False, Unknown, True, Datum, integer, float, string, Value, truth, datum, null, boolean, Result, ok, err, mismatch}

-- What comparing two values finds. Unordered: one of them is NaN. NotComparable: their kinds don't fit.
pub data Finding : Type 0 where
  Less Equal Greater Unordered NotComparable : Finding

-- A comparison has a finding unless one of its values is Null.
pub data Comparison : Type 0 where
  Null : Comparison
  Found : Finding → Comparison

-- the finding of two tests: whether the left one is less, and whether the right one is
abbrev pub order : Bool → Bool → Finding
order true r = Less
order false true = Greater
order false false = Equal

-- An Integer, rounded to the nearest double, ties to even.
abbrev pub rounded : ℤ → Float
rounded i = Ieee.of_int binary64 i

-- the number that a Float's 64-bit pattern stands for
abbrev pub number_of : ℕ → Float
number_of bits = Ieee.of_bits binary64 bits

unfoldable pub compare_integers : ℤ → ℤ → Finding
compare_integers a b = order (lt_z a b) (lt_z b a)

-- as IEEE 754 compares: zeros of both signs are equal, and NaN is unordered with everything, itself too
unfoldable pub compare_floats : Float → Float → Finding
compare_floats x y = cond (Ieee.eq x y) Equal (cond (Ieee.lt x y) Less (cond (Ieee.lt y x) Greater Unordered))

-- the first finding, or where that is Equal the second
abbrev pub then : Finding → Finding → Finding
then Less f = Less
then Equal f = f
then Greater f = Greater
then Unordered f = Unordered
then NotComparable f = NotComparable

-- Strings go by their first bytes that differ, and one that the other begins with is less.
unfoldable pub compare_bytes : List ℕ → List ℕ → Finding
compare_bytes [] [] = Equal
compare_bytes [] (y ∷ ys) = Less
compare_bytes (x ∷ xs) [] = Greater
compare_bytes (x ∷ xs) (y ∷ ys) = then (order (ltb x y) (ltb y x)) (compare_bytes xs ys)

-- An Integer met by a Float is rounded first.
abbrev pub compare_data : Datum → Datum → Finding
compare_data (integer a) (integer b) = compare_integers a b
compare_data (integer a) (float b) = compare_floats (rounded a) (number_of b)
compare_data (integer a) (string r t) = NotComparable
compare_data (float a) (integer b) = compare_floats (number_of a) (rounded b)
compare_data (float a) (float b) = compare_floats (number_of a) (number_of b)
compare_data (float a) (string r t) = NotComparable
compare_data (string r t) (integer b) = NotComparable
compare_data (string r t) (float b) = NotComparable
compare_data (string r t) (string q u) = compare_bytes t u

-- The one comparison. Null comes before kinds, and false is less than true.
abbrev pub compare : Value → Value → Comparison
compare (truth Unknown) w = Null
compare (truth False) (truth Unknown) = Null
compare (truth True) (truth Unknown) = Null
compare (datum f) (truth Unknown) = Null
compare (truth False) (truth False) = Found Equal
compare (truth False) (truth True) = Found Less
compare (truth True) (truth False) = Found Greater
compare (truth True) (truth True) = Found Equal
compare (truth False) (datum g) = Found NotComparable
compare (truth True) (datum g) = Found NotComparable
compare (datum f) (truth False) = Found NotComparable
compare (datum f) (truth True) = Found NotComparable
compare (datum f) (datum g) = Found (compare_data f g)

-- ---- the three operators: each is true at one finding alone, and this is its test

abbrev pub is_less : Comparison → Bool
is_less Null = false
is_less (Found Less) = true
is_less (Found Equal) = false
is_less (Found Greater) = false
is_less (Found Unordered) = false
is_less (Found NotComparable) = false

abbrev pub is_equal : Comparison → Bool
is_equal Null = false
is_equal (Found Less) = false
is_equal (Found Equal) = true
is_equal (Found Greater) = false
is_equal (Found Unordered) = false
is_equal (Found NotComparable) = false

abbrev pub is_greater : Comparison → Bool
is_greater Null = false
is_greater (Found Less) = false
is_greater (Found Equal) = false
is_greater (Found Greater) = true
is_greater (Found Unordered) = false
is_greater (Found NotComparable) = false

-- Null gives Null, and kinds that don't fit are an error; else the answer is whether the test holds.
abbrev pub answer : Comparison → (holds : Bool) → Result Value
answer Null holds = ok null
answer (Found Less) holds = ok (boolean holds)
answer (Found Equal) holds = ok (boolean holds)
answer (Found Greater) holds = ok (boolean holds)
answer (Found Unordered) holds = ok (boolean holds)
answer (Found NotComparable) holds = err mismatch

abbrev pub compared : (Comparison → Bool) → Value → Value → Result Value
compared test v w = answer (compare v w) (test (compare v w))

abbrev pub equal : Value → Value → Result Value
equal = compared is_equal

abbrev pub greater_than : Value → Value → Result Value
greater_than = compared is_greater

abbrev pub less_than : Value → Value → Result Value
less_than = compared is_less
