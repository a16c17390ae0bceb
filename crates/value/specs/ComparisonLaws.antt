-- What holds of the one comparison, at all values. It is proved in proofs/ComparisonLaws.antt. That a comparison which meets a Float is IEEE 754's is said
-- beside the other results of Floats (crate theorems, Floats.antt).
use Rattle.std.specs.Prelude.{ℕ, ◌<◌, ◌≡◌, ◌↔◌, ◌⊎◌, ◌≢◌, Bool, true, false, List, ◌∷◌, ◌++◌, ℤ}
use Rattle.std.proofs.Math.Option.{Option, none, some}
use Rattle.std.specs.Int.Signed.{lt_z}
use Rattle.value.specs.Value.{False, Unknown, True, integer, float, string, Value, truth, datum, null, boolean, ok}
use Rattle.value.specs.Comparison.{Finding, Comparison, Null, Found, Less, Equal, Greater, Unordered, NotComparable, compare, equal, greater_than, less_than}
use Rattle.value.specs.Undefined.{is_nan}

-- with the sides swapped: less and greater swap, and nothing else
abbrev pub turned : Finding → Finding
turned Less = Greater
turned Equal = Equal
turned Greater = Less
turned Unordered = Unordered
turned NotComparable = NotComparable

abbrev pub swapped : Comparison → Comparison
swapped Null = Null
swapped (Found f) = Found (turned f)

-- Kinds whose values are comparable are of one family.
pub data Family : Type 0 where
  booleans numbers strings : Family

-- Null is of none.
abbrev pub family : Value → Option Family
family (truth False) = some booleans
family (truth Unknown) = none
family (truth True) = some booleans
family (datum (integer a)) = some numbers
family (datum (float a)) = some numbers
family (datum (string r t)) = some strings

-- t is before u in the order of bytes: u begins with t and goes on; or after what both begin with, t has the smaller byte
pub data Before (t u : List ℕ) : Type 0 where
  prefix : (y : ℕ) (ys : List ℕ) → u ≡ t ++ (y ∷ ys) → Before t u
  differ : (common : List ℕ) (x y : ℕ) (xs ys : List ℕ) → t ≡ common ++ (x ∷ xs) → u ≡ common ++ (y ∷ ys) → x < y → Before t u

-- when a comparison's finding is Less, Equal and Greater
pub record Finds (less equal greater : Type 0) (c : Comparison) : Type 0 where
  pub finds_less : (c ≡ Found Less) ↔ less
  pub finds_equal : (c ≡ Found Equal) ↔ equal
  pub finds_greater : (c ≡ Found Greater) ↔ greater

pub record ComparisonLaws : Type 0 where
  -- each operator is true at its own finding alone
  pub own_finding : (v w : Value)
      → Finds (less_than v w ≡ ok (boolean true)) (equal v w ≡ ok (boolean true)) (greater_than v w ≡ ok (boolean true)) (compare v w)
  pub swapped_sides : (v w : Value) → compare w v ≡ swapped (compare v w)
  -- Null, whatever the other value's kind
  pub null_apart : (v w : Value) → (compare v w ≡ Null) ↔ ((v ≡ null) ⊎ (w ≡ null))
  -- kinds of two families, a Float that is NaN like any other
  pub not_comparable : (v w : Value) (f g : Family) → family v ≡ some f → family w ≡ some g → (compare v w ≡ Found NotComparable) ↔ (f ≢ g)
  -- two numbers, one of them NaN
  pub unordered : (v w : Value) → (compare v w ≡ Found Unordered)
      ↔ ((family v ≡ some numbers) × (family w ≡ some numbers) × ((is_nan v ≡ ok (boolean true)) ⊎ (is_nan w ≡ ok (boolean true))))
  -- false before true, Integers in their exact order, Strings in the order of their bytes
  pub booleans : (a b : Bool) → Finds ((a ≡ false) × (b ≡ true)) (a ≡ b) ((a ≡ true) × (b ≡ false)) (compare (boolean a) (boolean b))
  pub integers : (a b : ℤ) → Finds (lt_z a b ≡ true) (a ≡ b) (lt_z b a ≡ true) (compare (datum (integer a)) (datum (integer b)))
  pub strings : (r q : ℕ) (t u : List ℕ) → Finds (Before t u) (t ≡ u) (Before u t) (compare (datum (string r t)) (datum (string q u)))
