-- The proof of specs/ComparisonLaws.antt.
use Prim.Native.Nat.{ℕ}
use mathlib.Core.Path.{◌≡◌, refl, sym, ap, ap₂, ◌∙◌}
use mathlib.Core.Logic.{◌↔◌, ◌⊎◌, inl, inr, ⊎_elim, ◌≢◌}
use mathlib.Core.Bool.{Bool, true, false, ◌||◌, or-true}
use mathlib.Core.List.{List, [], ◌∷◌, ◌++◌, append-nil}
use mathlib.Core.Option.{Option, none, some}
use native.Mathlib.Omega.{arith}
use lib.Dec.{ltb}
use lib.IntN.{ℤ}
use lib.Signed.{lt_z}
use lib.Ieee as Ieee
use lib.Ieee.{Float}
use borrow.Author.Tests.{ltb-true, lt-ltb, le-ltb}
use Rattle.value.specs.Value.{False, Unknown, True, Datum, integer, float, string, Value, truth, datum, null, boolean, Result, ok, err}
use Rattle.value.specs.Comparison.{Finding, Comparison, Null, Found, Less, Equal, Greater, Unordered, NotComparable, order, then, rounded, number_of, compare_integers, compare_floats, compare_bytes, compare_data, compare, is_less, is_equal, is_greater, answer, equal, greater_than, less_than}
use Rattle.value.specs.Undefined as Undefined
use Rattle.value.specs.ComparisonLaws.{turned, swapped, Family, booleans, numbers, strings, family, Before, prefix, differ, Finds, ComparisonLaws}
use Rattle.value.proofs.Laws.{false≢true}
use Rattle.value.proofs.Comparison.{is_unordered, by_tests, between, unordered_floats, rounded_is_number, swapped_floats, less_integers, greater_integers, equal_integers, same_integers, swapped_integers, swapped_bytes, equal_bytes, same_bytes}

-- ---- a finding is told by its test

abbrev is_not_comparable : Comparison → Bool
is_not_comparable Null = false
is_not_comparable (Found Less) = false
is_not_comparable (Found Equal) = false
is_not_comparable (Found Greater) = false
is_not_comparable (Found Unordered) = false
is_not_comparable (Found NotComparable) = true

abbrev is_null : Comparison → Bool
is_null Null = true
is_null (Found f) = false

less_told : (c : Comparison) → is_less c ≡ true → c ≡ Found Less
less_told Null h = absurd (false≢true h)
less_told (Found Less) h = refl
less_told (Found Equal) h = absurd (false≢true h)
less_told (Found Greater) h = absurd (false≢true h)
less_told (Found Unordered) h = absurd (false≢true h)
less_told (Found NotComparable) h = absurd (false≢true h)

equal_told : (c : Comparison) → is_equal c ≡ true → c ≡ Found Equal
equal_told Null h = absurd (false≢true h)
equal_told (Found Less) h = absurd (false≢true h)
equal_told (Found Equal) h = refl
equal_told (Found Greater) h = absurd (false≢true h)
equal_told (Found Unordered) h = absurd (false≢true h)
equal_told (Found NotComparable) h = absurd (false≢true h)

greater_told : (c : Comparison) → is_greater c ≡ true → c ≡ Found Greater
greater_told Null h = absurd (false≢true h)
greater_told (Found Less) h = absurd (false≢true h)
greater_told (Found Equal) h = absurd (false≢true h)
greater_told (Found Greater) h = refl
greater_told (Found Unordered) h = absurd (false≢true h)
greater_told (Found NotComparable) h = absurd (false≢true h)

unordered_told : (c : Comparison) → is_unordered c ≡ true → c ≡ Found Unordered
unordered_told Null h = absurd (false≢true h)
unordered_told (Found Less) h = absurd (false≢true h)
unordered_told (Found Equal) h = absurd (false≢true h)
unordered_told (Found Greater) h = absurd (false≢true h)
unordered_told (Found Unordered) h = refl
unordered_told (Found NotComparable) h = absurd (false≢true h)

not_comparable_told : (c : Comparison) → is_not_comparable c ≡ true → c ≡ Found NotComparable
not_comparable_told Null h = absurd (false≢true h)
not_comparable_told (Found Less) h = absurd (false≢true h)
not_comparable_told (Found Equal) h = absurd (false≢true h)
not_comparable_told (Found Greater) h = absurd (false≢true h)
not_comparable_told (Found Unordered) h = absurd (false≢true h)
not_comparable_told (Found NotComparable) h = refl

the_finding : {f g : Finding} → Found f ≡ Found g → f ≡ g
the_finding h = cc

-- a test that is another, and so when its finding is found
module _ (c : Comparison) (b : Bool) where
  pub less_where : is_less c ≡ b → (c ≡ Found Less) ↔ (b ≡ true)
  less_where e = (λ h. sym e ∙ ap is_less h, λ h. less_told c (e ∙ h))

  pub equal_where : is_equal c ≡ b → (c ≡ Found Equal) ↔ (b ≡ true)
  equal_where e = (λ h. sym e ∙ ap is_equal h, λ h. equal_told c (e ∙ h))

  pub greater_where : is_greater c ≡ b → (c ≡ Found Greater) ↔ (b ≡ true)
  greater_where e = (λ h. sym e ∙ ap is_greater h, λ h. greater_told c (e ∙ h))

  pub unordered_where : is_unordered c ≡ b → (c ≡ Found Unordered) ↔ (b ≡ true)
  unordered_where e = (λ h. sym e ∙ ap is_unordered h, λ h. unordered_told c (e ∙ h))

-- ---- each operator is true at its own finding alone

abbrev is_true : Result Value → Bool
is_true (ok (truth True)) = true
is_true (ok (truth False)) = false
is_true (ok (truth Unknown)) = false
is_true (ok (datum d)) = false
is_true (err e) = false

said : (b : Bool) → is_true (ok (boolean b)) ≡ b
said true = refl
said false = refl

-- an operator whose test holds at no Null and at no kinds that don't fit is true where its test holds
true_where : (test : Comparison → Bool) → test Null ≡ false → test (Found NotComparable) ≡ false → (c : Comparison) → is_true (answer c (test c)) ≡ test c
true_where test n k Null = sym n
true_where test n k (Found Less) = said (test (Found Less))
true_where test n k (Found Equal) = said (test (Found Equal))
true_where test n k (Found Greater) = said (test (Found Greater))
true_where test n k (Found Unordered) = said (test (Found Unordered))
true_where test n k (Found NotComparable) = sym k

own_finding : (v w : Value) → Finds (less_than v w ≡ ok (boolean true)) (equal v w ≡ ok (boolean true)) (greater_than v w ≡ ok (boolean true)) (compare v w)
own_finding v w = by (compare v w)
  where
    by : (c : Comparison) → Finds (answer c (is_less c) ≡ ok (boolean true)) (answer c (is_equal c) ≡ ok (boolean true)) (answer c (is_greater c) ≡ ok (boolean true)) c
    by c = record {
      finds_less = (λ h. ap (λ z. answer z (is_less z)) h, λ h. less_told c (sym (true_where is_less refl refl c) ∙ ap is_true h));
      finds_equal = (λ h. ap (λ z. answer z (is_equal z)) h, λ h. equal_told c (sym (true_where is_equal refl refl c) ∙ ap is_true h));
      finds_greater = (λ h. ap (λ z. answer z (is_greater z)) h, λ h. greater_told c (sym (true_where is_greater refl refl c) ∙ ap is_true h));
    }

-- ---- sides swapped

swapped_data : (f g : Datum) → compare_data g f ≡ turned (compare_data f g)
swapped_data (integer a) (integer b) = swapped_integers a b
swapped_data (integer a) (float b) = swapped_floats (rounded a) (number_of b)
swapped_data (integer a) (string r t) = refl
swapped_data (float a) (integer b) = swapped_floats (number_of a) (rounded b)
swapped_data (float a) (float b) = swapped_floats (number_of a) (number_of b)
swapped_data (float a) (string r t) = refl
swapped_data (string r t) (integer b) = refl
swapped_data (string r t) (float b) = refl
swapped_data (string r t) (string q u) = swapped_bytes t u

swapped_sides : (v w : Value) → compare w v ≡ swapped (compare v w)
swapped_sides (truth False) (truth False) = refl
swapped_sides (truth False) (truth Unknown) = refl
swapped_sides (truth False) (truth True) = refl
swapped_sides (truth Unknown) (truth False) = refl
swapped_sides (truth Unknown) (truth Unknown) = refl
swapped_sides (truth Unknown) (truth True) = refl
swapped_sides (truth True) (truth False) = refl
swapped_sides (truth True) (truth Unknown) = refl
swapped_sides (truth True) (truth True) = refl
swapped_sides (truth False) (datum g) = refl
swapped_sides (truth Unknown) (datum g) = refl
swapped_sides (truth True) (datum g) = refl
swapped_sides (datum f) (truth False) = refl
swapped_sides (datum f) (truth Unknown) = refl
swapped_sides (datum f) (truth True) = refl
swapped_sides (datum f) (datum g) = ap Found (swapped_data f g)

-- ---- Null

with_null : (v : Value) → compare v null ≡ Null
with_null (truth False) = refl
with_null (truth Unknown) = refl
with_null (truth True) = refl
with_null (datum f) = refl

null_apart : (v w : Value) → (compare v w ≡ Null) ↔ ((v ≡ null) ⊎ (w ≡ null))
null_apart v w = (one_is v w, met)
  where
    one_is : (v w : Value) → compare v w ≡ Null → (v ≡ null) ⊎ (w ≡ null)
    one_is (truth Unknown) w h = inl refl
    one_is (truth False) (truth Unknown) h = inr refl
    one_is (truth True) (truth Unknown) h = inr refl
    one_is (datum f) (truth Unknown) h = inr refl
    one_is (truth False) (truth False) h = absurd (false≢true (ap is_null h))
    one_is (truth False) (truth True) h = absurd (false≢true (ap is_null h))
    one_is (truth True) (truth False) h = absurd (false≢true (ap is_null h))
    one_is (truth True) (truth True) h = absurd (false≢true (ap is_null h))
    one_is (truth False) (datum g) h = absurd (false≢true (ap is_null h))
    one_is (truth True) (datum g) h = absurd (false≢true (ap is_null h))
    one_is (datum f) (truth False) h = absurd (false≢true (ap is_null h))
    one_is (datum f) (truth True) h = absurd (false≢true (ap is_null h))
    one_is (datum f) (datum g) h = absurd (false≢true (ap is_null h))

    met : (v ≡ null) ⊎ (w ≡ null) → compare v w ≡ Null
    met (inl p) = ap (λ z. compare z w) p
    met (inr p) = ap (compare v) p ∙ with_null v

-- ---- kinds

-- what Integers and Strings find is never Unordered or NotComparable, and what doubles find is never NotComparable
orders : (l g : Bool) (f : Finding) → (is_unordered (Found f) ≡ false) × (is_not_comparable (Found f) ≡ false)
    → (is_unordered (Found (then (order l g) f)) ≡ false) × (is_not_comparable (Found (then (order l g) f)) ≡ false)
orders true g f h = (refl, refl)
orders false true f h = (refl, refl)
orders false false f h = h

integers_ordered : (a b : ℤ) → (is_unordered (Found (compare_integers a b)) ≡ false) × (is_not_comparable (Found (compare_integers a b)) ≡ false)
unfolding compare_integers
integers_ordered a b = go (lt_z a b) (lt_z b a)
  where
    go : (l g : Bool) → (is_unordered (Found (order l g)) ≡ false) × (is_not_comparable (Found (order l g)) ≡ false)
    go true g = (refl, refl)
    go false true = (refl, refl)
    go false false = (refl, refl)

bytes_ordered : (t u : List ℕ) → (is_unordered (Found (compare_bytes t u)) ≡ false) × (is_not_comparable (Found (compare_bytes t u)) ≡ false)
unfolding compare_bytes
bytes_ordered [] [] = (refl, refl)
bytes_ordered [] (y ∷ ys) = (refl, refl)
bytes_ordered (x ∷ xs) [] = (refl, refl)
bytes_ordered (x ∷ xs) (y ∷ ys) = orders (ltb x y) (ltb y x) (compare_bytes xs ys) (bytes_ordered xs ys)

floats_comparable : (x y : Float) → is_not_comparable (Found (compare_floats x y)) ≡ false
unfolding compare_floats
floats_comparable x y = go (Ieee.eq x y) (Ieee.lt x y) (Ieee.lt y x)
  where
    go : (e l g : Bool) → is_not_comparable (Found (by_tests e l g)) ≡ false
    go true l g = refl
    go false true g = refl
    go false false true = refl
    go false false false = refl

abbrev unlike : Family → Family → Bool
unlike booleans booleans = false
unlike booleans numbers = true
unlike booleans strings = true
unlike numbers booleans = true
unlike numbers numbers = false
unlike numbers strings = true
unlike strings booleans = true
unlike strings numbers = true
unlike strings strings = false

-- two values that are not Null
abbrev apart : Option Family → Option Family → Bool
apart none g = false
apart (some f) none = false
apart (some f) (some g) = unlike f g

data_apart : (f g : Datum) → is_not_comparable (Found (compare_data f g)) ≡ apart (family (datum f)) (family (datum g))
data_apart (integer a) (integer b) = (integers_ordered a b).1
data_apart (integer a) (float b) = floats_comparable (rounded a) (number_of b)
data_apart (integer a) (string r t) = refl
data_apart (float a) (integer b) = floats_comparable (number_of a) (rounded b)
data_apart (float a) (float b) = floats_comparable (number_of a) (number_of b)
data_apart (float a) (string r t) = refl
data_apart (string r t) (integer b) = refl
data_apart (string r t) (float b) = refl
data_apart (string r t) (string q u) = (bytes_ordered t u).1

boolean_apart : (g : Datum) → true ≡ apart (some booleans) (family (datum g))
boolean_apart (integer b) = refl
boolean_apart (float b) = refl
boolean_apart (string r t) = refl

apart_boolean : (f : Datum) → true ≡ apart (family (datum f)) (some booleans)
apart_boolean (integer a) = refl
apart_boolean (float a) = refl
apart_boolean (string r t) = refl

null_comparable : (f : Datum) → false ≡ apart (family (datum f)) none
null_comparable (integer a) = refl
null_comparable (float a) = refl
null_comparable (string r t) = refl

values_apart : (v w : Value) → is_not_comparable (compare v w) ≡ apart (family v) (family w)
values_apart (truth Unknown) w = refl
values_apart (truth False) (truth False) = refl
values_apart (truth False) (truth Unknown) = refl
values_apart (truth False) (truth True) = refl
values_apart (truth True) (truth False) = refl
values_apart (truth True) (truth Unknown) = refl
values_apart (truth True) (truth True) = refl
values_apart (truth False) (datum g) = boolean_apart g
values_apart (truth True) (datum g) = boolean_apart g
values_apart (datum f) (truth False) = apart_boolean f
values_apart (datum f) (truth Unknown) = null_comparable f
values_apart (datum f) (truth True) = apart_boolean f
values_apart (datum f) (datum g) = data_apart f g

not_unlike_itself : (f : Family) → unlike f f ≡ false
not_unlike_itself booleans = refl
not_unlike_itself numbers = refl
not_unlike_itself strings = refl

unlike_others : (f g : Family) → f ≢ g → unlike f g ≡ true
unlike_others booleans booleans n = absurd (n refl)
unlike_others booleans numbers n = refl
unlike_others booleans strings n = refl
unlike_others numbers booleans n = refl
unlike_others numbers numbers n = absurd (n refl)
unlike_others numbers strings n = refl
unlike_others strings booleans n = refl
unlike_others strings numbers n = refl
unlike_others strings strings n = absurd (n refl)

not_comparable : (v w : Value) (f g : Family) → family v ≡ some f → family w ≡ some g → (compare v w ≡ Found NotComparable) ↔ (f ≢ g)
not_comparable v w f g p q = (λ h e. false≢true (sym (not_unlike_itself f) ∙ (ap (unlike f) e ∙ (sym told ∙ ap is_not_comparable h))), λ n. not_comparable_told (compare v w) (told ∙ unlike_others f g n))
  where
    told : is_not_comparable (compare v w) ≡ unlike f g
    told = values_apart v w ∙ ap₂ apart p q

-- ---- NaN

data Number : Value → Type 0 where
  an_integer : (a : ℤ) → Number (datum (integer a))
  a_float : (a : ℕ) → Number (datum (float a))

number : (v : Value) → family v ≡ some numbers → Number v
number (truth False) h = absurd (false≢true (ap (λ f. apart f (some booleans)) h))
number (truth Unknown) h = absurd (false≢true (ap (λ f. apart f (some booleans)) h))
number (truth True) h = absurd (false≢true (ap (λ f. apart f (some booleans)) h))
number (datum (integer a)) h = an_integer a
number (datum (float a)) h = a_float a
number (datum (string r t)) h = absurd (false≢true (ap (λ f. apart f (some strings)) h))

abbrev Nan : Value → Type 0
Nan v = Undefined.is_nan v ≡ ok (boolean true)

float_nan : (a : ℕ) → Nan (datum (float a)) → Ieee.is_nan (number_of a) ≡ true
float_nan a h = sym (said (Ieee.is_nan (number_of a))) ∙ ap is_true h

nan_float : (a : ℕ) → Ieee.is_nan (number_of a) ≡ true → Nan (datum (float a))
nan_float a h = ap (λ b. ok (boolean b)) h

no_nan : {A : Type 0} (a : ℤ) → Ieee.is_nan (rounded a) ≡ true → A
no_nan a h = absurd (false≢true (sym (rounded_is_number a) ∙ h))

-- of two doubles, by their own laws: a NaN among them is what makes them unordered
either : (x y : Float) → is_unordered (Found (compare_floats x y)) ≡ true → (Ieee.is_nan x ≡ true) ⊎ (Ieee.is_nan y ≡ true)
either x y h = go (Ieee.is_nan x) (Ieee.is_nan y) (sym (unordered_floats x y) ∙ h)
  where
    go : (a b : Bool) → (a || b) ≡ true → (a ≡ true) ⊎ (b ≡ true)
    go true b k = inl refl
    go false b k = inr k

left_nan : (x y : Float) → Ieee.is_nan x ≡ true → is_unordered (Found (compare_floats x y)) ≡ true
left_nan x y h = unordered_floats x y ∙ ap (λ b. b || Ieee.is_nan y) h

right_nan : (x y : Float) → Ieee.is_nan y ≡ true → is_unordered (Found (compare_floats x y)) ≡ true
right_nan x y h = unordered_floats x y ∙ (ap (λ b. Ieee.is_nan x || b) h ∙ or-true (Ieee.is_nan x))

abbrev NanMet : Value → Value → Type 0
NanMet v w = (family v ≡ some numbers) × (family w ≡ some numbers) × (Nan v ⊎ Nan w)

data_nan : (f g : Datum) → is_unordered (Found (compare_data f g)) ≡ true → NanMet (datum f) (datum g)
data_nan (integer a) (integer b) h = absurd (false≢true (sym (integers_ordered a b).0 ∙ h))
data_nan (integer a) (float b) h = (refl, refl, ⊎_elim (no_nan a) (λ k. inr (nan_float b k)) (either (rounded a) (number_of b) h))
data_nan (integer a) (string r t) h = absurd (false≢true h)
data_nan (float a) (integer b) h = (refl, refl, ⊎_elim (λ k. inl (nan_float a k)) (no_nan b) (either (number_of a) (rounded b) h))
data_nan (float a) (float b) h = (refl, refl, ⊎_elim (λ k. inl (nan_float a k)) (λ k. inr (nan_float b k)) (either (number_of a) (number_of b) h))
data_nan (float a) (string r t) h = absurd (false≢true h)
data_nan (string r t) (integer b) h = absurd (false≢true h)
data_nan (string r t) (float b) h = absurd (false≢true h)
data_nan (string r t) (string q u) h = absurd (false≢true (sym (bytes_ordered t u).0 ∙ h))

values_nan : (v w : Value) → is_unordered (compare v w) ≡ true → NanMet v w
values_nan (truth Unknown) w h = absurd (false≢true h)
values_nan (truth False) (truth False) h = absurd (false≢true h)
values_nan (truth False) (truth Unknown) h = absurd (false≢true h)
values_nan (truth False) (truth True) h = absurd (false≢true h)
values_nan (truth True) (truth False) h = absurd (false≢true h)
values_nan (truth True) (truth Unknown) h = absurd (false≢true h)
values_nan (truth True) (truth True) h = absurd (false≢true h)
values_nan (truth False) (datum g) h = absurd (false≢true h)
values_nan (truth True) (datum g) h = absurd (false≢true h)
values_nan (datum f) (truth False) h = absurd (false≢true h)
values_nan (datum f) (truth Unknown) h = absurd (false≢true h)
values_nan (datum f) (truth True) h = absurd (false≢true h)
values_nan (datum f) (datum g) h = data_nan f g h

numbers_unordered : {v w : Value} → Number v → Number w → Nan v ⊎ Nan w → is_unordered (compare v w) ≡ true
numbers_unordered (an_integer a) (an_integer b) (inl h) = absurd (false≢true (ap is_true h))
numbers_unordered (an_integer a) (an_integer b) (inr h) = absurd (false≢true (ap is_true h))
numbers_unordered (an_integer a) (a_float b) (inl h) = absurd (false≢true (ap is_true h))
numbers_unordered (an_integer a) (a_float b) (inr h) = right_nan (rounded a) (number_of b) (float_nan b h)
numbers_unordered (a_float a) (an_integer b) (inl h) = left_nan (number_of a) (rounded b) (float_nan a h)
numbers_unordered (a_float a) (an_integer b) (inr h) = absurd (false≢true (ap is_true h))
numbers_unordered (a_float a) (a_float b) (inl h) = left_nan (number_of a) (number_of b) (float_nan a h)
numbers_unordered (a_float a) (a_float b) (inr h) = right_nan (number_of a) (number_of b) (float_nan b h)

unordered : (v w : Value) → (compare v w ≡ Found Unordered) ↔ NanMet v w
unordered v w = (λ h. values_nan v w (ap is_unordered h), λ h. unordered_told (compare v w) (numbers_unordered (number v h.0) (number w h.1) h.2))

-- ---- Booleans

booleans_found : (a b : Bool) → Finds ((a ≡ false) × (b ≡ true)) (a ≡ b) ((a ≡ true) × (b ≡ false)) (compare (boolean a) (boolean b))
booleans_found false false = record {
  finds_less = (λ h. absurd (false≢true (ap is_less h)), λ h. absurd (false≢true h.1));
  finds_equal = (λ h. refl, λ h. refl);
  finds_greater = (λ h. absurd (false≢true (ap is_greater h)), λ h. absurd (false≢true h.0));
}
booleans_found false true = record {
  finds_less = (λ h. (refl, refl), λ h. refl);
  finds_equal = (λ h. absurd (false≢true (ap is_equal h)), λ h. absurd (false≢true h));
  finds_greater = (λ h. absurd (false≢true (ap is_greater h)), λ h. absurd (false≢true h.0));
}
booleans_found true false = record {
  finds_less = (λ h. absurd (false≢true (ap is_less h)), λ h. absurd (false≢true h.1));
  finds_equal = (λ h. absurd (false≢true (ap is_equal h)), λ h. absurd (false≢true (sym h)));
  finds_greater = (λ h. (refl, refl), λ h. refl);
}
booleans_found true true = record {
  finds_less = (λ h. absurd (false≢true (ap is_less h)), λ h. absurd (false≢true (sym h.0)));
  finds_equal = (λ h. refl, λ h. refl);
  finds_greater = (λ h. absurd (false≢true (ap is_greater h)), λ h. absurd (false≢true (sym h.1)));
}

-- ---- Integers

integers : (a b : ℤ) → Finds (lt_z a b ≡ true) (a ≡ b) (lt_z b a ≡ true) (Found (compare_integers a b))
integers a b = record {
  finds_less = less_where (Found (compare_integers a b)) (lt_z a b) (less_integers a b);
  finds_equal = (λ h. equal_integers a b (the_finding h), λ e. ap Found (ap (compare_integers a) (sym e) ∙ same_integers a));
  finds_greater = greater_where (Found (compare_integers a b)) (lt_z b a) (greater_integers a b);
}

-- ---- strings

after : (common t u : List ℕ) → compare_bytes (common ++ t) (common ++ u) ≡ compare_bytes t u
unfolding compare_bytes
after [] t u = refl
after (x ∷ common) t u = ap (λ b. then (order b b) (compare_bytes (common ++ t) (common ++ u))) (le-ltb x x (omega arith)) ∙ after common t u

before_less : (t u : List ℕ) → Before t u → compare_bytes t u ≡ Less
unfolding compare_bytes
before_less t u (prefix y ys e) = ap₂ compare_bytes (sym (append-nil t)) e ∙ after t [] (y ∷ ys)
before_less t u (differ common x y xs ys p q l) = ap₂ compare_bytes p q ∙ (after common (x ∷ xs) (y ∷ ys) ∙ ap (λ b. then (order b (ltb y x)) (compare_bytes xs ys)) (lt-ltb x y l))

longer : {t u : List ℕ} (x y : ℕ) → x ≡ y → Before t u → Before (x ∷ t) (y ∷ u)
longer x y h (prefix z zs e) = prefix z zs (ap₂ ◌∷◌ (sym h) e)
longer x y h (differ common v w vs ws p q l) = differ (x ∷ common) v w vs ws (ap (λ z. x ∷ z) p) (ap₂ ◌∷◌ (sym h) q) l

less_before : (t u : List ℕ) → compare_bytes t u ≡ Less → Before t u
unfolding compare_bytes
less_before [] [] h = absurd (false≢true (ap (λ f. is_less (Found f)) h))
less_before [] (y ∷ ys) h = prefix y ys refl
less_before (x ∷ xs) [] h = absurd (false≢true (ap (λ f. is_less (Found f)) h))
less_before (x ∷ xs) (y ∷ ys) h = go (ltb x y) (ltb y x) refl refl h (less_before xs ys)
  where
    go : (l g : Bool) → ltb x y ≡ l → ltb y x ≡ g → then (order l g) (compare_bytes xs ys) ≡ Less → (compare_bytes xs ys ≡ Less → Before xs ys) → Before (x ∷ xs) (y ∷ ys)
    go true g p q k rest = differ [] x y xs ys refl refl (ltb-true x y p)
    go false true p q k rest = absurd (false≢true (ap (λ f. is_less (Found f)) k))
    go false false p q k rest = longer x y (between x y p q) (rest k)

strings_found : (t u : List ℕ) → Finds (Before t u) (t ≡ u) (Before u t) (Found (compare_bytes t u))
strings_found t u = record {
  finds_less = (λ h. less_before t u (the_finding h), λ b. ap Found (before_less t u b));
  finds_equal = (λ h. equal_bytes t u (the_finding h), λ e. ap Found (ap (compare_bytes t) (sym e) ∙ same_bytes t));
  finds_greater = (λ h. less_before u t (swapped_bytes t u ∙ ap turned (the_finding h)), λ b. ap Found (swapped_bytes u t ∙ ap turned (before_less u t b)));
}

-- ======== The statement

pub comparison_laws : ComparisonLaws
comparison_laws = record {
  own_finding = own_finding;
  swapped_sides = swapped_sides;
  null_apart = null_apart;
  not_comparable = not_comparable;
  unordered = unordered;
  booleans = booleans_found;
  integers = integers;
  strings = λ r q t u. strings_found t u;
}
