-- Equality is symmetric; and two values that an equality of two columns finds equal, being of one kind, compare alike with every third.
use Rattle.std.specs.Prelude.{ℕ, Bool, true, false, ◌&&◌, cond, ◌≡◌, refl, List, Float}
use Rattle.std.proofs.Common.{sym, ap, ◌∙◌, arith}
use Rattle.std.specs.Float.Ieee
use Rattle.value.specs.Value.{Truth, False, Unknown, True, Datum, integer, float, string, Value, truth, datum, ok, boolean}
use Rattle.value.specs.Comparison.{Finding, Comparison, Null, Found, Less, Equal, Greater, Unordered, NotComparable, rounded, number_of, compare_integers, compare_floats, compare_bytes, compare, is_equal}
use Rattle.value.specs.ComparisonLaws.{swapped}
use Rattle.value.specs.Undefined.{is_null, is_nan}
use Rattle.value.proofs.Comparison.{equal_floats, swapped_floats, equal_integers, equal_bytes}
use Rattle.value.proofs.ComparisonLaws.{comparison_laws}
use Rattle.same_rows.proofs.Booleans.{false≢true}
use Rattle.same_rows.proofs.Floats.{eq_left, eq_nan}
use Rattle.same_rows.specs.Total.{Total, known, figure, from_value, mixed, truth_of, equal_totals}

-- ---- findings

unknown≢true : {A : Type 0} → Unknown ≡ True → A
unknown≢true h = absurd (let y : ◌≡◌ {A = ℕ} 0 1 = cc in omega arith)

false-truth≢true : {A : Type 0} → False ≡ True → A
false-truth≢true h = absurd (let y : ◌≡◌ {A = ℕ} 0 1 = cc in omega arith)

equal_at : (k : Bool) (f : Finding) → truth_of k (Found f) ≡ True → (k ≡ false) × (f ≡ Equal)
equal_at k Less h = false-truth≢true h
equal_at false Equal h = (refl, refl)
equal_at true Equal h = false-truth≢true h
equal_at k Greater h = false-truth≢true h
equal_at k Unordered h = false-truth≢true h
equal_at k NotComparable h = unknown≢true h

-- equal stays so with the sides swapped
truth_swapped : (k : Bool) (c : Comparison) → truth_of k (swapped c) ≡ truth_of k c
truth_swapped k Null = refl
truth_swapped k (Found Less) = refl
truth_swapped true (Found Equal) = refl
truth_swapped false (Found Equal) = refl
truth_swapped k (Found Greater) = refl
truth_swapped k (Found Unordered) = refl
truth_swapped k (Found NotComparable) = refl

compared_sym : (k : Bool) (v w : Value) → truth_of k (compare v w) ≡ truth_of k (compare w v)
compared_sym k v w = sym (ap (truth_of k) (comparison_laws.swapped_sides v w) ∙ truth_swapped k (compare v w))

-- ---- doubles: what is found goes by IEEE equality alone

abbrev equal_or_less : Bool → Finding
equal_or_less b = cond b Equal Less

pub truth_floats : (k : Bool) (x y : Float) → truth_of k (Found (compare_floats x y)) ≡ truth_of k (Found (equal_or_less (Ieee.eq x y)))
unfolding compare_floats
truth_floats k x y = go (Ieee.eq x y) (Ieee.lt x y) (Ieee.lt y x)
  where
    go : (e l g : Bool) → truth_of k (Found (cond e Equal (cond l Less (cond g Greater Unordered)))) ≡ truth_of k (Found (equal_or_less e))
    go true l g = refl
    go false true g = refl
    go false false true = refl
    go false false false = refl

floats_sym : (k : Bool) (x y : Float) → truth_of k (Found (compare_floats x y)) ≡ truth_of k (Found (compare_floats y x))
floats_sym k x y = sym (ap (λ f. truth_of k (Found f)) (swapped_floats x y) ∙ truth_swapped k (Found (compare_floats x y)))

floats_equal : (x y : Float) → compare_floats x y ≡ Equal → Ieee.eq x y ≡ true
floats_equal x y h = sym (equal_floats x y) ∙ ap (λ f. is_equal (Found f)) h

floats_left : (k : Bool) (x y z : Float) → Ieee.eq x y ≡ true → truth_of k (Found (compare_floats x z)) ≡ truth_of k (Found (compare_floats y z))
floats_left k x y z h = truth_floats k x z ∙ (ap (λ b. truth_of k (Found (equal_or_less b))) (eq_left x y z h) ∙ sym (truth_floats k y z))

floats_right : (k : Bool) (x y z : Float) → Ieee.eq x y ≡ true → truth_of k (Found (compare_floats z x)) ≡ truth_of k (Found (compare_floats z y))
floats_right k x y z h = floats_sym k z x ∙ (floats_left k x y z h ∙ floats_sym k y z)

-- ---- equality is symmetric

mixed_sym : (f g : Datum) → mixed f g ≡ mixed g f
mixed_sym (integer a) (integer b) = refl
mixed_sym (integer a) (float b) = refl
mixed_sym (integer a) (string r t) = refl
mixed_sym (float a) (integer b) = refl
mixed_sym (float a) (float b) = refl
mixed_sym (float a) (string r t) = refl
mixed_sym (string r t) (integer b) = refl
mixed_sym (string r t) (float b) = refl
mixed_sym (string r t) (string q u) = refl

pub equal_sym : (k : Bool) (v w : Value) → equal_totals k (from_value v) (from_value w) ≡ equal_totals k (from_value w) (from_value v)
equal_sym k (truth a) (truth b) = compared_sym false (truth a) (truth b)
equal_sym k (truth a) (datum g) = refl
equal_sym k (datum f) (truth b) = refl
equal_sym k (datum f) (datum g) =
    compared_sym (k && mixed f g) (datum f) (datum g) ∙ ap (λ m. truth_of (k && m) (compare (datum g) (datum f))) (mixed_sym f g)

-- ---- values that can't be told apart by a lookup

pub record Alike (v w : Value) : Type 0 where
  pub left : (t : Total) → equal_totals false (from_value v) t ≡ equal_totals false (from_value w) t
  pub right : (t : Total) → equal_totals false t (from_value v) ≡ equal_totals false t (from_value w)
  pub same_null : is_null v ≡ is_null w
  pub same_nan : is_nan v ≡ is_nan w

alike_self : (v : Value) → Alike v v
alike_self v = record { left = λ t. refl; right = λ t. refl; same_null = refl; same_nan = refl }

alike_path : {v w : Value} → v ≡ w → Alike v w
alike_path {v} {w} p = rw p (alike_self w)

pub alike_sym : {v w : Value} → Alike v w → Alike w v
alike_sym a = record { left = λ t. sym (a.left t); right = λ t. sym (a.right t); same_null = sym a.same_null; same_nan = sym a.same_nan }

alike_floats : (a b : ℕ) → Ieee.eq (number_of a) (number_of b) ≡ true → Alike (datum (float a)) (datum (float b))
alike_floats a b h = record { left = on_left; right = on_right; same_null = refl; same_nan = ap (λ z. ok (boolean z)) (eq_nan (number_of a) (number_of b) h) }
  where
    on_left : (t : Total) → equal_totals false (figure false (float a)) t ≡ equal_totals false (figure false (float b)) t
    on_left (known t) = refl
    on_left (figure true g) = refl
    on_left (figure false (integer c)) = floats_left false (number_of a) (number_of b) (rounded c) h
    on_left (figure false (float c)) = floats_left false (number_of a) (number_of b) (number_of c) h
    on_left (figure false (string r t)) = refl

    on_right : (t : Total) → equal_totals false t (figure false (float a)) ≡ equal_totals false t (figure false (float b))
    on_right (known t) = refl
    on_right (figure true g) = refl
    on_right (figure false (integer c)) = floats_right false (number_of a) (number_of b) (rounded c) h
    on_right (figure false (float c)) = floats_right false (number_of a) (number_of b) (number_of c) h
    on_right (figure false (string r t)) = refl

-- strings of the same bytes, whatever their references
alike_strings : (r q : ℕ) (t u : List ℕ) → t ≡ u → Alike (datum (string r t)) (datum (string q u))
alike_strings r q t u h = record { left = on_left; right = on_right; same_null = refl; same_nan = refl }
  where
    on_left : (x : Total) → equal_totals false (figure false (string r t)) x ≡ equal_totals false (figure false (string q u)) x
    on_left (known x) = refl
    on_left (figure true g) = refl
    on_left (figure false (integer c)) = refl
    on_left (figure false (float c)) = refl
    on_left (figure false (string p w)) = ap (λ z. truth_of false (Found (compare_bytes z w))) h

    on_right : (x : Total) → equal_totals false x (figure false (string r t)) ≡ equal_totals false x (figure false (string q u))
    on_right (known x) = refl
    on_right (figure true g) = refl
    on_right (figure false (integer c)) = refl
    on_right (figure false (float c)) = refl
    on_right (figure false (string p w)) = ap (λ z. truth_of false (Found (compare_bytes w z))) h

same_truth : (a b : Truth) → truth_of false (compare (truth a) (truth b)) ≡ True → a ≡ b
same_truth False False h = refl
same_truth False Unknown h = unknown≢true h
same_truth False True h = false-truth≢true h
same_truth Unknown b h = unknown≢true h
same_truth True False h = false-truth≢true h
same_truth True Unknown h = unknown≢true h
same_truth True True h = refl

-- what an equality of two columns finds equal
pub alike : (v w : Value) → equal_totals true (from_value v) (from_value w) ≡ True → Alike v w
alike (truth a) (truth b) h = alike_path (ap truth (same_truth a b h))
alike (truth a) (datum g) h = unknown≢true h
alike (datum f) (truth b) h = unknown≢true h
alike (datum (integer a)) (datum (integer b)) h = alike_path (ap (λ z. datum (integer z)) (equal_integers a b (equal_at false (compare_integers a b) h).1))
alike (datum (integer a)) (datum (float b)) h = false≢true (sym (equal_at true (compare_floats (rounded a) (number_of b)) h).0)
alike (datum (integer a)) (datum (string r t)) h = unknown≢true h
alike (datum (float a)) (datum (integer b)) h = false≢true (sym (equal_at true (compare_floats (number_of a) (rounded b)) h).0)
alike (datum (float a)) (datum (float b)) h = alike_floats a b (floats_equal (number_of a) (number_of b) (equal_at false (compare_floats (number_of a) (number_of b)) h).1)
alike (datum (float a)) (datum (string r t)) h = unknown≢true h
alike (datum (string r t)) (datum (integer b)) h = unknown≢true h
alike (datum (string r t)) (datum (float b)) h = unknown≢true h
alike (datum (string r t)) (datum (string q u)) h = alike_strings r q t u (equal_bytes t u (equal_at false (compare_bytes t u) h).1)
