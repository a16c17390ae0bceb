-- value.rs and the inner matches of evaluate (expression.rs) give what crate value defines.
use Prim.Native.Nat.{ℕ, zero, suc, ◌^◌}
use mathlib.Core.Path.{◌≡◌, refl, sym, ap, ◌∙◌}
use mathlib.Core.Bool.{Bool, true, false, ◌&&◌, ◌||◌, cond}
use mathlib.Core.List.{List, [], ◌∷◌}
use mathlib.Core.Option.{none, some}
use native.Mathlib.Omega.{arith}
use lib.Dec.{ltb, eqb, eqb-zero-suc}
use lib.IntN.{ℤ, pos, negsuc, neg_ℤ, ◌+ℤ◌, ◌-ℤ◌, ◌*ℤ◌}
use lib.Signed.{mag, lt_z, quot_z}
use lib.Ieee as Ieee
use borrow.Author.Tests.{ltb-true, ltb-false, eq-eqb, ne_eqb}
use Rattle.value.specs.Value.{False, Unknown, True, integer, float, string, Value, truth, datum, null, boolean, ok, err, overflow}
use Rattle.value.specs.Logic.{logical_and, logical_or, logical_not}
use Rattle.value.specs.Comparison.{Finding, Found, Less, Equal, Greater, Unordered, NotComparable, order, then, rounded, number_of, compare_integers, compare_floats, compare_bytes, is_less, is_equal, is_greater, answer, equal, greater_than, less_than}
use Rattle.value.specs.ComparisonLaws.{turned}
use Rattle.value.specs.Arithmetic.{checked, add_integers, subtract_integers, multiply_integers, divide_integers, identity, negate, square_root}
use Rattle.value.specs.Arithmetic as Defined
use Rattle.value.specs.Undefined.{is_null, is_nan}
use Rattle.value.specs.Undefined as Undefined
use Rattle.value.proofs.Comparison.{equal_floats, less_floats, greater_floats, less_integers, greater_integers, swapped_bytes}
use Rattle.literal.specs.Rust.{Ok, Err, ◌⇒◌, ◌else◌}
use Rattle.literal.specs.Value.{document_01, in_i64, i64_eq, bytes_eq, bytes_lt, Boolean, Integer, eq, is_undefined, checked_add, checked_sub, checked_mul, checked_div}
use Rattle.literal.specs.Expression.{evaluate_and, evaluate_or, evaluate_not, evaluate_equal, evaluate_greater_than, evaluate_less_than, evaluate_is_nan, evaluate_identity, evaluate_negate, evaluate_square_root}
use Rattle.literal.specs.Law.{told}

-- a proof for each kind of value
each_value : (P : Value → Type 0) → P (truth False) → P null → P (truth True) → ((i : ℤ) → P (datum (integer i))) → ((p : ℕ) → P (datum (float p)))
    → ((r : ℕ) (t : List ℕ) → P (datum (string r t))) → (v : Value) → P v
each_value P f n t i p s (truth False) = f
each_value P f n t i p s (truth Unknown) = n
each_value P f n t i p s (truth True) = t
each_value P f n t i p s (datum (integer j)) = i j
each_value P f n t i p s (datum (float q)) = p q
each_value P f n t i p s (datum (string r u)) = s r u

-- ---- value.rs

checked_same : (i : ℤ) → ((in_i64 i ⇒ λ j. Ok (Integer j)) else Err overflow) ≡ told (checked i)
unfolding checked
checked_same i = go (ltb (mag i) (2 ^ 63))
  where
    go : (b : Bool) → ((cond b (some i) none ⇒ λ j. Ok (Integer j)) else Err overflow) ≡ told (cond b (ok (datum (integer i))) (err overflow))
    go true = refl
    go false = refl

pub undefined_same : (v : Value) → is_undefined v ≡ Undefined.is_undefined v
undefined_same = each_value (λ v. is_undefined v ≡ Undefined.is_undefined v) refl refl refl (λ i. refl) (λ p. go (Ieee.is_nan (number_of p)) (number_of p)) (λ r t. refl)
  where
    go : (b : Bool) (x : Ieee.Float) → ((cond b (some x) none ⇒ λ f. true) else false) ≡ b
    go true x = refl
    go false x = refl

pub add_same : (v w : Value) → checked_add v w ≡ told (Defined.checked_add v w)
unfolding add_integers
add_same =
    each_value (λ v. (w : Value) → checked_add v w ≡ told (Defined.checked_add v w))
    (each_value (λ w. checked_add (truth False) w ≡ told (Defined.checked_add (truth False) w)) refl refl refl (λ j. refl) (λ q. refl) (λ s u. refl))
    (each_value (λ w. checked_add (null) w ≡ told (Defined.checked_add (null) w)) refl refl refl (λ j. refl) (λ q. refl) (λ s u. refl))
    (each_value (λ w. checked_add (truth True) w ≡ told (Defined.checked_add (truth True) w)) refl refl refl (λ j. refl) (λ q. refl) (λ s u. refl))
    (λ i. each_value (λ w. checked_add (datum (integer i)) w ≡ told (Defined.checked_add (datum (integer i)) w)) refl refl refl (λ j. checked_same (i +ℤ j)) (λ q. refl) (λ s u. refl))
    (λ p. each_value (λ w. checked_add (datum (float p)) w ≡ told (Defined.checked_add (datum (float p)) w)) refl refl refl (λ j. refl) (λ q. refl) (λ s u. refl))
    (λ r t. each_value (λ w. checked_add (datum (string r t)) w ≡ told (Defined.checked_add (datum (string r t)) w)) refl refl refl (λ j. refl) (λ q. refl) (λ s u. refl))

pub sub_same : (v w : Value) → checked_sub v w ≡ told (Defined.checked_sub v w)
unfolding subtract_integers
sub_same =
    each_value (λ v. (w : Value) → checked_sub v w ≡ told (Defined.checked_sub v w))
    (each_value (λ w. checked_sub (truth False) w ≡ told (Defined.checked_sub (truth False) w)) refl refl refl (λ j. refl) (λ q. refl) (λ s u. refl))
    (each_value (λ w. checked_sub (null) w ≡ told (Defined.checked_sub (null) w)) refl refl refl (λ j. refl) (λ q. refl) (λ s u. refl))
    (each_value (λ w. checked_sub (truth True) w ≡ told (Defined.checked_sub (truth True) w)) refl refl refl (λ j. refl) (λ q. refl) (λ s u. refl))
    (λ i. each_value (λ w. checked_sub (datum (integer i)) w ≡ told (Defined.checked_sub (datum (integer i)) w)) refl refl refl (λ j. checked_same (i -ℤ j)) (λ q. refl) (λ s u. refl))
    (λ p. each_value (λ w. checked_sub (datum (float p)) w ≡ told (Defined.checked_sub (datum (float p)) w)) refl refl refl (λ j. refl) (λ q. refl) (λ s u. refl))
    (λ r t. each_value (λ w. checked_sub (datum (string r t)) w ≡ told (Defined.checked_sub (datum (string r t)) w)) refl refl refl (λ j. refl) (λ q. refl) (λ s u. refl))

pub mul_same : (v w : Value) → checked_mul v w ≡ told (Defined.checked_mul v w)
unfolding multiply_integers
mul_same =
    each_value (λ v. (w : Value) → checked_mul v w ≡ told (Defined.checked_mul v w))
    (each_value (λ w. checked_mul (truth False) w ≡ told (Defined.checked_mul (truth False) w)) refl refl refl (λ j. refl) (λ q. refl) (λ s u. refl))
    (each_value (λ w. checked_mul (null) w ≡ told (Defined.checked_mul (null) w)) refl refl refl (λ j. refl) (λ q. refl) (λ s u. refl))
    (each_value (λ w. checked_mul (truth True) w ≡ told (Defined.checked_mul (truth True) w)) refl refl refl (λ j. refl) (λ q. refl) (λ s u. refl))
    (λ i. each_value (λ w. checked_mul (datum (integer i)) w ≡ told (Defined.checked_mul (datum (integer i)) w)) refl refl refl (λ j. checked_same (i *ℤ j)) (λ q. refl) (λ s u. refl))
    (λ p. each_value (λ w. checked_mul (datum (float p)) w ≡ told (Defined.checked_mul (datum (float p)) w)) refl refl refl (λ j. refl) (λ q. refl) (λ s u. refl))
    (λ r t. each_value (λ w. checked_mul (datum (string r t)) w ≡ told (Defined.checked_mul (datum (string r t)) w)) refl refl refl (λ j. refl) (λ q. refl) (λ s u. refl))

divide_integers_same : (a b : ℤ) → checked_div document_01 (datum (integer a)) (datum (integer b)) ≡ told (divide_integers a b)
unfolding divide_integers
divide_integers_same a (pos zero) = refl
divide_integers_same a (pos (suc b)) = rw (eqb-zero-suc b) (checked_same (quot_z a (pos (suc b))))
divide_integers_same a (negsuc b) = checked_same (quot_z a (negsuc b))

pub div_same : (v w : Value) → checked_div document_01 v w ≡ told (Defined.checked_div v w)
div_same =
    each_value (λ v. (w : Value) → checked_div document_01 v w ≡ told (Defined.checked_div v w))
    (each_value (λ w. checked_div document_01 (truth False) w ≡ told (Defined.checked_div (truth False) w)) refl refl refl (λ j. refl) (λ q. refl) (λ s u. refl))
    (each_value (λ w. checked_div document_01 (null) w ≡ told (Defined.checked_div (null) w)) refl refl refl (λ j. refl) (λ q. refl) (λ s u. refl))
    (each_value (λ w. checked_div document_01 (truth True) w ≡ told (Defined.checked_div (truth True) w)) refl refl refl (λ j. refl) (λ q. refl) (λ s u. refl))
    (λ i. each_value (λ w. checked_div document_01 (datum (integer i)) w ≡ told (Defined.checked_div (datum (integer i)) w)) refl refl refl (λ j. divide_integers_same i j) (λ q. refl) (λ s u. refl))
    (λ p. each_value (λ w. checked_div document_01 (datum (float p)) w ≡ told (Defined.checked_div (datum (float p)) w)) refl refl refl (λ j. refl) (λ q. refl) (λ s u. refl))
    (λ r t. each_value (λ w. checked_div document_01 (datum (string r t)) w ≡ told (Defined.checked_div (datum (string r t)) w)) refl refl refl (λ j. refl) (λ q. refl) (λ s u. refl))

-- ---- expression.rs, evaluate

pub and_same : (v w : Value) → evaluate_and v w ≡ told (logical_and v w)
and_same =
    each_value (λ v. (w : Value) → evaluate_and v w ≡ told (logical_and v w))
    (each_value (λ w. evaluate_and (truth False) w ≡ told (logical_and (truth False) w)) refl refl refl (λ j. refl) (λ q. refl) (λ s u. refl))
    (each_value (λ w. evaluate_and (null) w ≡ told (logical_and (null) w)) refl refl refl (λ j. refl) (λ q. refl) (λ s u. refl))
    (each_value (λ w. evaluate_and (truth True) w ≡ told (logical_and (truth True) w)) refl refl refl (λ j. refl) (λ q. refl) (λ s u. refl))
    (λ i. each_value (λ w. evaluate_and (datum (integer i)) w ≡ told (logical_and (datum (integer i)) w)) refl refl refl (λ j. refl) (λ q. refl) (λ s u. refl))
    (λ p. each_value (λ w. evaluate_and (datum (float p)) w ≡ told (logical_and (datum (float p)) w)) refl refl refl (λ j. refl) (λ q. refl) (λ s u. refl))
    (λ r t. each_value (λ w. evaluate_and (datum (string r t)) w ≡ told (logical_and (datum (string r t)) w)) refl refl refl (λ j. refl) (λ q. refl) (λ s u. refl))

pub or_same : (v w : Value) → evaluate_or v w ≡ told (logical_or v w)
or_same =
    each_value (λ v. (w : Value) → evaluate_or v w ≡ told (logical_or v w))
    (each_value (λ w. evaluate_or (truth False) w ≡ told (logical_or (truth False) w)) refl refl refl (λ j. refl) (λ q. refl) (λ s u. refl))
    (each_value (λ w. evaluate_or (null) w ≡ told (logical_or (null) w)) refl refl refl (λ j. refl) (λ q. refl) (λ s u. refl))
    (each_value (λ w. evaluate_or (truth True) w ≡ told (logical_or (truth True) w)) refl refl refl (λ j. refl) (λ q. refl) (λ s u. refl))
    (λ i. each_value (λ w. evaluate_or (datum (integer i)) w ≡ told (logical_or (datum (integer i)) w)) refl refl refl (λ j. refl) (λ q. refl) (λ s u. refl))
    (λ p. each_value (λ w. evaluate_or (datum (float p)) w ≡ told (logical_or (datum (float p)) w)) refl refl refl (λ j. refl) (λ q. refl) (λ s u. refl))
    (λ r t. each_value (λ w. evaluate_or (datum (string r t)) w ≡ told (logical_or (datum (string r t)) w)) refl refl refl (λ j. refl) (λ q. refl) (λ s u. refl))

pub not_same : (v : Value) → evaluate_not v ≡ told (logical_not v)
not_same = each_value (λ v. evaluate_not v ≡ told (logical_not v)) refl refl refl (λ i. refl) (λ p. refl) (λ r t. refl)

pub null_same : (v : Value) → Ok (Boolean (eq v null)) ≡ told (is_null v)
null_same = each_value (λ v. Ok (Boolean (eq v null)) ≡ told (is_null v)) refl refl refl (λ i. refl) (λ p. refl) (λ r t. refl)

pub nan_same : (v : Value) → evaluate_is_nan v ≡ told (is_nan v)
nan_same = each_value (λ v. evaluate_is_nan v ≡ told (is_nan v)) refl refl refl (λ i. refl) (λ p. refl) (λ r t. refl)

pub identity_same : (v : Value) → evaluate_identity v ≡ told (identity v)
identity_same = each_value (λ v. evaluate_identity v ≡ told (identity v)) refl refl refl (λ i. refl) (λ p. refl) (λ r t. refl)

pub negate_same : (v : Value) → evaluate_negate document_01 v ≡ told (negate v)
negate_same = each_value (λ v. evaluate_negate document_01 v ≡ told (negate v)) refl refl refl (λ i. checked_same (neg_ℤ i)) (λ p. refl) (λ r t. refl)

pub root_same : (v : Value) → evaluate_square_root v ≡ told (square_root v)
root_same = each_value (λ v. evaluate_square_root v ≡ told (square_root v)) refl refl refl (λ i. go i) (λ p. refl) (λ r t. refl)
  where
    go : (i : ℤ) → evaluate_square_root (datum (integer i)) ≡ told (square_root (datum (integer i)))
    go (pos n) = refl
    go (negsuc n) = refl

-- ---- comparisons: what the Rust's operators give of two Integers, two Floats or two Strings

-- of two numbers, whether they are equal, by which is less
numbers : (x y : ℕ) (a b : Bool) → ltb x y ≡ a → ltb y x ≡ b → is_equal (Found (order a b)) ≡ eqb x y
numbers x y true b h k = let l = ltb-true x y h in sym (ne_eqb x y (λ e. omega arith))
numbers x y false true h k = let l = ltb-true y x k in sym (ne_eqb x y (λ e. omega arith))
numbers x y false false h k = let l = ltb-false x y h in let m = ltb-false y x k in sym (eq-eqb x y (omega arith))

equal_integers : (a b : ℤ) → is_equal (Found (compare_integers a b)) ≡ i64_eq a b
unfolding compare_integers
equal_integers (pos a) (pos b) = numbers a b (ltb a b) (ltb b a) refl refl
equal_integers (pos a) (negsuc b) = refl
equal_integers (negsuc a) (pos b) = refl
equal_integers (negsuc a) (negsuc b) = numbers_back a b (ltb a b) (ltb b a) refl refl
  where
    numbers_back : (x y : ℕ) (a b : Bool) → ltb x y ≡ a → ltb y x ≡ b → is_equal (Found (order b a)) ≡ eqb x y
    numbers_back x y true b h k = go b (let l = ltb-true x y h in ne_eqb x y (λ e. omega arith))
      where
        go : (b : Bool) → eqb x y ≡ false → is_equal (Found (order b true)) ≡ eqb x y
        go true e = sym e
        go false e = sym e
    numbers_back x y false true h k = let l = ltb-true y x k in sym (ne_eqb x y (λ e. omega arith))
    numbers_back x y false false h k = let l = ltb-false x y h in let m = ltb-false y x k in sym (eq-eqb x y (omega arith))

then_equal : (x y : ℕ) (a b : Bool) → ltb x y ≡ a → ltb y x ≡ b → (f : Finding) → is_equal (Found (then (order a b) f)) ≡ (eqb x y && is_equal (Found f))
then_equal x y true b h k f = ap (λ z. z && is_equal (Found f)) (numbers x y true b h k)
then_equal x y false true h k f = ap (λ z. z && is_equal (Found f)) (numbers x y false true h k)
then_equal x y false false h k f = ap (λ z. z && is_equal (Found f)) (numbers x y false false h k)

then_less : (x y : ℕ) (a b : Bool) → ltb x y ≡ a → ltb y x ≡ b → (f : Finding) → is_less (Found (then (order a b) f)) ≡ (a || (eqb x y && is_less (Found f)))
then_less x y true b h k f = refl
then_less x y false true h k f = ap (λ z. z && is_less (Found f)) (numbers x y false true h k)
then_less x y false false h k f = ap (λ z. z && is_less (Found f)) (numbers x y false false h k)

equal_bytes : (t u : List ℕ) → is_equal (Found (compare_bytes t u)) ≡ bytes_eq t u
unfolding compare_bytes
equal_bytes [] [] = refl
equal_bytes [] (y ∷ ys) = refl
equal_bytes (x ∷ xs) [] = refl
equal_bytes (x ∷ xs) (y ∷ ys) = then_equal x y (ltb x y) (ltb y x) refl refl (compare_bytes xs ys) ∙ ap (λ z. eqb x y && z) (equal_bytes xs ys)

less_bytes : (t u : List ℕ) → is_less (Found (compare_bytes t u)) ≡ bytes_lt t u
unfolding compare_bytes
less_bytes [] [] = refl
less_bytes [] (y ∷ ys) = refl
less_bytes (x ∷ xs) [] = refl
less_bytes (x ∷ xs) (y ∷ ys) = then_less x y (ltb x y) (ltb y x) refl refl (compare_bytes xs ys) ∙ ap (λ z. ltb x y || (eqb x y && z)) (less_bytes xs ys)

greater_turned : (f : Finding) → is_greater (Found (turned f)) ≡ is_less (Found f)
greater_turned Less = refl
greater_turned Equal = refl
greater_turned Greater = refl
greater_turned Unordered = refl
greater_turned NotComparable = refl

greater_bytes : (t u : List ℕ) → is_greater (Found (compare_bytes t u)) ≡ bytes_lt u t
greater_bytes t u = ap (λ f. is_greater (Found f)) (swapped_bytes u t) ∙ (greater_turned (compare_bytes u t) ∙ less_bytes u t)

-- Each of these comparisons has an answer.
order_answer : (a b h : Bool) → answer (Found (order a b)) h ≡ ok (boolean h)
order_answer true b h = refl
order_answer false true h = refl
order_answer false false h = refl

integers_answer : (a b : ℤ) (h : Bool) → answer (Found (compare_integers a b)) h ≡ ok (boolean h)
unfolding compare_integers
integers_answer a b h = order_answer (lt_z a b) (lt_z b a) h

floats_answer : (x y : Ieee.Float) (h : Bool) → answer (Found (compare_floats x y)) h ≡ ok (boolean h)
unfolding compare_floats
floats_answer x y h = go (Ieee.eq x y) (Ieee.lt x y) (Ieee.lt y x)
  where
    go : (e l g : Bool) → answer (Found (cond e Equal (cond l Less (cond g Greater Unordered)))) h ≡ ok (boolean h)
    go true l g = refl
    go false true g = refl
    go false false true = refl
    go false false false = refl

bytes_answer : (t u : List ℕ) (h : Bool) → answer (Found (compare_bytes t u)) h ≡ ok (boolean h)
unfolding compare_bytes
bytes_answer [] [] h = refl
bytes_answer [] (y ∷ ys) h = refl
bytes_answer (x ∷ xs) [] h = refl
bytes_answer (x ∷ xs) (y ∷ ys) h = go (ltb x y) (ltb y x) (bytes_answer xs ys h)
  where
    go : (a b : Bool) → answer (Found (compare_bytes xs ys)) h ≡ ok (boolean h) → answer (Found (then (order a b) (compare_bytes xs ys))) h ≡ ok (boolean h)
    go true b e = refl
    go false true e = refl
    go false false e = e

-- an answer that is there, and what it is
answered : (f : Finding) (h b : Bool) → answer (Found f) h ≡ ok (boolean h) → h ≡ b → Ok (Boolean b) ≡ told (answer (Found f) h)
answered f h b e i = ap (λ z. Ok (Boolean z)) (sym i) ∙ ap told (sym e)

pub equal_same : (v w : Value) → evaluate_equal v w ≡ told (equal v w)
equal_same =
    each_value (λ v. (w : Value) → evaluate_equal v w ≡ told (equal v w))
    (each_value (λ w. evaluate_equal (truth False) w ≡ told (equal (truth False) w)) refl refl refl (λ j. refl) (λ q. refl) (λ s u. refl))
    (each_value (λ w. evaluate_equal (null) w ≡ told (equal (null) w)) refl refl refl (λ j. refl) (λ q. refl) (λ s u. refl))
    (each_value (λ w. evaluate_equal (truth True) w ≡ told (equal (truth True) w)) refl refl refl (λ j. refl) (λ q. refl) (λ s u. refl))
    (λ i. each_value (λ w. evaluate_equal (datum (integer i)) w ≡ told (equal (datum (integer i)) w)) refl refl refl (λ j. by_integers i j) (λ q. by_floats (rounded i) (number_of q)) (λ s u. refl))
    (λ p. each_value (λ w. evaluate_equal (datum (float p)) w ≡ told (equal (datum (float p)) w)) refl refl refl (λ j. by_floats (number_of p) (rounded j)) (λ q. by_floats (number_of p) (number_of q)) (λ s u. refl))
    (λ r t. each_value (λ w. evaluate_equal (datum (string r t)) w ≡ told (equal (datum (string r t)) w)) refl refl refl (λ j. refl) (λ q. refl) (λ s u. by_bytes t u))
  where
    by_integers : (a b : ℤ) → Ok (Boolean (i64_eq a b)) ≡ told (answer (Found (compare_integers a b)) (is_equal (Found (compare_integers a b))))
    by_integers a b = let h = is_equal (Found (compare_integers a b)) in answered (compare_integers a b) h (i64_eq a b) (integers_answer a b h) (equal_integers a b)

    by_floats : (x y : Ieee.Float) → Ok (Boolean (Ieee.eq x y)) ≡ told (answer (Found (compare_floats x y)) (is_equal (Found (compare_floats x y))))
    by_floats x y = let h = is_equal (Found (compare_floats x y)) in answered (compare_floats x y) h (Ieee.eq x y) (floats_answer x y h) (equal_floats x y)

    by_bytes : (t u : List ℕ) → Ok (Boolean (bytes_eq t u)) ≡ told (answer (Found (compare_bytes t u)) (is_equal (Found (compare_bytes t u))))
    by_bytes t u = let h = is_equal (Found (compare_bytes t u)) in answered (compare_bytes t u) h (bytes_eq t u) (bytes_answer t u h) (equal_bytes t u)

pub greater_same : (v w : Value) → evaluate_greater_than v w ≡ told (greater_than v w)
greater_same =
    each_value (λ v. (w : Value) → evaluate_greater_than v w ≡ told (greater_than v w))
    (each_value (λ w. evaluate_greater_than (truth False) w ≡ told (greater_than (truth False) w)) refl refl refl (λ j. refl) (λ q. refl) (λ s u. refl))
    (each_value (λ w. evaluate_greater_than (null) w ≡ told (greater_than (null) w)) refl refl refl (λ j. refl) (λ q. refl) (λ s u. refl))
    (each_value (λ w. evaluate_greater_than (truth True) w ≡ told (greater_than (truth True) w)) refl refl refl (λ j. refl) (λ q. refl) (λ s u. refl))
    (λ i. each_value (λ w. evaluate_greater_than (datum (integer i)) w ≡ told (greater_than (datum (integer i)) w)) refl refl refl (λ j. by_integers i j) (λ q. by_floats (rounded i) (number_of q)) (λ s u. refl))
    (λ p. each_value (λ w. evaluate_greater_than (datum (float p)) w ≡ told (greater_than (datum (float p)) w)) refl refl refl (λ j. by_floats (number_of p) (rounded j)) (λ q. by_floats (number_of p) (number_of q)) (λ s u. refl))
    (λ r t. each_value (λ w. evaluate_greater_than (datum (string r t)) w ≡ told (greater_than (datum (string r t)) w)) refl refl refl (λ j. refl) (λ q. refl) (λ s u. by_bytes t u))
  where
    by_integers : (a b : ℤ) → Ok (Boolean (lt_z b a)) ≡ told (answer (Found (compare_integers a b)) (is_greater (Found (compare_integers a b))))
    by_integers a b = let h = is_greater (Found (compare_integers a b)) in answered (compare_integers a b) h (lt_z b a) (integers_answer a b h) (greater_integers a b)

    by_floats : (x y : Ieee.Float) → Ok (Boolean (Ieee.lt y x)) ≡ told (answer (Found (compare_floats x y)) (is_greater (Found (compare_floats x y))))
    by_floats x y = let h = is_greater (Found (compare_floats x y)) in answered (compare_floats x y) h (Ieee.lt y x) (floats_answer x y h) (greater_floats x y)

    by_bytes : (t u : List ℕ) → Ok (Boolean (bytes_lt u t)) ≡ told (answer (Found (compare_bytes t u)) (is_greater (Found (compare_bytes t u))))
    by_bytes t u = let h = is_greater (Found (compare_bytes t u)) in answered (compare_bytes t u) h (bytes_lt u t) (bytes_answer t u h) (greater_bytes t u)

pub less_same : (v w : Value) → evaluate_less_than v w ≡ told (less_than v w)
less_same =
    each_value (λ v. (w : Value) → evaluate_less_than v w ≡ told (less_than v w))
    (each_value (λ w. evaluate_less_than (truth False) w ≡ told (less_than (truth False) w)) refl refl refl (λ j. refl) (λ q. refl) (λ s u. refl))
    (each_value (λ w. evaluate_less_than (null) w ≡ told (less_than (null) w)) refl refl refl (λ j. refl) (λ q. refl) (λ s u. refl))
    (each_value (λ w. evaluate_less_than (truth True) w ≡ told (less_than (truth True) w)) refl refl refl (λ j. refl) (λ q. refl) (λ s u. refl))
    (λ i. each_value (λ w. evaluate_less_than (datum (integer i)) w ≡ told (less_than (datum (integer i)) w)) refl refl refl (λ j. by_integers i j) (λ q. by_floats (rounded i) (number_of q)) (λ s u. refl))
    (λ p. each_value (λ w. evaluate_less_than (datum (float p)) w ≡ told (less_than (datum (float p)) w)) refl refl refl (λ j. by_floats (number_of p) (rounded j)) (λ q. by_floats (number_of p) (number_of q)) (λ s u. refl))
    (λ r t. each_value (λ w. evaluate_less_than (datum (string r t)) w ≡ told (less_than (datum (string r t)) w)) refl refl refl (λ j. refl) (λ q. refl) (λ s u. by_bytes t u))
  where
    by_integers : (a b : ℤ) → Ok (Boolean (lt_z a b)) ≡ told (answer (Found (compare_integers a b)) (is_less (Found (compare_integers a b))))
    by_integers a b = let h = is_less (Found (compare_integers a b)) in answered (compare_integers a b) h (lt_z a b) (integers_answer a b h) (less_integers a b)

    by_floats : (x y : Ieee.Float) → Ok (Boolean (Ieee.lt x y)) ≡ told (answer (Found (compare_floats x y)) (is_less (Found (compare_floats x y))))
    by_floats x y = let h = is_less (Found (compare_floats x y)) in answered (compare_floats x y) h (Ieee.lt x y) (floats_answer x y h) (less_floats x y)

    by_bytes : (t u : List ℕ) → Ok (Boolean (bytes_lt t u)) ≡ told (answer (Found (compare_bytes t u)) (is_less (Found (compare_bytes t u))))
    by_bytes t u = let h = is_less (Found (compare_bytes t u)) in answered (compare_bytes t u) h (bytes_lt t u) (bytes_answer t u h) (less_bytes t u)
