-- The comparison of two doubles, of two Integers and of two strings gives what the Rust's operators give: IEEE 754's ==, < and >, equality and their order. With the
-- sides swapped, less and greater swap, and nothing else. (ComparisonLaws.antt has what follows of any two values.)
use Prim.Native.Nat.{ℕ, zero, suc, ◌+◌, ◌-◌, ◌*◌, ◌/◌, ◌%◌, ◌^◌}
use Prim.Native.Nat as Nat
use mathlib.Core.Path.{◌≡◌, refl, sym, ap, ap₂, ◌∙◌}
use mathlib.Core.Bool.{Bool, true, false, not, ◌&&◌, ◌||◌, beq, cond}
use mathlib.Core.List.{List, [], ◌∷◌}
use native.Mathlib.Omega.{arith}
use lib.Dec.{ltb, eqb}
use lib.IntN.{ℤ, pos, negsuc}
use lib.Signed.{lt_z}
use lib.Ieee as Ieee
use lib.Ieee.{Float, nan, inf, fin, binary64, up, down, odd, units, is_nan, below, level}
use borrow.Author.Tests.{ltb-true, ltb-false, eqb-true, le-ltb, eq-eqb, ne_eqb}
use Rattle.value.specs.Comparison.{Finding, Comparison, Null, Found, Less, Equal, Greater, Unordered, NotComparable, order, then, rounded, compare_integers, compare_floats, compare_bytes, is_less, is_equal, is_greater}
use Rattle.value.specs.ComparisonLaws.{turned}
use Rattle.value.proofs.Laws.{false≢true}

-- ---- whole numbers

below_apart : (a b : ℕ) → ltb a b ≡ true → ltb b a ≡ false
below_apart a b h = let l = ltb-true a b h in le-ltb b a (omega arith)

pub between : (a b : ℕ) → ltb a b ≡ false → ltb b a ≡ false → a ≡ b
between a b h k = let l = ltb-false a b h in let m = ltb-false b a k in omega arith

-- ---- doubles: < excludes == and >, and == goes both ways

less_unequal : (s : Bool) (a : ℕ) (t : Bool) (b : ℕ) → below s a t b ≡ true → level s a t b ≡ false
less_unequal false a false b h = ap (λ x. x && true) (ne_eqb a b (λ e. let l = ltb-true a b h in omega arith))
less_unequal false a true b h = absurd (false≢true h)
less_unequal true a false b h = by_equal (eqb a b) refl
  where
    by_equal : (x : Bool) → eqb a b ≡ x → level true a false b ≡ false
    by_equal false e = ap (λ x. x && eqb a 0) e
    by_equal true e =
        let l = ltb-true 0 (a + b) h in
        let k = eqb-true a b e in
        ap₂ (λ x y. x && y) e (ne_eqb a 0 (λ z. omega arith))
less_unequal true a true b h = ap (λ x. x && true) (ne_eqb a b (λ e. let l = ltb-true b a h in omega arith))

less_not_greater : (s : Bool) (a : ℕ) (t : Bool) (b : ℕ) → below s a t b ≡ true → below t b s a ≡ false
less_not_greater false a false b h = let l = ltb-true a b h in le-ltb b a (omega arith)
less_not_greater false a true b h = absurd (false≢true h)
less_not_greater true a false b h = refl
less_not_greater true a true b h = let l = ltb-true b a h in le-ltb a b (omega arith)

pub lt_not_eq : (x y : Float) → Ieee.lt x y ≡ true → Ieee.eq x y ≡ false
unfolding Ieee.lt Ieee.eq
lt_not_eq nan y h = absurd (false≢true h)
lt_not_eq (inf s) nan h = absurd (false≢true h)
lt_not_eq (inf false) (inf t) h = absurd (false≢true h)
lt_not_eq (inf true) (inf false) h = refl
lt_not_eq (inf true) (inf true) h = absurd (false≢true h)
lt_not_eq (inf s) (fin t n d) h = refl
lt_not_eq (fin s m e) nan h = absurd (false≢true h)
lt_not_eq (fin s m e) (inf t) h = refl
lt_not_eq (fin s m e) (fin t n d) h = less_unequal s (m * up e * down d) t (n * up d * down e) h

pub lt_not_gt : (x y : Float) → Ieee.lt x y ≡ true → Ieee.lt y x ≡ false
unfolding Ieee.lt
lt_not_gt nan y h = absurd (false≢true h)
lt_not_gt (inf s) nan h = absurd (false≢true h)
lt_not_gt (inf false) (inf t) h = absurd (false≢true h)
lt_not_gt (inf true) (inf false) h = refl
lt_not_gt (inf true) (inf true) h = refl
lt_not_gt (inf s) (fin t n d) h = ap not h
lt_not_gt (fin s m e) nan h = absurd (false≢true h)
lt_not_gt (fin s m e) (inf false) h = refl
lt_not_gt (fin s m e) (inf true) h = absurd (false≢true h)
lt_not_gt (fin s m e) (fin t n d) h = less_not_greater s (m * up e * down d) t (n * up d * down e) h

signs : (s t : Bool) → beq s t ≡ beq t s
signs false false = refl
signs false true = refl
signs true false = refl
signs true true = refl

both_ways : (a b : ℕ) → eqb a b ≡ eqb b a
both_ways a b = by_equal (eqb a b) refl
  where
    by_equal : (x : Bool) → eqb a b ≡ x → eqb a b ≡ eqb b a
    by_equal true e = e ∙ sym (eq-eqb b a (sym (eqb-true a b e)))
    by_equal false e = e ∙ sym (ne_eqb b a (λ k. false≢true (sym e ∙ eq-eqb a b (sym k))))

level_both_ways : (s : Bool) (a : ℕ) (t : Bool) (b : ℕ) → level s a t b ≡ level t b s a
level_both_ways s a t b = by_equal (eqb a b) refl
  where
    by_equal : (x : Bool) → eqb a b ≡ x → level s a t b ≡ level t b s a
    by_equal true e = ap₂ ◌&&◌ (both_ways a b) (ap₂ ◌||◌ (signs s t) (ap (λ n. eqb n 0) (eqb-true a b e)))
    by_equal false e = ap (λ x. x && (beq s t || eqb a 0)) e ∙ sym (ap (λ x. x && (beq t s || eqb b 0)) (sym (both_ways a b) ∙ e))

pub eq_both_ways : (x y : Float) → Ieee.eq x y ≡ Ieee.eq y x
unfolding Ieee.eq
eq_both_ways nan nan = refl
eq_both_ways nan (inf t) = refl
eq_both_ways nan (fin t n d) = refl
eq_both_ways (inf s) nan = refl
eq_both_ways (inf s) (inf t) = signs s t
eq_both_ways (inf s) (fin t n d) = refl
eq_both_ways (fin s m e) nan = refl
eq_both_ways (fin s m e) (inf t) = refl
eq_both_ways (fin s m e) (fin t n d) = level_both_ways s (m * up e * down d) t (n * up d * down e)

-- ---- the three operators on doubles

abbrev pub is_unordered : Comparison → Bool
is_unordered Null = false
is_unordered (Found Less) = false
is_unordered (Found Equal) = false
is_unordered (Found Greater) = false
is_unordered (Found Unordered) = true
is_unordered (Found NotComparable) = false

-- what compare_floats makes of ==, < and >
abbrev pub by_tests : Bool → Bool → Bool → Finding
by_tests e l g = cond e Equal (cond l Less (cond g Greater Unordered))

pub equal_floats : (x y : Float) → is_equal (Found (compare_floats x y)) ≡ Ieee.eq x y
unfolding compare_floats
equal_floats x y = go (Ieee.eq x y) (Ieee.lt x y) (Ieee.lt y x)
  where
    go : (e l g : Bool) → is_equal (Found (by_tests e l g)) ≡ e
    go true l g = refl
    go false true g = refl
    go false false true = refl
    go false false false = refl

pub less_floats : (x y : Float) → is_less (Found (compare_floats x y)) ≡ Ieee.lt x y
unfolding compare_floats
less_floats x y = go (Ieee.eq x y) (Ieee.lt x y) (Ieee.lt y x) (lt_not_eq x y)
  where
    go : (e l g : Bool) → (l ≡ true → e ≡ false) → is_less (Found (by_tests e l g)) ≡ l
    go true true g h = sym (h refl)
    go true false g h = refl
    go false true g h = refl
    go false false true h = refl
    go false false false h = refl

pub greater_floats : (x y : Float) → is_greater (Found (compare_floats x y)) ≡ Ieee.lt y x
unfolding compare_floats
greater_floats x y = go (Ieee.eq x y) (Ieee.lt x y) (Ieee.lt y x) (λ h. eq_both_ways x y ∙ lt_not_eq y x h) (lt_not_gt x y)
  where
    go : (e l g : Bool) → (g ≡ true → e ≡ false) → (l ≡ true → g ≡ false) → is_greater (Found (by_tests e l g)) ≡ g
    go true l true h k = sym (h refl)
    go true l false h k = refl
    go false true g h k = sym (k refl)
    go false false true h k = refl
    go false false false h k = refl

-- Where neither is less, two numbers are equal.
neither_less : (s : Bool) (a : ℕ) (t : Bool) (b : ℕ) → below s a t b ≡ false → below t b s a ≡ false → level s a t b ≡ true
neither_less false a false b h k = ap (λ x. x && true) (eq-eqb a b (between a b h k))
neither_less false a true b h k = let m = ltb-false 0 (b + a) k in ap₂ ◌&&◌ (eq-eqb a b (omega arith)) (eq-eqb a 0 (omega arith))
neither_less true a false b h k = let m = ltb-false 0 (a + b) h in ap₂ ◌&&◌ (eq-eqb a b (omega arith)) (eq-eqb a 0 (omega arith))
neither_less true a true b h k = ap (λ x. x && true) (eq-eqb a b (between a b k h))

pub unordered_floats : (x y : Float) → is_unordered (Found (compare_floats x y)) ≡ (is_nan x || is_nan y)
unfolding compare_floats Ieee.eq Ieee.lt is_nan
unordered_floats nan nan = refl
unordered_floats nan (inf t) = refl
unordered_floats nan (fin t n d) = refl
unordered_floats (inf s) nan = refl
unordered_floats (inf false) (inf false) = refl
unordered_floats (inf false) (inf true) = refl
unordered_floats (inf true) (inf false) = refl
unordered_floats (inf true) (inf true) = refl
unordered_floats (inf false) (fin t n d) = refl
unordered_floats (inf true) (fin t n d) = refl
unordered_floats (fin s m e) nan = refl
unordered_floats (fin s m e) (inf false) = refl
unordered_floats (fin s m e) (inf true) = refl
unordered_floats (fin s m e) (fin t n d) = go (level s a t b) (below s a t b) (below t b s a) (neither_less s a t b)
  where
    a : ℕ
    a = m * up e * down d

    b : ℕ
    b = n * up d * down e

    go : (e l g : Bool) → (l ≡ false → g ≡ false → e ≡ true) → is_unordered (Found (by_tests e l g)) ≡ false
    go true l g h = refl
    go false true g h = refl
    go false false true h = refl
    go false false false h = absurd (false≢true (h refl refl))

-- An Integer that is rounded is a number.
odd_is_number : (d : ℕ) (s : Bool) (q k l : ℕ) → is_nan (odd d s q k l) ≡ false
unfolding odd is_nan
odd_is_number d s zero k l = refl
odd_is_number d s (suc q) k l = refl

unit_is_number : (t : Bool) (d : ℕ) (s : Bool) (q k l : ℕ) → is_nan (cond t (odd d s q k l) (inf s)) ≡ false
unfolding is_nan
unit_is_number true d s q k l = odd_is_number d s q k l
unit_is_number false d s q k l = refl

units_are_a_number : (s : Bool) (q k : ℕ) → is_nan (units binary64 s q k) ≡ false
unfolding units
units_are_a_number s q k = unit_is_number (ltb (q * 2 ^ k) (2 ^ 2098)) 54 s q k 1074

round_is_number : (s : Bool) (m : ℕ) → is_nan (Ieee.round binary64 s m 1) ≡ false
unfolding Ieee.round
round_is_number s m =
    let n = m * 2 ^ 1074 in
    let k = Ieee.size (n / 1) - 53 in
    let u = 1 * 2 ^ k in
    units_are_a_number s (Ieee.nearest (n / u) (Nat.compare (n % u * 2) u)) k

pub rounded_is_number : (i : ℤ) → is_nan (rounded i) ≡ false
unfolding Ieee.of_int
rounded_is_number (pos n) = round_is_number false n
rounded_is_number (negsuc n) = round_is_number true (suc n)

pub swapped_floats : (x y : Float) → compare_floats y x ≡ turned (compare_floats x y)
unfolding compare_floats
swapped_floats x y = ap (λ e. by_tests e (Ieee.lt y x) (Ieee.lt x y)) (eq_both_ways y x) ∙ go (Ieee.eq x y) (Ieee.lt x y) (Ieee.lt y x) (lt_not_gt x y)
  where
    go : (e l g : Bool) → (l ≡ true → g ≡ false) → by_tests e g l ≡ turned (by_tests e l g)
    go true l g h = refl
    go false true true h = absurd (false≢true (sym (h refl)))
    go false true false h = refl
    go false false true h = refl
    go false false false h = refl

-- ---- two tests that exclude each other: less, and greater

order_less : (l g : Bool) → is_less (Found (order l g)) ≡ l
order_less true g = refl
order_less false true = refl
order_less false false = refl

order_greater : (l g : Bool) → (l ≡ true → g ≡ false) → is_greater (Found (order l g)) ≡ g
order_greater true g h = sym (h refl)
order_greater false true h = refl
order_greater false false h = refl

order_swapped : (l g : Bool) → (l ≡ true → g ≡ false) → order g l ≡ turned (order l g)
order_swapped true true h = absurd (false≢true (sym (h refl)))
order_swapped true false h = refl
order_swapped false true h = refl
order_swapped false false h = refl

-- neither is left where they are equal
order_equal : (l g : Bool) → order l g ≡ Equal → (l ≡ false) × (g ≡ false)
order_equal true g h = absurd (less_not_equal h)
  where
    less_not_equal : Less ≡ Equal → ⊥
    less_not_equal h = false≢true (sym (ap (λ f. is_less (Found f)) h))
order_equal false true h = absurd (greater_not_equal h)
  where
    greater_not_equal : Greater ≡ Equal → ⊥
    greater_not_equal h = false≢true (sym (ap (λ f. is_greater (Found f)) h))
order_equal false false h = (refl, refl)

-- ---- Integers

integers_apart : (a b : ℤ) → lt_z a b ≡ true → lt_z b a ≡ false
integers_apart (pos a) (pos b) h = below_apart a b h
integers_apart (pos a) (negsuc b) h = absurd (false≢true h)
integers_apart (negsuc a) (pos b) h = refl
integers_apart (negsuc a) (negsuc b) h = below_apart b a h

integers_between : (a b : ℤ) → lt_z a b ≡ false → lt_z b a ≡ false → a ≡ b
integers_between (pos a) (pos b) h k = ap pos (between a b h k)
integers_between (pos a) (negsuc b) h k = absurd (false≢true (sym k))
integers_between (negsuc a) (pos b) h k = absurd (false≢true (sym h))
integers_between (negsuc a) (negsuc b) h k = ap negsuc (between a b k h)

pub less_integers : (a b : ℤ) → is_less (Found (compare_integers a b)) ≡ lt_z a b
unfolding compare_integers
less_integers a b = order_less (lt_z a b) (lt_z b a)

pub greater_integers : (a b : ℤ) → is_greater (Found (compare_integers a b)) ≡ lt_z b a
unfolding compare_integers
greater_integers a b = order_greater (lt_z a b) (lt_z b a) (integers_apart a b)

pub equal_integers : (a b : ℤ) → compare_integers a b ≡ Equal → a ≡ b
unfolding compare_integers
equal_integers a b h = integers_between a b (order_equal (lt_z a b) (lt_z b a) h).0 (order_equal (lt_z a b) (lt_z b a) h).1

pub same_integers : (a : ℤ) → compare_integers a a ≡ Equal
unfolding compare_integers
same_integers (pos n) = ap₂ order (le-ltb n n (omega arith)) (le-ltb n n (omega arith))
same_integers (negsuc n) = ap₂ order (le-ltb n n (omega arith)) (le-ltb n n (omega arith))

pub swapped_integers : (a b : ℤ) → compare_integers b a ≡ turned (compare_integers a b)
unfolding compare_integers
swapped_integers a b = order_swapped (lt_z a b) (lt_z b a) (integers_apart a b)

-- ---- strings

then_swapped : (f g : Finding) → then (turned f) (turned g) ≡ turned (then f g)
then_swapped Less g = refl
then_swapped Equal g = refl
then_swapped Greater g = refl
then_swapped Unordered g = refl
then_swapped NotComparable g = refl

then_equal : (f g : Finding) → then f g ≡ Equal → (f ≡ Equal) × (g ≡ Equal)
then_equal Less g h = absurd (false≢true (sym (ap (λ f. is_less (Found f)) h)))
then_equal Equal g h = (refl, h)
then_equal Greater g h = absurd (false≢true (sym (ap (λ f. is_greater (Found f)) h)))
then_equal Unordered g h = absurd (false≢true (ap (λ f. is_equal (Found f)) h))
then_equal NotComparable g h = absurd (false≢true (ap (λ f. is_equal (Found f)) h))

pub swapped_bytes : (t u : List ℕ) → compare_bytes u t ≡ turned (compare_bytes t u)
unfolding compare_bytes
swapped_bytes [] [] = refl
swapped_bytes [] (y ∷ ys) = refl
swapped_bytes (x ∷ xs) [] = refl
swapped_bytes (x ∷ xs) (y ∷ ys) =
    ap₂ then (order_swapped (ltb x y) (ltb y x) (below_apart x y)) (swapped_bytes xs ys) ∙ then_swapped (order (ltb x y) (ltb y x)) (compare_bytes xs ys)

pub equal_bytes : (t u : List ℕ) → compare_bytes t u ≡ Equal → t ≡ u
unfolding compare_bytes
equal_bytes [] [] h = refl
equal_bytes [] (y ∷ ys) h = absurd (false≢true (sym (ap (λ f. is_less (Found f)) h)))
equal_bytes (x ∷ xs) [] h = absurd (false≢true (sym (ap (λ f. is_greater (Found f)) h)))
equal_bytes (x ∷ xs) (y ∷ ys) h =
    let both = then_equal (order (ltb x y) (ltb y x)) (compare_bytes xs ys) h in
    let neither = order_equal (ltb x y) (ltb y x) both.0 in
    ap₂ ◌∷◌ (between x y neither.0 neither.1) (equal_bytes xs ys both.1)

pub same_bytes : (t : List ℕ) → compare_bytes t t ≡ Equal
unfolding compare_bytes
same_bytes [] = refl
same_bytes (x ∷ xs) = ap₂ then (ap₂ order (le-ltb x x (omega arith)) (le-ltb x x (omega arith))) (same_bytes xs)
