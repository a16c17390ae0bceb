-- The library's orders of two values find what the definitions' comparisons do.
use Prim.Native.Nat.{ℕ, ◌<◌, ◌≤◌}
use mathlib.Core.Path.{◌≡◌, refl, sym, ap, ap₂, ◌∙◌}
use mathlib.Core.Bool.{Bool, true, false, cond, true≢false}
use mathlib.Core.List.{List, [], ◌∷◌}
use native.Mathlib.Omega.{arith}
use lib.Dec.{ltb}
use lib.IntN.{ℤ}
use lib.Ieee as Ieee
use lib.Signed.{lt_z}
use borrow.Author.Tests.{lt-ltb, le-ltb}
use Rattle.std.specs.Prelude.{Option, Some, None}
use Rattle.std.specs.declared.cmp.Ordering.{Ordering}
use Rattle.std.specs.Ordering.{nat_cmp, int_cmp, float_partial_cmp, ordering_then, MatchOrdering}
use Rattle.std.specs.Cmp.{ranks}
use Rattle.std.specs.Cmp.Lexicographic.{slice_cmp}
use Rattle.value.specs.Comparison.{Finding, Less, Equal, Greater, Unordered, order, then, compare_integers, compare_floats, compare_bytes}
use Rattle.value.proofs.Comparison.{lt_not_eq}
use Rattle.comparison.specs.Findings.{ordered}

-- ---- Integers

pub integers_ordered : (a b : ℤ) → ordered (int_cmp a b) ≡ compare_integers a b
unfolding compare_integers
integers_ordered a b = by_tests (lt_z a b) (lt_z b a)
  where
    by_tests : (less more : Bool) → ordered (cond less Ordering.Less (cond more Ordering.Greater Ordering.Equal)) ≡ order less more
    by_tests true more = refl
    by_tests false true = refl
    by_tests false false = refl

-- ---- Floats: the library tests for less first, and the definition for equal

abbrev found : Option Ordering → Finding
found None = Unordered
found (Some o) = ordered o

floats_found : (x y : Ieee.Float) → found (float_partial_cmp x y) ≡ compare_floats x y
unfolding compare_floats
floats_found x y = by_tests (Ieee.lt x y) (Ieee.eq x y) (Ieee.lt y x) (lt_not_eq x y)
  where
    by_tests : (less same more : Bool) → (less ≡ true → same ≡ false)
        → found (cond less (Some Ordering.Less) (cond same (Some Ordering.Equal) (cond more (Some Ordering.Greater) None)))
        ≡ cond same Equal (cond less Less (cond more Greater Unordered))
    by_tests true true more h = absurd (true≢false (h refl))
    by_tests true false more h = refl
    by_tests false true more h = refl
    by_tests false false true h = refl
    by_tests false false false h = refl

pub floats_ordered : (x y : Ieee.Float) (o : Ordering) → float_partial_cmp x y ≡ Some o → ordered o ≡ compare_floats x y
floats_ordered x y o h = sym (ap found h) ∙ floats_found x y

pub floats_unordered : (x y : Ieee.Float) → float_partial_cmp x y ≡ None → Unordered ≡ compare_floats x y
floats_unordered x y h = sym (ap found h) ∙ floats_found x y

-- ---- strings, by their bytes

byte_ordered : (x y : ℕ) → ordered (nat_cmp x y) ≡ order (ltb x y) (ltb y x)
byte_ordered x y = by_rank (nat_cmp x y) (ranks x y)
  where
    by_rank : (o : Ordering) → MatchOrdering o (x < y) (x ≡ y) (y < x) → ordered o ≡ order (ltb x y) (ltb y x)
    by_rank Ordering.Less h = rw (lt-ltb x y h)
    by_rank Ordering.Equal h = let l : y ≤ x = omega arith in let m : x ≤ y = omega arith in rw (le-ltb x y l, le-ltb y x m)
    by_rank Ordering.Greater h = let l : y ≤ x = omega arith in rw (le-ltb x y l, lt-ltb y x h)

ordered_then : (o p : Ordering) → ordered (ordering_then o p) ≡ then (ordered o) (ordered p)
ordered_then Ordering.Less p = refl
ordered_then Ordering.Equal p = refl
ordered_then Ordering.Greater p = refl

pub bytes_ordered : (a b : List ℕ) → ordered (slice_cmp nat_cmp a b) ≡ compare_bytes a b
unfolding compare_bytes
bytes_ordered [] [] = refl
bytes_ordered [] (y ∷ ys) = refl
bytes_ordered (x ∷ xs) [] = refl
bytes_ordered (x ∷ xs) (y ∷ ys) = ordered_then (nat_cmp x y) (slice_cmp nat_cmp xs ys) ∙ ap₂ then (byte_ordered x y) (bytes_ordered xs ys)
