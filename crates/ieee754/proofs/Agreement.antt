-- What the compiler's operators on `f64` mean is what IEEE 754 asks for, at every pattern.
-- The program logic has `+`, `-`, `*`, `/`, `==`, `<`, `-x` and the conversion of an integer as `add`, `sub`, `mul`, `div`, `eq`, `lt`, `neg` and `of_int` of its library `lib.Ieee`, whose `of_bits` and `to_bits`
-- read and write patterns. Each theorem says that the library's operation, from pattern to pattern, gives what `Ieee754` asks for. The library has no square root, so
-- that is worked out by `Ieee754` itself. Assumes nothing.
use mathlib.Core.Path.{◌≡◌, ◌∙◌}
use mathlib.Core.Bool.{Bool, false}
use mathlib.Core.Logic.{◌≢◌, ◌↔◌}
use Prim.Native.Nat.{ℕ, suc, ◌+◌, ◌*◌, ◌^◌, ◌≤◌, ◌<◌}
use native.Mathlib.Nat.{mul-pos, mul_assoc, mul_right_comm}
use lib.IntN.{ℤ}
use lib.Pow.{pow_pos}
use lib.Ieee as Ieee
use lib.Ieee.{binary64, of_bits, to_bits}
use Rattle.ieee754.specs.Ieee754.{one, Nearest, Rounded, Is, Double, read, sum, difference, product, quotient, square_root, square_root_bits, nearest_root, NearestRoot, units, square, infinity, negation, of_integer, less, equal}
use Rattle.ieee754.proofs.Nearest as nearest
use Rattle.ieee754.proofs.Reading.{reads}
use Rattle.ieee754.proofs.Rounding as rounding
use Rattle.ieee754.proofs.Conversion as conversion
use Rattle.ieee754.proofs.Operations.{sum_law, difference_law, product_law, quotient_law}
use Rattle.ieee754.specs.Roots.{Positive}
use Rattle.ieee754.proofs.SquareRoot as roots
use Rattle.ieee754.proofs.Comparisons.{less_law, equal_law}
use Rattle.ieee754.proofs.Negation.{negation_law}

-- ---- a fraction of units has exactly one nearest double

pub nearest_unique : (n d p q : ℕ) → 0 < d → Nearest n d p → Nearest n d q → p ≡ q
nearest_unique n d p q D a b = nearest.nearest_unique n d p q D a b

pub nearest_exists : (n d : ℕ) → 0 < d → (p : ℕ) × Nearest n d p
nearest_exists n d D =
    let r = rounding.round_nearest n (d * one) (mul-pos D (pow_pos 1074)) false in
    (r.pattern, nearest.nearest_same (n * one) (d * one) n d (mul-pos D (pow_pos 1074)) D (mul_right_comm n one d ∙ mul_assoc n d one) r.nearest)

-- ---- the operations

-- the rounding that every inexact operation of the library ends with: num / den is num * 2 ^ 1074 / den units
pub round_is_nearest : (s : Bool) (num den : ℕ) → 0 < den → Rounded s (num * one) den (to_bits binary64 (Ieee.round binary64 s num den))
round_is_nearest s num den D = rounding.round_nearest num den D s

pub add_is_sum : (x y : ℕ) → Is (sum (read x) (read y)) (to_bits binary64 (Ieee.add binary64 (of_bits binary64 x) (of_bits binary64 y)))
add_is_sum x y = sum_law (reads x) (reads y)

pub sub_is_difference : (x y : ℕ) → Is (difference (read x) (read y)) (to_bits binary64 (Ieee.sub binary64 (of_bits binary64 x) (of_bits binary64 y)))
sub_is_difference x y = difference_law (reads x) (reads y)

pub mul_is_product : (x y : ℕ) → Is (product (read x) (read y)) (to_bits binary64 (Ieee.mul binary64 (of_bits binary64 x) (of_bits binary64 y)))
mul_is_product x y = product_law (reads x) (reads y)

pub div_is_quotient : (x y : ℕ) → Is (quotient (read x) (read y)) (to_bits binary64 (Ieee.div binary64 (of_bits binary64 x) (of_bits binary64 y)))
div_is_quotient x y = quotient_law (reads x) (reads y)

pub square_root_is_asked : (x : ℕ) → Is (square_root (read x)) (square_root_bits x)
square_root_is_asked x = roots.square_root_law x

pub square_root_unique : (d : Double) (p q : ℕ) → Is (square_root d) p → Is (square_root d) q → p ≡ q
square_root_unique d p q a b = roots.square_root_unique d p q a b

-- the root of a double above zero is never in the middle of two doubles that follow each other; so it never ties
pub never_a_tie : {p : ℕ} → Positive p → (q : ℕ) → square (units q + units (suc q)) ≢ 4 * (units p * one)
never_a_tie h q = roots.never_a_tie h q

-- nor is it subnormal, or infinite
pub root_normal : {p : ℕ} → Positive p → (2 ^ 52 ≤ nearest_root (units p * one)) × (nearest_root (units p * one) < infinity)
root_normal h = (roots.never_subnormal h, roots.never_infinite h)

-- the nearest double to the root of a square is the nearest to that number, in the sense of every other operation
pub root_of_square : (n p : ℕ) → NearestRoot (n * n) p ↔ Nearest n 1 p
root_of_square n p = (roots.root_of_square n p, roots.square_of_root n p)

pub neg_is_negation : (x : ℕ) → Is (negation x) (to_bits binary64 (Ieee.neg (of_bits binary64 x)))
neg_is_negation x = negation_law x

pub ofInt_is_integer : (i : ℤ) → Is (of_integer i) (to_bits binary64 (Ieee.of_int binary64 i))
ofInt_is_integer i = conversion.integer i

pub lt_is_less : (x y : ℕ) → Ieee.lt (of_bits binary64 x) (of_bits binary64 y) ≡ less (read x) (read y)
lt_is_less x y = less_law (reads x) (reads y)

pub eq_is_equal : (x y : ℕ) → Ieee.eq (of_bits binary64 x) (of_bits binary64 y) ≡ equal (read x) (read y)
eq_is_equal x y = equal_law (reads x) (reads y)
