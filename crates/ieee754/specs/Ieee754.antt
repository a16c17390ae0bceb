-- IEEE 754's binary64 by whole numbers. Definitions only.
-- A double is its 64-bit pattern: from the top, 1 bit for the sign, 11 for the exponent's field and 52 for the digits below the leading one.
-- Numbers are counted in units of 2 ^ -1074, the smallest positive double. So every finite double is a whole number of units, and no fraction but n / d occurs.
-- Results are rounded to the nearest double, ties to even (the standard's roundTiesToEven). What that means is said by `Nearest`, of fractions, and by
-- `NearestRoot`, of square roots, and nowhere else.
use Rattle.std.specs.Prelude.{◌≡◌, ◌≢◌, Bool, true, false, not, ◌&&◌, ◌||◌, cond, ℕ, zero, suc, ◌+◌, ◌-◌, ◌*◌, ◌/◌, ◌%◌, ◌^◌, ◌≤◌, ◌<◌, ℤ, pos, negsuc, neg_ℤ, nat_abs, ◌+ℤ◌, ltb, leb, eqb}
use Rattle.std.specs.Bool.{beq}
use Rattle.std.specs.Int.Signed.{lt_z, non_neg}

-- ---- patterns without a sign

-- Infinity's pattern: the exponent's field is all ones and the digits are 0. The patterns below it are finite, those above it are NaNs.
abbrev pub infinity : ℕ
infinity = 2047 * 2 ^ 52

-- how many units the number 1 has
abbrev pub one : ℕ
one = 2 ^ 1074

-- How many units an exponent's field and the digits t stand for. A field of 0 has no leading digit: zero, and the subnormal numbers.
abbrev pub double_of_fields : ℕ → ℕ → ℕ
double_of_fields zero t = t
double_of_fields (suc x) t = (2 ^ 52 + t) * 2 ^ x

-- How many units a pattern stands for. Infinity's counts as 2 ^ 1024, the number that would follow the largest finite double if the exponent's range
-- went on: so `Nearest` rounds to infinity exactly where the standard does, from halfway between these two.
unfoldable pub units : ℕ → ℕ
units p = double_of_fields (p / 2 ^ 52) (p % 2 ^ 52)

-- |a - b|
abbrev pub distance : ℕ → ℕ → ℕ
distance a b = a - b + (b - a)

-- The pattern p is the double nearest to n / d units, for a d above 0; of two that are as near it is the one whose last digit is even.
-- The distances |n / d - units p| are compared d times as large. A significand's last digit is its pattern's last bit.
pub record Nearest (n d p : ℕ) : Type 0 where
  pub in_range : p ≤ infinity
  pub nearest : (q : ℕ) → q ≤ infinity → distance n (units p * d) ≤ distance n (units q * d)
  pub ties : (q : ℕ) → q ≤ infinity → q ≢ p → distance n (units q * d) ≡ distance n (units p * d) → p % 2 ≡ 0

abbrev pub square : ℕ → ℕ
square a = a * a

-- The pattern p is the double nearest to the square root of n, in units; of two that are as near it is the one whose last digit is even.
-- A root's digits need not end, so not the root is compared but squares of whole numbers: the middle of two doubles of u and v units is (u + v) / 2, and the
-- root of n is at least that where (u + v) ^ 2 is at most 4 n.
pub record NearestRoot (n p : ℕ) : Type 0 where
  pub in_range : p ≤ infinity
  -- the root isn't below the middle of p and a smaller double
  pub low : (q : ℕ) → q < p → square (units q + units p) ≤ 4 * n
  -- nor above that of p and a larger one
  pub high : (q : ℕ) → p < q → q ≤ infinity → 4 * n ≤ square (units p + units q)
  pub ties : (q : ℕ) → q ≤ infinity → q ≢ p → square (units p + units q) ≡ 4 * n → p % 2 ≡ 0

-- The same worked out, from p's highest bit down: p is the largest pattern for which the middle of p and the pattern before it is at most the root.
-- The root of a double is never in such a middle itself (proofs/Agreement.antt: `never_a_tie`), so ties are no matter here.
abbrev pub reached : ℕ → ℕ → Bool
reached n p = leb (square (units (p - 1) + units p)) (4 * n)

-- the pattern of n's root, of which the highest bits are found, p, and the lowest i are left
unfoldable pub root_bits : ℕ → ℕ → ℕ → ℕ
root_bits n zero p = p
root_bits n (suc i) p = root_bits n i (cond (reached n (p + 2 ^ i)) (p + 2 ^ i) p)

abbrev pub nearest_root : ℕ → ℕ
nearest_root n = root_bits n 63 0

-- ---- doubles

-- a sign, true for negative, and the pattern below it
abbrev pub with_sign : Bool → ℕ → ℕ
with_sign false p = p
with_sign true p = 2 ^ 63 + p

abbrev pub negative : ℕ → Bool
negative b = leb (2 ^ 63) b

abbrev pub without_sign : ℕ → ℕ
without_sign b = b % 2 ^ 63

-- What a pattern stands for: a NaN, an infinity with its sign, or a sign and a number of units. Zero has a sign.
pub data Double : Type 0 where
  nan : Double
  infinite : Bool → Double
  finite : Bool → ℕ → Double

unfoldable pub read : ℕ → Double
read b =
    cond (ltb infinity (without_sign b)) nan
    (cond (eqb (without_sign b) infinity) (infinite (negative b)) (finite (negative b) (units (without_sign b))))

-- ---- what an operation has to give

-- The double with the pattern r; or the one with the sign s that is nearest to n / d units, for a d above 0; or the one that is nearest to the root of n, in units.
pub data Result : Type 0 where
  exactly : (r : ℕ) → Result
  rounded : (s : Bool) (n d : ℕ) → Result
  root_of : (n : ℕ) → Result

-- r is the double with the sign s that is nearest to n / d units
pub record Rounded (s : Bool) (n d r : ℕ) : Type 0 where
  pub pattern : ℕ
  pub nearest : Nearest n d pattern
  pub signed : r ≡ with_sign s pattern

-- the double r is what has to be given
abbrev pub Is : Result → ℕ → Type 0
Is (exactly p) r = r ≡ p
Is (rounded s n d) r = Rounded s n d r
Is (root_of n) r = NearestRoot n r

-- The one NaN that is written: the sign is clear, and of the digits only the highest is set. In hexadecimal it is 7FF8000000000000.
abbrev pub quiet_nan : ℕ
quiet_nan = infinity + 2 ^ 51

abbrev pub no_number : Result
no_number = exactly quiet_nan

abbrev pub infinite_with : Bool → Result
infinite_with s = exactly (with_sign s infinity)

-- ---- the operations

-- a sign and a magnitude as an integer
abbrev pub value : Bool → ℕ → ℤ
value false u = pos u
value true u = neg_ℤ (pos u)

-- the sign of a product or a quotient: negative if the two signs differ
abbrev pub unlike : Bool → Bool → Bool
unlike s t = not (beq s t)

-- The exact sum z, rounded, of two finite doubles with the signs s and t. A sum that is exactly zero is -0 if both are negative, otherwise +0.
abbrev pub sum_of : Bool → Bool → ℤ → Result
sum_of s t z = rounded (not (non_neg z) || (s && t)) (nat_abs z) 1

abbrev pub sum : Double → Double → Result
sum nan y = no_number
sum (infinite s) nan = no_number
sum (infinite s) (infinite t) = cond (beq s t) (infinite_with s) no_number
sum (infinite s) (finite t v) = infinite_with s
sum (finite s u) nan = no_number
sum (finite s u) (infinite t) = infinite_with t
sum (finite s u) (finite t v) = sum_of s t (value s u +ℤ value t v)

-- the other sign, of a zero too
abbrev pub opposite : Double → Double
opposite nan = nan
opposite (infinite s) = infinite (not s)
opposite (finite s u) = finite (not s) u

-- x - y is x + (-y)
abbrev pub difference : Double → Double → Result
difference x y = sum x (opposite y)

-- an infinity times u units: a NaN for zero
abbrev pub infinite_times : Bool → ℕ → Result
infinite_times s zero = no_number
infinite_times s (suc u) = infinite_with s

-- u units times v units is u * v / 2 ^ 1074 units
abbrev pub product : Double → Double → Result
product nan y = no_number
product (infinite s) nan = no_number
product (infinite s) (infinite t) = infinite_with (unlike s t)
product (infinite s) (finite t v) = infinite_times (unlike s t) v
product (finite s u) nan = no_number
product (finite s u) (infinite t) = infinite_times (unlike s t) u
product (finite s u) (finite t v) = rounded (unlike s t) (u * v) one

-- u units over v units is the number u / v, which is u * 2 ^ 1074 / v units. Zero over zero is a NaN, any other number over zero an infinity.
abbrev pub quotient_of : Bool → ℕ → ℕ → Result
quotient_of s zero zero = no_number
quotient_of s (suc u) zero = infinite_with s
quotient_of s u (suc v) = rounded s (u * one) (suc v)

abbrev pub quotient : Double → Double → Result
quotient nan y = no_number
quotient (infinite s) nan = no_number
quotient (infinite s) (infinite t) = no_number
quotient (infinite s) (finite t v) = infinite_with (unlike s t)
quotient (finite s u) nan = no_number
quotient (finite s u) (infinite t) = exactly (with_sign (unlike s t) 0)
quotient (finite s u) (finite t v) = quotient_of (unlike s t) u v

-- The root of u units is that of u * 2 ^ 1074, in units. A zero keeps its sign, and any other number below zero has no root.
-- `answer` is what is made of one pattern, and `root` of the root of n, in units.
abbrev pub square_root_by : {A : Type 0} → (answer root : ℕ → A) → Double → A
square_root_by answer root nan = answer quiet_nan
square_root_by answer root (infinite false) = answer infinity
square_root_by answer root (infinite true) = answer quiet_nan
square_root_by answer root (finite s zero) = answer (with_sign s 0)
square_root_by answer root (finite false (suc u)) = root (suc u * one)
square_root_by answer root (finite true (suc u)) = answer quiet_nan

-- what is asked for
abbrev pub square_root : Double → Result
square_root = square_root_by exactly root_of

-- the same worked out, from pattern to pattern
abbrev pub square_root_bits : ℕ → ℕ
square_root_bits b = square_root_by (λ p. p) nearest_root (read b)

-- The other sign, of a zero too. It rounds nothing, so it goes from pattern to pattern. A NaN gives the one pattern, as document 01 asks; IEEE 754 would turn its
-- sign's bit alone.
abbrev pub negation : ℕ → Result
negation b = cond (ltb infinity (without_sign b)) no_number (exactly (with_sign (not (negative b)) (without_sign b)))

-- an integer; 0 gives +0
abbrev pub of_integer : ℤ → Result
of_integer i = rounded (not (non_neg i)) (nat_abs i * one) 1

-- ---- comparisons: false where one side is a NaN, and -0 equals +0

abbrev pub less : Double → Double → Bool
less nan y = false
less (infinite s) nan = false
less (infinite s) (infinite t) = s && not t
less (infinite s) (finite t v) = s
less (finite s u) nan = false
less (finite s u) (infinite t) = not t
less (finite s u) (finite t v) = lt_z (value s u) (value t v)

abbrev pub same_integer : ℤ → ℤ → Bool
same_integer (pos a) (pos b) = eqb a b
same_integer (pos a) (negsuc b) = false
same_integer (negsuc a) (pos b) = false
same_integer (negsuc a) (negsuc b) = eqb a b

abbrev pub equal : Double → Double → Bool
equal nan y = false
equal (infinite s) nan = false
equal (infinite s) (infinite t) = beq s t
equal (infinite s) (finite t v) = false
equal (finite s u) nan = false
equal (finite s u) (infinite t) = false
equal (finite s u) (finite t v) = same_integer (value s u) (value t v)
