-- Examples of rounding. `proofs/Examples.antt` proves all of them.
use Rattle.std.specs.Prelude.{Bool, true, false, List, [], ◌∷◌, ℕ, ◌+◌, ◌-◌, ◌*◌, ◌^◌, ℤ, pos, negsuc}
use Rattle.ieee754.specs.Ieee754.{with_sign, infinity, quiet_nan, Is, read, sum, difference, product, quotient, square_root, of_integer}

-- the pattern of a sign, an exponent's field and the digits below the leading one
abbrev pub double : Bool → ℕ → ℕ → ℕ
double s x t = with_sign s (x * 2 ^ 52 + t)

-- an operation, its operands and its result
pub data Example : Type 0 where
  integer : ℤ → ℕ → Example
  plus minus times over : ℕ → ℕ → ℕ → Example
  root : ℕ → ℕ → Example

-- the result is what IEEE 754 asks for
abbrev pub Right : Example → Type 0
Right (integer i r) = Is (of_integer i) r
Right (plus x y r) = Is (sum (read x) (read y)) r
Right (minus x y r) = Is (difference (read x) (read y)) r
Right (times x y r) = Is (product (read x) (read y)) r
Right (over x y r) = Is (quotient (read x) (read y)) r
Right (root x r) = Is (square_root (read x)) r

unfoldable pub examples : List Example
examples =
    -- 2 ^ 53 + 1 and 2 ^ 53 + 3 are ties: they go to 2 ^ 53 and 2 ^ 53 + 4
    integer (pos (2 ^ 53 + 1)) (double false 1076 0)
    ∷ integer (pos (2 ^ 53 + 3)) (double false 1076 2)
    -- the largest and the smallest 64-bit integer
    ∷ integer (pos (2 ^ 63 - 1)) (double false 1086 0)
    ∷ integer (negsuc (2 ^ 63 - 1)) (double true 1086 0)
    ∷ integer (pos 0) (double false 0 0)
    ∷ integer (negsuc 0) (double true 1023 0)
    -- 0.1 + 0.2 is 0.30000000000000004
    ∷ plus (double false 1019 2702159776422298) (double false 1020 2702159776422298) (double false 1021 900719925474100)
    -- the largest finite double and half of its last digit's weight give infinity, and a quarter of it changes nothing
    ∷ plus (double false 2046 (2 ^ 52 - 1)) (double false 1993 0) infinity
    ∷ plus (double false 2046 (2 ^ 52 - 1)) (double false 1992 0) (double false 2046 (2 ^ 52 - 1))
    -- zeros, and infinities
    ∷ plus (double true 0 0) (double false 0 0) (double false 0 0)
    ∷ plus (double true 0 0) (double true 0 0) (double true 0 0)
    ∷ plus (double false 1023 0) (double true 1023 0) (double false 0 0)
    ∷ plus infinity (double true 2047 0) quiet_nan
    -- 0.3 - 0.1 is 0.19999999999999998; 0 - 0 and -0 - 0; infinity less infinity
    ∷ minus (double false 1021 900719925474099) (double false 1019 2702159776422298) (double false 1020 2702159776422297)
    ∷ minus (double false 0 0) (double false 0 0) (double false 0 0)
    ∷ minus (double true 0 0) (double false 0 0) (double true 0 0)
    ∷ minus infinity infinity quiet_nan
    -- 0.1 * 0.1 is 0.010000000000000002; half of the smallest double is a tie to 0, half of three times it one to two units; an overflow; 0 * -1 and 0 * infinity
    ∷ times (double false 1019 2702159776422298) (double false 1019 2702159776422298) (double false 1016 1261007895663740)
    ∷ times (double false 0 1) (double false 1022 0) (double false 0 0)
    ∷ times (double false 0 3) (double false 1022 0) (double false 0 2)
    ∷ times (double false 2046 0) (double true 1024 0) (double true 2047 0)
    ∷ times (double false 0 0) (double true 1023 0) (double true 0 0)
    ∷ times (double false 0 0) infinity quiet_nan
    -- 1 / 3, and halves of the smallest doubles: ties to 0 and to 2 units
    ∷ over (double false 1023 0) (double false 1024 (2 ^ 51)) (double false 1021 1501199875790165)
    ∷ over (double false 0 1) (double false 1024 0) (double false 0 0)
    ∷ over (double false 0 3) (double false 1024 0) (double false 0 2)
    -- 1 / -0.0 and 0 / 0
    ∷ over (double false 1023 0) (double true 0 0) (double true 2047 0)
    ∷ over (double false 0 0) (double false 0 0) quiet_nan
    -- the roots of 4 and of 2, of the numbers just below 1 and just above it, of the smallest and the largest double
    ∷ root 0x4010000000000000 0x4000000000000000
    ∷ root 0x4000000000000000 0x3FF6A09E667F3BCD
    ∷ root 0x3FEFFFFFFFFFFFFF 0x3FEFFFFFFFFFFFFF
    ∷ root 0x3FF0000000000001 0x3FF0000000000000
    ∷ root 1 0x1E60000000000000
    ∷ root 0x7FEFFFFFFFFFFFFF 0x5FEFFFFFFFFFFFFF
    -- of zeros, of -1, of infinities, and of a NaN of another pattern
    ∷ root (double false 0 0) (double false 0 0)
    ∷ root (double true 0 0) (double true 0 0)
    ∷ root (double true 1023 0) quiet_nan
    ∷ root infinity infinity
    ∷ root (double true 2047 0) quiet_nan
    ∷ root (double true 2047 1) quiet_nan
    ∷ []

-- P holds of each
abbrev pub All : (Example → Type 0) → List Example → Type 0
All P [] = Unit {0}
All P (e ∷ l) = P e × All P l
