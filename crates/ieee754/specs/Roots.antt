-- What the steps of the square root's code take and give.
use Rattle.std.specs.Prelude.{ℕ, suc, ◌^◌, ◌≤◌, ◌<◌}
use Rattle.ieee754.specs.Ieee754.{infinity, square}

-- r is the whole root of n: the largest whole number whose square is at most n
pub record WholeRoot (n r : ℕ) : Type 0 where
  pub low : square r ≤ n
  pub high : n < square (suc r)

-- the 53 digits m and the exponent e of a double above zero, whose root is that of m * 2 ^ e, in units
pub record Digits (m e : ℕ) : Type 0 where
  pub low : 2 ^ 52 ≤ m
  pub high : m < 2 ^ 53
  pub least : 1022 ≤ e
  pub most : e ≤ 3119

-- the pattern of a finite double above zero
pub record Positive (p : ℕ) : Type 0 where
  pub above : 0 < p
  pub below : p < infinity
