-- What the conversion of an integer to a double gives.
use Rattle.std.specs.Prelude.{◌≡◌, ℤ, Float}
use Rattle.std.specs.Float.Ieee as Ieee
use Rattle.std.specs.Float.{binary64}
use Rattle.ieee754.specs.Ieee754.{Is, of_integer}

-- x is the double nearest to i. `nearest` says so by whole numbers, of x's pattern; `of_int` says it in the words of the program logic's library, in which
-- the compiler's operators on `f64` are given.
pub record Converted (i : ℤ) (x : Float) : Type 0 where
  pub nearest : Is (of_integer i) (Ieee.to_bits binary64 x)
  pub of_int : x ≡ Ieee.of_int binary64 i
