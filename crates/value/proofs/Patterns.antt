-- The library's casts between an Integer and its 64 bits are those of the definitions.
use Prim.Native.Nat.{ℕ, suc, ◌-◌}
use mathlib.Core.Path.{◌≡◌, refl, ap}
use mathlib.Core.Bool.{Bool, true, false, cond}
use native.Mathlib.Omega.{arith}
use lib.Dec.{ltb}
use lib.IntN.{ℤ, pos, negsuc}
use mir.Syntax.{w64}
use mir.Val.{of_z, to_z, sel}
use Rattle.value.specs.Meaning.{integer_bits, integer_of_bits}

complement : (n : ℕ) → 18446744073709551616 - suc n ≡ 18446744073709551615 - n
complement n = omega arith

pub two_complement : (i : ℤ) → of_z w64 i ≡ integer_bits i
unfolding integer_bits
two_complement (pos n) = refl
two_complement (negsuc n) = complement n

pub signed : (n : ℕ) → to_z w64 n ≡ integer_of_bits n
unfolding integer_of_bits
signed n = by_sign (ltb n 9223372036854775808)
  where
    by_sign : (b : Bool) → sel b (pos n) (negsuc (18446744073709551616 - suc n)) ≡ cond b (pos n) (negsuc (18446744073709551615 - n))
    by_sign true = refl
    by_sign false = ap negsuc (complement n)
