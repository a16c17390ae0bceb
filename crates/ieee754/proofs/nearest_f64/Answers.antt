use mathlib.Core.Path.{subst}
use lib.IntN.{ℤ}
use mir.Syntax.{w64}
use mir.ValLaws.{to_z-of_z}
use Rattle.ieee754.specs.Ieee754.{Is, of_integer}
use Rattle.ieee754.proofs.Conversion.{rounded_no_nan, converted}
use Rattle.ieee754.proofs.nearest_f64.Goals as goal

-- `ieee754::nearest_f64` meets its contract: the pattern that IEEE 754 asks for is read as the float that the library gives. Assumes nothing.

pub float_from_bits-result : goal.float_from_bits-result
float_from_bits-result c = rounded_no_nan _ _ _ c.nearest_bits.result c.nearest_bits.ensures

pub returns : goal.returns
returns c =
    let i = c.args.i in
    converted i c.nearest_bits.result (subst (λ (z : ℤ). Is (of_integer z) c.nearest_bits.result) (to_z-of_z w64 i c.ranges.i) c.nearest_bits.ensures)
