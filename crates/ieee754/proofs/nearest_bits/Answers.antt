use mathlib.Core.Path.{ap, ◌∙◌}
use mathlib.Core.Bool.{true, false, not}
use Rattle.ieee754.proofs.Sign.{below_zero, from_zero, cast_is, signed_pattern}
use Rattle.ieee754.proofs.nearest_bits.Goals as goal

-- `ieee754::nearest_bits` meets its contract. Assumes nothing.

pub returns-then-i-lt0 : goal.returns-then-i-lt0
returns-then-i-lt0 c =
    let i = c.args.i in
    let h = below_zero i c.ranges.i c.if-i-lt0.true in
    signed_pattern i true c.magnitude.result c.nearest_pattern-p.result (ap not h) (c.magnitude.ensures ∙ cast_is i c.ranges.i) c.nearest_pattern-p.ensures

pub returns : goal.returns
returns c =
    let i = c.args.i in
    let h = from_zero i c.ranges.i c.if-i-lt0.false in
    signed_pattern i false c.magnitude.result c.nearest_pattern-p.result (ap not h) (c.magnitude.ensures ∙ cast_is i c.ranges.i) c.nearest_pattern-p.ensures
