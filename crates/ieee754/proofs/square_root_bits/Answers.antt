use mathlib.Core.Path.{◌∙◌}
use Rattle.ieee754.proofs.SquareRoot.{at_nan, at_zero, at_negative, at_infinity, positive, at_positive}
use Rattle.ieee754.proofs.square_root_bits.Goals as goal

-- `ieee754::square_root_bits` meets its contract, case by case. Assumes nothing.

pub returns-then-p-gt-INFINITY : goal.returns-then-p-gt-INFINITY
returns-then-p-gt-INFINITY c = at_nan c.args.b c.if-p-gt-INFINITY.true

pub returns-then-p-eq0 : goal.returns-then-p-eq0
returns-then-p-eq0 c = at_zero c.args.b c.ranges.b.fits c.if-p-eq0.true

pub returns-then-b-ge-SIGN : goal.returns-then-b-ge-SIGN
returns-then-b-ge-SIGN c = at_negative c.args.b c.if-p-gt-INFINITY.false c.if-p-eq0.false c.if-b-ge-SIGN.true

pub returns-then-p-eq-INFINITY : goal.returns-then-p-eq-INFINITY
returns-then-p-eq-INFINITY c = at_infinity c.args.b c.if-b-ge-SIGN.false c.if-p-eq-INFINITY.true

pub positive_root-requires : goal.positive_root-requires
positive_root-requires c = positive c.args.b c.if-p-gt-INFINITY.false c.if-p-eq0.false c.if-p-eq-INFINITY.false

pub returns : goal.returns
returns c = c.positive_root.ensures ∙ at_positive c.args.b c.if-b-ge-SIGN.false (positive c.args.b c.if-p-gt-INFINITY.false c.if-p-eq0.false c.if-p-eq-INFINITY.false)
