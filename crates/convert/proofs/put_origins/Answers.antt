use Rattle.convert.proofs.Laws.{origin_small, going_start, going_on, going_done}
use Rattle.convert.specs.Convert.{origin_in}
use native.Mathlib.Omega.{arith}
use mathlib.Core.Path.{refl, ◌∙◌}
use Rattle.convert.proofs.put_origins.Goals as goal

pub loop-i-init : goal.loop-i-init
loop-i-init c = (refl, going_start (origin_in c.args.target) c.args.at c.args.cells c.args.out.now)

pub put_origin-requires : goal.put_origin-requires
put_origin-requires c = (omega (arith, c.origin_in.ensures, origin_small c.args.target c.loop-i.i (omega arith)), omega (arith, c.loop-i.invariant.0))

pub loop-i-preserved : goal.loop-i-preserved
loop-i-preserved c = (c.put_origin.auto.out ∙ c.loop-i.invariant.0, going_on (origin_in c.args.target) c.args.at c.args.cells c.args.out.now c.loop-i.out _ c.loop-i.i _ c.loop-i.invariant.1 (omega arith) c.origin_in.ensures c.put_origin.ensures)

pub shape_of-out : goal.shape_of-out
shape_of-out c = c.loop-i.invariant.0

pub returns : goal.returns
returns c = going_done (origin_in c.args.target) c.args.at c.args.cells c.args.out.now c.loop-i.out c.loop-i.i c.loop-i.invariant.1 (omega arith)
