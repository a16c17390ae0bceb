use Rattle.chain.proofs.Resizing.{none_done, next_done, all_done}
use Prim.Native.Nat.{◌-◌}
use native.Mathlib.Omega.{arith}
use mathlib.Core.Path.{refl}
use lib.ListN.{length-set}
use Rattle.chain.proofs.reseal.Goals as goal

pub loop-at-init : goal.loop-at-init
loop-at-init c = (c.requires.0, (omega (arith, c.requires.1.0), (refl, none_done c.args.x.now c.args.lo c.args.from (c.args.t - c.args.tail))))

pub loop-at-preserved : goal.loop-at-preserved
loop-at-preserved c = (omega (arith, c.loop-at.invariant.0), (omega (arith, c.loop-at-test.true), (simp length-set c.loop-at.invariant.1.1.0, next_done c.args.x.now c.loop-at.x c.args.lo c.args.from (c.args.t - c.args.tail) c.loop-at.at c.size.result c.loop-at.invariant.0 c.loop-at-test.true c.size.ensures c.loop-at.invariant.1.1.1)))

pub returns : goal.returns
returns c = all_done c.args.x.now c.loop-at.x c.args.t c.args.lo c.args.from c.args.tail c.loop-at.at (omega (arith, c.loop-at-test.false)) c.loop-at.invariant.1.1.1
