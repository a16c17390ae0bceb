use native.Mathlib.Omega.{arith}
use mathlib.Core.Path.{◌∙◌}
use lib.ListN.{length-set}
use Rattle.gather.proofs.Strings.{going_on, going_over, gathered_not}
use Rattle.gather.proofs.gather.Goals as goal

pub returns-in_err-next : goal.returns-in_err-next
returns-in_err-next c =
    gathered_not c.args.s.now c.args.refs.now c.place.new.kept c.loop-i.fresh c.from_residual.result c.from_residual.ensures.0
    (going_over c.args.s.now c.args.refs.now c.loop-i.kept c.loop-i.fresh c.loop-i.total c.loop-i.i c.loop-i.invariant.1.1 c.loop-i-test.true c.in_err-next.ensures)

pub loop-i-preserved : goal.loop-i-preserved
loop-i-preserved c = (c.place.auto.kept ∙ c.loop-i.invariant.0, (simp length-set c.loop-i.invariant.1.0, going_on c.args.s.now c.args.refs.now c.loop-i.kept c.loop-i.fresh c.loop-i.total c.loop-i.i c.loop-i.invariant.1.1 c.loop-i-test.true c.place.new.kept c.in_ok-next.next c.in_ok-next.reference (omega (arith, c.loop-i.invariant.1.0, c.requires.room.1)) c.in_ok-next.ensures))
