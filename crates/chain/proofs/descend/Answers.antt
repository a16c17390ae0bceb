use Rattle.chain.proofs.Chains.{down_next}
use Rattle.chain.proofs.descend.Goals as goal

pub loop-left-preserved : goal.loop-left-preserved
loop-left-preserved c = down_next c.loop-left.invariant c.is_other.ensures c.if-is_other.true c.own_start-end.ensures c.loop-left-test.true
