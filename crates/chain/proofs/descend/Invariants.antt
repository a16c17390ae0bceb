use Rattle.chain.proofs.Chains.{Passes}
use Rattle.chain.proofs.descend.Given as goal

abbrev pub invariant-loop-left : goal.invariant-loop-left
invariant-loop-left l = Passes l.s l.n l.lo l.hi l.left l.end

abbrev pub decreases-loop-left : goal.decreases-loop-left
decreases-loop-left l = l.left
