use Rattle.chain.specs.Chain.{Bare}
use Rattle.chain.proofs.descend_bare.Given as goal

abbrev pub invariant-loop-end : goal.invariant-loop-end
invariant-loop-end l = Bare l.s l.lo l.hi l.end

abbrev pub decreases-loop-end : goal.decreases-loop-end
decreases-loop-end l = l.end
