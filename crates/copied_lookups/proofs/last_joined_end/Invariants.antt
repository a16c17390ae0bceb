use Rattle.copied_lookups.proofs.Last.{Searched}
use Rattle.copied_lookups.proofs.last_joined_end.Given as goal

abbrev pub invariant-loop-end : goal.invariant-loop-end
invariant-loop-end l = Searched l.c l.s l.lo l.hi l.at

abbrev pub decreases-loop-end : goal.decreases-loop-end
decreases-loop-end l = l.at
