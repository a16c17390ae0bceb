use Rattle.listing.proofs.Counted.{Counted}
use Rattle.listing.proofs.kinds_of.Given as goal

abbrev pub invariant-loop-i : goal.invariant-loop-i
invariant-loop-i l = Counted l.s l.i l.k
