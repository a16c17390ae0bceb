use Rattle.nodes.proofs.Widths.{Counting}
use Rattle.nodes.proofs.columns.Given as goal

abbrev pub invariant-loop-end : goal.invariant-loop-end
invariant-loop-end l = Counting l.tables l.s l.lo l.hi l.end l.total

abbrev pub decreases-loop-end : goal.decreases-loop-end
decreases-loop-end l = l.end
