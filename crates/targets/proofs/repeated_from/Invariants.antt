use Rattle.targets.proofs.Steps.{Walked}
use Rattle.targets.proofs.repeated_from.Given as goal

abbrev pub invariant-loop-i : goal.invariant-loop-i
invariant-loop-i l = Walked l.s l.last l.own l.i
