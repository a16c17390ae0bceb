use Rattle.structure.proofs.Stack.{Taking}
use Rattle.structure.proofs.taken.Given as goal

abbrev pub invariant-loop-i : goal.invariant-loop-i
invariant-loop-i l = Taking l.stack l.want l.low l.i
