use Rattle.targets.specs.Targets.{Untargeted}
use Rattle.targets.proofs.target_repeated.Given as goal

abbrev pub invariant-loop-i : goal.invariant-loop-i
invariant-loop-i l = Untargeted l.s l.i
