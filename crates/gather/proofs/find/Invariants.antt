use Rattle.gather.proofs.Strings.{Seeking}
use Rattle.gather.specs.Gather.{held, stretch}
use Rattle.gather.proofs.find.Given as goal

abbrev pub invariant-loop-j : goal.invariant-loop-j
invariant-loop-j l = Seeking (held l.s l.kept) (stretch l.s l.at l.n) l.j
