use Rattle.ieee754.proofs.WholeRoot.{Turn}
use Rattle.ieee754.proofs.whole_root.Given as goal

abbrev pub invariant-loop : goal.invariant-loop
invariant-loop l = Turn l.m l.root l.rest l.digits l.counter
