use Prim.Native.Nat.{◌*◌}
use Rattle.gather.proofs.Laws.{Rest}
use Rattle.gather.proofs.alike.Given as goal

abbrev pub invariant-loop-i : goal.invariant-loop-i
invariant-loop-i l = Rest l.s l.a l.b l.n (l.i * 8)
