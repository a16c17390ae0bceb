use Prim.Native.Nat.{◌-◌}
use Rattle.conjuncts.proofs.+gather.Given as goal

abbrev pub decreases-gather : goal.decreases-gather
decreases-gather l = l.hi - l.lo
