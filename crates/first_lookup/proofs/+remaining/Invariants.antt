use Prim.Native.Nat.{◌-◌}
use Rattle.first_lookup.proofs.+remaining.Given as goal

abbrev pub decreases-remaining : goal.decreases-remaining
decreases-remaining l = l.hi - l.lo
