use Prim.Native.Nat.{◌-◌}
use Rattle.copied_lookups.proofs.+last_end.Given as goal

abbrev pub decreases-last_end : goal.decreases-last_end
decreases-last_end l = l.hi - l.lo
