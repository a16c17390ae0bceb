use Prim.Native.Nat.{◌-◌}
use Rattle.copied_lookups.proofs.+copy_each.Given as goal

abbrev pub decreases-copy_each : goal.decreases-copy_each
decreases-copy_each l = l.hi - l.lo
