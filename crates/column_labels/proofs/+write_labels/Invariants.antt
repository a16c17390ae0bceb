use Prim.Native.Nat.{◌-◌}
use Rattle.column_labels.proofs.+write_labels.Given as goal

abbrev pub decreases-write_labels : goal.decreases-write_labels
decreases-write_labels l = l.hi - l.lo
