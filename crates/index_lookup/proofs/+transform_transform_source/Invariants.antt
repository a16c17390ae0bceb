use Prim.Native.Nat.{◌+◌, ◌-◌, ◌*◌}
use Rattle.index_lookup.proofs.+transform_transform_source.Given as goal

abbrev pub decreases-transform : goal.decreases-transform
decreases-transform l = 2 * (l.hi - l.lo)

abbrev pub decreases-transform_source : goal.decreases-transform_source
decreases-transform_source l = 2 * (l.hi - l.lo) + 1
