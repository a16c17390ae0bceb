use Prim.Native.Nat.{◌+◌, ◌-◌, ◌*◌}
use Rattle.constant_folding.proofs.+fold_node_fold_source.Given as goal

abbrev pub decreases-fold_node : goal.decreases-fold_node
decreases-fold_node l = 2 * (l.hi - l.lo)

abbrev pub decreases-fold_source : goal.decreases-fold_source
decreases-fold_source l = 2 * (l.hi - l.lo) + 1
