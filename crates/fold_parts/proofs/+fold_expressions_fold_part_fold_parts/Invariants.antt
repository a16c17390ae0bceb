use Prim.Native.Nat.{◌+◌, ◌-◌, ◌*◌}
use Rattle.fold_parts.proofs.+fold_expressions_fold_part_fold_parts.Given as goal

abbrev pub decreases-fold_expressions : goal.decreases-fold_expressions
decreases-fold_expressions l = 2 * (l.end - l.lo) + 2

abbrev pub decreases-fold_part : goal.decreases-fold_part
decreases-fold_part l = 2 * (l.hi - l.lo)

abbrev pub decreases-fold_parts : goal.decreases-fold_parts
decreases-fold_parts l = 2 * (l.hi - l.lo) + 1
