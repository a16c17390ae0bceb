use Prim.Native.Nat.{◌+◌, ◌-◌, ◌*◌}
use Rattle.folding.proofs.+fold_expression_fold_operand_fold_right.Given as goal

abbrev pub decreases-fold_expression : goal.decreases-fold_expression
decreases-fold_expression l = 2 * (l.hi - l.lo) + 1

abbrev pub decreases-fold_operand : goal.decreases-fold_operand
decreases-fold_operand l = 2 * (l.hi - l.lo) + 2

abbrev pub decreases-fold_right : goal.decreases-fold_right
decreases-fold_right l = 2 * (l.hi - l.lo)
