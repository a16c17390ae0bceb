use Prim.Native.Nat.{◌+◌, ◌*◌}
use lib.ListN.{length}
use Rattle.cnf.proofs.+distribute_expression_distribute_operands_or_both_or_right.Given as goal

abbrev pub decreases-distribute_expression : goal.decreases-distribute_expression
decreases-distribute_expression l = 3 * length l.e.words.now + 1

abbrev pub decreases-distribute_operands : goal.decreases-distribute_operands
decreases-distribute_operands l = 3 * length l.e.words.now

abbrev pub decreases-or_both : goal.decreases-or_both
decreases-or_both l = 3 * (length l.left.words.now + length l.right.words.now) + 2

abbrev pub decreases-or_right : goal.decreases-or_right
decreases-or_right l = 3 * (length l.left.words.now + length l.right.words.now) + 1
