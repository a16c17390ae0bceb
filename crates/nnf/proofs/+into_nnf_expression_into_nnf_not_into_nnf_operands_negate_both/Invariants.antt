use Prim.Native.Nat.{◌+◌, ◌*◌}
use lib.ListN.{length}
use Rattle.nnf.proofs.+into_nnf_expression_into_nnf_not_into_nnf_operands_negate_both.Given as goal

abbrev pub decreases-into_nnf_expression : goal.decreases-into_nnf_expression
decreases-into_nnf_expression l = 2 * length l.e.words.now + 1

abbrev pub decreases-into_nnf_not : goal.decreases-into_nnf_not
decreases-into_nnf_not l = 2 * length l.e.words.now + 1

abbrev pub decreases-into_nnf_operands : goal.decreases-into_nnf_operands
decreases-into_nnf_operands l = 2 * length l.e.words.now

abbrev pub decreases-negate_both : goal.decreases-negate_both
decreases-negate_both l = 2 * length l.e.words.now
