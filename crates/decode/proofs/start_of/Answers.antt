-- `decode::start_of` meets its contract: two trees, or one, are stepped over as the definition steps over them. Assumes nothing.
use Rattle.decode.proofs.Laws.{last_trees, start_said, leaf_start, right_sized, left_sized, two_start, operand_sized, one_start}
use native.Mathlib.Omega.{arith}
use Rattle.decode.proofs.start_of.Goals as goal

pub start-mid-requires : goal.start-mid-requires
start-mid-requires c = right_sized c.requires (omega arith) (omega arith)

pub start-requires : goal.start-requires
start-requires c = left_sized c.requires (omega arith) (omega arith) c.start-mid.ensures

pub trees_start-requires : goal.trees_start-requires
trees_start-requires c = last_trees c.requires c.trees_of.ensures

pub start-requires-in-30-to-39 : goal.start-requires-in-30-to-39
start-requires-in-30-to-39 c = operand_sized c.requires (omega arith) (omega arith) (omega arith)

pub returns-in-0-to-9 : goal.returns-in-0-to-9
returns-in-0-to-9 c = leaf_start c.requires (omega arith)

pub returns-in-10-to-29 : goal.returns-in-10-to-29
returns-in-10-to-29 c = two_start c.requires (omega arith) (omega arith) c.start-mid.ensures c.start.ensures

pub returns-in-30-to-39 : goal.returns-in-30-to-39
returns-in-30-to-39 c = one_start c.requires (omega arith) (omega arith) (omega arith) c.start-in-30-to-39.ensures

pub returns-in_default : goal.returns-in_default
returns-in_default c = start_said c.requires c.trees_of.ensures c.trees_start.ensures
