use Rattle.layout.specs.Layout.{as_cell}
use Rattle.decode.proofs.Trees.{leaf_trees, two_trees, one_tree, parts_said, no_trees, nodes_said, past_trees}
use native.Mathlib.Omega.{arith}
use Rattle.decode.proofs.trees_of.Goals as goal

pub returns-in-10-to-29 : goal.returns-in-10-to-29
returns-in-10-to-29 c = two_trees (as_cell c.args.k) (omega arith) (omega arith)

pub returns-in-30-to-39 : goal.returns-in-30-to-39
returns-in-30-to-39 c = one_tree (as_cell c.args.k) (omega arith) (omega arith) (omega arith)

pub returns-in-40-to-45 : goal.returns-in-40-to-45
returns-in-40-to-45 c = parts_said (as_cell c.args.k) (omega arith) (omega arith) (omega arith) (omega arith) c.trees_of_part.ensures

pub returns-in-50-to-63 : goal.returns-in-50-to-63
returns-in-50-to-63 c = nodes_said (as_cell c.args.k) (omega arith) (omega arith) (omega arith) (omega arith) (omega arith) c.trees_of_node.ensures

pub returns-in_default : goal.returns-in_default
returns-in_default c = leaf_trees (as_cell c.args.k) (omega arith)

pub returns-in_default-2 : goal.returns-in_default-2
returns-in_default-2 c = no_trees (as_cell c.args.k) (omega arith) (omega arith) (omega arith) (omega arith) (omega arith)

pub returns-in_default-3 : goal.returns-in_default-3
returns-in_default-3 c = past_trees (as_cell c.args.k) (omega arith) (omega arith) (omega arith) (omega arith) (omega arith)
