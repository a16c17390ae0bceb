use Rattle.layout.specs.Layout.{as_cell}
use Rattle.decode.specs.Decode.{node_trees}
use Rattle.decode.proofs.Trees.{said_at}
use native.Mathlib.Omega.{arith}
use mathlib.Core.Path.{refl}
use Rattle.decode.proofs.trees_of_node.Goals as goal

pub returns-in-50 : goal.returns-in-50
returns-in-50 c = said_at 50 (node_trees (as_cell c.args.k)) 50 c.args.k.tag (omega arith) refl

pub returns-in-51 : goal.returns-in-51
returns-in-51 c = said_at 51 (node_trees (as_cell c.args.k)) 50 c.args.k.tag (omega arith) refl

pub returns-in-52 : goal.returns-in-52
returns-in-52 c = said_at 52 (node_trees (as_cell c.args.k)) 50 c.args.k.tag (omega arith) refl

pub returns-in-53 : goal.returns-in-53
returns-in-53 c = said_at 53 (node_trees (as_cell c.args.k)) 50 c.args.k.tag (omega arith) refl

pub returns-in-54 : goal.returns-in-54
returns-in-54 c = said_at 54 (node_trees (as_cell c.args.k)) 50 c.args.k.tag (omega arith) refl

pub returns-in-55 : goal.returns-in-55
returns-in-55 c = said_at 55 (node_trees (as_cell c.args.k)) 50 c.args.k.tag (omega arith) refl

pub returns-in-56 : goal.returns-in-56
returns-in-56 c = said_at 56 (node_trees (as_cell c.args.k)) 50 c.args.k.tag (omega arith) refl

pub returns-in-57 : goal.returns-in-57
returns-in-57 c = said_at 57 (node_trees (as_cell c.args.k)) 50 c.args.k.tag (omega arith) refl

pub returns-in-58 : goal.returns-in-58
returns-in-58 c = said_at 58 (node_trees (as_cell c.args.k)) 50 c.args.k.tag (omega arith) refl

pub returns-in-59 : goal.returns-in-59
returns-in-59 c = said_at 59 (node_trees (as_cell c.args.k)) 50 c.args.k.tag (omega arith) refl

pub returns-in-60 : goal.returns-in-60
returns-in-60 c = said_at 60 (node_trees (as_cell c.args.k)) 50 c.args.k.tag (omega arith) refl

pub returns-in-61 : goal.returns-in-61
returns-in-61 c = said_at 61 (node_trees (as_cell c.args.k)) 50 c.args.k.tag (omega arith) refl

pub returns-in-62 : goal.returns-in-62
returns-in-62 c = said_at 62 (node_trees (as_cell c.args.k)) 50 c.args.k.tag (omega arith) refl

pub returns-in_default : goal.returns-in_default
returns-in_default c = said_at 63 (node_trees (as_cell c.args.k)) 50 c.args.k.tag (omega arith) refl
