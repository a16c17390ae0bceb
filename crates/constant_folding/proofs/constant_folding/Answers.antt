use Rattle.words.proofs.Nodes.{node_in}
use Rattle.constant_folding.proofs.Plans.{source_at, plan_folded}
use native.Mathlib.Omega.{arith}
use Rattle.constant_folding.proofs.constant_folding.Goals as goal

pub fold_node-requires : goal.fold_node-requires
fold_node-requires c = record { source_at = (source_at c.requires.plan_at, omega (arith, (node_in c.requires.plan_at.p c.requires.plan_at.here).0)); lo_in_bounds = (omega (arith, c.requires.t_in_bounds.0), c.requires.t_in_bounds.1) }

pub returns : goal.returns
returns c = plan_folded c.requires.t_in_bounds.0 c.fold_node.auto.y c.fold_node.ensures
