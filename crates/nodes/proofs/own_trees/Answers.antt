use Rattle.nodes.proofs.Own.{at_in, aggregate_trees, aggregate_few, list_trees, filter_trees, join_trees_said, no_trees}
use native.Mathlib.Omega.{arith}
use Rattle.nodes.proofs.own_trees.Goals as goal

pub cell_at-c-requires : goal.cell_at-c-requires
cell_at-c-requires c = let (h, k) = at_in c.requires.node in (omega arith, k)

pub overflow_add-result : goal.overflow_add-result
overflow_add-result c = let (h, k) = at_in c.requires.node in omega (arith, aggregate_few c.cell_at-c.ensures c.in-50.is c.requires.node)

pub returns-in-50 : goal.returns-in-50
returns-in-50 c = aggregate_trees c.cell_at-c.ensures c.in-50.is

pub returns-in-59 : goal.returns-in-59
returns-in-59 c = list_trees c.cell_at-c.ensures (omega arith)

pub returns-in-51 : goal.returns-in-51
returns-in-51 c = filter_trees c.cell_at-c.ensures c.in-51.is

pub returns-in-56 : goal.returns-in-56
returns-in-56 c = join_trees_said c.cell_at-c.ensures c.in-56.is

pub returns-in_default : goal.returns-in_default
returns-in_default c = no_trees c.cell_at-c.ensures (λ z. omega arith) (λ z. omega arith) (λ z. omega arith) (λ z. omega arith)

pub returns-in_default-2 : goal.returns-in_default-2
returns-in_default-2 c = no_trees c.cell_at-c.ensures (λ z. omega arith) (λ z. omega arith) (λ z. omega arith) (λ z. omega arith)
