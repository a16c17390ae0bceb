use Rattle.labels.proofs.Routes.{aggregate_ends, groups_behind, group_ends, aggregate_goes}
use Rattle.nodes.proofs.Trees.{trees_few}
use Rattle.nodes.proofs.Own.{at_in}
use native.Mathlib.Omega.{arith}
use Rattle.labels.proofs.aggregate_route.Goals as goal

pub cell_at-c-requires : goal.cell_at-c-requires
cell_at-c-requires c = let (h, k) = at_in c.requires.node_at in (omega arith, k)

pub returns-then-c-i : goal.returns-then-c-i
returns-then-c-i c = aggregate_ends c.cell_at-c.ensures c.requires.hi_value c.args.i c.if-c-i.true

pub overflow_add-c : goal.overflow_add-c
overflow_add-c c = omega (arith, trees_few (groups_behind c.cell_at-c.ensures c.requires.hi_value c.args.i c.if-c-i.false c.requires.node_at), (at_in c.requires.node_at).1)

pub overflow_sub-hi : goal.overflow_sub-hi
overflow_sub-hi c = omega (arith, (at_in c.requires.node_at).0)

pub trees_start-end-requires : goal.trees_start-end-requires
trees_start-end-requires c = groups_behind c.cell_at-c.ensures c.requires.hi_value c.args.i c.if-c-i.false c.requires.node_at

pub expression_route-requires : goal.expression_route-requires
expression_route-requires c = group_ends c.cell_at-c.ensures c.requires.hi_value c.args.i c.if-c-i.false c.trees_start-end.ensures c.requires.node_at

pub returns : goal.returns
returns c = aggregate_goes c.cell_at-c.ensures c.requires.hi_value c.args.i c.if-c-i.false c.trees_start-end.ensures c.expression_route.result c.expression_route.ensures
