use Rattle.labels.proofs.Routes.{projection_ends, items_behind, item_ends, projection_goes}
use Rattle.nodes.proofs.Own.{at_in}
use native.Mathlib.Omega.{arith}
use Rattle.labels.proofs.projection_route.Goals as goal

pub cell_at-c-requires : goal.cell_at-c-requires
cell_at-c-requires c = let (h, k) = at_in c.requires.node_at in (omega arith, k)

pub returns-then-c-i : goal.returns-then-c-i
returns-then-c-i c = projection_ends c.cell_at-c.ensures c.requires.hi_value c.args.i c.if-c-i.true

pub overflow_sub-hi : goal.overflow_sub-hi
overflow_sub-hi c = omega (arith, (at_in c.requires.node_at).0)

pub trees_start-end-requires : goal.trees_start-end-requires
trees_start-end-requires c = items_behind c.cell_at-c.ensures c.requires.hi_value c.args.i c.if-c-i.false c.requires.node_at

pub item_route-requires : goal.item_route-requires
item_route-requires c = item_ends c.cell_at-c.ensures c.requires.hi_value c.args.i c.if-c-i.false c.trees_start-end.ensures c.requires.node_at

pub returns : goal.returns
returns c = projection_goes c.cell_at-c.ensures c.requires.hi_value c.args.i c.if-c-i.false c.trees_start-end.ensures c.item_route.result c.item_route.ensures
