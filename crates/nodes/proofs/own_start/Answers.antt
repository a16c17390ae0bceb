use Rattle.nodes.proofs.Own.{at_in, leaf_start, has_sources, own_at, own_start_said, targets_fit, remap_start}
use Rattle.nodes.proofs.Trees.{trees_at}
use native.Mathlib.Omega.{arith}
use mathlib.Core.Path.{sym, ◌∙◌}
use Rattle.nodes.proofs.own_start.Goals as goal

pub source_count-requires : goal.source_count-requires
source_count-requires c = c.requires

pub returns-then-source_count-eq0 : goal.returns-then-source_count-eq0
returns-then-source_count-eq0 c = leaf_start c.source_count.ensures c.if-source_count-eq0.true

pub own_trees-n-requires : goal.own_trees-n-requires
own_trees-n-requires c = has_sources c.source_count.ensures c.if-source_count-eq0.false c.requires

pub tag_at-requires : goal.tag_at-requires
tag_at-requires c = let (h, k) = at_in c.requires in (omega arith, k)

pub overflow_sub-end : goal.overflow_sub-end
overflow_sub-end c = omega (arith, (at_in c.requires).0)

pub overflow_mul-result : goal.overflow_mul-result
overflow_mul-result c = omega (arith, targets_fit c.own_trees-n.ensures (sym c.tag_at.ensures ∙ c.in-61.is) c.requires, (at_in c.requires).1, c.ranges)

pub overflow_sub-result : goal.overflow_sub-result
overflow_sub-result c = omega (arith, targets_fit c.own_trees-n.ensures (sym c.tag_at.ensures ∙ c.in-61.is) c.requires)

pub returns-in-61 : goal.returns-in-61
returns-in-61 c = remap_start c.own_trees-n.ensures (sym c.tag_at.ensures ∙ c.in-61.is)

pub parts_start-requires : goal.parts_start-requires
parts_start-requires c = own_at c.source_count.ensures c.if-source_count-eq0.false c.own_trees-n.ensures c.requires

pub returns-in-50 : goal.returns-in-50
returns-in-50 c = own_start_said c.source_count.ensures c.if-source_count-eq0.false c.own_trees-n.ensures c.parts_start.ensures

pub trees_start-requires : goal.trees_start-requires
trees_start-requires c = trees_at (own_at c.source_count.ensures c.if-source_count-eq0.false c.own_trees-n.ensures c.requires)

pub returns-in_default : goal.returns-in_default
returns-in_default c = own_start_said c.source_count.ensures c.if-source_count-eq0.false c.own_trees-n.ensures c.trees_start.ensures
