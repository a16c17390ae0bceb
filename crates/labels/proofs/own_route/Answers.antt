use Rattle.labels.proofs.Routes.{targets_up, remap_goes}
use Rattle.nodes.proofs.Own.{at_in}
use native.Mathlib.Omega.{arith}
use mathlib.Core.Path.{sym, ◌∙◌}
use Rattle.labels.proofs.own_route.Goals as goal

pub tag_at-requires : goal.tag_at-requires
tag_at-requires c = let (h, k) = at_in c.requires.node_at in (omega arith, k)

pub aggregate_route-requires : goal.aggregate_route-requires
aggregate_route-requires c = record { node_at = c.requires.node_at; hi_value = sym c.tag_at.ensures ∙ c.in-50.is }

pub returns-in-50 : goal.returns-in-50
returns-in-50 c = c.aggregate_route.ensures

pub projection_route-requires : goal.projection_route-requires
projection_route-requires c = record { node_at = c.requires.node_at; hi_value = sym c.tag_at.ensures ∙ c.in-60.is }

pub returns-in-60 : goal.returns-in-60
returns-in-60 c = c.projection_route.ensures

pub overflow_sub-hi : goal.overflow_sub-hi
overflow_sub-hi c = omega (arith, (at_in c.requires.node_at).0)

pub remap_route-requires : goal.remap_route-requires
remap_route-requires c = targets_up c.requires.source_count c.requires.own_start c.requires.fact (λ z. omega arith) (λ z. omega arith) c.requires.node_at

pub returns-in_default : goal.returns-in_default
returns-in_default c = remap_goes c.requires.source_count c.requires.own_start c.requires.fact (λ z. omega arith) (λ z. omega arith) c.args.i c.remap_route.result c.remap_route.ensures
