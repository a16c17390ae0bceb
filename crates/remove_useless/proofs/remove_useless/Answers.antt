use Rattle.nodes.proofs.Widths.{columns_node}
use Rattle.nodes.proofs.Own.{at_in}
use Rattle.remove_useless.proofs.Nodes.{stays_removed, projects_removed, rewrites_removed, others_removed}
use native.Mathlib.Omega.{arith}
use mathlib.Core.Path.{sym, ◌∙◌}
use Rattle.remove_useless.proofs.remove_useless.Goals as goal

pub tag_at-requires : goal.tag_at-requires
tag_at-requires c = let (h, k) = at_in (columns_node c.requires) in (omega arith, k)

pub scan_without_true-requires : goal.scan_without_true-requires
scan_without_true-requires c = record { node_at = columns_node c.requires; hi_value = sym c.tag_at.ensures ∙ c.in-62.is }

pub returns-in-62 : goal.returns-in-62
returns-in-62 c = rewrites_removed c.scan_without_true.ensures

pub join_without_true-requires : goal.join_without_true-requires
join_without_true-requires c = record { node_at = columns_node c.requires; hi_value = sym c.tag_at.ensures ∙ c.in-56.is }

pub returns-in-56 : goal.returns-in-56
returns-in-56 c = rewrites_removed c.join_without_true.ensures

pub filter_or_source-requires : goal.filter_or_source-requires
filter_or_source-requires c = record { node_at = columns_node c.requires; hi_value = sym c.tag_at.ensures ∙ c.in-51.is }

pub returns-in-51 : goal.returns-in-51
returns-in-51 c = stays_removed c.filter_or_source.ensures

pub projection_or_source-requires : goal.projection_or_source-requires
projection_or_source-requires c = record { columns_at = c.requires; hi_value = sym c.tag_at.ensures ∙ c.in-60.is }

pub returns-in-60 : goal.returns-in-60
returns-in-60 c = projects_removed c.projection_or_source.ensures

pub returns-in_default : goal.returns-in_default
returns-in_default c = others_removed (λ z. omega arith) (λ z. omega arith) (λ z. omega arith) (λ z. omega arith)
