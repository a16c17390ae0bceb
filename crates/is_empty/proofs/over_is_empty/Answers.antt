use Rattle.nodes.proofs.Own.{at_in}
use Rattle.is_empty.proofs.Nodes.{aggregate_stays, remap_stays, source_empty}
use native.Mathlib.Omega.{arith}
use mathlib.Core.Logic.{⊎_elim}
use mathlib.Core.Path.{sym, ◌∙◌}
use Rattle.is_empty.proofs.over_is_empty.Goals as goal

pub tag_at-requires : goal.tag_at-requires
tag_at-requires c = let (h, k) = at_in c.requires.node_at in (omega arith, k)

pub filter_is_empty-requires : goal.filter_is_empty-requires
filter_is_empty-requires c = record { node_at = c.requires.node_at; source_count = c.requires.source_count; hi_value = sym c.tag_at.ensures ∙ c.in-51.is }

pub returns-in-51 : goal.returns-in-51
returns-in-51 c = c.filter_is_empty.ensures

pub limit_is_empty-requires : goal.limit_is_empty-requires
limit_is_empty-requires c = record { node_at = c.requires.node_at; hi_value = sym c.tag_at.ensures ∙ c.in-55.is }

pub returns-in-55 : goal.returns-in-55
returns-in-55 c = c.limit_is_empty.ensures

pub returns-in-50 : goal.returns-in-50
returns-in-50 c = ⊎_elim (λ z. aggregate_stays c.requires.source_count (sym c.tag_at.ensures ∙ z)) (λ z. remap_stays c.requires.source_count (sym c.tag_at.ensures ∙ z)) c.in-50.is

pub source_is_nothing-requires : goal.source_is_nothing-requires
source_is_nothing-requires c = record { node_at = c.requires.node_at; source_count = c.requires.source_count }

pub returns-in_default : goal.returns-in_default
returns-in_default c = source_empty c.requires.source_count (λ z. omega arith) (λ z. omega arith) (λ z. grind arith) (λ z. grind arith) c.source_is_nothing.result c.source_is_nothing.ensures
