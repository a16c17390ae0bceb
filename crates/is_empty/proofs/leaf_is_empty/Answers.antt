use Rattle.nodes.proofs.Own.{at_in}
use Rattle.is_empty.proofs.Nodes.{scan_predicate, scan_empty, nothing_empty, list_empty}
use native.Mathlib.Omega.{arith}
use mathlib.Core.Path.{sym, ◌∙◌}
use Rattle.is_empty.proofs.leaf_is_empty.Goals as goal

pub tag_at-requires : goal.tag_at-requires
tag_at-requires c = let (h, k) = at_in c.requires.node_at in (omega arith, k)

pub overflow_sub-hi : goal.overflow_sub-hi
overflow_sub-hi c = let (h, k) = at_in c.requires.node_at in omega arith

pub optional_is_never-requires : goal.optional_is_never-requires
optional_is_never-requires c = scan_predicate (sym c.tag_at.ensures ∙ c.in-62.is) c.requires.node_at

pub returns-in-62 : goal.returns-in-62
returns-in-62 c = scan_empty (sym c.tag_at.ensures ∙ c.in-62.is) c.optional_is_never.result c.optional_is_never.ensures

pub returns-in-57 : goal.returns-in-57
returns-in-57 c = nothing_empty (sym c.tag_at.ensures ∙ c.in-57.is)

pub overflow_sub-result : goal.overflow_sub-result
overflow_sub-result c = let (h, k) = at_in c.requires.node_at in omega arith

pub returns-in_default : goal.returns-in_default
returns-in_default c = list_empty c.requires.source_count (λ z. omega arith) (λ z. omega arith)
