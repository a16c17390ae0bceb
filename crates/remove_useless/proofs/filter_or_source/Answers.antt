use Rattle.nodes.proofs.Own.{at_in}
use Rattle.remove_useless.proofs.Nodes.{filter_ends, filter_source, filter_same}
use native.Mathlib.Omega.{arith}
use mathlib.Core.Path.{sym, ◌∙◌}
use Rattle.remove_useless.proofs.filter_or_source.Goals as goal

pub overflow_sub-hi : goal.overflow_sub-hi
overflow_sub-hi c = let (h, k) = at_in c.requires.node_at in omega arith

pub is_always-requires : goal.is_always-requires
is_always-requires c = filter_ends c.requires.hi_value c.requires.node_at

pub own_start-requires : goal.own_start-requires
own_start-requires c = c.requires.node_at

pub returns-then-is_always : goal.returns-then-is_always
returns-then-is_always c = filter_source c.requires.hi_value c.own_start.ensures (λ lo e p. sym c.if-is_always.true ∙ c.is_always.ensures lo e p)

pub returns : goal.returns
returns c = filter_same c.requires.hi_value (λ lo e p. sym c.if-is_always.false ∙ c.is_always.ensures lo e p)
