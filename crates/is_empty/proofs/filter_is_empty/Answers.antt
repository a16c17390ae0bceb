use Rattle.nodes.proofs.Own.{at_in}
use Rattle.is_empty.proofs.Nodes.{filter_ends, filter_never, filter_source}
use native.Mathlib.Omega.{arith}
use mathlib.Core.Path.{sym, ◌∙◌}
use Rattle.is_empty.proofs.filter_is_empty.Goals as goal

pub overflow_sub-hi : goal.overflow_sub-hi
overflow_sub-hi c = let (h, k) = at_in c.requires.node_at in omega arith

pub is_never-requires : goal.is_never-requires
is_never-requires c = filter_ends c.requires.hi_value c.requires.node_at

pub returns-then-is_never : goal.returns-then-is_never
returns-then-is_never c = rw c.if-is_never.true (filter_never c.requires.hi_value (λ lo e p. sym c.if-is_never.true ∙ c.is_never.ensures lo e p))

pub source_is_nothing-requires : goal.source_is_nothing-requires
source_is_nothing-requires c = record { node_at = c.requires.node_at; source_count = c.requires.source_count }

pub returns-else-is_never : goal.returns-else-is_never
returns-else-is_never c = filter_source c.requires.hi_value (λ lo e p. sym c.if-is_never.false ∙ c.is_never.ensures lo e p) c.source_is_nothing.result c.source_is_nothing.ensures
