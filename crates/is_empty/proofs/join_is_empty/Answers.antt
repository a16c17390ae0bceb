use Rattle.nodes.proofs.Widths.{join_sized}
use Rattle.nodes.proofs.Own.{at_in}
use Rattle.is_empty.proofs.Nodes.{source_ends, join_predicate, join_never, join_left_empty, join_right_empty}
use native.Mathlib.Omega.{arith}
use mathlib.Core.Path.{sym, ◌∙◌}
use borrow.Author.Tests.{eq-eqb}
use Rattle.is_empty.proofs.join_is_empty.Goals as goal

pub own_start-m-requires : goal.own_start-m-requires
own_start-m-requires c = c.requires.node_at

pub overflow_sub-hi : goal.overflow_sub-hi
overflow_sub-hi c = let (h, k) = at_in c.requires.node_at in omega arith

pub optional_is_never-requires : goal.optional_is_never-requires
optional_is_never-requires c = join_predicate c.requires.source_count c.own_start-m.ensures c.requires.node_at

pub returns-then-optional_is_never : goal.returns-then-optional_is_never
returns-then-optional_is_never c = join_never c.requires.source_count c.own_start-m.ensures (λ e p. sym c.if-optional_is_never.true ∙ c.optional_is_never.ensures e p)

pub start-mid-requires : goal.start-mid-requires
start-mid-requires c = join_sized c.requires.source_count c.own_start-m.ensures c.requires.node_at

pub tag_at-requires : goal.tag_at-requires
tag_at-requires c = (source_ends c.requires.source_count c.own_start-m.ensures c.start-mid.ensures c.requires.node_at).0

pub returns-then-tag_at-eq-NOTHING : goal.returns-then-tag_at-eq-NOTHING
returns-then-tag_at-eq-NOTHING c = rw (eq-eqb c.tag_at.result 57 c.if-tag_at-eq-NOTHING.true) (join_left_empty c.requires.source_count c.own_start-m.ensures (λ e p. sym c.if-optional_is_never.false ∙ c.optional_is_never.ensures e p) c.start-mid.ensures c.tag_at.ensures c.if-tag_at-eq-NOTHING.true)

pub tag_at-requires-else-tag_at-eq-NOTHING : goal.tag_at-requires-else-tag_at-eq-NOTHING
tag_at-requires-else-tag_at-eq-NOTHING c = (source_ends c.requires.source_count c.own_start-m.ensures c.start-mid.ensures c.requires.node_at).1

pub returns-else-tag_at-eq-NOTHING : goal.returns-else-tag_at-eq-NOTHING
returns-else-tag_at-eq-NOTHING c = join_right_empty c.requires.source_count c.own_start-m.ensures (λ e p. sym c.if-optional_is_never.false ∙ c.optional_is_never.ensures e p) c.start-mid.ensures c.tag_at.ensures c.if-tag_at-eq-NOTHING.false c.tag_at-else-tag_at-eq-NOTHING.ensures
