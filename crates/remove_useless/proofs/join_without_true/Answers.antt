use Rattle.nodes.proofs.Own.{at_in}
use Rattle.remove_useless.proofs.Nodes.{join_predicate, join_flag, join_written, join_same}
use native.Mathlib.Omega.{arith}
use mathlib.Core.Path.{sym, ◌∙◌}
use Rattle.remove_useless.proofs.join_without_true.Goals as goal

pub own_start-m-requires : goal.own_start-m-requires
own_start-m-requires c = c.requires.node_at

pub overflow_sub-hi : goal.overflow_sub-hi
overflow_sub-hi c = let (h, k) = at_in c.requires.node_at in omega arith

pub optional_is_always-requires : goal.optional_is_always-requires
optional_is_always-requires c = join_predicate c.requires.hi_value c.own_start-m.ensures c.requires.node_at

pub cell_at-nested-requires : goal.cell_at-nested-requires
cell_at-nested-requires c = let (h, k) = at_in c.requires.node_at in (omega arith, k)

pub overflow_sub-k : goal.overflow_sub-k
overflow_sub-k c = join_flag c.requires.hi_value c.own_start-m.ensures c.cell_at-nested.ensures (λ e p. sym c.if-optional_is_always.true ∙ c.optional_is_always.ensures e p) c.requires.node_at

pub returns-then-optional_is_always : goal.returns-then-optional_is_always
returns-then-optional_is_always c = join_written c.requires.hi_value c.own_start-m.ensures c.cell_at-nested.ensures (λ e p. sym c.if-optional_is_always.true ∙ c.optional_is_always.ensures e p) c.put.ensures.0

pub returns : goal.returns
returns c = join_same c.requires.hi_value c.own_start-m.ensures (λ e p. sym c.if-optional_is_always.false ∙ c.optional_is_always.ensures e p)
