use Rattle.nodes.proofs.Own.{at_in}
use Rattle.remove_useless.proofs.Nodes.{scan_predicate, scan_flag, scan_written, scan_same}
use native.Mathlib.Omega.{arith}
use mathlib.Core.Path.{sym, ◌∙◌}
use Rattle.remove_useless.proofs.scan_without_true.Goals as goal

pub overflow_sub-hi : goal.overflow_sub-hi
overflow_sub-hi c = let (h, k) = at_in c.requires.node_at in omega arith

pub optional_is_always-requires : goal.optional_is_always-requires
optional_is_always-requires c = scan_predicate c.requires.hi_value c.requires.node_at

pub cell_at-scan-requires : goal.cell_at-scan-requires
cell_at-scan-requires c = let (h, k) = at_in c.requires.node_at in (omega arith, k)

pub overflow_sub-k : goal.overflow_sub-k
overflow_sub-k c = scan_flag c.requires.hi_value c.cell_at-scan.ensures (λ e p. sym c.if-optional_is_always.true ∙ c.optional_is_always.ensures e p) c.requires.node_at

pub returns-then-optional_is_always : goal.returns-then-optional_is_always
returns-then-optional_is_always c = scan_written c.requires.hi_value c.cell_at-scan.ensures (λ e p. sym c.if-optional_is_always.true ∙ c.optional_is_always.ensures e p) c.put.ensures.0

pub returns : goal.returns
returns c = scan_same c.requires.hi_value (λ e p. sym c.if-optional_is_always.false ∙ c.optional_is_always.ensures e p)
