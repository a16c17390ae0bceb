use borrow.Author.Tests.{ne_eqb}
use Rattle.words.proofs.Nodes.{node_in}
use Rattle.lookup_step.proofs.Steps.{filter_by_flag, filter_none}
use native.Mathlib.Omega.{arith}
use Rattle.lookup_step.proofs.has_filter.Goals as goal

pub cell_at-k-requires : goal.cell_at-k-requires
cell_at-k-requires c = let (h, k) = node_in c.requires.p c.requires.here in (omega arith, k)

pub returns-then-k-eq-SCAN : goal.returns-then-k-eq-SCAN
returns-then-k-eq-SCAN c = filter_by_flag c.cell_at-k.ensures c.if-k-eq-SCAN.true

pub returns-else-k-eq-SCAN : goal.returns-else-k-eq-SCAN
returns-else-k-eq-SCAN c = simp (ne_eqb _ _ c.if-k-eq-SCAN.false) (filter_none c.cell_at-k.ensures c.if-k-eq-SCAN.false)
