use Rattle.nodes.proofs.Own.{at_in}
use Rattle.is_empty.proofs.Nodes.{limit_empty, limit_more}
use native.Mathlib.Omega.{arith}
use borrow.Author.Tests.{ne_eqb}
use Rattle.is_empty.proofs.limit_is_empty.Goals as goal

pub cell_at-c-requires : goal.cell_at-c-requires
cell_at-c-requires c = let (h, k) = at_in c.requires.node_at in (omega arith, k)

pub returns-then-c-eq0 : goal.returns-then-c-eq0
returns-then-c-eq0 c = limit_empty c.requires.hi_value c.cell_at-c.ensures c.if-c-eq0.true

pub returns-else-c-eq0 : goal.returns-else-c-eq0
returns-else-c-eq0 c = rw (ne_eqb c.cell_at-c.result.a 0 c.if-c-eq0.false) (limit_more c.requires.hi_value c.cell_at-c.ensures c.if-c-eq0.false)
