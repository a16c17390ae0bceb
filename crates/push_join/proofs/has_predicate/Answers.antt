use borrow.Author.Tests.{ne_eqb}
use Rattle.push_into.proofs.Taking.{node_at_in}
use Rattle.push_join.proofs.Passing.{another, nested}
use Rattle.push_join.proofs.has_predicate.Goals as goal

pub cell_at-c-requires : goal.cell_at-c-requires
cell_at-c-requires c = node_at_in c.requires

pub returns-then-c-eq-NESTED_LOOP_JOIN : goal.returns-then-c-eq-NESTED_LOOP_JOIN
returns-then-c-eq-NESTED_LOOP_JOIN c = nested c.cell_at-c.ensures c.if-c-eq-NESTED_LOOP_JOIN.true

pub returns-else-c-eq-NESTED_LOOP_JOIN : goal.returns-else-c-eq-NESTED_LOOP_JOIN
returns-else-c-eq-NESTED_LOOP_JOIN c = simp (ne_eqb _ _ c.if-c-eq-NESTED_LOOP_JOIN.false) (another c.cell_at-c.ensures c.if-c-eq-NESTED_LOOP_JOIN.false)
