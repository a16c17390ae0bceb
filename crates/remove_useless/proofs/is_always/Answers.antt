use Rattle.labels.proofs.Routes.{expression_in}
use Rattle.remove_useless.proofs.Predicates.{boolean_always, other_always}
use borrow.Author.Tests.{ne_eqb}
use Rattle.remove_useless.proofs.is_always.Goals as goal

pub cell_at-c-requires : goal.cell_at-c-requires
cell_at-c-requires c = expression_in c.requires

pub returns-then-c-eq-BOOLEAN : goal.returns-then-c-eq-BOOLEAN
returns-then-c-eq-BOOLEAN c = boolean_always c.cell_at-c.ensures c.if-c-eq-BOOLEAN.true

pub returns-else-c-eq-BOOLEAN : goal.returns-else-c-eq-BOOLEAN
returns-else-c-eq-BOOLEAN c = rw (ne_eqb c.cell_at-c.result.tag 2 c.if-c-eq-BOOLEAN.false) (other_always c.cell_at-c.ensures c.if-c-eq-BOOLEAN.false)
