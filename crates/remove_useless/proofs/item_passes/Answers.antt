use Rattle.labels.proofs.Routes.{item_in}
use Rattle.remove_useless.proofs.Items.{labelled_item, column_item, other_item}
use native.Mathlib.Omega.{arith}
use borrow.Author.Tests.{ne_eqb}
use Rattle.remove_useless.proofs.item_passes.Goals as goal

pub cell_at-c-requires : goal.cell_at-c-requires
cell_at-c-requires c = let (h, k) = item_in c.requires in (omega arith, k)

pub returns-then-c-gt0 : goal.returns-then-c-gt0
returns-then-c-gt0 c = labelled_item c.cell_at-c.ensures c.args.i c.if-c-gt0.true

pub overflow_sub-hi : goal.overflow_sub-hi
overflow_sub-hi c = let (h, k) = item_in c.requires in omega arith

pub cell_at-e-requires : goal.cell_at-e-requires
cell_at-e-requires c = let (h, k) = item_in c.requires in (omega arith, omega arith)

pub returns-then-e-eq-COLUMN : goal.returns-then-e-eq-COLUMN
returns-then-e-eq-COLUMN c = column_item c.cell_at-c.ensures c.cell_at-e.ensures c.if-c-gt0.false c.args.i c.if-e-eq-COLUMN.true

pub returns-else-e-eq-COLUMN : goal.returns-else-e-eq-COLUMN
returns-else-e-eq-COLUMN c = rw (ne_eqb c.cell_at-e.result.tag 6 c.if-e-eq-COLUMN.false) (other_item c.cell_at-c.ensures c.cell_at-e.ensures c.if-c-gt0.false c.args.i c.if-e-eq-COLUMN.false)
