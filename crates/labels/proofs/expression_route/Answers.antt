use Rattle.labels.proofs.Routes.{expression_in, to_column, no_column}
use Rattle.labels.proofs.expression_route.Goals as goal

pub cell_at-c-requires : goal.cell_at-c-requires
cell_at-c-requires c = expression_in c.requires

pub returns-then-c-eq-COLUMN : goal.returns-then-c-eq-COLUMN
returns-then-c-eq-COLUMN c = to_column c.cell_at-c.ensures c.if-c-eq-COLUMN.true

pub returns : goal.returns
returns c = no_column c.cell_at-c.ensures c.if-c-eq-COLUMN.false
