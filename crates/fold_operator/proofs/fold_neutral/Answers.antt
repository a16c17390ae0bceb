-- `fold_operator::fold_neutral` meets its contract.
use Rattle.fold_operator.proofs.Steps.{cell_in, neutral_value, neutral_mismatch, neutral_column}
use native.Mathlib.Omega.{arith}
use Rattle.fold_operator.proofs.fold_neutral.Goals as goal

pub cell_at-k-requires : goal.cell_at-k-requires
cell_at-k-requires c = cell_in c.requires.operand.y c.requires.operand.here

pub returns-then-k-lt-INTEGER : goal.returns-then-k-lt-INTEGER
returns-then-k-lt-INTEGER c = neutral_value c.args.place c.args.origin c.requires.few c.cell_at-k.ensures (omega (arith, c.if-k-lt-INTEGER.true)) c.with_origin.ensures c.put.ensures.0

pub returns-then-k-lt-COLUMN : goal.returns-then-k-lt-COLUMN
returns-then-k-lt-COLUMN c = neutral_mismatch c.args.place c.args.origin c.cell_at-k.ensures (omega (arith, c.if-k-lt-INTEGER.false)) (omega (arith, c.if-k-lt-COLUMN.true))

pub returns : goal.returns
returns c = neutral_column c.args.place c.args.origin c.cell_at-k.ensures (omega (arith, c.if-k-lt-COLUMN.false))
