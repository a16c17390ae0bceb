-- `fold_operator::fold_unary` meets its contract.
use Rattle.fold_operator.proofs.Steps.{cell_in, constant_here, unary_kept, unary_constant}
use Rattle.cells.specs.declared.Cell.{Cell}
use native.Mathlib.Omega.{arith}
use mathlib.Core.Path.{ap}
use Rattle.fold_operator.proofs.fold_unary.Goals as goal

pub cell_at-k-requires : goal.cell_at-k-requires
cell_at-k-requires c = cell_in c.requires.operand.y c.requires.operand.here

pub returns-then-k-ge-COLUMN : goal.returns-then-k-ge-COLUMN
returns-then-k-ge-COLUMN c = let e = ap (λ (x : Cell). x.tag) c.cell_at-k.ensures in unary_kept c.args.o c.args.place c.args.origin c.requires.few c.requires.room c.operator.ensures (omega (arith, e, c.if-k-ge-COLUMN.true)) c.put.ensures.0

pub value_of-requires : goal.value_of-requires
value_of-requires c = constant_here c.requires.short c.requires.operand c.cell_at-k.ensures (omega (arith, c.if-k-ge-COLUMN.false))

pub evaluate_unary-requires : goal.evaluate_unary-requires
evaluate_unary-requires c = c.requires.operator

pub returns : goal.returns
returns c = let e = ap (λ (x : Cell). x.tag) c.cell_at-k.ensures in unary_constant c.args.o c.args.place c.args.origin c.requires.few c.requires.room c.value_of.result c.evaluate_unary.result c.cell_at-k.ensures (omega (arith, e, c.if-k-ge-COLUMN.false)) c.value_of.ensures c.evaluate_unary.ensures c.write.ensures
