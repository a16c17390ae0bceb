-- `fold_operator::fold_binary` meets its contract.
use Rattle.fold_operator.proofs.Steps.{cell_in, constant_here, left_part, right_part, binary_left_kept, binary_right_kept, binary_constants}
use Rattle.cells.specs.declared.Cell.{Cell}
use native.Mathlib.Omega.{arith}
use mathlib.Core.Path.{ap}
use Rattle.fold_operator.proofs.fold_binary.Goals as goal

pub cell_at-left-requires : goal.cell_at-left-requires
cell_at-left-requires c = cell_in c.requires.operands.x c.requires.operands.left

pub simplify-requires : goal.simplify-requires
simplify-requires c = c.requires.operands

pub returns-then-left-ge-COLUMN : goal.returns-then-left-ge-COLUMN
returns-then-left-ge-COLUMN c = let e = ap (λ (x : Cell). x.tag) c.cell_at-left.ensures in binary_left_kept c.args.text.now c.args.o c.args.place c.args.origin c.requires.few c.requires.room (omega (arith, e, c.if-left-ge-COLUMN.true)) c.simplify.ensures

pub cell_at-right-requires : goal.cell_at-right-requires
cell_at-right-requires c = cell_in c.requires.operands.y c.requires.operands.right

pub simplify-requires-then-right-ge-COLUMN : goal.simplify-requires-then-right-ge-COLUMN
simplify-requires-then-right-ge-COLUMN c = c.requires.operands

pub returns-then-right-ge-COLUMN : goal.returns-then-right-ge-COLUMN
returns-then-right-ge-COLUMN c = let e = ap (λ (x : Cell). x.tag) c.cell_at-right.ensures in binary_right_kept c.args.text.now c.args.o c.args.place c.args.origin c.requires.few c.requires.room (omega (arith, e, c.if-right-ge-COLUMN.true)) c.simplify-then-right-ge-COLUMN.ensures

pub value_of-requires : goal.value_of-requires
value_of-requires c = constant_here c.requires.short (left_part c.requires) c.cell_at-left.ensures (omega (arith, c.if-left-ge-COLUMN.false))

pub value_of-requires-2 : goal.value_of-requires-2
value_of-requires-2 c = constant_here c.requires.short (right_part c.requires) c.cell_at-right.ensures (omega (arith, c.if-right-ge-COLUMN.false))

pub evaluate_binary-requires : goal.evaluate_binary-requires
evaluate_binary-requires c = c.requires.operands.operator

pub returns : goal.returns
returns c = let e = ap (λ (x : Cell). x.tag) c.cell_at-left.ensures in let f = ap (λ (x : Cell). x.tag) c.cell_at-right.ensures in binary_constants c.args.text.now c.args.o c.args.place c.args.origin c.requires.few c.requires.room c.value_of.result c.value_of-2.result c.evaluate_binary.result c.cell_at-left.ensures c.cell_at-right.ensures (omega (arith, e, c.if-left-ge-COLUMN.false)) (omega (arith, f, c.if-right-ge-COLUMN.false)) c.value_of.ensures c.value_of-2.ensures c.evaluate_binary.ensures c.write.ensures
