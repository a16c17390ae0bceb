-- `fold_operator::simplify` meets its contract.
use Rattle.fold_operator.proofs.Steps.{cell_in, right_operand, left_moved, right_moved, right_dropped, both_kept}
use Rattle.fold_operator.proofs.simplify.Goals as goal

pub cell_at-j-requires : goal.cell_at-j-requires
cell_at-j-requires c = cell_in c.requires.x c.requires.left

pub returns-then-is_deciding : goal.returns-then-is_deciding
returns-then-is_deciding c = left_moved c.args.o c.args.origin c.cell_at-j.ensures c.is_deciding.ensures c.if-is_deciding.true c.with_origin.ensures c.put.ensures.0

pub cell_at-k-requires : goal.cell_at-k-requires
cell_at-k-requires c = cell_in c.requires.y c.requires.right

pub returns-then-is_deciding-2 : goal.returns-then-is_deciding-2
returns-then-is_deciding-2 c = right_moved c.args.o c.args.origin c.cell_at-j.ensures c.cell_at-k.ensures c.is_deciding.ensures c.if-is_deciding.false c.is_deciding-2.ensures c.if-is_deciding-2.true c.with_origin-then-is_deciding-2.ensures c.put-then-is_deciding-2.ensures.0

pub is_neutral-requires : goal.is_neutral-requires
is_neutral-requires c = right_operand c.requires c.cell_at-k.ensures

pub returns-then-is_neutral : goal.returns-then-is_neutral
returns-then-is_neutral c = right_dropped c.args.o c.args.origin c.cell_at-j.ensures c.cell_at-k.ensures c.is_deciding.ensures c.if-is_deciding.false c.is_deciding-2.ensures c.if-is_deciding-2.false c.is_neutral.ensures c.if-is_neutral.true

pub returns : goal.returns
returns c = both_kept c.args.o c.args.origin c.cell_at-j.ensures c.cell_at-k.ensures c.is_deciding.ensures c.if-is_deciding.false c.is_deciding-2.ensures c.if-is_deciding-2.false c.is_neutral.ensures c.if-is_neutral.false c.operator.ensures c.put-2.ensures.0
