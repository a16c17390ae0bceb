-- `layout::row_to_39` meets its contract: the row of each tag, or of each in a range, is the definition's.
use native.Mathlib.Omega.{arith}
use mathlib.Core.Path.{refl}
use Rattle.sheet.specs.Cell.{tag_of}
use Rattle.layout.proofs.Cells.{row_in, row_as}
use Rattle.layout.proofs.row_to_39.Goals as goal

pub returns-then-tag-lt-EXPONENTIATE : goal.returns-then-tag-lt-EXPONENTIATE
unfolding tag_of
returns-then-tag-lt-EXPONENTIATE c = row_in _ 10 9 refl c.args.tag (omega arith) (omega arith)

pub returns-then-tag-lt-BINARY_END : goal.returns-then-tag-lt-BINARY_END
unfolding tag_of
returns-then-tag-lt-BINARY_END c = row_in _ 19 3 refl c.args.tag (omega arith) (omega arith)

pub returns-then-tag-lt-UNARY : goal.returns-then-tag-lt-UNARY
unfolding tag_of
returns-then-tag-lt-UNARY c = row_in _ 22 8 refl c.args.tag (omega arith) (omega arith)

pub returns-then-tag-lt-FACTORIAL : goal.returns-then-tag-lt-FACTORIAL
unfolding tag_of
returns-then-tag-lt-FACTORIAL c = row_in _ 30 5 refl c.args.tag (omega arith) (omega arith)

pub returns-in-35 : goal.returns-in-35
unfolding tag_of
returns-in-35 c = row_as _ 35 refl c.args.tag (omega arith)

pub returns-in-36 : goal.returns-in-36
unfolding tag_of
returns-in-36 c = row_as _ 36 refl c.args.tag (omega arith)

pub returns-in_default : goal.returns-in_default
unfolding tag_of
returns-in_default c = row_in _ 37 3 refl c.args.tag (omega arith) (omega arith)
