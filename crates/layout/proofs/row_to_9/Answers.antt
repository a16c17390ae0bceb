-- `layout::row_to_9` meets its contract: the row of each tag, or of each in a range, is the definition's.
use native.Mathlib.Omega.{arith}
use mathlib.Core.Path.{refl}
use Rattle.sheet.specs.Cell.{tag_of}
use Rattle.layout.proofs.Cells.{row_in, row_as}
use Rattle.layout.proofs.row_to_9.Goals as goal

pub returns-in-1 : goal.returns-in-1
unfolding tag_of
returns-in-1 c = row_as _ 1 refl c.args.tag (omega arith)

pub returns-in-2 : goal.returns-in-2
unfolding tag_of
returns-in-2 c = row_as _ 2 refl c.args.tag (omega arith)

pub returns-in-3 : goal.returns-in-3
unfolding tag_of
returns-in-3 c = row_in _ 3 2 refl c.args.tag (omega arith) (omega arith)

pub returns-in-5 : goal.returns-in-5
unfolding tag_of
returns-in-5 c = row_as _ 5 refl c.args.tag (omega arith)

pub returns-in-6 : goal.returns-in-6
unfolding tag_of
returns-in-6 c = row_as _ 6 refl c.args.tag (omega arith)

pub returns-in_default : goal.returns-in_default
unfolding tag_of
returns-in_default c = row_as _ 0 refl c.args.tag (omega arith)

pub returns-in_default-2 : goal.returns-in_default-2
unfolding tag_of
returns-in_default-2 c = row_in _ 7 3 refl c.args.tag (omega arith) (omega arith)
