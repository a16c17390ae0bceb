-- `layout::row_to_56` meets its contract: the row of each tag, or of each in a range, is the definition's.
use native.Mathlib.Omega.{arith}
use mathlib.Core.Path.{refl}
use Rattle.sheet.specs.Cell.{tag_of}
use Rattle.layout.proofs.Cells.{row_in, row_as}
use Rattle.layout.proofs.row_to_56.Goals as goal

pub returns-in-50 : goal.returns-in-50
unfolding tag_of
returns-in-50 c = row_as _ 50 refl c.args.tag (omega arith)

pub returns-in-51 : goal.returns-in-51
unfolding tag_of
returns-in-51 c = row_as _ 51 refl c.args.tag (omega arith)

pub returns-in-52 : goal.returns-in-52
unfolding tag_of
returns-in-52 c = row_as _ 52 refl c.args.tag (omega arith)

pub returns-in-53 : goal.returns-in-53
unfolding tag_of
returns-in-53 c = row_in _ 53 2 refl c.args.tag (omega arith) (omega arith)

pub returns-in-55 : goal.returns-in-55
unfolding tag_of
returns-in-55 c = row_as _ 55 refl c.args.tag (omega arith)

pub returns-in_default-2 : goal.returns-in_default-2
unfolding tag_of
returns-in_default-2 c = row_as _ 56 refl c.args.tag (omega arith)
