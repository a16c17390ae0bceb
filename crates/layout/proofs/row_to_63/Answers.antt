-- `layout::row_to_63` meets its contract: the row of each tag, or of each in a range, is the definition's.
use native.Mathlib.Omega.{arith}
use mathlib.Core.Path.{refl}
use Rattle.sheet.specs.Cell.{tag_of}
use Rattle.layout.proofs.Cells.{row_in, row_as}
use Rattle.layout.proofs.row_to_63.Goals as goal

pub returns-in-57 : goal.returns-in-57
unfolding tag_of
returns-in-57 c = row_as _ 57 refl c.args.tag (omega arith)

pub returns-in-58 : goal.returns-in-58
unfolding tag_of
returns-in-58 c = row_as _ 58 refl c.args.tag (omega arith)

pub returns-in-59 : goal.returns-in-59
unfolding tag_of
returns-in-59 c = row_in _ 59 3 refl c.args.tag (omega arith) (omega arith)

pub returns-in-62 : goal.returns-in-62
unfolding tag_of
returns-in-62 c = row_as _ 62 refl c.args.tag (omega arith)

pub returns-in_default-2 : goal.returns-in_default-2
unfolding tag_of
returns-in_default-2 c = row_as _ 63 refl c.args.tag (omega arith)
