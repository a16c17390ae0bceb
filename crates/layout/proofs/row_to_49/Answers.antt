-- `layout::row_to_49` meets its contract: the row of each tag, or of each in a range, is the definition's.
use native.Mathlib.Omega.{arith}
use mathlib.Core.Path.{refl}
use Rattle.sheet.specs.Cell.{tag_of}
use Rattle.layout.proofs.Cells.{row_in, row_as}
use Rattle.layout.proofs.row_to_49.Goals as goal

pub returns-in-40 : goal.returns-in-40
unfolding tag_of
returns-in-40 c = row_in _ 40 2 refl c.args.tag (omega arith) (omega arith)

pub returns-in-42 : goal.returns-in-42
unfolding tag_of
returns-in-42 c = row_as _ 42 refl c.args.tag (omega arith)

pub returns-in-43 : goal.returns-in-43
unfolding tag_of
returns-in-43 c = row_as _ 43 refl c.args.tag (omega arith)

pub returns-in-44 : goal.returns-in-44
unfolding tag_of
returns-in-44 c = row_as _ 44 refl c.args.tag (omega arith)

pub returns-in-45 : goal.returns-in-45
unfolding tag_of
returns-in-45 c = row_as _ 45 refl c.args.tag (omega arith)

pub returns-in_default-2 : goal.returns-in_default-2
unfolding tag_of
returns-in_default-2 c = row_in _ 46 4 refl c.args.tag (omega arith) (omega arith)
