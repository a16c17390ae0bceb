-- `layout::row_of` meets its contract: by ranges of tags, and none from 64 on is known.
use Rattle.layout.proofs.Cells.{row_past}
use Rattle.layout.proofs.row_of.Goals as goal

pub returns : goal.returns
returns c = row_past _ c.if-tag-lt-NODES_END.false
