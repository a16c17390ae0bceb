-- `layout::column_from` meets its contract: the numbers that it read are those of the definition.
use Rattle.layout.proofs.Laws.{column_reads}
use Rattle.layout.proofs.column_from.Goals as goal

pub returns : goal.returns
returns c = column_reads _ _ c.word_at.ensures c.byte_at.ensures c.byte_at-2.ensures
