-- `layout::table_from` meets its contract: the words that it read are those of the definition.
use Rattle.layout.proofs.Laws.{table_reads}
use Rattle.layout.proofs.table_from.Goals as goal

pub returns : goal.returns
returns c = table_reads _ _ c.word_at.ensures c.word_at-2.ensures c.word_at-3.ensures c.word_at-4.ensures
