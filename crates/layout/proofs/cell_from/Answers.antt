-- `layout::cell_from` meets its contract: the numbers that it read are those of the definition.
use Rattle.layout.proofs.Laws.{cell_holds}
use Rattle.layout.proofs.cell_from.Goals as goal

pub returns : goal.returns
returns c =
    cell_holds _ _ c.tag_at.ensures c.byte_at.ensures
    c.half_at.ensures c.word_at.ensures c.word_at-2.ensures c.word_at-3.ensures
