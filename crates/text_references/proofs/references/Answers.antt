use Rattle.text_references.proofs.Laws.{listed_all}
use Rattle.text_references.proofs.references.Goals as goal

pub returns : goal.returns
returns c = listed_all c.args.s.now c.parts_of-p.result c.parts_of-p.ensures c.list_records-records.ensures c.list_cells.ensures
