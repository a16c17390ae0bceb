use Rattle.text_references.proofs.Laws.{listed_cell}
use Rattle.text_references.proofs.list_cell.Goals as goal

pub returns : goal.returns
returns c = listed_cell c.args.s.now c.args.p c.cell_from.result c.cell_from.ensures c.fields-a.ensures c.push-i.ensures c.push.ensures
