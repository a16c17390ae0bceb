use Rattle.column_labels.proofs.Steps.{label_put}
use Rattle.column_labels.proofs.put_label.Goals as goal

pub returns : goal.returns
returns c = label_put c.args.origin c.args.l c.label_cell.ensures c.put.ensures.0
