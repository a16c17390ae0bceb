use Rattle.column_labels.proofs.Steps.{cell_none, cell_name, cell_both}
use Rattle.column_labels.proofs.label_cell.Goals as goal

pub returns-in-Unlabelled : goal.returns-in-Unlabelled
returns-in-Unlabelled c = cell_none c.args.origin c.new-cell.ensures c.args.l c.in-Unlabelled.is

pub returns-in-Unqualified : goal.returns-in-Unqualified
returns-in-Unqualified c = cell_name c.args.origin c.new-cell.ensures c.args.l c.in-Unqualified.name c.in-Unqualified.is

pub returns-in-Qualified : goal.returns-in-Qualified
returns-in-Qualified c = cell_both c.args.origin c.new-cell.ensures c.args.l c.in-Qualified.table c.in-Qualified.name c.in-Qualified.is
