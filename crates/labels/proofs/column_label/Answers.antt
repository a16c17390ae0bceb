use Rattle.labels.proofs.Texts.{label_said_here, label_of_column}
use Rattle.labels.proofs.column_label.Goals as goal

pub trace-requires : goal.trace-requires
trace-requires c = record { columns_at = c.requires.columns_at; column_count = c.requires.column_count }

pub table_label-requires : goal.table_label-requires
table_label-requires c = c.requires.records_at

pub returns-in-Said : goal.returns-in-Said
returns-in-Said c = label_said_here c.trace.ensures c.in-Said.label c.in-Said.is

pub returns-in-Column : goal.returns-in-Column
returns-in-Column c = label_of_column c.trace.ensures c.in-Column.table c.in-Column.alias c.in-Column.column c.in-Column.is c.table_label.result c.table_label.ensures
