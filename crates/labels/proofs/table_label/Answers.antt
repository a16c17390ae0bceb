use Rattle.labels.proofs.Texts.{labels_table, qualifier_or, qualifier_parts}
use mathlib.Core.Path.{◌∙◌}
use Rattle.labels.proofs.table_label.Goals as goal

pub column_name-requires : goal.column_name-requires
column_name-requires c = c.requires

pub returns : goal.returns
returns c = labels_table c.args.t c.args.alias c.args.i c.table_name.ensures (c.qualifier-q.ensures ∙ (qualifier_parts c.args.alias c.table_name.result c.is_some.ensures c.unwrap_or.ensures ∙ qualifier_or c.args.alias c.table_name.result)) c.column_name.ensures
