use Rattle.column_numbers.proofs.Steps.{replaced}
use Rattle.column_numbers.proofs.replace_column.Goals as goal

pub map_columns-requires : goal.map_columns-requires
map_columns-requires c = replaced c.args.from c.args.to c.requires

pub returns : goal.returns
returns c = c.map_columns.ensures
