use Rattle.column_numbers.proofs.Steps.{down}
use Rattle.column_numbers.proofs.shift_column_down.Goals as goal

pub map_columns-requires : goal.map_columns-requires
map_columns-requires c = down c.args.n c.requires

pub returns : goal.returns
returns c = c.map_columns.ensures
