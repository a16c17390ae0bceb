use Rattle.column_numbers.proofs.Steps.{copy_cells, change_full, change_done}
use mathlib.Core.Path.{refl}
use Rattle.column_numbers.proofs.map_columns.Goals as goal

pub returns-then-d-n : goal.returns-then-d-n
returns-then-d-n c = change_full c.copy-n.auto.d c.copy-n.ensures c.args.k c.if-d-n.true

pub change_columns-requires : goal.change_columns-requires
change_columns-requires c = copy_cells c.copy-n.auto.d c.copy-n.ensures c.if-d-n.false c.requires

pub returns : goal.returns
returns c = change_done c.copy-n.auto.d c.copy-n.ensures c.args.k c.if-d-n.false refl c.change_columns.ensures
