use Rattle.conjuncts.proofs.Appending.{appends_mapped}
use Rattle.sql.specs.Expression.{shift_column_down}
use Rattle.conjuncts.proofs.append.Goals as goal

pub returns : goal.returns
returns c = appends_mapped c.move_down-m.auto.d c.args.origin (shift_column_down c.args.shift) c.move_down-m.ensures c.and_over.ensures
