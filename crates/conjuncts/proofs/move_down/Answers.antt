use Rattle.conjuncts.proofs.Appending.{copied_down}
use Rattle.conjuncts.proofs.move_down.Goals as goal

pub returns-then-shift-eq0 : goal.returns-then-shift-eq0
returns-then-shift-eq0 c = copied_down c.args.shift c.if-shift-eq0.true c.copy.ensures

pub returns : goal.returns
returns c = c.shift_column_down.ensures
