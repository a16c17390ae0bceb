use mathlib.Core.Path.{◌≡◌}
use Rattle.node_scope.specs.Own.{segment, first_row}
use Rattle.node_scope.proofs.first_row.Given as goal

abbrev pub invariant-loop-i : goal.invariant-loop-i
invariant-loop-i l = first_row (segment l.s l.i l.to) ≡ first_row (segment l.s l.from l.to)
