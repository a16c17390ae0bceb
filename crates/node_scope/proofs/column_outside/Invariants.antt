use mathlib.Core.Path.{◌≡◌}
use Rattle.node_scope.specs.Own.{segment, column_out}
use Rattle.node_scope.proofs.column_outside.Given as goal

abbrev pub invariant-loop-i : goal.invariant-loop-i
invariant-loop-i l = column_out l.n l.i (segment l.s l.i l.to) ≡ column_out l.n l.from (segment l.s l.from l.to)
