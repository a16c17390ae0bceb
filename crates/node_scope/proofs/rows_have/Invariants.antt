use mathlib.Core.Path.{◌≡◌}
use Rattle.node_scope.specs.Own.{segment, rows_have}
use Rattle.node_scope.proofs.rows_have.Given as goal

abbrev pub invariant-loop-i : goal.invariant-loop-i
invariant-loop-i l = rows_have l.n (segment l.s l.i l.to) ≡ rows_have l.n (segment l.s l.from l.to)
