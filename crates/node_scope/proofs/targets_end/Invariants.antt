use Prim.Native.Nat.{◌≤◌, max}
use mathlib.Core.Path.{◌≡◌}
use Rattle.node_scope.specs.Own.{segment, targets_end}
use Rattle.node_scope.proofs.targets_end.Given as goal

abbrev pub invariant-loop-i : goal.invariant-loop-i
invariant-loop-i l = (l.end ≤ 4294967296) × (max l.end (targets_end (segment l.s l.i l.to)) ≡ targets_end (segment l.s l.from l.to))
