use Rattle.scope.proofs.Stack.{Walked}
use mathlib.Core.Path.{◌≡◌}
use lib.ListN.{length}
use Rattle.scope.proofs.outside_in.Given as goal

abbrev pub invariant-loop-i : goal.invariant-loop-i
invariant-loop-i l = (length l.widths ≡ length l.initial.widths) × Walked l.s l.widths l.depth l.own l.i
