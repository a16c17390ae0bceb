use Rattle.decode.proofs.Laws.{Going}
use mathlib.Core.Path.{◌≡◌}
use lib.ListN.{length}
use Rattle.decode.proofs.decode.Given as goal

abbrev pub invariant-loop-i : goal.invariant-loop-i
invariant-loop-i l = (length l.x ≡ length l.initial.x) × Going l.s l.x l.at l.i
