use Rattle.structure.proofs.Read.{Going}
use mathlib.Core.Path.{◌≡◌}
use lib.ListN.{length}
use Rattle.structure.proofs.lacking_in.Given as goal

abbrev pub invariant-loop-i : goal.invariant-loop-i
invariant-loop-i l = (length l.stack ≡ length l.initial.stack) × Going l.s l.stack l.height l.i
