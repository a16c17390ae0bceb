use Rattle.convert.proofs.Laws.{Going}
use Rattle.convert.specs.Convert.{origin_in}
use mathlib.Core.Path.{◌≡◌}
use lib.ListN.{length}
use Rattle.convert.proofs.put_origins.Given as goal

abbrev pub invariant-loop-i : goal.invariant-loop-i
invariant-loop-i l = (length l.out ≡ length l.initial.out) × Going (origin_in l.target) l.at l.cells l.initial.out l.out l.i
