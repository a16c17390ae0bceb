use Rattle.encode.proofs.Laws.{Going}
use Rattle.cells.specs.Cells.{cell_words}
use Prim.Native.Nat.{◌*◌}
use mathlib.Core.Path.{◌≡◌}
use lib.ListN.{length}
use Rattle.encode.proofs.put_cells.Given as goal

abbrev pub invariant-loop-i : goal.invariant-loop-i
invariant-loop-i l = (length l.out ≡ length l.initial.out) × Going l.x l.n l.initial.out l.at l.out l.to (l.i * cell_words)
