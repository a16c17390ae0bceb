use Prim.Native.Nat.{◌+◌, ◌*◌, ◌≤◌}
use mathlib.Core.Path.{◌≡◌}
use lib.ListN.{length, drop}
use Rattle.encode.specs.Encode.{written}
use Rattle.compact.specs.Slots.{cell_slots, in_each, references, slot_bytes}
use Rattle.compactor.specs.Compactor.{fill}
use Rattle.compactor.proofs.put_cells.Given as goal

abbrev pub invariant-loop-i : goal.invariant-loop-i
invariant-loop-i l = (length l.out ≡ length l.initial.out) × ((l.i ≤ l.n) × ((l.j ≤ l.first + l.i * 2) × ((l.j ≡ l.first + length (references (in_each (cell_slots l.s) l.from l.i))) × (l.out ≡ written l.initial.out l.at (slot_bytes (fill (in_each (cell_slots l.s) l.from l.i) (drop l.first l.fresh)))))))
