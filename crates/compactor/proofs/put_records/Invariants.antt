use Prim.Native.Nat.{◌+◌, ◌*◌, ◌≤◌}
use mathlib.Core.Path.{◌≡◌}
use lib.ListN.{length}
use Rattle.encode.specs.Encode.{written}
use Rattle.compact.specs.Slots.{record_slots, in_each, slot_bytes}
use Rattle.compactor.specs.Compactor.{fill}
use Rattle.compactor.proofs.put_records.Given as goal

abbrev pub invariant-loop-i : goal.invariant-loop-i
invariant-loop-i l = (length l.out ≡ length l.initial.out) × ((l.i ≤ l.n) × ((l.to ≡ l.at + l.i * 16) × (l.out ≡ written l.initial.out l.at (slot_bytes (fill (in_each (record_slots l.s) l.from l.i) l.fresh)))))
