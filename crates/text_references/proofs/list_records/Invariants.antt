use Prim.Native.Nat.{◌≤◌}
use mathlib.Core.Path.{◌≡◌}
use lib.ListN.{length}
use Rattle.compact.specs.Slots.{record_slots, in_each}
use Rattle.text_references.specs.Asks.{Listed}
use Rattle.text_references.proofs.list_records.Given as goal

abbrev pub invariant-loop-i : goal.invariant-loop-i
invariant-loop-i l = (length l.refs ≡ length l.initial.refs) × ((l.i ≤ l.n) × Listed (in_each (record_slots l.s) l.at l.i) l.initial.refs 0 l.i l.refs l.i)
