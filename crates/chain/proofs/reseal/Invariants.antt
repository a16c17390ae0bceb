use Rattle.chain.proofs.Resizing.{Doing}
use Prim.Native.Nat.{◌-◌, ◌≤◌}
use mathlib.Core.Path.{◌≡◌}
use lib.ListN.{length}
use Rattle.chain.proofs.reseal.Given as goal

abbrev pub invariant-loop-at : goal.invariant-loop-at
invariant-loop-at l = (l.lo ≤ l.at) × ((l.at ≤ l.t - l.tail) × ((length l.x ≡ length l.initial.x) × Doing l.initial.x l.lo l.from (l.t - l.tail) l.at l.x))

abbrev pub decreases-loop-at : goal.decreases-loop-at
decreases-loop-at l = l.t - l.tail - l.at
