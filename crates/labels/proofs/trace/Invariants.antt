use Rattle.labels.proofs.Tracing.{Way}
use Prim.Native.Nat.{◌-◌}
use Rattle.labels.proofs.trace.Given as goal

abbrev pub invariant-loop-traced : goal.invariant-loop-traced
invariant-loop-traced l = Way l.tables l.s l.lo l.hi l.i l.spot.lo l.spot.hi l.spot.column l.spot.columns

abbrev pub decreases-loop-traced : goal.decreases-loop-traced
decreases-loop-traced l = l.spot.hi - l.spot.lo
