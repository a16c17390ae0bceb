use Rattle.column_labels.proofs.Steps.{Labelled}
use Prim.Native.Nat.{◌≤◌}
use mathlib.Core.Path.{◌≡◌}
use lib.ListN.{length}
use Rattle.column_labels.proofs.each_label.Given as goal

abbrev pub invariant-loop-i : goal.invariant-loop-i
invariant-loop-i l = (length l.d ≡ length l.initial.d) × ((l.i ≤ l.n) × Labelled l.origin l.tables l.columns l.s l.lo l.hi l.initial.d l.at l.i l.end l.d)
