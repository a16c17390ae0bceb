use Rattle.column_numbers.proofs.Changing.{Changing}
use mathlib.Core.Path.{◌≡◌}
use lib.ListN.{length}
use Rattle.column_numbers.proofs.change_columns.Given as goal

abbrev pub invariant-loop-i : goal.invariant-loop-i
invariant-loop-i l = (length l.d ≡ length l.initial.d) × Changing l.k l.initial.d l.at l.n l.i l.d
