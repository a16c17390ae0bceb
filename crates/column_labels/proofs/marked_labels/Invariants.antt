use Rattle.sql.specs.Expression.{Marked}
use Rattle.sql.specs.Plan.{Label}
use Rattle.cells.specs.Room.{Wrote}
use Rattle.words.specs.Words.{all_words, label_words}
use Rattle.column_labels.proofs.Steps.{Marking}
use Prim.Native.Nat.{ℕ, ◌≤◌}
use mathlib.Core.Path.{◌≡◌}
use mathlib.Core.List.{List}
use lib.ListN.{length}
use Rattle.column_labels.proofs.marked_labels.Given as goal

abbrev pub invariant-loop-i : goal.invariant-loop-i
invariant-loop-i l = (length l.d ≡ length l.initial.d) × ((e : List ℕ) (ls : List (Marked Label)) → l.end ≤ length e → Wrote e l.at (all_words label_words ls) l.end l.initial.d → Marking l.origin e l.at l.end l.i ls l.d)
