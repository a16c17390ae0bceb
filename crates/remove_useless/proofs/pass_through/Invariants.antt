use Prim.Native.Nat.{ℕ}
use Rattle.sql.specs.Plan.{Label}
use Rattle.sql.specs.Expression.{Expression}
use Rattle.cells.specs.Cells.{Part}
use Rattle.words.specs.Words.{all_words, item_words}
use Rattle.remove_useless.proofs.Items.{Unasked}
use mathlib.Core.Path.{◌≡◌}
use mathlib.Core.List.{List}
use lib.ListN.{length}
use Rattle.remove_useless.proofs.pass_through.Given as goal

abbrev pub invariant-loop-i : goal.invariant-loop-i
invariant-loop-i l = (items : List (Expression × Label × ℕ)) → Part l.s l.lo l.hi (all_words item_words items) → l.n ≡ length items → Unasked l.s l.lo l.end l.i items
