use Rattle.labels.proofs.Routes.{Untried}
use Rattle.words.specs.Words.{all_words, target_words}
use Rattle.cells.specs.Cells.{Part}
use mathlib.Core.Option.{Option}
use Prim.Native.Nat.{ℕ, ◌≤◌}
use mathlib.Core.List.{List}
use Rattle.labels.proofs.remap_route.Given as goal

abbrev pub invariant-loop-at : goal.invariant-loop-at
invariant-loop-at l = (l.from ≤ l.at) × ((ts : List (Option ℕ × ℕ)) → Part l.s l.lo l.hi (all_words target_words ts) → Untried l.s l.hi l.at l.from l.i ts)
