use Rattle.nodes.proofs.Widths.{Remaining}
use Rattle.words.specs.Words.{all_words, target_words}
use Rattle.cells.specs.Cells.{Part}
use mathlib.Core.Option.{Option}
use Prim.Native.Nat.{ℕ}
use mathlib.Core.List.{List}
use Rattle.nodes.proofs.remap_columns.Given as goal

abbrev pub invariant-loop-i : goal.invariant-loop-i
invariant-loop-i l = (ts : List (Option ℕ × ℕ)) → Part l.s l.lo l.hi (all_words target_words ts) → Remaining l.s l.hi l.i l.n ts
