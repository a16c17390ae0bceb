use Rattle.nodes.specs.Trees.{TreesAt, trees_start}
use Prim.Native.Nat.{◌-◌}
use mathlib.Core.Path.{◌≡◌}
use Rattle.nodes.proofs.trees_start.Given as goal

abbrev pub invariant-loop : goal.invariant-loop
invariant-loop l = TreesAt l.s (l.n - l.counter) l.at × (trees_start l.s (l.n - l.counter) l.at ≡ trees_start l.s l.n l.hi)
