use Rattle.nodes.specs.Trees.{PartsAt, trees_start}
use Prim.Native.Nat.{◌-◌}
use mathlib.Core.Path.{◌≡◌}
use Rattle.nodes.proofs.parts_start.Given as goal

abbrev pub invariant-loop-part : goal.invariant-loop-part
invariant-loop-part l = PartsAt l.s (l.n - l._part) l.at × (trees_start l.s (l.n - l._part) l.at ≡ trees_start l.s l.n l.hi)
