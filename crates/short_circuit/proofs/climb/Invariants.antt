use Rattle.short_circuit.specs.ShortCircuit.{Climbing}
use Prim.Native.Nat.{ℕ}
use mathlib.Core.Path.{◌≡◌}
use mathlib.Core.List.{List}
use lib.ListN.{length}
use Rattle.short_circuit.proofs.climb.Given as goal

abbrev pub invariant-loop-m : goal.invariant-loop-m
invariant-loop-m l =
    (length l.z ≡ length l.initial.z)
    × ((length l.y ≡ length l.initial.y)
    × ((lo : ℕ) (s : List ℕ) → Climbing l.tables l.columns l.x lo l.end l.hi l.tail s l.at l.u l.initial.y → Climbing l.tables l.columns l.x lo l.m l.hi l.tail s l.at l.n l.y))
