use Prim.Native.Nat.{◌+◌, ◌-◌, ◌*◌}
use Rattle.short_circuit.proofs.+short_circuit_short_circuit_source.Given as goal

abbrev pub decreases-short_circuit : goal.decreases-short_circuit
decreases-short_circuit l = 2 * (l.hi - l.lo)

abbrev pub decreases-short_circuit_source : goal.decreases-short_circuit_source
decreases-short_circuit_source l = 2 * (l.hi - l.lo) + 1
