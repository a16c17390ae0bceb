use Rattle.passes.proofs.Running.{circuit_asked, circuited}
use Prim.Native.Nat.{◌-◌}
use native.Mathlib.Omega.{arith}
use Rattle.passes.proofs.short_circuit.Goals as goal

pub short_circuit-n-requires : goal.short_circuit-n-requires
short_circuit-n-requires c = record { circuit_at = circuit_asked c.requires.y_len.0 c.requires.plan_at; z_len = omega (arith, c.requires.y_len.0, c.requires.y_len.1) }

pub returns : goal.returns
returns c = circuited c.requires.y_len.0 c.requires.plan_at.short c.short_circuit-n.ensures c.in_room.ensures
