use Rattle.sql.specs.Room.{IndexLookup}
use Rattle.passes.proofs.Running.{asked, runs}
use Prim.Native.Nat.{◌-◌}
use native.Mathlib.Omega.{arith}
use Rattle.passes.proofs.look_up.Goals as goal

pub transform-n-requires : goal.transform-n-requires
transform-n-requires c = record { stream_at = asked (λ schema text g. g) c.requires.alike.second c.requires.plan_at; z_len = (omega (arith, c.requires.alike.second, c.requires.alike.third), omega (arith, c.requires.alike.second, c.requires.alike.fourth)) }

pub returns : goal.returns
returns c = runs (λ schema text g. g) c.requires.alike.second c.requires.plan_at.short IndexLookup c.transform-n.ensures c.in_room.ensures
