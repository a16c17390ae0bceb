use Prim.Native.Nat.{◌+◌, ◌-◌}
use Rattle.cells.proofs.Laws.{put7, seals}
use native.Mathlib.Omega.{arith}
use Rattle.cells.proofs.put.Goals as goal

pub returns : goal.returns
returns c = let a = c.args in (seals a.k (omega arith) (omega arith) (put7 a.d.now a.at a.k.origin a.k.tag a.k.flag a.k.a a.k.b a.k.c (a.at - a.lo + 7) (omega arith)), λ h. absurd (omega arith))
