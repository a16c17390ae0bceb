-- `layout::half_at` meets its contract: the bytes that it read are those of the definition.
use native.Mathlib.Omega.{arith}
use Rattle.sheet.specs.Bytes.{half}
use Rattle.layout.proofs.half_at.Goals as goal

pub returns : goal.returns
unfolding half
returns c = record { is = omega (arith, c.from.ensures, c.from_le_bytes.ensures); small = omega (arith, c.from.ensures, c.from_le_bytes.type_inv) }
