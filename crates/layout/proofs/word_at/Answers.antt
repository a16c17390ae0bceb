-- `layout::word_at` meets its contract: the bytes that it read are those of the definition.
use native.Mathlib.Omega.{arith}
use Rattle.sheet.specs.Bytes.{word}
use Rattle.layout.proofs.word_at.Goals as goal

pub returns : goal.returns
unfolding word
returns c = record { is = omega (arith, c.from_le_bytes.ensures); small = c.from_le_bytes.type_inv }
