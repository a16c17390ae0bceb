use mathlib.Core.Path.{◌∙◌}
use mir.ValLaws.{to_z-of_z}
use mir.Syntax.{w64}
use Rattle.value.proofs.Patterns.{signed}
use Rattle.value.proofs.integer_of_bits.Goals as goal

-- `value::integer_of_bits` meets its contract.

pub returns : goal.returns
returns c = to_z-of_z w64 c.cast_signed.result (record { sfits = c.cast_signed.type_inv }) ∙ c.cast_signed.ensures ∙ signed c.args.bits
