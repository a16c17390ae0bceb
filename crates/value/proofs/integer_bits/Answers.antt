use mathlib.Core.Path.{◌∙◌, ap}
use mir.Val.{of_z}
use mir.ValLaws.{to_z-of_z}
use mir.Syntax.{w64}
use Rattle.value.proofs.Patterns.{two_complement}
use Rattle.value.proofs.integer_bits.Goals as goal

-- `value::integer_bits` meets its contract.

pub returns : goal.returns
returns c = c.cast_unsigned.ensures ∙ ap (of_z w64) (to_z-of_z w64 c.args.i c.ranges.i) ∙ two_complement c.args.i
