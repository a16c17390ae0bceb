use mathlib.Core.Path.{ap, ◌∙◌}
use native.Mathlib.Nat.{pos_of_ne-zero}
use native.Mathlib.Omega.{arith}
use Rattle.ieee754.specs.Ieee754.{nearest_root}
use Rattle.ieee754.proofs.Pattern.{zeros_lt}
use Rattle.ieee754.proofs.RootDigits.{leading_digit, zeros_ge, shifted_digits, shifted_scaled, normal_digits, normal_scaled}
use Rattle.ieee754.proofs.positive_root.Goals as goal

-- `ieee754::positive_root` meets its contract: the digits that it hands on are those of the double. Assumes nothing.

pub overflow_sub-zeros : goal.overflow_sub-zeros
overflow_sub-zeros c = zeros_ge (leading_digit c.requires) c.if-field-eq0.true

pub overflow_cast-zeros : goal.overflow_cast-zeros
overflow_cast-zeros c = let l = zeros_lt (leading_digit c.requires) in record { fits = omega arith }

pub overflow_shl-p : goal.overflow_shl-p
overflow_shl-p c = let l = zeros_lt (leading_digit c.requires) in omega arith

pub overflow_sub-zeros-then-field-eq0 : goal.overflow_sub-zeros-then-field-eq0
overflow_sub-zeros-then-field-eq0 c = let l = zeros_lt (leading_digit c.requires) in omega arith

pub root_of_digits-requires : goal.root_of_digits-requires
root_of_digits-requires c = shifted_digits (leading_digit c.requires) c.if-field-eq0.true

pub returns-then-field-eq0 : goal.returns-then-field-eq0
returns-then-field-eq0 c = c.root_of_digits.ensures ∙ ap nearest_root (shifted_scaled (leading_digit c.requires) c.if-field-eq0.true)

pub root_of_digits-requires-2 : goal.root_of_digits-requires-2
root_of_digits-requires-2 c = normal_digits c.args.p c.requires.below

pub returns : goal.returns
returns c = c.root_of_digits-2.ensures ∙ ap nearest_root (normal_scaled c.args.p (pos_of_ne-zero c.if-field-eq0.false))
