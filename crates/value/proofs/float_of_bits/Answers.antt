-- `value::float_of_bits` meets its contract.
use mathlib.Core.Path.{sym}
use lib.Ieee.{binary64}
use lib.Ieee as Ieee
use Rattle.value.proofs.Laws.{is_nan, nan_pattern, number_pattern}
use Rattle.value.proofs.float_of_bits.Goals as goal

pub returns-then-bits-gt9218868437227405312 : goal.returns-then-bits-gt9218868437227405312
unfolding Ieee.of_bits Ieee.div
returns-then-bits-gt9218868437227405312 c = sym (is_nan (Ieee.of_bits binary64 c.args.bits) (nan_pattern c.args.bits c.if-bits-gt9218868437227405312.true))

pub float_from_bits-result : goal.float_from_bits-result
float_from_bits-result c = number_pattern c.args.bits c.if-bits-gt9218868437227405312.false
