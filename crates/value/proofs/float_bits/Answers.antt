use mathlib.Core.Path.{sym, ap, ◌∙◌}
use lib.Ieee.{binary64}
use lib.Ieee as Ieee
use Rattle.value.proofs.Laws.{is_nan}
use Rattle.value.proofs.float_bits.Goals as goal

-- `value::float_bits` meets its contract.

pub returns-then-is_nan : goal.returns-then-is_nan
unfolding Ieee.to_bits
returns-then-is_nan c = sym (ap (Ieee.to_bits binary64) (is_nan c.args.x (sym c.is_nan.ensures.value ∙ c.if-is_nan.true)))
