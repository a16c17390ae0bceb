use Rattle.cells.proofs.Laws.{then}
use Rattle.listing.proofs.Decimal.{decimal_at, as_written}
use mathlib.Core.Path.{◌∙◌}
use native.Mathlib.Omega.{arith}
use Rattle.listing.proofs.number.Goals as goal

pub returns : goal.returns
returns c = then c.text-m.auto.d (as_written (c.as_bytes.ensures.value ∙ decimal_at c.args.n c.format.ensures.text (omega arith) (omega arith)) c.text-m.ensures) c.text.ensures
