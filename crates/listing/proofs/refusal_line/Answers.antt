use Rattle.listing.proofs.Written.{then_more}
use Rattle.sheet.specs.Listing.{refusal_line}
use Rattle.cells.proofs.Laws.{then}
use Rattle.listing.proofs.refusal_line.Goals as goal

pub returns : goal.returns
unfolding refusal_line
returns c = then c.text-a.auto.d c.text-a.ensures (then_more c.args.refused 32 c.number-b.auto.d c.number-b.ensures (then c.text-c.auto.d c.text-c.ensures c.number.ensures))
