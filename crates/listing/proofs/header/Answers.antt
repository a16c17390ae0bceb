use Rattle.listing.proofs.Written.{then_more}
use Rattle.cells.proofs.Laws.{then}
use Rattle.listing.proofs.header.Goals as goal

pub returns : goal.returns
returns c = then c.text-a.auto.d c.text-a.ensures (then_more c.args.cells 32 c.number-b.auto.d c.number-b.ensures (then c.text-c.auto.d c.text-c.ensures (then_more c.args.bytes 32 c.number-e.auto.d c.number-e.ensures (then c.text-f.auto.d c.text-f.ensures c.number.ensures))))
