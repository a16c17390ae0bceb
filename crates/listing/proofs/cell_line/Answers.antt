use Rattle.listing.proofs.Written.{then_more}
use Rattle.listing.proofs.cell_line.Goals as goal

pub returns : goal.returns
returns c = then_more c.args.i 32 c.number-tag.auto.d c.number-tag.ensures (then_more c.args.k.tag 32 c.number-flag.auto.d c.number-flag.ensures (then_more c.args.k.flag 32 c.number-a.auto.d c.number-a.ensures (then_more c.args.k.a 32 c.number-b.auto.d c.number-b.ensures (then_more c.args.k.b 32 c.number-c.auto.d c.number-c.ensures c.number.ensures))))
