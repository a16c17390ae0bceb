use Rattle.cells.proofs.Laws.{then}
use Rattle.listing.proofs.Written.{then_more, totals_written}
use borrow.Author.Rules.{rules}
use Rattle.listing.proofs.totals.Goals as goal

pub overflow_add-k : goal.overflow_add-k
overflow_add-k c = let few = c.kinds_of-k.ensures.sum_few in search rules

pub overflow_add-k-2 : goal.overflow_add-k-2
overflow_add-k-2 c = let few = c.kinds_of-k.ensures.sum_few in search rules

pub returns : goal.returns
returns c = totals_written _ _ c.kinds_of-k.ensures (then c.text-a.auto.d c.text-a.ensures (then_more c.kinds_of-k.result.expressions 32 c.number-b.auto.d c.number-b.ensures (then_more c.kinds_of-k.result.parts 32 c.number-c.auto.d c.number-c.ensures (then_more c.kinds_of-k.result.nodes 32 c.number-e.auto.d c.number-e.ensures (then c.text-f.auto.d c.text-f.ensures c.number.ensures)))))
