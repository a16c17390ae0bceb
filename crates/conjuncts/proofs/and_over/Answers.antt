use Rattle.conjuncts.proofs.Appending.{join_full, join_first, join_next}
use Rattle.conjuncts.proofs.and_over.Goals as goal

pub returns-then-d-at : goal.returns-then-d-at
returns-then-d-at c = join_full c.args.origin c.if-d-at.true

pub returns-then-at-from : goal.returns-then-at-from
returns-then-at-from c = join_first c.args.origin c.if-d-at.false c.if-at-from.true

pub returns : goal.returns
returns c = join_next c.args.origin c.if-d-at.false c.if-at-from.false (rw c.new.ensures at c.put.ensures.0)
