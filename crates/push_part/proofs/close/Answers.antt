use Rattle.push_into.proofs.Taking.{taker_at}
use Rattle.push_part.proofs.Parts.{own_in, closed_predicate, close_full, close_none, close_some}
use Rattle.push_part.proofs.close.Goals as goal

pub returns-then-d-at : goal.returns-then-d-at
returns-then-d-at c = close_full c.args.origin c.if-d-at.true

pub copy-requires : goal.copy-requires
copy-requires c = (own_in (taker_at c.requires.taker_at) c.requires.own_start).1

pub shape_of-d-then-at-mid : goal.shape_of-d-then-at-mid
shape_of-d-then-at-mid c = c.copy.auto.d

pub returns-then-at-mid : goal.returns-then-at-mid
returns-then-at-mid c = close_none c.args.origin c.if-d-at.false c.if-at-mid.true c.requires.own_start c.copy.ensures

pub with_predicate-requires : goal.with_predicate-requires
with_predicate-requires c = record { taker_at = c.requires.taker_at; predicate_written = closed_predicate c.if-d-at.false c.if-at-mid.false c.requires.closeable_at }

pub shape_of-d : goal.shape_of-d
shape_of-d c = c.with_predicate.auto.d

pub returns : goal.returns
returns c = close_some c.args.origin c.if-d-at.false c.if-at-mid.false c.with_predicate.ensures
