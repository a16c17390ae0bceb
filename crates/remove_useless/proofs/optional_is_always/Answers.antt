use Rattle.remove_useless.proofs.Predicates.{absent_always, present_ends, present_always}
use borrow.Author.Tests.{eq-eqb}
use Rattle.remove_useless.proofs.optional_is_always.Goals as goal

pub returns-else-lo-hi : goal.returns-else-lo-hi
returns-else-lo-hi c = rw (eq-eqb c.args.lo c.args.hi c.if-lo-hi.false) (absent_always c.if-lo-hi.false)

pub is_always-requires : goal.is_always-requires
is_always-requires c = present_ends c.if-lo-hi.true c.requires

pub returns-then-lo-hi : goal.returns-then-lo-hi
returns-then-lo-hi c = present_always c.if-lo-hi.true c.is_always.result c.is_always.ensures
