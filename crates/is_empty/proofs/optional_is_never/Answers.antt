use Rattle.remove_useless.proofs.Predicates.{present_ends}
use Rattle.is_empty.proofs.Predicates.{absent_never, present_never}
use borrow.Author.Tests.{eq-eqb}
use Rattle.is_empty.proofs.optional_is_never.Goals as goal

pub returns-else-lo-hi : goal.returns-else-lo-hi
returns-else-lo-hi c = rw (eq-eqb c.args.lo c.args.hi c.if-lo-hi.false) (absent_never c.if-lo-hi.false)

pub is_never-requires : goal.is_never-requires
is_never-requires c = present_ends c.if-lo-hi.true c.requires

pub returns-then-lo-hi : goal.returns-then-lo-hi
returns-then-lo-hi c = present_never c.if-lo-hi.true c.is_never.result c.is_never.ensures
