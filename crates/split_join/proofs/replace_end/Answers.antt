use Rattle.split_join.proofs.Placing.{left_at, right_at, join_there, end_in, end_replaced}
use native.Mathlib.Omega.{arith}
use mathlib.Core.Path.{◌∙◌}
use Rattle.split_join.proofs.replace_end.Goals as goal

pub joined_predicate-b-requires : goal.joined_predicate-b-requires
joined_predicate-b-requires c = record { node_at = left_at c.requires.join_at; node_at_2 = right_at c.requires.join_at; expression_at = c.requires.expression_at; g_len = c.requires.g_len }

pub overflow_sub-t : goal.overflow_sub-t
overflow_sub-t c = (end_in c.requires.join_at).0

pub rejoin-c-requires : goal.rejoin-c-requires
rejoin-c-requires c = join_there c.requires.join_at

pub replace_own-requires : goal.replace_own-requires
replace_own-requires c = let (a, (b, d)) = end_in c.requires.join_at in record { tail_bound = (omega (arith, c.requires.lo_le_from.1), d); lo_le_own = (c.requires.lo_le_from.0, λ z. c.rejoin-c.ensures.long (omega (arith, c.rejoin-c.auto.d))); y_len = c.rejoin-c.auto.d ∙ (c.joined_predicate-b.auto.d ∙ c.requires.y_len) }

pub shape_of-x : goal.shape_of-x
shape_of-x c = c.replace_own.auto.x

pub shape_of-y : goal.shape_of-y
shape_of-y c = c.replace_own.auto.y ∙ (c.rejoin-c.auto.d ∙ c.joined_predicate-b.auto.d)

pub shape_of-g : goal.shape_of-g
shape_of-g c = c.joined_predicate-b.auto.g

pub returns : goal.returns
returns c = end_replaced c.args.origin c.args.n c.joined_predicate-b.auto.d c.rejoin-c.auto.d c.joined_predicate-b.ensures c.rejoin-c.ensures c.replace_own.ensures
