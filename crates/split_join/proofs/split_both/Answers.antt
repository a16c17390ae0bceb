use Rattle.split_join.proofs.Placing.{left_at, right_at, from_left, left_none, left_full, left_room, left_done}
use native.Mathlib.Omega.{arith}
use mathlib.Core.Path.{sym, ◌∙◌}
use Rattle.split_join.proofs.split_both.Goals as goal

pub own_part-part-requires : goal.own_part-part-requires
own_part-part-requires c = record { node_at = left_at c.requires.join_at; expression_at = c.requires.expression_at; g_len = c.requires.g_len }

pub split_right-requires : goal.split_right-requires
split_right-requires c = record { join_at = c.requires.join_at; y_len = c.own_part-part.auto.d ∙ c.requires.y_len; expression_at = c.requires.expression_at; g_len = c.own_part-part.auto.g ∙ c.requires.g_len }

pub shape_of-x-in_default : goal.shape_of-x-in_default
shape_of-x-in_default c = c.split_right.auto.x

pub shape_of-y-in_default : goal.shape_of-y-in_default
shape_of-y-in_default c = c.split_right.auto.y ∙ c.own_part-part.auto.d

pub shape_of-g-in_default : goal.shape_of-g-in_default
shape_of-g-in_default c = c.split_right.auto.g ∙ c.own_part-part.auto.g

pub returns-in_default : goal.returns-in_default
returns-in_default c = left_none c.args.origin c.args.n c.own_part-part.ensures c.in_default.is c.split_right.ensures

pub own_start-own-requires : goal.own_start-own-requires
own_start-own-requires c = left_at c.requires.join_at

pub push_part-b-requires : goal.push_part-b-requires
push_part-b-requires c = record { node_at = right_at c.requires.join_at; expression_at = c.requires.expression_at; g_len = c.own_part-part.auto.g ∙ c.requires.g_len }

pub replace_end-u-requires : goal.replace_end-u-requires
replace_end-u-requires c = record { join_at = c.requires.join_at; lo_le_from = from_left c.requires.join_at c.own_start-own.ensures; y_len = c.push_part-b.auto.d ∙ (c.own_part-part.auto.d ∙ c.requires.y_len); expression_at = c.requires.expression_at; g_len = c.push_part-b.auto.g ∙ (c.own_part-part.auto.g ∙ c.requires.g_len) }

pub shape_of-x-then-x-u : goal.shape_of-x-then-x-u
shape_of-x-then-x-u c = c.replace_end-u.auto.x

pub shape_of-y-then-x-u : goal.shape_of-y-then-x-u
shape_of-y-then-x-u c = c.replace_end-u.auto.y ∙ (c.push_part-b.auto.d ∙ c.own_part-part.auto.d)

pub shape_of-g-then-x-u : goal.shape_of-g-then-x-u
shape_of-g-then-x-u c = c.replace_end-u.auto.g ∙ (c.push_part-b.auto.g ∙ c.own_part-part.auto.g)

pub returns-then-x-u : goal.returns-then-x-u
returns-then-x-u c = left_full c.args.origin c.args.n c.own_part-part.ensures c.in-Some.is c.own_start-own.ensures c.own_part-part.auto.d c.push_part-b.auto.d c.push_part-b.ensures c.replace_end-u.ensures c.if-x-u.true

pub overflow_sub-u : goal.overflow_sub-u
overflow_sub-u c = (left_room c.args.origin c.args.n c.own_part-part.ensures c.in-Some.is c.own_start-own.ensures c.own_part-part.auto.d c.push_part-b.auto.d c.push_part-b.ensures c.replace_end-u.ensures (c.requires.y_len ∙ sym c.replace_end-u.auto.x) c.if-x-u.false (omega (arith, c.replace_end-u.auto.x, c.requires.join_at.short)) c.requires.join_at c.requires.expression_at).0

pub overflow_sub-u-2 : goal.overflow_sub-u-2
overflow_sub-u-2 c = (left_room c.args.origin c.args.n c.own_part-part.ensures c.in-Some.is c.own_start-own.ensures c.own_part-part.auto.d c.push_part-b.auto.d c.push_part-b.ensures c.replace_end-u.ensures (c.requires.y_len ∙ sym c.replace_end-u.auto.x) c.if-x-u.false (omega (arith, c.replace_end-u.auto.x, c.requires.join_at.short)) c.requires.join_at c.requires.expression_at).1.0

pub reseal-requires : goal.reseal-requires
reseal-requires c = (left_room c.args.origin c.args.n c.own_part-part.ensures c.in-Some.is c.own_start-own.ensures c.own_part-part.auto.d c.push_part-b.auto.d c.push_part-b.ensures c.replace_end-u.ensures (c.requires.y_len ∙ sym c.replace_end-u.auto.x) c.if-x-u.false (omega (arith, c.replace_end-u.auto.x, c.requires.join_at.short)) c.requires.join_at c.requires.expression_at).1.1

pub shape_of-x : goal.shape_of-x
shape_of-x c = c.reseal.auto.x ∙ c.replace_end-u.auto.x

pub shape_of-y : goal.shape_of-y
shape_of-y c = c.replace_end-u.auto.y ∙ (c.push_part-b.auto.d ∙ c.own_part-part.auto.d)

pub shape_of-g : goal.shape_of-g
shape_of-g c = c.replace_end-u.auto.g ∙ (c.push_part-b.auto.g ∙ c.own_part-part.auto.g)

pub returns : goal.returns
returns c = left_done c.args.origin c.args.n c.own_part-part.ensures c.in-Some.is c.own_start-own.ensures c.own_part-part.auto.d c.push_part-b.auto.d c.push_part-b.ensures c.replace_end-u.ensures (c.requires.y_len ∙ sym c.replace_end-u.auto.x) c.if-x-u.false (omega (arith, c.replace_end-u.auto.x, c.requires.join_at.short)) c.reseal.auto.x c.reseal.ensures
