use Rattle.split_join.proofs.Placing.{split_in, right_sized, left_columns, join_at, split_whole}
use Rattle.split_join.proofs.split.Goals as goal

pub start-mid-requires : goal.start-mid-requires
start-mid-requires c = right_sized c.requires.own_start c.requires.split_at

pub columns-n-requires : goal.columns-n-requires
columns-n-requires c = left_columns c.requires.own_start c.start-mid.ensures c.requires.split_at

pub overflow_sub-t : goal.overflow_sub-t
overflow_sub-t c = (split_in c.requires.split_at).0

pub origin_at-origin-requires : goal.origin_at-origin-requires
origin_at-origin-requires c = (split_in c.requires.split_at).1

pub split_both-requires : goal.split_both-requires
split_both-requires c = record { join_at = join_at c.requires.own_start c.start-mid.ensures c.requires.split_at c.origin_at-origin.ensures; y_len = c.requires.y_len; expression_at = c.requires.expression_at; g_len = c.requires.g_len }

pub shape_of-x : goal.shape_of-x
shape_of-x c = c.split_both.auto.x

pub shape_of-y : goal.shape_of-y
shape_of-y c = c.split_both.auto.y

pub shape_of-g : goal.shape_of-g
shape_of-g c = c.split_both.auto.g

pub returns : goal.returns
returns c = split_whole c.requires.own_start c.start-mid.ensures c.columns-n.ensures c.origin_at-origin.ensures c.split_both.ensures
