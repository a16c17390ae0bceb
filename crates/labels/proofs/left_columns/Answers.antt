use Rattle.labels.proofs.Tracing.{left_counted, right_below, left_by_right}
use Rattle.nodes.proofs.Widths.{columns_node, sources_in, left_columns_at, right_columns_at}
use native.Mathlib.Omega.{arith}
use Rattle.labels.proofs.left_columns.Goals as goal

pub overflow_sub-mid : goal.overflow_sub-mid
overflow_sub-mid c = let (a, (b, d)) = sources_in c.requires.source_count c.requires.own_start c.requires.mid_value (columns_node c.requires.counted_at.at) in omega arith

pub overflow_sub-m : goal.overflow_sub-m
overflow_sub-m c = let (a, (b, d)) = sources_in c.requires.source_count c.requires.own_start c.requires.mid_value (columns_node c.requires.counted_at.at) in omega arith

pub columns-requires : goal.columns-requires
columns-requires c = left_columns_at c.requires.source_count c.requires.own_start c.requires.mid_value c.requires.counted_at.at

pub returns-then-mid-spot : goal.returns-then-mid-spot
returns-then-mid-spot c = left_counted c.requires.source_count c.requires.own_start c.requires.mid_value c.columns.ensures

pub columns-right-requires : goal.columns-right-requires
columns-right-requires c = right_columns_at c.requires.source_count c.requires.own_start c.requires.mid_value c.requires.counted_at.at

pub overflow_sub-result : goal.overflow_sub-result
overflow_sub-result c = right_below c.requires.source_count c.requires.own_start c.requires.mid_value c.requires.counted_at c.columns-right.ensures

pub returns : goal.returns
returns c = left_by_right c.requires.source_count c.requires.own_start c.requires.mid_value c.columns-right.ensures
