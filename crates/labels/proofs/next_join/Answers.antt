use Rattle.labels.proofs.Tracing.{left_below, moves_left, moves_right}
use Rattle.nodes.proofs.Widths.{columns_node, join_sized}
use Rattle.labels.proofs.next_join.Goals as goal

pub start-mid-requires : goal.start-mid-requires
start-mid-requires c = join_sized c.requires.source_count c.requires.own_start (columns_node c.requires.counted_at.at)

pub left_columns-left-requires : goal.left_columns-left-requires
left_columns-left-requires c = record { counted_at = c.requires.counted_at; source_count = c.requires.source_count; own_start = c.requires.own_start; mid_value = c.start-mid.ensures }

pub returns-then-spot-left : goal.returns-then-spot-left
returns-then-spot-left c = moves_left c.requires.source_count c.requires.own_start c.start-mid.ensures c.requires.counted_at c.left_columns-left.ensures c.args.spot.column c.if-spot-left.true

pub overflow_sub-result-2 : goal.overflow_sub-result-2
overflow_sub-result-2 c = left_below c.requires.source_count c.requires.own_start c.start-mid.ensures c.requires.counted_at c.left_columns-left.ensures

pub returns : goal.returns
returns c = moves_right c.requires.source_count c.requires.own_start c.start-mid.ensures c.requires.counted_at c.left_columns-left.ensures c.args.spot.column c.if-spot-left.false
