use Rattle.labels.proofs.Tracing.{says_false_here}
use Rattle.nodes.proofs.Widths.{columns_node, counted_as, two_left, source_in, source_columns_at, join_sized, sources_in, left_columns_at, right_columns_at}
use Rattle.nodes.proofs.Own.{at_in}
use Rattle.column_labels.proofs.Steps.{source_written, sources_written}
use native.Mathlib.Omega.{arith}
use mathlib.Core.Path.{sym, ◌∙◌}
use Rattle.column_labels.proofs.+write_labels.Goals as goal

pub source_count-n-requires : goal.source_count-n-requires
source_count-n-requires t c = columns_node c.requires.columns_at

pub leaf_labels-requires : goal.leaf_labels-requires
leaf_labels-requires t c = record { columns_at = c.requires.columns_at; records_at = c.requires.records_at }

pub returns-then-n-eq0 : goal.returns-then-n-eq0
returns-then-n-eq0 t c = c.leaf_labels.ensures

pub own_start-m-requires : goal.own_start-m-requires
own_start-m-requires t c = columns_node c.requires.columns_at

pub tag_at-requires : goal.tag_at-requires
tag_at-requires t c = let (h, k) = at_in (columns_node c.requires.columns_at) in (omega arith, k)

pub each_label-requires : goal.each_label-requires
each_label-requires t c = record { columns_at = c.requires.columns_at; records_at = c.requires.records_at }

pub returns-then-says_columns : goal.returns-then-says_columns
returns-then-says_columns t c = c.each_label.ensures

pub write_labels-requires : goal.write_labels-requires
write_labels-requires t c = let s = counted_as c.source_count-n.ensures c.if-n-eq1.true in let (h, k) = source_in s c.own_start-m.ensures (columns_node c.requires.columns_at) in (omega (arith, c.decreases), (source_columns_at s c.own_start-m.ensures c.requires.columns_at, c.requires.records_at))

pub returns-then-n-eq1 : goal.returns-then-n-eq1
returns-then-n-eq1 t c = let (y, z) = says_false_here c.tag_at.ensures (sym c.says_columns.ensures ∙ c.if-says_columns.false) in source_written c.args.origin (counted_as c.source_count-n.ensures c.if-n-eq1.true) c.own_start-m.ensures y z c.write_labels.ensures

pub start-mid-requires : goal.start-mid-requires
start-mid-requires t c = join_sized (two_left c.source_count-n.ensures c.if-n-eq0.false c.if-n-eq1.false) c.own_start-m.ensures (columns_node c.requires.columns_at)

pub write_labels-next-requires : goal.write_labels-next-requires
write_labels-next-requires t c = let s = two_left c.source_count-n.ensures c.if-n-eq0.false c.if-n-eq1.false in let (h, (k, l)) = sources_in s c.own_start-m.ensures c.start-mid.ensures (columns_node c.requires.columns_at) in (omega (arith, c.decreases), (left_columns_at s c.own_start-m.ensures c.start-mid.ensures c.requires.columns_at, c.requires.records_at))

pub write_labels-requires-2 : goal.write_labels-requires-2
write_labels-requires-2 t c = let s = two_left c.source_count-n.ensures c.if-n-eq0.false c.if-n-eq1.false in let (h, (k, l)) = sources_in s c.own_start-m.ensures c.start-mid.ensures (columns_node c.requires.columns_at) in (omega (arith, c.decreases), (right_columns_at s c.own_start-m.ensures c.start-mid.ensures c.requires.columns_at, c.requires.records_at))

pub returns : goal.returns
returns t c = sources_written c.args.origin (two_left c.source_count-n.ensures c.if-n-eq0.false c.if-n-eq1.false) c.own_start-m.ensures c.start-mid.ensures c.write_labels-next.auto.d c.write_labels-next.ensures c.write_labels-2.ensures
