use Rattle.labels.proofs.Tracing.{says_here, says_false_here, ends_own, moves_own, moves_source}
use Rattle.nodes.proofs.Widths.{columns_node, source_columns_at}
use Rattle.nodes.proofs.Own.{at_in}
use native.Mathlib.Omega.{arith}
use mathlib.Core.Path.{sym, ◌∙◌}
use Rattle.labels.proofs.next_over.Goals as goal

pub tag_at-requires : goal.tag_at-requires
tag_at-requires c = let (h, k) = at_in (columns_node c.requires.counted_at.at) in (omega arith, k)

pub own_route-requires : goal.own_route-requires
own_route-requires c = record { node_at = columns_node c.requires.counted_at.at; source_count = c.requires.source_count; own_start = c.requires.own_start; fact = says_here c.tag_at.ensures (sym c.says_columns.ensures ∙ c.if-not-says_columns.false) }

pub returns-in-Ends : goal.returns-in-Ends
returns-in-Ends c = ends_own c.args.spot.column c.requires.source_count c.requires.own_start (says_here c.tag_at.ensures (sym c.says_columns.ensures ∙ c.if-not-says_columns.false)) c.own_route.result c.own_route.ensures c.in-Ends.label c.in-Ends.is

pub columns_for-requires : goal.columns_for-requires
columns_for-requires c = source_columns_at c.requires.source_count c.requires.own_start c.requires.counted_at.at

pub returns-in-To : goal.returns-in-To
returns-in-To c = moves_own c.args.spot.column c.requires.source_count c.requires.own_start (says_here c.tag_at.ensures (sym c.says_columns.ensures ∙ c.if-not-says_columns.false)) c.own_route.result c.own_route.ensures c.in-To.column c.in-To.is c.requires.counted_at c.columns_for.ensures

pub returns-then-not-says_columns : goal.returns-then-not-says_columns
returns-then-not-says_columns c = let (y, z) = says_false_here c.tag_at.ensures (sym c.says_columns.ensures ∙ c.if-not-says_columns.true) in moves_source c.requires.source_count c.requires.own_start y z c.args.spot.column c.requires.counted_at
