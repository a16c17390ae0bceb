use Rattle.labels.proofs.Tracing.{ends_leaf}
use Rattle.nodes.proofs.Widths.{columns_node, counted_as, two_left}
use Rattle.labels.proofs.next_of.Goals as goal

pub source_count-sources-requires : goal.source_count-sources-requires
source_count-sources-requires c = columns_node c.requires.at

pub leaf_traced-requires : goal.leaf_traced-requires
leaf_traced-requires c = record { node_at = columns_node c.requires.at; source_count = counted_as c.source_count-sources.ensures c.if-sources-eq0.true }

pub returns-then-sources-eq0 : goal.returns-then-sources-eq0
returns-then-sources-eq0 c = ends_leaf c.args.spot.column (counted_as c.source_count-sources.ensures c.if-sources-eq0.true) c.leaf_traced.result c.leaf_traced.ensures

pub own_start-m-requires : goal.own_start-m-requires
own_start-m-requires c = columns_node c.requires.at

pub next_over-requires : goal.next_over-requires
next_over-requires c = record { counted_at = c.requires; source_count = counted_as c.source_count-sources.ensures c.if-sources-eq1.true; own_start = c.own_start-m.ensures }

pub returns-then-sources-eq1 : goal.returns-then-sources-eq1
returns-then-sources-eq1 c = c.next_over.ensures

pub next_join-requires : goal.next_join-requires
next_join-requires c = record { counted_at = c.requires; source_count = two_left c.source_count-sources.ensures c.if-sources-eq0.false c.if-sources-eq1.false; own_start = c.own_start-m.ensures }

pub returns-else-sources-eq1 : goal.returns-else-sources-eq1
returns-else-sources-eq1 c = c.next_join.ensures
