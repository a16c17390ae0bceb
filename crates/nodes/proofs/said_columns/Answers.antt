use Rattle.nodes.proofs.Widths.{columns_node, counted_as, one_source, own_tag}
use Rattle.nodes.proofs.said_columns.Goals as goal

pub source_count-requires : goal.source_count-requires
source_count-requires c = columns_node c.requires.columns_at

pub leaf_columns-requires : goal.leaf_columns-requires
leaf_columns-requires c = record { node_at = columns_node c.requires.columns_at; source_count = counted_as c.source_count.ensures c.if-source_count-eq0.true }

pub returns-then-source_count-eq0 : goal.returns-then-source_count-eq0
returns-then-source_count-eq0 c = c.leaf_columns.ensures

pub own_columns-requires : goal.own_columns-requires
own_columns-requires c = record { columns_at = c.requires.columns_at; source_count = one_source c.requires.goes_through c.source_count.ensures c.if-source_count-eq0.false; own_start = c.requires.own_start; fact = own_tag c.requires.goes_through (one_source c.requires.goes_through c.source_count.ensures c.if-source_count-eq0.false) (columns_node c.requires.columns_at) }

pub returns : goal.returns
returns c = c.own_columns.ensures
