use Rattle.is_empty.proofs.Nodes.{source_end, source_told}
use Rattle.is_empty.proofs.source_is_nothing.Goals as goal

pub own_start-requires : goal.own_start-requires
own_start-requires c = c.requires.node_at

pub tag_at-requires : goal.tag_at-requires
tag_at-requires c = source_end c.requires.source_count c.own_start.ensures c.requires.node_at

pub returns : goal.returns
returns c = source_told c.requires.source_count c.own_start.ensures c.tag_at.ensures
