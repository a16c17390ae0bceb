use Rattle.filter_pushdown.proofs.From.{whole_plan}
use Rattle.filter_pushdown.proofs.filter_pushdown.Goals as goal

pub push_filters_from-requires : goal.push_filters_from-requires
push_filters_from-requires c = record { pass_at = c.requires.pass_at; buffers = c.requires.buffers }

pub returns : goal.returns
returns c = whole_plan c.push_filters_from.ensures
