use Rattle.chain.proofs.Chains.{tag_in, a_filter, one_source}
use native.Mathlib.Omega.{arith}
use Rattle.chain.proofs.is_other.Goals as goal

pub tag_at-requires : goal.tag_at-requires
tag_at-requires c = tag_in c.requires

pub returns-then-tag_at-ne-FILTER : goal.returns-then-tag_at-ne-FILTER
returns-then-tag_at-ne-FILTER c = one_source c.tag_at.ensures c.if-tag_at-ne-FILTER.true c.source_count.ensures

pub returns-else-tag_at-ne-FILTER : goal.returns-else-tag_at-ne-FILTER
returns-else-tag_at-ne-FILTER c = a_filter c.tag_at.ensures c.if-tag_at-ne-FILTER.false
