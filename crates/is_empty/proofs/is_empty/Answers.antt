use Rattle.nodes.proofs.Widths.{counted_as, two_left}
use native.Mathlib.Omega.{arith}
use Rattle.is_empty.proofs.is_empty.Goals as goal

pub source_count-requires : goal.source_count-requires
source_count-requires c = c.requires

pub leaf_is_empty-requires : goal.leaf_is_empty-requires
leaf_is_empty-requires c = record { node_at = c.requires; source_count = counted_as c.source_count.ensures c.in-0.is }

pub returns-in-0 : goal.returns-in-0
returns-in-0 c = c.leaf_is_empty.ensures

pub over_is_empty-requires : goal.over_is_empty-requires
over_is_empty-requires c = record { node_at = c.requires; source_count = counted_as c.source_count.ensures c.in-1.is }

pub returns-in-1 : goal.returns-in-1
returns-in-1 c = c.over_is_empty.ensures

pub join_is_empty-requires : goal.join_is_empty-requires
join_is_empty-requires c = record { node_at = c.requires; source_count = two_left c.source_count.ensures (λ z. omega arith) (λ z. omega arith) }

pub returns-in_default : goal.returns-in_default
returns-in_default c = c.join_is_empty.ensures
