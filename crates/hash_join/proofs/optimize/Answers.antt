use Rattle.hash_join.proofs.Joining.{columns_at, writes_streams}
use Rattle.hash_join.proofs.optimize.Goals as goal

pub hash_joins-requires : goal.hash_joins-requires
hash_joins-requires c = columns_at c.requires

pub returns : goal.returns
returns c = writes_streams c.hash_joins.auto.y c.hash_joins.ensures.writes
