use Rattle.push_into.proofs.Taking.{node_at_in, takes_one, takes_none}
use borrow.Author.Rules.{rules}
use Rattle.push_into.proofs.takes.Goals as goal

pub tag_at-requires : goal.tag_at-requires
tag_at-requires c = node_at_in c.requires

pub returns-in-51 : goal.returns-in-51
returns-in-51 c = takes_one c.tag_at.ensures c.in-51.is

pub returns-in_default : goal.returns-in_default
returns-in_default c = takes_none c.tag_at.ensures (search rules)
