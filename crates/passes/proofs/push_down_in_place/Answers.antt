use Rattle.sql.specs.Room.{FilterPushdown}
use Rattle.passes.proofs.Running.{push_asked, push_left}
use Prim.Native.Nat.{◌-◌}
use Rattle.passes.proofs.push_down_in_place.Goals as goal

pub filter_pushdown-n-requires : goal.filter_pushdown-n-requires
filter_pushdown-n-requires c = record { pass_at = push_asked c.requires.plan_at; buffers = record { first = c.requires.alike.second; second = c.requires.alike.third; third = c.requires.alike.fourth } }

pub returns : goal.returns
returns c = push_left c.requires.plan_at.short FilterPushdown c.filter_pushdown-n.ensures c.in_room.ensures
