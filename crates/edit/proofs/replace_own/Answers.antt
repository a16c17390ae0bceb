use Rattle.edit.proofs.Edits.{own_full, own_room, own_done}
use Rattle.edit.proofs.replace_own.Goals as goal

pub returns-then-x-u : goal.returns-then-x-u
returns-then-x-u c = own_full c.args.x.now c.args.t c.requires.y_len c.replace-u.auto.x c.replace-u.ensures c.if-x-u.true

pub reseal-requires : goal.reseal-requires
reseal-requires c = own_room c.args.x.now c.args.t c.requires.y_len c.replace-u.auto.x c.replace-u.ensures c.requires.tail_bound c.requires.lo_le_own c.if-x-u.false

pub returns : goal.returns
returns c = own_done c.args.x.now c.args.t c.requires.y_len c.replace-u.auto.x c.replace-u.ensures c.if-x-u.false c.reseal.auto.x c.reseal.ensures
