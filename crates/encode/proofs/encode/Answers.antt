use Rattle.encode.proofs.Laws.{first_is, room_start, room_cells, room_trailer, encodes}
use mathlib.Core.Path.{◌∙◌}
use Rattle.encode.proofs.encode.Goals as goal

pub put-first-requires : goal.put-first-requires
put-first-requires c = room_start c.args.s.now c.parts_of-p.ensures c.requires

pub put_cells-last-requires : goal.put_cells-last-requires
put_cells-last-requires c = room_cells c.args.s.now c.parts_of-p.ensures c.requires c.put-first.auto.out (first_is c.args.s.now c.parts_of-p.ensures c.requires c.put-first.ensures.0)

pub put_trailer-requires : goal.put_trailer-requires
put_trailer-requires c = room_trailer c.args.s.now c.parts_of-p.ensures c.requires c.put_cells-last.new.out (c.put_cells-last.auto.out ∙ c.put-first.auto.out) (first_is c.args.s.now c.parts_of-p.ensures c.requires c.put-first.ensures.0) c.put_cells-last.ensures.0

pub returns : goal.returns
returns c = encodes c.args.s.now c.parts_of-p.ensures c.requires (first_is c.args.s.now c.parts_of-p.ensures c.requires c.put-first.ensures.0, c.put-first.ensures.1) c.put_cells-last.ensures c.word_at-edition.ensures.is c.put_trailer.ensures
