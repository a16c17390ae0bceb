use Rattle.nodes.proofs.Own.{at_in}
use Rattle.push_into.proofs.Taking.{taker}
use Rattle.push_part.proofs.Parts.{own_in, part_closeable, push_taken, push_refused}
use native.Mathlib.Omega.{arith}
use mathlib.Core.Path.{◌∙◌}
use Rattle.push_part.proofs.push_part.Goals as goal

pub takes-requires : goal.takes-requires
takes-requires c = c.requires.node_at

pub own_start-m-requires : goal.own_start-m-requires
own_start-m-requires c = c.requires.node_at

pub copy-a-requires : goal.copy-a-requires
copy-a-requires c = let (a, (b, e)) = own_in c.requires.node_at c.own_start-m.ensures in (a, omega arith)

pub part-b-requires : goal.part-b-requires
part-b-requires c = record { expression_at = c.requires.expression_at; g_len = c.requires.g_len }

pub close-requires : goal.close-requires
close-requires c = record { taker_at = taker c.requires.node_at c.takes.ensures c.if-takes.true; own_start = c.own_start-m.ensures; closeable_at = part_closeable c.args.origin c.args.into c.args.n c.args.shift c.requires.node_at c.requires.expression_at c.own_start-m.ensures c.copy-a.auto.d c.part-b.auto.d c.copy-a.ensures c.part-b.ensures }

pub shape_of-g-then-takes : goal.shape_of-g-then-takes
shape_of-g-then-takes c = c.part-b.auto.g

pub shape_of-d-then-takes : goal.shape_of-d-then-takes
shape_of-d-then-takes c = c.close.auto.d ∙ (c.part-b.auto.d ∙ c.copy-a.auto.d)

pub returns-then-takes : goal.returns-then-takes
returns-then-takes c = push_taken c.args.origin c.args.into c.args.n c.args.shift c.takes.ensures c.if-takes.true c.own_start-m.ensures c.copy-a.auto.d c.part-b.auto.d c.copy-a.ensures c.part-b.ensures c.close.ensures

pub copy-requires : goal.copy-requires
copy-requires c = let (a, b) = at_in c.requires.node_at in (omega arith, b)

pub shape_of-d : goal.shape_of-d
shape_of-d c = c.copy.auto.d

pub returns : goal.returns
returns c = push_refused c.args.origin c.args.into c.args.n c.args.shift c.takes.ensures c.if-takes.false c.copy.ensures
