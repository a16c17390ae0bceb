use Rattle.push_into.proofs.Taking.{taker}
use Rattle.push_part.proofs.Parts.{part_predicate, own_nothing, own_taken, own_refused}
use mathlib.Core.Path.{◌∙◌}
use Rattle.push_part.proofs.own_part.Goals as goal

pub takes-requires : goal.takes-requires
takes-requires c = c.requires.node_at

pub part-m-requires : goal.part-m-requires
part-m-requires c = record { expression_at = c.requires.expression_at; g_len = c.requires.g_len }

pub shape_of-g-then-m-eq0 : goal.shape_of-g-then-m-eq0
shape_of-g-then-m-eq0 c = c.part-m.auto.g

pub shape_of-d-then-m-eq0 : goal.shape_of-d-then-m-eq0
shape_of-d-then-m-eq0 c = c.part-m.auto.d

pub returns-then-m-eq0 : goal.returns-then-m-eq0
returns-then-m-eq0 c = own_nothing c.args.origin c.args.into c.args.n c.args.shift c.takes.ensures c.part-m.ensures c.if-m-eq0.true

pub with_predicate-requires : goal.with_predicate-requires
with_predicate-requires c = record { taker_at = taker c.requires.node_at c.takes.ensures c.if-not-takes.false; predicate_written = part_predicate c.args.origin c.args.into c.args.n c.args.shift c.requires.expression_at c.part-m.auto.d c.if-m-eq0.false c.part-m.ensures }

pub shape_of-g : goal.shape_of-g
shape_of-g c = c.part-m.auto.g

pub shape_of-d : goal.shape_of-d
shape_of-d c = c.with_predicate.auto.d ∙ c.part-m.auto.d

pub returns : goal.returns
returns c = own_taken c.args.origin c.args.into c.args.n c.args.shift c.takes.ensures c.part-m.ensures c.if-not-takes.false c.if-m-eq0.false c.part-m.auto.d c.with_predicate.ensures

pub returns-then-not-takes : goal.returns-then-not-takes
returns-then-not-takes c = own_refused c.args.origin c.args.into c.args.n c.args.shift c.takes.ensures c.if-not-takes.true
