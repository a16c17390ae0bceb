use Rattle.push_part.proofs.Parts.{back_joinable, back_taken, back_full, back_nothing, back_long, back_one}
use native.Mathlib.Omega.{arith}
use mathlib.Core.Path.{◌∙◌}
use Rattle.push_part.proofs.come_back.Goals as goal

pub takes-requires : goal.takes-requires
takes-requires c = c.requires.node_at

pub returns-then-takes : goal.returns-then-takes
returns-then-takes c = back_taken c.args.origin c.args.into c.args.n c.takes.ensures c.if-takes.true

pub returns-then-d-at : goal.returns-then-d-at
returns-then-d-at c = back_full c.args.origin c.args.into c.args.n c.takes.ensures c.if-takes.false c.if-d-at.true

pub part-m-requires : goal.part-m-requires
part-m-requires c = record { expression_at = c.requires.expression_at; g_len = c.requires.g_len }

pub shape_of-g-then-m-at : goal.shape_of-g-then-m-at
shape_of-g-then-m-at c = c.part-m.auto.g

pub shape_of-d-then-m-at : goal.shape_of-d-then-m-at
shape_of-d-then-m-at c = c.part-m.auto.d

pub returns-then-m-at : goal.returns-then-m-at
returns-then-m-at c = back_nothing c.args.origin c.args.into c.args.n c.takes.ensures c.if-takes.false c.if-d-at.false c.part-m.auto.d c.part-m.ensures c.if-m-at.true

pub shape_of-g-then-d-m : goal.shape_of-g-then-d-m
shape_of-g-then-d-m c = c.part-m.auto.g

pub shape_of-d-then-d-m : goal.shape_of-d-then-d-m
shape_of-d-then-d-m c = c.part-m.auto.d

pub returns-then-d-m : goal.returns-then-d-m
returns-then-d-m c = back_long c.args.origin c.args.into c.args.n c.takes.ensures c.if-takes.false c.if-d-at.false c.part-m.auto.d c.part-m.ensures (omega (arith, c.part-m.auto.d, c.if-d-m.true))

pub and_over-requires : goal.and_over-requires
and_over-requires c = back_joinable c.args.origin c.args.into c.args.n c.requires.expression_at c.requires.gathered_at c.part-m.auto.d c.part-m.ensures c.if-m-at.false (omega (arith, c.part-m.auto.d, c.if-d-m.false))

pub shape_of-g : goal.shape_of-g
shape_of-g c = c.part-m.auto.g

pub shape_of-d : goal.shape_of-d
shape_of-d c = c.and_over.auto.d ∙ c.part-m.auto.d

pub returns : goal.returns
returns c = back_one c.args.origin c.args.into c.args.n c.takes.ensures c.if-takes.false c.if-d-at.false c.part-m.auto.d c.part-m.ensures c.if-m-at.false (omega (arith, c.part-m.auto.d, c.if-d-m.false)) c.and_over.ensures
