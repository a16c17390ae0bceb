-- `structure::lacking_in` meets its contract. The loop reads cell after cell, and the array holds the sorts of the trees that they are.
-- Assumes nothing.
use Rattle.structure.proofs.Read.{going_start, going_on, going_lacks, ends_one, ends_many, ends_part}
use Rattle.layout.proofs.Laws.{cells_are}
use native.Mathlib.Omega.{arith}
use mathlib.Core.Path.{refl, ◌∙◌}
use Rattle.structure.proofs.lacking_in.Goals as goal

pub parts_of-parts-requires : goal.parts_of-parts-requires
parts_of-parts-requires c = c.requires.whole.0

pub loop-i-init : goal.loop-i-init
loop-i-init c = (refl, going_start c.args.s.now _)

pub cell_from-k-requires : goal.cell_from-k-requires
cell_from-k-requires c = omega (arith, c.parts_of-parts.ensures.cells_end, c.loop-i.invariant.1.within)

pub reduced-requires : goal.reduced-requires
reduced-requires c = omega (arith, cells_are c.parts_of-parts.ensures, c.loop-i-test.true, c.loop-i.invariant.1.few, c.loop-i.invariant.0, c.requires.s_in_bounds)

pub shape_of-stack-in_default : goal.shape_of-stack-in_default
shape_of-stack-in_default c = c.reduced.auto.stack ∙ c.loop-i.invariant.0

pub returns-in_default : goal.returns-in_default
returns-in_default c = going_lacks c.loop-i.invariant.1 c.parts_of-parts.ensures c.requires.whole.1 c.loop-i-test.true c.cell_from-k.ensures c.reduced.ensures c.in_default.is

pub loop-i-preserved : goal.loop-i-preserved
loop-i-preserved c = (c.reduced.auto.stack ∙ c.loop-i.invariant.0, going_on c.loop-i.invariant.1 c.parts_of-parts.ensures c.requires.whole.1 c.loop-i-test.true c.cell_from-k.ensures c.reduced.ensures c.in-Some.is)

pub shape_of-stack-then-height-ne1 : goal.shape_of-stack-then-height-ne1
shape_of-stack-then-height-ne1 c = c.loop-i.invariant.0

pub returns-then-height-ne1 : goal.returns-then-height-ne1
returns-then-height-ne1 c = ends_many c.loop-i.invariant.1 c.parts_of-parts.ensures c.loop-i-test.false c.if-height-ne1.true

pub shape_of-stack-in-Node : goal.shape_of-stack-in-Node
shape_of-stack-in-Node c = c.loop-i.invariant.0

pub returns-in-Node : goal.returns-in-Node
returns-in-Node c = ends_one c.loop-i.invariant.1 c.parts_of-parts.ensures c.loop-i-test.false c.if-height-ne1.false c.in-Node.is

pub shape_of-stack-in_default-stack : goal.shape_of-stack-in_default-stack
shape_of-stack-in_default-stack c = c.loop-i.invariant.0

pub returns-in_default-stack : goal.returns-in_default-stack
returns-in_default-stack c = ends_part c.loop-i.invariant.1 c.parts_of-parts.ensures c.loop-i-test.false c.if-height-ne1.false c.in_default-stack.not-Node
