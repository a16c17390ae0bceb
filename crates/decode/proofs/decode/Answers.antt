use Rattle.decode.proofs.Laws.{whole, going_start, trees_last, going_on, going_full, going_done}
use native.Mathlib.Omega.{arith}
use mathlib.Core.Path.{refl, ◌∙◌}
use Rattle.decode.proofs.decode.Goals as goal

pub parts_of-parts-requires : goal.parts_of-parts-requires
parts_of-parts-requires c = whole c.requires

pub loop-i-init : goal.loop-i-init
loop-i-init c = (refl, going_start c.args.s.now _ (λ j. (c.shared_slice_known-1.given j).fits) c.requires)

pub overflow_mul-i : goal.overflow_mul-i
overflow_mul-i c = omega (arith, c.parts_of-parts.ensures.cells_few)

pub overflow_add-first : goal.overflow_add-first
overflow_add-first c = omega (arith, c.parts_of-parts.ensures.cells_end)

pub cell_from-k-requires : goal.cell_from-k-requires
cell_from-k-requires c = omega (arith, c.parts_of-parts.ensures.cells_end)

pub put_over-at-requires : goal.put_over-at-requires
put_over-at-requires c = trees_last c.loop-i.invariant.1 c.parts_of-parts.ensures c.loop-i-test.true c.cell_from-k.ensures

pub returns-then-x-at : goal.returns-then-x-at
returns-then-x-at c = going_full c.loop-i.invariant.1 c.parts_of-parts.ensures c.loop-i-test.true c.cell_from-k.ensures c.put_over-at.ensures c.loop-i.invariant.0 c.put_over-at.auto.x (omega arith) (omega arith)

pub loop-i-preserved : goal.loop-i-preserved
loop-i-preserved c = (c.put_over-at.auto.x ∙ c.loop-i.invariant.0, going_on c.loop-i.invariant.1 c.parts_of-parts.ensures c.loop-i-test.true c.cell_from-k.ensures c.put_over-at.ensures c.put_over-at.auto.x (omega arith))

pub returns : goal.returns
returns c = going_done c.loop-i.invariant.1 c.parts_of-parts.ensures (omega arith) c.loop-i.invariant.0
