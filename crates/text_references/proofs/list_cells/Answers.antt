use Prim.Native.Nat.{◌*◌}
use native.Mathlib.Omega.{arith}
use mathlib.Core.Path.{refl, ◌∙◌}
use Rattle.text_references.proofs.Laws.{listed_none, cells_on, listed_to}
use Rattle.compact.specs.Slots.{cell_slots}
use Rattle.text_references.proofs.list_cells.Goals as goal

pub loop-i-init : goal.loop-i-init
loop-i-init c = (refl, (omega arith, listed_none c.args.refs.now c.args.from))

pub list_cell-j-requires : goal.list_cell-j-requires
list_cell-j-requires c = (omega arith, omega (arith, c.requires.1, c.loop-i.invariant.0, c.loop-i.invariant.1.1.few))

pub loop-i-preserved : goal.loop-i-preserved
loop-i-preserved c = (c.list_cell-j.auto.refs ∙ c.loop-i.invariant.0, (omega arith, cells_on c.args.s.now c.args.at c.loop-i.i c.loop-i.invariant.1.1 c.list_cell-j.ensures))

pub returns : goal.returns
returns c = listed_to (cell_slots c.args.s.now) c.args.at c.loop-i.i c.args.n (c.loop-i.i * 2) (c.args.n * 2) (omega (arith, c.loop-i.invariant.1.0)) (omega (arith, c.loop-i.invariant.1.0)) c.loop-i.invariant.1.1
