-- `scope::outside_in` meets its contract: the loop keeps `Walked`: what is on the stack and what is left of the cells give the answer for all cells. Reading then says that these are the plan's.
use Rattle.scope.proofs.Stack.{start, past_plain, broken, sources_small, out_of_scope, past_node, end_empty, end_plan}
use Rattle.scope.proofs.Reading.{judges}
use Rattle.layout.proofs.Laws.{cells_are}
use native.Mathlib.Omega.{arith}
use mathlib.Core.Path.{refl}
use borrow.Author.Rules.{rules}
use Rattle.scope.proofs.outside_in.Goals as goal

pub loop-i-init : goal.loop-i-init
loop-i-init c = (refl, start _ _ c.requires.1)

pub loop-i-preserved-then-k-lt-NODES : goal.loop-i-preserved-then-k-lt-NODES
loop-i-preserved-then-k-lt-NODES c = (c.loop-i.invariant.0, (past_plain _ c.loop-i.invariant.1 (omega (arith, cells_are c.parts_of-i-end.ensures, c.loop-i-test.true)) c.cell_at-k.ensures.is c.if-k-lt-NODES.true))

pub shape_of-widths-then-depth-n : goal.shape_of-widths-then-depth-n
shape_of-widths-then-depth-n c = c.loop-i.invariant.0

pub returns-then-depth-n : goal.returns-then-depth-n
returns-then-depth-n c = judges _ (λ j. (c.shared_slice_known-1.given j).fits) (broken _ c.loop-i.invariant.1 (omega (arith, cells_are c.parts_of-i-end.ensures, c.loop-i-test.true)) c.cell_at-k.ensures.is c.if-k-lt-NODES.false c.sources-n.ensures.0 c.sources-n.ensures.1 c.if-depth-n.true)

pub width_at-left-requires : goal.width_at-left-requires
width_at-left-requires c = omega (arith, c.loop-i.invariant.1.room, c.loop-i.invariant.1.depth_few, c.loop-i.invariant.1.within)

pub width_at-right-requires : goal.width_at-right-requires
width_at-right-requires c = omega (arith, c.loop-i.invariant.1.room, c.loop-i.invariant.1.depth_few, c.loop-i.invariant.1.within)

pub columns_read-read-requires : goal.columns_read-read-requires
columns_read-read-requires c = record { cell_at = record { whole = c.requires.0; within = omega (arith, cells_are c.parts_of-i-end.ensures, c.loop-i-test.true) }; right_bound = omega (arith, c.parts_of-i-end.ensures.cells_few, c.loop-i-test.true, sources_small _ c.loop-i.invariant.1 (omega (arith, cells_are c.parts_of-i-end.ensures, c.loop-i-test.true)) c.cell_at-k.ensures.is c.if-k-lt-NODES.false c.sources-n.ensures.0 c.sources-n.ensures.1 c.if-depth-n.false c.width_at-left.ensures c.width_at-right.ensures) }

pub node_outside-requires : goal.node_outside-requires
node_outside-requires c = (record { whole = c.requires.0; order = c.loop-i.invariant.1.order; within = c.loop-i.invariant.1.within }, record { whole = c.requires.0; within = omega (arith, cells_are c.parts_of-i-end.ensures, c.loop-i-test.true) })

pub shape_of-widths-in-Some : goal.shape_of-widths-in-Some
shape_of-widths-in-Some c = c.loop-i.invariant.0

pub returns-in-Some : goal.returns-in-Some
returns-in-Some c = judges _ (λ j. (c.shared_slice_known-1.given j).fits) (out_of_scope _ c.loop-i.invariant.1 (omega (arith, cells_are c.parts_of-i-end.ensures, c.loop-i-test.true)) c.cell_at-k.ensures.is c.if-k-lt-NODES.false c.sources-n.ensures.0 c.sources-n.ensures.1 c.if-depth-n.false c.width_at-left.ensures c.width_at-right.ensures c.columns_read-read.ensures.is c.node_outside.ensures c.in-Some.is)

pub node_columns-requires : goal.node_columns-requires
node_columns-requires c = (record { whole = c.requires.0; order = c.loop-i.invariant.1.order; within = c.loop-i.invariant.1.within }, record { whole = c.requires.0; within = omega (arith, cells_are c.parts_of-i-end.ensures, c.loop-i-test.true) })

pub offset_bounds-widths-rest : goal.offset_bounds-widths-rest
offset_bounds-widths-rest c = omega (arith, c.parts_of-i-end.ensures.cells_few, c.loop-i-test.true, c.loop-i.invariant.1.depth_few)

pub bounds-widths-rest : goal.bounds-widths-rest
bounds-widths-rest c = omega (arith, cells_are c.parts_of-i-end.ensures, c.loop-i-test.true, c.loop-i.invariant.1.room, c.loop-i.invariant.1.depth_few, c.loop-i.invariant.1.within)

pub overflow_add-depth : goal.overflow_add-depth
overflow_add-depth c = omega (arith, c.parts_of-i-end.ensures.cells_few, c.loop-i-test.true, c.loop-i.invariant.1.depth_few)

pub loop-i-preserved : goal.loop-i-preserved
loop-i-preserved c = (search rules, (past_node _ c.loop-i.invariant.1 (omega (arith, cells_are c.parts_of-i-end.ensures, c.loop-i-test.true)) c.cell_at-k.ensures.is c.if-k-lt-NODES.false c.sources-n.ensures.0 c.sources-n.ensures.1 c.if-depth-n.false c.width_at-left.ensures c.width_at-right.ensures c.columns_read-read.ensures.is c.node_outside.ensures c.in_default.is c.node_columns.ensures.is c.columns_read-read.ensures.small c.node_columns.ensures.small (omega (arith, cells_are c.parts_of-i-end.ensures, c.parts_of-i-end.ensures.cells_few))))

pub shape_of-widths-then-depth-eq0 : goal.shape_of-widths-then-depth-eq0
shape_of-widths-then-depth-eq0 c = c.loop-i.invariant.0

pub returns-then-depth-eq0 : goal.returns-then-depth-eq0
returns-then-depth-eq0 c = judges _ (λ j. (c.shared_slice_known-1.given j).fits) (end_empty _ c.loop-i.invariant.1 (omega (arith, cells_are c.parts_of-i-end.ensures, c.loop-i-test.false)) c.if-depth-eq0.true)

pub bounds-widths-depth : goal.bounds-widths-depth
bounds-widths-depth c = omega (arith, c.loop-i.invariant.1.room, c.loop-i.invariant.1.depth_few, c.loop-i.invariant.1.within)

pub shape_of-widths : goal.shape_of-widths
shape_of-widths c = c.loop-i.invariant.0

pub returns : goal.returns
returns c = judges _ (λ j. (c.shared_slice_known-1.given j).fits) (end_plan _ c.loop-i.invariant.1 (omega (arith, cells_are c.parts_of-i-end.ensures, c.loop-i-test.false)) c.if-depth-eq0.false)
