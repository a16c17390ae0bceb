use Rattle.nodes.proofs.Widths.{counting_first, counting_size, counting_in, counting_at, counting_columns_at, counting_few, counting_own, counting_said, counting_through, counting_done, through_as}
use native.Mathlib.Omega.{arith}
use Rattle.nodes.proofs.columns.Goals as goal

pub loop-end-init : goal.loop-end-init
loop-end-init c = counting_first

pub start-from-requires : goal.start-from-requires
start-from-requires c = counting_size c.loop-end.invariant c.requires c.loop-end-test.true

pub own_start-m-requires : goal.own_start-m-requires
own_start-m-requires c = counting_at c.loop-end.invariant c.requires c.loop-end-test.true c.start-from.ensures

pub goes_through-requires : goal.goes_through-requires
goes_through-requires c = counting_at c.loop-end.invariant c.requires c.loop-end-test.true c.start-from.ensures

pub loop-end-smaller-then-goes_through : goal.loop-end-smaller-then-goes_through
loop-end-smaller-then-goes_through c = counting_own c.loop-end.invariant c.requires c.loop-end-test.true c.start-from.ensures c.goes_through.ensures c.if-goes_through.true c.own_start-m.ensures

pub loop-end-preserved-then-goes_through : goal.loop-end-preserved-then-goes_through
loop-end-preserved-then-goes_through c = counting_through c.loop-end.invariant c.loop-end-test.true c.start-from.ensures c.requires c.goes_through.ensures c.if-goes_through.true c.own_start-m.ensures

pub said_columns-total-requires : goal.said_columns-total-requires
said_columns-total-requires c = record { columns_at = counting_columns_at c.loop-end.invariant c.requires c.loop-end-test.true c.start-from.ensures; own_start = c.own_start-m.ensures; goes_through = through_as c.goes_through.ensures c.if-goes_through.false }

pub overflow_add-total : goal.overflow_add-total
overflow_add-total c = omega (arith, counting_few c.loop-end.invariant c.requires c.loop-end-test.true c.start-from.ensures c.said_columns-total.ensures)

pub loop-end-smaller : goal.loop-end-smaller
loop-end-smaller c = let (h, k) = counting_in c.loop-end.invariant c.requires c.loop-end-test.true c.start-from.ensures in k

pub loop-end-preserved : goal.loop-end-preserved
loop-end-preserved c = counting_said c.loop-end.invariant c.loop-end-test.true c.start-from.ensures c.requires c.said_columns-total.ensures

pub returns : goal.returns
returns c = counting_done c.loop-end.invariant c.loop-end-test.false
