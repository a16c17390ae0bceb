-- `layout::bad_cell` meets its contract: the loop's invariant is that no cell passed so far fails.
use Rattle.layout.proofs.Cells.{tested, cells_walked}
use Rattle.layout.proofs.Failing.{passed_none, passed_more, passed_but, passed_all}
use Rattle.layout.proofs.bad_cell.Goals as goal

pub loop-i-init : goal.loop-i-init
loop-i-init c = passed_none _ _

pub returns-then-not-cell_ok : goal.returns-then-not-cell_ok
returns-then-not-cell_ok c =
    cells_walked c.parts_of-p.ensures
    (passed_but _ c.loop-i.invariant c.loop-i-test.true (tested c.parts_of-p.ensures _ c.origins_of-origins.ensures c.cell_from-k.ensures c.cell_ok.ensures c.if-not-cell_ok.true))

pub loop-i-preserved : goal.loop-i-preserved
loop-i-preserved c =
    passed_more _ c.loop-i.invariant c.loop-i-test.true
    (tested c.parts_of-p.ensures _ c.origins_of-origins.ensures c.cell_from-k.ensures c.cell_ok.ensures c.if-not-cell_ok.false)

pub returns : goal.returns
returns c = cells_walked c.parts_of-p.ensures (passed_all _ c.loop-i.invariant c.loop-i-test.false)
