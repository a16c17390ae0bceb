use Rattle.layout.proofs.Cells.{cell_test}
use Rattle.layout.proofs.Failing.{Passed}
use Rattle.layout.proofs.bad_cell.Given as goal

abbrev pub invariant-loop-i : goal.invariant-loop-i
invariant-loop-i l = Passed (cell_test l.s) l.i-end l.i
