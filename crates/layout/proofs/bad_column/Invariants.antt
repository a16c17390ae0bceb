use Rattle.layout.proofs.Failing.{Goes}
use Rattle.sheet.specs.Parts.{record_ok, first_failing}
use Prim.Native.Nat.{◌≤◌}
use Rattle.layout.proofs.bad_column.Given as goal

abbrev pub invariant-loop-i : goal.invariant-loop-i
invariant-loop-i l = (l.tables ≤ l.i) × Goes (record_ok l.s) (first_failing (record_ok l.s) l.tables l.p.columns.count) l.i-end l.i
