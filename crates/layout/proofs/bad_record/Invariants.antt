use Rattle.layout.proofs.Failing.{Passed}
use Rattle.sheet.specs.Parts.{record_ok}
use Prim.Native.Nat.{◌+◌, ◌≤◌}
use Rattle.layout.proofs.bad_record.Given as goal

abbrev pub invariant-loop-i : goal.invariant-loop-i
invariant-loop-i l = (l.i ≤ l.i-end) × Passed (record_ok l.s) (l.i-end + l.p.columns.count) l.i
