use Rattle.column_numbers.proofs.Changing.{rest_in, rest_room, rest_none, turn_kept, turn_changed}
use native.Mathlib.Omega.{arith}
use Rattle.column_numbers.proofs.change_columns.Goals as goal
use Rattle.column_numbers.proofs.change_columns.Goals.{then-d-i-eq-COLUMN, else-d-i-eq-COLUMN}

pub bounds-d-i : goal.bounds-d-i
bounds-d-i c = let (h, k) = rest_in c.requires.part.low (c.loop-i.invariant.1 c.requires.cells c.requires.part) (omega arith) in omega arith

pub bounds-d-i-then-d-i-eq-COLUMN : goal.bounds-d-i-then-d-i-eq-COLUMN
bounds-d-i-then-d-i-eq-COLUMN c = let (h, k) = rest_in c.requires.part.low (c.loop-i.invariant.1 c.requires.cells c.requires.part) (omega arith) in omega arith

pub changed-requires : goal.changed-requires
changed-requires c = rest_room c.requires.part.low (c.loop-i.invariant.1 c.requires.cells c.requires.part) (omega arith) c.requires.room c.if-d-i-eq-COLUMN.true

pub bounds-d-i-then-d-i-eq-COLUMN-2 : goal.bounds-d-i-then-d-i-eq-COLUMN-2
bounds-d-i-then-d-i-eq-COLUMN-2 c = let (h, k) = rest_in c.requires.part.low (c.loop-i.invariant.1 c.requires.cells c.requires.part) (omega arith) in omega arith

pub loop-i-preserved : goal.loop-i-preserved
loop-i-preserved c = elim c.if-d-i-eq-COLUMN.branch [ then-d-i-eq-COLUMN w ↦ turn_changed c.loop-i-test.true c.loop-i.invariant w.if-d-i-eq-COLUMN.true w.changed.ensures w.d-is | else-d-i-eq-COLUMN w ↦ turn_kept c.loop-i-test.true c.loop-i.invariant w.if-d-i-eq-COLUMN.false w.d-is ]

pub returns : goal.returns
returns c = λ cs p. rest_none p.low (c.loop-i.invariant.1 cs p) (omega arith)

-- after the last cell
pub returns-after-d-i-eq-COLUMN : goal.returns-after-d-i-eq-COLUMN
returns-after-d-i-eq-COLUMN c = λ cs p. elim c.if-d-i-eq-COLUMN.branch [ then-d-i-eq-COLUMN w ↦ rest_none p.low ((turn_changed c.loop-i-test.true c.loop-i.invariant w.if-d-i-eq-COLUMN.true w.changed.ensures w.d-is).1 cs p) (omega arith) | else-d-i-eq-COLUMN w ↦ rest_none p.low ((turn_kept c.loop-i-test.true c.loop-i.invariant w.if-d-i-eq-COLUMN.false w.d-is).1 cs p) (omega arith) ]
