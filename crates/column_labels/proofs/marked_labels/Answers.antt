use Rattle.cells.proofs.Laws.{part_in}
use Rattle.column_labels.proofs.Steps.{marking_first, marking_next, marking_all, marked_full}
use native.Mathlib.Omega.{arith}
use mathlib.Core.Path.{refl}
use lib.ListN.{length-set}
use Rattle.column_labels.proofs.marked_labels.Goals as goal

pub copy-end-requires : goal.copy-end-requires
copy-end-requires c = part_in c.requires.part

pub returns-then-d-end : goal.returns-then-d-end
returns-then-d-end c = λ ls p. marked_full c.args.origin ls (omega (arith, c.if-d-end.true)) (c.copy-end.ensures _ p)

pub loop-i-init : goal.loop-i-init
loop-i-init c = (refl, λ e ls h w. marking_first c.args.origin ls h w)

pub bounds-d-i : goal.bounds-d-i
bounds-d-i c = omega (arith, c.loop-i.invariant.0, c.copy-end.auto)

pub loop-i-preserved : goal.loop-i-preserved
loop-i-preserved c = (simp length-set c.loop-i.invariant.0, λ e ls h w. marking_next c.args.origin ls (c.loop-i.invariant.1 e ls h w) (omega arith))

pub returns-else-d-end : goal.returns-else-d-end
returns-else-d-end c = λ ls p. marking_all c.args.origin ls (c.loop-i.invariant.1 c.args.d.now ls (omega arith) (c.copy-end.ensures _ p)) (omega arith) (omega arith)

-- after the last label
pub returns-else-d-end-2 : goal.returns-else-d-end-2
returns-else-d-end-2 c = λ ls p. marking_all c.args.origin ls (marking_next c.args.origin ls (c.loop-i.invariant.1 c.args.d.now ls (omega arith) (c.copy-end.ensures _ p)) (omega arith)) (omega arith) (omega arith)
