use Rattle.structure.proofs.Stack.{too_few, taking_start, taking_next, taking_fails, taking_ends}
use native.Mathlib.Omega.{arith}
use mathlib.Core.Path.{sym, ◌∙◌}
use Rattle.structure.proofs.taken.Goals as goal

pub returns-in_err-low : goal.returns-in_err-low
returns-in_err-low c = rw c.from_residual.ensures (too_few (omega arith))

pub loop-i-init : goal.loop-i-init
loop-i-init c = taking_start

pub returns-then-not-serves : goal.returns-then-not-serves
returns-then-not-serves c = taking_fails c.loop-i.invariant (omega arith) (omega arith) (omega arith) (sym c.serves.ensures ∙ c.if-not-serves.true)

pub loop-i-preserved : goal.loop-i-preserved
loop-i-preserved c = taking_next c.loop-i.invariant (sym c.serves.ensures ∙ c.if-not-serves.false)

pub returns : goal.returns
returns c = taking_ends c.loop-i.invariant (omega arith) (omega arith) (omega arith)
