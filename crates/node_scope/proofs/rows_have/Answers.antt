-- `node_scope::rows_have` meets its contract: the loop passes cells that are no Row of another length; the rest decides for all.
use native.Mathlib.Omega.{arith}
use mathlib.Core.Path.{refl, sym, ap, ◌∙◌}
use Rattle.node_scope.proofs.Steps.{segment_end, row_fails, row_past}
use Rattle.node_scope.specs.Own.{rows_have}
use Rattle.node_scope.proofs.rows_have.Goals as goal

pub loop-i-init : goal.loop-i-init
loop-i-init c = refl

pub returns-then-not-row_has : goal.returns-then-not-row_has
returns-then-not-row_has c = sym (row_fails _ c.loop-i-test.true c.cell_at.ensures.is _ (sym c.row_has.ensures ∙ c.if-not-row_has.true)) ∙ c.loop-i.invariant

pub loop-i-preserved : goal.loop-i-preserved
loop-i-preserved c = row_past _ c.loop-i-test.true c.cell_at.ensures.is _ (sym c.row_has.ensures ∙ c.if-not-row_has.false) ∙ c.loop-i.invariant

pub returns : goal.returns
returns c = sym (ap (rows_have _) (segment_end _ (omega arith) c.loop-i-test.false)) ∙ c.loop-i.invariant
