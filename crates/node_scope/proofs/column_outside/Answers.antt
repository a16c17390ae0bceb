-- `node_scope::column_outside` meets its contract: the loop passes cells that are no Column outside; the rest has the first finding of all.
use native.Mathlib.Omega.{arith}
use mathlib.Core.Path.{refl, sym, ap, ◌∙◌}
use Rattle.node_scope.proofs.Steps.{segment_end, column_met, column_past}
use Rattle.node_scope.specs.Own.{column_out}
use Rattle.node_scope.proofs.column_outside.Goals as goal

pub loop-i-init : goal.loop-i-init
loop-i-init c = refl

pub returns-then-not-column_below : goal.returns-then-not-column_below
returns-then-not-column_below c = sym (column_met _ c.loop-i-test.true c.cell_at.ensures.is _ (sym c.column_below.ensures ∙ c.if-not-column_below.true)) ∙ c.loop-i.invariant

pub loop-i-preserved : goal.loop-i-preserved
loop-i-preserved c = column_past _ c.loop-i-test.true c.cell_at.ensures.is _ (sym c.column_below.ensures ∙ c.if-not-column_below.false) ∙ c.loop-i.invariant

pub returns : goal.returns
returns c = sym (ap (column_out _ _) (segment_end _ (omega arith) c.loop-i-test.false)) ∙ c.loop-i.invariant
