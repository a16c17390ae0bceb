-- `node_scope::first_row` meets its contract: the loop passes cells that are no Row; the rest has the first Row of all.
use native.Mathlib.Omega.{arith}
use mathlib.Core.Path.{refl, sym, ap, ◌∙◌}
use borrow.Author.Rules.{rules}
use Rattle.node_scope.proofs.Steps.{segment_end, row_met, row_none}
use Rattle.node_scope.specs.Own.{first_row}
use Rattle.node_scope.proofs.first_row.Goals as goal

pub loop-i-init : goal.loop-i-init
loop-i-init c = refl

pub returns-then-k-eq-ROW : goal.returns-then-k-eq-ROW
returns-then-k-eq-ROW c = record { is = sym (row_met _ c.loop-i-test.true c.cell_at-k.ensures.is c.if-k-eq-ROW.true) ∙ c.loop-i.invariant; small = c.cell_at-k.ensures.a_small }

pub loop-i-preserved : goal.loop-i-preserved
loop-i-preserved c = row_none _ c.loop-i-test.true c.cell_at-k.ensures.is c.if-k-eq-ROW.false ∙ c.loop-i.invariant

pub returns : goal.returns
returns c = record { is = sym (ap first_row (segment_end _ (omega arith) c.loop-i-test.false)) ∙ c.loop-i.invariant; small = search rules }
