-- `node_scope::targets_end` meets its contract: what is past, with the rest, has the highest number of all.
use native.Mathlib.Omega.{arith}
use native.Mathlib.Nat.{zero-max}
use borrow.Author.Rules.{rules}
use Rattle.node_scope.proofs.Steps.{target_past, targets_done}
use Rattle.node_scope.proofs.targets_end.Goals as goal

pub loop-i-init : goal.loop-i-init
loop-i-init c = (search rules, zero-max _)

pub loop-i-preserved : goal.loop-i-preserved
loop-i-preserved c = (c.target_end-end.ensures.1, target_past _ c.loop-i-test.true c.cell_at.ensures.is c.loop-i.end c.target_end-end.ensures.0 c.loop-i.invariant.1)

pub returns : goal.returns
returns c = (targets_done c.args.s.now (omega arith) c.loop-i-test.false c.loop-i.invariant.1, c.loop-i.invariant.0)
