use Rattle.std.proofs.lemmas.Result.{err_from_is_err_and}
use mathlib.Core.Path.{refl, ◌∙◌}
use Rattle.passes.proofs.Turns.{plan_with, plan_next, runs_then, runs_stop}
use Rattle.sql.specs.Optimizer as Optimizer
use Rattle.sql.specs.Optimizer.{in_turn}
use Rattle.sql.specs.Room
use Rattle.optimizer.specs.Settled.{from_pushdown}
use native.Mathlib.Omega.{arith}
use Rattle.optimizer.proofs.optimize.Goals as goal

pub fold-requires : goal.fold-requires
fold-requires c = record { plan_at = plan_with (λ schema text g. g.0) c.requires.plan_at; y_len = c.requires.alike.third }

pub from_pushdown-requires : goal.from_pushdown-requires
from_pushdown-requires c = record { plan_at = plan_with (λ schema text g. g.1) (plan_next (λ schema text g. g.0) (λ room schema p. Optimizer.ConstantFolding 0 p) c.args.x.now c.args.t _ _ _ c.in_ok-n.was c.fold.ensures (omega (arith, c.fold.auto.y, c.requires.alike.third)) c.requires.plan_at); alike = record { second = omega (arith, c.fold.auto.y, c.requires.alike.second, c.requires.alike.third); third = omega (arith, c.fold.auto.y, c.requires.alike.third); fourth = omega (arith, c.fold.auto.y, c.requires.alike.third, c.requires.alike.fourth) } }

pub returns : goal.returns
returns c = runs_then (λ schema text g. g.0) (λ room schema p. Optimizer.ConstantFolding 0 p) c.args.x.now c.args.t _ _ _ c.in_ok-n.was c.fold.ensures (omega (arith, c.fold.auto.y, c.requires.alike.third)) (λ schema text g. g.1) (λ room schema q. in_turn (from_pushdown room schema) q) _ _ c.from_pushdown.ensures

pub returns-in_err-n : goal.returns-in_err-n
returns-in_err-n c = let same = err_from_is_err_and c.from_residual.result c.from_residual.ensures.1 in rw (same.1, same.2) (runs_stop (λ schema text g. g.0) (λ room schema p. Optimizer.ConstantFolding 0 p) c.args.x.now c.args.t _ _ _ c.in_err-n.was c.fold.ensures (λ room schema q. in_turn (from_pushdown room schema) q) _)
