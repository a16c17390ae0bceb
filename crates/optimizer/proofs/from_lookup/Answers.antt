use Rattle.std.proofs.lemmas.Result.{err_from_is_err_and}
use Rattle.optimizer.specs.Settled.{from_hash}
use Rattle.sql.specs.Room
use Rattle.sql.specs.Optimizer.{in_turn}
use Rattle.sql.specs.Optimizer as Optimizer
use Rattle.passes.proofs.Turns.{plan_with, plan_next, runs_then, runs_stop}
use native.Mathlib.Omega.{arith}
use mathlib.Core.Path.{refl, ◌∙◌}
use Rattle.optimizer.proofs.from_lookup.Goals as goal

pub look_up-requires : goal.look_up-requires
look_up-requires c = record { plan_at = plan_with (λ schema text g. g.records) c.requires.plan_at; alike = record { second = c.requires.alike.third; third = c.requires.alike.second; fourth = c.requires.alike.fourth } }

pub from_hash-requires : goal.from_hash-requires
from_hash-requires c = record { plan_at = plan_with (λ schema text g. g) (plan_next (λ schema text g. g.records) (λ room schema p. Room.IndexLookup room schema 0 p) c.args.x.now c.args.t _ _ _ c.in_ok-n.was c.look_up.ensures (omega (arith, c.look_up.auto.y, c.requires.alike.third)) c.requires.plan_at); y_len = (omega (arith, c.look_up.auto.y, c.requires.alike.third), omega (arith, c.look_up.auto.y, c.look_up.auto.z, c.requires.alike.second, c.requires.alike.third)) }

pub returns : goal.returns
returns c = runs_then (λ schema text g. g.records) (λ room schema p. Room.IndexLookup room schema 0 p) c.args.x.now c.args.t _ _ _ c.in_ok-n.was c.look_up.ensures (omega (arith, c.look_up.auto.y, c.requires.alike.third)) (λ schema text g. g) (λ room schema q. in_turn (from_hash room schema) q) _ _ c.from_hash.ensures

pub returns-in_err-n : goal.returns-in_err-n
returns-in_err-n c = let same = err_from_is_err_and c.from_residual.result c.from_residual.ensures.1 in rw (same.1, same.2) (runs_stop (λ schema text g. g.records) (λ room schema p. Room.IndexLookup room schema 0 p) c.args.x.now c.args.t _ _ _ c.in_err-n.was c.look_up.ensures (λ room schema q. in_turn (from_hash room schema) q) _)
