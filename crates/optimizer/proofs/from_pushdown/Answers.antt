use Rattle.std.proofs.lemmas.Result.{err_from_is_err_and}
use Rattle.records.proofs.Laws.{tables_said}
use Rattle.optimizer.specs.Settled.{from_lookup}
use Rattle.sql.specs.Room
use Rattle.sql.specs.Optimizer.{in_turn}
use Rattle.sql.specs.Optimizer as Optimizer
use Rattle.sql.specs.Answer.{done, ◌>>=◌}
use Rattle.passes.proofs.Turns.{plan_with, runs_with, plan_next, runs_then, runs_stop, runs_end}
use Rattle.optimizer.proofs.Skipping.{plan_there, without_predicate}
use native.Mathlib.Omega.{arith}
use mathlib.Core.Path.{refl, ◌∙◌}
use borrow.Author.Tests.{not-true}
use Rattle.optimizer.proofs.from_pushdown.Goals as goal

pub has_predicate-requires : goal.has_predicate-requires
has_predicate-requires c = plan_there c.requires.plan_at

pub short_circuit-requires : goal.short_circuit-requires
short_circuit-requires c = record { plan_at = plan_with (λ schema text g. g) c.requires.plan_at; y_len = (c.requires.alike.second, c.requires.alike.third) }

pub returns-then-not-has_predicate : goal.returns-then-not-has_predicate
returns-then-not-has_predicate c = without_predicate c.has_predicate.ensures c.if-not-has_predicate.true (runs_with (λ schema text g. g) (λ room schema q. Room.ShortCircuit room schema 0 q >>= λ m. done m) _ _ _ _ (runs_end (λ room schema q. Room.ShortCircuit room schema 0 q) _ _ _ _ c.short_circuit.ensures))

pub push_down_in_place-requires : goal.push_down_in_place-requires
push_down_in_place-requires c = record { plan_at = plan_with (λ schema text g. tables_said g.records) c.requires.plan_at; alike = c.requires.alike }

pub from_lookup-requires : goal.from_lookup-requires
from_lookup-requires c = record { plan_at = plan_next (λ schema text g. tables_said g.records) (λ room schema p. Room.FilterPushdown room schema 0 p) c.args.x.now c.args.t _ _ _ c.in_ok-n.was c.push_down_in_place.ensures c.push_down_in_place.auto.x c.requires.plan_at; alike = record { second = omega (arith, c.push_down_in_place.auto.x, c.push_down_in_place.auto.y, c.requires.alike.second); third = omega (arith, c.push_down_in_place.auto.x, c.push_down_in_place.auto.z, c.requires.alike.third); fourth = omega (arith, c.push_down_in_place.auto.x, c.push_down_in_place.auto.w, c.requires.alike.fourth) } }

pub returns : goal.returns
returns c = runs_then (λ schema text g. tables_said g.records) (λ room schema p. Room.FilterPushdown room schema 0 p) c.args.x.now c.args.t _ _ _ c.in_ok-n.was c.push_down_in_place.ensures c.push_down_in_place.auto.x (λ schema text g. g) (λ room schema q. in_turn (from_lookup room schema) q) _ _ c.from_lookup.ensures

pub returns-in_err-n : goal.returns-in_err-n
returns-in_err-n c = let same = err_from_is_err_and c.from_residual.result c.from_residual.ensures.1 in rw (same.1, same.2) (runs_stop (λ schema text g. tables_said g.records) (λ room schema p. Room.FilterPushdown room schema 0 p) c.args.x.now c.args.t _ _ _ c.in_err-n.was c.push_down_in_place.ensures (λ room schema q. in_turn (from_lookup room schema) q) _)
