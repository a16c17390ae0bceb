use Rattle.std.proofs.lemmas.Result.{err_from_is_err_and}
use Rattle.records.proofs.Laws.{tables_said}
use Rattle.sql.specs.Room
use Rattle.sql.specs.Optimizer as Optimizer
use Rattle.sql.specs.Answer.{done, ◌>>=◌}
use Rattle.passes.proofs.Turns.{plan_with, plan_next, runs_then, runs_stop, runs_end}
use native.Mathlib.Omega.{arith}
use mathlib.Core.Path.{refl}
use Rattle.optimizer.proofs.from_hash.Goals as goal

pub hash_join-requires : goal.hash_join-requires
hash_join-requires c = record { plan_at = plan_with (λ schema text g. tables_said g.records) c.requires.plan_at; y_len = c.requires.y_len.0 }

pub short_circuit-requires : goal.short_circuit-requires
short_circuit-requires c = record { plan_at = plan_next (λ schema text g. tables_said g.records) (λ room schema p. done (Optimizer.HashJoin schema p)) c.args.x.now c.args.t _ _ _ c.in_ok-n.was c.hash_join.ensures (omega (arith, c.hash_join.auto.y, c.requires.y_len.0)) c.requires.plan_at; y_len = (omega (arith, c.hash_join.auto.y, c.requires.y_len.0, c.requires.y_len.1), omega (arith, c.hash_join.auto.y, c.requires.y_len.0)) }

pub returns : goal.returns
returns c = runs_then (λ schema text g. tables_said g.records) (λ room schema p. done (Optimizer.HashJoin schema p)) c.args.x.now c.args.t _ _ _ c.in_ok-n.was c.hash_join.ensures (omega (arith, c.hash_join.auto.y, c.requires.y_len.0)) (λ schema text g. g) (λ room schema q. Room.ShortCircuit room schema 0 q >>= λ m. done m) _ _ (runs_end (λ room schema q. Room.ShortCircuit room schema 0 q) _ _ _ _ c.short_circuit.ensures)

pub returns-in_err-n : goal.returns-in_err-n
returns-in_err-n c = let same = err_from_is_err_and c.from_residual.result c.from_residual.ensures.1 in rw (same.1, same.2) (runs_stop (λ schema text g. tables_said g.records) (λ room schema p. done (Optimizer.HashJoin schema p)) c.args.x.now c.args.t _ _ _ c.in_err-n.was c.hash_join.ensures (λ room schema q. Room.ShortCircuit room schema 0 q >>= λ m. done m) _)
