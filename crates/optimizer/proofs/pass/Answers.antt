use Rattle.records.proofs.Laws.{tables_said}
use mathlib.Core.Path.{refl}
use Rattle.optimizer.proofs.Choosing.{by_number}
use Rattle.passes.proofs.Turns.{plan_with, runs_with}
use Rattle.sql.specs.Answer.{done}
use Rattle.sql.specs.Optimizer as Optimizer
use Rattle.sql.specs.Room
use native.Mathlib.Omega.{arith}
use Rattle.optimizer.proofs.pass.Goals as goal

pub fold-requires : goal.fold-requires
fold-requires c = record { plan_at = plan_with (λ schema text g. g.0) c.requires.plan_at; y_len = c.requires.alike.second }

pub shape_of-x-then-k-eq1 : goal.shape_of-x-then-k-eq1
shape_of-x-then-k-eq1 c = refl

pub shape_of-y-then-k-eq1 : goal.shape_of-y-then-k-eq1
shape_of-y-then-k-eq1 c = c.fold.auto.y

pub returns-then-k-eq1 : goal.returns-then-k-eq1
returns-then-k-eq1 c = by_number c.args.x.now c.args.t _ _ c.args.k 1 (omega arith) (runs_with (λ schema text g. g.0) (λ room schema p. Optimizer.ConstantFolding 0 p) c.args.x.now c.args.t _ _ c.fold.ensures)

pub push_down-requires : goal.push_down-requires
push_down-requires c = record { plan_at = plan_with (λ schema text g. tables_said g.1.records) c.requires.plan_at; alike = c.requires.alike }

pub shape_of-x-then-k-eq2 : goal.shape_of-x-then-k-eq2
shape_of-x-then-k-eq2 c = c.push_down.auto.x

pub shape_of-y-then-k-eq2 : goal.shape_of-y-then-k-eq2
shape_of-y-then-k-eq2 c = c.push_down.auto.y

pub shape_of-z-then-k-eq2 : goal.shape_of-z-then-k-eq2
shape_of-z-then-k-eq2 c = c.push_down.auto.z

pub shape_of-w-then-k-eq2 : goal.shape_of-w-then-k-eq2
shape_of-w-then-k-eq2 c = c.push_down.auto.w

pub returns-then-k-eq2 : goal.returns-then-k-eq2
returns-then-k-eq2 c = by_number c.args.x.now c.args.t _ _ c.args.k 2 (omega arith) (runs_with (λ schema text g. tables_said g.1.records) (λ room schema p. Room.FilterPushdown room schema 0 p) c.args.x.now c.args.t _ _ c.push_down.ensures)

pub look_up-requires : goal.look_up-requires
look_up-requires c = record { plan_at = plan_with (λ schema text g. g.1.records) c.requires.plan_at; alike = c.requires.alike }

pub shape_of-x-then-k-eq3 : goal.shape_of-x-then-k-eq3
shape_of-x-then-k-eq3 c = refl

pub shape_of-y-then-k-eq3 : goal.shape_of-y-then-k-eq3
shape_of-y-then-k-eq3 c = c.look_up.auto.y

pub shape_of-z-then-k-eq3 : goal.shape_of-z-then-k-eq3
shape_of-z-then-k-eq3 c = c.look_up.auto.z

pub shape_of-w-then-k-eq3 : goal.shape_of-w-then-k-eq3
shape_of-w-then-k-eq3 c = c.look_up.auto.w

pub returns-then-k-eq3 : goal.returns-then-k-eq3
returns-then-k-eq3 c = by_number c.args.x.now c.args.t _ _ c.args.k 3 (omega arith) (runs_with (λ schema text g. g.1.records) (λ room schema p. Room.IndexLookup room schema 0 p) c.args.x.now c.args.t _ _ c.look_up.ensures)

pub hash_join-requires : goal.hash_join-requires
hash_join-requires c = record { plan_at = plan_with (λ schema text g. tables_said g.1.records) c.requires.plan_at; y_len = c.requires.alike.second }

pub shape_of-x-then-k-eq4 : goal.shape_of-x-then-k-eq4
shape_of-x-then-k-eq4 c = refl

pub shape_of-y-then-k-eq4 : goal.shape_of-y-then-k-eq4
shape_of-y-then-k-eq4 c = c.hash_join.auto.y

pub returns-then-k-eq4 : goal.returns-then-k-eq4
returns-then-k-eq4 c = by_number c.args.x.now c.args.t _ _ c.args.k 4 (omega arith) (runs_with (λ schema text g. tables_said g.1.records) (λ room schema p. done (Optimizer.HashJoin schema p)) c.args.x.now c.args.t _ _ c.hash_join.ensures)

pub short_circuit-requires : goal.short_circuit-requires
short_circuit-requires c = record { plan_at = plan_with (λ schema text g. g.1) c.requires.plan_at; y_len = (c.requires.alike.second, c.requires.alike.third) }

pub shape_of-x : goal.shape_of-x
shape_of-x c = refl

pub shape_of-y : goal.shape_of-y
shape_of-y c = c.short_circuit.auto.y

pub shape_of-z : goal.shape_of-z
shape_of-z c = c.short_circuit.auto.z

pub returns : goal.returns
returns c = by_number c.args.x.now c.args.t _ _ c.args.k 5 (omega arith) (runs_with (λ schema text g. g.1) (λ room schema p. Room.ShortCircuit room schema 0 p) c.args.x.now c.args.t _ _ c.short_circuit.ensures)
