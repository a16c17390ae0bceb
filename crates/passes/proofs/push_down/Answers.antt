use Rattle.std.proofs.lemmas.Result.{err_from_is_err_and}
use Rattle.sql.specs.Room.{FilterPushdown}
use Rattle.passes.proofs.Turns.{plan_next, runs_copied, runs_refused}
use Prim.Native.Nat.{◌-◌}
use native.Mathlib.Omega.{arith}
use Rattle.passes.proofs.push_down.Goals as goal

pub push_down_in_place-requires : goal.push_down_in_place-requires
push_down_in_place-requires c = record { plan_at = c.requires.plan_at; alike = c.requires.alike }

pub copy-requires : goal.copy-requires
copy-requires c =
    let at = plan_next (λ schema text g. g) (λ room schema p. FilterPushdown room schema 0 p) c.args.x.now c.args.t _ _ _ c.in_ok-n.was c.push_down_in_place.ensures c.push_down_in_place.auto.x c.requires.plan_at in
    (omega arith, at.plan.inside)

pub returns : goal.returns
returns c = runs_copied (λ room schema p. FilterPushdown room schema 0 p) c.args.x.now c.args.t _ _ _ _ _ _ c.in_ok-n.was c.push_down_in_place.ensures (omega (arith, c.push_down_in_place.auto.y, c.requires.plan_at.short, c.requires.alike.second)) (omega (arith, c.push_down_in_place.auto.x, c.push_down_in_place.auto.y, c.requires.alike.second)) c.copy.auto.d c.copy.ensures

pub returns-in_err-n : goal.returns-in_err-n
returns-in_err-n c = let same = err_from_is_err_and c.from_residual.result c.from_residual.ensures.1 in rw (same.1, same.2) (runs_refused (λ room schema p. FilterPushdown room schema 0 p) c.args.x.now c.args.t _ _ _ _ c.in_err-n.was c.push_down_in_place.ensures)
