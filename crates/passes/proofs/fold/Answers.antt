use Rattle.std.specs.Prelude.{Ok, Err}
use Rattle.std.proofs.lemmas.Result.{err_from_is_err_and}
use Rattle.passes.proofs.Running.{fold_asked, folded}
use native.Mathlib.Omega.{arith}
use Rattle.passes.proofs.fold.Goals as goal

pub constant_folding-requires : goal.constant_folding-requires
constant_folding-requires c = record { plan_at = fold_asked c.requires.plan_at; t_in_bounds = (omega (arith, c.requires.plan_at.plan.inside, c.requires.y_len), omega (arith, c.requires.plan_at.short, c.requires.y_len)) }

pub returns : goal.returns
returns c = folded c.args.text.now c.args.x.now c.args.t (Ok c.in_ok-n.n) _ c.in_ok-n.ensures

pub returns-in_err-n : goal.returns-in_err-n
returns-in_err-n c =
    let same = err_from_is_err_and c.from_residual.result c.from_residual.ensures.1 in
    rw (same.1, same.2) (folded c.args.text.now c.args.x.now c.args.t (Err c.in_err-n.field-0.0) _ c.in_err-n.ensures)
