-- `checker::accepted` meets its contract: each way out is one of the definition's tests.
use Rattle.std.proofs.lemmas.Result.{err_from_is_err_and}
use Prim.Native.Nat.{ℕ}
use Rattle.layout.specs.declared.Parts.{Parts}
use Rattle.layout.specs.Layout.{found}
use Rattle.checker.proofs.Steps.{at_parts, at_cells, past_cells, at_lacking, one_plan_at, at_outside, at_within, at_repeated, at_success}
use mathlib.Core.Path.{sym, ap, ap₂, ◌∙◌}
use Rattle.checker.proofs.accepted.Goals as goal

pub returns-in_err-check_parts : goal.returns-in_err-check_parts
returns-in_err-check_parts c = let p = err_from_is_err_and c.from_residual.result c.from_residual.ensures.1 in rw (p.1, p.2) (at_parts c.args.s.now _ c.in_err-check_parts.ensures.refuses)

pub returns-in_err-check_cells : goal.returns-in_err-check_cells
returns-in_err-check_cells c =
    let p = err_from_is_err_and c.from_residual-in_err-check_cells.result c.from_residual-in_err-check_cells.ensures.1 in
    rw (p.1, p.2) (at_cells c.args.s.now c.in_ok-check_parts.ensures.refuses _ c.in_err-check_cells.ensures.refuses)

pub returns-in-Some : goal.returns-in-Some
returns-in-Some c = past_cells c.args.s.now c.in_ok-check_parts.ensures.refuses c.in_ok-check_cells.ensures.refuses (at_lacking c.args.s.now (sym (ap found c.in-Some.is) ∙ c.lacking.ensures))

pub outside-requires : goal.outside-requires
outside-requires c = (c.in_ok-check_parts.ensures.whole, one_plan_at c.args.s.now c.in_ok-check_cells.ensures.well_laid (sym (ap found c.in_default.is) ∙ c.lacking.ensures))

pub returns-in-Err : goal.returns-in-Err
returns-in-Err c =
    past_cells c.args.s.now c.in_ok-check_parts.ensures.refuses c.in_ok-check_cells.ensures.refuses
    (at_outside c.args.s.now c.in_ok-check_cells.ensures.well_laid (sym (ap found c.in_default.is) ∙ c.lacking.ensures) c.outside.ensures c.in-Err.is)

pub target_repeated-requires : goal.target_repeated-requires
target_repeated-requires c = (c.in_ok-check_parts.ensures.whole, one_plan_at c.args.s.now c.in_ok-check_cells.ensures.well_laid (sym (ap found c.in_default.is) ∙ c.lacking.ensures))

pub returns-in-Some-target_repeated : goal.returns-in-Some-target_repeated
returns-in-Some-target_repeated c =
    past_cells c.args.s.now c.in_ok-check_parts.ensures.refuses c.in_ok-check_cells.ensures.refuses
    (at_within c.args.s.now c.in_ok-check_cells.ensures.well_laid (sym (ap found c.in_default.is) ∙ c.lacking.ensures) c.outside.ensures c.in-Ok.is
    (λ node p o k. at_repeated c.args.s.now c.in_ok-check_cells.ensures.well_laid c.target_repeated.result c.target_repeated.ensures (ap found c.in-Some-target_repeated.is) node p o))

pub returns : goal.returns
returns c =
    past_cells c.args.s.now c.in_ok-check_parts.ensures.refuses c.in_ok-check_cells.ensures.refuses
    (at_within c.args.s.now c.in_ok-check_cells.ensures.well_laid (sym (ap found c.in_default.is) ∙ c.lacking.ensures) c.outside.ensures c.in-Ok.is
    (λ node p o k.
    ap₂ (λ (a : ℕ) (b : ℕ). record { number = 0; place = 0; length = 0; cells = a; columns = b }) (ap (λ (x : Parts). x.cells.count) c.parts_of-cells.ensures.is) (sym k)
    ∙ at_success c.args.s.now c.in_ok-check_cells.ensures.well_laid c.target_repeated.result c.target_repeated.ensures (ap found c.in_default-target_repeated.is) node p o))
