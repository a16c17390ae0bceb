use Rattle.std.proofs.lemmas.Result.{err_from_is_err_and}
use Rattle.convert.proofs.Laws.{at_check, whole_is, carryable, at_target, at_short, at_success}
use native.Mathlib.Omega.{arith}
use mathlib.Core.Path.{◌∙◌, sym}
use Rattle.convert.proofs.converted.Goals as goal

pub returns-in_err-counts : goal.returns-in_err-counts
returns-in_err-counts c = let p = err_from_is_err_and c.from_residual.result c.from_residual.ensures.1 in rw (p.1, p.2) (at_check c.args.s.now c.args.target c.args.out.now c.in_err-counts.field-0.0 c.in_err-counts.ensures)

pub is_other-requires : goal.is_other-requires
is_other-requires c = (whole_is c.args.s.now c.args.target c.args.out.now c.in_ok-counts.counts c.in_ok-counts.ensures).long

pub returns-then-not-is_other : goal.returns-then-not-is_other
returns-then-not-is_other c = at_target c.args.s.now c.args.target c.args.out.now c.in_ok-counts.counts c.in_ok-counts.ensures (sym c.is_other.ensures ∙ c.if-not-is_other.true)

pub returns-then-out-s : goal.returns-then-out-s
returns-then-out-s c = at_short c.args.s.now c.args.target c.args.out.now c.in_ok-counts.counts c.in_ok-counts.ensures (sym c.is_other.ensures ∙ c.if-not-is_other.false) (omega arith)

pub carry-requires : goal.carry-requires
carry-requires c = carryable c.args.s.now c.args.target c.args.out.now c.in_ok-counts.counts c.in_ok-counts.ensures (sym c.is_other.ensures ∙ c.if-not-is_other.false) (omega arith)

pub returns : goal.returns
returns c = at_success c.args.s.now c.args.target c.args.out.now c.in_ok-counts.counts c.in_ok-counts.ensures _ (sym c.is_other.ensures ∙ c.if-not-is_other.false) (omega arith) c.carry.ensures
