use Rattle.std.proofs.lemmas.Result.{err_from_is_err_and}
use Rattle.compactor.proofs.Whole.{compact_refused, counts_of, compact_run}
use Rattle.compactor.proofs.compacted.Goals as goal

pub returns-in_err-counts : goal.returns-in_err-counts
returns-in_err-counts c = let p = err_from_is_err_and c.from_residual.result c.from_residual.ensures.1 in rw (p.1, p.2) (compact_refused c.args.s.now c.args.out.now c.in_err-counts.field-0.0 c.in_err-counts.ensures)

pub run-requires : goal.run-requires
run-requires c = counts_of c.args.s.now c.in_ok-counts.counts c.in_ok-counts.ensures

pub returns : goal.returns
returns c = let t = counts_of c.args.s.now c.in_ok-counts.counts c.in_ok-counts.ensures in compact_run c.args.s.now c.args.out.now _ c.run.result t.node t.stands_for c.run.ensures
