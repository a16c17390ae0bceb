use Rattle.std.proofs.lemmas.Result.{err_from_is_err_and}
use Rattle.fold_parts.proofs.Parts.{parts_in, last_size, those_at, last_at, parts_bound, parts_none, parts_refused, parts_done, part_at_in, alone_at, number_low, under_at, under_tag, part_alone, parts_one, under_refused, under_done}
use Prim.Native.Nat.{◌<◌}
use native.Mathlib.Omega.{arith}
use mathlib.Core.Path.{sym, ◌∙◌}
use Rattle.fold_parts.proofs.+fold_expressions_fold_part_fold_parts.Goals as goal

pub fold_expressions-returns-then-end-lo : goal.fold_expressions-returns-then-end-lo
fold_expressions-returns-then-end-lo t c = parts_none c.if-end-lo.true

pub fold_expressions-start-requires : goal.fold_expressions-start-requires
fold_expressions-start-requires t c = last_size (omega (arith, c.if-end-lo.false)) c.requires.parts_at.0

pub fold_expressions-fold_expression-requires : goal.fold_expressions-fold_expression-requires
fold_expressions-fold_expression-requires t c = let h : c.args.lo < c.args.end = omega (arith, c.if-end-lo.false) in let u = last_at h (sym c.if-start-lo.true ∙ c.start.ensures) c.requires.parts_at.0 in record { foldable_at = alone_at (c.requires.parts_at.1 h) u; lo_in_bounds = (c.requires.lo_in_bounds.0, (number_low c.number.ensures u, c.requires.lo_in_bounds.1)) }

pub fold_expressions-returns-then-start-lo : goal.fold_expressions-returns-then-start-lo
fold_expressions-returns-then-start-lo t c = let h : c.args.lo < c.args.end = omega (arith, c.if-end-lo.false) in parts_one h (sym c.if-start-lo.true ∙ c.start.ensures) c.requires.parts_at.0 (c.requires.parts_at.1 h) c.number.ensures c.requires.lo_in_bounds.0 c.fold_expression.auto.d c.fold_expression.ensures

pub fold_expressions-fold_parts-requires : goal.fold_expressions-fold_parts-requires
fold_expressions-fold_parts-requires t c = (omega (arith, c.decreases), (c.requires.parts_at.0, c.requires.lo_in_bounds))

pub fold_expressions-returns : goal.fold_expressions-returns
fold_expressions-returns t c = c.fold_parts.ensures

pub fold_part-tag_at-requires : goal.fold_part-tag_at-requires
fold_part-tag_at-requires t c = let (h, k) = part_at_in c.requires.part_at in (omega arith, k)

pub fold_part-fold_expression-requires : goal.fold_part-fold_expression-requires
fold_part-fold_expression-requires t c = record { foldable_at = alone_at (omega (arith, c.tag_at.ensures, c.if-tag_at-lt-PARTS.true)) c.requires.part_at; lo_in_bounds = (c.requires.lo_in_bounds.0, (number_low c.number.ensures c.requires.part_at, c.requires.lo_in_bounds.1)) }

pub fold_part-returns-then-tag_at-lt-PARTS : goal.fold_part-returns-then-tag_at-lt-PARTS
fold_part-returns-then-tag_at-lt-PARTS t c = part_alone c.requires.part_at (omega (arith, c.tag_at.ensures, c.if-tag_at-lt-PARTS.true)) c.number.ensures c.requires.lo_in_bounds.0 c.fold_expression.auto.d c.fold_expression.ensures

pub fold_part-overflow_sub-hi : goal.fold_part-overflow_sub-hi
fold_part-overflow_sub-hi t c = let (h, k) = part_at_in c.requires.part_at in omega arith

pub fold_part-fold_expressions-requires : goal.fold_part-fold_expressions-requires
fold_part-fold_expressions-requires t c = let (h, k) = part_at_in c.requires.part_at in (omega (arith, c.decreases), ((under_at (omega (arith, c.tag_at.ensures, c.if-tag_at-lt-PARTS.false)) c.requires.part_at, under_tag (omega (arith, c.tag_at.ensures, c.if-tag_at-lt-PARTS.false)) c.requires.part_at), (omega (arith, c.requires.lo_in_bounds.0), c.requires.lo_in_bounds.1)))

pub fold_part-cell_at-requires : goal.fold_part-cell_at-requires
fold_part-cell_at-requires t c = let (h, k) = part_at_in c.requires.part_at in (omega arith, k)

pub fold_part-returns : goal.fold_part-returns
fold_part-returns t c = under_done (omega (arith, c.tag_at.ensures, c.if-tag_at-lt-PARTS.false)) c.fold_expressions.ensures c.requires.part_at c.in_ok-n.was c.requires.lo_in_bounds c.fold_expressions.auto.d c.cell_at.ensures c.put.ensures.0

pub fold_part-returns-in_err-n : goal.fold_part-returns-in_err-n
fold_part-returns-in_err-n t c = let same = err_from_is_err_and c.from_residual.result c.from_residual.ensures.1 in rw (same.1, same.2) (under_refused (omega (arith, c.tag_at.ensures, c.if-tag_at-lt-PARTS.false)) c.fold_expressions.ensures c.in_err-n.was)

pub fold_parts-returns-then-hi-lo : goal.fold_parts-returns-then-hi-lo
fold_parts-returns-then-hi-lo t c = parts_none c.if-hi-lo.true

pub fold_parts-start-mid-requires : goal.fold_parts-start-mid-requires
fold_parts-start-mid-requires t c = last_size (omega (arith, c.if-hi-lo.false)) c.requires.parts_at

pub fold_parts-fold_parts-requires : goal.fold_parts-fold_parts-requires
fold_parts-fold_parts-requires t c = let (h, k) = part_at_in (last_at (omega (arith, c.if-hi-lo.false)) c.start-mid.ensures c.requires.parts_at) in let u = those_at (omega (arith, c.if-hi-lo.false)) c.start-mid.ensures c.requires.parts_at in let (i, j) = parts_in u in (omega (arith, c.decreases), (u, (omega (arith, c.requires.lo_in_bounds.0), c.requires.lo_in_bounds.1)))

pub fold_parts-fold_part-requires : goal.fold_parts-fold_part-requires
fold_parts-fold_part-requires t c = let u = last_at (omega (arith, c.if-hi-lo.false)) c.start-mid.ensures c.requires.parts_at in let (h, k) = part_at_in u in let (i, j) = parts_in (those_at (omega (arith, c.if-hi-lo.false)) c.start-mid.ensures c.requires.parts_at) in (omega (arith, c.decreases), (u, (omega (arith, c.requires.lo_in_bounds.0, parts_bound c.in_ok-m.was c.fold_parts.ensures, c.fold_parts.auto.d), omega (arith, c.requires.lo_in_bounds.1, c.fold_parts.auto.d))))

pub fold_parts-returns : goal.fold_parts-returns
fold_parts-returns t c = let (h, k) = part_at_in (last_at (omega (arith, c.if-hi-lo.false)) c.start-mid.ensures c.requires.parts_at) in let (i, j) = parts_in (those_at (omega (arith, c.if-hi-lo.false)) c.start-mid.ensures c.requires.parts_at) in parts_done (omega (arith, c.if-hi-lo.false)) c.start-mid.ensures c.fold_parts.ensures c.in_ok-m.was i (omega arith) c.fold_part.ensures

pub fold_parts-returns-in_err-m : goal.fold_parts-returns-in_err-m
fold_parts-returns-in_err-m t c = let same = err_from_is_err_and c.from_residual.result c.from_residual.ensures.1 in rw (same.1, same.2) (parts_refused (omega (arith, c.if-hi-lo.false)) c.start-mid.ensures c.fold_parts.ensures c.in_err-m.was)
