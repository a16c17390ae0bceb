-- `folding::fold_expression`, `folding::fold_operand` and `folding::fold_right` meet their contracts. What falls is twice the number of words of the expression, and one more before its left operand is folded, and two more before it is known to be no leaf.
use Rattle.folding.proofs.Recursion.{at_expression, foldable_in, operand_at, left_at, right_at, operand_count, operands_count, folds_leaf, unary_refused, unary_ready, unary_done, left_refused, right_ready, left_done, right_refused, right_alone, right_done, the_left, the_right, left_in, left_operand, neutral_ready, binary_ready}
use Rattle.std.proofs.lemmas.Result.{err_from_is_err_and}
use Rattle.words.proofs.Expressions.{at_last}
use Rattle.cells.specs.declared.Cell.{Cell}
use Prim.Native.Nat.{◌+◌}
use native.Mathlib.Omega.{arith}
use mathlib.Core.Path.{ap}
use Rattle.folding.proofs.+fold_expression_fold_operand_fold_right.Goals as goal

pub fold_expression-cell_at-k-requires : goal.fold_expression-cell_at-k-requires
fold_expression-cell_at-k-requires t c = let (h, k) = foldable_in c.requires.foldable_at in (omega arith, k)

pub fold_expression-returns-then-k-lt-BINARY : goal.fold_expression-returns-then-k-lt-BINARY
fold_expression-returns-then-k-lt-BINARY t c = let e = ap (λ (x : Cell). x.tag) c.cell_at-k.ensures in folds_leaf c.args.first c.cell_at-k.ensures (omega (arith, e, c.if-k-lt-BINARY.true)) c.requires.lo_in_bounds.0 c.requires.lo_in_bounds.1.1 c.put.ensures.0

pub fold_expression-overflow_sub-end : goal.fold_expression-overflow_sub-end
fold_expression-overflow_sub-end t c = let (h, k) = foldable_in c.requires.foldable_at in omega arith

pub fold_expression-fold_operand-requires : goal.fold_expression-fold_operand-requires
fold_expression-fold_operand-requires t c = let e = ap (λ (x : Cell). x.tag) c.cell_at-k.ensures in let (h, k) = foldable_in c.requires.foldable_at in (omega (arith, c.decreases), (operand_at (omega (arith, e, c.if-k-ge-UNARY.true)) c.requires.foldable_at, (omega (arith, c.requires.lo_in_bounds.0), c.requires.lo_in_bounds.1)))

pub fold_expression-count-requires : goal.fold_expression-count-requires
fold_expression-count-requires t c = let (h, k) = foldable_in c.requires.foldable_at in omega arith

pub fold_expression-overflow_add-first : goal.fold_expression-overflow_add-first
fold_expression-overflow_add-first t c = let e = ap (λ (x : Cell). x.tag) c.cell_at-k.ensures in let (h, k) = foldable_in c.requires.foldable_at in record { fits = omega (arith, c.ranges.hi.fits, c.requires.lo_in_bounds.1.0, operand_count (operand_at (omega (arith, e, c.if-k-ge-UNARY.true)) c.requires.foldable_at) c.count.ensures) }

pub fold_expression-fold_unary-requires : goal.fold_expression-fold_unary-requires
fold_expression-fold_unary-requires t c = let e = ap (λ (x : Cell). x.tag) c.cell_at-k.ensures in unary_ready c.args.first (omega (arith, e, c.if-k-ge-UNARY.true)) e c.requires.foldable_at c.requires.lo_in_bounds.0 c.requires.lo_in_bounds.1.1 c.fold_operand.auto.d c.in_ok-n.ensures

pub fold_expression-returns-then-k-ge-UNARY : goal.fold_expression-returns-then-k-ge-UNARY
fold_expression-returns-then-k-ge-UNARY t c = let e = ap (λ (x : Cell). x.tag) c.cell_at-k.ensures in unary_done c.args.first (omega (arith, e, c.if-k-ge-UNARY.true)) e (ap (λ (x : Cell). x.origin) c.cell_at-k.ensures) c.count.ensures c.requires.lo_in_bounds.0 c.requires.lo_in_bounds.1.1 c.fold_operand.auto.d c.in_ok-n.ensures c.fold_unary.ensures

pub fold_expression-returns-in_err-n : goal.fold_expression-returns-in_err-n
fold_expression-returns-in_err-n t c = let same = err_from_is_err_and c.from_residual.result c.from_residual.ensures.1 in rw (same.1, same.2) (let e = ap (λ (x : Cell). x.tag) c.cell_at-k.ensures in unary_refused c.args.first (omega (arith, e, c.if-k-ge-UNARY.true)) c.in_err-n.ensures)

pub fold_expression-start-mid-requires : goal.fold_expression-start-mid-requires
fold_expression-start-mid-requires t c = let e = ap (λ (x : Cell). x.tag) c.cell_at-k.ensures in at_last (omega (arith, e, c.if-k-lt-BINARY.false)) (omega (arith, e, c.if-k-ge-UNARY.false)) (at_expression c.requires.foldable_at)

pub fold_expression-fold_operand-requires-2 : goal.fold_expression-fold_operand-requires-2
fold_expression-fold_operand-requires-2 t c = let e = ap (λ (x : Cell). x.tag) c.cell_at-k.ensures in let l = left_at c.start-mid.ensures (omega (arith, e, c.if-k-lt-BINARY.false)) (omega (arith, e, c.if-k-ge-UNARY.false)) c.requires.foldable_at in let r = right_at c.start-mid.ensures (omega (arith, e, c.if-k-lt-BINARY.false)) (omega (arith, e, c.if-k-ge-UNARY.false)) c.requires.foldable_at in let (h, k) = foldable_in l in let (h', k') = foldable_in r in (omega (arith, c.decreases), (l, (omega (arith, c.requires.lo_in_bounds.0), c.requires.lo_in_bounds.1)))

pub fold_expression-fold_right-requires : goal.fold_expression-fold_right-requires
fold_expression-fold_right-requires t c = let e = ap (λ (x : Cell). x.tag) c.cell_at-k.ensures in (omega (arith, c.decreases), right_ready c.args.first c.start-mid.ensures (omega (arith, e, c.if-k-lt-BINARY.false)) (omega (arith, e, c.if-k-ge-UNARY.false)) c.requires.foldable_at c.requires.lo_in_bounds.0 c.requires.lo_in_bounds.1 c.fold_operand-2.auto.d c.in_ok-m.ensures)

pub fold_expression-returns : goal.fold_expression-returns
fold_expression-returns t c = let e = ap (λ (x : Cell). x.tag) c.cell_at-k.ensures in left_done c.args.first c.start-mid.ensures (omega (arith, e, c.if-k-lt-BINARY.false)) (omega (arith, e, c.if-k-ge-UNARY.false)) c.requires.lo_in_bounds.0 c.fold_operand-2.auto.d c.in_ok-m.ensures c.fold_right.ensures

pub fold_expression-returns-in_err-m : goal.fold_expression-returns-in_err-m
fold_expression-returns-in_err-m t c = let same = err_from_is_err_and c.from_residual-in_err-m.result c.from_residual-in_err-m.ensures.1 in rw (same.1, same.2) (let e = ap (λ (x : Cell). x.tag) c.cell_at-k.ensures in left_refused c.args.first c.start-mid.ensures (omega (arith, e, c.if-k-lt-BINARY.false)) (omega (arith, e, c.if-k-ge-UNARY.false)) c.in_err-m.ensures)

pub fold_operand-cell_at-k-requires : goal.fold_operand-cell_at-k-requires
fold_operand-cell_at-k-requires t c = let (h, k) = foldable_in c.requires.foldable_at in (omega arith, k)

pub fold_operand-returns-then-k-lt-BINARY : goal.fold_operand-returns-then-k-lt-BINARY
fold_operand-returns-then-k-lt-BINARY t c = let e = ap (λ (x : Cell). x.tag) c.cell_at-k.ensures in folds_leaf c.args.first c.cell_at-k.ensures (omega (arith, e, c.if-k-lt-BINARY.true)) c.requires.lo_in_bounds.0 c.requires.lo_in_bounds.1.1 c.put.ensures.0

pub fold_operand-fold_expression-requires : goal.fold_operand-fold_expression-requires
fold_operand-fold_expression-requires t c = (omega (arith, c.decreases), (c.requires.foldable_at, c.requires.lo_in_bounds))

pub fold_operand-returns : goal.fold_operand-returns
fold_operand-returns t c = c.fold_expression.ensures

pub fold_right-tag_at-o-requires : goal.fold_right-tag_at-o-requires
fold_right-tag_at-o-requires t c = let (h, k) = foldable_in c.requires.operator in (omega arith, k)

pub fold_right-origin_at-origin-requires : goal.fold_right-origin_at-origin-requires
fold_right-origin_at-origin-requires t c = let (h, k) = foldable_in c.requires.operator in (omega arith, k)

pub fold_right-overflow_sub-end : goal.fold_right-overflow_sub-end
fold_right-overflow_sub-end t c = let (h, k) = foldable_in c.requires.operator in omega arith

pub fold_right-count-requires : goal.fold_right-count-requires
fold_right-count-requires t c = let (h, k) = foldable_in (the_left c.requires) in omega arith

pub fold_right-overflow_add-next : goal.fold_right-overflow_add-next
fold_right-overflow_add-next t c = let (h, k) = foldable_in (the_right c.requires) in record { fits = omega (arith, c.ranges.hi.fits, c.requires.numbered, operand_count (the_left c.requires) c.count.ensures) }

pub fold_right-count-requires-2 : goal.fold_right-count-requires-2
fold_right-count-requires-2 t c = let (h, k) = foldable_in c.requires.operator in omega arith

pub fold_right-overflow_add-place : goal.fold_right-overflow_add-place
fold_right-overflow_add-place t c = record { fits = omega (arith, c.ranges.hi.fits, c.requires.numbered, operands_count c.requires.low_tag c.requires.high_tag c.requires.operator c.count-2.ensures) }

pub fold_right-cell_at-requires : goal.fold_right-cell_at-requires
fold_right-cell_at-requires t c = let (h, k) = left_in c.requires in (omega arith, k)

pub fold_right-is_neutral-requires : goal.fold_right-is_neutral-requires
fold_right-is_neutral-requires t c = left_operand c.requires c.tag_at-o.ensures c.cell_at.ensures

pub fold_right-fold_operand-requires : goal.fold_right-fold_operand-requires
fold_right-fold_operand-requires t c = let (h, k) = foldable_in (the_right c.requires) in let (h', k') = foldable_in (the_left c.requires) in let (i, j) = left_in c.requires in (omega (arith, c.decreases), (the_right c.requires, (omega (arith, c.requires.room), (omega (arith, c.requires.numbered, operand_count (the_left c.requires) c.count.ensures), omega (arith, c.requires.few)))))

pub fold_right-fold_neutral-requires : goal.fold_right-fold_neutral-requires
fold_right-fold_neutral-requires t c = let (i, j) = left_in c.requires in neutral_ready c.requires (c.args.first + c.count.result) (omega arith) c.fold_operand.auto.d c.in_ok-n.ensures

pub fold_right-returns-then-is_neutral : goal.fold_right-returns-then-is_neutral
fold_right-returns-then-is_neutral t c = right_alone c.requires c.count.ensures c.count-2.ensures c.tag_at-o.ensures c.origin_at-origin.ensures c.cell_at.ensures c.is_neutral.ensures c.if-is_neutral.true c.fold_operand.auto.d c.in_ok-n.ensures c.fold_neutral.ensures

pub fold_right-returns-in_err-n : goal.fold_right-returns-in_err-n
fold_right-returns-in_err-n t c = let same = err_from_is_err_and c.from_residual.result c.from_residual.ensures.1 in rw (same.1, same.2) (right_refused c.requires c.count.ensures c.count-2.ensures c.in_err-n.ensures)

pub fold_right-fold_operand-requires-2 : goal.fold_right-fold_operand-requires-2
fold_right-fold_operand-requires-2 t c = let (h, k) = foldable_in (the_right c.requires) in let (h', k') = foldable_in (the_left c.requires) in (omega (arith, c.decreases), (the_right c.requires, (omega (arith, c.requires.room), (omega (arith, c.requires.numbered, operand_count (the_left c.requires) c.count.ensures), omega (arith, c.requires.few)))))

pub fold_right-fold_binary-requires : goal.fold_right-fold_binary-requires
fold_right-fold_binary-requires t c = binary_ready c.requires (c.args.first + c.count.result) c.tag_at-o.ensures c.cell_at.ensures c.is_neutral.ensures c.if-is_neutral.false c.fold_operand-2.auto.d c.in_ok-n-2.ensures

pub fold_right-returns : goal.fold_right-returns
fold_right-returns t c = right_done c.requires c.count.ensures c.count-2.ensures c.tag_at-o.ensures c.origin_at-origin.ensures c.cell_at.ensures c.is_neutral.ensures c.if-is_neutral.false c.fold_operand-2.auto.d c.in_ok-n-2.ensures c.fold_binary.ensures

pub fold_right-returns-in_err-n-2 : goal.fold_right-returns-in_err-n-2
fold_right-returns-in_err-n-2 t c = let same = err_from_is_err_and c.from_residual-in_err-n-2.result c.from_residual-in_err-n-2.ensures.1 in rw (same.1, same.2) (right_refused c.requires c.count.ensures c.count-2.ensures c.in_err-n-2.ensures)
