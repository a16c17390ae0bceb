use Rattle.cells.specs.declared.Cell.{Cell}
use Rattle.words.proofs.Writing.{operands_leaf, operands_unary, operands_binary}
use Rattle.words.proofs.Stands.{own_all, stands_in, where_it_stands}
use Rattle.cnf.proofs.Steps.{full, full_two, distribute_as_or, distribute_as_operands, both_as_right, both_and, right_and, right_or, where_both_stand}
use Rattle.cnf.specs.Cnf.{spread, spread_right}
use Rattle.sql.specs.Expression.{distribute}
use native.Mathlib.Omega.{arith}
use mathlib.Core.Path.{refl, sym, ap, ◌∙◌}
use Rattle.cnf.proofs.+distribute_expression_distribute_operands_or_both_or_right.Goals as goal

pub distribute_expression-returns-then-d-at : goal.distribute_expression-returns-then-d-at
distribute_expression-returns-then-d-at t c = full distribute c.if-d-at.true

pub distribute_expression-or_both-requires : goal.distribute_expression-or_both-requires
distribute_expression-or_both-requires t c = let (h0, k0) = stands_in c.args.e.stands in let (h1, k1) = stands_in c.operands.result.0.stands in let (h2, k2) = stands_in c.operands.result.1.stands in (omega (arith, c.decreases, c.operands.ensures.size), tt)

pub distribute_expression-returns-then-tag-eq-OR : goal.distribute_expression-returns-then-tag-eq-OR
distribute_expression-returns-then-tag-eq-OR t c = distribute_as_or refl (sym c.tag.ensures ∙ c.if-tag-eq-OR.true) c.origin.ensures (where_both_stand c.operands.ensures.left c.operands.ensures.right _ c.or_both.ensures)

pub distribute_expression-returns : goal.distribute_expression-returns
distribute_expression-returns t c = distribute_as_operands (λ z. c.if-tag-eq-OR.false (c.tag.ensures ∙ z)) c.distribute_operands.ensures

pub distribute_operands-returns-then-cell-lt-BINARY : goal.distribute_operands-returns-then-cell-lt-BINARY
distribute_operands-returns-then-cell-lt-BINARY t c = operands_leaf distribute c.cell-cell.ensures (omega (arith, ap (λ (x : Cell). x.tag) c.cell-cell.ensures, c.if-cell-lt-BINARY.true)) c.put.ensures.0

pub distribute_operands-distribute_expression-m-requires : goal.distribute_operands-distribute_expression-m-requires
distribute_operands-distribute_expression-m-requires t c = let (h0, k0) = stands_in c.args.e.stands in (omega (arith, c.decreases, c.operand.ensures.size), tt)

pub distribute_operands-returns-then-cell-ge-UNARY : goal.distribute_operands-returns-then-cell-ge-UNARY
distribute_operands-returns-then-cell-ge-UNARY t c = operands_unary distribute c.cell-cell.ensures c.distribute_expression-m.auto.d (omega (arith, ap (λ (x : Cell). x.tag) c.cell-cell.ensures, c.if-cell-ge-UNARY.true)) (where_it_stands c.operand.ensures.words _ c.distribute_expression-m.ensures) c.put-then-cell-ge-UNARY.ensures.0

pub distribute_operands-distribute_expression-m-requires-2 : goal.distribute_operands-distribute_expression-m-requires-2
distribute_operands-distribute_expression-m-requires-2 t c = let (h0, k0) = stands_in c.operands.result.0.stands in let (h1, k1) = stands_in c.operands.result.1.stands in (omega (arith, c.decreases, c.operands.ensures.size), tt)

pub distribute_operands-distribute_expression-end-requires : goal.distribute_operands-distribute_expression-end-requires
distribute_operands-distribute_expression-end-requires t c = let (h0, k0) = stands_in c.operands.result.0.stands in let (h1, k1) = stands_in c.operands.result.1.stands in (omega (arith, c.decreases, c.operands.ensures.size), tt)

pub distribute_operands-returns : goal.distribute_operands-returns
distribute_operands-returns t c = let e = ap (λ (x : Cell). x.tag) c.cell-cell.ensures in operands_binary distribute c.cell-cell.ensures c.distribute_expression-m-2.auto.d c.distribute_expression-end.auto.d refl (omega (arith, e, c.if-cell-lt-BINARY.false)) (omega (arith, e, c.if-cell-ge-UNARY.false)) (where_it_stands c.operands.ensures.left _ c.distribute_expression-m-2.ensures) (where_it_stands c.operands.ensures.right _ c.distribute_expression-end.ensures) c.put-2.ensures.0

pub or_both-returns-then-d-at : goal.or_both-returns-then-d-at
or_both-returns-then-d-at t c = full_two (spread c.args.origin) c.if-d-at.true

pub or_both-or_both-m-requires : goal.or_both-or_both-m-requires
or_both-or_both-m-requires t c = let (h0, k0) = stands_in c.operands.result.0.stands in let (h1, k1) = stands_in c.operands.result.1.stands in let (h2, k2) = stands_in c.args.right.stands in (omega (arith, c.decreases, c.operands.ensures.size), tt)

pub or_both-or_both-n-requires : goal.or_both-or_both-n-requires
or_both-or_both-n-requires t c = let (h0, k0) = stands_in c.operands.result.0.stands in let (h1, k1) = stands_in c.operands.result.1.stands in let (h2, k2) = stands_in c.args.right.stands in (omega (arith, c.decreases, c.operands.ensures.size), tt)

pub or_both-returns-then-tag-eq-AND : goal.or_both-returns-then-tag-eq-AND
or_both-returns-then-tag-eq-AND t c = both_and c.or_both-m.auto.d c.or_both-n.auto.d c.args.origin refl (sym c.tag.ensures ∙ c.if-tag-eq-AND.true) (where_both_stand c.operands.ensures.left (sym (own_all c.args.right.words.now)) _ c.or_both-m.ensures) (where_both_stand c.operands.ensures.right (sym (own_all c.args.right.words.now)) _ c.or_both-n.ensures) (rw c.new.ensures at c.put.ensures.0)

pub or_both-returns : goal.or_both-returns
or_both-returns t c = both_as_right c.args.origin (λ z. c.if-tag-eq-AND.false (c.tag.ensures ∙ z)) c.or_right.ensures

pub or_right-returns-then-d-at : goal.or_right-returns-then-d-at
or_right-returns-then-d-at t c = full_two (spread_right c.args.origin) c.if-d-at.true

pub or_right-or_right-m-requires : goal.or_right-or_right-m-requires
or_right-or_right-m-requires t c = let (h0, k0) = stands_in c.operands.result.0.stands in let (h1, k1) = stands_in c.operands.result.1.stands in let (h2, k2) = stands_in c.args.left.stands in (omega (arith, c.decreases, c.operands.ensures.size), tt)

pub or_right-or_right-n-requires : goal.or_right-or_right-n-requires
or_right-or_right-n-requires t c = let (h0, k0) = stands_in c.operands.result.0.stands in let (h1, k1) = stands_in c.operands.result.1.stands in let (h2, k2) = stands_in c.args.left.stands in (omega (arith, c.decreases, c.operands.ensures.size), tt)

pub or_right-returns-then-tag-eq-AND : goal.or_right-returns-then-tag-eq-AND
or_right-returns-then-tag-eq-AND t c = right_and c.or_right-m.auto.d c.or_right-n.auto.d c.args.origin refl (sym c.tag.ensures ∙ c.if-tag-eq-AND.true) (where_both_stand (sym (own_all c.args.left.words.now)) c.operands.ensures.left _ c.or_right-m.ensures) (where_both_stand (sym (own_all c.args.left.words.now)) c.operands.ensures.right _ c.or_right-n.ensures) (rw c.new.ensures at c.put.ensures.0)

pub or_right-distribute_expression-m-requires : goal.or_right-distribute_expression-m-requires
or_right-distribute_expression-m-requires t c = let (h0, k0) = stands_in c.args.right.stands in (omega (arith, c.decreases), tt)

pub or_right-distribute_expression-n-requires : goal.or_right-distribute_expression-n-requires
or_right-distribute_expression-n-requires t c = let (h0, k0) = stands_in c.args.left.stands in (omega (arith, c.decreases), tt)

pub or_right-returns : goal.or_right-returns
or_right-returns t c = right_or c.distribute_expression-m.auto.d c.distribute_expression-n.auto.d c.args.origin (λ z. c.if-tag-eq-AND.false (c.tag.ensures ∙ z)) c.distribute_expression-m.ensures c.distribute_expression-n.ensures (rw c.new-2.ensures at c.put-2.ensures.0)
