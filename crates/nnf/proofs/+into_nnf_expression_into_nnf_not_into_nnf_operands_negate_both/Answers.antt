use Rattle.words.proofs.Writing.{operands_leaf, operands_unary, operands_binary}
use Rattle.words.proofs.Stands.{stands_in, where_it_stands}
use Rattle.sql.specs.Expression.{into_nnf}
use Rattle.cells.specs.declared.Cell.{Cell}
use Rattle.nnf.proofs.Steps.{nnf_as_not, nnf_as_operands, not_as_operands, not_as_or, not_as_and, not_else, operands_as, negated_both}
use native.Mathlib.Omega.{arith}
use mathlib.Core.Path.{refl, sym, ap, ◌∙◌}
use Rattle.nnf.proofs.+into_nnf_expression_into_nnf_not_into_nnf_operands_negate_both.Goals as goal

pub into_nnf_expression-into_nnf_not-requires : goal.into_nnf_expression-into_nnf_not-requires
into_nnf_expression-into_nnf_not-requires t c = let (h, k) = stands_in c.args.e.stands in (omega (arith, c.decreases, c.operand.ensures.size), tt)

pub into_nnf_expression-returns-then-tag-eq-NOT : goal.into_nnf_expression-returns-then-tag-eq-NOT
into_nnf_expression-returns-then-tag-eq-NOT t c = nnf_as_not c.origin.ensures (sym c.tag.ensures ∙ c.if-tag-eq-NOT.true) (where_it_stands c.operand.ensures.words _ c.into_nnf_not.ensures)

pub into_nnf_expression-returns : goal.into_nnf_expression-returns
into_nnf_expression-returns t c = nnf_as_operands (λ z. c.if-tag-eq-NOT.false (c.tag.ensures ∙ z)) c.into_nnf_operands.ensures

pub into_nnf_not-returns-in-30 : goal.into_nnf_not-returns-in-30
into_nnf_not-returns-in-30 t c = not_as_operands c.args.origin (sym c.tag.ensures ∙ c.in-30.is) (where_it_stands c.operand.ensures.words _ c.into_nnf_operands.ensures)

pub into_nnf_not-returns-in-10 : goal.into_nnf_not-returns-in-10
into_nnf_not-returns-in-10 t c = not_as_or c.args.origin (sym c.tag.ensures ∙ c.in-10.is) c.negate_both.ensures

pub into_nnf_not-returns-in-11 : goal.into_nnf_not-returns-in-11
into_nnf_not-returns-in-11 t c = not_as_and c.args.origin (sym c.tag.ensures ∙ c.in-11.is) c.negate_both-in-11.ensures

pub into_nnf_not-returns-in_default : goal.into_nnf_not-returns-in_default
into_nnf_not-returns-in_default t c = not_else c.into_nnf_operands-m.auto.d c.args.origin (λ z. omega (arith, c.tag.ensures)) (λ z. omega (arith, c.tag.ensures)) (λ z. omega (arith, c.tag.ensures)) c.into_nnf_operands-m.ensures (rw c.new.ensures at c.put.ensures.0)

pub into_nnf_operands-returns-then-cell-lt-BINARY : goal.into_nnf_operands-returns-then-cell-lt-BINARY
into_nnf_operands-returns-then-cell-lt-BINARY t c = operands_as (operands_leaf into_nnf c.cell-cell.ensures (omega (arith, ap (λ (x : Cell). x.tag) c.cell-cell.ensures, c.if-cell-lt-BINARY.true)) c.put.ensures.0)

pub into_nnf_operands-returns-then-cell-ge-UNARY : goal.into_nnf_operands-returns-then-cell-ge-UNARY
into_nnf_operands-returns-then-cell-ge-UNARY t c = operands_as (operands_unary into_nnf c.cell-cell.ensures c.into_nnf_expression-m.auto.d (omega (arith, ap (λ (x : Cell). x.tag) c.cell-cell.ensures, c.if-cell-ge-UNARY.true)) (where_it_stands c.operand.ensures.words _ c.into_nnf_expression-m.ensures) c.put-then-cell-ge-UNARY.ensures.0)

pub into_nnf_operands-into_nnf_expression-m-requires : goal.into_nnf_operands-into_nnf_expression-m-requires
into_nnf_operands-into_nnf_expression-m-requires t c = let (h, k) = stands_in c.args.e.stands in (omega (arith, c.decreases, c.operand.ensures.size), tt)

pub into_nnf_operands-into_nnf_expression-m-requires-2 : goal.into_nnf_operands-into_nnf_expression-m-requires-2
into_nnf_operands-into_nnf_expression-m-requires-2 t c = let (h, k) = stands_in c.operands.result.0.stands in let (h', k') = stands_in c.operands.result.1.stands in (omega (arith, c.decreases, c.operands.ensures.size), tt)

pub into_nnf_operands-into_nnf_expression-n-requires : goal.into_nnf_operands-into_nnf_expression-n-requires
into_nnf_operands-into_nnf_expression-n-requires t c = let (h, k) = stands_in c.operands.result.0.stands in let (h', k') = stands_in c.operands.result.1.stands in (omega (arith, c.decreases, c.operands.ensures.size), tt)

pub negate_both-into_nnf_not-m-requires : goal.negate_both-into_nnf_not-m-requires
negate_both-into_nnf_not-m-requires t c = let (h, k) = stands_in c.operands.result.0.stands in let (h', k') = stands_in c.operands.result.1.stands in (omega (arith, c.decreases, c.operands.ensures.size), tt)

pub negate_both-into_nnf_not-n-requires : goal.negate_both-into_nnf_not-n-requires
negate_both-into_nnf_not-n-requires t c = let (h, k) = stands_in c.operands.result.0.stands in let (h', k') = stands_in c.operands.result.1.stands in (omega (arith, c.decreases, c.operands.ensures.size), tt)

pub into_nnf_operands-returns : goal.into_nnf_operands-returns
into_nnf_operands-returns t c = let e = ap (λ (x : Cell). x.tag) c.cell-cell.ensures in operands_as (operands_binary into_nnf c.cell-cell.ensures c.into_nnf_expression-m-2.auto.d c.into_nnf_expression-n.auto.d refl (omega (arith, e, c.if-cell-lt-BINARY.false)) (omega (arith, e, c.if-cell-ge-UNARY.false)) (where_it_stands c.operands.ensures.left _ c.into_nnf_expression-m-2.ensures) (where_it_stands c.operands.ensures.right _ c.into_nnf_expression-n.ensures) c.put-2.ensures.0)

pub negate_both-returns : goal.negate_both-returns
negate_both-returns t c = negated_both c.into_nnf_not-m.auto.d c.into_nnf_not-n.auto.d refl c.requires.bound.0 c.requires.bound.1 c.args.origin c.args.o c.requires.fact (where_it_stands c.operands.ensures.left _ c.into_nnf_not-m.ensures) (where_it_stands c.operands.ensures.right _ c.into_nnf_not-n.ensures) (rw c.new.ensures at c.put.ensures.0)
