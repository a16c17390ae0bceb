-- `fold_operator::is_deciding` meets its contract.
use Rattle.fold_operator.proofs.Operands.{and_deciding, or_deciding, not_logical}
use Rattle.fold_operator.specs.Steps.{is_deciding}
use mathlib.Core.Path.{sym, ap, ◌∙◌}
use Rattle.fold_operator.proofs.is_deciding.Goals as goal

pub returns-then-o-eq-AND : goal.returns-then-o-eq-AND
returns-then-o-eq-AND c = λ p e t q. c.is_boolean.ensures ∙ and_deciding e q p (t ∙ c.if-o-eq-AND.true)

pub returns-then-o-eq-OR : goal.returns-then-o-eq-OR
returns-then-o-eq-OR c = λ p e t q. c.is_boolean-then-o-eq-OR.ensures ∙ or_deciding e q p (t ∙ c.if-o-eq-OR.true)

pub returns : goal.returns
returns c = λ p e t q. sym (ap is_deciding (not_logical p e (λ z. c.if-o-eq-AND.false (sym t ∙ z)) (λ z. c.if-o-eq-OR.false (sym t ∙ z))))
