-- `fold_operator::is_neutral` meets its contract.
use Rattle.fold_operator.proofs.Operands.{and_neutral, or_neutral, not_logical}
use Rattle.fold_operator.specs.Steps.{is_neutral}
use mathlib.Core.Path.{sym, ap, ◌∙◌}
use Rattle.fold_operator.proofs.is_neutral.Goals as goal

pub returns-then-o-eq-AND : goal.returns-then-o-eq-AND
returns-then-o-eq-AND c = λ p e t q. c.is_boolean.ensures ∙ and_neutral e q p (t ∙ c.if-o-eq-AND.true)

pub returns-then-o-eq-OR : goal.returns-then-o-eq-OR
returns-then-o-eq-OR c = λ p e t q. c.is_boolean-then-o-eq-OR.ensures ∙ or_neutral e q p (t ∙ c.if-o-eq-OR.true)

pub returns : goal.returns
returns c = λ p e t q. sym (ap is_neutral (not_logical p e (λ z. c.if-o-eq-AND.false (sym t ∙ z)) (λ z. c.if-o-eq-OR.false (sym t ∙ z))))
