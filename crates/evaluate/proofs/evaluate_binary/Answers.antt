-- `evaluate::evaluate_binary` meets its contract.
use Rattle.evaluate.proofs.Laws.{binary_at, binary_else}
use Rattle.value.specs.Meaning.{meaning}
use mathlib.Core.Path.{◌∙◌}
use borrow.Author.Rules.{rules}
use Rattle.evaluate.proofs.evaluate_binary.Goals as goal

pub returns-in-10 : goal.returns-in-10
returns-in-10 c = λ p e. c.and.ensures c.args.text.now ∙ binary_at p e 10 c.in-10.is (meaning c.args.text.now c.args.v) (meaning c.args.text.now c.args.w)

pub returns-in-11 : goal.returns-in-11
returns-in-11 c = λ p e. c.or.ensures c.args.text.now ∙ binary_at p e 11 c.in-11.is (meaning c.args.text.now c.args.v) (meaning c.args.text.now c.args.w)

pub returns-in-12 : goal.returns-in-12
returns-in-12 c = λ p e. c.equal.ensures ∙ binary_at p e 12 c.in-12.is (meaning c.args.text.now c.args.v) (meaning c.args.text.now c.args.w)

pub returns-in-13 : goal.returns-in-13
returns-in-13 c = λ p e. c.greater_than.ensures ∙ binary_at p e 13 c.in-13.is (meaning c.args.text.now c.args.v) (meaning c.args.text.now c.args.w)

pub returns-in-14 : goal.returns-in-14
returns-in-14 c = λ p e. c.less_than.ensures ∙ binary_at p e 14 c.in-14.is (meaning c.args.text.now c.args.v) (meaning c.args.text.now c.args.w)

pub returns-in-15 : goal.returns-in-15
returns-in-15 c = λ p e. c.checked_add.ensures c.args.text.now ∙ binary_at p e 15 c.in-15.is (meaning c.args.text.now c.args.v) (meaning c.args.text.now c.args.w)

pub returns-in-17 : goal.returns-in-17
returns-in-17 c = λ p e. c.checked_sub.ensures c.args.text.now ∙ binary_at p e 17 c.in-17.is (meaning c.args.text.now c.args.v) (meaning c.args.text.now c.args.w)

pub returns-in-18 : goal.returns-in-18
returns-in-18 c = λ p e. c.checked_mul.ensures c.args.text.now ∙ binary_at p e 18 c.in-18.is (meaning c.args.text.now c.args.v) (meaning c.args.text.now c.args.w)

pub returns-in_default : goal.returns-in_default
returns-in_default c = λ p e. c.checked_div.ensures c.args.text.now ∙ binary_else p e (search rules) (search rules) (search rules) (search rules) (search rules) (search rules) (search rules) (search rules) (meaning c.args.text.now c.args.v) (meaning c.args.text.now c.args.w)
