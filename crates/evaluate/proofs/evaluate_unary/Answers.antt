-- `evaluate::evaluate_unary` meets its contract.
use Rattle.evaluate.proofs.Laws.{unary_at, unary_else}
use Rattle.value.specs.Meaning.{meaning}
use mathlib.Core.Path.{◌∙◌}
use borrow.Author.Rules.{rules}
use Rattle.evaluate.proofs.evaluate_unary.Goals as goal

pub returns-in-30 : goal.returns-in-30
returns-in-30 c = λ text p e. c.not.ensures text ∙ unary_at p e 30 c.in-30.is (meaning text c.args.v)

pub returns-in-31 : goal.returns-in-31
returns-in-31 c = λ text p e. c.is_null.ensures text ∙ unary_at p e 31 c.in-31.is (meaning text c.args.v)

pub returns-in-32 : goal.returns-in-32
returns-in-32 c = λ text p e. c.is_nan.ensures text ∙ unary_at p e 32 c.in-32.is (meaning text c.args.v)

pub returns-in-33 : goal.returns-in-33
returns-in-33 c = λ text p e. c.identity.ensures text ∙ unary_at p e 33 c.in-33.is (meaning text c.args.v)

pub returns-in-36 : goal.returns-in-36
returns-in-36 c = λ text p e. c.square_root.ensures text ∙ unary_at p e 36 c.in-36.is (meaning text c.args.v)

pub returns-in_default : goal.returns-in_default
returns-in_default c = λ text p e. c.negate.ensures text ∙ unary_else p e (search rules) (search rules) (search rules) (search rules) (search rules) (meaning text c.args.v)
