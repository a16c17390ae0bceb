-- `evaluate::value_of` meets its contract.
use Rattle.value.proofs.Laws.{read_back}
use Rattle.evaluate.proofs.Laws.{said_at, said_else, halves}
use Rattle.value.specs.Meaning.{integer_of_bits}
use Rattle.value.specs.Value.{datum, integer, float}
use lib.Ieee.{binary64}
use lib.Ieee as Ieee
use lib.IntN.{ℤ}
use mathlib.Core.Path.{ap, ◌∙◌}
use borrow.Author.Rules.{rules}
use Rattle.evaluate.proofs.value_of.Goals as goal

pub joined-requires : goal.joined-requires
joined-requires c = halves c.requires

pub joined-requires-in-4 : goal.joined-requires-in-4
joined-requires-in-4 c = halves c.requires

pub returns-in-1 : goal.returns-in-1
returns-in-1 c = λ text og v f e. said_at text og v f e 1 c.in-1.is

pub returns-in-2 : goal.returns-in-2
returns-in-2 c = λ text og v f e. said_at text og v f e 2 c.in-2.is

pub returns-in-3 : goal.returns-in-3
returns-in-3 c = λ text og v f e. ap (λ (i : ℤ). datum (integer i)) (read_back c.integer_of_bits.result c.integer_of_bits.type_inv ∙ c.integer_of_bits.ensures ∙ ap integer_of_bits c.joined.ensures) ∙ said_at text og v f e 3 c.in-3.is

pub returns-in-4 : goal.returns-in-4
returns-in-4 c = λ text og v f e. ap (λ (x : Ieee.Float). datum (float (Ieee.to_bits binary64 x))) (c.float_of_bits.ensures ∙ ap (Ieee.of_bits binary64) c.joined-in-4.ensures) ∙ said_at text og v f e 4 c.in-4.is

pub returns-in_default : goal.returns-in_default
returns-in_default c = λ text og v f e. said_else text og v f e (search rules) (search rules) (search rules) (search rules)
