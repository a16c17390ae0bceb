use Rattle.labels.proofs.Routes.{expression_in}
use Rattle.is_empty.proofs.Predicates.{boolean_never, other_never}
use native.Mathlib.Omega.{arith}
use borrow.Author.Tests.{eq-eqb, ne_eqb}
use Rattle.is_empty.proofs.is_never.Goals as goal

pub cell_at-c-requires : goal.cell_at-c-requires
cell_at-c-requires c = expression_in c.requires

pub returns-in-2 : goal.returns-in-2
returns-in-2 c = boolean_never c.cell_at-c.ensures c.in-2.is

pub returns-in-1 : goal.returns-in-1
returns-in-1 c = rw (eq-eqb c.cell_at-c.result.tag 1 c.in-1.is) at (other_never {hi = c.args.hi} c.cell_at-c.ensures (λ z. omega arith))

pub returns-in_default : goal.returns-in_default
returns-in_default c = rw (ne_eqb c.cell_at-c.result.tag 1 (λ z. omega arith)) at (other_never {hi = c.args.hi} c.cell_at-c.ensures (λ z. omega arith))
