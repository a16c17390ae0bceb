-- `structure::reduced_binary` meets its contract: the two entries on top are looked at as the definition does, and an expression stands for both.
-- Assumes nothing.
use native.Mathlib.Omega.{arith}
use mathlib.Core.Path.{sym, ◌∙◌}
use Rattle.structure.proofs.Stack.{no_two, right_lacks, left_lacks, both_serve}
use Rattle.structure.proofs.reduced_binary.Goals as goal

pub returns-in_err-rest : goal.returns-in_err-rest
returns-in_err-rest c = rw c.from_residual.ensures (no_two (omega arith))

pub returns-then-not-serves : goal.returns-then-not-serves
returns-then-not-serves c = left_lacks (omega arith) (omega arith) (sym c.serves.ensures ∙ c.if-not-serves.true)

pub returns-then-not-serves-2 : goal.returns-then-not-serves-2
returns-then-not-serves-2 c =
    right_lacks (omega arith) (omega arith) (sym c.serves.ensures ∙ c.if-not-serves.false)
    (sym c.serves-2.ensures ∙ c.if-not-serves-2.true)

pub returns : goal.returns
returns c =
    both_serve (omega arith) (omega arith) (sym c.serves.ensures ∙ c.if-not-serves.false)
    (omega arith) (sym c.serves-2.ensures ∙ c.if-not-serves-2.false)
