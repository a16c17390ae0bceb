-- `structure::reduced` meets its contract: what leaves and operators of two operands ask for is known by their tags. Assumes nothing.
use native.Mathlib.Omega.{arith}
use Rattle.structure.proofs.Stack.{leaf_reduces, leaf_lacks, binary_reduces}
use Rattle.structure.proofs.reduced.Goals as goal

pub returns-in_err-stack : goal.returns-in_err-stack
returns-in_err-stack c = rw c.from_residual.ensures (leaf_lacks c.args.k c.if-k-lt-BINARY.true (rw c.in_err-stack.was at c.sort_of.ensures))

pub returns-then-k-lt-BINARY : goal.returns-then-k-lt-BINARY
returns-then-k-lt-BINARY c = leaf_reduces c.args.k c.if-k-lt-BINARY.true (omega arith) (rw c.in_ok-stack.was at c.sort_of.ensures)

pub returns-then-k-lt-EXPONENTIATE : goal.returns-then-k-lt-EXPONENTIATE
returns-then-k-lt-EXPONENTIATE c =
    binary_reduces c.args.k c.if-k-lt-BINARY.false c.if-k-lt-EXPONENTIATE.true c.reduced_binary.ensures
