use native.Mathlib.Omega.{arith}
use Rattle.gather.proofs.Laws.{byte_behind, byte_in}
use Rattle.gather.proofs.nth.Goals as goal

pub returns-then-n-i : goal.returns-then-n-i
returns-then-n-i c = byte_behind c.args.s.now c.args.at c.args.n c.args.i (omega arith) (omega arith)

pub returns : goal.returns
returns c = omega (arith, byte_in c.args.s.now c.args.at c.args.n c.args.i (omega arith))
