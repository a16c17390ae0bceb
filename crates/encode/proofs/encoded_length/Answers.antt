use Rattle.encode.proofs.Laws.{lengths}
use native.Mathlib.Omega.{arith}
use Rattle.encode.proofs.encoded_length.Goals as goal

pub overflow_add-result : goal.overflow_add-result
overflow_add-result c = omega (arith, c.parts_of-p.ensures.cells_end)

pub returns : goal.returns
returns c = lengths c.args.s.now c.parts_of-p.ensures c.args.n
