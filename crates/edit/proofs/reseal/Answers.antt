use Rattle.edit.proofs.Edits.{resealed, not_resealed}
use native.Mathlib.Omega.{arith}
use Rattle.edit.proofs.reseal.Goals as goal

pub returns-then-hi-lo-gt4294967295 : goal.returns-then-hi-lo-gt4294967295
returns-then-hi-lo-gt4294967295 c = not_resealed c.args.x.now c.args.t c.args.lo c.args.tail (omega arith) (omega arith) (omega arith)

pub returns : goal.returns
returns c = resealed c.args.x.now c.args.t c.args.lo c.args.tail c.requires.0 c.requires.1
