use Rattle.first_lookup.proofs.Records.{none_said, key_said, index_said}
use native.Mathlib.Omega.{arith}
use Rattle.first_lookup.proofs.has_index.Goals as goal

pub returns-then-columns-c : goal.returns-then-columns-c
returns-then-columns-c c = none_said c.args.key c.args.columns.now c.args.c (omega arith)

pub returns-then-c-key : goal.returns-then-c-key
returns-then-c-key c = key_said c.args.key c.args.columns.now c.args.c (omega arith) c.if-c-key.true

pub returns-else-c-key : goal.returns-else-c-key
returns-else-c-key c = index_said c.args.key c.args.columns.now c.args.c (omega arith) c.if-c-key.false c.byte_at.ensures.is
