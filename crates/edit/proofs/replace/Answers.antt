use Rattle.edit.proofs.Edits.{replace_long, replace_full, replace_same, replace_moved}
use Rattle.std.proofs.Common.{rules}
use native.Mathlib.Omega.{arith}
use mathlib.Core.Path.{refl}
use Rattle.edit.proofs.replace.Goals as goal

pub returns-then-y-n : goal.returns-then-y-n
returns-then-y-n c = replace_long _ c.requires.1 c.if-y-n.true

pub returns-then-n-end : goal.returns-then-n-end
returns-then-n-end c = replace_same _ c.requires.1 (omega arith) c.if-n-end.true refl c.copy_from_slice.ensures.after

pub returns-then-x-from : goal.returns-then-x-from
returns-then-x-from c = replace_full _ c.requires.1 c.requires.0 c.if-y-n.false c.if-x-from.true (omega arith)

pub returns : goal.returns
returns c = replace_moved _ c.requires.1 c.requires.0 c.if-y-n.false c.if-x-from.false (omega arith) (omega arith) c.copy_within.ensures.after (search rules) c.copy_from_slice-2.ensures.after
