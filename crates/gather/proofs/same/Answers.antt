use mathlib.Core.Path.{◌∙◌}
use Prim.Native.Nat.{◌+◌}
use borrow.Author.Tests.{le-ltb}
use Rattle.gather.proofs.Laws.{rest_begins, rest_same, eights_differ}
use Rattle.gather.proofs.same.Goals as goal

pub returns-then-n-i : goal.returns-then-n-i
returns-then-n-i c = c.eq.ensures ∙ rest_same c.args.s.now c.args.a c.args.b c.args.n c.alike-i.result (rest_begins c.alike-i.ensures)

pub returns-else-n-i : goal.returns-else-n-i
returns-else-n-i c = le-ltb c.args.n (c.alike-i.result + 8) c.if-n-i.false ∙ eights_differ c.args.s.now c.args.a c.args.b c.args.n c.alike-i.result c.if-n-i.false (c.alike-i.ensures.differ c.if-n-i.false)
