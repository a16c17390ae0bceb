use Prim.Native.Nat.{◌-◌}
use native.Mathlib.Omega.{arith}
use mathlib.Core.Path.{sym, ◌∙◌}
use Rattle.gather.proofs.Laws.{eights_differ}
use borrow.Author.Tests.{eqb-false}
use Rattle.gather.proofs.ends_alike.Goals as goal

pub returns-else-n-lt8 : goal.returns-else-n-lt8
returns-else-n-lt8 c = λ e. eights_differ c.args.s.now c.args.a c.args.b c.args.n (c.args.n - 8) (omega arith) (λ q. eqb-false c.eight_at.result c.eight_at-else-n-lt8.result e (c.eight_at.ensures ∙ (q ∙ sym c.eight_at-else-n-lt8.ensures)))
