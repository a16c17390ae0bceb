use mathlib.Core.Path.{sym, ◌∙◌}
use Prim.Native.Nat.{◌/◌}
use borrow.Author.Tests.{eqb-false}
use Rattle.gather.proofs.Strings.{other_mark, other_length}
use Rattle.gather.proofs.is_it.Goals.{then-k-mark, else-k-mark}
use Rattle.gather.proofs.is_it.Goals as goal

pub returns-else-r-n : goal.returns-else-r-n
returns-else-r-n c =
    elim c.if-k-mark.branch [
      | then-k-mark w ↦ c.if-r-n.false ∙ other_length c.args.s.now c.args.k.reference c.args.at c.args.n c.requires.inside.0 c.requires.inside.1 (eqb-false (c.args.k.reference / 65536) c.args.n (sym w.value-is ∙ c.if-r-n.false))
      | else-k-mark w ↦ c.if-r-n.false ∙ other_mark c.args.s.now c.args.k.reference c.args.k.mark c.args.at c.args.n c.args.mark c.requires.its_value.0 c.requires.its_value.1 w.if-k-mark.false
    ]
