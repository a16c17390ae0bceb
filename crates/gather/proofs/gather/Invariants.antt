use mathlib.Core.Path.{◌≡◌}
use lib.ListN.{length}
use Rattle.gather.proofs.Strings.{Going}
use Rattle.gather.proofs.gather.Given as goal

abbrev pub invariant-loop-i : goal.invariant-loop-i
invariant-loop-i l = (length l.kept ≡ length l.initial.kept) × ((length l.fresh ≡ length l.initial.fresh) × Going l.s l.refs l.kept l.fresh l.total l.i)
