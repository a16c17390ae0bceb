use mathlib.Core.Path.{◌≡◌}
use lib.ListN.{length, take}
use Rattle.encode.specs.Encode.{written}
use Rattle.gather.specs.Gather.{held}
use Rattle.compact.specs.Strings.{joined}
use Rattle.compactor.proofs.put_text.Given as goal

abbrev pub invariant-loop-k : goal.invariant-loop-k
invariant-loop-k l = (length l.out ≡ length l.initial.out) × ((l.to ≡ length (joined (held l.s (take l.k-index l.kept)))) × (l.out ≡ written l.initial.out 0 (joined (held l.s (take l.k-index l.kept)))))
