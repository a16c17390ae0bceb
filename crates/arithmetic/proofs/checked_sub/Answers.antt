-- `arithmetic::checked_sub` meets its contract.
use lib.Ieee.{binary64}
use lib.Ieee as Ieee
use Rattle.std.proofs.Common.{rules}
use Rattle.value.specs.Arithmetic.{subtract_integers}
use Rattle.arithmetic.proofs.Integers.{checked_is}
use Rattle.arithmetic.proofs.checked_sub.Goals as goal

pub returns : goal.returns
unfolding subtract_integers
returns c text = c.operate.ensures text subtract_integers (Ieee.sub binary64) (λ a b r fa fb p. search (rules, checked_is)) (λ x y r p. search rules)
