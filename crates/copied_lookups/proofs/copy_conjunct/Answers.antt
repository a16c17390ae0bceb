use Rattle.std.proofs.Common.{rules}
use mathlib.Core.Path.{refl}
use Rattle.words.proofs.Stands.{stands_own, here_own}
use Rattle.copied_lookups.proofs.copy_conjunct.Goals as goal

pub invariant_of-conjunct : goal.invariant_of-conjunct
invariant_of-conjunct c = record { stands = stands_own refl ∣ c.requires.expression_at ∣₁ }

pub returns-in_default : goal.returns-in_default
returns-in_default c = λ o a e u. let h = c.equijoin.ensures e (here_own refl u) in search rules

pub returns : goal.returns
returns c = λ o a e u. let h = c.equijoin.ensures e (here_own refl u) in search rules
