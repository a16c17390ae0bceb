use Rattle.nodes.proofs.Own.{at_in}
use Rattle.fold_parts.proofs.Own.{visits, visits_not}
use native.Mathlib.Omega.{arith}
use Rattle.fold_parts.proofs.is_visited.Goals as goal

pub tag_at-requires : goal.tag_at-requires
tag_at-requires c = let (h, k) = at_in c.requires in (omega arith, k)

pub returns-in_default : goal.returns-in_default
returns-in_default c = visits_not c.tag_at.ensures (λ i. grind (arith, i)) (λ i. grind (arith, i)) (λ i. grind (arith, i)) (λ i. grind (arith, i)) (λ i. grind (arith, i)) (λ i. grind (arith, i))

pub returns-in_default-2 : goal.returns-in_default-2
returns-in_default-2 c = visits_not c.tag_at.ensures (λ i. omega (arith, i)) (λ i. omega (arith, i)) (λ i. omega (arith, i)) (λ i. omega (arith, i)) (λ i. omega (arith, i)) (λ i. omega (arith, i))

pub returns-in_default-3 : goal.returns-in_default-3
returns-in_default-3 c = visits_not c.tag_at.ensures (λ i. omega (arith, i)) (λ i. omega (arith, i)) (λ i. omega (arith, i)) (λ i. omega (arith, i)) (λ i. omega (arith, i)) (λ i. omega (arith, i))

pub returns-in-51 : goal.returns-in-51
returns-in-51 c = visits c.tag_at.ensures (λ i. omega (arith, i)) (λ i. omega (arith, i)) (λ i. omega (arith, i)) (λ i. omega (arith, i)) (λ i. omega (arith, i)) (λ i. omega (arith, i)) (λ i. omega (arith, i)) (λ i. omega (arith, i))

pub returns-in-51-2 : goal.returns-in-51-2
returns-in-51-2 c = visits c.tag_at.ensures (λ i. omega (arith, i)) (λ i. omega (arith, i)) (λ i. omega (arith, i)) (λ i. omega (arith, i)) (λ i. omega (arith, i)) (λ i. omega (arith, i)) (λ i. omega (arith, i)) (λ i. omega (arith, i))

pub returns-in-51-3 : goal.returns-in-51-3
returns-in-51-3 c = visits c.tag_at.ensures (λ i. omega (arith, i)) (λ i. omega (arith, i)) (λ i. omega (arith, i)) (λ i. omega (arith, i)) (λ i. omega (arith, i)) (λ i. omega (arith, i)) (λ i. omega (arith, i)) (λ i. omega (arith, i))
