use Rattle.nodes.proofs.Own.{at_in, tag_in, count_told, told_low, told_lookup, told_high, told_last}
use Rattle.words.proofs.Tags.{told}
use native.Mathlib.Omega.{arith}
use mathlib.Core.Logic.{⊎_elim}
use mathlib.Core.Path.{ap}
use Rattle.nodes.proofs.source_count.Goals as goal

pub tag_at-requires : goal.tag_at-requires
tag_at-requires c = let (h, k) = at_in c.requires in (omega arith, k)

pub returns-in-52 : goal.returns-in-52
returns-in-52 c = count_told c.tag_at.ensures (⊎_elim (ap told) (ap told) c.in-52.is)

pub returns-in-53 : goal.returns-in-53
returns-in-53 c = count_told c.tag_at.ensures (ap told c.in-53.is)

pub returns-in-53-2 : goal.returns-in-53-2
returns-in-53-2 c = count_told c.tag_at.ensures (told_lookup (grind arith) (omega arith))

pub returns-in-53-3 : goal.returns-in-53-3
returns-in-53-3 c = count_told c.tag_at.ensures (told_last (omega arith) (omega arith))

pub returns-in_default : goal.returns-in_default
returns-in_default c = let (h, k) = tag_in c.requires c.tag_at.ensures in count_told c.tag_at.ensures (told_low h (λ z. omega arith) (omega arith))

pub returns-in_default-2 : goal.returns-in_default-2
returns-in_default-2 c = count_told c.tag_at.ensures (told_high (omega arith) (λ z. grind arith) (λ z. omega arith) (omega arith))

pub returns-in_default-3 : goal.returns-in_default-3
returns-in_default-3 c = let (h, k) = tag_in c.requires c.tag_at.ensures in absurd (omega arith)
