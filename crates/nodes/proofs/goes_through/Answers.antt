use Rattle.nodes.proofs.Widths.{through_in}
use Rattle.nodes.proofs.Own.{at_in, tag_in}
use native.Mathlib.Omega.{arith}
use mathlib.Core.Bool.{true, false}
use mathlib.Core.Path.{refl}
use Rattle.nodes.proofs.goes_through.Goals as goal

pub tag_at-requires : goal.tag_at-requires
tag_at-requires c = let (h, k) = at_in c.requires in (omega arith, k)

pub returns-in-51 : goal.returns-in-51
returns-in-51 c = through_in true 51 2 refl c.tag_at.ensures (omega arith) (omega arith)

pub returns-in-51-2 : goal.returns-in-51-2
returns-in-51-2 c = through_in true 55 2 refl c.tag_at.ensures (omega arith) (omega arith)

pub returns-in-51-3 : goal.returns-in-51-3
returns-in-51-3 c = through_in true 58 2 refl c.tag_at.ensures (omega arith) (omega arith)

pub returns-in_default : goal.returns-in_default
returns-in_default c = let (h, k) = tag_in c.requires c.tag_at.ensures in through_in false 50 1 refl c.tag_at.ensures (omega arith) (omega arith)

pub returns-in_default-2 : goal.returns-in_default-2
returns-in_default-2 c = through_in false 53 2 refl c.tag_at.ensures (omega arith) (omega arith)

pub returns-in_default-3 : goal.returns-in_default-3
returns-in_default-3 c = through_in false 57 1 refl c.tag_at.ensures (omega arith) (omega arith)

pub returns-in_default-4 : goal.returns-in_default-4
returns-in_default-4 c = let (h, k) = tag_in c.requires c.tag_at.ensures in through_in false 60 4 refl c.tag_at.ensures (omega arith) (omega arith)
