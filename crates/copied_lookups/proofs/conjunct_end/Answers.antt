use Rattle.copied_lookups.proofs.Last.{last_one}
use Rattle.words.proofs.Expressions.{at_in}
use native.Mathlib.Omega.{arith}
use Rattle.copied_lookups.proofs.conjunct_end.Goals as goal

pub tag_at-requires : goal.tag_at-requires
tag_at-requires c = let (h, k) = at_in c.requires in (omega arith, k)

pub returns : goal.returns
returns c = last_one c.args.c (λ z. omega arith) c.requires c.is_lookup_of.result c.is_lookup_of.ensures c.then_some.ensures
