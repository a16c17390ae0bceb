use Rattle.words.proofs.Stands.{stands_in}
use native.Mathlib.Omega.{arith}
use Rattle.words.proofs.Expression.tag.Goals as goal

pub tag_at-requires : goal.tag_at-requires
tag_at-requires c = let (h, k) = stands_in c.args.self.stands in (omega arith, k)
