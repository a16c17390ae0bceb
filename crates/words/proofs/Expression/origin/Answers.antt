use Rattle.words.proofs.Stands.{stands_in}
use native.Mathlib.Omega.{arith}
use Rattle.words.proofs.Expression.origin.Goals as goal

pub origin_at-requires : goal.origin_at-requires
origin_at-requires c = let (h, k) = stands_in c.args.self.stands in (omega arith, k)
