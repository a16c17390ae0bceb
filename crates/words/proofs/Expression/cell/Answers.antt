use Rattle.words.proofs.Stands.{stands_in}
use native.Mathlib.Omega.{arith}
use Rattle.words.proofs.Expression.cell.Goals as goal

pub cell_at-requires : goal.cell_at-requires
cell_at-requires c = let (h, k) = stands_in c.args.self.stands in (omega arith, k)
