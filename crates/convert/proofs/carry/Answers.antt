use Rattle.convert.proofs.Laws.{target_small, carry_done}
use Rattle.layout.proofs.Laws.{cells_start, cells_are}
use lib.ListN.{length-set}
use native.Mathlib.Omega.{arith}
use mathlib.Core.Path.{◌∙◌}
use Rattle.convert.proofs.carry.Goals as goal

pub overflow_cast-out : goal.overflow_cast-out
overflow_cast-out c = omega (arith, target_small c.args.s.now c.args.target c.args.out.now (λ i. omega (arith, c.shared_slice_known-1.given i)) c.requires)

pub shape_of-out : goal.shape_of-out
shape_of-out c = simp length-set (c.put_origins.auto.out ∙ c.copy.auto.out)

pub returns : goal.returns
returns c = carry_done c.args.s.now c.args.target c.args.out.now (λ i. omega (arith, c.shared_slice_known-1.given i)) c.requires _ _ _ _ (cells_start c.parts_of.ensures) (cells_are c.parts_of.ensures) c.copy.ensures c.put_origins.ensures
