use Rattle.operations.proofs.Checking.{five_refused, stands, fits, five_run}
use native.Mathlib.Omega.{arith}
use Rattle.operations.proofs.optimize.Goals as goal

pub returns-then-a-ne0 : goal.returns-then-a-ne0
returns-then-a-ne0 c = five_refused c.args.s.now c.args.out.now _ c.check-a.ensures (omega arith)

pub run-requires : goal.run-requires
run-requires c = let room = fits (stands c.args.s.now (λ i. omega (arith, c.shared_slice_known-1.given i)) _ c.check-a.ensures (omega arith)) in record { choice = tt; fits_in = room.0; counted = room.1 }

pub shape_of-out : goal.shape_of-out
shape_of-out c = c.run.auto.out

pub returns : goal.returns
returns c = let t = stands c.args.s.now (λ i. omega (arith, c.shared_slice_known-1.given i)) _ c.check-a.ensures (omega arith) in five_run c.args.s.now c.args.out.now _ _ t.node t.is (c.run.ensures t.node t.is t.wide)
