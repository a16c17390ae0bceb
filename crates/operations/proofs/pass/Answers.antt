use Rattle.operations.proofs.Checking.{no_pass_0, no_pass_6, pass_refused, stands, fits, pass_run}
use native.Mathlib.Omega.{arith}
use Rattle.operations.proofs.pass.Goals as goal

pub returns-then-k-lt1 : goal.returns-then-k-lt1
returns-then-k-lt1 c = no_pass_0 c.args.s.now c.args.k c.args.out.now _ (omega arith) c.refusal.ensures

pub returns-then-k-gt5 : goal.returns-then-k-gt5
returns-then-k-gt5 c = no_pass_6 c.args.s.now c.args.k c.args.out.now _ (omega arith) c.refusal-then-k-gt5.ensures

pub returns-then-a-ne0 : goal.returns-then-a-ne0
returns-then-a-ne0 c = pass_refused c.args.s.now c.args.k c.args.out.now _ (omega arith) (omega arith) c.check-a.ensures (omega arith)

pub run-requires : goal.run-requires
run-requires c = let room = fits (stands c.args.s.now (λ i. omega (arith, c.shared_slice_known-1.given i)) _ c.check-a.ensures (omega arith)) in record { choice = (omega arith, omega arith); fits_in = room.0; counted = room.1 }

pub shape_of-out : goal.shape_of-out
shape_of-out c = c.run.auto.out

pub returns : goal.returns
returns c = let t = stands c.args.s.now (λ i. omega (arith, c.shared_slice_known-1.given i)) _ c.check-a.ensures (omega arith) in pass_run c.args.s.now c.args.k c.args.out.now _ _ (omega arith) (omega arith) t.node t.is (c.run.ensures t.node t.is t.wide)
