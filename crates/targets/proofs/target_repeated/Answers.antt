-- `targets::target_repeated` meets its contract: the loop keeps `Untargeted`, and from the first Target on the answer is that of `repeated_from`.
use Rattle.std.specs.Prelude.{None}
use Rattle.layout.proofs.Laws.{cells_are}
use Rattle.targets.proofs.Steps.{none_yet, none_here, untargeted, repeats, not_some}
use native.Mathlib.Omega.{arith}
use mathlib.Core.Path.{refl}
use Rattle.targets.proofs.target_repeated.Goals as goal

pub loop-i-init : goal.loop-i-init
loop-i-init c = none_yet c.args.s.now

pub loop-i-preserved : goal.loop-i-preserved
loop-i-preserved c = none_here c.args.s.now c.loop-i.invariant (omega (arith, cells_are c.parts_of-i-end.ensures, c.loop-i-test.true)) c.cell_at.ensures.is refl (not_some _ c.target_number.ensures c.if-is_some.ensures)

pub returns : goal.returns
returns c = repeats c.args.s.now None (λ j. (c.shared_slice_known-1.given j).fits) (untargeted c.args.s.now c.loop-i.invariant (omega (arith, cells_are c.parts_of-i-end.ensures, c.loop-i-test.false)))
