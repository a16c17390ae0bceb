use Prim.Native.Nat.{ℕ, ◌+◌, ◌*◌}
use native.Mathlib.Omega.{arith}
use mathlib.Core.Path.{◌≡◌, refl, ap, ◌∙◌}
use lib.ListN.{drop}
use Rattle.compactor.proofs.Laws.{cells_start, cells_on, cell_few}
use Rattle.encode.specs.Encode.{written}
use Rattle.compact.specs.Slots.{cell_slots, in_each, slot_bytes}
use Rattle.compactor.specs.Compactor.{fill}
use Rattle.compactor.proofs.put_cells.Goals as goal

pub loop-i-init : goal.loop-i-init
loop-i-init c = (refl, (omega arith, (omega arith, (omega arith, cells_start c.args.s.now (drop c.args.first c.args.fresh.now) c.args.out.now c.args.from c.args.at))))

pub put_cell-j-requires : goal.put_cell-j-requires
put_cell-j-requires c = (omega (arith, c.requires.0), (omega (arith, c.requires.1.0, c.loop-i.invariant.1.1.0), omega (arith, c.requires.1.1, c.loop-i.invariant.0)))

pub loop-i-preserved : goal.loop-i-preserved
loop-i-preserved c = let k = cells_on c.args.s.now c.args.fresh.now c.args.out.now c.loop-i.out _ c.args.from c.args.at c.loop-i.i c.args.first c.loop-i.j (omega (arith, c.requires.1.1)) c.loop-i.invariant.1.1.1.0 c.loop-i.invariant.1.1.1.1 c.put_cell-j.ensures in (c.put_cell-j.auto.out ∙ c.loop-i.invariant.0, (omega arith, (omega (arith, c.loop-i.invariant.1.1.0, c.put_cell-j.ensures.0, cell_few c.args.s.now (c.args.from + c.loop-i.i * 16)), (k.0, k.1))))

pub returns : goal.returns
returns c = let e : c.loop-i.i ≡ c.args.n = omega arith in (refl, c.loop-i.invariant.1.1.1.1 ∙ ap (λ (k : ℕ). written c.args.out.now c.args.at (slot_bytes (fill (in_each (cell_slots c.args.s.now) c.args.from k) (drop c.args.first c.args.fresh.now)))) e)
