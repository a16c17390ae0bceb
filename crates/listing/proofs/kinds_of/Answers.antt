use native.Mathlib.Omega.{arith}
use mathlib.Core.Path.{refl, ap}
use borrow.Author.Rules.{rules}
use Rattle.layout.specs.declared.Parts.{Parts}
use Rattle.listing.proofs.Counted.{few_kinds, counted_next, counted_done}
use Rattle.listing.proofs.kinds_of.Goals as goal

pub loop-i-init : goal.loop-i-init
loop-i-init c = record { expressions_to = refl; parts_to = refl; nodes_to = refl }

pub cell_of-requires : goal.cell_of-requires
cell_of-requires c = let e = ap (λ (p : Parts). p.cells.count) c.parts_of-i-end.ensures.is in search rules

pub one_more-k-requires : goal.one_more-k-requires
one_more-k-requires c = few_kinds c.args.s.now c.loop-i.i _ (omega (arith, c.parts_of-i-end.ensures.cells_few)) c.loop-i.invariant

pub loop-i-preserved : goal.loop-i-preserved
loop-i-preserved c = counted_next c.args.s.now c.loop-i.i _ _ _ c.cell_of.ensures c.loop-i.invariant c.one_more-k.ensures

pub returns : goal.returns
returns c = let e = ap (λ (p : Parts). p.cells.count) c.parts_of-i-end.ensures.is in counted_done c.args.s.now c.loop-i.i _ (omega arith) (omega (arith, c.parts_of-i-end.ensures.cells_few)) c.loop-i.invariant
