use Rattle.listing.proofs.Written.{lines_none, lines_next, lines_all}
use Rattle.layout.specs.declared.Parts.{Parts}
use native.Mathlib.Omega.{arith}
use mathlib.Core.Path.{refl, ap, ◌∙◌}
use borrow.Author.Rules.{rules}
use Rattle.listing.proofs.cell_lines.Goals as goal

pub loop-i-init : goal.loop-i-init
loop-i-init c = (refl, lines_none c.args.s.now c.args.d.now c.args.at)

pub cell_of-requires : goal.cell_of-requires
cell_of-requires c = let e = ap (λ (p : Parts). p.cells.count) c.parts_of-i-end.ensures.is in search rules

pub loop-i-preserved : goal.loop-i-preserved
loop-i-preserved c = (c.cell_line-m.auto.d ∙ c.loop-i.invariant.0, lines_next c.args.s.now c.loop-i.i _ c.loop-i.invariant.0 c.loop-i.invariant.1 c.cell_of.ensures c.cell_line-m.ensures)

pub returns : goal.returns
returns c = let e = ap (λ (p : Parts). p.cells.count) c.parts_of-i-end.ensures.is in lines_all c.args.s.now c.loop-i.i (omega arith) c.loop-i.invariant.1
