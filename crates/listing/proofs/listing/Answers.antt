use Rattle.listing.proofs.Size.{listing_short}
use Rattle.listing.proofs.Written.{listing_written}
use Rattle.layout.specs.declared.Parts.{Parts}
use native.Mathlib.Omega.{arith}
use mathlib.Core.Path.{ap}
use Rattle.listing.proofs.listing.Goals as goal

pub returns : goal.returns
returns c = let e = ap (λ (p : Parts). p.cells.count) c.parts_of-p.ensures.is in record {
  wrote = listing_written c.args.s.now c.args.columns _ e c.header-m.auto.d c.header-m.ensures c.cell_lines-n.auto.d c.cell_lines-n.ensures c.totals.ensures;
  short = listing_short c.args.s.now c.args.columns (λ i. omega (arith, c.shared_slice_known-1.given i)) (omega (arith, c.parts_of-p.ensures.cells_few));
}
