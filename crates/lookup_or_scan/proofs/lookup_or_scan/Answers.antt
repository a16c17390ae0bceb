use mathlib.Core.Path.{refl}
use mathlib.Core.Option.{some}
use Rattle.sql.specs.Plan.{scan, leaf}
use Rattle.words.proofs.Nodes.{node_in}
use Rattle.lookup_or_scan.proofs.Filtering.{scanned, looked_up}
use Rattle.lookup_or_scan.proofs.Looking.{found_there}
use native.Mathlib.Omega.{arith}
use Rattle.lookup_or_scan.proofs.lookup_or_scan.Goals as goal

pub find_lookup-requires : goal.find_lookup-requires
find_lookup-requires c = record { e = c.requires.cnf; here = c.requires.cnf_here }

pub copy-requires : goal.copy-requires
copy-requires c = let (h, k) = node_in (leaf c.requires.og (scan c.requires.table c.requires.alias (some c.requires.predicate))) c.requires.here in (omega arith, k)

pub returns-in_default : goal.returns-in_default
returns-in_default c = scanned c.args.columns.now c.find_lookup.ensures c.in_default.is c.copy.ensures

pub cell_at-scan-requires : goal.cell_at-scan-requires
cell_at-scan-requires c = let (h, k) = node_in (leaf c.requires.og (scan c.requires.table c.requires.alias (some c.requires.predicate))) c.requires.here in (omega arith, k)

pub lookup-n-requires : goal.lookup-n-requires
lookup-n-requires c = let (h, k) = found_there c.requires c.find_lookup.ensures c.in-Some.is in record { expression_at = h; c_bound = (omega arith, c.requires.short) }

pub filtered-requires : goal.filtered-requires
filtered-requires c = (record { e = c.requires.cnf; here = c.requires.cnf_here }, omega (arith, c.requires.short, c.lookup-n.auto.y))

pub returns : goal.returns
returns c = looked_up c.args.columns.now c.find_lookup.ensures c.in-Some.is c.cell_at-scan.ensures c.lookup-n.auto.y refl c.lookup-n.ensures c.filtered.ensures
