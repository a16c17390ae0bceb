use mathlib.Core.Option.{some}
use Rattle.sql.specs.Plan.{scan, leaf}
use Rattle.words.proofs.Nodes.{node_in}
use Rattle.lookup_step.proofs.Marks.{copied_scan, scan_at, looked_up, slice_inside}
use native.Mathlib.Omega.{arith}
use mathlib.Core.Path.{refl}
use Rattle.lookup_step.proofs.lookup_in_table.Goals as goal

pub cell_at-k-requires : goal.cell_at-k-requires
cell_at-k-requires c = let (h, k) = node_in (leaf c.requires.og (scan c.requires.table c.requires.alias (some c.requires.predicate))) c.requires.here in (omega arith, k)

pub copy-requires : goal.copy-requires
copy-requires c = let (h, k) = node_in (leaf c.requires.og (scan c.requires.table c.requires.alias (some c.requires.predicate))) c.requires.here in (omega arith, k)

pub returns-then-width-eq0 : goal.returns-then-width-eq0
returns-then-width-eq0 c = copied_scan c.cell_at-k.ensures c.args.tables.now c.args.columns.now c.table_width-width.ensures c.if-width-eq0.true c.copy.ensures

pub overflow_mul-from : goal.overflow_mul-from
overflow_mul-from c = let (h, i) = slice_inside c.requires _ c.table_width-width.ensures c.first_column-first.ensures in omega arith

pub overflow_add-to : goal.overflow_add-to
overflow_add-to c = let (h, i) = slice_inside c.requires _ c.table_width-width.ensures c.first_column-first.ensures in omega arith

pub overflow_mul-to : goal.overflow_mul-to
overflow_mul-to c = let (h, i) = slice_inside c.requires _ c.table_width-width.ensures c.first_column-first.ensures in omega arith

pub slice_bounds-lookup_or_scan-count : goal.slice_bounds-lookup_or_scan-count
slice_bounds-lookup_or_scan-count c = omega arith

pub slice_bounds-lookup_or_scan-start : goal.slice_bounds-lookup_or_scan-start
slice_bounds-lookup_or_scan-start c = omega arith

pub slice_bounds-lookup_or_scan-end : goal.slice_bounds-lookup_or_scan-end
slice_bounds-lookup_or_scan-end c = let (h, i) = slice_inside c.requires _ c.table_width-width.ensures c.first_column-first.ensures in omega arith

pub lookup_or_scan-requires : goal.lookup_or_scan-requires
lookup_or_scan-requires c = scan_at c.cell_at-k.ensures c.args.tables.now c.args.columns.now c.table_width-width.ensures c.if-width-eq0.false c.first_column-first.ensures refl refl c.primary_key-key.ensures c.requires

pub returns : goal.returns
returns c = looked_up c.cell_at-k.ensures c.args.tables.now c.args.columns.now c.table_width-width.ensures c.if-width-eq0.false c.first_column-first.ensures refl refl c.primary_key-key.ensures c.lookup_or_scan.ensures
