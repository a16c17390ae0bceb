use Rattle.nodes.proofs.Widths.{columns_nothing, columns_no_rows, rows_at, row_in, columns_values, columns_table}
use Rattle.nodes.proofs.Own.{at_in}
use native.Mathlib.Omega.{arith}
use Rattle.nodes.proofs.leaf_columns.Goals as goal

pub cell_at-c-requires : goal.cell_at-c-requires
cell_at-c-requires c = let (h, k) = at_in c.requires.node_at in (omega arith, k)

pub returns-in-57 : goal.returns-in-57
returns-in-57 c = columns_nothing c.cell_at-c.ensures c.in-57.is

pub returns-in-63 : goal.returns-in-63
returns-in-63 c = columns_no_rows c.cell_at-c.ensures c.in-63.is c.if-c-eq0.true

pub overflow_sub-hi : goal.overflow_sub-hi
overflow_sub-hi c = omega (arith, (at_in c.requires.node_at).0)

pub trees_start-first-requires : goal.trees_start-first-requires
trees_start-first-requires c = rows_at c.cell_at-c.ensures c.in-63.is c.if-c-eq0.false c.requires.node_at

pub cell_at-requires : goal.cell_at-requires
cell_at-requires c = row_in c.cell_at-c.ensures c.in-63.is c.if-c-eq0.false c.trees_start-first.ensures c.requires.node_at

pub returns-in-63-2 : goal.returns-in-63-2
returns-in-63-2 c = columns_values c.cell_at-c.ensures c.in-63.is c.if-c-eq0.false c.trees_start-first.ensures c.cell_at.ensures

pub returns-in_default : goal.returns-in_default
returns-in_default c = columns_table c.cell_at-c.ensures c.requires.source_count (λ z. omega arith) (λ z. omega arith) c.table_width.ensures
