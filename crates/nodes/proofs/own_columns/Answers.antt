use Rattle.nodes.proofs.Widths.{columns_node, aggregate_fits, columns_aggregate, columns_projection, targets_at, columns_remap}
use Rattle.nodes.proofs.Own.{at_in}
use Rattle.cells.specs.declared.Cell.{Cell}
use mathlib.Core.Logic.{◌⊎◌}
use Prim.Native.Nat.{◌≤◌}
use native.Mathlib.Omega.{arith}
use mathlib.Core.Path.{◌≡◌, sym, subst}
use Rattle.nodes.proofs.own_columns.Goals as goal

pub cell_at-c-requires : goal.cell_at-c-requires
cell_at-c-requires c = let (h, k) = at_in (columns_node c.requires.columns_at) in (omega arith, k)

pub overflow_add-result : goal.overflow_add-result
overflow_add-result c = omega (arith, aggregate_fits c.cell_at-c.ensures c.requires.source_count c.in-50.is (columns_node c.requires.columns_at), (at_in (columns_node c.requires.columns_at)).1)

pub returns-in-50 : goal.returns-in-50
returns-in-50 c = columns_aggregate c.cell_at-c.ensures c.requires.source_count c.in-50.is

pub returns-in-60 : goal.returns-in-60
returns-in-60 c = columns_projection c.cell_at-c.ensures c.requires.source_count c.in-60.is

pub overflow_sub-hi : goal.overflow_sub-hi
overflow_sub-hi c = omega (arith, (at_in (columns_node c.requires.columns_at)).0)

pub remap_columns-requires : goal.remap_columns-requires
remap_columns-requires c = targets_at c.cell_at-c.ensures c.requires.source_count (subst (λ (k : Cell). (k.tag ≡ 50) ⊎ (60 ≤ k.tag)) (sym c.cell_at-c.ensures) c.requires.fact) (λ z. omega arith) (λ z. omega arith) c.requires.own_start c.requires.columns_at

pub returns-in_default : goal.returns-in_default
returns-in_default c = columns_remap c.cell_at-c.ensures c.requires.source_count (subst (λ (k : Cell). (k.tag ≡ 50) ⊎ (60 ≤ k.tag)) (sym c.cell_at-c.ensures) c.requires.fact) (λ z. omega arith) (λ z. omega arith) c.requires.own_start c.remap_columns.ensures
