use Rattle.words.proofs.Stands.{left_cell, right_cell, stands_in, said_where_it_stands}
use Rattle.cells.specs.Cells.{cell_at}
use native.Mathlib.Omega.{arith}
use mathlib.Core.Path.{refl, ap, ap₂, ◌∙◌}
use Rattle.column_lookup.specs.Values.{Gathers}
use Rattle.column_lookup.proofs.Values.{gathers_other, gathers_both, gathers_equal}
use Rattle.column_lookup.proofs.+into_column_values.Goals as goal

pub into_column_values-m-requires : goal.into_column_values-m-requires
into_column_values-m-requires t c = let (h, k) = stands_in c.operands-in-10.result.0.stands in let (h', k') = stands_in c.operands-in-10.result.1.stands in (omega (arith, c.decreases, c.operands-in-10.ensures.size), tt)

pub into_column_values-requires : goal.into_column_values-requires
into_column_values-requires t c = let (h, k) = stands_in c.operands-in-10.result.0.stands in let (h', k') = stands_in c.operands-in-10.result.1.stands in (omega (arith, c.decreases, c.operands-in-10.ensures.size), tt)

pub returns-in-10 : goal.returns-in-10
returns-in-10 t c = gathers_both refl c.into_column_values-m.auto.d (omega (arith, c.tag.ensures)) (omega (arith, c.tag.ensures)) (said_where_it_stands c.operands-in-10.ensures.left _ c.into_column_values-m.ensures) (said_where_it_stands c.operands-in-10.ensures.right _ c.into_column_values.ensures)

pub returns-in-12 : goal.returns-in-12
returns-in-12 t c = gathers_equal refl c.equal_value-m.auto.d (omega (arith, c.tag.ensures)) (c.cell.ensures ∙ left_cell c.args.e.stands (omega (arith, c.tag.ensures)) (omega (arith, c.tag.ensures)) refl c.operands.ensures.left) (c.cell-in-12.ensures ∙ right_cell c.args.e.stands (omega (arith, c.tag.ensures)) (omega (arith, c.tag.ensures)) refl c.operands.ensures.right) c.equal_value-m.ensures c.equal_value.ensures

pub returns-in_default : goal.returns-in_default
returns-in_default t c = gathers_other c.tag.ensures (λ z. omega arith) (λ z. omega arith) (λ z. omega arith) c.origin.ensures c.is_value.ensures
