use Rattle.words.proofs.Stands.{left_cell, right_cell, operand_cell, stands_in, said_where_it_stands}
use Rattle.cells.specs.Cells.{cell_at}
use native.Mathlib.Omega.{arith}
use mathlib.Core.Path.{refl, ap, ap₂, ◌∙◌}
use Rattle.column_lookup.specs.Lookup.{LooksUp}
use Rattle.column_lookup.proofs.Looking.{looks_or, looks_equal, looks_is, looks_none, looks_other}
use Rattle.column_lookup.proofs.+is_column_lookup.Goals as goal

pub is_column_lookup-l-requires : goal.is_column_lookup-l-requires
is_column_lookup-l-requires t c = let (h, k) = stands_in c.operands.result.0.stands in let (h', k') = stands_in c.operands.result.1.stands in (omega (arith, c.decreases, c.operands.ensures.size), tt)

pub is_column_lookup-r-requires : goal.is_column_lookup-r-requires
is_column_lookup-r-requires t c = let (h, k) = stands_in c.operands.result.0.stands in let (h', k') = stands_in c.operands.result.1.stands in (omega (arith, c.decreases, c.operands.ensures.size), tt)

pub returns-in-11 : goal.returns-in-11
returns-in-11 t c = looks_or refl (omega (arith, c.tag.ensures)) c.is_column_lookup-l.result c.is_column_lookup-r.result c.same_column.result (said_where_it_stands c.operands.ensures.left _ c.is_column_lookup-l.ensures) (said_where_it_stands c.operands.ensures.right _ c.is_column_lookup-r.ensures) c.same_column.ensures

pub returns-in-12 : goal.returns-in-12
returns-in-12 t c = looks_equal refl (omega (arith, c.tag.ensures)) (c.cell.ensures ∙ left_cell c.args.e.stands (omega (arith, c.tag.ensures)) (omega (arith, c.tag.ensures)) refl c.operands-in-12.ensures.left) (c.cell-in-12.ensures ∙ right_cell c.args.e.stands (omega (arith, c.tag.ensures)) (omega (arith, c.tag.ensures)) refl c.operands-in-12.ensures.right) c.is_equal_lookup.ensures

pub returns-in-31 : goal.returns-in-31
returns-in-31 t c = looks_is (omega (arith, c.tag.ensures)) (omega (arith, c.tag.ensures)) (c.cell-in-31.ensures ∙ operand_cell c.args.e.stands (omega (arith, c.tag.ensures)) c.operand.ensures.words) c.is_column.ensures

pub returns-in_default : goal.returns-in_default
returns-in_default t c = looks_none (λ z. omega (arith, c.tag.ensures)) (λ z. omega (arith, c.tag.ensures)) (omega (arith, c.tag.ensures))

pub returns-in_default-2 : goal.returns-in_default-2
returns-in_default-2 t c = looks_other (omega (arith, c.tag.ensures))
