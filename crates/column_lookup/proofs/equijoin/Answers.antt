use Rattle.words.proofs.Stands.{left_cell, right_cell}
use Rattle.cells.specs.Cells.{cell_at}
use native.Mathlib.Omega.{arith}
use mathlib.Core.Path.{refl, ◌∙◌}
use Rattle.column_lookup.proofs.Looking.{sets_equal, sets_none}
use Rattle.column_lookup.proofs.equijoin.Goals as goal

pub returns-then-tag-ne-EQUAL : goal.returns-then-tag-ne-EQUAL
returns-then-tag-ne-EQUAL c = sets_none (λ z. omega (arith, c.tag.ensures))

pub returns : goal.returns
returns c = sets_equal refl (omega (arith, c.tag.ensures)) (c.cell.ensures ∙ left_cell c.args.e.stands (omega (arith, c.tag.ensures)) (omega (arith, c.tag.ensures)) refl c.operands.ensures.left) (c.cell-2.ensures ∙ right_cell c.args.e.stands (omega (arith, c.tag.ensures)) (omega (arith, c.tag.ensures)) refl c.operands.ensures.right) c.is_column-l.ensures c.is_column-r.ensures c.ordered.result c.ordered.ensures
