use Rattle.layout.specs.Layout.{found}
use Rattle.layout.proofs.Known.{bad_cell_within}
use mathlib.Core.Path.{sym, ap, ◌∙◌}
use Rattle.checker.proofs.check_cells.Goals as goal

pub cell_at-requires : goal.cell_at-requires
cell_at-requires c = (c.requires, bad_cell_within _ (sym c.bad_cell.ensures ∙ ap found c.in-Some.is))
