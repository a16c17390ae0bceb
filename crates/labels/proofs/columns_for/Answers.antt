use Rattle.labels.proofs.Tracing.{says_here, not_asked}
use Rattle.nodes.proofs.Widths.{columns_node}
use Rattle.nodes.proofs.Own.{at_in}
use native.Mathlib.Omega.{arith}
use mathlib.Core.Path.{sym, ◌∙◌}
use Rattle.labels.proofs.columns_for.Goals as goal

pub tag_at-requires : goal.tag_at-requires
tag_at-requires c = let (h, k) = at_in (columns_node c.requires) in (omega arith, k)

pub returns-then-says_columns : goal.returns-then-says_columns
returns-then-says_columns c = not_asked (columns_node c.requires) (says_here c.tag_at.ensures (sym c.says_columns.ensures ∙ c.if-says_columns.true))

pub returns : goal.returns
returns c = λ schema p k u h. c.columns.ensures schema p k u
