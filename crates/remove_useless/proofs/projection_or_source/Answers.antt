use Rattle.nodes.proofs.Widths.{columns_node, source_columns_at}
use Rattle.nodes.proofs.Own.{at_in}
use Rattle.remove_useless.proofs.Nodes.{items_at, projection_one, projection_source, projection_wide, projection_same}
use native.Mathlib.Omega.{arith}
use Rattle.remove_useless.proofs.projection_or_source.Goals as goal
use Rattle.remove_useless.proofs.projection_or_source.Goals.{else-pass_through-via-then-pass_through+else-columns-n, else-pass_through-via-else-pass_through}

pub own_start-m-requires : goal.own_start-m-requires
own_start-m-requires c = columns_node c.requires.columns_at

pub cell_at-c-requires : goal.cell_at-c-requires
cell_at-c-requires c = let (h, k) = at_in (columns_node c.requires.columns_at) in (omega arith, k)

pub overflow_sub-hi : goal.overflow_sub-hi
overflow_sub-hi c = let (h, k) = at_in (columns_node c.requires.columns_at) in omega arith

pub pass_through-requires : goal.pass_through-requires
pass_through-requires c = items_at c.requires.hi_value c.own_start-m.ensures c.cell_at-c.ensures (columns_node c.requires.columns_at)

pub columns-requires : goal.columns-requires
columns-requires c = source_columns_at (projection_one c.requires.hi_value c.own_start-m.ensures c.cell_at-c.ensures) c.own_start-m.ensures c.requires.columns_at

pub returns-then-columns-n : goal.returns-then-columns-n
returns-then-columns-n c = projection_source c.requires.hi_value c.own_start-m.ensures c.cell_at-c.ensures c.pass_through.ensures c.if-pass_through.true c.columns.ensures c.if-columns-n.true

pub returns : goal.returns
returns c =
    elim c.else-pass_through.branch [ else-pass_through-via-then-pass_through+else-columns-n w ↦ projection_wide c.requires.hi_value c.own_start-m.ensures c.cell_at-c.ensures c.pass_through.ensures w.columns.ensures w.if-columns-n.false | else-pass_through-via-else-pass_through w ↦ projection_same c.requires.hi_value c.own_start-m.ensures c.cell_at-c.ensures c.pass_through.ensures w.if-pass_through.false ]
