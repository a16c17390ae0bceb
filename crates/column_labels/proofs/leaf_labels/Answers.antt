use Rattle.nodes.proofs.Widths.{columns_node}
use Rattle.nodes.proofs.Own.{at_in}
use Rattle.column_labels.proofs.Steps.{nothing_labelled, nothing_marked}
use native.Mathlib.Omega.{arith}
use mathlib.Core.Path.{sym, ◌∙◌}
use Rattle.column_labels.proofs.leaf_labels.Goals as goal

pub tag_at-requires : goal.tag_at-requires
tag_at-requires c = let (h, k) = at_in (columns_node c.requires.columns_at) in (omega arith, k)

pub overflow_sub-hi : goal.overflow_sub-hi
overflow_sub-hi c = let (h, k) = at_in (columns_node c.requires.columns_at) in omega arith

pub marked_labels-requires : goal.marked_labels-requires
marked_labels-requires c = nothing_labelled (sym c.tag_at.ensures ∙ c.if-tag_at-eq-NOTHING.true) (columns_node c.requires.columns_at)

pub returns-then-tag_at-eq-NOTHING : goal.returns-then-tag_at-eq-NOTHING
returns-then-tag_at-eq-NOTHING c = nothing_marked c.args.origin (sym c.tag_at.ensures ∙ c.if-tag_at-eq-NOTHING.true) c.marked_labels.ensures

pub each_label-requires : goal.each_label-requires
each_label-requires c = record { columns_at = c.requires.columns_at; records_at = c.requires.records_at }

pub returns : goal.returns
returns c = c.each_label.ensures
