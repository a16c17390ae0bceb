use Rattle.column_labels.proofs.Steps.{labelled_first, labelled_next, labelled_all}
use native.Mathlib.Omega.{arith}
use mathlib.Core.Path.{refl, ◌∙◌}
use Rattle.column_labels.proofs.each_label.Goals as goal

pub columns-n-requires : goal.columns-n-requires
columns-n-requires c = c.requires.columns_at

pub loop-i-init : goal.loop-i-init
loop-i-init c = (refl, (omega arith, labelled_first c.args.origin))

pub column_label-l-requires : goal.column_label-l-requires
column_label-l-requires c = record { columns_at = c.requires.columns_at; column_count = c.columns-n.ensures; records_at = c.requires.records_at }

pub loop-i-preserved : goal.loop-i-preserved
loop-i-preserved c = (c.put_label-end.auto.d ∙ c.loop-i.invariant.0, (omega arith, labelled_next c.args.origin c.column_label-l.result c.loop-i.invariant.0 c.loop-i.invariant.1.1 c.column_label-l.ensures c.put_label-end.ensures))

pub returns : goal.returns
returns c = labelled_all c.args.origin c.columns-n.ensures (omega (arith, c.loop-i.invariant.1.0)) c.loop-i.invariant.1.1
