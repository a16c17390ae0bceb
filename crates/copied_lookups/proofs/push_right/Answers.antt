use Rattle.copied_lookups.proofs.Copying.{right_expression, right_others, pushes_right}
use Rattle.conjuncts.proofs.Appending.{gathered_none, gathered_each}
use Rattle.sql.specs.Expression.{ands, shift_column_down}
use Rattle.sql.specs.Optimizer.{for_right}
use mathlib.Core.List.{map}
use Rattle.copied_lookups.proofs.push_right.Goals as goal

pub for_right-m-requires : goal.for_right-m-requires
for_right-m-requires c = record { expression_at = right_expression c.requires; gathered_at = gathered_none c.args.d.now c.args.at }

pub copy_each-requires : goal.copy_each-requires
copy_each-requires c = record { expression_at = right_expression c.requires; optional_at = right_others c.requires; gathered_at = gathered_each (gathered_none c.args.d.now c.args.at) c.for_right-m.auto.d (right_expression c.requires) c.args.origin (λ e. map (shift_column_down c.args.shift) (for_right c.args.n (ands e))) c.for_right-m.ensures }

pub returns : goal.returns
returns c = pushes_right c.args.origin c.args.n c.for_right-m.auto.d c.args.shift c.for_right-m.ensures c.copy_each.ensures
