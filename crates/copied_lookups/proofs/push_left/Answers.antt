use Rattle.copied_lookups.proofs.Copying.{left_expression, left_others, pushes_left}
use Rattle.conjuncts.proofs.Appending.{gathered_none, gathered_each}
use Rattle.sql.specs.Expression.{ands}
use Rattle.sql.specs.Optimizer.{for_left}
use Rattle.copied_lookups.proofs.push_left.Goals as goal

pub for_left-m-requires : goal.for_left-m-requires
for_left-m-requires c = record { expression_at = left_expression c.requires; gathered_at = gathered_none c.args.d.now c.args.at }

pub copy_each-requires : goal.copy_each-requires
copy_each-requires c = record { expression_at = left_expression c.requires; optional_at = left_others c.requires; gathered_at = gathered_each (gathered_none c.args.d.now c.args.at) c.for_left-m.auto.d (left_expression c.requires) c.args.origin (λ e. for_left c.args.n (ands e)) c.for_left-m.ensures }

pub returns : goal.returns
returns c = pushes_left c.args.origin c.args.n c.for_left-m.auto.d c.for_left-m.ensures c.copy_each.ensures
