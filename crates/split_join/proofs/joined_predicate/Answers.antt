use Rattle.split_join.proofs.Splitting.{back_gathered, stays_wrote}
use Rattle.conjuncts.proofs.Appending.{gathered_none, gathered_each}
use Rattle.sql.specs.Expression.{ands}
use Rattle.sql.specs.Optimizer.{for_both}
use mathlib.Core.Path.{◌∙◌}
use Rattle.split_join.proofs.joined_predicate.Goals as goal

pub for_both-i-requires : goal.for_both-i-requires
for_both-i-requires c = record { expression_at = c.requires.expression_at; gathered_at = gathered_none c.args.d.now c.args.at }

pub come_back-j-requires : goal.come_back-j-requires
come_back-j-requires c = record { node_at = c.requires.node_at; expression_at = c.requires.expression_at; g_len = c.requires.g_len; gathered_at = gathered_each (gathered_none c.args.d.now c.args.at) c.for_both-i.auto.d c.requires.expression_at c.args.origin (λ e. for_both c.args.n (ands e)) c.for_both-i.ensures }

pub come_back-requires : goal.come_back-requires
come_back-requires c = record { node_at = c.requires.node_at_2; expression_at = c.requires.expression_at; g_len = c.come_back-j.auto.g ∙ c.requires.g_len; gathered_at = back_gathered c.args.origin c.args.n (gathered_each (gathered_none c.args.d.now c.args.at) c.for_both-i.auto.d c.requires.expression_at c.args.origin (λ e. for_both c.args.n (ands e)) c.for_both-i.ensures) c.come_back-j.auto.d c.requires.node_at c.requires.expression_at c.come_back-j.ensures }

pub shape_of-g : goal.shape_of-g
shape_of-g c = c.come_back.auto.g ∙ c.come_back-j.auto.g

pub shape_of-d : goal.shape_of-d
shape_of-d c = c.come_back.auto.d ∙ (c.come_back-j.auto.d ∙ c.for_both-i.auto.d)

pub returns : goal.returns
returns c = stays_wrote c.args.origin c.args.n c.for_both-i.auto.d c.come_back-j.auto.d c.for_both-i.ensures c.come_back-j.ensures c.come_back.ensures
