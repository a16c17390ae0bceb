use Rattle.conjuncts.proofs.Walking.{gathered_right}
use Rattle.conjuncts.proofs.for_right.Goals as goal

pub gather-requires : goal.gather-requires
gather-requires c = record { expression_at = c.requires.expression_at; gathered_at = c.requires.gathered_at }

pub returns : goal.returns
returns c = gathered_right c.args.origin c.args.n c.args.shift c.gather.ensures
