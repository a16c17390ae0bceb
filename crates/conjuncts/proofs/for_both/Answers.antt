use Rattle.conjuncts.proofs.Walking.{gathered}
use Rattle.conjuncts.specs.declared.Destination.TheVariants.{Join}
use Rattle.conjuncts.proofs.for_both.Goals as goal

pub gather-requires : goal.gather-requires
gather-requires c = record { expression_at = c.requires.expression_at; gathered_at = c.requires.gathered_at }

pub returns : goal.returns
returns c = gathered c.args.origin c.args.n Join c.gather.ensures
