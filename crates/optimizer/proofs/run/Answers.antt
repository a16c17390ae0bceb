use Rattle.sql.specs.Room
use Rattle.sql.specs.Optimizer as Optimizer
use Rattle.optimizer.specs.Choices.{Choice}
use Rattle.optimizer.proofs.Choosing.{by_choice}
use mathlib.Core.Path.{subst}
use Rattle.optimizer.proofs.run.Goals as goal

pub pass-requires : goal.pass-requires
pass-requires c = record { le_k = subst Choice c.in-One.is c.requires.choice; plan_at = c.requires.plan_at; alike = c.requires.alike }

pub optimize-requires : goal.optimize-requires
optimize-requires c = record { plan_at = c.requires.plan_at; alike = c.requires.alike }

pub shape_of-x-in-One : goal.shape_of-x-in-One
shape_of-x-in-One c = c.pass.auto.x

pub shape_of-y-in-One : goal.shape_of-y-in-One
shape_of-y-in-One c = c.pass.auto.y

pub shape_of-z-in-One : goal.shape_of-z-in-One
shape_of-z-in-One c = c.pass.auto.z

pub shape_of-w-in-One : goal.shape_of-w-in-One
shape_of-w-in-One c = c.pass.auto.w

pub returns-in-One : goal.returns-in-One
returns-in-One c = by_choice c.args.x.now c.args.t _ _ c.args.c _ c.in-One.is c.pass.ensures

pub shape_of-x-in-All : goal.shape_of-x-in-All
shape_of-x-in-All c = c.optimize.auto.x

pub shape_of-y-in-All : goal.shape_of-y-in-All
shape_of-y-in-All c = c.optimize.auto.y

pub shape_of-z-in-All : goal.shape_of-z-in-All
shape_of-z-in-All c = c.optimize.auto.z

pub shape_of-w-in-All : goal.shape_of-w-in-All
shape_of-w-in-All c = c.optimize.auto.w

pub returns-in-All : goal.returns-in-All
returns-in-All c = by_choice c.args.x.now c.args.t _ _ c.args.c _ c.in-All.is c.optimize.ensures
