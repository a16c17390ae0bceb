use Rattle.sql.specs.Answer.{done}
use Rattle.sql.specs.Optimizer as Optimizer
use Rattle.passes.proofs.Running.{asked, runs}
use Prim.Native.Nat.{◌-◌}
use Rattle.passes.proofs.hash_join.Goals as goal

pub optimize-n-requires : goal.optimize-n-requires
optimize-n-requires c = asked (λ schema text g. g) c.requires.y_len c.requires.plan_at

pub returns : goal.returns
returns c = runs (λ schema text g. g) c.requires.y_len c.requires.plan_at.short (λ room schema rest p. done (Optimizer.HashJoin schema p)) c.optimize-n.ensures c.in_room.ensures
