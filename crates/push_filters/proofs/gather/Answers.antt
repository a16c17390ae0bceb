use Rattle.push_filters.proofs.Trying.{gathers}
use mathlib.Core.Path.{◌∙◌}
use Rattle.push_filters.proofs.gather.Goals as goal

pub copy-m-requires : goal.copy-m-requires
copy-m-requires c = c.requires

pub shape_of-y : goal.shape_of-y
shape_of-y c = c.put.auto.d ∙ c.copy-m.auto.d

pub returns : goal.returns
returns c = gathers c.args.origin c.copy-m.auto.d c.copy-m.ensures (rw c.new.ensures at c.put.ensures.0)
