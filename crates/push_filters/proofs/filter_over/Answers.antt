use Rattle.push_filters.proofs.Trying.{filtered}
use Rattle.push_into.proofs.Taking.{put_long}
use Rattle.words.proofs.Writing.{plain}
use native.Mathlib.Omega.{arith}
use mathlib.Core.Path.{◌∙◌}
use Rattle.push_filters.proofs.filter_over.Goals as goal

pub replace_own-requires : goal.replace_own-requires
replace_own-requires c = record { tail_bound = c.requires.tail_bound; lo_le_own = (c.requires.lo_le_end, λ z. put_long (plain c.args.origin 51) (rw c.new.ensures at c.put-m.ensures.0) (omega (arith, c.put-m.auto.d))); y_len = c.put-m.auto.d ∙ c.requires.y_len }

pub shape_of-x : goal.shape_of-x
shape_of-x c = c.replace_own.auto.x

pub shape_of-y : goal.shape_of-y
shape_of-y c = c.replace_own.auto.y ∙ c.put-m.auto.d

pub returns : goal.returns
returns c = filtered c.args.origin c.args.x.now c.args.t c.put-m.auto.d (rw c.new.ensures at c.put-m.ensures.0) c.replace_own.ensures
