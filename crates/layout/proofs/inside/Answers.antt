-- `layout::inside` meets its contract: the sum of offset and length is compared as the definition compares it.
use mathlib.Core.Path.{refl}
use Rattle.layout.proofs.inside.Goals as goal

pub returns : goal.returns
returns c = refl
