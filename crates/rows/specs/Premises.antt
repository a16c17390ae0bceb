-- What point 3 asks of the plan handed in.
use Rattle.std.specs.Prelude.{Bool, true, not, ◌&&◌}
use Rattle.sql.specs.Plan.{Node, leaf, over, join}

-- No join is outer.
abbrev pub no_outer : Node → Bool
no_outer (leaf og l) = true
no_outer (over og o source) = no_outer source
no_outer (join og outer j left right) = not outer && (no_outer left && no_outer right)
