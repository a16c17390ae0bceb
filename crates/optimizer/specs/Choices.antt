-- The passes that an operation is asked for.
use Rattle.std.specs.Prelude.{ℕ, ◌≤◌}
use Rattle.sql.specs.Schema.{Schema}
use Rattle.sql.specs.Plan.{Node}
use Rattle.sql.specs.Answer.{Answer}
use Rattle.sql.specs.Room
use Rattle.optimizer.specs.declared.Chosen.{Chosen}
use Rattle.optimizer.specs.declared.Chosen.TheVariants.{One, All}

-- There are passes 1 to 5.
abbrev pub Choice : Chosen → Type 0
Choice (One k) = (1 ≤ k) × (k ≤ 5)
Choice All = Unit {0}

abbrev pub chosen : Chosen → ℕ → Schema → Node → Answer Node
chosen (One k) room schema node = Room.pass room schema k node
chosen All room schema node = Room.optimize room schema node
