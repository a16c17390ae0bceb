-- The passes carry origins and don't read or make them. Proved in proofs/Proved.antt, as `passes_commute`, `five_commute`, `passes_keep` and `five_keep`.
use Rattle.std.specs.Prelude.{ℕ, ◌≡◌}
use Rattle.sql.specs.Schema.{Schema}
use Rattle.sql.specs.Plan.{Node}
use Rattle.sql.specs.Answer.{done}
use Rattle.sql.specs.Optimizer.{Optimizer}
use Rattle.sql.specs.Room
use Rattle.origins.specs.Origins.{map_node_origins, map_answer}

-- To put all origins of a plan through a function first, or those of the result afterwards, is the same, refusals included: whether and where an optimizer
-- refuses, and what it makes, doesn't hang on the numbers.
abbrev pub Commutes : Optimizer → Type 0
Commutes optimizer = (h : ℕ → ℕ) (n : Node) → optimizer (map_node_origins h n) ≡ map_answer (map_node_origins h) (optimizer n)

-- one pass by its number, and all five, with any room
abbrev pub PassesCommute : Type 0
PassesCommute = (room : ℕ) (schema : Schema) (k : ℕ) → Commutes (Room.pass room schema k)

abbrev pub FiveCommute : Type 0
FiveCommute = (room : ℕ) (schema : Schema) → Commutes (Room.optimize room schema)

-- What leaves the origins of the plan given as they are, leaves those of the result so: each origin of the result was one in the plan given.
abbrev pub Keeps : Optimizer → Type 0
Keeps optimizer = (h : ℕ → ℕ) (n m : Node) → map_node_origins h n ≡ n → optimizer n ≡ done m → map_node_origins h m ≡ m

abbrev pub PassesKeep : Type 0
PassesKeep = (room : ℕ) (schema : Schema) (k : ℕ) → Keeps (Room.pass room schema k)

abbrev pub FiveKeep : Type 0
FiveKeep = (room : ℕ) (schema : Schema) → Keeps (Room.optimize room schema)
