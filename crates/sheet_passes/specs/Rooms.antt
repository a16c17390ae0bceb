-- The chosen passes on a sheet that is accepted, with room for so many cells.
use Rattle.std.specs.Prelude.{ℕ, ◌≤◌, ◌≡◌, List}
use Rattle.sql.specs.Plan.{Node, columns, node_size}
use Rattle.sql.specs.Answer.{done}
use Rattle.sheet.specs.Check.{schema, plan}
use Rattle.sheet.specs.Operations.{hand_out}
use Rattle.checker.specs.Checker.{outcome}
use Rattle.checker.specs.declared.Answer as Code
use Rattle.optimizer.specs.Choices.{chosen}
use Rattle.optimizer.specs.declared.Chosen.{Chosen}

-- s stands for some plan, which fits in the room.
pub record FitsIn (room : ℕ) (s : List ℕ) : Type 0 where
  pub node : Node
  pub is : plan s ≡ done node
  pub fits : node_size node ≤ room

-- What is answered and put out is that of the definition with this room. `count` is the number of columns of the plan handed in.
abbrev pub RunsIn : (room : ℕ) (s : List ℕ) → Chosen → (count : ℕ) (out : List ℕ) → Code.Answer → List ℕ → Type 0
RunsIn room s c count out a out' =
    (node : Node) → plan s ≡ done node → count ≡ columns (schema s) node → outcome a out' ≡ hand_out s out (chosen c room (schema s) node)
