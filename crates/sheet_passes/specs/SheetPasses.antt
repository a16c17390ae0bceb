-- The chosen passes on a sheet that is accepted, in buffers that are lent.
use Rattle.std.specs.Prelude.{ℕ, ◌*◌, ◌≤◌, ◌≡◌, List, length}
use Rattle.sql.specs.Plan.{Node, columns, node_size}
use Rattle.sql.specs.Answer.{done}
use Rattle.sheet.specs.Check.{schema, plan}
use Rattle.sheet.specs.Operations.{hand_out}
use Rattle.checker.specs.Checker.{outcome}
use Rattle.checker.specs.declared.Answer as Code
use Rattle.cells.specs.Room.{most_words}
use Rattle.passes.specs.Passes.{Alike}
use Rattle.optimizer.specs.Choices.{chosen}
use Rattle.optimizer.specs.declared.Chosen.{Chosen}
use Rattle.cells.specs.Cells.{cell_words}

-- s stands for a plan that fits into x. Each buffer has seven words for each cell that there is room for.
pub record RunAt (s x y z w : List ℕ) : Type 0 where
  pub node : Node
  pub is : plan s ≡ done node
  pub room : ℕ
  pub all : length x ≡ cell_words * room
  pub fits : node_size node ≤ room
  pub alike : Alike x y z w
  pub short : length x ≤ most_words

-- What is answered and put out is that of the definition, with the buffers' room. `count` is the number of columns of the plan handed in.
abbrev pub RunsOn : (s : List ℕ) → Chosen → (count : ℕ) (x out : List ℕ) → Code.Answer → List ℕ → Type 0
RunsOn s c count x out a out' =
    (node : Node) (room : ℕ) → plan s ≡ done node → node_size node ≤ room → length x ≡ cell_words * room → count ≡ columns (schema s) node
    → outcome a out' ≡ hand_out s out (chosen c room (schema s) node)
