-- The contract of a pass, or of a step of one, that edits the plan in place (crate edit). `records` are the table records that the code is
-- lent of the schema (crate records).
use Rattle.std.specs.Prelude.{ℕ, ◌≤◌, List, length}
use Rattle.sql.specs.Schema.{Schema}
use Rattle.sql.specs.Plan.{Node}
use Rattle.sql.specs.Answer.{Answer}
use Rattle.cells.specs.Room.{most_words}
use Rattle.records.specs.Records.{Tables}
use Rattle.edit.specs.Edit.{Held, Edit}
use Rattle.kept.specs.Kept.{Kept}

-- Some sound node of a schema that is lent stands there, in a list that is short enough for its columns to be counted without overflow.
pub record PassAt (records x : List ℕ) (t lo tail : ℕ) : Type 0 where
  pub schema : Schema
  pub text : List ℕ
  pub tables : ℕ
  pub given : Tables records schema
  pub held : Held (Kept schema text tables) x t lo tail
  pub short : length x ≤ most_words

-- x' with n words is x with t words after f, a function of the room, the schema, the number of cells outside the node, and the node.
abbrev pub Passes : (ℕ → Schema → ℕ → Node → Answer Node) → (records x : List ℕ) (t lo tail n : ℕ) → List ℕ → Type 0
Passes f records x t lo tail n x' =
    (schema : Schema) (text : List ℕ) (tables : ℕ) → Tables records schema → Edit (Kept schema text tables) (λ room. f room schema) x t lo tail n x'
