-- What the code's answers stand for, and the contracts of pass 4's functions.
use Rattle.std.specs.Prelude as code
use Rattle.std.specs.Prelude.{ℕ, ◌+◌, ◌-◌, ◌/◌, Bool, cond, not, ◌&&◌, ◌≡◌, List, ◌++◌, ltb, length, Some, None}
use Rattle.std.proofs.Math.Option.{Option, none, some}
use Rattle.sql.specs.Schema.{Schema}
use Rattle.sql.specs.Plan.{Join, Node, join}
use Rattle.sql.specs.Optimizer.{hash_join, HashJoin}
use Rattle.cells.specs.declared.Cell.{Cell}
use Rattle.cells.specs.Room.{Wrote}
use Rattle.words.specs.Words.{node_words}
use Rattle.words.specs.Place.{NodeHere}
use Rattle.nodes.specs.Own.{OwnStart}
use Rattle.records.specs.Records.{Tables}
use Rattle.column_numbers.specs.declared.LeftColumn.{LeftColumn}
use Rattle.column_numbers.specs.declared.RightColumn.{RightColumn}
use Rattle.sheet.specs.Tags

-- the columns' numbers
abbrev pub sides : code.Option (LeftColumn × RightColumn) → Option (ℕ × ℕ)
sides (Some (left, right)) = some (left.0, right.0)
sides None = none

-- the columns of a hash join, each counted in its own source, for an equijoin's pair: if one is on each side
abbrev pub hash_sides : ℕ → Option (ℕ × ℕ) → Option (ℕ × ℕ)
hash_sides n none = none
hash_sides n (some pair) = cond (ltb pair.0 n && not (ltb pair.1 n)) (some (pair.0, pair.1 - n)) none

-- a HashJoin's cell from a NestedLoopJoin's
abbrev pub hash_cell : Cell → ℕ → ℕ → Cell
hash_cell nested left right = record { origin = nested.origin; tag = Tags.hash_join; flag = nested.flag / 2; a = left; b = right; c = 0 }

-- Some join ends before hi, and its own words start at m.
pub record JoinAt (x : List ℕ) (m hi : ℕ) : Type 0 where
  pub lo : ℕ
  pub og : ℕ
  pub outer : Bool
  pub j : Join
  pub l : Node
  pub r : Node
  pub here : NodeHere x lo hi (join og outer j l r)
  pub own : OwnStart x lo hi m

-- The join's own part after hash_join is written behind whatever became of its sources.
abbrev pub Rewrites : ℕ → List ℕ → ℕ → ℕ → List ℕ → ℕ → ℕ → ℕ → List ℕ → Type 0
Rewrites n x m hi y at u k y' =
    (lo og : ℕ) (outer : Bool) (j : Join) (l r : Node) → NodeHere x lo hi (join og outer j l r) → OwnStart x lo hi m → (y₀ : List ℕ) (p q : Node) → length y ≡ length y₀
    → Wrote y₀ at (node_words p ++ node_words q) u y → Wrote y₀ at (node_words (join og outer (hash_join n j) p q)) k y'

-- The node after pass 4 is appended to the first `at` words of y, or has no room.
abbrev pub Writes : List ℕ → List ℕ → ℕ → ℕ → List ℕ → ℕ → ℕ → List ℕ → Type 0
Writes records x lo hi y at n y' =
    (schema : Schema) (p : Node) → Tables records schema → NodeHere x lo hi p → Wrote y at (node_words (HashJoin schema p)) n y'
