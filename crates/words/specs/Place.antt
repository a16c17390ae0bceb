-- Where expressions and nodes stand in a list of words, and what a function that writes one has done. A contract speaks of every expression, or node, that
-- stands there.
use Rattle.std.specs.Prelude.{ℕ, ◌-◌, List, take, drop}
use Rattle.sql.specs.Expression.{Expression}
use Rattle.sql.specs.Plan.{Node}
use Rattle.cells.specs.Cells.{Part}
use Rattle.cells.specs.Room.{Wrote}
use Rattle.words.specs.Words.{expression_words, node_words}

-- e stands in s from word lo up to hi.
pub record ExpressionHere (s : List ℕ) (lo hi : ℕ) (e : Expression) : Type 0 where
  pub part : Part s lo hi (expression_words e)

-- Some expression stands there.
pub record ExpressionAt (s : List ℕ) (lo hi : ℕ) : Type 0 where
  pub e : Expression
  pub here : ExpressionHere s lo hi e

-- the words of s from word lo up to hi, by themselves
abbrev pub own : List ℕ → ℕ → ℕ → List ℕ
own s lo hi = take (hi - lo) (drop lo s)

-- f of the expression from lo up to hi is appended to the first `at` words of d, or has no room.
abbrev pub Maps : (Expression → Expression) → List ℕ → ℕ → ℕ → List ℕ → ℕ → ℕ → List ℕ → Type 0
Maps f s lo hi d at n d' = (e : Expression) → ExpressionHere s lo hi e → Wrote d at (expression_words (f e)) n d'

pub record NodeHere (s : List ℕ) (lo hi : ℕ) (p : Node) : Type 0 where
  pub part : Part s lo hi (node_words p)

pub record NodeAt (s : List ℕ) (lo hi : ℕ) : Type 0 where
  pub p : Node
  pub here : NodeHere s lo hi p

abbrev pub MapsNode : (Node → Node) → List ℕ → ℕ → ℕ → List ℕ → ℕ → ℕ → List ℕ → Type 0
MapsNode f s lo hi d at n d' = (p : Node) → NodeHere s lo hi p → Wrote d at (node_words (f p)) n d'
