-- Chains: nodes with one source that are no Filters, each over the next one, and where the node below them stands. Among them, chains of bare nodes.
use Rattle.std.specs.Prelude.{ℕ, ◌+◌, ◌<◌, Bool, true, false, ◌≡◌, List, [], ◌∷◌, ◌++◌, length}
use Rattle.sql.specs.Expression.{Marked}
use Rattle.sql.specs.Plan.{Other, filter, other, Node, leaf, over, join, over_size}
use Rattle.cells.specs.Cells.{cell_words, words}
use Rattle.cells.specs.Room.{Wrote}
use Rattle.words.specs.Words.{cell, over_own, over_cell, node_words}
use Rattle.words.specs.Place.{NodeHere}
use Rattle.nodes.specs.Own.{OwnStart, SourceCount}

-- the nodes of a chain over a node, each with its origin, the lowest one first
abbrev pub chain : List (Marked Other) → Node → Node
chain [] p = p
chain (o ∷ os) p = chain os (over o.1 (other o.0) p)

-- how many cells they have
abbrev pub sizes : List (Marked Other) → ℕ
sizes [] = 0
sizes (o ∷ os) = sizes os + over_size (other o.0)

-- their words, which stand behind those of the node below
abbrev pub behind_one : Marked Other → Node → List ℕ
behind_one o p = over_own (other o.0) ++ words (cell o.1 (over_cell (other o.0))) (length (node_words p ++ over_own (other o.0)) + cell_words)

abbrev pub behind : List (Marked Other) → Node → List ℕ
behind [] p = []
behind (o ∷ os) p = behind_one o p ++ behind os (over o.1 (other o.0) p)

abbrev pub is_other : Node → Bool
is_other (leaf og l) = false
is_other (over og (filter e) n) = false
is_other (over og (other o) n) = true
is_other (join og outer j l r) = false

-- ---- contracts

abbrev pub IsOther : List ℕ → ℕ → ℕ → Bool → Type 0
IsOther s lo hi r = (p : Node) → NodeHere s lo hi p → r ≡ is_other p

-- p is a chain over a node that ends before `end`; n is the length of the chain and `left`. The chain ends only where the node below is none of its kind, or
-- where nothing is left.
pub record Through (s : List ℕ) (n lo left end : ℕ) (p : Node) : Type 0 where
  pub above : List (Marked Other)
  pub q : Node
  pub is : p ≡ chain above q
  pub count : n ≡ left + length above
  pub here : NodeHere s lo end q
  pub last : is_other q ≡ true → left ≡ 0

abbrev pub GoesDown : List ℕ → ℕ → ℕ → ℕ → ℕ → ℕ → Type 0
GoesDown s n lo hi left end = (p : Node) → NodeHere s lo hi p → Through s n lo left end p

-- In x stands a chain over some node, which ends before `end`; the chain ends before hi.
pub record ChainAt (x : List ℕ) (end hi : ℕ) : Type 0 where
  pub low : ℕ
  pub os : List (Marked Other)
  pub p : Node
  pub whole : NodeHere x low hi (chain os p)
  pub below : NodeHere x low end p

-- The chain from `end` up to hi is written over whatever node was written from lo up to `at`. A position past the end of y stays so.
pub record Follows (x : List ℕ) (end hi : ℕ) (y : List ℕ) (lo at n : ℕ) (y' : List ℕ) : Type 0 where
  pub over_node : (low : ℕ) (os : List (Marked Other)) (p q : Node) → NodeHere x low hi (chain os p) → NodeHere x low end p → (y₀ : List ℕ) → length y ≡ length y₀
      → Wrote y₀ lo (node_words q) at y → Wrote y₀ lo (node_words (chain os q)) n y'
  pub full : length y < at → length y < n

-- ---- bare nodes: one source, and no words of their own but their cell

abbrev pub no_words : List ℕ → Bool
no_words [] = true
no_words (w ∷ ws) = false

abbrev pub is_bare : Node → Bool
is_bare (leaf og l) = false
is_bare (over og o n) = no_words (over_own o)
is_bare (join og outer j l r) = false

-- From `end` up to hi stand the cells of bare nodes, each over the one before. All these nodes start at lo, and so does the node below them.
pub data Bare (s : List ℕ) (lo hi : ℕ) : ℕ → Type 0 where
  no_more : {end : ℕ} → end ≡ hi → Bare s lo hi end
  one_more : {end : ℕ} → SourceCount s lo (end + cell_words) 1 → OwnStart s lo (end + cell_words) end → Bare s lo hi (end + cell_words) → Bare s lo hi end

-- The node that ends before `end` stands below them, and is not bare.
pub record GoesBelow (s : List ℕ) (lo hi end : ℕ) : Type 0 where
  pub down : Bare s lo hi end
  pub last : (p : Node) → NodeHere s lo end p → is_bare p ≡ false
