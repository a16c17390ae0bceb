-- The parts of a node: its sources, its own words, and its cell.
use Rattle.std.specs.Prelude.{ℕ, ◌+◌, ◌≡◌, List, length}
use Rattle.std.proofs.Math.Option.{Option, none, some}
use Rattle.sql.specs.Expression.{Expression}
use Rattle.sql.specs.Plan.{Leaf, scan, lookup, nothing, values, limit, offset, order, projection, remap, aggregate, Over, filter, other, Join, nested_loop, hash, Node, leaf, over, join}
use Rattle.words.specs.Words.{source_words, source_count}
use Rattle.words.specs.Place.{NodeHere, NodeAt}

-- how many trees a node's own words are
abbrev pub optional_count : Option Expression → ℕ
optional_count none = 0
optional_count (some e) = 1

abbrev pub leaf_count : Leaf → ℕ
leaf_count (scan t al q) = optional_count q
leaf_count (lookup a t al vs) = length vs
leaf_count (nothing ls) = length ls
leaf_count (values rs) = length rs

abbrev pub over_count : Over → ℕ
over_count (filter e) = 1
over_count (other (limit n)) = 0
over_count (other (offset n)) = 0
over_count (other (order ks)) = length ks
over_count (other (projection is)) = length is
over_count (other (remap ts)) = length ts
over_count (other (aggregate es gs)) = length es + length gs

abbrev pub join_count : Join → ℕ
join_count (nested_loop q) = optional_count q
join_count (hash i j) = 0

abbrev pub own_count : Node → ℕ
own_count (leaf og l) = leaf_count l
own_count (over og o n) = over_count o
own_count (join og outer j l r) = join_count j

-- ---- contracts

-- r is where the node's own words start, behind its sources.
abbrev pub OwnStart : List ℕ → ℕ → ℕ → ℕ → Type 0
OwnStart s lo hi r = (p : Node) → NodeHere s lo hi p → r ≡ lo + length (source_words p)

-- r is the number of the node's sources.
abbrev pub SourceCount : List ℕ → ℕ → ℕ → ℕ → Type 0
SourceCount s lo hi r = (p : Node) → NodeHere s lo hi p → r ≡ source_count p

-- Some node that has sources stands there.
pub record SourcedAt (s : List ℕ) (lo hi : ℕ) : Type 0 where
  pub node : NodeAt s lo hi
  pub sourced : source_count node.p ≡ 0 → ⊥

-- r is the number of trees that the node's own words are, if it has sources.
abbrev pub OwnTrees : List ℕ → ℕ → ℕ → ℕ → Type 0
OwnTrees s lo hi r = (p : Node) → NodeHere s lo hi p → (source_count p ≡ 0 → ⊥) → r ≡ own_count p
