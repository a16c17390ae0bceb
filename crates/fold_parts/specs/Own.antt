-- A node's own parts, and what folding them does.
use Rattle.std.specs.Prelude.{ℕ, ◌+◌, ◌-◌, ◌*◌, ◌<◌, Bool, true, false, ◌≡◌, List, [], ◌∷◌, map, length}
use Rattle.std.proofs.Math.Option.{Option, none, some}
use Rattle.sql.specs.Expression.{Marked, Expression}
use Rattle.sql.specs.Plan.{Label, Leaf, scan, lookup, nothing, values, limit, offset, order, projection, remap, aggregate, Over, filter, other, Join, nested_loop, hash, Node, leaf, over, join}
use Rattle.sql.specs.Optimizer.{fold_leaf, fold_over, fold_join}
use Rattle.sheet.specs.Content.{item_cell, key_cell, row_cell}
use Rattle.sheet_laws.specs.Fits.{All}
use Rattle.words.specs.Words.{leaf_own, over_own, join_own}
use Rattle.words.specs.Place.{NodeHere}
use Rattle.nodes.specs.Own.{OwnStart}
use Rattle.fold_operator.specs.Left.{Folded}
use Rattle.fold_parts.specs.Leaves.{Leaves, UpTo}
use Rattle.fold_parts.specs.Parts.{OwnPart, alone, under, PartFits}
use Rattle.cells.specs.Cells.{cell_words}

-- ---- those that are visited

abbrev pub key_part : Expression × Bool × ℕ → OwnPart
key_part k = under k.2 (k.0 ∷ []) (key_cell k.1)

abbrev pub item_part : Expression × Label × ℕ → OwnPart
item_part i = under i.2 (i.0 ∷ []) (item_cell i.1)

abbrev pub row_part : Marked (List Expression) → OwnPart
row_part es = under es.1 es.0 (row_cell (length es.0))

abbrev pub optional_parts : Option Expression → List OwnPart
optional_parts none = []
optional_parts (some e) = alone e ∷ []

abbrev pub leaf_parts : Leaf → List OwnPart
leaf_parts (scan t al q) = optional_parts q
leaf_parts (lookup a t al vs) = []
leaf_parts (nothing ls) = []
leaf_parts (values rs) = map row_part rs

abbrev pub over_parts : Over → List OwnPart
over_parts (filter e) = alone e ∷ []
over_parts (other (limit n)) = []
over_parts (other (offset n)) = []
over_parts (other (order ks)) = map key_part ks
over_parts (other (projection is)) = map item_part is
over_parts (other (remap ts)) = []
over_parts (other (aggregate es gs)) = []

abbrev pub join_parts : Join → List OwnPart
join_parts (nested_loop q) = optional_parts q
join_parts (hash i j) = []

abbrev pub own_parts : Node → List OwnPart
own_parts (leaf og l) = leaf_parts l
own_parts (over og o n) = over_parts o
own_parts (join og outer j l r) = join_parts j

-- Whether a node's own expressions are visited: not where it has none, nor in Aggregate.
abbrev pub leaf_visited : Leaf → Bool
leaf_visited (scan t al q) = true
leaf_visited (lookup a t al vs) = false
leaf_visited (nothing ls) = false
leaf_visited (values rs) = true

abbrev pub over_visited : Over → Bool
over_visited (filter e) = true
over_visited (other (limit n)) = false
over_visited (other (offset n)) = false
over_visited (other (order ks)) = true
over_visited (other (projection is)) = true
over_visited (other (remap ts)) = false
over_visited (other (aggregate es gs)) = false

abbrev pub join_visited : Join → Bool
join_visited (nested_loop q) = true
join_visited (hash i j) = false

abbrev pub visited : Node → Bool
visited (leaf og l) = leaf_visited l
visited (over og o n) = over_visited o
visited (join og outer j l r) = join_visited j

-- ---- contracts

abbrev pub Visits : List ℕ → ℕ → ℕ → Bool → Type 0
Visits s lo hi r = (p : Node) → NodeHere s lo hi p → r ≡ visited p

-- p stands in s from word lo up to hi, and its own parts fit.
pub record OwnHere (text s : List ℕ) (lo hi : ℕ) (p : Node) : Type 0 where
  pub here : NodeHere s lo hi p
  pub fit : All (PartFits text) (own_parts p)

-- Some node stands there so; its own words start at m, at a cell.
pub record OwnAt (text s : List ℕ) (lo hi m : ℕ) : Type 0 where
  pub p : Node
  pub here : OwnHere text s lo hi p
  pub own : OwnStart s lo hi m
  pub first : ℕ
  pub numbered : m ≡ cell_words * first
  pub short : length text < 65536

-- what folding a node's own parts leaves, where the first one's cell has the number `first`
abbrev pub OwnLeft : List ℕ → ℕ → ℕ → Node → Folded → List ℕ → Type 0
OwnLeft d at first (leaf og l) r d' = Leaves leaf_own d at (fold_leaf first l) r d'
OwnLeft d at first (over og o n) r d' = Leaves over_own d at (fold_over first o) r d'
OwnLeft d at first (join og outer j a b) r d' = Leaves join_own d at (fold_join first j) r d'

pub record FoldsOwn (text s : List ℕ) (lo hi : ℕ) (d : List ℕ) (at m : ℕ) (r : Folded) (d' : List ℕ) : Type 0 where
  pub leaves : (first : ℕ) (p : Node) → m ≡ cell_words * first → OwnHere text s lo hi p → OwnLeft d at first p r d'
  pub within : UpTo (at + (hi - cell_words - m)) r
