-- The split of a join's predicate in slices of words: Optimizer.split. The predicate's normal form stands in `cnf` up to `end`.
use Rattle.std.specs.Prelude.{ℕ, ◌+◌, ◌≤◌, Bool, ◌≡◌, List, ◌++◌, length, take}
use Rattle.std.proofs.Math.Option.{Option, some}
use Rattle.sql.specs.Schema.{Schema}
use Rattle.sql.specs.Expression.{Expression, ands, and_vec}
use Rattle.sql.specs.Plan.{nested_loop, Node, join, columns}
use Rattle.sql.specs.Optimizer.{for_both, push_part, split}
use Rattle.sql.specs.Room.{join_predicate}
use Rattle.sheet.specs.Cells.{present}
use Rattle.cells.specs.Cells.{cell_words, sized}
use Rattle.cells.specs.Room.{Short, most_words, Wrote}
use Rattle.words.specs.Words.{cell, optional_words, node_words, join_cell}
use Rattle.words.specs.Place.{ExpressionHere, NodeHere}
use Rattle.nodes.specs.Columns.{Narrow}
use Rattle.records.specs.Records.{Tables}
use Rattle.edit.specs.Edit.{Holds, Placed}
use Rattle.copied_lookups.specs.declared.Source.TheVariants.{Left, Right}
use Rattle.push_part.specs.Part.{part_for}

-- The predicate of the join of l and r after the split: the conjuncts that stay, and what comes back from l and from r, in the joined row's columns.
abbrev pub stays : (origin n : ℕ) → List Expression → Node → Node → Option Expression
stays og n cnf l r = and_vec og (for_both n cnf ++ ((push_part og (part_for og Left n 0 cnf) l).1 ++ (push_part og (part_for og Right n 0 cnf) r).1))

-- the left and the right source after the split
abbrev pub new_left : (origin n : ℕ) → List Expression → Node → Node
new_left og n cnf l = (push_part og (part_for og Left n 0 cnf) l).0

abbrev pub new_right : (origin n : ℕ) → List Expression → Node → Node
new_right og n cnf r = (push_part og (part_for og Right n n cnf) r).0

-- A join's predicate and its cell, behind the words b, which the cell is over too. Where b are the words of its sources, that is the whole join.
abbrev pub joined : List ℕ → ℕ → Bool → Option Expression → List ℕ
joined b og outer o = sized (b ++ optional_words o) (cell og (join_cell outer (nested_loop o)))

-- ---- what stands where

-- A join with a predicate stands in x from lo up to t − tail, between the words `pre` and `post`; its left source ends at mid, its right source at m.
pub record JoinHere (x : List ℕ) (t lo mid m tail : ℕ) (pre post : List ℕ) (og : ℕ) (outer : Bool) (p : Expression) (l r : Node) : Type 0 where
  pub holds : Holds x t lo tail pre post (join og outer (nested_loop (some p)) l r)
  pub left : lo + length (node_words l) ≡ mid
  pub right : mid + length (node_words r) ≡ m

-- Some such join with that origin stands there, in a list whose sizes fit a word.
pub record JoinAt (x : List ℕ) (t lo mid m tail og : ℕ) : Type 0 where
  pub pre : List ℕ
  pub post : List ℕ
  pub outer : Bool
  pub p : Expression
  pub l : Node
  pub r : Node
  pub here : JoinHere x t lo mid m tail pre post og outer p l r
  pub short : Short x

-- Some join with a predicate stands there.
pub record PredicateAt (s : List ℕ) (lo hi : ℕ) : Type 0 where
  pub og : ℕ
  pub outer : Bool
  pub p : Expression
  pub l : Node
  pub r : Node
  pub here : NodeHere s lo hi (join og outer (nested_loop (some p)) l r)

-- What the split asks for: some join with a predicate stands there, and its left source's columns can be counted (crate nodes, Columns).
pub record SplitAt (records x : List ℕ) (t lo tail : ℕ) : Type 0 where
  pub schema : Schema
  pub tables : Tables records schema
  pub pre : List ℕ
  pub post : List ℕ
  pub og : ℕ
  pub outer : Bool
  pub p : Expression
  pub l : Node
  pub r : Node
  pub holds : Holds x t lo tail pre post (join og outer (nested_loop (some p)) l r)
  pub narrow : Narrow l
  pub short : length x ≤ most_words

-- ---- contracts

-- b tells whether the node there is a join with a predicate.
abbrev pub HasPredicate : List ℕ → ℕ → ℕ → Bool → Type 0
HasPredicate s lo hi b = (p : Node) → NodeHere s lo hi p → b ≡ present (join_predicate p)

-- The new predicate, if there is one, is appended to the first `at` words of d or has no room. Its Ands have the origin `new`.
abbrev pub Stays : (new n : ℕ) → List ℕ → ℕ → ℕ → ℕ → List ℕ → ℕ → List ℕ → ℕ → ℕ → List ℕ → Type 0
Stays new n s lo mid m cnf end d at q d' = (l r : Node) → NodeHere s lo mid l → NodeHere s mid m r → (e : Expression) → ExpressionHere cnf 0 end e
    → Wrote d at (optional_words (stays new n (ands e) l r)) q d'

-- Whatever words were written to the first words of d, up to mid, and whatever predicate behind them, the cell of a join of the kind that stands in s is over them.
pub record Rejoins (s : List ℕ) (lo hi : ℕ) (d : List ℕ) (mid at q : ℕ) (d' : List ℕ) : Type 0 where
  pub long : q ≤ length d → cell_words ≤ q
  pub writes : (og : ℕ) (outer : Bool) (p : Expression) (l r : Node) → NodeHere s lo hi (join og outer (nested_loop (some p)) l r)
      → (o : Option Expression) (d₀ d₁ b : List ℕ) → length d₁ ≡ length d₀ → length d ≡ length d₁ → Wrote d₀ 0 b mid d₁ → Wrote d₁ mid (optional_words o) at d
      → Wrote d₀ 0 (joined b og outer o) q d'

-- Whatever was written to the first `at` words of y: it, the new predicate and the cell take the place of the join's words behind `kept`, the first words of its
-- sources, or have no room. The join has the origin og.
abbrev pub ReplacesEnd : (og n : ℕ) → (x y : List ℕ) (t lo mid m tail : ℕ) → List ℕ → ℕ → ℕ → ℕ → ℕ → List ℕ → Type 0
ReplacesEnd og n x y t lo mid m tail cnf end from at q x' =
    (pre post : List ℕ) (outer : Bool) (p : Expression) (l r : Node) → JoinHere x t lo mid m tail pre post og outer p l r → (e : Expression) → ExpressionHere cnf 0 end e
    → (kept gone : List ℕ) → node_words l ++ node_words r ≡ kept ++ gone → lo + length kept ≡ from
    → (y₀ w : List ℕ) → length y ≡ length y₀ → Wrote y₀ 0 w at y → Placed x' q pre post (joined (kept ++ w) og outer (stays og n (ands e) l r))

-- The join with the new predicate and with the right source after the split takes the join's place, or has no room.
abbrev pub SplitsRight : (og n : ℕ) → (x : List ℕ) (t lo mid m tail : ℕ) → List ℕ → ℕ → ℕ → List ℕ → Type 0
SplitsRight og n x t lo mid m tail cnf end q x' =
    (pre post : List ℕ) (outer : Bool) (p : Expression) (l r : Node) → JoinHere x t lo mid m tail pre post og outer p l r → (e : Expression) → ExpressionHere cnf 0 end e
    → Placed x' q pre post (node_words (join og outer (nested_loop (stays og n (ands e) l r)) l (new_right og n (ands e) r)))

-- The join with the new predicate and with both sources after the split takes the join's place, or has no room.
abbrev pub SplitsBoth : (og n : ℕ) → (x : List ℕ) (t lo mid m tail : ℕ) → List ℕ → ℕ → ℕ → List ℕ → Type 0
SplitsBoth og n x t lo mid m tail cnf end q x' =
    (pre post : List ℕ) (outer : Bool) (p : Expression) (l r : Node) → JoinHere x t lo mid m tail pre post og outer p l r → (e : Expression) → ExpressionHere cnf 0 end e
    → Placed x' q pre post (node_words (join og outer (nested_loop (stays og n (ands e) l r)) (new_left og n (ands e) l) (new_right og n (ands e) r)))

-- The join after the split takes the join's place, or has no room.
abbrev pub Splits : (records x : List ℕ) (t lo tail : ℕ) → List ℕ → ℕ → ℕ → List ℕ → Type 0
Splits records x t lo tail cnf end q x' = (schema : Schema) → Tables records schema → (pre post : List ℕ) (og : ℕ) (outer : Bool) (p : Expression) (l r : Node)
    → Holds x t lo tail pre post (join og outer (nested_loop (some p)) l r) → (e : Expression) → ExpressionHere cnf 0 end e
    → Placed x' q pre post (node_words (split og (columns schema l) outer (ands e) l r))
