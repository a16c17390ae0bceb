-- The node that is tried. A Filter that is merged into the Filter below it isn't written into the plan: its predicate is gathered in the scratch y, with that
-- of the Filter below and an And over both, which has the upper Filter's origin. What is gathered takes its place in the plan where no Filter is below it, or where no more nodes may be tried. So
-- each predicate is copied once on the way down, and once into the plan.
use Rattle.std.specs.Prelude.{ℕ, ◌+◌, ◌≤◌, ◌≡◌, List, ◌++◌, length, take}
use Rattle.sql.specs.Schema.{Schema}
use Rattle.sql.specs.Expression.{Expression, and}
use Rattle.sql.specs.Plan.{filter, other, Node, leaf, over, join}
use Rattle.sql.specs.Answer.{Answer}
use Rattle.cells.specs.Room.{most_words, Wrote}
use Rattle.words.specs.Words.{expression_words, node_words}
use Rattle.words.specs.Place.{ExpressionHere}
use Rattle.records.specs.Records.{Tables}
use Rattle.edit.specs.Edit.{Holds, Shares, Left, Placed}
use Rattle.kept.specs.Kept.{Kept}
use Rattle.cells.specs.Cells.{cell_words}

-- A Filter whose predicate is the first `at` words of y, and whose source stands in x from lo up to `end`. The words of x behind its source, up to t − tail,
-- are gone once the Filter is placed; it has no more words than they leave.
pub record Gathered (x y : List ℕ) (at end t lo tail : ℕ) (pre post : List ℕ) (e : Expression) (source : Node) : Type 0 where
  pub gone : List ℕ
  pub whole : take t x ≡ pre ++ (node_words source ++ (gone ++ post))
  pub low : length pre ≡ lo
  pub below : lo + length (node_words source) ≡ end
  pub high : length post ≡ tail
  pub inside : t ≤ length x
  pub long : at ≡ length (expression_words e)
  pub predicate : take at y ≡ expression_words e
  pub fits : at + cell_words ≤ length gone

-- A Filter with that origin stands there so; any other node stands in x, from lo up to t − tail, and nothing is gathered.
abbrev pub StandsAs : (x y : List ℕ) (at end t lo tail origin : ℕ) (pre post : List ℕ) → Node → Type 0
StandsAs x y at end t lo tail origin pre post (leaf og l) = (at ≡ 0) × Holds x t lo tail pre post (leaf og l)
StandsAs x y at end t lo tail origin pre post (over og (filter e) source) = (origin ≡ og) × Gathered x y at end t lo tail pre post e source
StandsAs x y at end t lo tail origin pre post (over og (other o) source) = (at ≡ 0) × Holds x t lo tail pre post (over og (other o) source)
StandsAs x y at end t lo tail origin pre post (join og outer j l r) = (at ≡ 0) × Holds x t lo tail pre post (join og outer j l r)

pub record Stands (x y : List ℕ) (at end t lo tail origin : ℕ) (pre post : List ℕ) (p : Node) : Type 0 where
  pub is : StandsAs x y at end t lo tail origin pre post p

-- ---- contracts

-- As PassAt (crate kept): some sound node of a schema that is lent stands there.
pub record TriedAt (records x y : List ℕ) (at end t lo tail origin : ℕ) : Type 0 where
  pub schema : Schema
  pub text : List ℕ
  pub tables : ℕ
  pub given : Tables records schema
  pub short : length x ≤ most_words
  pub room : ℕ
  pub rest : ℕ
  pub shares : Shares x lo tail room rest
  pub pre : List ℕ
  pub post : List ℕ
  pub p : Node
  pub fit : Kept schema text tables p p
  pub stands : Stands x y at end t lo tail origin pre post p

-- As Passes (crate kept): x' with r words is x with t words, and what is gathered, after f of the node that stands there.
abbrev pub Tries : (ℕ → Schema → ℕ → Node → Answer Node) → (records x y : List ℕ) (at end t lo tail origin r : ℕ) → List ℕ → Type 0
Tries f records x y at end t lo tail origin r x' =
    (schema : Schema) (text : List ℕ) (tables : ℕ) → Tables records schema → (room rest : ℕ) → Shares x lo tail room rest → (pre post : List ℕ) (p : Node)
    → Kept schema text tables p p → Stands x y at end t lo tail origin pre post p → Left (Kept schema text tables p) x' r pre post (f room schema rest p)

-- Whatever predicates are the first `at` words of y, and the words of x from lo up to hi: the first r words of y' are both under an And with the origin `new`.
abbrev pub Gathers : (new : ℕ) (x : List ℕ) (lo hi : ℕ) (y : List ℕ) (at r : ℕ) → List ℕ → Type 0
Gathers new x lo hi y at r y' =
    (e q : Expression) → ExpressionHere x lo hi q → Wrote y 0 (expression_words e) at y → Wrote y 0 (expression_words (and new e q)) r y'

-- Whatever node stands in x from lo up to `end`, and whatever predicate is the first n words of y: a Filter with the predicate and the origin og, over the
-- node, takes the place of the node and of the words behind it, up to t − tail.
abbrev pub Filters : (og : ℕ) (x y : List ℕ) (n t lo end tail r : ℕ) → List ℕ → Type 0
Filters og x y n t lo end tail r x' =
    (e : Expression) (source : Node) (pre gone post : List ℕ) → take t x ≡ pre ++ (node_words source ++ (gone ++ post))
    → length pre ≡ lo → lo + length (node_words source) ≡ end → length post ≡ tail → Wrote y 0 (expression_words e) n y
    → Placed x' r pre post (node_words (over og (filter e) source))
