-- What the code's values say in the words of the definitions, and the contracts of tracing a label.
use Rattle.std.specs.Prelude.{ℕ, ◌+◌, ◌-◌, ◌<◌, Bool, true, false, cond, ◌||◌, ◌≡◌, List, leb, eqb, Option as CodeOption, Some, None}
use Rattle.std.proofs.Math.Option.{Option, none, some}
use Rattle.sql.specs.Schema.{Schema}
use Rattle.sql.specs.Expression.{Expression}
use Rattle.sql.specs.Plan.{unlabelled, unqualified, qualified, Other, other, Join, Leaf, Node, leaf, over, join, routed, item_label, group_label, items_label, remap_source, optional_label, other_label, table_label, leaf_label, column_label, columns}
use Rattle.sql.specs.Plan as plan
use Rattle.sheet.specs.Content.{label_of}
use Rattle.cells.specs.Cells.{Part}
use Rattle.words.specs.Words.{all_words, expression_words, item_words, target_words}
use Rattle.words.specs.Place.{NodeHere}
use Rattle.nodes.specs.Columns.{ColumnsAt, through}
use Rattle.records.specs.Records.{Tables}
use Rattle.labels.specs.declared.Label.{Label}
use Rattle.labels.specs.declared.Label.TheVariants.{Unlabelled, Unqualified, Qualified}
use Rattle.labels.specs.declared.Route.{Route}
use Rattle.labels.specs.declared.Route.TheVariants.{To, Ends}
use Rattle.labels.specs.declared.Traced.{Traced}
use Rattle.labels.specs.declared.Traced.TheVariants.{Said, Column}
use Rattle.labels.specs.declared.Spot.{Spot}
use Rattle.std.specs.declared.ops.ControlFlow.{ControlFlow}
use Rattle.std.specs.declared.ops.ControlFlow.TheVariants.{Break, Continue}
use Rattle.sheet.specs.Tags

-- ---- what the code's values say

abbrev pub label : Label → plan.Label
label Unlabelled = unlabelled
label (Unqualified n) = unqualified n
label (Qualified q n) = qualified q n

-- an alias as the code has it, in the words of the definitions, and the same of a flag with the alias beside it
abbrev pub alias_of : CodeOption ℕ → Option ℕ
alias_of (Some r) = some r
alias_of None = none

abbrev pub alias_if : Bool → ℕ → Option ℕ
alias_if true r = some r
alias_if false r = none

-- a label by what it comes from
abbrev pub named : Schema → Traced → plan.Label
named schema (Said l) = label l
named schema (Column table alias column) = table_label schema table (alias_of alias) column

-- a label by its route, where the source's columns have the labels `source`
abbrev pub routed_by : (ℕ → plan.Label) → Route → plan.Label
routed_by source (To i) = source i
routed_by source (Ends l) = label l

-- ---- contracts

abbrev pub Labelled : (flag a b : ℕ) → Label → Type 0
Labelled flag a b r = label r ≡ label_of (record { tag = 0; flag = flag; origin = 0; a = a; b = b; c = 0 })

pub record ExpressionEnds (s : List ℕ) (hi : ℕ) : Type 0 where
  pub lo : ℕ
  pub e : Expression
  pub part : Part s lo hi (expression_words e)

abbrev pub ExpressionRoute : List ℕ → ℕ → Route → Type 0
ExpressionRoute s hi r = (source : ℕ → plan.Label) (lo : ℕ) (e : Expression) → Part s lo hi (expression_words e) → routed_by source r ≡ routed source e

pub record ItemEnds (s : List ℕ) (hi : ℕ) : Type 0 where
  pub lo : ℕ
  pub item : Expression × plan.Label × ℕ
  pub part : Part s lo hi (item_words item)

abbrev pub ItemRoute : List ℕ → ℕ → Route → Type 0
ItemRoute s hi r = (source : ℕ → plan.Label) (lo : ℕ) (item : Expression × plan.Label × ℕ) → Part s lo hi (item_words item) → routed_by source r ≡ item_label source item

pub record TargetsUp (s : List ℕ) (lo hi : ℕ) : Type 0 where
  pub targets : List (Option ℕ × ℕ)
  pub part : Part s lo hi (all_words target_words targets)

abbrev pub RemapRoute : List ℕ → ℕ → ℕ → ℕ → Route → Type 0
RemapRoute s lo hi i r =
    (source : ℕ → plan.Label) (targets : List (Option ℕ × ℕ)) → Part s lo hi (all_words target_words targets)
    → routed_by source r ≡ optional_label source (remap_source 0 targets i)

-- r is the route of column i of the node there, if that is over a source and no Filter.
abbrev pub Routes : List ℕ → ℕ → ℕ → ℕ → Route → Type 0
Routes s lo hi i r =
    (source : ℕ → plan.Label) (og : ℕ) (o : Other) (n : Node) → NodeHere s lo hi (over og (other o) n) → routed_by source r ≡ other_label o source i

-- whether a cell of a Scan (bit 1 of its flag) or of a lookup says an alias
abbrev pub is_aliased : (tag flag : ℕ) → Bool
is_aliased tag flag = cond (eqb tag Tags.scan) (leb 2 flag) (leb 1 flag)

-- Aggregate, Projection and Remap, among the nodes with one source
abbrev pub says_columns : ℕ → Bool
says_columns tag = eqb tag Tags.aggregate || leb Tags.projection tag

-- r is what column i's label of the node there comes from, if that has no source.
abbrev pub LeafTraced : List ℕ → ℕ → ℕ → ℕ → Traced → Type 0
LeafTraced s lo hi i r = (schema : Schema) (og : ℕ) (l : Leaf) → NodeHere s lo hi (leaf og l) → named schema r ≡ leaf_label schema l i

-- p has w columns, where that is asked for: if its columns are those of its sources.
abbrev pub Asked : Schema → Node → ℕ → Type 0
Asked schema p w = through p ≡ true → w ≡ columns schema p

-- r is the number of columns of the node there, where that is asked for.
abbrev pub AskedCount : (records s : List ℕ) (lo hi r : ℕ) → Type 0
AskedCount records s lo hi r = (schema : Schema) (p : Node) → Tables records schema → NodeHere s lo hi p → Asked schema p r

-- Some node whose columns can be counted stands there, and has w of them, where that is asked for.
pub record CountedAt (records s : List ℕ) (lo hi w : ℕ) : Type 0 where
  pub at : ColumnsAt records s lo hi
  pub count : Asked at.schema at.p w

-- r is the number of columns of the left source of the node there, which has w columns.
abbrev pub LeftColumns : (records s : List ℕ) (lo hi w r : ℕ) → Type 0
LeftColumns records s lo hi w r =
    (schema : Schema) (og : ℕ) (outer : Bool) (j : Join) (left right : Node) → Tables records schema → NodeHere s lo hi (join og outer j left right)
    → w ≡ columns schema left + columns schema right → r ≡ columns schema left

-- r is what the label of column i of the node there comes from.
abbrev pub Traces : List ℕ → List ℕ → ℕ → ℕ → ℕ → Traced → Type 0
Traces records s lo hi i r = (schema : Schema) (p : Node) → Tables records schema → NodeHere s lo hi p → named schema r ≡ column_label schema p i

-- Column i of p has the label of column c of the node from lo to hi, which has w columns, where that is asked for.
pub record Reached (schema : Schema) (s : List ℕ) (p : Node) (i lo hi c w : ℕ) : Type 0 where
  pub q : Node
  pub here : NodeHere s lo hi q
  pub count : Asked schema q w
  pub same : column_label schema q c ≡ column_label schema p i

-- A step to another column, of a shorter node.
pub record Moves (records s : List ℕ) (lo hi i w : ℕ) (x : Spot) : Type 0 where
  pub there : CountedAt records s x.lo x.hi x.columns
  pub shorter : x.hi - x.lo < hi - lo
  pub reaches : (schema : Schema) (p : Node) → Tables records schema → NodeHere s lo hi p → Asked schema p w
      → Reached schema s p i x.lo x.hi x.column x.columns

-- A step from a column: to what its label comes from, or to the column that has the same label.
abbrev pub Steps : (records s : List ℕ) → Spot → ControlFlow Traced Spot → Type 0
Steps records s x (Break o) = Traces records s x.lo x.hi x.column o
Steps records s x (Continue y) = Moves records s x.lo x.hi x.column x.columns y
