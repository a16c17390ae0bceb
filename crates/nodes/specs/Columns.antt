-- The columns that a node in its working form emits: what the code is lent of a schema, and the contracts.
use Rattle.std.specs.Prelude.{ℕ, suc, ◌≤◌, Bool, true, false, cond, ◌≡◌, List, eqb}
use Rattle.std.proofs.Math.Option.{Option}
use Rattle.sql.specs.Schema.{Schema}
use Rattle.sql.specs.Plan.{limit, offset, order, projection, remap, aggregate, Over, filter, other, Node, leaf, over, join, remap_columns, columns}
use Rattle.cells.specs.Cells.{Part}
use Rattle.cells.specs.Room.{most_words}
use Rattle.words.specs.Words.{all_words, target_words}
use Rattle.words.specs.Place.{NodeHere}
use Rattle.records.specs.Records.{Tables}

-- No Remap of the node, or below it, has a Target above 255; a sheet's Targets hold no more.
abbrev pub NarrowOver : Over → Type 0
NarrowOver (filter e) = Unit {0}
NarrowOver (other (limit n)) = Unit {0}
NarrowOver (other (offset n)) = Unit {0}
NarrowOver (other (order ks)) = Unit {0}
NarrowOver (other (projection is)) = Unit {0}
NarrowOver (other (remap ts)) = remap_columns ts ≤ 256
NarrowOver (other (aggregate es gs)) = Unit {0}

abbrev pub Narrow : Node → Type 0
Narrow (leaf og l) = Unit {0}
Narrow (over og o n) = NarrowOver o × Narrow n
Narrow (join og outer j l r) = Narrow l × Narrow r

-- Some such node of a schema whose table records are lent stands there, in a list that is short enough for its columns to be counted without overflow.
pub record ColumnsAt (records s : List ℕ) (lo hi : ℕ) : Type 0 where
  pub schema : Schema
  pub tables : Tables records schema
  pub p : Node
  pub here : NodeHere s lo hi p
  pub narrow : Narrow p
  pub short : hi ≤ most_words

-- ---- contracts

-- r is the number of columns of the node there.
abbrev pub ColumnCount : List ℕ → List ℕ → ℕ → ℕ → ℕ → Type 0
ColumnCount records s lo hi r = (schema : Schema) (p : Node) → Tables records schema → NodeHere s lo hi p → r ≡ columns schema p

-- one past the target that a Target's cell says, if it says one
abbrev pub past : (flag a : ℕ) → ℕ
past flag a = cond (eqb flag 1) (suc a) 0

pub record TargetsAt (s : List ℕ) (lo hi : ℕ) : Type 0 where
  pub targets : List (Option ℕ × ℕ)
  pub part : Part s lo hi (all_words target_words targets)
  pub few : remap_columns targets ≤ 256

abbrev pub RemapColumns : List ℕ → ℕ → ℕ → ℕ → Type 0
RemapColumns s lo hi r = (targets : List (Option ℕ × ℕ)) → Part s lo hi (all_words target_words targets) → r ≡ remap_columns targets

-- whether the node's columns are those of its sources; otherwise it says them itself
abbrev pub through_over : Over → Bool
through_over (filter e) = true
through_over (other (limit n)) = true
through_over (other (offset n)) = true
through_over (other (order ks)) = true
through_over (other (projection is)) = false
through_over (other (remap ts)) = false
through_over (other (aggregate es gs)) = false

abbrev pub through : Node → Bool
through (leaf og l) = false
through (over og o n) = through_over o
through (join og outer j l r) = true

abbrev pub GoesThrough : List ℕ → ℕ → ℕ → Bool → Type 0
GoesThrough s lo hi r = (p : Node) → NodeHere s lo hi p → r ≡ through p
