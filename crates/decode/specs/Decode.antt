-- What `decode` is given and what it writes.
use Rattle.std.specs.Prelude.{ℕ, ◌+◌, ◌-◌, ◌/◌, ◌%◌, ◌<◌, ◌≡◌, cond, List, [], ◌∷◌, ltb, get_or}
use Rattle.sql.specs.Answer.{done}
use Rattle.sql.specs.Plan.{Node}
use Rattle.sheet.specs.Cell as Sheet
use Rattle.sheet.specs.Check.{plan}
use Rattle.layout.specs.Layout.{as_cell}
use Rattle.layout.specs.declared.Cell.{Cell}
use Rattle.cells.specs.declared.Cell as cells
use Rattle.cells.specs.Cells.{sized, Part}
use Rattle.cells.specs.Room.{Wrote}
use Rattle.words.specs.Words.{node_words}
use Rattle.nodes.specs.Trees.{Trees, TreesAt}
use Rattle.sheet.specs.Tags

-- A sheet that is accepted: it stands for some plan.
pub record Acceptable (s : List ℕ) : Type 0 where
  pub node : Node
  pub is : plan s ≡ done node

-- The words of the plan that s stands for are the first ones of x', r of them, or have no room.
abbrev pub Decodes : (s x : List ℕ) → ℕ → List ℕ → Type 0
Decodes s x r x' = (node : Node) → plan s ≡ done node → Wrote x 0 (node_words node) r x'

-- ---- how many trees a cell of a plan stands over

-- 40 Label, 41 Item, 42 Key, 43 Target, 44 Agg, 45 Row
abbrev pub part_trees : ℕ → List ℕ
part_trees a = 0 ∷ 1 ∷ 1 ∷ 0 ∷ 1 ∷ a ∷ []

-- 50 Aggregate, 51 Filter, 52 HashJoin, 53 IndexLookup, 54 KeyLookup, 55 Limit, 56 NestedLoopJoin, 57 Nothing, 58 Offset, 59 Order, 60 Projection,
-- 61 Remap, 62 Scan, 63 Values
abbrev pub node_trees : Sheet.Cell → List ℕ
node_trees k =
    (1 + k.a + k.b) ∷ 2 ∷ 2 ∷ (k.c / 65536) ∷ k.c ∷ 1 ∷ (2 + k.flag % 2) ∷ k.a ∷ 1 ∷ (1 + k.a) ∷ (1 + k.a) ∷ (1 + k.a) ∷ (k.flag % 2) ∷ k.a ∷ []

-- Constants and Columns have none, operators two (10 to 16) and one (30 to 34).
unfoldable pub trees : Sheet.Cell → ℕ
trees k =
    cond (ltb k.tag Tags.binary) 0
    (cond (ltb k.tag Tags.unary) 2
    (cond (ltb k.tag Tags.parts) 1
    (cond (ltb k.tag Tags.parts_end) (get_or (part_trees k.a) (k.tag - Tags.parts) 0)
    (cond (ltb k.tag Tags.nodes) 0 (get_or (node_trees k) (k.tag - Tags.nodes) 0)))))

-- a sheet's cell as one of the working form
abbrev pub as_words : Cell → cells.Cell
as_words k = record { origin = k.origin; tag = k.tag; flag = k.flag; a = k.a; b = k.b; c = k.c }

-- The trees that cell k stands over are the last ones of x before `at`.
pub record Last (x : List ℕ) (at : ℕ) (k : Cell) : Type 0 where
  pub last : TreesAt x (trees (as_cell k)) at
  pub a_small : k.a < 4294967296
  pub b_small : k.b < 4294967296
  pub c_small : k.c < 4294967296
  pub tag_small : k.tag < 256
  pub flag_small : k.flag < 256
  pub origin_small : k.origin < 65536

-- The cell is put over them.
abbrev pub Put : (x : List ℕ) (at : ℕ) → Cell → ℕ → List ℕ → Type 0
Put x at k r x' = (lo : ℕ) (w : List ℕ) → Trees (trees (as_cell k)) w → Part x lo at w → Wrote x lo (sized w (as_words k)) r x'
