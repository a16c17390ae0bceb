-- A plan as cells: children before their parent, in the order named.
use Rattle.std.specs.Prelude.{ℕ, Bool, true, false, List, [], ◌∷◌, ◌++◌, length}
use Rattle.std.proofs.Math.Option.{Option, none, some}
use Rattle.value.specs.Value.{Value}
use Rattle.sql.specs.Expression.{Marked, Expression, constant, column, unary, binary}
use Rattle.sql.specs.Plan.{Label, Access, by_key, by_index, Leaf, scan, lookup, nothing, values, Other, limit, offset, order, projection, remap, aggregate, Over, filter, other, Join, nested_loop, hash, Node, leaf, over, join}
use Rattle.sheet.specs.Cell.{Cell}
use Rattle.sheet.specs.Content

-- the cells of each, one after the other
abbrev pub all_cells {ℓ} : {A : Type ℓ} → (A → List Cell) → List A → List Cell
all_cells f [] = []
all_cells f (x ∷ xs) = f x ++ all_cells f xs

-- a cell alone, and as the last one
abbrev pub alone : ℕ → Content.Content → List Cell
alone og k = Content.marked og (Content.cell_of k) ∷ []

unfoldable pub expression_cells : Expression → List Cell
expression_cells (constant og v) = alone og (Content.constant_cell v)
expression_cells (column og i) = alone og (Content.column_cell i)
expression_cells (unary og o x) = expression_cells x ++ alone og (Content.unary_cell o)
expression_cells (binary og o l r) = expression_cells l ++ (expression_cells r ++ alone og (Content.binary_cell o))

-- no cells where there is no expression
abbrev pub optional_cells : Option Expression → List Cell
optional_cells none = []
optional_cells (some e) = expression_cells e

abbrev pub present : Option Expression → Bool
present none = false
present (some e) = true

-- ---- parts

abbrev pub constant_cells : Marked Value → List Cell
constant_cells v = alone v.1 (Content.constant_cell v.0)

abbrev pub label_cells : Marked Label → List Cell
label_cells l = alone l.1 (Content.label_cell l.0)

abbrev pub target_cells : Marked (Option ℕ) → List Cell
target_cells t = alone t.1 (Content.target_cell t.0)

abbrev pub item_cells : Expression × Label × ℕ → List Cell
item_cells i = expression_cells i.0 ++ alone i.2 (Content.item_cell i.1)

abbrev pub key_cells : Expression × Bool × ℕ → List Cell
key_cells k = expression_cells k.0 ++ alone k.2 (Content.key_cell k.1)

abbrev pub agg_cells : ℕ × Expression × ℕ → List Cell
agg_cells a = expression_cells a.1 ++ alone a.2 (Content.agg_cell a.0)

abbrev pub row_cells : Marked (List Expression) → List Cell
row_cells es = all_cells expression_cells es.0 ++ alone es.1 (Content.row_cell (length es.0))

-- ---- nodes: the cells that a node has beside its sources', its own cell last

abbrev pub lookup_content : Access → ℕ → Option ℕ → ℕ → Content.Content
lookup_content by_key t al n = Content.key_lookup_cell t al n
lookup_content (by_index c) t al n = Content.index_lookup_cell t al c n

unfoldable pub leaf_cells : ℕ → Leaf → List Cell
unfolding expression_cells
leaf_cells og (scan t al f) = optional_cells f ++ alone og (Content.scan_cell (present f) t al)
leaf_cells og (lookup a t al vs) = all_cells constant_cells vs ++ alone og (lookup_content a t al (length vs))
leaf_cells og (nothing ls) = all_cells label_cells ls ++ alone og (Content.nothing_cell (length ls))
leaf_cells og (values rs) = all_cells row_cells rs ++ alone og (Content.values_cell (length rs))

unfoldable pub other_cells : ℕ → Other → List Cell
unfolding expression_cells
other_cells og (limit n) = alone og (Content.limit_cell n)
other_cells og (offset n) = alone og (Content.offset_cell n)
other_cells og (order ks) = all_cells key_cells ks ++ alone og (Content.order_cell (length ks))
other_cells og (projection is) = all_cells item_cells is ++ alone og (Content.projection_cell (length is))
other_cells og (remap ts) = all_cells target_cells ts ++ alone og (Content.remap_cell (length ts))
other_cells og (aggregate es gs) =
    all_cells expression_cells es ++ (all_cells agg_cells gs ++ alone og (Content.aggregate_cell (length es) (length gs)))

unfoldable pub over_cells : ℕ → Over → List Cell
unfolding expression_cells other_cells
over_cells og (filter e) = expression_cells e ++ alone og Content.filter_cell
over_cells og (other o) = other_cells og o

unfoldable pub join_cells : ℕ → Bool → Join → List Cell
unfolding expression_cells
join_cells og outer (nested_loop p) = optional_cells p ++ alone og (Content.nested_loop_join_cell (present p) outer)
join_cells og outer (hash l r) = alone og (Content.hash_join_cell outer l r)

unfoldable pub cells : Node → List Cell
unfolding leaf_cells over_cells join_cells
cells (leaf og l) = leaf_cells og l
cells (over og o n) = cells n ++ over_cells og o
cells (join og outer k l r) = cells l ++ (cells r ++ join_cells og outer k)
