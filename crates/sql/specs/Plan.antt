-- plan.rs: the nodes of a plan, grouped by their number of sources. Tables are named by number, text by reference.
use Rattle.std.specs.Prelude.{ℕ, zero, suc, ◌+◌, ◌-◌, max, Bool, true, false, cond, List, [], ◌∷◌, map, eqb, ltb, length, get_or}
use Rattle.std.proofs.Math.Option.{Option, none, some}
use Rattle.value.specs.Value.{Value}
use Rattle.sql.specs.Schema.{Column, Table, Schema, table_of, column_of}
use Rattle.sql.specs.Expression.{Marked, Expression, constant, column, unary, binary, size}

-- of a column, in results and plans
pub data Label : Type 0 where
  unlabelled : Label
  unqualified : ℕ → Label
  qualified : ℕ → ℕ → Label

-- KeyLookup goes by the table's primary key, IndexLookup by a column with an index.
pub data Access : Type 0 where
  by_key : Access
  by_index : ℕ → Access

pub data Leaf : Type 0 where
  scan : (table : ℕ) (alias : Option ℕ) (filter : Option Expression) → Leaf
  lookup : (access : Access) (table : ℕ) (alias : Option ℕ) (values : List (Marked Value)) → Leaf
  nothing : (columns : List (Marked Label)) → Leaf
  values : (rows : List (Marked (List Expression))) → Leaf

-- Order's keys say by true that they are descending. A Remap's targets (a sheet's Targets) say for each source column which column it becomes, or by
-- none that it is dropped. An aggregate is the number of its function, in the Rust's order, and what it is over.
pub data Other : Type 0 where
  limit : ℕ → Other
  offset : ℕ → Other
  order : (key : List (Expression × Bool × ℕ)) → Other
  projection : (items : List (Expression × Label × ℕ)) → Other
  remap : (targets : List (Marked (Option ℕ))) → Other
  aggregate : (group_by : List Expression) (aggregates : List (ℕ × Expression × ℕ)) → Other

pub data Over : Type 0 where
  filter : Expression → Over
  other : Other → Over

pub data Join : Type 0 where
  nested_loop : (predicate : Option Expression) → Join
  hash : (left_column right_column : ℕ) → Join

pub data Node : Type 0 where
  leaf : ℕ → Leaf → Node
  over : ℕ → Over → Node → Node
  join : ℕ → (outer : Bool) → Join → Node → Node → Node

-- of the node's own cell
abbrev pub node_origin : Node → ℕ
node_origin (leaf og l) = og
node_origin (over og o source) = og
node_origin (join og outer j left right) = og

-- ---- columns

-- one past the highest target
abbrev pub remap_columns : List (Marked (Option ℕ)) → ℕ
remap_columns [] = 0
remap_columns ((none, og) ∷ targets) = remap_columns targets
remap_columns ((some target, og) ∷ targets) = max (suc target) (remap_columns targets)

-- A Values node is as wide as its first row.
abbrev pub values_columns : List (Marked (List Expression)) → ℕ
values_columns [] = 0
values_columns (row ∷ rows) = length row.0

-- of a node over a source with n columns
abbrev pub other_columns : Other → ℕ → ℕ
other_columns (limit amount) n = n
other_columns (offset amount) n = n
other_columns (order key) n = n
other_columns (projection items) n = length items
other_columns (remap targets) n = remap_columns targets
other_columns (aggregate group_by aggregates) n = length aggregates + length group_by

module _ (schema : Schema) where
  abbrev pub leaf_columns : Leaf → ℕ
  leaf_columns (scan table alias predicate) = length (table_of schema table).columns
  leaf_columns (lookup access table alias constants) = length (table_of schema table).columns
  leaf_columns (nothing labels) = length labels
  leaf_columns (values rows) = values_columns rows

  -- The number of columns that a node emits.
  abbrev pub columns : Node → ℕ
  columns (leaf og l) = leaf_columns l
  columns (over og (filter predicate) source) = columns source
  columns (over og (other o) source) = other_columns o (columns source)
  columns (join og outer j left right) = columns left + columns right

-- ---- column_label

-- the label of the column that an expression is, if it is one
abbrev pub routed : (ℕ → Label) → Expression → Label
routed source (constant og v) = unlabelled
routed source (column og c) = source c
routed source (unary og o x) = unlabelled
routed source (binary og o l r) = unlabelled

abbrev pub group_label : (ℕ → Label) → List Expression → ℕ → Label
group_label source [] i = unlabelled
group_label source (e ∷ es) zero = routed source e
group_label source (e ∷ es) (suc i) = group_label source es i

-- Aliased columns use the alias.
abbrev pub item_label : (ℕ → Label) → Expression × Label × ℕ → Label
item_label source (e, unlabelled, og) = routed source e
item_label source (e, unqualified name, og) = unqualified name
item_label source (e, qualified table name, og) = qualified table name

abbrev pub items_label : (ℕ → Label) → List (Expression × Label × ℕ) → ℕ → Label
items_label source [] i = unlabelled
items_label source (item ∷ items) zero = item_label source item
items_label source (item ∷ items) (suc i) = items_label source items i

-- The source column that goes to a target column, if one does: `position` in the Rust, and a place of `invert_remap`. `from` is the number of the
-- source column that stands first in the list. (No two targets of a Remap in scope are equal.)
abbrev pub remap_source : ℕ → List (Marked (Option ℕ)) → ℕ → Option ℕ
remap_source from [] to = none
remap_source from ((none, og) ∷ targets) to = remap_source (suc from) targets to
remap_source from ((some target, og) ∷ targets) to = elim (eqb target to) [ true ↦ some from | false ↦ remap_source (suc from) targets to ]

abbrev pub optional_label : (ℕ → Label) → Option ℕ → Label
optional_label source none = unlabelled
optional_label source (some i) = source i

abbrev pub other_label : Other → (ℕ → Label) → ℕ → Label
other_label (limit amount) source i = source i
other_label (offset amount) source i = source i
other_label (order key) source i = source i
other_label (projection items) source i = items_label source items i
other_label (remap targets) source i = optional_label source (remap_source 0 targets i)
other_label (aggregate group_by aggregates) source i = group_label source group_by i

-- the alias text if the scan has one, also an empty one, otherwise the table's name
abbrev pub qualifier : Option ℕ → ℕ → ℕ
qualifier none name = name
qualifier (some alias) name = alias

-- the n numbers from `from` on
abbrev pub up_to : ℕ → ℕ → List ℕ
up_to from zero = []
up_to from (suc n) = from ∷ up_to (suc from) n

module _ (schema : Schema) where
  abbrev pub table_label : ℕ → Option ℕ → ℕ → Label
  table_label table alias i = qualified (qualifier alias (table_of schema table).name) (column_of schema table i).name

  abbrev pub leaf_label : Leaf → ℕ → Label
  leaf_label (scan table alias predicate) i = table_label table alias i
  leaf_label (lookup access table alias constants) i = table_label table alias i
  leaf_label (nothing labels) i = (get_or labels i (unlabelled, 0)).0
  leaf_label (values rows) i = unlabelled

  -- The label of a column, traced through the plan.
  abbrev pub column_label : Node → ℕ → Label
  column_label (leaf og l) i = leaf_label l i
  column_label (over og (filter predicate) source) i = column_label source i
  column_label (over og (other o) source) i = other_label o (column_label source) i
  column_label (join og outer j left right) i =
      elim (ltb i (columns schema left)) [ true ↦ column_label left i | false ↦ column_label right (i - columns schema left) ]

  abbrev pub column_labels : Node → List Label
  column_labels node = map (column_label node) (up_to 0 (columns schema node))

-- ---- The size of a node: the number of cells that a sheet writes it with. Each Label, Item, Key, Target, Agg, Row and constant is a cell too.

abbrev pub sum : {A : Type 0} → (A → ℕ) → List A → ℕ
sum f [] = 0
sum f (x ∷ xs) = f x + sum f xs

abbrev pub optional_size : Option Expression → ℕ
optional_size none = 0
optional_size (some e) = size e

abbrev pub row_size : Marked (List Expression) → ℕ
row_size row = suc (sum size row.0)

abbrev pub item_size : Expression × Label × ℕ → ℕ
item_size item = suc (size item.0)

abbrev pub key_size : Expression × Bool × ℕ → ℕ
key_size key = suc (size key.0)

abbrev pub aggregate_size : ℕ × Expression × ℕ → ℕ
aggregate_size agg = suc (size agg.1)

abbrev pub leaf_size : Leaf → ℕ
leaf_size (scan table alias predicate) = suc (optional_size predicate)
leaf_size (lookup access table alias constants) = suc (length constants)
leaf_size (nothing labels) = suc (length labels)
leaf_size (values rows) = suc (sum row_size rows)

-- without the source
abbrev pub over_size : Over → ℕ
over_size (filter predicate) = suc (size predicate)
over_size (other (limit amount)) = 1
over_size (other (offset amount)) = 1
over_size (other (order key)) = suc (sum key_size key)
over_size (other (projection items)) = suc (sum item_size items)
over_size (other (remap targets)) = suc (length targets)
over_size (other (aggregate group_by aggregates)) = suc (sum size group_by + sum aggregate_size aggregates)

-- without the sources
abbrev pub join_size : Join → ℕ
join_size (nested_loop predicate) = suc (optional_size predicate)
join_size (hash left_column right_column) = 1

abbrev pub node_size : Node → ℕ
node_size (leaf og l) = leaf_size l
node_size (over og o source) = node_size source + over_size o
node_size (join og outer j left right) = node_size left + node_size right + join_size j
