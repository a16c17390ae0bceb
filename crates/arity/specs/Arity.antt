-- What a cell is and which children it asks for.
use Rattle.std.specs.Prelude.{ℕ, ◌<◌, ◌≡◌, List, Option as Answer, Some, None}
use Rattle.std.proofs.Math.Option.{Option, none, some}
use Rattle.sheet.specs.Cell.{Cell}
use Rattle.sheet.specs.Content.{Content, constant_cell, column_cell, unary_cell, binary_cell, label_cell, item_cell, key_cell, target_cell, agg_cell, row_cell, aggregate_cell, filter_cell, hash_join_cell, index_lookup_cell, key_lookup_cell, limit_cell, offset_cell, nested_loop_join_cell, nothing_cell, order_cell, projection_cell, remap_cell, scan_cell, values_cell, content_of, bit}
use Rattle.arity.specs.declared.Sort.{Sort}
use Rattle.arity.specs.declared.Children.{Children}

abbrev pub sort : Content → Sort
sort (constant_cell v) = Sort.Constant
sort (column_cell i) = Sort.Expression
sort (unary_cell o) = Sort.Expression
sort (binary_cell o) = Sort.Expression
sort (label_cell l) = Sort.Label
sort (item_cell l) = Sort.Item
sort (key_cell descending) = Sort.Key
sort (target_cell t) = Sort.Target
sort (agg_cell f) = Sort.Agg
sort (row_cell n) = Sort.Row
sort (aggregate_cell n m) = Sort.Node
sort filter_cell = Sort.Node
sort (hash_join_cell outer i j) = Sort.Node
sort (index_lookup_cell t alias i n) = Sort.Node
sort (key_lookup_cell t alias n) = Sort.Node
sort (limit_cell n) = Sort.Node
sort (offset_cell n) = Sort.Node
sort (nested_loop_join_cell predicate outer) = Sort.Node
sort (nothing_cell n) = Sort.Node
sort (order_cell n) = Sort.Node
sort (projection_cell n) = Sort.Node
sort (remap_cell n) = Sort.Node
sort (scan_cell filter t alias) = Sort.Node
sort (values_cell n) = Sort.Node

-- So many nodes, then so many parts of one sort, then so many Aggs. Where `Sort.Expression` is asked for, a constant serves too.
abbrev pub asking : (nodes : ℕ) (part : Sort) (parts aggs : ℕ) → Children
asking nodes part parts aggs = record { nodes = nodes; part = part; parts = parts; aggs = aggs }

abbrev pub childless : Children
childless = asking 0 Sort.Expression 0 0

-- parts alone, and parts over one node
abbrev pub parts_only : (part : Sort) (parts : ℕ) → Children
parts_only part parts = asking 0 part parts 0

abbrev pub parts_over : (part : Sort) (parts : ℕ) → Children
parts_over part parts = asking 1 part parts 0

abbrev pub children : Content → Children
children (constant_cell v) = childless
children (column_cell i) = childless
children (unary_cell o) = parts_only Sort.Expression 1
children (binary_cell o) = parts_only Sort.Expression 2
children (label_cell l) = childless
children (item_cell l) = parts_only Sort.Expression 1
children (key_cell descending) = parts_only Sort.Expression 1
children (target_cell t) = childless
children (agg_cell f) = parts_only Sort.Expression 1
children (row_cell n) = parts_only Sort.Expression n
children (aggregate_cell n m) = asking 1 Sort.Expression n m
children filter_cell = parts_over Sort.Expression 1
children (hash_join_cell outer i j) = asking 2 Sort.Expression 0 0
children (index_lookup_cell t alias i n) = parts_only Sort.Constant n
children (key_lookup_cell t alias n) = parts_only Sort.Constant n
children (limit_cell n) = parts_over Sort.Expression 0
children (offset_cell n) = parts_over Sort.Expression 0
children (nested_loop_join_cell predicate outer) = asking 2 Sort.Expression (bit predicate) 0
children (nothing_cell n) = parts_only Sort.Label n
children (order_cell n) = parts_over Sort.Key n
children (projection_cell n) = parts_over Sort.Item n
children (remap_cell n) = parts_over Sort.Target n
children (scan_cell filter t alias) = parts_only Sort.Expression (bit filter)
children (values_cell n) = parts_only Sort.Row n

-- Of a cell's content, if it has any: a cell of an unknown tag has no sort and asks for nothing.
abbrev pub sort_of : Option Content → Answer Sort
sort_of none = None
sort_of (some k) = Some (sort k)

abbrev pub children_of : Option Content → Children
children_of none = childless
children_of (some k) = children k

-- ---- contracts

-- r is the sort of each cell with the tag.
pub record Sorted (tag : ℕ) (r : Answer Sort) : Type 0 where
  pub is : (text : List ℕ) (x : Cell) → x.tag ≡ tag → r ≡ sort_of (content_of text x)

-- r is what a cell with these fields asks for.
pub record Asked (tag flag a b c : ℕ) (r : Children) : Type 0 where
  pub is : (text : List ℕ) (origin : ℕ) → r ≡ children_of (content_of text (record { tag = tag; flag = flag; origin = origin; a = a; b = b; c = c }))
  pub few : r.nodes < 3
