-- plan.rs, transcribed (Rust.antt says how). A Scan's and a lookup's `table` is the schema's table of that number; a Projection's `expressions` and `aliases` are the two
-- parts of its items.
use Rattle.std.specs.Prelude.{ℕ, zero, suc, ◌+◌, ◌-◌, Bool, true, false, cond, List, map, eqb, ltb, length}
use Rattle.std.proofs.Math.Option.{Option, none, some}
use Rattle.value.specs.Value.{Value}
use Rattle.sql.specs.Schema.{Column, Schema, table_of}
use Rattle.sql.specs.Expression.{Marked, Expression, size}
use Rattle.sql.specs.Plan.{Label, unlabelled, unqualified, qualified, by_key, by_index, Leaf, scan, lookup, nothing, values, Other, limit, offset, order, projection, remap, aggregate, filter, other, nested_loop, hash, Node, leaf, over, join}
use Rattle.literal.specs.Rust.{Run, Ok, Panic, ◌>>=◌, ◌⇒◌, ◌else◌, and_then, unwrap_or, get, first, flatten, position, maximum, try_fold, try_collect, set_at, replicate, enumerate, for_each}
use Rattle.literal.specs.Value.{Departures}
use Rattle.literal.specs.Expression.{Column?}
use Rattle.literal.specs.Expression as Expression

-- ---- 88: Plan::optimize, of a Select

abbrev pub optimize : List (Node → Run Node) → Node → Run Node
optimize optimizers root = try_fold (λ node opt. opt node) root optimizers

-- ---- 108: enum Node, as patterns: what the Rust's patterns bind, in the order in which the enum declares it, the origin first where it is asked for

abbrev pub Filter? : Node → Option (ℕ × Node × Expression)
Filter? (leaf og l) = none
Filter? (over og (filter predicate) source) = some (og, source, predicate)
Filter? (over og (other o) source) = none
Filter? (join og outer j left right) = none

-- left, left_column, right, right_column, outer
abbrev pub HashJoin? : Node → Option (ℕ × Node × ℕ × Node × ℕ × Bool)
HashJoin? (leaf og l) = none
HashJoin? (over og o source) = none
HashJoin? (join og outer (nested_loop predicate) left right) = none
HashJoin? (join og outer (hash left_column right_column) left right) = some (og, left, left_column, right, right_column, outer)

abbrev pub leaf? : Node → Option (ℕ × Leaf)
leaf? (leaf og l) = some (og, l)
leaf? (over og o source) = none
leaf? (join og outer j left right) = none

abbrev pub other? : Node → Option (Node × Other)
other? (leaf og l) = none
other? (over og (filter predicate) source) = none
other? (over og (other o) source) = some (source, o)
other? (join og outer j left right) = none

abbrev pub index_values? : Leaf → Option (List (Marked Value))
index_values? (scan table alias predicate) = none
index_values? (lookup by_key table alias constants) = none
index_values? (lookup (by_index c) table alias constants) = some constants
index_values? (nothing labels) = none
index_values? (values rows) = none

-- its values
abbrev pub IndexLookup? : Node → Option (List (Marked Value))
IndexLookup? node = and_then (leaf? node) (λ (og, l). index_values? l)

abbrev pub keys? : Leaf → Option (List (Marked Value))
keys? (scan table alias predicate) = none
keys? (lookup by_key table alias constants) = some constants
keys? (lookup (by_index c) table alias constants) = none
keys? (nothing labels) = none
keys? (values rows) = none

-- its keys
abbrev pub KeyLookup? : Node → Option (List (Marked Value))
KeyLookup? node = and_then (leaf? node) (λ (og, l). keys? l)

abbrev pub limit? : Other → Option ℕ
limit? (limit amount) = some amount
limit? (offset amount) = none
limit? (order key) = none
limit? (projection items) = none
limit? (remap targets) = none
limit? (aggregate group_by aggregates) = none

-- its limit
abbrev pub Limit? : Node → Option ℕ
Limit? node = and_then (other? node) (λ (source, o). limit? o)

-- left, right, predicate, outer
abbrev pub NestedLoopJoin? : Node → Option (ℕ × Node × Node × Option Expression × Bool)
NestedLoopJoin? (leaf og l) = none
NestedLoopJoin? (over og o source) = none
NestedLoopJoin? (join og outer (nested_loop predicate) left right) = some (og, left, right, predicate, outer)
NestedLoopJoin? (join og outer (hash left_column right_column) left right) = none

abbrev pub columns? : Leaf → Option (List (Marked Label))
columns? (scan table alias predicate) = none
columns? (lookup access table alias constants) = none
columns? (nothing labels) = some labels
columns? (values rows) = none

abbrev pub Nothing? : Node → Option (List (Marked Label))
Nothing? node = and_then (leaf? node) (λ (og, l). columns? l)

abbrev pub offset? : Node × Other → Option Node
offset? (source, limit amount) = none
offset? (source, offset amount) = some source
offset? (source, order key) = none
offset? (source, projection items) = none
offset? (source, remap targets) = none
offset? (source, aggregate group_by aggregates) = none

-- its source
abbrev pub Offset? : Node → Option Node
Offset? node = and_then (other? node) offset?

abbrev pub order? : Node × Other → Option Node
order? (source, limit amount) = none
order? (source, offset amount) = none
order? (source, order key) = some source
order? (source, projection items) = none
order? (source, remap targets) = none
order? (source, aggregate group_by aggregates) = none

-- its source
abbrev pub Order? : Node → Option Node
Order? node = and_then (other? node) order?

abbrev pub projection? : Node × Other → Option (Node × List (Expression × Label × ℕ))
projection? (source, limit amount) = none
projection? (source, offset amount) = none
projection? (source, order key) = none
projection? (source, projection items) = some (source, items)
projection? (source, remap targets) = none
projection? (source, aggregate group_by aggregates) = none

-- its source and items
abbrev pub Projection? : Node → Option (Node × List (Expression × Label × ℕ))
Projection? node = and_then (other? node) projection?

abbrev pub scan? : ℕ × Leaf → Option (ℕ × ℕ × Option Expression × Option ℕ)
scan? (og, scan table alias predicate) = some (og, table, predicate, alias)
scan? (og, lookup access table alias constants) = none
scan? (og, nothing labels) = none
scan? (og, values rows) = none

-- table, filter, alias
abbrev pub Scan? : Node → Option (ℕ × ℕ × Option Expression × Option ℕ)
Scan? node = and_then (leaf? node) scan?

abbrev pub rows? : Leaf → Option (List (Marked (List Expression)))
rows? (scan table alias predicate) = none
rows? (lookup access table alias constants) = none
rows? (nothing labels) = none
rows? (values rows) = some rows

-- its rows
abbrev pub Values? : Node → Option (List (Marked (List Expression)))
Values? node = and_then (leaf? node) (λ (og, l). rows? l)

-- the two Vecs of a Projection
abbrev pub expressions : List (Expression × Label × ℕ) → List Expression
expressions items = map (λ (item : Expression × Label × ℕ). item.0) items

abbrev pub aliases : List (Expression × Label × ℕ) → List Label
aliases items = map (λ (item : Expression × Label × ℕ). item.1) items

-- the Vec of a Remap
abbrev pub targets_of : List (Marked (Option ℕ)) → List (Option ℕ)
targets_of targets = map (λ (t : Marked (Option ℕ)). t.0) targets

-- ---- 179: fn columns

module _ (schema : Schema) where
  abbrev pub columns : Node → ℕ
  columns (leaf og (lookup access table alias constants)) = length (table_of schema table).columns
  columns (leaf og (scan table alias predicate)) = length (table_of schema table).columns
  columns (over og (other (aggregate group_by aggregates)) source) = length aggregates + length group_by
  columns (over og (other (projection items)) source) = length (expressions items)
  columns (over og (other (remap targets)) source) = unwrap_or 0 (maximum (map (λ i. suc i) (flatten (targets_of targets))))
  columns (join og outer j left right) = columns left + columns right
  columns (leaf og (nothing labels)) = length labels
  columns (leaf og (values rows)) = unwrap_or 0 (first rows ⇒ λ row. length row.0)
  columns (over og (filter predicate) source) = columns source
  columns (over og (other (limit amount)) source) = columns source
  columns (over og (other (offset amount)) source) = columns source
  columns (over og (other (order key)) source) = columns source

-- ---- 213: fn column_label

-- Some(Label::None) | None
abbrev pub no_alias? : Option Label → Option Bool
no_alias? none = some true
no_alias? (some unlabelled) = some true
no_alias? (some (unqualified name)) = none
no_alias? (some (qualified table name)) = none

-- t == Some(index)
abbrev pub is_some : ℕ → Option ℕ → Bool
is_some index none = false
is_some index (some t) = eqb t index

module _ (departures : Departures) (schema : Schema) where
  -- table.columns[index]
  abbrev pub column_at : ℕ → ℕ → Run Column
  column_at table index = (get (table_of schema table).columns index ⇒ λ c. Ok c) else departures.no_such_column

  abbrev pub table_label : ℕ → Option ℕ → ℕ → Run Label
  table_label table alias index = column_at table index >>= λ c. Ok (qualified (unwrap_or (table_of schema table).name alias) c.name)

  abbrev pub column_label : Node → ℕ → Run Label
  column_label (leaf og (lookup access table alias constants)) index = table_label table alias index
  column_label (leaf og (scan table alias predicate)) index = table_label table alias index
  column_label (over og (other (aggregate group_by aggregates)) source) index =
      (and_then (get group_by index) Column? ⇒ λ (o, i). column_label source i)
      else Ok unlabelled
  column_label (over og (other (projection items)) source) index =
      (no_alias? (get (aliases items) index) ⇒ λ n. (and_then (get (expressions items) index) Column? ⇒ λ (o, i). column_label source i) else Ok unlabelled)
      else (get (aliases items) index ⇒ λ alias. Ok alias)
      else Ok unlabelled
  column_label (over og (other (remap targets)) source) index =
      (position (is_some index) (targets_of targets) ⇒ λ i. column_label source i)
      else Ok unlabelled
  column_label (join og outer j left right) index =
      cond (ltb index (columns schema left)) (column_label left index) (column_label right (index - columns schema left))
  column_label (over og (filter predicate) source) index = column_label source index
  column_label (over og (other (limit amount)) source) index = column_label source index
  column_label (over og (other (offset amount)) source) index = column_label source index
  column_label (over og (other (order key)) source) index = column_label source index
  column_label (leaf og (nothing labels)) index = Ok (unwrap_or unlabelled (get (map (λ (l : Marked Label). l.0) labels) index))
  column_label (leaf og (values rows)) index = Ok unlabelled

-- ---- 271: fn transform

abbrev pub transform_sources : (Node → Run Node) → Node → Run Node
transform_sources xform (over og o source) = do
  s ← xform source
  Ok (over og o s)
transform_sources xform (join og outer j left right) = do
  l ← xform left
  r ← xform right
  Ok (join og outer j l r)
transform_sources xform (leaf og l) = Ok (leaf og l)

abbrev pub transform : (before after : Node → Run Node) → ℕ → Node → Run Node
transform before after zero self = Panic
transform before after (suc depth) self = before self >>= transform_sources (transform before after depth) >>= after

-- ---- 320: fn transform_expressions

module _ (before after : Expression → Run Expression) where
  abbrev pub transformed : Expression → Run Expression
  transformed e = Expression.transform before after (size e) e

  abbrev pub transform_expressions : Node → Run Node
  transform_expressions (over og (filter predicate) source) = do
    p ← transformed predicate
    Ok (over og (filter p) source)
  transform_expressions (join og outer (nested_loop (some predicate)) left right) = do
    p ← transformed predicate
    Ok (join og outer (nested_loop (some p)) left right)
  transform_expressions (over og (other (order key)) source) = do
    k ← try_collect (λ (e, direction, o). transformed e >>= λ x. Ok (x, direction, o)) key
    Ok (over og (other (order k)) source)
  transform_expressions (over og (other (projection items)) source) = do
    i ← try_collect (λ (e, alias, o). transformed e >>= λ x. Ok (x, alias, o)) items
    Ok (over og (other (projection i)) source)
  transform_expressions (leaf og (scan table alias (some predicate))) = do
    p ← transformed predicate
    Ok (leaf og (scan table alias (some p)))
  transform_expressions (leaf og (values rows)) = do
    r ← try_collect (λ (row, o). try_collect transformed row >>= λ es. Ok (es, o)) rows
    Ok (leaf og (values r))
  transform_expressions (over og (other (aggregate group_by aggregates)) source) = Ok (over og (other (aggregate group_by aggregates)) source)
  transform_expressions (join og outer (hash left_column right_column) left right) = Ok (join og outer (hash left_column right_column) left right)
  transform_expressions (leaf og (lookup access table alias constants)) = Ok (leaf og (lookup access table alias constants))
  transform_expressions (over og (other (limit amount)) source) = Ok (over og (other (limit amount)) source)
  transform_expressions (join og outer (nested_loop none) left right) = Ok (join og outer (nested_loop none) left right)
  transform_expressions (leaf og (nothing labels)) = Ok (leaf og (nothing labels))
  transform_expressions (over og (other (offset amount)) source) = Ok (over og (other (offset amount)) source)
  transform_expressions (over og (other (remap targets)) source) = Ok (over og (other (remap targets)) source)
  transform_expressions (leaf og (scan table alias none)) = Ok (leaf og (scan table alias none))

-- ---- 649: fn invert_remap

abbrev pub invert_step : List (Option ℕ) → ℕ × Option ℕ → List (Option ℕ)
invert_step sources (from, to) =
    (to ⇒ λ to. set_at sources to (some from))
    else sources

abbrev pub invert_remap : List (Option ℕ) → List (Option ℕ)
invert_remap targets =
    let count = unwrap_or 0 (maximum (map (λ i. suc i) (flatten targets))) in
    for_each invert_step (replicate count none) (enumerate 0 targets)
