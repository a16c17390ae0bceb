-- A plan with the origin of every cell put through a function, and nothing else changed.
use Rattle.std.specs.Prelude.{ℕ, List, map}
use Rattle.sql.specs.Expression.{Marked, Expression, constant, column, unary, binary}
use Rattle.sql.specs.Plan.{Leaf, scan, lookup, nothing, values, Other, limit, offset, order, projection, remap, aggregate, Over, filter, other, Join, nested_loop, hash, Node, leaf, over, join}
use Rattle.sql.specs.Answer.{Answer, done, refused}
use Rattle.sql.specs.Optimizer.{map_optional}

module _ (h : ℕ → ℕ) where
  abbrev pub map_origins : Expression → Expression
  map_origins (constant og v) = constant (h og) v
  map_origins (column og c) = column (h og) c
  map_origins (unary og o x) = unary (h og) o (map_origins x)
  map_origins (binary og o l r) = binary (h og) o (map_origins l) (map_origins r)

  -- a lookup constant, a Label or a Target
  abbrev pub map_mark : {A : Type 0} → Marked A → Marked A
  map_mark part = (part.0, h part.1)

  abbrev pub map_row : Marked (List Expression) → Marked (List Expression)
  map_row row = (map map_origins row.0, h row.1)

  -- a Key or an Item
  abbrev pub map_part : {A : Type 0} → Expression × A × ℕ → Expression × A × ℕ
  map_part part = (map_origins part.0, part.1, h part.2)

  abbrev pub map_aggregate : ℕ × Expression × ℕ → ℕ × Expression × ℕ
  map_aggregate agg = (agg.0, map_origins agg.1, h agg.2)

  abbrev pub map_leaf : Leaf → Leaf
  map_leaf (scan table alias predicate) = scan table alias (map_optional map_origins predicate)
  map_leaf (lookup access table alias constants) = lookup access table alias (map map_mark constants)
  map_leaf (nothing labels) = nothing (map map_mark labels)
  map_leaf (values rows) = values (map map_row rows)

  abbrev pub map_other : Other → Other
  map_other (limit amount) = limit amount
  map_other (offset amount) = offset amount
  map_other (order key) = order (map map_part key)
  map_other (projection items) = projection (map map_part items)
  map_other (remap targets) = remap (map map_mark targets)
  map_other (aggregate group_by aggregates) = aggregate (map map_origins group_by) (map map_aggregate aggregates)

  abbrev pub map_over : Over → Over
  map_over (filter predicate) = filter (map_origins predicate)
  map_over (other o) = other (map_other o)

  abbrev pub map_join : Join → Join
  map_join (nested_loop predicate) = nested_loop (map_optional map_origins predicate)
  map_join (hash left_column right_column) = hash left_column right_column

  abbrev pub map_node_origins : Node → Node
  map_node_origins (leaf og l) = leaf (h og) (map_leaf l)
  map_node_origins (over og o source) = over (h og) (map_over o) (map_node_origins source)
  map_node_origins (join og outer j left right) = join (h og) outer (map_join j) (map_node_origins left) (map_node_origins right)

-- What is done through a function; a refusal keeps its number and place.
abbrev pub map_answer : {A B : Type 0} → (A → B) → Answer A → Answer B
map_answer f (done a) = done (f a)
map_answer f (refused number place) = refused number place
