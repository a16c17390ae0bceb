-- A plan, and a schema, with every text reference put through a function, and nothing else changed. A string's bytes stay beside its reference.
use Rattle.std.specs.Prelude.{ℕ, List, map}
use Rattle.std.proofs.Math.Option.{Option, none, some}
use Rattle.value.specs.Value.{Truth, Datum, integer, float, string, Value, truth, datum}
use Rattle.value.specs.Meaning.{bytes_at}
use Rattle.sql.specs.Schema.{Column, Table, Schema}
use Rattle.sql.specs.Expression.{Marked, Expression, constant, column, unary, binary}
use Rattle.sql.specs.Plan.{Label, unlabelled, unqualified, qualified, Leaf, scan, lookup, nothing, values, Other, limit, offset, order, projection, remap, aggregate, Over, filter, other, Join, nested_loop, hash, Node, leaf, over, join}
use Rattle.sql.specs.Answer.{Answer, done, refused}
use Rattle.sql.specs.Optimizer.{map_optional}

module _ (f : ℕ → ℕ) where
  abbrev pub map_value : Value → Value
  map_value (truth t) = truth t
  map_value (datum (integer n)) = datum (integer n)
  map_value (datum (float b)) = datum (float b)
  map_value (datum (string r t)) = datum (string (f r) t)

  abbrev pub map_label : Label → Label
  map_label unlabelled = unlabelled
  map_label (unqualified name) = unqualified (f name)
  map_label (qualified table name) = qualified (f table) (f name)

  abbrev pub map_expression : Expression → Expression
  map_expression (constant og v) = constant og (map_value v)
  map_expression (column og c) = column og c
  map_expression (unary og o x) = unary og o (map_expression x)
  map_expression (binary og o l r) = binary og o (map_expression l) (map_expression r)

  -- a lookup constant, a Label, a Row
  abbrev pub map_constant : Marked Value → Marked Value
  map_constant v = (map_value v.0, v.1)

  abbrev pub map_marked_label : Marked Label → Marked Label
  map_marked_label l = (map_label l.0, l.1)

  abbrev pub map_row : Marked (List Expression) → Marked (List Expression)
  map_row row = (map map_expression row.0, row.1)

  -- an Item, a Key, an Agg
  abbrev pub map_item : Expression × Label × ℕ → Expression × Label × ℕ
  map_item i = (map_expression i.0, map_label i.1, i.2)

  abbrev pub map_key : {A : Type 0} → Expression × A × ℕ → Expression × A × ℕ
  map_key k = (map_expression k.0, k.1, k.2)

  abbrev pub map_agg : ℕ × Expression × ℕ → ℕ × Expression × ℕ
  map_agg g = (g.0, map_expression g.1, g.2)

  abbrev pub map_leaf : Leaf → Leaf
  map_leaf (scan table alias predicate) = scan table (map_optional f alias) (map_optional map_expression predicate)
  map_leaf (lookup access table alias constants) = lookup access table (map_optional f alias) (map map_constant constants)
  map_leaf (nothing labels) = nothing (map map_marked_label labels)
  map_leaf (values rows) = values (map map_row rows)

  abbrev pub map_other : Other → Other
  map_other (limit amount) = limit amount
  map_other (offset amount) = offset amount
  map_other (order key) = order (map map_key key)
  map_other (projection items) = projection (map map_item items)
  map_other (remap targets) = remap targets
  map_other (aggregate group_by aggregates) = aggregate (map map_expression group_by) (map map_agg aggregates)

  abbrev pub map_over : Over → Over
  map_over (filter predicate) = filter (map_expression predicate)
  map_over (other o) = other (map_other o)

  abbrev pub map_join : Join → Join
  map_join (nested_loop predicate) = nested_loop (map_optional map_expression predicate)
  map_join (hash left_column right_column) = hash left_column right_column

  abbrev pub map_node : Node → Node
  map_node (leaf og l) = leaf og (map_leaf l)
  map_node (over og o source) = over og (map_over o) (map_node source)
  map_node (join og outer j left right) = join og outer (map_join j) (map_node left) (map_node right)

  abbrev pub map_column : Column → Column
  map_column c = record { name = f c.name; kind = c.kind; index = c.index }

  abbrev pub map_table : Table → Table
  map_table t = record { name = f t.name; primary_key = t.primary_key; columns = map map_column t.columns }

  abbrev pub map_schema : Schema → Schema
  map_schema tables = map map_table tables

-- ---- references read as their bytes

-- A plan over a text with each reference replaced by the bytes that it refers to. Plans hold numbers where they refer to text, so a string is written there as
-- a number that `spell` gives for it. Where no two strings are spelled alike, two plans are equal so if and only if they are equal but for the places of their strings.
abbrev pub read_plan : (spell : List ℕ → ℕ) (text : List ℕ) → Node → Node
read_plan spell text = map_node (λ r. spell (bytes_at text r))

abbrev pub read_schema : (spell : List ℕ → ℕ) (text : List ℕ) → Schema → Schema
read_schema spell text = map_schema (λ r. spell (bytes_at text r))
