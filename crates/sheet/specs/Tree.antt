-- The plan that cells stand for, read by a stack: a cell takes its children off the top of the stack and is put there with them.
use Rattle.std.specs.Prelude.{ℕ, zero, suc, Bool, true, false, List, [], ◌∷◌}
use Rattle.std.proofs.Math.Option.{Option, none, some}
use Rattle.value.specs.Value.{Value}
use Rattle.sql.specs.Expression.{Marked, Expression, constant, column, unary, binary}
use Rattle.sql.specs.Plan.{Label, by_key, by_index, scan, lookup, nothing, values, limit, offset, order, projection, remap, aggregate, filter, other, nested_loop, hash, Node, leaf, over, join}
use Rattle.sheet.specs.Cell.{Cell}
use Rattle.sheet.specs.Content.{Content, constant_cell, column_cell, unary_cell, binary_cell, label_cell, item_cell, key_cell, target_cell, agg_cell, row_cell, aggregate_cell, filter_cell, hash_join_cell, index_lookup_cell, key_lookup_cell, limit_cell, offset_cell, nested_loop_join_cell, nothing_cell, order_cell, projection_cell, remap_cell, scan_cell, values_cell, content_of}

-- What stands on the stack: a whole tree, of one of the sorts that a cell can have as a child.
pub data Tree : Type 0 where
  expression_tree : Expression → Tree
  label_tree : Marked Label → Tree
  item_tree : Expression × Label × ℕ → Tree
  key_tree : Expression × Bool × ℕ → Tree
  target_tree : Marked (Option ℕ) → Tree
  agg_tree : ℕ × Expression × ℕ → Tree
  row_tree : Marked (List Expression) → Tree
  node_tree : Node → Tree

abbrev pub bind {ℓ} : {A B : Type ℓ} → Option A → (A → Option B) → Option B
bind none f = none
bind (some a) f = f a

-- ---- a tree as a child of a sort; one of another sort counts as lacking

abbrev by_sort : {A : Type 0} → (Expression → Option A) → (Marked Label → Option A) → (Expression × Label × ℕ → Option A) → (Expression × Bool × ℕ → Option A) → (Marked (Option ℕ) → Option A) → (ℕ × Expression × ℕ → Option A) → (Marked (List Expression) → Option A) → (Node → Option A) → Tree → Option A
by_sort e l i k t g r n (expression_tree x) = e x
by_sort e l i k t g r n (label_tree x) = l x
by_sort e l i k t g r n (item_tree x) = i x
by_sort e l i k t g r n (key_tree x) = k x
by_sort e l i k t g r n (target_tree x) = t x
by_sort e l i k t g r n (agg_tree x) = g x
by_sort e l i k t g r n (row_tree x) = r x
by_sort e l i k t g r n (node_tree x) = n x

-- of another sort
abbrev no : {A B : Type 0} → B → Option A
no x = none

abbrev pub an_expression : Tree → Option Expression
an_expression t = by_sort some no no no no no no no t

abbrev pub value_of : Expression → Option (Marked Value)
value_of (constant og v) = some (v, og)
value_of (column og i) = none
value_of (unary og o x) = none
value_of (binary og o l r) = none

abbrev pub a_constant : Tree → Option (Marked Value)
a_constant t = by_sort value_of no no no no no no no t

abbrev pub a_label : Tree → Option (Marked Label)
a_label t = by_sort no some no no no no no no t

abbrev pub an_item : Tree → Option (Expression × Label × ℕ)
an_item t = by_sort no no some no no no no no t

abbrev pub a_key : Tree → Option (Expression × Bool × ℕ)
a_key t = by_sort no no no some no no no no t

abbrev pub a_target : Tree → Option (Marked (Option ℕ))
a_target t = by_sort no no no no some no no no t

abbrev pub an_agg : Tree → Option (ℕ × Expression × ℕ)
an_agg t = by_sort no no no no no some no no t

abbrev pub a_row : Tree → Option (Marked (List Expression))
a_row t = by_sort no no no no no no some no t

abbrev pub a_node : Tree → Option Node
a_node t = by_sort no no no no no no no some t

-- ---- taking children off the stack, whose top comes first

abbrev pub Stack : Type 0
Stack = List Tree

-- The stack's first n trees as children of a sort, the deepest first, handed on with the rest of the stack. `later` are those taken before.
unfoldable pub pop : {A : Type 0} → (Tree → Option A) → ℕ → List A → Stack → Option (List A × Stack)
pop sort zero later st = some (later, st)
pop sort (suc n) later [] = none
pop sort (suc n) later (t ∷ st) = elim (sort t) [ none ↦ none | some a ↦ pop sort n (a ∷ later) st ]

abbrev pub children : {A : Type 0} → (Tree → Option A) → ℕ → Stack → (List A → Stack → Option Stack) → Option Stack
children sort n st f = bind (pop sort n [] st) (λ p. f p.0 p.1)

abbrev pub child : {A : Type 0} → (Tree → Option A) → Stack → (A → Stack → Option Stack) → Option Stack
child sort [] f = none
child sort (t ∷ st) f = bind (sort t) (λ a. f a st)

-- an expression if there is to be one
abbrev pub if_any : Bool → Stack → (Option Expression → Stack → Option Stack) → Option Stack
if_any false st f = f none st
if_any true st f = child an_expression st (λ e rest. f (some e) rest)

abbrev pub push : Tree → Stack → Option Stack
push t st = some (t ∷ st)

-- The stack after a cell, or none where the cell lacks its children.
unfoldable pub reduce : ℕ → Content → Stack → Option Stack
unfolding pop
reduce og (constant_cell v) st = push (expression_tree (constant og v)) st
reduce og (column_cell i) st = push (expression_tree (column og i)) st
reduce og (unary_cell o) st = child an_expression st (λ x rest. push (expression_tree (unary og o x)) rest)
reduce og (binary_cell o) st =
    child an_expression st (λ r below. child an_expression below (λ l rest. push (expression_tree (binary og o l r)) rest))
reduce og (label_cell l) st = push (label_tree (l, og)) st
reduce og (item_cell l) st = child an_expression st (λ e rest. push (item_tree (e, l, og)) rest)
reduce og (key_cell d) st = child an_expression st (λ e rest. push (key_tree (e, d, og)) rest)
reduce og (target_cell t) st = push (target_tree (t, og)) st
reduce og (agg_cell f) st = child an_expression st (λ e rest. push (agg_tree (f, e, og)) rest)
reduce og (row_cell n) st = children an_expression n st (λ es rest. push (row_tree (es, og)) rest)
reduce og (aggregate_cell n m) st =
    children an_agg m st
    (λ gs below. children an_expression n below (λ es low. child a_node low (λ s rest. push (node_tree (over og (other (aggregate es gs)) s)) rest)))
reduce og filter_cell st = child an_expression st (λ e below. child a_node below (λ s rest. push (node_tree (over og (filter e) s)) rest))
reduce og (hash_join_cell o i j) st = child a_node st (λ r below. child a_node below (λ l rest. push (node_tree (join og o (hash i j) l r)) rest))
reduce og (index_lookup_cell t al i n) st = children a_constant n st (λ vs rest. push (node_tree (leaf og (lookup (by_index i) t al vs))) rest)
reduce og (key_lookup_cell t al n) st = children a_constant n st (λ vs rest. push (node_tree (leaf og (lookup by_key t al vs))) rest)
reduce og (limit_cell n) st = child a_node st (λ s rest. push (node_tree (over og (other (limit n)) s)) rest)
reduce og (offset_cell n) st = child a_node st (λ s rest. push (node_tree (over og (other (offset n)) s)) rest)
reduce og (nested_loop_join_cell p o) st =
    if_any p st (λ e below. child a_node below (λ r low. child a_node low (λ l rest. push (node_tree (join og o (nested_loop e) l r)) rest)))
reduce og (nothing_cell n) st = children a_label n st (λ ls rest. push (node_tree (leaf og (nothing ls))) rest)
reduce og (order_cell n) st = children a_key n st (λ ks below. child a_node below (λ s rest. push (node_tree (over og (other (order ks)) s)) rest))
reduce og (projection_cell n) st =
    children an_item n st (λ is below. child a_node below (λ s rest. push (node_tree (over og (other (projection is)) s)) rest))
reduce og (remap_cell n) st = children a_target n st (λ ts below. child a_node below (λ s rest. push (node_tree (over og (other (remap ts)) s)) rest))
reduce og (scan_cell f t al) st = if_any f st (λ e rest. push (node_tree (leaf og (scan t al e))) rest)
reduce og (values_cell n) st = children a_row n st (λ rs rest. push (node_tree (leaf og (values rs))) rest)

-- ---- all cells of a sheet, in turn

abbrev pub after : List ℕ → Cell → Stack → Option Stack
after text c st = bind (content_of text c) (λ k. reduce c.origin k st)

-- Cells read onto a stack: the stack they leave, or the number of the first that lacks its children, counted on from i.
pub data Read : Type 0 where
  lacking : ℕ → Read
  stack : Stack → Read

unfoldable pub read : (text : List ℕ) → ℕ → List Cell → Stack → Read
unfolding content_of reduce
read text i [] st = stack st
read text i (c ∷ cs) st = elim (after text c st) [ none ↦ lacking i | some next ↦ read text (suc i) cs next ]
