-- A plan in its working form (crate cells): each cell over its children's words. What a cell says is written as in a sheet (crate sheet, Content).
use Rattle.std.specs.Prelude.{ℕ, Bool, List, [], ◌∷◌, ◌++◌, length}
use Rattle.std.proofs.Math.Option.{Option, none, some}
use Rattle.value.specs.Value.{Value}
use Rattle.sql.specs.Expression.{Marked, Expression, constant, column, unary, binary}
use Rattle.sql.specs.Plan.{Label, Leaf, scan, lookup, nothing, values, limit, offset, order, projection, remap, aggregate, Over, filter, other, Join, nested_loop, hash, Node, leaf, over, join}
use Rattle.sheet.specs.Content.{Content, cell_of, constant_cell, column_cell, unary_cell, binary_cell, label_cell, item_cell, key_cell, target_cell, agg_cell, row_cell, aggregate_cell, filter_cell, hash_join_cell, limit_cell, offset_cell, nested_loop_join_cell, nothing_cell, order_cell, projection_cell, remap_cell, scan_cell, values_cell}
use Rattle.sheet.specs.Cells.{present, lookup_content}
use Rattle.cells.specs.declared.Cell.{Cell}
use Rattle.cells.specs.Cells.{sized}

-- what a cell says, and its origin
unfoldable pub cell : ℕ → Content → Cell
cell og k = record { origin = og; tag = (cell_of k).tag; flag = (cell_of k).flag; a = (cell_of k).a; b = (cell_of k).b; c = (cell_of k).c }

-- the words of each, one after the other
abbrev pub all_words {ℓ} : {A : Type ℓ} → (A → List ℕ) → List A → List ℕ
all_words f [] = []
all_words f (x ∷ xs) = f x ++ all_words f xs

-- ---- expressions: the cell at the root, and the operands' words before it

abbrev pub root : Expression → Content
root (constant og v) = constant_cell v
root (column og i) = column_cell i
root (unary og o x) = unary_cell o
root (binary og o l r) = binary_cell o

unfoldable pub expression_words : Expression → List ℕ
expression_words (constant og v) = sized [] (cell og (constant_cell v))
expression_words (column og i) = sized [] (cell og (column_cell i))
expression_words (unary og o x) = sized (expression_words x) (cell og (unary_cell o))
expression_words (binary og o l r) = sized (expression_words l ++ expression_words r) (cell og (binary_cell o))

abbrev pub operand_words : Expression → List ℕ
operand_words (constant og v) = []
operand_words (column og i) = []
operand_words (unary og o x) = expression_words x
operand_words (binary og o l r) = expression_words l ++ expression_words r

abbrev pub optional_words : Option Expression → List ℕ
optional_words none = []
optional_words (some e) = expression_words e

-- ---- parts

abbrev pub constant_words : Marked Value → List ℕ
constant_words v = sized [] (cell v.1 (constant_cell v.0))

abbrev pub label_words : Marked Label → List ℕ
label_words l = sized [] (cell l.1 (label_cell l.0))

abbrev pub target_words : Marked (Option ℕ) → List ℕ
target_words t = sized [] (cell t.1 (target_cell t.0))

abbrev pub item_words : Expression × Label × ℕ → List ℕ
item_words i = sized (expression_words i.0) (cell i.2 (item_cell i.1))

abbrev pub key_words : Expression × Bool × ℕ → List ℕ
key_words k = sized (expression_words k.0) (cell k.2 (key_cell k.1))

abbrev pub agg_words : ℕ × Expression × ℕ → List ℕ
agg_words g = sized (expression_words g.1) (cell g.2 (agg_cell g.0))

abbrev pub row_words : Marked (List Expression) → List ℕ
row_words es = sized (all_words expression_words es.0) (cell es.1 (row_cell (length es.0)))

-- ---- nodes: a node's own cell, and its own words, those of its parts, which stand between its sources' words and its cell

abbrev pub leaf_cell : Leaf → Content
leaf_cell (scan t al f) = scan_cell (present f) t al
leaf_cell (lookup a t al vs) = lookup_content a t al (length vs)
leaf_cell (nothing ls) = nothing_cell (length ls)
leaf_cell (values rs) = values_cell (length rs)

abbrev pub leaf_own : Leaf → List ℕ
leaf_own (scan t al f) = optional_words f
leaf_own (lookup a t al vs) = all_words constant_words vs
leaf_own (nothing ls) = all_words label_words ls
leaf_own (values rs) = all_words row_words rs

abbrev pub over_cell : Over → Content
over_cell (filter e) = filter_cell
over_cell (other (limit n)) = limit_cell n
over_cell (other (offset n)) = offset_cell n
over_cell (other (order ks)) = order_cell (length ks)
over_cell (other (projection is)) = projection_cell (length is)
over_cell (other (remap ts)) = remap_cell (length ts)
over_cell (other (aggregate es gs)) = aggregate_cell (length es) (length gs)

abbrev pub over_own : Over → List ℕ
over_own (filter e) = expression_words e
over_own (other (limit n)) = []
over_own (other (offset n)) = []
over_own (other (order ks)) = all_words key_words ks
over_own (other (projection is)) = all_words item_words is
over_own (other (remap ts)) = all_words target_words ts
over_own (other (aggregate es gs)) = all_words expression_words es ++ all_words agg_words gs

abbrev pub join_cell : Bool → Join → Content
join_cell outer (nested_loop p) = nested_loop_join_cell (present p) outer
join_cell outer (hash l r) = hash_join_cell outer l r

abbrev pub join_own : Join → List ℕ
join_own (nested_loop p) = optional_words p
join_own (hash l r) = []

unfoldable pub node_words : Node → List ℕ
node_words (leaf og l) = sized (leaf_own l) (cell og (leaf_cell l))
node_words (over og o n) = sized (node_words n ++ over_own o) (cell og (over_cell o))
node_words (join og outer j l r) = sized (node_words l ++ (node_words r ++ join_own j)) (cell og (join_cell outer j))

-- the same by parts: the sources' words, a node's own words and its cell
abbrev pub source_words : Node → List ℕ
source_words (leaf og l) = []
source_words (over og o n) = node_words n
source_words (join og outer j l r) = node_words l ++ node_words r

abbrev pub own_words : Node → List ℕ
own_words (leaf og l) = leaf_own l
own_words (over og o n) = over_own o
own_words (join og outer j l r) = join_own j

abbrev pub node_cell : Node → Content
node_cell (leaf og l) = leaf_cell l
node_cell (over og o n) = over_cell o
node_cell (join og outer j l r) = join_cell outer j

-- how many sources a node has
abbrev pub source_count : Node → ℕ
source_count (leaf og l) = 0
source_count (over og o n) = 1
source_count (join og outer j l r) = 2

-- the expression with f of its operands; a rewrite that goes down into an expression does this at each cell that it keeps
abbrev pub map_operands : (Expression → Expression) → Expression → Expression
map_operands f (constant og v) = constant og v
map_operands f (column og i) = column og i
map_operands f (unary og o x) = unary og o (f x)
map_operands f (binary og o l r) = binary og o (f l) (f r)
