-- Reading cells by a stack: what the stack holds is what the cells say.
use Prim.Native.Nat.{ℕ, ◌+◌}
use native.Mathlib.Omega.{arith}
use Rattle.std.proofs.Math.Path.{◌≡◌, refl}
use Rattle.std.specs.Prelude.{Bool}
use Rattle.std.proofs.Math.Bool.{true}
use mathlib.Core.List.{List, [], ◌∷◌, ◌++◌}
use Rattle.std.proofs.Math.Option.{Option, none, some}
use Rattle.value.specs.Value.{Value}
use Rattle.sql.specs.Expression.{Marked, Expression, constant, column, unary, binary}
use Rattle.sql.specs.Plan.{Label, Node}
use Rattle.sheet.specs.Cell.{Cell, cell_ok}
use Rattle.sheet.specs.Content.{Content, marked, label_cell, target_cell}
use Rattle.sheet.specs.Cells.{alone, expression_cells, label_cells, target_cells, item_cells, key_cells, agg_cells, row_cells, cells}
use Rattle.sheet.specs.Tree.{Tree, expression_tree, label_tree, item_tree, key_tree, target_tree, agg_tree, row_tree, node_tree, an_expression, a_constant, a_label, an_item, a_key, a_target, an_agg, a_row, a_node, Stack, after}
use Rattle.sheet_laws.specs.Fits.{All, EachExpression, EachItem, EachKey, EachAgg, EachRow, Each}
use Rattle.sheet_laws.specs.Content.{Words}

-- the cells of a tree of any sort
abbrev pub tree_cells : Tree → List Cell
tree_cells (expression_tree e) = expression_cells e
tree_cells (label_tree l) = label_cells l
tree_cells (item_tree i) = item_cells i
tree_cells (key_tree k) = key_cells k
tree_cells (target_tree t) = target_cells t
tree_cells (agg_tree a) = agg_cells a
tree_cells (row_tree es) = row_cells es
tree_cells (node_tree n) = cells n

-- the cells of a stack, those of the deepest tree first
abbrev pub stack_cells : Stack → List Cell
stack_cells [] = []
stack_cells (t ∷ st) = stack_cells st ++ tree_cells t

-- a property of each cell of a tree
abbrev pub EachTree : (Content → Type 0) → Tree → Type 0
EachTree P (expression_tree e) = EachExpression P e
EachTree P (label_tree l) = P (label_cell l.0)
EachTree P (item_tree i) = EachItem P i
EachTree P (key_tree k) = EachKey P k
EachTree P (target_tree t) = P (target_cell t.0)
EachTree P (agg_tree a) = EachAgg P a
EachTree P (row_tree es) = EachRow P es
EachTree P (node_tree n) = Each P n

-- ---- sorts: how a child of a sort stands on the stack

-- A tree is a child of a sort as nothing but that sort's tree.
abbrev pub Only : {A : Type 0} → (Tree → Option A) → (A → Tree) → Tree → Type 0
Only {A} sort tree t = (a : A) → sort t ≡ some a → t ≡ tree a

pub record Sort (A : Type 0) (sort : Tree → Option A) : Type 0 where
  pub tree : A → Tree
  pub of : (a : A) → sort (tree a) ≡ some a
  pub only : (t : Tree) → Only sort tree t

pub no_child : {A B : Type 0} {a : A} → none ≡ some a → B
no_child h = absurd (let z : ◌≡◌ {A = ℕ} 0 1 = cc in omega arith)

pub the_child : {A B : Type 0} {a b : A} (f : A → B) → some a ≡ some b → f a ≡ f b
the_child f h = cc

-- a case for each sort of tree
pub by_cases : {A : Type 0} (sort : Tree → Option A) (tree : A → Tree)
    → ((x : Expression) → Only sort tree (expression_tree x))
    → ((x : Marked Label) → Only sort tree (label_tree x))
    → ((x : Expression × Label × ℕ) → Only sort tree (item_tree x))
    → ((x : Expression × Bool × ℕ) → Only sort tree (key_tree x))
    → ((x : Marked (Option ℕ)) → Only sort tree (target_tree x))
    → ((x : ℕ × Expression × ℕ) → Only sort tree (agg_tree x))
    → ((x : Marked (List Expression)) → Only sort tree (row_tree x))
    → ((x : Node) → Only sort tree (node_tree x))
    → (t : Tree) → Only sort tree t
by_cases sort tree e l i k t g r n (expression_tree x) = e x
by_cases sort tree e l i k t g r n (label_tree x) = l x
by_cases sort tree e l i k t g r n (item_tree x) = i x
by_cases sort tree e l i k t g r n (key_tree x) = k x
by_cases sort tree e l i k t g r n (target_tree x) = t x
by_cases sort tree e l i k t g r n (agg_tree x) = g x
by_cases sort tree e l i k t g r n (row_tree x) = r x
by_cases sort tree e l i k t g r n (node_tree x) = n x

abbrev pub expression_sort : Sort Expression an_expression
expression_sort =
    record {
      tree = expression_tree;
      of = λ a. refl;
      only = by_cases an_expression expression_tree (λ x a. the_child expression_tree) (λ x a. no_child) (λ x a. no_child) (λ x a. no_child)
          (λ x a. no_child) (λ x a. no_child) (λ x a. no_child) (λ x a. no_child);
    }

abbrev pub label_sort : Sort (Marked Label) a_label
label_sort =
    record {
      tree = label_tree;
      of = λ a. refl;
      only = by_cases a_label label_tree (λ x a. no_child) (λ x a. the_child label_tree) (λ x a. no_child) (λ x a. no_child)
          (λ x a. no_child) (λ x a. no_child) (λ x a. no_child) (λ x a. no_child);
    }

abbrev pub item_sort : Sort (Expression × Label × ℕ) an_item
item_sort =
    record {
      tree = item_tree;
      of = λ a. refl;
      only = by_cases an_item item_tree (λ x a. no_child) (λ x a. no_child) (λ x a. the_child item_tree) (λ x a. no_child)
          (λ x a. no_child) (λ x a. no_child) (λ x a. no_child) (λ x a. no_child);
    }

abbrev pub key_sort : Sort (Expression × Bool × ℕ) a_key
key_sort =
    record {
      tree = key_tree;
      of = λ a. refl;
      only = by_cases a_key key_tree (λ x a. no_child) (λ x a. no_child) (λ x a. no_child) (λ x a. the_child key_tree)
          (λ x a. no_child) (λ x a. no_child) (λ x a. no_child) (λ x a. no_child);
    }

abbrev pub target_sort : Sort (Marked (Option ℕ)) a_target
target_sort =
    record {
      tree = target_tree;
      of = λ a. refl;
      only = by_cases a_target target_tree (λ x a. no_child) (λ x a. no_child) (λ x a. no_child) (λ x a. no_child)
          (λ x a. the_child target_tree) (λ x a. no_child) (λ x a. no_child) (λ x a. no_child);
    }

abbrev pub agg_sort : Sort (ℕ × Expression × ℕ) an_agg
agg_sort =
    record {
      tree = agg_tree;
      of = λ a. refl;
      only = by_cases an_agg agg_tree (λ x a. no_child) (λ x a. no_child) (λ x a. no_child) (λ x a. no_child)
          (λ x a. no_child) (λ x a. the_child agg_tree) (λ x a. no_child) (λ x a. no_child);
    }

abbrev pub row_sort : Sort (Marked (List Expression)) a_row
row_sort =
    record {
      tree = row_tree;
      of = λ a. refl;
      only = by_cases a_row row_tree (λ x a. no_child) (λ x a. no_child) (λ x a. no_child) (λ x a. no_child)
          (λ x a. no_child) (λ x a. no_child) (λ x a. the_child row_tree) (λ x a. no_child);
    }

abbrev pub node_sort : Sort Node a_node
node_sort =
    record {
      tree = node_tree;
      of = λ a. refl;
      only = by_cases a_node node_tree (λ x a. no_child) (λ x a. no_child) (λ x a. no_child) (λ x a. no_child)
          (λ x a. no_child) (λ x a. no_child) (λ x a. no_child) (λ x a. the_child node_tree);
    }

-- a constant as a tree
abbrev pub constant_tree : Marked Value → Tree
constant_tree v = expression_tree (constant v.1 v.0)

pub constant_only : (e : Expression) → Only a_constant constant_tree (expression_tree e)
constant_only (constant og w) v h = the_child constant_tree h
constant_only (column og i) v h = no_child h
constant_only (unary og o x) v h = no_child h
constant_only (binary og o l r) v h = no_child h

abbrev pub constant_sort : Sort (Marked Value) a_constant
constant_sort =
    record {
      tree = constant_tree;
      of = λ a. refl;
      only = by_cases a_constant constant_tree constant_only (λ x a. no_child) (λ x a. no_child) (λ x a. no_child)
          (λ x a. no_child) (λ x a. no_child) (λ x a. no_child) (λ x a. no_child);
    }

-- children that were put on a stack in turn
abbrev pub pushed : {A : Type 0} → (A → Tree) → List A → Stack → Stack
pushed tree [] st = st
pushed tree (x ∷ xs) st = pushed tree xs (tree x ∷ st)

-- ---- a cell put on the stack with its children

-- A stack has the cells of the one before, and then the cell read; a property of each cell stays.
pub record Reduced (P : Content → Type 0) (og : ℕ) (k : Content) (st next : Stack) : Type 0 where
  pub cells_are : stack_cells next ≡ stack_cells st ++ alone og k
  pub keeps : All (EachTree P) st → P k → All (EachTree P) next

-- ---- all cells in turn

-- cells that take one stack to another
pub data Runs (text : List ℕ) : List Cell → Stack → Stack → Type 0 where
  at_end : {st : Stack} → Runs text [] st st
  on : {c : Cell} {cs : List Cell} {st next last : Stack} → after text c st ≡ some next → Runs text cs next last → Runs text (c ∷ cs) st last

-- a cell as a sheet holds it, which passes its test whatever its origin is
pub record Good (bytes tables : ℕ) (c : Cell) : Type 0 where
  pub words : Words c
  pub ok : cell_ok 1 bytes tables (marked 0 c) ≡ true

-- What reading gives; P is a property of each cell's content, such as that it is exact.
pub record Sound (P : Content → Type 0) (cs : List Cell) (st last : Stack) : Type 0 where
  pub cells_are : stack_cells last ≡ stack_cells st ++ cs
  pub keeps : All (EachTree P) st → All (EachTree P) last
