-- The typed reading of a cell lacks its children exactly where the reading of sorts does, and leaves trees of the sorts that that leaves.
-- Assumes nothing.
use Prim.Native.Nat.{ℕ, zero, suc}
use mathlib.Core.Path.{◌≡◌, refl, ap, ◌∙◌}
use mathlib.Core.Bool.{Bool, true, false}
use mathlib.Core.List.{List, [], ◌∷◌, map}
use mathlib.Core.Option.{Option, none, some}
use lib.ListN.{get_or}
use native.Mathlib.Omega.{arith}
use Rattle.sql.specs.Expression.{Expression, constant, column, unary, binary}
use Rattle.sheet.specs.Content.{Content, constant_cell, column_cell, unary_cell, binary_cell, label_cell, item_cell, key_cell, target_cell, agg_cell, row_cell, aggregate_cell, filter_cell, hash_join_cell, index_lookup_cell, key_lookup_cell, limit_cell, offset_cell, nested_loop_join_cell, nothing_cell, order_cell, projection_cell, remap_cell, scan_cell, values_cell, bit}
use Rattle.sheet.specs.Tree.{Tree, expression_tree, label_tree, item_tree, key_tree, target_tree, agg_tree, row_tree, node_tree, Stack, bind, an_expression, a_constant, a_label, an_item, a_key, a_target, an_agg, a_row, a_node, pop, child, children, if_any, reduce}
use Rattle.arity.specs.declared.Sort.{Sort}
use Rattle.std.specs.Prelude.{Some}
use Rattle.arity.specs.Arity as Arity
use Rattle.structure.specs.Sorts.{tree_sort, sorts, serves, if_so, taken, reduced}

-- a stack's sorts, if there is a stack
abbrev pub sorted : Option Stack → Option (List Sort)
sorted none = none
sorted (some st) = some (sorts st)

abbrev there : {A : Type 0} → Option A → Bool
there none = false
there (some a) = true

-- ---- which trees serve

-- For each of the nine ways to take a tree as a child, that it can be taken so is that its sort serves.
all_serve : (t : Tree)
    → there (a_constant t) ∷ there (an_expression t) ∷ there (a_label t) ∷ there (an_item t) ∷ there (a_key t) ∷ there (a_target t) ∷ there (an_agg t) ∷ there (a_row t) ∷ there (a_node t) ∷ []
    ≡ map (serves (tree_sort t)) (Sort.Constant ∷ Sort.Expression ∷ Sort.Label ∷ Sort.Item ∷ Sort.Key ∷ Sort.Target ∷ Sort.Agg ∷ Sort.Row ∷ Sort.Node ∷ [])
all_serve (expression_tree (constant og v)) = refl
all_serve (expression_tree (column og i)) = refl
all_serve (expression_tree (unary og o x)) = refl
all_serve (expression_tree (binary og o l r)) = refl
all_serve (label_tree x) = refl
all_serve (item_tree x) = refl
all_serve (key_tree x) = refl
all_serve (target_tree x) = refl
all_serve (agg_tree x) = refl
all_serve (row_tree x) = refl
all_serve (node_tree x) = refl

-- A way to take a tree as a child takes those whose sort serves.
record Takes {A : Type 0} (as_child : Tree → Option A) (want : Sort) : Type 0 where
  is : (t : Tree) → there (as_child t) ≡ serves (tree_sort t) want

nth : (n : ℕ) → List Bool → Bool
nth n l = get_or l n true

constants : Takes a_constant Sort.Constant
unfolding nth
constants = record { is = λ t. ap (nth 0) (all_serve t) }

expressions : Takes an_expression Sort.Expression
unfolding nth
expressions = record { is = λ t. ap (nth 1) (all_serve t) }

labels : Takes a_label Sort.Label
unfolding nth
labels = record { is = λ t. ap (nth 2) (all_serve t) }

items : Takes an_item Sort.Item
unfolding nth
items = record { is = λ t. ap (nth 3) (all_serve t) }

keys : Takes a_key Sort.Key
unfolding nth
keys = record { is = λ t. ap (nth 4) (all_serve t) }

targets : Takes a_target Sort.Target
unfolding nth
targets = record { is = λ t. ap (nth 5) (all_serve t) }

aggs : Takes an_agg Sort.Agg
unfolding nth
aggs = record { is = λ t. ap (nth 6) (all_serve t) }

rows : Takes a_row Sort.Row
unfolding nth
rows = record { is = λ t. ap (nth 7) (all_serve t) }

nodes : Takes a_node Sort.Node
unfolding nth
nodes = record { is = λ t. ap (nth 8) (all_serve t) }

-- ---- taking children off

-- What is done with a child, or children, leaves the sorts that g says.
record Leaves {A : Type 0} (f : A → Stack → Option Stack) (g : List Sort → Option (List Sort)) : Type 0 where
  is : (a : A) (rest : Stack) → sorted (f a rest) ≡ g (sorts rest)

-- A child is there, as it serves, and what is done with it leaves the same; or it isn't there, and nothing is left.
either : {A : Type 0} (o : Option A) (b : Bool) → there o ≡ b → (f : A → Option Stack) (rest : Option (List Sort)) (g : List Sort → Option (List Sort))
    → ((a : A) → sorted (f a) ≡ bind rest g) → sorted (bind o f) ≡ bind (if_so b rest) g
either none true e f rest g h = let z : ◌≡◌ {A = ℕ} 0 1 = cc in absurd (omega arith)
either none false e f rest g h = refl
either (some a) true e f rest g h = h a
either (some a) false e f rest g h = let z : ◌≡◌ {A = ℕ} 0 1 = cc in absurd (omega arith)

one_by_one : (want : Sort) (st : List Sort) (g : List Sort → Option (List Sort)) → bind (taken want 1 st) (λ below. bind (taken want 1 below) g) ≡ bind (taken want 2 st) g
unfolding taken
one_by_one want [] g = refl
one_by_one want (have ∷ st) g = go (serves have want)
  where
    go : (b : Bool) → bind (if_so b (some st)) (λ below. bind (taken want 1 below) g) ≡ bind (if_so b (taken want 1 st)) g
    go true = refl
    go false = refl

module _ {A : Type 0} {as_child : Tree → Option A} {want : Sort} (takes : Takes as_child want) where
  child_leaves : {f : A → Stack → Option Stack} {g : List Sort → Option (List Sort)} → Leaves f g → (st : Stack)
      → sorted (child as_child st f) ≡ bind (taken want 1 (sorts st)) g
  unfolding taken
  child_leaves h [] = refl
  child_leaves {f} {g} h (t ∷ st) =
      either (as_child t) (serves (tree_sort t) want) (takes.is t) (λ a. f a st) (some (sorts st)) g (λ a. h.is a st)

  -- two children of a sort, one after the other
  two_leave : {f : A → A → Stack → Option Stack} {g : List Sort → Option (List Sort)} → ((a : A) → Leaves (f a) g) → (st : Stack)
      → sorted (child as_child st (λ r below. child as_child below (f r))) ≡ bind (taken want 2 (sorts st)) g
  two_leave {g} h st = child_leaves (record { is = λ a below. child_leaves (h a) below }) st ∙ one_by_one want (sorts st) g

  module _ {f : List A → Stack → Option Stack} {g : List Sort → Option (List Sort)} (h : Leaves f g) where
    onward : Option (List A × Stack) → Option Stack
    onward o = bind o (λ p. f p.0 p.1)

    pop_leaves : (n : ℕ) (later : List A) (st : Stack) → sorted (onward (pop as_child n later st)) ≡ bind (taken want n (sorts st)) g
    unfolding taken pop onward
    pop_leaves zero later st = h.is later st
    pop_leaves (suc n) later [] = refl
    pop_leaves (suc n) later (t ∷ st) = go (as_child t) (serves (tree_sort t) want) (takes.is t) (λ a. pop_leaves n (a ∷ later) st)
      where
        go : (o : Option A) (b : Bool) → there o ≡ b
            → ((a : A) → sorted (onward (pop as_child n (a ∷ later) st)) ≡ bind (taken want n (sorts st)) g)
            → sorted (onward (elim o as (λ _. Option (List A × Stack)) [ none ↦ none | some a ↦ pop as_child n (a ∷ later) st ]))
            ≡ bind (if_so b (taken want n (sorts st))) g
        go none true e i = let z : ◌≡◌ {A = ℕ} 0 1 = cc in absurd (omega arith)
        go none false e i = refl
        go (some a) true e i = i a
        go (some a) false e i = let z : ◌≡◌ {A = ℕ} 0 1 = cc in absurd (omega arith)

    children_leaves : (n : ℕ) (st : Stack) → sorted (children as_child n st f) ≡ bind (taken want n (sorts st)) g
    unfolding onward
    children_leaves n st = pop_leaves n [] st

if_any_leaves : {f : Option Expression → Stack → Option Stack} {g : List Sort → Option (List Sort)} → Leaves f g → (b : Bool) (st : Stack)
    → sorted (if_any b st f) ≡ bind (taken Sort.Expression (bit b) (sorts st)) g
unfolding taken
if_any_leaves h false st = h.is none st
if_any_leaves h true st = child_leaves expressions (record { is = λ e rest. h.is (some e) rest }) st

-- ---- the law

-- A cell on a stack of trees, and on the stack of their sorts.
pub reduce_sorts : (og : ℕ) (k : Content) (st : Stack) → sorted (reduce og k st) ≡ reduced (Some (Arity.sort k)) (Arity.children k) (sorts st)
unfolding reduce taken
reduce_sorts og (constant_cell v) st = refl
reduce_sorts og (column_cell i) st = refl
reduce_sorts og (unary_cell o) st = child_leaves expressions (record { is = λ x rest. refl }) st
reduce_sorts og (binary_cell o) st = two_leave expressions (λ r. record { is = λ l rest. refl }) st
reduce_sorts og (label_cell l) st = refl
reduce_sorts og (item_cell l) st = child_leaves expressions (record { is = λ e rest. refl }) st
reduce_sorts og (key_cell d) st = child_leaves expressions (record { is = λ e rest. refl }) st
reduce_sorts og (target_cell t) st = refl
reduce_sorts og (agg_cell f) st = child_leaves expressions (record { is = λ e rest. refl }) st
reduce_sorts og (row_cell n) st = children_leaves expressions (record { is = λ es rest. refl }) n st
reduce_sorts og (aggregate_cell n m) st =
    children_leaves aggs
    (record {
      is = λ gs below. children_leaves expressions (record { is = λ es low. child_leaves nodes (record { is = λ s rest. refl }) low }) n below;
    })
    m st
reduce_sorts og filter_cell st = child_leaves expressions (record { is = λ e below. child_leaves nodes (record { is = λ s rest. refl }) below }) st
reduce_sorts og (hash_join_cell o i j) st = two_leave nodes (λ r. record { is = λ l rest. refl }) st
reduce_sorts og (index_lookup_cell t al i n) st = children_leaves constants (record { is = λ vs rest. refl }) n st
reduce_sorts og (key_lookup_cell t al n) st = children_leaves constants (record { is = λ vs rest. refl }) n st
reduce_sorts og (limit_cell n) st = child_leaves nodes (record { is = λ s rest. refl }) st
reduce_sorts og (offset_cell n) st = child_leaves nodes (record { is = λ s rest. refl }) st
reduce_sorts og (nested_loop_join_cell p o) st =
    if_any_leaves (record { is = λ e below. two_leave nodes (λ r. record { is = λ l rest. refl }) below }) p st
reduce_sorts og (nothing_cell n) st = children_leaves labels (record { is = λ ls rest. refl }) n st
reduce_sorts og (order_cell n) st =
    children_leaves keys (record { is = λ ps below. child_leaves nodes (record { is = λ s rest. refl }) below }) n st
reduce_sorts og (projection_cell n) st =
    children_leaves items (record { is = λ ps below. child_leaves nodes (record { is = λ s rest. refl }) below }) n st
reduce_sorts og (remap_cell n) st =
    children_leaves targets (record { is = λ ps below. child_leaves nodes (record { is = λ s rest. refl }) below }) n st
reduce_sorts og (scan_cell f t al) st = if_any_leaves (record { is = λ e rest. refl }) f st
reduce_sorts og (values_cell n) st = children_leaves rows (record { is = λ rs rest. refl }) n st
