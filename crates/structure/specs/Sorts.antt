-- Reading cells by a stack, of sorts alone: what document 01 asks of the children of a cell, without the trees that they are.
use Rattle.std.specs.Prelude.{ℕ, zero, suc, Bool, true, false, ◌&&◌, ◌||◌, List, [], ◌∷◌, map, eqb, Option as Answer, Some, None}
use Rattle.std.proofs.Math.Option.{Option, none, some}
use Rattle.sql.specs.Expression.{Expression, constant, column, unary, binary}
use Rattle.sheet.specs.Tree.{Tree, expression_tree, label_tree, item_tree, key_tree, target_tree, agg_tree, row_tree, node_tree, Stack, bind}
use Rattle.arity.specs.declared.Sort.{Sort}
use Rattle.arity.specs.declared.Children.{Children}

abbrev pub expression_sort : Expression → Sort
expression_sort (constant og v) = Sort.Constant
expression_sort (column og i) = Sort.Expression
expression_sort (unary og o x) = Sort.Expression
expression_sort (binary og o l r) = Sort.Expression

abbrev pub tree_sort : Tree → Sort
tree_sort (expression_tree e) = expression_sort e
tree_sort (label_tree l) = Sort.Label
tree_sort (item_tree i) = Sort.Item
tree_sort (key_tree k) = Sort.Key
tree_sort (target_tree t) = Sort.Target
tree_sort (agg_tree a) = Sort.Agg
tree_sort (row_tree es) = Sort.Row
tree_sort (node_tree n) = Sort.Node

abbrev pub sorts : Stack → List Sort
sorts st = map tree_sort st

-- the sorts, counted in the order in which the code has them
abbrev pub number : Sort → ℕ
number Sort.Constant = 1
number Sort.Expression = 2
number Sort.Label = 3
number Sort.Item = 4
number Sort.Key = 5
number Sort.Target = 6
number Sort.Agg = 7
number Sort.Row = 8
number Sort.Node = 9

abbrev pub is : (have want : Sort) → Bool
is have want = eqb (number have) (number want)

-- A child of the sort `have` serves where `want` is asked for: a constant does where an expression is, and not the other way round.
abbrev pub serves : (have want : Sort) → Bool
serves have want = is have want || (is have Sort.Constant && is want Sort.Expression)

abbrev pub if_so : {A : Type 0} → Bool → Option A → Option A
if_so true o = o
if_so false o = none

-- What is left of a stack of sorts, top first, when the first n are taken off, or none where there are fewer or one doesn't serve.
unfoldable pub taken : (want : Sort) (n : ℕ) → List Sort → Option (List Sort)
taken want zero st = some st
taken want (suc n) [] = none
taken want (suc n) (have ∷ st) = if_so (serves have want) (taken want n st)

-- a sort on top of what is left, if there is one
abbrev pub pushed : Answer Sort → List Sort → Option (List Sort)
pushed None rest = none
pushed (Some sort) rest = some (sort ∷ rest)

-- The stack after a cell of a sort that asks for these children: Aggs on top, then parts, then nodes; none where it lacks them, or has no sort.
abbrev pub reduced : Answer Sort → Children → List Sort → Option (List Sort)
reduced sort asked st =
    bind (taken Sort.Agg asked.aggs st)
    (λ below. bind (taken asked.part asked.parts below) (λ low. bind (taken Sort.Node asked.nodes low) (λ rest. pushed sort rest)))
