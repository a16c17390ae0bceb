-- One walk over a plan's cells, from the first to the last, finds the repeated Target that the definition finds.
use Prim.Native.Nat.{ℕ, suc, ◌+◌, ◌<◌}
use native.Mathlib.Omega.{arith}
use native.Mathlib.Nat.{add-zero, add_assoc}
use mathlib.Core.Path.{◌≡◌, refl, sym, ap, ◌∙◌}
use mathlib.Core.Bool.{Bool, true, false, cond}
use mathlib.Core.List.{List, [], ◌∷◌, ◌++◌, append_assoc, append-nil}
use mathlib.Core.Option.{Option, none, some}
use lib.Dec.{leb, eqb}
use lib.ListN.{length}
use borrow.Author.Tests.{lt-leb}
use Rattle.sql.specs.Schema.{Schema}
use Rattle.sql.specs.Expression.{Marked, Expression}
use Rattle.sql.specs.Plan.{Leaf, scan, lookup, nothing, values, Over, filter, other, limit, offset, order, projection, remap, aggregate, Join, nested_loop, hash, Node, leaf, over, join, over_size, node_size}
use Rattle.sheet.specs.Cell.{Cell}
use Rattle.sheet.specs.Cells.{all_cells, row_cells, target_cells, over_cells, join_cells, cells}
use Rattle.sheet.specs.Scope.{first_of, member, repeated, over_repeated, target_repeated}
use Rattle.node_scope.specs.Own.{is_node}
use Rattle.scope.proofs.Own.{Each, end, next, each_append, each_all, each_map, Inner, expression_inner, first_of_none, first_of_assoc}
use Rattle.scope.proofs.Node.{Told, optional_inner, keys_inner, items_inner, aggs_inner, expressions_inner, constants_inner, labels_inner, join_own, leaf_own, leaf_told, over_told, join_told}
use Rattle.scope.proofs.Walk.{Indexes}
use Rattle.targets.specs.Targets.{target_number}

-- The first Target that equals one of `before`, which are those since the last node; the cells are numbered from `at`.
abbrev pub walk : (at : ℕ) (before : List ℕ) → List Cell → Option ℕ
walk at before [] = none
walk at before (k ∷ ks) =
    cond (is_node k.tag) (walk (suc at) [] ks)
    (cond (leb 256 (target_number k)) (walk (suc at) before ks)
    (cond (member (target_number k) before) (some at) (walk (suc at) (target_number k ∷ before) ks)))

-- ---- cells that are neither nodes nor Targets

record Calm (k : Cell) : Type 0 where
  node : is_node k.tag ≡ false
  target : eqb k.tag 43 ≡ false

calm : {ks : List Cell} → Each Inner ks → Each Calm ks
calm e = each_map (λ k i. record { node = i.node; target = i.target }) e

row_calm : (es : Marked (List Expression)) → Each Calm (row_cells es)
row_calm es = each_append (calm (expressions_inner es.0)) (next (record { node = refl; target = refl }) end)

leaf_calm : (l : Leaf) → Each Calm (leaf_own l)
leaf_calm (scan t al f) = calm (optional_inner f)
leaf_calm (lookup a t al vs) = calm (constants_inner vs)
leaf_calm (nothing ls) = calm (labels_inner ls)
leaf_calm (values rs) = each_all row_cells row_calm rs

join_calm : (j : Join) → Each Calm (join_own j)
join_calm (nested_loop p) = calm (optional_inner p)
join_calm (hash i j) = end

walk_calm : (at : ℕ) (before : List ℕ) {xs : List Cell} (ks : List Cell) → Each Calm xs → walk at before (xs ++ ks) ≡ walk (at + length xs) before ks
walk_calm at before ks end = rw add-zero refl
walk_calm at before ks (next {ks = xs} p ps) =
    rw (p.node, p.target) (walk_calm (suc at) before ks ps ∙ ap (λ (i : ℕ). walk i before ks) (omega arith))

-- A node whose own cells have no Target. What it finds and how many columns it has doesn't matter here.
walk_told : (at : ℕ) (before : List ℕ) (ks : List Cell) {schema : Schema} {left right n from size count width : ℕ} {own cs : List Cell} {out : Option ℕ}
    → Told schema left right n from own cs out width size count
    → Each Calm own
    → walk at before (cs ++ ks) ≡ walk (at + size) [] ks
walk_told at before ks {own = own} t c =
    rw (t.cells_are, append_assoc)
    (walk_calm at before (t.last ∷ ks) c ∙ rw t.node (ap (λ (i : ℕ). walk i [] ks) (let e = t.size_is in omega arith)))

-- ---- Targets

-- Targets are below 256.
abbrev pub Below : List (Marked (Option ℕ)) → Type 0
Below [] = Unit
Below ((none, og) ∷ ts) = Below ts
Below ((some t, og) ∷ ts) = (t < 256) × Below ts

met_or : (m : Bool) (at : ℕ) {x : Option ℕ} (y z : Option ℕ) → x ≡ first_of y z → cond m (some at) x ≡ first_of (elim m [ true ↦ some at | false ↦ y ]) z
met_or true at y z e = refl
met_or false at y z e = e

walk_targets : (at : ℕ) (before : List ℕ) (ts : List (Marked (Option ℕ))) → Below ts → (k : Cell) (ks : List Cell) → is_node k.tag ≡ true
    → walk at before (all_cells target_cells ts ++ (k ∷ ks)) ≡ first_of (repeated before at ts) (walk (at + length ts + 1) [] ks)
walk_targets at before [] b k ks e = rw e (ap (λ (i : ℕ). walk i [] ks) (omega arith))
walk_targets at before ((none, og) ∷ ts) b k ks e =
    walk_targets (suc at) before ts b k ks e
    ∙ ap (λ (i : ℕ). first_of (repeated before (suc at) ts) (walk i [] ks)) (omega arith)
walk_targets at before ((some t, og) ∷ ts) b k ks e =
    rw (lt-leb 256 t b.0)
    (met_or (member t before) at (repeated (t ∷ before) (suc at) ts) (walk (at + suc (length ts) + 1) [] ks)
    (walk_targets (suc at) (t ∷ before) ts b.1 k ks e
    ∙ ap (λ (i : ℕ). first_of (repeated (t ∷ before) (suc at) ts) (walk i [] ks)) (omega arith)))

abbrev pub BelowOver : Over → Type 0
BelowOver (filter e) = Unit
BelowOver (other (limit m)) = Unit
BelowOver (other (offset m)) = Unit
BelowOver (other (order ks)) = Unit
BelowOver (other (projection is)) = Unit
BelowOver (other (remap ts)) = Below ts
BelowOver (other (aggregate es gs)) = Unit

abbrev pub BelowNode : Node → Type 0
BelowNode (leaf og l) = Unit
BelowNode (over og o n) = BelowNode n × BelowOver o
BelowNode (join og outer j l r) = BelowNode l × BelowNode r

walk_over : (at og : ℕ) (o : Over) → BelowOver o → (ks : List Cell) → walk at [] (over_cells og o ++ ks) ≡ first_of (over_repeated at o) (walk (at + over_size o) [] ks)
walk_over at og (filter e) b ks = walk_told at [] ks (over_told [] 0 0 og (filter e)) (calm (expression_inner e))
walk_over at og (other (limit m)) b ks = walk_told at [] ks (over_told [] 0 0 og (other (limit m))) end
walk_over at og (other (offset m)) b ks = walk_told at [] ks (over_told [] 0 0 og (other (offset m))) end
walk_over at og (other (order xs)) b ks = walk_told at [] ks (over_told [] 0 0 og (other (order xs))) (calm (keys_inner xs))
walk_over at og (other (projection xs)) b ks = walk_told at [] ks (over_told [] 0 0 og (other (projection xs))) (calm (items_inner xs))
walk_over at og (other (remap ts)) b ks =
    let t = over_told [] 0 0 og (other (remap ts)) in
    rw (t.cells_are, append_assoc)
    (walk_targets at [] ts b t.last ks t.node ∙ ap (λ (i : ℕ). first_of (repeated [] at ts) (walk i [] ks)) (omega arith))
walk_over at og (other (aggregate es gs)) b ks = walk_told at [] ks (over_told [] 0 0 og (other (aggregate es gs))) (each_append (calm (expressions_inner es)) (calm (aggs_inner gs)))

pub walk_cells : (at : ℕ) (n : Node) → Indexes n → BelowNode n → (ks : List Cell) → walk at [] (cells n ++ ks) ≡ first_of (target_repeated at n) (walk (at + node_size n) [] ks)
unfolding cells
walk_cells at (leaf og l) h b ks = walk_told at [] ks (leaf_told [] at og l h) (leaf_calm l)
walk_cells at (over og o n) h b ks =
    rw append_assoc
    (walk_cells at n h b.0 (over_cells og o ++ ks)
    ∙ ap (first_of (target_repeated at n)) (walk_over (at + node_size n) og o b.1 ks)
    ∙ simp (first_of_assoc, add_assoc))
walk_cells at (join og outer j l r) h b ks =
    simp append_assoc
    (walk_cells at l h.0 b.0 (cells r ++ (join_cells og outer j ++ ks))
    ∙ ap (first_of (target_repeated at l))
    (walk_cells (at + node_size l) r h.1 b.1 (join_cells og outer j ++ ks)
    ∙ ap (first_of (target_repeated (at + node_size l) r))
    (walk_told (at + node_size l + node_size r) [] ks (join_told [] 0 0 0 og outer j) (join_calm j)))
    ∙ simp (first_of_assoc, add_assoc))

-- The walk over all cells of a plan.
pub walked : (n : Node) → Indexes n → BelowNode n → walk 0 [] (cells n) ≡ target_repeated 0 n
walked n h b = ap (walk 0 []) (sym (append-nil (cells n))) ∙ walk_cells 0 n h b [] ∙ first_of_none (target_repeated 0 n)
