-- What putting cells over the trees that they ask for makes: of the cells of a plan that a sheet can hold, the plan's words.
-- Assumes nothing.
use Prim.Native.Nat.{ℕ, ◌+◌, ◌≤◌}
use native.Mathlib.Omega.{arith}
use mathlib.Core.Path.{◌≡◌, refl, sym, ap, ◌∙◌, subst}
use mathlib.Core.Bool.{Bool, true, false}
use mathlib.Core.List.{List, [], ◌∷◌, ◌++◌, append_assoc, append-nil}
use mathlib.Core.Option.{none, some}
use lib.ListN.{length, length-append}
use Rattle.sql.specs.Expression.{Marked, Expression, constant, column, unary, binary}
use Rattle.sql.specs.Plan.{node_origin, by_key, by_index, Leaf, scan, lookup, nothing, values, limit, offset, order, projection, remap, aggregate, Over, filter, other, Join, nested_loop, hash, Node, leaf, over, join}
use Rattle.sheet.specs.Cell.{Cell}
use Rattle.sheet.specs.Content.{Content, constant_cell, column_cell, unary_cell, binary_cell, label_cell, item_cell, key_cell, target_cell, agg_cell, row_cell, aggregate_cell, filter_cell, hash_join_cell, index_lookup_cell, key_lookup_cell, limit_cell, offset_cell, nested_loop_join_cell, nothing_cell, order_cell, projection_cell, remap_cell, scan_cell, values_cell}
use Rattle.sheet.specs.Cells.{all_cells, alone, expression_cells, constant_cells, label_cells, target_cells, item_cells, key_cells, agg_cells, row_cells, leaf_cells, other_cells, over_cells, join_cells, cells}
use Rattle.sheet_laws.specs.Fits.{All, EachExpression, EachItem, EachKey, EachAgg, EachRow, EachLeaf, EachOver, EachJoin, Each, CountsFit}
use Rattle.arity.specs.Arity.{children}
use Rattle.cells.specs.declared.Cell as working
use Rattle.cells.specs.Cells.{cell_words, words, sized}
use Rattle.words.specs.Words.{cell, all_words, expression_words, constant_words, label_words, target_words, item_words, key_words, agg_words, row_words, node_words, source_words, own_words, node_cell}
use Rattle.words.proofs.Nodes.{node_shape}
use Rattle.nodes.specs.Trees.{Trees}
use Rattle.nodes.specs.Trees as rows
use Rattle.nodes.proofs.Trees.{append_all}
use Rattle.nodes.proofs.Own.{one_tree, expression_trees, own_trees}
use Rattle.decode.specs.Decode.{trees}
use Rattle.decode.proofs.Trees.{total, marked_trees}

-- a sheet's cell as one of the working form
abbrev pub in_words : Cell → working.Cell
in_words k = record { origin = k.origin; tag = k.tag; flag = k.flag; a = k.a; b = k.b; c = k.c }

-- Putting the cells one after the other over the last trees of w gives v.
pub data Builds : List Cell → List ℕ → List ℕ → Type 0 where
  at_end : {w v : List ℕ} → w ≡ v → Builds [] w v
  on : {c : Cell} {cs : List Cell} {w v : List ℕ} (u b : List ℕ) → w ≡ u ++ b → Trees (trees c) b
      → Builds cs (u ++ sized b (in_words c)) v → Builds (c ∷ cs) w v

pub builds_append : {cs ds : List Cell} {w u v : List ℕ} → Builds cs w u → Builds ds u v → Builds (cs ++ ds) w v
builds_append {ds = ds} {v = v} (at_end e) q = subst (λ (l : List ℕ). Builds ds l v) (sym e) q
builds_append (on u b e t p) q = on u b e t (builds_append p q)

-- Words are only ever added.
pub builds_grow : {cs : List Cell} {w v : List ℕ} → Builds cs w v → length w ≤ length v
builds_grow (at_end e) = omega (arith, ap length e)
builds_grow (on {c = c} u b e t p) =
    omega (
      arith,
      builds_grow p,
      ap length e,
      length-append u b,
      length-append u (sized b (in_words c)),
      length-append b (words (in_words c) (length b + cell_words)),
    )

-- P holds of what each cell says; the counts that it says fit.
module _ (P : Content → Type 0) (fits : (k : Content) → P k → CountsFit k) where
  -- a cell over n trees
  a_cell : (og : ℕ) (k : Content) → P k → {n : ℕ} → total (children k) ≡ n → {w : List ℕ} (u b : List ℕ) → w ≡ u ++ b → Trees n b
      → Builds (alone og k) w (u ++ sized b (cell og k))
  unfolding cell
  a_cell og k x e u b f t = on u b f (subst (λ (n : ℕ). Trees n b) (sym (marked_trees og k (fits k x) ∙ e)) t) (at_end refl)

  -- a cell alone
  single : (og : ℕ) (k : Content) → P k → total (children k) ≡ 0 → (w : List ℕ) → Builds (alone og k) w (w ++ sized [] (cell og k))
  single og k x e w = a_cell og k x e w [] (sym (append-nil w)) rows.none

  all_builds : {A : Type 0} (f : A → List Cell) (g : A → List ℕ) (Q : A → Type 0) → ((x : A) → Q x → (w : List ℕ) → Builds (f x) w (w ++ g x))
      → (xs : List A) → All Q xs → (w : List ℕ) → Builds (all_cells f xs) w (w ++ all_words g xs)
  all_builds f g Q r [] q w = at_end (sym (append-nil w))
  all_builds f g Q r (x ∷ xs) q w = rw (← append_assoc w (g x) (all_words g xs)) (builds_append (r x q.0 w) (all_builds f g Q r xs q.1 (w ++ g x)))

  expression_builds : (e : Expression) → EachExpression P e → (w : List ℕ) → Builds (expression_cells e) w (w ++ expression_words e)
  unfolding expression_cells expression_words
  expression_builds (constant og v) x w = single og (constant_cell v) x refl w
  expression_builds (column og i) x w = single og (column_cell i) x refl w
  expression_builds (unary og o e) x w =
      builds_append (expression_builds e x.0 w) (a_cell og (unary_cell o) x.1 refl w (expression_words e) refl (one_tree e))
  expression_builds (binary og o l r) x w =
      builds_append (expression_builds l x.0 w)
      (builds_append (expression_builds r x.1.0 (w ++ expression_words l))
      (a_cell og (binary_cell o) x.1.1 refl w (expression_words l ++ expression_words r) (append_assoc w (expression_words l) (expression_words r)) (append_all (one_tree l) (one_tree r))))

  expressions_build : (es : List Expression) → All (EachExpression P) es → (w : List ℕ) → Builds (all_cells expression_cells es) w (w ++ all_words expression_words es)
  expressions_build = all_builds expression_cells expression_words (EachExpression P) expression_builds

  row_builds : (es : Marked (List Expression)) → EachRow P es → (w : List ℕ) → Builds (row_cells es) w (w ++ row_words es)
  row_builds es x w =
      builds_append (expressions_build es.0 x.0 w)
      (a_cell es.1 (row_cell (length es.0)) x.1 (omega arith) w (all_words expression_words es.0) refl (expression_trees es.0))

  -- a part that is an expression and a cell over it
  part_builds : (og : ℕ) (e : Expression) (k : Content) → EachExpression P e → P k → total (children k) ≡ 1 → (w : List ℕ)
      → Builds (expression_cells e ++ alone og k) w (w ++ sized (expression_words e) (cell og k))
  part_builds og e k x y h w = builds_append (expression_builds e x w) (a_cell og k y h w (expression_words e) refl (one_tree e))

  leaf_builds : (og : ℕ) (l : Leaf) → EachLeaf P l → (w : List ℕ) → Builds (leaf_cells og l) w (w ++ node_words (leaf og l))
  unfolding leaf_cells node_words
  leaf_builds og (scan t al none) x w = single og (scan_cell false t al) x.1 refl w
  leaf_builds og (scan t al (some e)) x w = part_builds og e (scan_cell true t al) x.0 x.1 refl w
  leaf_builds og (lookup by_key t al vs) x w =
      builds_append (all_builds constant_cells constant_words (λ v. P (constant_cell v.0)) (λ v p u. single v.1 (constant_cell v.0) p refl u) vs x.0 w)
      (a_cell og (key_lookup_cell t al (length vs)) x.1 (omega arith) w (all_words constant_words vs) refl (own_trees (leaf og (lookup by_key t al vs))))
  leaf_builds og (lookup (by_index i) t al vs) x w =
      builds_append (all_builds constant_cells constant_words (λ v. P (constant_cell v.0)) (λ v p u. single v.1 (constant_cell v.0) p refl u) vs x.0 w)
      (a_cell og (index_lookup_cell t al i (length vs)) x.1 (omega arith) w (all_words constant_words vs) refl (own_trees (leaf og (lookup (by_index i) t al vs))))
  leaf_builds og (nothing ls) x w =
      builds_append (all_builds label_cells label_words (λ l. P (label_cell l.0)) (λ l p u. single l.1 (label_cell l.0) p refl u) ls x.0 w)
      (a_cell og (nothing_cell (length ls)) x.1 (omega arith) w (all_words label_words ls) refl (own_trees (leaf og (nothing ls))))
  leaf_builds og (values rs) x w =
      builds_append (all_builds row_cells row_words (EachRow P) row_builds rs x.0 w)
      (a_cell og (values_cell (length rs)) x.1 (omega arith) w (all_words row_words rs) refl (own_trees (leaf og (values rs))))

  -- over a source n, whose words stand there
  over_builds : (og : ℕ) (o : Over) → EachOver P o → (n : Node) → Trees 1 (node_words n) → (w : List ℕ) → Builds (over_cells og o) (w ++ node_words n) (w ++ node_words (over og o n))
  unfolding over_cells other_cells node_words
  over_builds og (filter e) x n t w =
      builds_append (expression_builds e x.0 (w ++ node_words n))
      (a_cell og filter_cell x.1 refl w (node_words n ++ expression_words e) (append_assoc w (node_words n) (expression_words e)) (append_all t (one_tree e)))
  over_builds og (other (limit m)) x n t w = a_cell og (limit_cell m) x refl w (node_words n ++ []) (ap (λ (l : List ℕ). w ++ l) (sym (append-nil (node_words n)))) (append_all t rows.none)
  over_builds og (other (offset m)) x n t w = a_cell og (offset_cell m) x refl w (node_words n ++ []) (ap (λ (l : List ℕ). w ++ l) (sym (append-nil (node_words n)))) (append_all t rows.none)
  over_builds og (other (order ks)) x n t w =
      builds_append (all_builds key_cells key_words (EachKey P) (λ k p u. part_builds k.2 k.0 (key_cell k.1) p.0 p.1 refl u) ks x.0 (w ++ node_words n))
      (a_cell og (order_cell (length ks)) x.1 (omega arith) w (node_words n ++ all_words key_words ks) (append_assoc w (node_words n) (all_words key_words ks)) (append_all t (own_trees (over og (other (order ks)) n))))
  over_builds og (other (projection is)) x n t w =
      builds_append (all_builds item_cells item_words (EachItem P) (λ i p u. part_builds i.2 i.0 (item_cell i.1) p.0 p.1 refl u) is x.0 (w ++ node_words n))
      (a_cell og (projection_cell (length is)) x.1 (omega arith) w (node_words n ++ all_words item_words is) (append_assoc w (node_words n) (all_words item_words is)) (append_all t (own_trees (over og (other (projection is)) n))))
  over_builds og (other (remap ts)) x n t w =
      builds_append (all_builds target_cells target_words (λ t. P (target_cell t.0)) (λ t p u. single t.1 (target_cell t.0) p refl u) ts x.0 (w ++ node_words n))
      (a_cell og (remap_cell (length ts)) x.1 (omega arith) w (node_words n ++ all_words target_words ts) (append_assoc w (node_words n) (all_words target_words ts)) (append_all t (own_trees (over og (other (remap ts)) n))))
  over_builds og (other (aggregate es gs)) x n t w =
      let a = all_words expression_words es in
      let b = all_words agg_words gs in
      builds_append (expressions_build es x.0 (w ++ node_words n))
      (builds_append (all_builds agg_cells agg_words (EachAgg P) (λ g p u. part_builds g.2 g.1 (agg_cell g.0) p.0 p.1 refl u) gs x.1.0 ((w ++ node_words n) ++ a))
      (a_cell og (aggregate_cell (length es) (length gs)) x.1.1 (omega arith) w (node_words n ++ (a ++ b)) (simp append_assoc) (append_all t (own_trees (over og (other (aggregate es gs)) n)))))

  join_builds : (og : ℕ) (outer : Bool) (j : Join) → EachJoin P outer j → (l r : Node) → Trees 1 (node_words l) → Trees 1 (node_words r) → (w : List ℕ)
      → Builds (join_cells og outer j) ((w ++ node_words l) ++ node_words r) (w ++ node_words (join og outer j l r))
  unfolding join_cells node_words
  join_builds og outer (nested_loop none) x l r t u w =
      a_cell og (nested_loop_join_cell false outer) x.1 refl w (node_words l ++ (node_words r ++ [])) (simp (append_assoc, append-nil)) (append_all t (append_all u rows.none))
  join_builds og outer (nested_loop (some e)) x l r t u w =
      builds_append (expression_builds e x.0 ((w ++ node_words l) ++ node_words r))
      (a_cell og (nested_loop_join_cell true outer) x.1 refl w (node_words l ++ (node_words r ++ expression_words e)) (simp append_assoc) (append_all t (append_all u (one_tree e))))
  join_builds og outer (hash i j) x l r t u w =
      a_cell og (hash_join_cell outer i j) x refl w (node_words l ++ (node_words r ++ [])) (simp (append_assoc, append-nil)) (append_all t (append_all u rows.none))

  node_tree : (n : Node) → Trees 1 (node_words n)
  node_tree n = rw (node_shape n) (rows.one_more rows.none (source_words n ++ own_words n) (cell (node_origin n) (node_cell n)))

  pub node_builds : (n : Node) → Each P n → (w : List ℕ) → Builds (cells n) w (w ++ node_words n)
  unfolding cells
  node_builds (leaf og l) x w = leaf_builds og l x w
  node_builds (over og o n) x w = builds_append (node_builds n x.0 w) (over_builds og o x.1 n (node_tree n) w)
  node_builds (join og outer j l r) x w =
      builds_append (node_builds l x.0 w)
      (builds_append (node_builds r x.1.0 (w ++ node_words l)) (join_builds og outer j x.1.1 l r (node_tree l) (node_tree r) w))
