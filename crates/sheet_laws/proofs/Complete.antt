-- Reading is complete: the cells of an exact plan pass their tests, and are read as that plan.
use Rattle.std.specs.Prelude.{ℕ, ◌<◌, ◌≡◌, Bool, List, [], ◌∷◌, ◌++◌, length}
use Rattle.std.proofs.Math.Path.{refl}
use Rattle.std.proofs.Common.{sym, ap, ◌∙◌}
use Rattle.std.proofs.Math.Bool.{true, false}
use Rattle.std.proofs.Math.Option.{Option, none, some}
use Rattle.sql.specs.Expression.{Marked, Expression, constant, column, unary, binary}
use Rattle.sql.specs.Plan.{by_key, by_index, Leaf, scan, lookup, nothing, values, limit, offset, order, projection, remap, aggregate, Over, filter, other, Join, nested_loop, hash, Node, leaf, over, join}
use Rattle.sheet.specs.Cell.{Cell}
use Rattle.sheet.specs.Content.{Content, constant_cell, column_cell, unary_cell, binary_cell, label_cell, item_cell, key_cell, target_cell, agg_cell, row_cell, aggregate_cell, filter_cell, hash_join_cell, index_lookup_cell, key_lookup_cell, limit_cell, offset_cell, nested_loop_join_cell, nothing_cell, order_cell, projection_cell, remap_cell, scan_cell, values_cell}
use Rattle.sheet.specs.Cells.{all_cells, alone, expression_cells, constant_cells, label_cells, target_cells, item_cells, key_cells, agg_cells, row_cells, leaf_cells, other_cells, over_cells, join_cells, cells}
use Rattle.sheet.specs.Tree.{Tree, expression_tree, label_tree, item_tree, key_tree, target_tree, agg_tree, row_tree, node_tree, bind, Stack, reduce, stack, read}
use Rattle.sheet_laws.specs.Fits.{All, EachExpression, EachItem, EachKey, EachAgg, EachRow, EachLeaf, EachOver, EachJoin, Each, ExactCell, Exact}
use Rattle.sheet_laws.specs.Reading.{pushed, expression_sort, label_sort, item_sort, key_sort, target_sort, agg_sort, row_sort, constant_tree, constant_sort, Runs, at_end, on, Good}
use Rattle.sheet_laws.proofs.Reading.{children_pushed, runs_append, runs_read}
use Rattle.sheet_laws.specs.Exact.{faithful}

pub all_append : {A : Type 0} (P : A → Type 0) (xs ys : List A) → All P xs → All P ys → All P (xs ++ ys)
all_append P [] ys p q = q
all_append P (x ∷ xs) ys p q = (p.0, all_append P xs ys p.1 q)

module _ (text : List ℕ) (bytes tables : ℕ) (short : bytes < 65536) (few : tables < 65536) where
  -- Cells that pass their tests and take one stack to another.
  record Reads (cs : List Cell) (st last : Stack) : Type 0 where
    runs : Runs text cs st last
    good : All (Good bytes tables) cs

  abbrev P : Content → Type 0
  P k = ExactCell text bytes tables k

  then : {cs ds : List Cell} {st mid last : Stack} → Reads cs st mid → Reads ds mid last → Reads (cs ++ ds) st last
  then {cs} {ds} p q = record { runs = runs_append p.runs q.runs; good = all_append (Good bytes tables) cs ds p.good q.good }

  a_cell : (og : ℕ) (k : Content) {st last : Stack} → P k → reduce og k st ≡ some last → Reads (alone og k) st last
  a_cell og k {st} {last} x e =
      let f = faithful text bytes tables short few k x in
      let w = f.good.words in
      record {
        runs = on (ap (λ (o : Option Content). bind o (λ k. reduce og k st)) (f.is og) ∙ e) at_end;
        good = (record { words = record { a_word = w.a_word; b_word = w.b_word; c_word = w.c_word }; ok = f.good.ok }, tt);
      }

  a_row : {A : Type 0} (tree : A → Tree) (f : A → List Cell) (Q : A → Type 0) → ((x : A) → Q x → (st : Stack) → Reads (f x) st (tree x ∷ st))
      → (xs : List A) → All Q xs → (st : Stack) → Reads (all_cells f xs) st (pushed tree xs st)
  a_row tree f Q r [] q st = record { runs = at_end; good = tt }
  a_row tree f Q r (x ∷ xs) q st = then (r x q.0 st) (a_row tree f Q r xs q.1 (tree x ∷ st))

  expression_reads : (e : Expression) → EachExpression P e → (st : Stack) → Reads (expression_cells e) st (expression_tree e ∷ st)
  unfolding expression_cells reduce
  expression_reads (constant og v) x st = a_cell og (constant_cell v) x refl
  expression_reads (column og i) x st = a_cell og (column_cell i) x refl
  expression_reads (unary og o e) x st = then (expression_reads e x.0 st) (a_cell og (unary_cell o) x.1 refl)
  expression_reads (binary og o l r) x st =
      then (expression_reads l x.0 st) (then (expression_reads r x.1.0 (expression_tree l ∷ st)) (a_cell og (binary_cell o) x.1.1 refl))

  expressions_read : (es : List Expression) → All (EachExpression P) es → (st : Stack) → Reads (all_cells expression_cells es) st (pushed expression_tree es st)
  expressions_read = a_row expression_tree expression_cells (EachExpression P) expression_reads

  row_reads : (row : Marked (List Expression)) → EachRow P row → (st : Stack) → Reads (row_cells row) st (row_tree row ∷ st)
  unfolding reduce
  row_reads (es, og) x st = then (expressions_read es x.0 st) (a_cell og (row_cell (length es)) x.1 (children_pushed expression_sort es st _))

  leaf_reads : (og : ℕ) (l : Leaf) → EachLeaf P l → (st : Stack) → Reads (leaf_cells og l) st (node_tree (leaf og l) ∷ st)
  unfolding leaf_cells reduce
  leaf_reads og (scan t al none) x st = a_cell og (scan_cell false t al) x.1 refl
  leaf_reads og (scan t al (some e)) x st = then (expression_reads e x.0 st) (a_cell og (scan_cell true t al) x.1 refl)
  leaf_reads og (lookup by_key t al vs) x st =
      then (a_row constant_tree constant_cells (λ v. P (constant_cell v.0)) (λ v p u. a_cell v.1 (constant_cell v.0) p refl) vs x.0 st)
      (a_cell og (key_lookup_cell t al (length vs)) x.1 (children_pushed constant_sort vs st _))
  leaf_reads og (lookup (by_index i) t al vs) x st =
      then (a_row constant_tree constant_cells (λ v. P (constant_cell v.0)) (λ v p u. a_cell v.1 (constant_cell v.0) p refl) vs x.0 st)
      (a_cell og (index_lookup_cell t al i (length vs)) x.1 (children_pushed constant_sort vs st _))
  leaf_reads og (nothing ls) x st =
      then (a_row label_tree label_cells (λ l. P (label_cell l.0)) (λ l p u. a_cell l.1 (label_cell l.0) p refl) ls x.0 st)
      (a_cell og (nothing_cell (length ls)) x.1 (children_pushed label_sort ls st _))
  leaf_reads og (values rs) x st =
      then (a_row row_tree row_cells (EachRow P) row_reads rs x.0 st)
      (a_cell og (values_cell (length rs)) x.1 (children_pushed row_sort rs st _))

  over_reads : (og : ℕ) (o : Over) → EachOver P o → (s : Node) (st : Stack) → Reads (over_cells og o) (node_tree s ∷ st) (node_tree (over og o s) ∷ st)
  unfolding over_cells other_cells reduce
  over_reads og (filter e) x s st = then (expression_reads e x.0 (node_tree s ∷ st)) (a_cell og filter_cell x.1 refl)
  over_reads og (other (limit n)) x s st = a_cell og (limit_cell n) x refl
  over_reads og (other (offset n)) x s st = a_cell og (offset_cell n) x refl
  over_reads og (other (order ks)) x s st =
      then (a_row key_tree key_cells (EachKey P) (λ k p u. then (expression_reads k.0 p.0 u) (a_cell k.2 (key_cell k.1) p.1 refl)) ks x.0 (node_tree s ∷ st))
      (a_cell og (order_cell (length ks)) x.1 (children_pushed key_sort ks (node_tree s ∷ st) _))
  over_reads og (other (projection is)) x s st =
      then (a_row item_tree item_cells (EachItem P) (λ i p u. then (expression_reads i.0 p.0 u) (a_cell i.2 (item_cell i.1) p.1 refl)) is x.0 (node_tree s ∷ st))
      (a_cell og (projection_cell (length is)) x.1 (children_pushed item_sort is (node_tree s ∷ st) _))
  over_reads og (other (remap ts)) x s st =
      then (a_row target_tree target_cells (λ t. P (target_cell t.0)) (λ t p u. a_cell t.1 (target_cell t.0) p refl) ts x.0 (node_tree s ∷ st))
      (a_cell og (remap_cell (length ts)) x.1 (children_pushed target_sort ts (node_tree s ∷ st) _))
  over_reads og (other (aggregate es gs)) x s st =
      then (expressions_read es x.0 (node_tree s ∷ st))
      (then (a_row agg_tree agg_cells (EachAgg P) (λ g p u. then (expression_reads g.1 p.0 u) (a_cell g.2 (agg_cell g.0) p.1 refl)) gs x.1.0 (pushed expression_tree es (node_tree s ∷ st)))
      (a_cell og (aggregate_cell (length es) (length gs)) x.1.1
      (children_pushed agg_sort gs (pushed expression_tree es (node_tree s ∷ st)) _ ∙ children_pushed expression_sort es (node_tree s ∷ st) _)))

  join_reads : (og : ℕ) (outer : Bool) (j : Join) → EachJoin P outer j → (l r : Node) (st : Stack) → Reads (join_cells og outer j) (node_tree r ∷ node_tree l ∷ st) (node_tree (join og outer j l r) ∷ st)
  unfolding join_cells reduce
  join_reads og outer (nested_loop none) x l r st = a_cell og (nested_loop_join_cell false outer) x.1 refl
  join_reads og outer (nested_loop (some e)) x l r st =
      then (expression_reads e x.0 (node_tree r ∷ node_tree l ∷ st)) (a_cell og (nested_loop_join_cell true outer) x.1 refl)
  join_reads og outer (hash i j) x l r st = a_cell og (hash_join_cell outer i j) x refl

  node_reads : (n : Node) → Each P n → (st : Stack) → Reads (cells n) st (node_tree n ∷ st)
  unfolding cells
  node_reads (leaf og l) x st = leaf_reads og l x st
  node_reads (over og o s) x st = then (node_reads s x.0 st) (over_reads og o x.1 s st)
  node_reads (join og outer j l r) x st =
      then (node_reads l x.0 st) (then (node_reads r x.1.0 (node_tree l ∷ st)) (join_reads og outer j x.1.1 l r st))

-- The cells of an exact plan pass their tests.
pub cells_good : (text : List ℕ) (tables : ℕ) → length text < 65536 → tables < 65536 → (n : Node) → Exact text tables n
    → All (Good (length text) tables) (cells n)
cells_good text tables short few n x = (node_reads text (length text) tables short few n x []).good

-- They are read as that plan.
pub complete : (text : List ℕ) (tables : ℕ) → length text < 65536 → tables < 65536 → (n : Node) → Exact text tables n
    → (i : ℕ) → read text i (cells n) [] ≡ stack (node_tree n ∷ [])
complete text tables short few n x i = runs_read (node_reads text (length text) tables short few n x []).runs i

-- So two exact plans with the same cells are the same.
pub one_reading : (text : List ℕ) (tables : ℕ) → length text < 65536 → tables < 65536 → (n m : Node) → Exact text tables n → Exact text tables m
    → cells n ≡ cells m → n ≡ m
one_reading text tables short few n m x y e = only (sym (complete text tables short few n x 0) ∙ ap (λ (cs : List Cell). read text 0 cs []) e ∙ complete text tables short few m y 0)
  where
    only : stack (node_tree n ∷ []) ≡ stack (node_tree m ∷ []) → n ≡ m
    only h = cc
