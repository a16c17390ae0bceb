-- Each node of a plan, told by its own cells: what is out of scope in it, its column count and its size.
use Prim.Native.Nat.{ℕ, suc, ◌+◌, ◌*◌, ◌%◌, ◌<◌}
use native.Mathlib.Omega.{arith}
use native.Mathlib.Nat.{add-zero, add_comm}
use mathlib.Core.Path.{◌≡◌, refl, sym, ap, ◌∙◌}
use mathlib.Core.Bool.{Bool, true, false}
use mathlib.Core.List.{List, [], ◌∷◌, ◌++◌, append_assoc}
use mathlib.Core.Option.{Option, none, some}
use lib.Dec.{eqb, ltb}
use lib.ListN.{length, length-append}
use Rattle.value.specs.Value.{Value}
use Rattle.sql.specs.Schema.{Schema}
use Rattle.sql.specs.Expression.{Marked, Expression, size}
use Rattle.sql.specs.Plan.{Label, by_key, by_index, Leaf, scan, lookup, nothing, values, limit, offset, order, projection, remap, aggregate, Over, filter, other, Join, nested_loop, hash, leaf_columns, other_columns, leaf_size, over_size, join_size, optional_size, row_size, sum}
use Rattle.sheet.specs.Cell.{Cell}
use Rattle.sheet.specs.Content.{cell_of, item_cell, key_cell, agg_cell, label_cell, constant_cell, marked}
use Rattle.sheet.specs.Cells.{all_cells, expression_cells, optional_cells, constant_cells, label_cells, target_cells, item_cells, key_cells, agg_cells, row_cells, leaf_cells, other_cells, over_cells, join_cells}
use Rattle.sheet.specs.Scope.{first_of, unless, in_each, column_outside, optional_outside, expressions_outside, table_columns, leaf_outside, over_outside, join_outside}
use Rattle.node_scope.specs.Own.{is_node, sources, column_out, columns_read, node_outside, node_columns}
use Rattle.scope.proofs.Own.{Each, end, next, each_append, each_all, each_map, Inner, Quiet, quiet, first_of_none, column_out_append, column_out_expression, column_out_each, expression_inner, expression_length, length_each, part_length, part_inner, part_column, row_length, row_column, constant_quiet, labelled_quiet, first_row_values, rows_have_values, targets_end_is, targets_length}

pub record Plain (k : Cell) : Type 0 where
  pub plain : is_node k.tag ≡ false

plain_inner : {ks : List Cell} → Each Inner ks → Each Plain ks
plain_inner e = each_map (λ k i. record { plain = i.node }) e

-- A node whose cells, without its sources', are `ks`, and without its own cell `own`: it has `count` sources, with `left` and `right` columns, reads n
-- columns, finds `out` out of scope, has `width` columns and `size` cells.
pub record Told (schema : Schema) (left right n at : ℕ) (own ks : List Cell) (out : Option ℕ) (width size count : ℕ) : Type 0 where
  pub last : Cell
  pub cells_are : ks ≡ own ++ (last ∷ [])
  pub plain : Each Plain own
  pub node : is_node last.tag ≡ true
  pub sources_are : sources last.tag ≡ count
  pub reads : columns_read schema left right last ≡ n
  pub place : node_outside left right n at own last ≡ out
  pub width_is : node_columns n own last ≡ width
  pub size_is : length own + 1 ≡ size

-- ---- own cells without a Column

record NoColumn (k : Cell) : Type 0 where
  plain : is_node k.tag ≡ false
  column : eqb k.tag 6 ≡ false

no_column : (n at : ℕ) {ks : List Cell} → Each NoColumn ks → column_out n at ks ≡ none
no_column n at end = refl
no_column n at (next p ps) = rw p.column (no_column n (suc at) ps)

quiet_column : {k : Cell} → Quiet k → Each NoColumn (k ∷ [])
quiet_column q = next (record { plain = q.inner.node; column = q.column }) end

plain_column : {ks : List Cell} → Each NoColumn ks → Each Plain ks
plain_column e = each_map (λ k i. record { plain = i.plain }) e

target_column : (t : Marked (Option ℕ)) → Each NoColumn (target_cells t)
target_column (none, og) = next (record { plain = refl; column = refl }) end
target_column (some i, og) = next (record { plain = refl; column = refl }) end

constants_column : (vs : List (Marked Value)) → Each NoColumn (all_cells constant_cells vs)
constants_column vs = each_all constant_cells (λ v. quiet_column (constant_quiet v.1 v.0)) vs

labels_column : (ls : List (Marked Label)) → Each NoColumn (all_cells label_cells ls)
labels_column ls = each_all label_cells (λ l. quiet_column (labelled_quiet l.1 40 l.0 refl)) ls

single_length : {A : Type 0} (f : A → Cell) (xs : List A) → length (all_cells (λ x. f x ∷ []) xs) ≡ length xs
single_length f [] = refl
single_length f (x ∷ xs) = ap suc (single_length f xs)

-- ---- parts of one expression each

module _ {A : Type 0} (e : A → Expression) (k : A → Cell) (q : (x : A) → Quiet (k x)) where
  abbrev part : A → List Cell
  part x = expression_cells (e x) ++ (k x ∷ [])

  pub parts_inner : (xs : List A) → Each Inner (all_cells part xs)
  parts_inner xs = each_all part (λ x. part_inner (e x) (q x)) xs

  parts_column : (n at : ℕ) (xs : List A) → column_out n at (all_cells part xs) ≡ in_each (λ i x. column_outside n i (e x)) (λ x. suc (size (e x))) at xs
  parts_column n at xs = column_out_each n part (λ i x. column_outside n i (e x)) (λ x. suc (size (e x))) (λ i x. part_column (e x) (q x) n i) (λ x. part_length (e x) (q x)) at xs

  parts_length : (xs : List A) → length (all_cells part xs) ≡ sum (λ x. suc (size (e x))) xs
  parts_length xs = length_each part (λ x. suc (size (e x))) (λ x. part_length (e x) (q x)) xs

key_quiet : (x : Expression × Bool × ℕ) → Quiet (marked x.2 (cell_of (key_cell x.1)))
key_quiet x = quiet _ refl

item_quiet : (x : Expression × Label × ℕ) → Quiet (marked x.2 (cell_of (item_cell x.1)))
item_quiet x = labelled_quiet x.2 41 x.1 refl

agg_quiet : (x : ℕ × Expression × ℕ) → Quiet (marked x.2 (cell_of (agg_cell x.0)))
agg_quiet x = quiet _ refl

pub keys_inner : (ks : List (Expression × Bool × ℕ)) → Each Inner (all_cells key_cells ks)
keys_inner ks = parts_inner (λ x. x.0) (λ x. marked x.2 (cell_of (key_cell x.1))) key_quiet ks

pub items_inner : (is : List (Expression × Label × ℕ)) → Each Inner (all_cells item_cells is)
items_inner is = parts_inner (λ x. x.0) (λ x. marked x.2 (cell_of (item_cell x.1))) item_quiet is

pub aggs_inner : (gs : List (ℕ × Expression × ℕ)) → Each Inner (all_cells agg_cells gs)
aggs_inner gs = parts_inner (λ x. x.1) (λ x. marked x.2 (cell_of (agg_cell x.0))) agg_quiet gs

pub expressions_inner : (es : List Expression) → Each Inner (all_cells expression_cells es)
expressions_inner es = each_all expression_cells expression_inner es

pub constants_inner : (vs : List (Marked Value)) → Each Inner (all_cells constant_cells vs)
constants_inner vs = each_all constant_cells (λ v. next (constant_quiet v.1 v.0).inner end) vs

pub labels_inner : (ls : List (Marked Label)) → Each Inner (all_cells label_cells ls)
labels_inner ls = each_all label_cells (λ l. next (labelled_quiet l.1 40 l.0 refl).inner end) ls

-- ---- an expression that there may be

pub optional_inner : (f : Option Expression) → Each Inner (optional_cells f)
optional_inner none = end
optional_inner (some e) = expression_inner e

optional_length : (f : Option Expression) → length (optional_cells f) ≡ optional_size f
optional_length none = refl
optional_length (some e) = expression_length e

optional_column : (n at : ℕ) (f : Option Expression) → column_out n at (optional_cells f) ≡ optional_outside n at f
optional_column n at none = refl
optional_column n at (some e) = column_out_expression n at e

row_plain : (es : Marked (List Expression)) → Each Plain (row_cells es)
row_plain es = each_append (plain_inner (expressions_inner es.0)) (next (record { plain = refl }) end)

abbrev pub over_columns : Over → ℕ → ℕ
over_columns (filter e) n = n
over_columns (other o) n = other_columns o n

-- own cells
abbrev pub over_own : Over → List Cell
over_own (filter e) = expression_cells e
over_own (other (limit m)) = []
over_own (other (offset m)) = []
over_own (other (order ks)) = all_cells key_cells ks
over_own (other (projection is)) = all_cells item_cells is
over_own (other (remap ts)) = all_cells target_cells ts
over_own (other (aggregate es gs)) = all_cells expression_cells es ++ all_cells agg_cells gs

abbrev pub join_own : Join → List Cell
join_own (nested_loop p) = optional_cells p
join_own (hash i j) = []

abbrev pub leaf_own : Leaf → List Cell
leaf_own (scan t al f) = optional_cells f
leaf_own (lookup a t al vs) = all_cells constant_cells vs
leaf_own (nothing ls) = all_cells label_cells ls
leaf_own (values rs) = all_cells row_cells rs

-- An IndexLookup's column has two bytes.
abbrev pub Indexed : Leaf → Type 0
Indexed (scan t al f) = Unit
Indexed (lookup by_key t al vs) = Unit
Indexed (lookup (by_index i) t al vs) = i < 65536
Indexed (nothing ls) = Unit
Indexed (values rs) = Unit

index_of : (i n : ℕ) → i < 65536 → (i + 65536 * n) % 65536 ≡ i
index_of i n h = omega arith

module _ (schema : Schema) where
  -- ---- nodes over a source with n columns

  pub over_told : (n at og : ℕ) (o : Over) → Told schema n 0 n at (over_own o) (over_cells og o) (over_outside schema n at o) (over_columns o n) (over_size o) 1
  unfolding over_cells other_cells sources
  over_told n at og (filter e) =
      record {
        last = _;
        cells_are = refl;
        plain = plain_inner (expression_inner e);
        node = refl;
        sources_are = refl;
        reads = add-zero n;
        place = first_of_none _ ∙ column_out_expression n at e;
        width_is = refl;
        size_is = omega (arith, expression_length e);
      }
  over_told n at og (other (limit m)) =
      record { last = _; cells_are = refl; plain = end; node = refl; sources_are = refl; reads = add-zero n; place = refl; width_is = refl; size_is = refl }
  over_told n at og (other (offset m)) =
      record { last = _; cells_are = refl; plain = end; node = refl; sources_are = refl; reads = add-zero n; place = refl; width_is = refl; size_is = refl }
  over_told n at og (other (order ks)) =
      record {
        last = _;
        cells_are = refl;
        plain = plain_inner (keys_inner ks);
        node = refl;
        sources_are = refl;
        reads = add-zero n;
        place = first_of_none _ ∙ parts_column (λ x. x.0) (λ x. marked x.2 (cell_of (key_cell x.1))) key_quiet n at ks;
        width_is = refl;
        size_is = omega (arith, parts_length (λ x. x.0) (λ x. marked x.2 (cell_of (key_cell x.1))) key_quiet ks);
      }
  over_told n at og (other (projection is)) =
      record {
        last = _;
        cells_are = refl;
        plain = plain_inner (items_inner is);
        node = refl;
        sources_are = refl;
        reads = add-zero n;
        place = first_of_none _ ∙ parts_column (λ x. x.0) (λ x. marked x.2 (cell_of (item_cell x.1))) item_quiet n at is;
        width_is = refl;
        size_is = omega (arith, parts_length (λ x. x.0) (λ x. marked x.2 (cell_of (item_cell x.1))) item_quiet is);
      }
  over_told n at og (other (remap ts)) =
      let c = each_all target_cells target_column ts in
      record {
        last = _;
        cells_are = refl;
        plain = plain_column c;
        node = refl;
        sources_are = refl;
        reads = add-zero n;
        place = rw (no_column n at c, targets_length ts) refl;
        width_is = targets_end_is ts;
        size_is = omega (arith, targets_length ts);
      }
  over_told n at og (other (aggregate es gs)) =
      record {
        last = _;
        cells_are = sym (append_assoc (all_cells expression_cells es) (all_cells agg_cells gs) _);
        plain = each_append (plain_inner (expressions_inner es)) (plain_inner (aggs_inner gs));
        node = refl;
        sources_are = refl;
        reads = add-zero n;
        place =
            first_of_none _
            ∙ column_out_append n at (all_cells expression_cells es) (all_cells agg_cells gs)
            ∙ rw (column_out_each n expression_cells (column_outside n) size (column_out_expression n) expression_length at es, length_each expression_cells size expression_length es)
            (ap (first_of (expressions_outside n at es)) (parts_column (λ x. x.1) (λ x. marked x.2 (cell_of (agg_cell x.0))) agg_quiet n (at + sum size es) gs));
        width_is = add_comm (length es) (length gs);
        size_is =
            simp length-append
            (omega (arith, length_each expression_cells size expression_length es, parts_length (λ x. x.1) (λ x. marked x.2 (cell_of (agg_cell x.0))) agg_quiet gs));
      }

  -- ---- joins of sources with so many columns

  pub join_told : (left right at og : ℕ) (outer : Bool) (j : Join)
      → Told schema left right (left + right) at (join_own j) (join_cells og outer j) (join_outside schema left right at j) (left + right) (join_size j) 2
  unfolding join_cells sources
  join_told left right at og outer (nested_loop p) =
      record {
        last = _;
        cells_are = refl;
        plain = plain_inner (optional_inner p);
        node = refl;
        sources_are = refl;
        reads = refl;
        place = first_of_none _ ∙ optional_column (left + right) at p;
        width_is = refl;
        size_is = omega (arith, optional_length p);
      }
  join_told left right at og outer (hash i j) =
      record {
        last = _;
        cells_are = refl;
        plain = end;
        node = refl;
        sources_are = refl;
        reads = refl;
        place = rw add-zero refl;
        width_is = refl;
        size_is = refl;
      }

  -- ---- leaves

  scan_told : (at og t : ℕ) (f : Option Expression) (flag b : ℕ)
      → Told schema 0 0 (table_columns schema t) at (optional_cells f) (optional_cells f ++ (record { tag = 62; flag = flag; origin = og; a = t; b = b; c = 0 } ∷ [])) (optional_outside (table_columns schema t) at f) (table_columns schema t) (suc (optional_size f)) 0
  unfolding sources
  scan_told at og t f flag b =
      record {
        last = _;
        cells_are = refl;
        plain = plain_inner (optional_inner f);
        node = refl;
        sources_are = refl;
        reads = refl;
        place = first_of_none _ ∙ optional_column (table_columns schema t) at f;
        width_is = refl;
        size_is = omega (arith, optional_length f);
      }

  lookup_told : (at og t : ℕ) (vs : List (Marked Value)) (flag b c : ℕ)
      → Told schema 0 0 (table_columns schema t) at (all_cells constant_cells vs) (all_cells constant_cells vs ++ (record { tag = 54; flag = flag; origin = og; a = t; b = b; c = c } ∷ [])) none (table_columns schema t) (suc (length vs)) 0
  unfolding sources
  lookup_told at og t vs flag b c =
      record {
        last = _;
        cells_are = refl;
        plain = plain_column (constants_column vs);
        node = refl;
        sources_are = refl;
        reads = refl;
        place = rw (no_column (table_columns schema t) at (constants_column vs)) refl;
        width_is = refl;
        size_is = omega (arith, single_length (λ v. marked v.1 (cell_of (constant_cell v.0))) vs);
      }

  index_told : (at og t : ℕ) (vs : List (Marked Value)) (flag b i : ℕ)
      → i < 65536
      → Told schema 0 0 (table_columns schema t) at (all_cells constant_cells vs) (all_cells constant_cells vs ++ (record { tag = 53; flag = flag; origin = og; a = t; b = b; c = i + 65536 * length vs } ∷ [])) (unless (ltb i (table_columns schema t)) (at + length vs)) (table_columns schema t) (suc (length vs)) 0
  unfolding sources
  index_told at og t vs flag b i h =
      record {
        last = _;
        cells_are = refl;
        plain = plain_column (constants_column vs);
        node = refl;
        sources_are = refl;
        reads = refl;
        place = rw (no_column (table_columns schema t) at (constants_column vs), index_of i (length vs) h, single_length (λ v. marked v.1 (cell_of (constant_cell v.0))) vs) refl;
        width_is = refl;
        size_is = omega (arith, single_length (λ v. marked v.1 (cell_of (constant_cell v.0))) vs);
      }

  -- the number of columns that a leaf reads
  abbrev pub leaf_reads : Leaf → ℕ
  leaf_reads (scan t al f) = table_columns schema t
  leaf_reads (lookup a t al vs) = table_columns schema t
  leaf_reads (nothing ls) = 0
  leaf_reads (values rs) = 0

  pub leaf_told : (at og : ℕ) (l : Leaf) → Indexed l → Told schema 0 0 (leaf_reads l) at (leaf_own l) (leaf_cells og l) (leaf_outside schema at l) (leaf_columns schema l) (leaf_size l) 0
  unfolding leaf_cells sources
  leaf_told at og (scan t none f) h = scan_told at og t f _ _
  leaf_told at og (scan t (some r) f) h = scan_told at og t f _ _
  leaf_told at og (lookup by_key t none vs) h = lookup_told at og t vs _ _ _
  leaf_told at og (lookup by_key t (some r) vs) h = lookup_told at og t vs _ _ _
  leaf_told at og (lookup (by_index i) t none vs) h = index_told at og t vs _ _ i h
  leaf_told at og (lookup (by_index i) t (some r) vs) h = index_told at og t vs _ _ i h
  leaf_told at og (nothing ls) h =
      record {
        last = _;
        cells_are = refl;
        plain = plain_column (labels_column ls);
        node = refl;
        sources_are = refl;
        reads = refl;
        place = rw (no_column 0 at (labels_column ls)) refl;
        width_is = refl;
        size_is = omega (arith, single_length (λ l. marked l.1 (cell_of (label_cell l.0))) ls);
      }
  leaf_told at og (values rs) h =
      record {
        last = _;
        cells_are = refl;
        plain = each_all row_cells row_plain rs;
        node = refl;
        sources_are = refl;
        reads = refl;
        place = rw (column_out_each 0 row_cells (λ i (row : Marked (List Expression)). expressions_outside 0 i row.0) row_size (row_column 0) row_length at rs, first_row_values rs, rows_have_values, length_each row_cells row_size row_length rs) refl;
        width_is = first_row_values rs;
        size_is = omega (arith, length_each row_cells row_size row_length rs);
      }
