-- The column numbers and counts of a plan that is in scope and has at most 2,048 cells fit their fields.
use Rattle.std.specs.Prelude.{ℕ, ◌+◌, ◌^◌, ◌≤◌, ◌≡◌, refl, Bool, true, false, ◌&&◌, List, [], ◌∷◌, ltb, length}
use Rattle.std.proofs.Common.{arith, ltb-true}
use Rattle.std.proofs.Math.Option.{Option, none, some}
use Rattle.value.specs.Value.{Value}
use Rattle.sql.specs.Schema.{Schema, table_of}
use Rattle.sql.specs.Expression.{Marked, Expression, constant, column, unary, binary, size}
use Rattle.sql.specs.Plan.{by_key, by_index, Leaf, scan, lookup, nothing, values, limit, offset, order, projection, remap, aggregate, Over, filter, other, Join, nested_loop, hash, Node, leaf, over, join, remap_columns, values_columns, columns, sum, row_size, item_size, key_size, aggregate_size, leaf_size, over_size, join_size, node_size}
use Rattle.sheet.specs.Content.{Content, constant_cell, label_cell, target_cell}
use Rattle.sheet.specs.Scope.{first_of, unless, in_each, column_outside, optional_outside, expressions_outside, leaf_outside, over_outside, join_outside, outside}
use Rattle.sheet_laws.specs.Fits.{All, Optional, EachExpression, EachItem, EachKey, EachAgg, EachRow, EachLeaf, EachOver, EachJoin, Each, ContentFits, ExactCell}
use Rattle.sheet_laws.specs.Content.{and_left, and_right}
use Rattle.sheet_laws.specs.Counts.{most_columns}

-- ---- nothing found

pub first_of_none : (x y : Option ℕ) → first_of x y ≡ none → (x ≡ none) × (y ≡ none)
first_of_none none y h = (refl, h)
first_of_none (some x) y h = let z : ◌≡◌ {A = ℕ} 0 1 = cc in absurd (omega arith)

pub unless_none : (b : Bool) (at : ℕ) → unless b at ≡ none → b ≡ true
unless_none true at h = refl
unless_none false at h = let z : ◌≡◌ {A = ℕ} 0 1 = cc in absurd (omega arith)

-- a row of parts in which nothing is found, of which each has at most 2,048 cells
in_each_none : {A : Type 0} (f : ℕ → A → Option ℕ) (cells : A → ℕ) (Q R : A → Type 0) → ((x : A) (at : ℕ) → Q x → f at x ≡ none → cells x ≤ 2048 → R x)
    → (xs : List A) (at : ℕ) → All Q xs → in_each f cells at xs ≡ none → sum cells xs ≤ 2048 → All R xs
in_each_none f cells Q R r [] at q h b = tt
in_each_none f cells Q R r (x ∷ xs) at q h b =
    let p = first_of_none (f at x) (in_each f cells (at + cells x) xs) h in
    (r x at q.0 p.0 (omega arith), in_each_none f cells Q R r xs (at + cells x) q.1 p.1 (omega arith))

pub all_map : {A : Type 0} (Q R : A → Type 0) → ((x : A) → Q x → R x) → (xs : List A) → All Q xs → All R xs
all_map Q R f [] q = tt
all_map Q R f (x ∷ xs) q = (f x q.0, all_map Q R f xs q.1)

-- ---- counts

pub size_positive : (e : Expression) → 1 ≤ size e
size_positive (constant og v) = omega arith
size_positive (column og i) = omega arith
size_positive (unary og o x) = omega arith
size_positive (binary og o l r) = omega arith

join_positive : (j : Join) → 1 ≤ join_size j
join_positive (nested_loop p) = omega arith
join_positive (hash l r) = omega arith

-- There are no more parts than they have cells.
pub count_bound : {A : Type 0} (g : A → ℕ) → ((x : A) → 1 ≤ g x) → (xs : List A) → length xs ≤ sum g xs
count_bound g p [] = omega arith
count_bound g p (x ∷ xs) = omega (arith, p x, count_bound g p xs)

pub values_bound : (rs : List (Marked (List Expression))) → values_columns rs ≤ sum row_size rs
values_bound [] = omega arith
values_bound (r ∷ rs) = omega (arith, count_bound size size_positive r.0)

module _ (schema : Schema) (narrow : (t : ℕ) → length (table_of schema t).columns ≤ 256) where
  module _ (text : List ℕ) (bytes tables : ℕ) where
    -- a content that fits, and one whose numbers do too
    abbrev F : Content → Type 0
    F = ContentFits text bytes tables

    abbrev X : Content → Type 0
    X = ExactCell text bytes tables

    targets_bound : (ts : List (Marked (Option ℕ))) → All (λ t. F (target_cell t.0)) ts → remap_columns ts ≤ 256
    targets_bound [] x = omega arith
    targets_bound ((none, og) ∷ ts) x = targets_bound ts x.1
    targets_bound ((some t, og) ∷ ts) x = omega (arith, x.0, targets_bound ts x.1)

    over_bound : (og : ℕ) (o : Over) (s : Node) → EachOver F o → columns schema s ≤ most_columns (node_size s)
        → columns schema (over og o s) ≤ most_columns (node_size (over og o s))
    over_bound og (filter e) s x h = omega arith
    over_bound og (other (limit n)) s x h = omega arith
    over_bound og (other (offset n)) s x h = omega arith
    over_bound og (other (order ks)) s x h = omega arith
    over_bound og (other (projection is)) s x h = omega (arith, count_bound item_size (λ i. omega arith) is)
    over_bound og (other (remap ts)) s x h = omega (arith, targets_bound ts x.0)
    over_bound og (other (aggregate es gs)) s x h =
        omega (arith, count_bound size size_positive es, count_bound aggregate_size (λ g. omega arith) gs)

    -- A plan has at most 256 columns for each two of its cells, if its tables have no more.
    pub columns_bound : (n : Node) → Each F n → columns schema n ≤ most_columns (node_size n)
    columns_bound (leaf og (scan t al p)) x = omega (arith, narrow t)
    columns_bound (leaf og (lookup a t al vs)) x = omega (arith, narrow t)
    columns_bound (leaf og (nothing ls)) x = omega arith
    columns_bound (leaf og (values rs)) x = omega (arith, values_bound rs)
    columns_bound (over og o s) x = over_bound og o s x.1 (columns_bound s x.0)
    columns_bound (join og outer j l r) x = omega (arith, columns_bound l x.0, columns_bound r x.1.0, join_positive j)

    -- ---- exact, in turn

    expression_exact : (w : ℕ) → w ≤ 2 ^ 32 → (e : Expression) (at : ℕ) → EachExpression F e → column_outside w at e ≡ none → EachExpression X e
    expression_exact w b (constant og v) at x h = (x, tt)
    expression_exact w b (column og i) at x h = (tt, omega (arith, ltb-true i w (unless_none (ltb i w) at h)))
    expression_exact w b (unary og o e) at x h = (expression_exact w b e at x.0 h, (tt, tt))
    expression_exact w b (binary og o l r) at x h =
        let p = first_of_none (column_outside w at l) (column_outside w (at + size l) r) h in
        (expression_exact w b l at x.0 p.0, (expression_exact w b r (at + size l) x.1.0 p.1, (tt, tt)))

    optional_exact : (w : ℕ) → w ≤ 2 ^ 32 → (e : Option Expression) (at : ℕ) → Optional (EachExpression F) e
        → optional_outside w at e ≡ none → Optional (EachExpression X) e
    optional_exact w b none at x h = tt
    optional_exact w b (some e) at x h = expression_exact w b e at x h

    expressions_exact : (w : ℕ) → w ≤ 2 ^ 32 → (es : List Expression) (at : ℕ) → All (EachExpression F) es
        → expressions_outside w at es ≡ none → sum size es ≤ 2048 → All (EachExpression X) es
    expressions_exact w b es at x h s =
        in_each_none (column_outside w) size (EachExpression F) (EachExpression X) (λ e i y g c. expression_exact w b e i y g) es at x h s

    abbrev row_outside : ℕ → Marked (List Expression) → Option ℕ
    row_outside i row = expressions_outside 0 i row.0

    row_exact : (es : Marked (List Expression)) (at : ℕ) → EachRow F es → expressions_outside 0 at es.0 ≡ none → row_size es ≤ 2048 → EachRow X es
    row_exact es at x h s =
        (expressions_exact 0 (omega arith) es.0 at x.0 h (omega arith), (tt, omega (arith, count_bound size size_positive es.0)))

    constants_exact : (vs : List (Marked Value)) → All (λ v. F (constant_cell v.0)) vs → All (λ v. X (constant_cell v.0)) vs
    constants_exact = all_map (λ v. F (constant_cell v.0)) (λ v. X (constant_cell v.0)) (λ v x. (x, tt))

    leaf_exact : (l : Leaf) (at : ℕ) → EachLeaf F l → leaf_outside schema at l ≡ none → leaf_size l ≤ 2048 → EachLeaf X l
    leaf_exact (scan t al p) at x h s = (optional_exact (length (table_of schema t).columns) (omega (arith, narrow t)) p at x.0 h, (x.1, tt))
    leaf_exact (lookup by_key t al vs) at x h s = (constants_exact vs x.0, (x.1, omega arith))
    leaf_exact (lookup (by_index i) t al vs) at x h s =
        let c = ltb-true i (length (table_of schema t).columns) (unless_none (ltb i (length (table_of schema t).columns)) (at + length vs) h) in
        (constants_exact vs x.0, (x.1, (omega (arith, narrow t), omega arith)))
    leaf_exact (nothing ls) at x h s =
        (all_map (λ l. F (label_cell l.0)) (λ l. X (label_cell l.0)) (λ l y. (y, tt)) ls x.0, (tt, omega arith))
    leaf_exact (values rs) at x h s =
        let p = first_of_none (in_each row_outside row_size at rs) _ h in (
          in_each_none row_outside row_size (EachRow F) (EachRow X) (λ r i. row_exact r i) rs at x.0 p.0 (omega arith),
          (tt, omega (arith, count_bound row_size (λ r. omega arith) rs)),
        )

    over_exact : (w : ℕ) → w ≤ 2 ^ 32 → (o : Over) (at : ℕ) → EachOver F o → over_outside schema w at o ≡ none → over_size o ≤ 2048 → EachOver X o
    over_exact w b (filter e) at x h s = (expression_exact w b e at x.0 h, (tt, tt))
    over_exact w b (other (limit n)) at x h s = (x, tt)
    over_exact w b (other (offset n)) at x h s = (x, tt)
    over_exact w b (other (order ks)) at x h s = (
      in_each_none (λ i k. column_outside w i k.0) key_size (EachKey F) (EachKey X) (λ k i y g c. (expression_exact w b k.0 i y.0 g, (tt, tt))) ks at x.0 h (omega arith),
      (tt, omega (arith, count_bound key_size (λ k. omega arith) ks)),
    )
    over_exact w b (other (projection is)) at x h s = (
      in_each_none (λ i e. column_outside w i e.0) item_size (EachItem F) (EachItem X) (λ e i y g c. (expression_exact w b e.0 i y.0 g, (y.1, tt))) is at x.0 h (omega arith),
      (tt, omega (arith, count_bound item_size (λ i. omega arith) is)),
    )
    over_exact w b (other (remap ts)) at x h s =
        (all_map (λ t. F (target_cell t.0)) (λ t. X (target_cell t.0)) (λ t y. (y, tt)) ts x.0, (tt, omega arith))
    over_exact w b (other (aggregate es gs)) at x h s =
        let p = first_of_none (expressions_outside w at es) _ h in (
          expressions_exact w b es at x.0 p.0 (omega arith),
          (
            in_each_none (λ i g. column_outside w i g.1) aggregate_size (EachAgg F) (EachAgg X) (λ g i y q c. (expression_exact w b g.1 i y.0 q, (y.1, tt))) gs (at + sum size es) x.1.0 p.1 (omega arith),
            (tt, (omega (arith, count_bound size size_positive es), omega (arith, count_bound aggregate_size (λ g. omega arith) gs))),
          ),
        )

    join_exact : (left right : ℕ) → left + right ≤ 2 ^ 32 → (outer : Bool) (j : Join) (at : ℕ) → EachJoin F outer j → join_outside schema left right at j ≡ none → EachJoin X outer j
    join_exact left right b outer (nested_loop p) at x h = (optional_exact (left + right) b p at x.0 h, (tt, tt))
    join_exact left right b outer (hash i j) at x h =
        let t = unless_none (ltb i left && ltb j right) at h in
        let p = ltb-true i left (and_left (ltb i left) (ltb j right) t) in
        let q = ltb-true j right (and_right (ltb i left) (ltb j right) t) in
        (tt, (omega arith, omega arith))

    -- A plan that fits, is in scope and has room is exact.
    pub exact : (n : Node) (at : ℕ) → Each F n → outside schema at n ≡ none → node_size n ≤ 2048 → Each X n
    exact (leaf og l) at x h s = leaf_exact l at x h s
    exact (over og o n) at x h s =
        let p = first_of_none (outside schema at n) _ h in (
          exact n at x.0 p.0 (omega arith),
          over_exact (columns schema n) (omega (arith, columns_bound n x.0)) o (at + node_size n) x.1 p.1 (omega arith),
        )
    exact (join og outer j l r) at x h s =
        let p = first_of_none (outside schema at l) _ h in
        let q = first_of_none (outside schema (at + node_size l) r) _ p.1 in (
          exact l at x.0 p.0 (omega arith),
          (
            exact r (at + node_size l) x.1.0 q.0 (omega arith),
            join_exact (columns schema l) (columns schema r) (omega (arith, columns_bound l x.0, columns_bound r x.1.0)) outer j (at + node_size l + node_size r) x.1.1 q.1,
          ),
        )
