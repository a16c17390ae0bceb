-- Sizes, widths and the checks of scope and of targets don't see references: neither those of a plan nor those of a schema.
use Rattle.std.specs.Prelude.{ℕ, zero, suc, ◌+◌, ◌≡◌, refl, Bool, true, false, ◌&&◌, List, [], ◌∷◌, map, ltb, eqb, length}
use Rattle.std.proofs.Common.{ap, ap₂, ◌∙◌}
use Rattle.std.proofs.Math.Option.{Option, none, some}
use Rattle.std.proofs.lemmas.List.{length-map}
use Rattle.sql.specs.Schema.{Table, Schema, table_of}
use Rattle.sql.specs.Expression.{Marked, Expression, constant, column, unary, binary, size}
use Rattle.sql.specs.Plan.{Label, by_key, by_index, Leaf, scan, lookup, nothing, values, Other, limit, offset, order, projection, remap, aggregate, Over, filter, other, Join, nested_loop, hash, Node, leaf, over, join, columns, leaf_columns, other_columns, values_columns, sum, optional_size, row_size, item_size, key_size, aggregate_size, leaf_size, over_size, join_size, node_size}
use Rattle.sql.specs.Answer.{Answer, done, refused}
use Rattle.sql.specs.Optimizer.{map_optional}
use Rattle.sheet.specs.Scope.{first_of, unless, in_each, column_outside, optional_outside, expressions_outside, equally_long, table_columns, leaf_outside, over_outside, join_outside, outside, over_repeated, target_repeated}
use Rattle.sheet.specs.Check.{unfound, in_scope}
use Rattle.compact.specs.References

in_each_unseen : {A : Type 0} (u : A → A) (f : ℕ → A → Option ℕ) (g : A → ℕ) → ((at : ℕ) (x : A) → f at (u x) ≡ f at x) → ((x : A) → g (u x) ≡ g x)
    → (at : ℕ) (xs : List A) → in_each f g at (map u xs) ≡ in_each f g at xs
in_each_unseen u f g k l at [] = refl
in_each_unseen u f g k l at (x ∷ xs) =
    ap₂ first_of (k at x) (ap (λ (n : ℕ). in_each f g (at + n) (map u xs)) (l x) ∙ in_each_unseen u f g k l (at + g x) xs)

sum_unseen : {A : Type 0} (u : A → A) (g : A → ℕ) → ((x : A) → g (u x) ≡ g x) → (xs : List A) → sum g (map u xs) ≡ sum g xs
sum_unseen u g k [] = refl
sum_unseen u g k (x ∷ xs) = ap₂ ◌+◌ (k x) (sum_unseen u g k xs)

-- a schema's tables have as many columns
table_unseen : (f : ℕ → ℕ) (tables : Schema) (t : ℕ) → length (table_of (References.map_schema f tables) t).columns ≡ length (table_of tables t).columns
table_unseen f [] t = refl
table_unseen f (x ∷ xs) zero = length-map x.columns (References.map_column f)
table_unseen f (x ∷ xs) (suc t) = table_unseen f xs t

module _ (f : ℕ → ℕ) where
  abbrev E : Expression → Expression
  E = References.map_expression f

  abbrev M : Node → Node
  M = References.map_node f

  -- ---- sizes

  pub size_unseen : (e : Expression) → size (E e) ≡ size e
  size_unseen (constant og v) = refl
  size_unseen (column og c) = refl
  size_unseen (unary og o x) = ap suc (size_unseen x)
  size_unseen (binary og o l r) = ap₂ (λ m n. suc (m + n)) (size_unseen l) (size_unseen r)

  optional_size_unseen : (p : Option Expression) → optional_size (map_optional E p) ≡ optional_size p
  optional_size_unseen none = refl
  optional_size_unseen (some e) = size_unseen e

  pub row_size_unseen : (row : Marked (List Expression)) → row_size (References.map_row f row) ≡ row_size row
  row_size_unseen row = ap suc (sum_unseen E size size_unseen row.0)

  pub item_size_unseen : (item : Expression × Label × ℕ) → item_size (References.map_item f item) ≡ item_size item
  item_size_unseen item = ap suc (size_unseen item.0)

  pub key_size_unseen : (key : Expression × Bool × ℕ) → key_size (References.map_key f key) ≡ key_size key
  key_size_unseen key = ap suc (size_unseen key.0)

  aggregate_size_unseen : (agg : ℕ × Expression × ℕ) → aggregate_size (References.map_agg f agg) ≡ aggregate_size agg
  aggregate_size_unseen agg = ap suc (size_unseen agg.1)

  leaf_size_unseen : (l : Leaf) → leaf_size (References.map_leaf f l) ≡ leaf_size l
  leaf_size_unseen (scan table alias predicate) = ap suc (optional_size_unseen predicate)
  leaf_size_unseen (lookup access table alias constants) = ap suc (length-map constants (References.map_constant f))
  leaf_size_unseen (nothing labels) = ap suc (length-map labels (References.map_marked_label f))
  leaf_size_unseen (values rows) = ap suc (sum_unseen (References.map_row f) row_size row_size_unseen rows)

  pub over_size_unseen : (o : Over) → over_size (References.map_over f o) ≡ over_size o
  over_size_unseen (filter predicate) = ap suc (size_unseen predicate)
  over_size_unseen (other (limit amount)) = refl
  over_size_unseen (other (offset amount)) = refl
  over_size_unseen (other (order key)) = ap suc (sum_unseen (References.map_key f) key_size key_size_unseen key)
  over_size_unseen (other (projection items)) = ap suc (sum_unseen (References.map_item f) item_size item_size_unseen items)
  over_size_unseen (other (remap targets)) = refl
  over_size_unseen (other (aggregate group_by aggregates)) =
      ap₂ (λ m n. suc (m + n)) (sum_unseen E size size_unseen group_by) (sum_unseen (References.map_agg f) aggregate_size aggregate_size_unseen aggregates)

  pub join_size_unseen : (j : Join) → join_size (References.map_join f j) ≡ join_size j
  join_size_unseen (nested_loop predicate) = ap suc (optional_size_unseen predicate)
  join_size_unseen (hash left_column right_column) = refl

  pub node_size_unseen : (n : Node) → node_size (M n) ≡ node_size n
  node_size_unseen (leaf og l) = leaf_size_unseen l
  node_size_unseen (over og o source) = ap₂ ◌+◌ (node_size_unseen source) (over_size_unseen o)
  node_size_unseen (join og outer j left right) =
      ap₂ ◌+◌ (ap₂ ◌+◌ (node_size_unseen left) (node_size_unseen right)) (join_size_unseen j)

  -- ---- columns

  values_columns_unseen : (rows : List (Marked (List Expression))) → values_columns (map (References.map_row f) rows) ≡ values_columns rows
  values_columns_unseen [] = refl
  values_columns_unseen (row ∷ rows) = length-map row.0 E

  other_columns_unseen : (o : Other) (n : ℕ) → other_columns (References.map_other f o) n ≡ other_columns o n
  other_columns_unseen (limit amount) n = refl
  other_columns_unseen (offset amount) n = refl
  other_columns_unseen (order key) n = refl
  other_columns_unseen (projection items) n = length-map items (References.map_item f)
  other_columns_unseen (remap targets) n = refl
  other_columns_unseen (aggregate group_by aggregates) n = ap₂ ◌+◌ (length-map aggregates (References.map_agg f)) (length-map group_by E)

  leaf_columns_unseen : (tables : Schema) (l : Leaf) → leaf_columns (References.map_schema f tables) (References.map_leaf f l) ≡ leaf_columns tables l
  leaf_columns_unseen tables (scan table alias predicate) = table_unseen f tables table
  leaf_columns_unseen tables (lookup access table alias constants) = table_unseen f tables table
  leaf_columns_unseen tables (nothing labels) = length-map labels (References.map_marked_label f)
  leaf_columns_unseen tables (values rows) = values_columns_unseen rows

  pub columns_unseen : (tables : Schema) (n : Node) → columns (References.map_schema f tables) (M n) ≡ columns tables n
  columns_unseen tables (leaf og l) = leaf_columns_unseen tables l
  columns_unseen tables (over og (filter predicate) source) = columns_unseen tables source
  columns_unseen tables (over og (other o) source) =
      ap (other_columns (References.map_other f o)) (columns_unseen tables source) ∙ other_columns_unseen o (columns tables source)
  columns_unseen tables (join og outer j left right) = ap₂ ◌+◌ (columns_unseen tables left) (columns_unseen tables right)

  -- ---- scope

  column_unseen : (n at : ℕ) (e : Expression) → column_outside n at (E e) ≡ column_outside n at e
  column_unseen n at (constant og v) = refl
  column_unseen n at (column og i) = refl
  column_unseen n at (unary og o x) = column_unseen n at x
  column_unseen n at (binary og o l r) =
      ap₂ first_of (column_unseen n at l) (ap (λ (k : ℕ). column_outside n (at + k) (E r)) (size_unseen l) ∙ column_unseen n (at + size l) r)

  optional_unseen : (n at : ℕ) (o : Option Expression) → optional_outside n at (map_optional E o) ≡ optional_outside n at o
  optional_unseen n at none = refl
  optional_unseen n at (some e) = column_unseen n at e

  expressions_unseen : (n at : ℕ) (es : List Expression) → expressions_outside n at (map E es) ≡ expressions_outside n at es
  expressions_unseen n = in_each_unseen E (column_outside n) size (column_unseen n) (size_unseen)

  equally_long_unseen : (n : ℕ) (rows : List (Marked (List Expression))) → equally_long n (map (References.map_row f) rows) ≡ equally_long n rows
  equally_long_unseen n [] = refl
  equally_long_unseen n (row ∷ rows) = ap₂ (λ (k : ℕ) (b : Bool). eqb k n && b) (length-map row.0 E) (equally_long_unseen n rows)

  module _ (tables : Schema) where
    abbrev renamed : Schema
    renamed = References.map_schema f tables

    leaf_unseen : (at : ℕ) (l : Leaf) → leaf_outside renamed at (References.map_leaf f l) ≡ leaf_outside tables at l
    leaf_unseen at (scan t al p) =
        ap (λ (n : ℕ). optional_outside n at (map_optional E p)) (table_unseen f tables t) ∙ optional_unseen (table_columns tables t) at p
    leaf_unseen at (lookup by_key t al vs) = refl
    leaf_unseen at (lookup (by_index i) t al vs) =
        ap₂ (λ (m n : ℕ). unless (ltb i m) (at + n)) (table_unseen f tables t) (length-map vs (References.map_constant f))
    leaf_unseen at (nothing ls) = refl
    leaf_unseen at (values rows) =
        ap₂ first_of
        (in_each_unseen (References.map_row f) (λ i (row : List Expression × ℕ). expressions_outside 0 i row.0) row_size (λ i row. expressions_unseen 0 i row.0) row_size_unseen at rows)
        (ap₂ (λ (b : Bool) (n : ℕ). unless b (at + n))
        (ap (λ (n : ℕ). equally_long n (map (References.map_row f) rows)) (values_columns_unseen rows) ∙ equally_long_unseen (values_columns rows) rows)
        (sum_unseen (References.map_row f) row_size row_size_unseen rows))

    over_unseen : (n at : ℕ) (o : Over) → over_outside renamed n at (References.map_over f o) ≡ over_outside tables n at o
    over_unseen n at (filter p) = column_unseen n at p
    over_unseen n at (other (limit amount)) = refl
    over_unseen n at (other (offset amount)) = refl
    over_unseen n at (other (order ks)) = in_each_unseen (References.map_key f) (λ i k. column_outside n i k.0) key_size (λ i k. column_unseen n i k.0) key_size_unseen at ks
    over_unseen n at (other (projection is)) = in_each_unseen (References.map_item f) (λ i e. column_outside n i e.0) item_size (λ i e. column_unseen n i e.0) item_size_unseen at is
    over_unseen n at (other (remap ts)) = refl
    over_unseen n at (other (aggregate es gs)) =
        ap₂ first_of (expressions_unseen n at es)
        (ap (λ (k : ℕ). in_each (λ i g. column_outside n i g.1) aggregate_size (at + k) (map (References.map_agg f) gs)) (sum_unseen E size size_unseen es)
        ∙ in_each_unseen (References.map_agg f) (λ i g. column_outside n i g.1) aggregate_size (λ i g. column_unseen n i g.1) aggregate_size_unseen (at + sum size es) gs)

    join_unseen : (left right at : ℕ) (j : Join) → join_outside renamed left right at (References.map_join f j) ≡ join_outside tables left right at j
    join_unseen left right at (nested_loop p) = optional_unseen (left + right) at p
    join_unseen left right at (hash i j) = refl

    outside_unseen : (at : ℕ) (n : Node) → outside renamed at (M n) ≡ outside tables at n
    outside_unseen at (leaf og l) = leaf_unseen at l
    outside_unseen at (over og o n) =
        ap₂ first_of (outside_unseen at n)
        (ap₂ (λ (c k : ℕ). over_outside renamed c (at + k) (References.map_over f o)) (columns_unseen tables n) (node_size_unseen n)
        ∙ over_unseen (columns tables n) (at + node_size n) o)
    outside_unseen at (join og outer j l r) =
        ap₂ first_of (outside_unseen at l)
        (ap₂ first_of (ap (λ (k : ℕ). outside renamed (at + k) (M r)) (node_size_unseen l) ∙ outside_unseen (at + node_size l) r)
        (ap₂ (λ (a b : ℕ). join_outside renamed a b (at + node_size (M l) + node_size (M r)) (References.map_join f j)) (columns_unseen tables l) (columns_unseen tables r)
        ∙ (ap₂ (λ (a b : ℕ). join_outside renamed (columns tables l) (columns tables r) (at + a + b) (References.map_join f j)) (node_size_unseen l) (node_size_unseen r)
        ∙ join_unseen (columns tables l) (columns tables r) (at + node_size l + node_size r) j)))

  over_repeated_unseen : (at : ℕ) (o : Over) → over_repeated at (References.map_over f o) ≡ over_repeated at o
  over_repeated_unseen at (filter p) = refl
  over_repeated_unseen at (other (limit amount)) = refl
  over_repeated_unseen at (other (offset amount)) = refl
  over_repeated_unseen at (other (order ks)) = refl
  over_repeated_unseen at (other (projection is)) = refl
  over_repeated_unseen at (other (remap ts)) = refl
  over_repeated_unseen at (other (aggregate es gs)) = refl

  target_unseen : (at : ℕ) (n : Node) → target_repeated at (M n) ≡ target_repeated at n
  target_unseen at (leaf og l) = refl
  target_unseen at (over og o n) =
      ap₂ first_of (target_unseen at n) (ap (λ (k : ℕ). over_repeated (at + k) (References.map_over f o)) (node_size_unseen n) ∙ over_repeated_unseen (at + node_size n) o)
  target_unseen at (join og outer j l r) =
      ap₂ first_of (target_unseen at l) (ap (λ (k : ℕ). target_repeated (at + k) (M r)) (node_size_unseen l) ∙ target_unseen (at + node_size l) r)

  -- A plan that is in scope stays so.
  pub in_scope_unseen : (tables : Schema) (n : Node) → outside tables 0 n ≡ none → outside (References.map_schema f tables) 0 (M n) ≡ none
  in_scope_unseen tables n h = outside_unseen tables 0 n ∙ h

  pub targets_unseen : (n : Node) → target_repeated 0 n ≡ none → target_repeated 0 (M n) ≡ none
  targets_unseen n h = target_unseen 0 n ∙ h
