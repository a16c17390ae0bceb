-- What doesn't see origins: values, columns, labels, lookups and sizes are the same after every map on origins.
use Rattle.std.specs.Prelude.{ℕ, zero, suc, ◌+◌, ◌-◌, max, Bool, true, false, ◌||◌, List, [], ◌∷◌, map, ◌≡◌, refl, eqb, ltb, length, get_or}
use Rattle.std.proofs.Math.Option.{Option, none, some}
use Rattle.std.proofs.Common.{ap, ap₂, ◌∙◌}
use Rattle.std.proofs.Math.Path.{fun_ext}
use Rattle.std.proofs.lemmas.List.{length-map}
use Rattle.value.specs.Value.{Value, Result}
use Rattle.sql.specs.Schema.{Schema}
use Rattle.sql.specs.Expression.{Marked, And, Or, Not, logical, Equal, function, IsNull, IsNaN, Identity, Negate, SquareRoot, Function1, Expression, constant, column, unary, binary, size, Row, bind, evaluate_unary, evaluate_binary, evaluate, contains_column, is_column, is_equal_lookup, is_function_lookup, same_column, is_column_lookup}
use Rattle.sql.specs.Plan.{Label, unlabelled, unqualified, qualified, Leaf, scan, lookup, nothing, values, Other, limit, offset, order, projection, remap, aggregate, Over, filter, other, Join, nested_loop, hash, Node, leaf, over, join, remap_columns, values_columns, other_columns, leaf_columns, columns, routed, group_label, item_label, items_label, remap_source, optional_label, other_label, up_to, leaf_label, column_label, column_labels, sum, optional_size, row_size, item_size, key_size, aggregate_size, leaf_size, over_size, join_size, node_size}
use Rattle.sql.specs.Optimizer.{map_optional, ordered, equijoin}
use Rattle.origins.specs.Origins.{map_origins, map_mark, map_row, map_part, map_aggregate, map_leaf, map_other, map_over, map_join, map_node_origins}

sum_unseen : {A : Type 0} (u : A → A) (f : A → ℕ) → ((x : A) → f (u x) ≡ f x) → (xs : List A) → sum f (map u xs) ≡ sum f xs
sum_unseen u f k [] = refl
sum_unseen u f k (x ∷ xs) = ap₂ ◌+◌ (k x) (sum_unseen u f k xs)

module _ (h : ℕ → ℕ) where
  -- ---- expressions

  pub size_unseen : (e : Expression) → size (map_origins h e) ≡ size e
  size_unseen (constant og v) = refl
  size_unseen (column og c) = refl
  size_unseen (unary og o x) = ap suc (size_unseen x)
  size_unseen (binary og o l r) = ap₂ (λ m n. suc (m + n)) (size_unseen l) (size_unseen r)

  pub evaluate_unseen : (row : Row) (e : Expression) → evaluate row (map_origins h e) ≡ evaluate row e
  evaluate_unseen row (constant og v) = refl
  evaluate_unseen row (column og c) = refl
  evaluate_unseen row (unary og o x) = ap (λ r. bind r (evaluate_unary o)) (evaluate_unseen row x)
  evaluate_unseen row (binary og o l r) =
      ap₂ (λ x y. bind x (λ v. bind y (evaluate_binary o v))) (evaluate_unseen row l) (evaluate_unseen row r)

  pub contains_unseen : (test : ℕ → Bool) (e : Expression) → contains_column test (map_origins h e) ≡ contains_column test e
  contains_unseen test (constant og v) = refl
  contains_unseen test (column og c) = refl
  contains_unseen test (unary og o x) = contains_unseen test x
  contains_unseen test (binary og o l r) = ap₂ ◌||◌ (contains_unseen test l) (contains_unseen test r)

  pub is_column_unseen : (e : Expression) → is_column (map_origins h e) ≡ is_column e
  is_column_unseen (constant og v) = refl
  is_column_unseen (column og c) = refl
  is_column_unseen (unary og o x) = refl
  is_column_unseen (binary og o l r) = refl

  equal_lookup_unseen : (l r : Expression) → is_equal_lookup (map_origins h l) (map_origins h r) ≡ is_equal_lookup l r
  equal_lookup_unseen (constant og v) r = is_column_unseen r
  equal_lookup_unseen (column og c) (constant og' v) = refl
  equal_lookup_unseen (column og c) (column og' d) = refl
  equal_lookup_unseen (column og c) (unary og' o x) = refl
  equal_lookup_unseen (column og c) (binary og' o x y) = refl
  equal_lookup_unseen (unary og o x) r = refl
  equal_lookup_unseen (binary og o x y) r = refl

  function_lookup_unseen : (f : Function1) (x : Expression) → is_function_lookup f (map_origins h x) ≡ is_function_lookup f x
  function_lookup_unseen IsNull x = is_column_unseen x
  function_lookup_unseen IsNaN x = is_column_unseen x
  function_lookup_unseen Identity x = refl
  function_lookup_unseen Negate x = refl
  function_lookup_unseen SquareRoot x = refl

  pub column_lookup_unseen : (e : Expression) → is_column_lookup (map_origins h e) ≡ is_column_lookup e
  column_lookup_unseen (constant og v) = refl
  column_lookup_unseen (column og c) = refl
  column_lookup_unseen (unary og Not x) = refl
  column_lookup_unseen (unary og (function f) x) = function_lookup_unseen f x
  column_lookup_unseen (binary og (logical And) l r) = refl
  column_lookup_unseen (binary og (logical Or) l r) = ap₂ same_column (column_lookup_unseen l) (column_lookup_unseen r)
  column_lookup_unseen (binary og Equal l r) = equal_lookup_unseen l r
  column_lookup_unseen (binary og (function f) l r) = refl

  pub equijoin_unseen : (e : Expression) → equijoin (map_origins h e) ≡ equijoin e
  equijoin_unseen (constant og v) = refl
  equijoin_unseen (column og c) = refl
  equijoin_unseen (unary og o x) = refl
  equijoin_unseen (binary og (logical o) l r) = refl
  equijoin_unseen (binary og Equal l r) = ap₂ ordered (is_column_unseen l) (is_column_unseen r)
  equijoin_unseen (binary og (function f) l r) = refl

  -- ---- sizes

  optional_size_unseen : (p : Option Expression) → optional_size (map_optional (map_origins h) p) ≡ optional_size p
  optional_size_unseen none = refl
  optional_size_unseen (some e) = size_unseen e

  pub row_size_unseen : (row : Marked (List Expression)) → row_size (map_row h row) ≡ row_size row
  row_size_unseen row = ap suc (sum_unseen (map_origins h) size size_unseen row.0)

  pub item_size_unseen : (item : Expression × Label × ℕ) → item_size (map_part h item) ≡ item_size item
  item_size_unseen item = ap suc (size_unseen item.0)

  pub key_size_unseen : (key : Expression × Bool × ℕ) → key_size (map_part h key) ≡ key_size key
  key_size_unseen key = ap suc (size_unseen key.0)

  aggregate_size_unseen : (agg : ℕ × Expression × ℕ) → aggregate_size (map_aggregate h agg) ≡ aggregate_size agg
  aggregate_size_unseen agg = ap suc (size_unseen agg.1)

  leaf_size_unseen : (l : Leaf) → leaf_size (map_leaf h l) ≡ leaf_size l
  leaf_size_unseen (scan table alias predicate) = ap suc (optional_size_unseen predicate)
  leaf_size_unseen (lookup access table alias constants) = ap suc (length-map constants (map_mark h))
  leaf_size_unseen (nothing labels) = ap suc (length-map labels (map_mark h))
  leaf_size_unseen (values rows) = ap suc (sum_unseen (map_row h) row_size row_size_unseen rows)

  pub over_size_unseen : (o : Over) → over_size (map_over h o) ≡ over_size o
  over_size_unseen (filter predicate) = ap suc (size_unseen predicate)
  over_size_unseen (other (limit amount)) = refl
  over_size_unseen (other (offset amount)) = refl
  over_size_unseen (other (order key)) = ap suc (sum_unseen (map_part h) key_size key_size_unseen key)
  over_size_unseen (other (projection items)) = ap suc (sum_unseen (map_part h) item_size item_size_unseen items)
  over_size_unseen (other (remap targets)) = ap suc (length-map targets (map_mark h))
  over_size_unseen (other (aggregate group_by aggregates)) =
      ap₂ (λ m n. suc (m + n)) (sum_unseen (map_origins h) size size_unseen group_by) (sum_unseen (map_aggregate h) aggregate_size aggregate_size_unseen aggregates)

  pub join_size_unseen : (j : Join) → join_size (map_join h j) ≡ join_size j
  join_size_unseen (nested_loop predicate) = ap suc (optional_size_unseen predicate)
  join_size_unseen (hash left_column right_column) = refl

  pub node_size_unseen : (n : Node) → node_size (map_node_origins h n) ≡ node_size n
  node_size_unseen (leaf og l) = leaf_size_unseen l
  node_size_unseen (over og o source) = ap₂ ◌+◌ (node_size_unseen source) (over_size_unseen o)
  node_size_unseen (join og outer j left right) =
      ap₂ ◌+◌ (ap₂ ◌+◌ (node_size_unseen left) (node_size_unseen right)) (join_size_unseen j)

  -- ---- columns

  remap_columns_unseen : (targets : List (Marked (Option ℕ))) → remap_columns (map (map_mark h) targets) ≡ remap_columns targets
  remap_columns_unseen [] = refl
  remap_columns_unseen ((none, og) ∷ targets) = remap_columns_unseen targets
  remap_columns_unseen ((some target, og) ∷ targets) = ap (max (suc target)) (remap_columns_unseen targets)

  values_columns_unseen : (rows : List (Marked (List Expression))) → values_columns (map (map_row h) rows) ≡ values_columns rows
  values_columns_unseen [] = refl
  values_columns_unseen (row ∷ rows) = length-map row.0 (map_origins h)

  other_columns_unseen : (o : Other) (n : ℕ) → other_columns (map_other h o) n ≡ other_columns o n
  other_columns_unseen (limit amount) n = refl
  other_columns_unseen (offset amount) n = refl
  other_columns_unseen (order key) n = refl
  other_columns_unseen (projection items) n = length-map items (map_part h)
  other_columns_unseen (remap targets) n = remap_columns_unseen targets
  other_columns_unseen (aggregate group_by aggregates) n = ap₂ ◌+◌ (length-map aggregates (map_aggregate h)) (length-map group_by (map_origins h))

  leaf_columns_unseen : (schema : Schema) (l : Leaf) → leaf_columns schema (map_leaf h l) ≡ leaf_columns schema l
  leaf_columns_unseen schema (scan table alias predicate) = refl
  leaf_columns_unseen schema (lookup access table alias constants) = refl
  leaf_columns_unseen schema (nothing labels) = length-map labels (map_mark h)
  leaf_columns_unseen schema (values rows) = values_columns_unseen rows

  pub columns_unseen : (schema : Schema) (n : Node) → columns schema (map_node_origins h n) ≡ columns schema n
  columns_unseen schema (leaf og l) = leaf_columns_unseen schema l
  columns_unseen schema (over og (filter predicate) source) = columns_unseen schema source
  columns_unseen schema (over og (other o) source) =
      ap (other_columns (map_other h o)) (columns_unseen schema source) ∙ other_columns_unseen o (columns schema source)
  columns_unseen schema (join og outer j left right) = ap₂ ◌+◌ (columns_unseen schema left) (columns_unseen schema right)

  -- ---- labels

  routed_unseen : (source : ℕ → Label) (e : Expression) → routed source (map_origins h e) ≡ routed source e
  routed_unseen source (constant og v) = refl
  routed_unseen source (column og c) = refl
  routed_unseen source (unary og o x) = refl
  routed_unseen source (binary og o l r) = refl

  group_label_unseen : (source : ℕ → Label) (es : List Expression) (i : ℕ) → group_label source (map (map_origins h) es) i ≡ group_label source es i
  group_label_unseen source [] i = refl
  group_label_unseen source (e ∷ es) zero = routed_unseen source e
  group_label_unseen source (e ∷ es) (suc i) = group_label_unseen source es i

  item_label_unseen : (source : ℕ → Label) (item : Expression × Label × ℕ) → item_label source (map_part h item) ≡ item_label source item
  item_label_unseen source (e, unlabelled, og) = routed_unseen source e
  item_label_unseen source (e, unqualified name, og) = refl
  item_label_unseen source (e, qualified table name, og) = refl

  items_label_unseen : (source : ℕ → Label) (items : List (Expression × Label × ℕ)) (i : ℕ) → items_label source (map (map_part h) items) i ≡ items_label source items i
  items_label_unseen source [] i = refl
  items_label_unseen source (item ∷ items) zero = item_label_unseen source item
  items_label_unseen source (item ∷ items) (suc i) = items_label_unseen source items i

  remap_source_unseen : (from : ℕ) (targets : List (Marked (Option ℕ))) (to : ℕ) → remap_source from (map (map_mark h) targets) to ≡ remap_source from targets to
  remap_source_unseen from [] to = refl
  remap_source_unseen from ((none, og) ∷ targets) to = remap_source_unseen (suc from) targets to
  remap_source_unseen from ((some target, og) ∷ targets) to =
      ap (λ z. elim (eqb target to) [ true ↦ some from | false ↦ z ]) (remap_source_unseen (suc from) targets to)

  other_label_unseen : (o : Other) (source : ℕ → Label) (i : ℕ) → other_label (map_other h o) source i ≡ other_label o source i
  other_label_unseen (limit amount) source i = refl
  other_label_unseen (offset amount) source i = refl
  other_label_unseen (order key) source i = refl
  other_label_unseen (projection items) source i = items_label_unseen source items i
  other_label_unseen (remap targets) source i = ap (optional_label source) (remap_source_unseen 0 targets i)
  other_label_unseen (aggregate group_by aggregates) source i = group_label_unseen source group_by i

  nothing_label_unseen : (labels : List (Marked Label)) (i : ℕ) → (get_or (map (map_mark h) labels) i (unlabelled, 0)).0 ≡ (get_or labels i (unlabelled, 0)).0
  nothing_label_unseen [] i = refl
  nothing_label_unseen (l ∷ labels) zero = refl
  nothing_label_unseen (l ∷ labels) (suc i) = nothing_label_unseen labels i

  leaf_label_unseen : (schema : Schema) (l : Leaf) (i : ℕ) → leaf_label schema (map_leaf h l) i ≡ leaf_label schema l i
  leaf_label_unseen schema (scan table alias predicate) i = refl
  leaf_label_unseen schema (lookup access table alias constants) i = refl
  leaf_label_unseen schema (nothing labels) i = nothing_label_unseen labels i
  leaf_label_unseen schema (values rows) i = refl

  column_label_unseen : (schema : Schema) (n : Node) (i : ℕ) → column_label schema (map_node_origins h n) i ≡ column_label schema n i
  column_label_unseen schema (leaf og l) i = leaf_label_unseen schema l i
  column_label_unseen schema (over og (filter predicate) source) i = column_label_unseen schema source i
  column_label_unseen schema (over og (other o) source) i =
      ap (λ f. other_label (map_other h o) f i) (fun_ext (λ k. column_label_unseen schema source k)) ∙ other_label_unseen o (column_label schema source) i
  column_label_unseen schema (join og outer j left right) i =
      ap₂ (λ f g. beside f g (columns schema (map_node_origins h left))) (fun_ext (λ k. column_label_unseen schema left k)) (fun_ext (λ k. column_label_unseen schema right k))
      ∙ ap (beside (column_label schema left) (column_label schema right)) (columns_unseen schema left)
    where
      beside : (ℕ → Label) → (ℕ → Label) → ℕ → Label
      beside f g n = elim (ltb i n) [ true ↦ f i | false ↦ g (i - n) ]

  pub column_labels_unseen : (schema : Schema) (n : Node) → column_labels schema (map_node_origins h n) ≡ column_labels schema n
  column_labels_unseen schema n =
      ap₂ (λ f m. map f (up_to 0 m)) (fun_ext (λ k. column_label_unseen schema n k)) (columns_unseen schema n)
