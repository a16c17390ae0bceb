-- The checks of scope and of targets don't see origins.
use Rattle.std.specs.Prelude.{ℕ, suc, ◌+◌, ◌≡◌, refl, Bool, true, false, ◌&&◌, List, [], ◌∷◌, map, ltb, eqb}
use Rattle.std.proofs.Common.{ap, ap₂, ◌∙◌}
use Rattle.std.proofs.Math.Option.{Option, none, some}
use Rattle.std.proofs.lemmas.List.{length-map}
use Rattle.sql.specs.Schema.{Schema}
use Rattle.sql.specs.Expression.{Marked, Expression, constant, column, unary, binary, size}
use Rattle.sql.specs.Plan.{by_key, by_index, Leaf, scan, lookup, nothing, values, limit, offset, order, projection, remap, aggregate, Over, filter, other, Join, nested_loop, hash, Node, leaf, over, join, columns, values_columns, sum, row_size, item_size, key_size, aggregate_size, node_size}
use Rattle.sql.specs.Answer.{done}
use Rattle.sql.specs.Optimizer.{map_optional}
use Rattle.sheet.specs.Scope.{first_of, unless, in_each, column_outside, optional_outside, expressions_outside, equally_long, table_columns, leaf_outside, over_outside, join_outside, outside, member, repeated, over_repeated, target_repeated}
use Rattle.sheet.specs.Check.{unfound, in_scope}
use Rattle.origins.specs.Origins.{map_origins, map_mark, map_row, map_part, map_aggregate, map_leaf, map_over, map_join, map_node_origins, map_answer}
use Rattle.origins.proofs.Unseen.{size_unseen, row_size_unseen, item_size_unseen, key_size_unseen, node_size_unseen, columns_unseen}

in_each_unseen : {A : Type 0} (u : A → A) (f : ℕ → A → Option ℕ) (g : A → ℕ) → ((at : ℕ) (x : A) → f at (u x) ≡ f at x) → ((x : A) → g (u x) ≡ g x)
    → (at : ℕ) (xs : List A) → in_each f g at (map u xs) ≡ in_each f g at xs
in_each_unseen u f g k l at [] = refl
in_each_unseen u f g k l at (x ∷ xs) =
    ap₂ first_of (k at x) (ap (λ (n : ℕ). in_each f g (at + n) (map u xs)) (l x) ∙ in_each_unseen u f g k l (at + g x) xs)

sum_unseen : {A : Type 0} (u : A → A) (g : A → ℕ) → ((x : A) → g (u x) ≡ g x) → (xs : List A) → sum g (map u xs) ≡ sum g xs
sum_unseen u g k [] = refl
sum_unseen u g k (x ∷ xs) = ap₂ ◌+◌ (k x) (sum_unseen u g k xs)

module _ (h : ℕ → ℕ) where
  abbrev E : Expression → Expression
  E = map_origins h

  abbrev M : Node → Node
  M = map_node_origins h

  column_unseen : (n at : ℕ) (e : Expression) → column_outside n at (E e) ≡ column_outside n at e
  column_unseen n at (constant og v) = refl
  column_unseen n at (column og i) = refl
  column_unseen n at (unary og o x) = column_unseen n at x
  column_unseen n at (binary og o l r) =
      ap₂ first_of (column_unseen n at l) (ap (λ (k : ℕ). column_outside n (at + k) (E r)) (size_unseen h l) ∙ column_unseen n (at + size l) r)

  optional_unseen : (n at : ℕ) (o : Option Expression) → optional_outside n at (map_optional E o) ≡ optional_outside n at o
  optional_unseen n at none = refl
  optional_unseen n at (some e) = column_unseen n at e

  expressions_unseen : (n at : ℕ) (es : List Expression) → expressions_outside n at (map E es) ≡ expressions_outside n at es
  expressions_unseen n = in_each_unseen E (column_outside n) size (column_unseen n) (size_unseen h)

  equally_long_unseen : (n : ℕ) (rows : List (Marked (List Expression))) → equally_long n (map (map_row h) rows) ≡ equally_long n rows
  equally_long_unseen n [] = refl
  equally_long_unseen n (row ∷ rows) = ap₂ (λ (k : ℕ) (b : Bool). eqb k n && b) (length-map row.0 E) (equally_long_unseen n rows)

  values_columns_unseen : (rows : List (Marked (List Expression))) → values_columns (map (map_row h) rows) ≡ values_columns rows
  values_columns_unseen [] = refl
  values_columns_unseen (row ∷ rows) = length-map row.0 E

  aggregate_size_unseen : (g : ℕ × Expression × ℕ) → aggregate_size (map_aggregate h g) ≡ aggregate_size g
  aggregate_size_unseen g = ap suc (size_unseen h g.1)

  module _ (schema : Schema) where
    leaf_unseen : (at : ℕ) (l : Leaf) → leaf_outside schema at (map_leaf h l) ≡ leaf_outside schema at l
    leaf_unseen at (scan t al p) = optional_unseen (table_columns schema t) at p
    leaf_unseen at (lookup by_key t al vs) = refl
    leaf_unseen at (lookup (by_index i) t al vs) = ap (λ (n : ℕ). unless (ltb i (table_columns schema t)) (at + n)) (length-map vs (map_mark h))
    leaf_unseen at (nothing ls) = refl
    leaf_unseen at (values rows) =
        ap₂ first_of
        (in_each_unseen (map_row h) (λ i (row : List Expression × ℕ). expressions_outside 0 i row.0) row_size (λ i row. expressions_unseen 0 i row.0) (row_size_unseen h) at rows)
        (ap₂ (λ (b : Bool) (n : ℕ). unless b (at + n))
        (ap (λ (n : ℕ). equally_long n (map (map_row h) rows)) (values_columns_unseen rows) ∙ equally_long_unseen (values_columns rows) rows)
        (sum_unseen (map_row h) row_size (row_size_unseen h) rows))

    over_unseen : (n at : ℕ) (o : Over) → over_outside schema n at (map_over h o) ≡ over_outside schema n at o
    over_unseen n at (filter p) = column_unseen n at p
    over_unseen n at (other (limit amount)) = refl
    over_unseen n at (other (offset amount)) = refl
    over_unseen n at (other (order ks)) = in_each_unseen (map_part h) (λ i k. column_outside n i k.0) key_size (λ i k. column_unseen n i k.0) (key_size_unseen h) at ks
    over_unseen n at (other (projection is)) = in_each_unseen (map_part h) (λ i e. column_outside n i e.0) item_size (λ i e. column_unseen n i e.0) (item_size_unseen h) at is
    over_unseen n at (other (remap ts)) = ap (λ (k : ℕ). unless (eqb k n) (at + k)) (length-map ts (map_mark h))
    over_unseen n at (other (aggregate es gs)) =
        ap₂ first_of (expressions_unseen n at es)
        (ap (λ (k : ℕ). in_each (λ i g. column_outside n i g.1) aggregate_size (at + k) (map (map_aggregate h) gs)) (sum_unseen E size (size_unseen h) es)
        ∙ in_each_unseen (map_aggregate h) (λ i g. column_outside n i g.1) aggregate_size (λ i g. column_unseen n i g.1) aggregate_size_unseen (at + sum size es) gs)

    join_unseen : (left right at : ℕ) (j : Join) → join_outside schema left right at (map_join h j) ≡ join_outside schema left right at j
    join_unseen left right at (nested_loop p) = optional_unseen (left + right) at p
    join_unseen left right at (hash i j) = refl

    outside_unseen : (at : ℕ) (n : Node) → outside schema at (M n) ≡ outside schema at n
    outside_unseen at (leaf og l) = leaf_unseen at l
    outside_unseen at (over og o n) =
        ap₂ first_of (outside_unseen at n)
        (ap₂ (λ (c k : ℕ). over_outside schema c (at + k) (map_over h o)) (columns_unseen h schema n) (node_size_unseen h n)
        ∙ over_unseen (columns schema n) (at + node_size n) o)
    outside_unseen at (join og outer j l r) =
        ap₂ first_of (outside_unseen at l)
        (ap₂ first_of (ap (λ (k : ℕ). outside schema (at + k) (M r)) (node_size_unseen h l) ∙ outside_unseen (at + node_size l) r)
        (ap₂ (λ (a b : ℕ). join_outside schema a b (at + node_size (M l) + node_size (M r)) (map_join h j)) (columns_unseen h schema l) (columns_unseen h schema r)
        ∙ (ap₂ (λ (a b : ℕ). join_outside schema (columns schema l) (columns schema r) (at + a + b) (map_join h j)) (node_size_unseen h l) (node_size_unseen h r)
        ∙ join_unseen (columns schema l) (columns schema r) (at + node_size l + node_size r) j)))

  repeated_unseen : (before : List ℕ) (at : ℕ) (ts : List (Marked (Option ℕ))) → repeated before at (map (map_mark h) ts) ≡ repeated before at ts
  repeated_unseen before at [] = refl
  repeated_unseen before at ((none, og) ∷ ts) = repeated_unseen before (suc at) ts
  repeated_unseen before at ((some t, og) ∷ ts) =
      ap (λ (o : Option ℕ). elim (member t before) [ true ↦ some at | false ↦ o ]) (repeated_unseen (t ∷ before) (suc at) ts)

  over_repeated_unseen : (at : ℕ) (o : Over) → over_repeated at (map_over h o) ≡ over_repeated at o
  over_repeated_unseen at (filter p) = refl
  over_repeated_unseen at (other (limit amount)) = refl
  over_repeated_unseen at (other (offset amount)) = refl
  over_repeated_unseen at (other (order ks)) = refl
  over_repeated_unseen at (other (projection is)) = refl
  over_repeated_unseen at (other (remap ts)) = repeated_unseen [] at ts
  over_repeated_unseen at (other (aggregate es gs)) = refl

  target_unseen : (at : ℕ) (n : Node) → target_repeated at (M n) ≡ target_repeated at n
  target_unseen at (leaf og l) = refl
  target_unseen at (over og o n) =
      ap₂ first_of (target_unseen at n) (ap (λ (k : ℕ). over_repeated (at + k) (map_over h o)) (node_size_unseen h n) ∙ over_repeated_unseen (at + node_size n) o)
  target_unseen at (join og outer j l r) =
      ap₂ first_of (target_unseen at l) (ap (λ (k : ℕ). target_repeated (at + k) (M r)) (node_size_unseen h l) ∙ target_unseen (at + node_size l) r)

  pub in_scope_unseen : (schema : Schema) (n : Node) → in_scope schema (M n) ≡ map_answer M (in_scope schema n)
  in_scope_unseen schema n =
      ap₂ (λ (a b : Option ℕ). unfound a 9 (unfound b 10 (done (M n)))) (outside_unseen schema 0 n) (target_unseen 0 n) ∙ go (outside schema 0 n) (target_repeated 0 n)
    where
      go : (a b : Option ℕ) → unfound a 9 (unfound b 10 (done (M n))) ≡ map_answer M (unfound a 9 (unfound b 10 (done n)))
      go none none = refl
      go none (some p) = refl
      go (some p) b = refl
