-- The proof of Origins.antt: each part of a reading is the same after every map on origins.
use Prim.Native.Nat.{ℕ, suc}
use mathlib.Core.Bool.{true, false, not, ◌&&◌, ◌||◌}
use mathlib.Core.List.{List, [], ◌∷◌, ◌++◌, map, map-map}
use mathlib.Core.Option.{Option, none, some}
use mathlib.Core.Path.{◌≡◌, refl, ap, ap₂, fun_ext, ◌∙◌}
use lib.Dec.{eqb}
use lib.ListN.{get_or}
use Rattle.value.specs.Value.{null, Result, ok}
use Rattle.sql.specs.Expression.{Marked, Binary, logical, Equal, function, Expression, constant, column, unary, binary, Row, bind, evaluate}
use Rattle.sql.specs.Plan.{Leaf, scan, lookup, nothing, values, limit, offset, order, projection, remap, aggregate, Over, filter, other, Join, nested_loop, hash, Node, leaf, over, join, columns, values_columns, remap_source, up_to}
use Rattle.sql.specs.Optimizer.{map_optional, keep, flat_map}
use Rattle.sql.specs.Room.{max_cells}
use Rattle.origins.specs.Origins.{map_origins, map_mark, map_row, map_part, map_aggregate, map_leaf, map_over, map_join, map_node_origins, map_answer}
use Rattle.origins.proofs.Unseen.{evaluate_unseen, is_column_unseen, columns_unseen}
use Rattle.origins.proofs.Proved.{passes_commute}
use Rattle.rows.specs.Database.{unmarked, unmarked_aggregate, Database}
use Rattle.rows.specs.Reading.{each, keep_each, kept, holds, optional_holds, join_holds, joined_rows, read_join, takes, looked_up, lookup_column, evaluate_all, fit, values_row, pick_all, optional_value, remap_row, expressions, read_leaf, read_over, read}
use Rattle.rows.specs.Equalities.{Compared, of_columns, of_binary, of_expression, of_optional, of_join, of_list, of_over, in_rows, of_leaf, equalities, of_one_kind, all}
use Rattle.rows.specs.Premises.{no_outer}
use Rattle.theorems.specs.Origins.{OriginsAreNoRows, PremisesWithoutOrigins}

-- ---- lists

module _ {A B : Type 0} (u : A → A) where
  each_unseen : (f g : A → Result B) → ((x : A) → f (u x) ≡ g x) → (xs : List A) → each f (map u xs) ≡ each g xs
  each_unseen f g k [] = refl
  each_unseen f g k (x ∷ xs) = ap₂ (λ r rs. bind r (λ y. bind rs (λ ys. ok (y ∷ ys)))) (k x) (each_unseen f g k xs)

  flat_unseen : (f g : A → List B) → ((x : A) → f (u x) ≡ g x) → (xs : List A) → flat_map f (map u xs) ≡ flat_map g xs
  flat_unseen f g k [] = refl
  flat_unseen f g k (x ∷ xs) = ap₂ ◌++◌ (k x) (flat_unseen f g k xs)

  map_unseen : (f : A → B) → ((x : A) → f (u x) ≡ f x) → (xs : List A) → map f (map u xs) ≡ map f xs
  map_unseen f k [] = refl
  map_unseen f k (x ∷ xs) = ap₂ (λ y ys. y ∷ ys) (k x) (map_unseen f k xs)

module _ (h : ℕ → ℕ) where
  -- ---- expressions

  unmarked_unseen : (e : Expression) → unmarked (map_origins h e) ≡ unmarked e
  unmarked_unseen (constant og v) = refl
  unmarked_unseen (column og c) = refl
  unmarked_unseen (unary og o x) = ap (unary 0 o) (unmarked_unseen x)
  unmarked_unseen (binary og o l r) = ap₂ (binary 0 o) (unmarked_unseen l) (unmarked_unseen r)

  aggregate_unseen : (agg : ℕ × Expression × ℕ) → unmarked_aggregate (map_aggregate h agg) ≡ unmarked_aggregate agg
  aggregate_unseen agg = ap (λ e. (agg.0, e)) (unmarked_unseen agg.1)

  holds_unseen : (e : Expression) → holds (map_origins h e) ≡ holds e
  holds_unseen e = fun_ext (λ row. ap (λ r. bind r kept) (evaluate_unseen h row e))

  optional_unseen : (p : Option Expression) → optional_holds (map_optional (map_origins h) p) ≡ optional_holds p
  optional_unseen none = refl
  optional_unseen (some e) = holds_unseen e

  join_unseen : (j : Join) (n : ℕ) → join_holds (map_join h j) n ≡ join_holds j n
  join_unseen (nested_loop predicate) n = optional_unseen predicate
  join_unseen (hash left_column right_column) n = refl

  evaluate_all_unseen : (es : List Expression) (row : Row) → evaluate_all (map (map_origins h) es) row ≡ evaluate_all es row
  evaluate_all_unseen es row = each_unseen (map_origins h) (evaluate row) (evaluate row) (evaluate_unseen h row) es

  expressions_map : {A : Type 0} (items : List (Expression × A × ℕ)) → expressions (map (map_part h) items) ≡ map (map_origins h) (expressions items)
  expressions_map [] = refl
  expressions_map (item ∷ items) = ap (λ es. map_origins h item.0 ∷ es) (expressions_map items)

  parts_unseen : {A : Type 0} (items : List (Expression × A × ℕ)) → evaluate_all (expressions (map (map_part h) items)) ≡ evaluate_all (expressions items)
  parts_unseen items = fun_ext (λ row. ap (λ es. evaluate_all es row) (expressions_map items) ∙ evaluate_all_unseen (expressions items) row)

  -- ---- lookups, Values and Remaps

  looked_up_unseen : (c : ℕ) (constants : List (Marked _)) (row : Row) → looked_up c (map (map_mark h) constants) row ≡ looked_up c constants row
  looked_up_unseen c [] row = refl
  looked_up_unseen c (v ∷ constants) row = ap (λ b. takes v.0 (get_or row c null) || b) (looked_up_unseen c constants row)

  values_row_unseen : (n : ℕ) (es : Marked (List Expression)) → values_row n (map_row h es) ≡ values_row n es
  values_row_unseen n es = ap (λ r. bind r (λ row. ok (fit n row))) (evaluate_all_unseen es.0 [])

  source_unseen : (from : ℕ) (targets : List (Marked (Option ℕ))) (to : ℕ) → remap_source from (map (map_mark h) targets) to ≡ remap_source from targets to
  source_unseen from [] to = refl
  source_unseen from ((none, og) ∷ targets) to = source_unseen (suc from) targets to
  source_unseen from ((some target, og) ∷ targets) to =
      ap (λ z. elim (eqb target to) [ true ↦ some from | false ↦ z ]) (source_unseen (suc from) targets to)

  remap_unseen : (targets : List (Marked (Option ℕ))) → remap_row (map (map_mark h) targets) ≡ remap_row targets
  remap_unseen targets = fun_ext (λ row.
      ap₂ (λ source n. map (λ to. optional_value row (source to)) (up_to 0 n)) (fun_ext (source_unseen 0 targets))
      (columns_unseen h [] (over 0 (other (remap targets)) (leaf 0 (nothing [])))))

  -- ---- equalities of two columns

  of_binary_unseen : (row : Row) (o : Binary) (l r : Expression) → of_binary row o (map_origins h l) (map_origins h r) ≡ of_binary row o l r
  of_binary_unseen row (logical o) l r = refl
  of_binary_unseen row Equal l r = ap₂ (of_columns row) (is_column_unseen h l) (is_column_unseen h r)
  of_binary_unseen row (function f) l r = refl

  of_expression_unseen : (row : Row) (e : Expression) → of_expression row (map_origins h e) ≡ of_expression row e
  of_expression_unseen row (constant og v) = refl
  of_expression_unseen row (column og c) = refl
  of_expression_unseen row (unary og o x) = of_expression_unseen row x
  of_expression_unseen row (binary og o l r) =
      ap₂ ◌++◌ (of_expression_unseen row l) (ap₂ ◌++◌ (of_expression_unseen row r) (of_binary_unseen row o l r))

  of_optional_unseen : (p : Option Expression) → of_optional (map_optional (map_origins h) p) ≡ of_optional p
  of_optional_unseen none = refl
  of_optional_unseen (some e) = fun_ext (λ row. of_expression_unseen row e)

  of_join_unseen : (j : Join) (n : ℕ) → of_join (map_join h j) n ≡ of_join j n
  of_join_unseen (nested_loop predicate) n = of_optional_unseen predicate
  of_join_unseen (hash left_column right_column) n = refl

  of_list_unseen : (es : List Expression) (row : Row) → of_list (map (map_origins h) es) row ≡ of_list es row
  of_list_unseen es row = flat_unseen (map_origins h) (of_expression row) (of_expression row) (of_expression_unseen row) es

  of_parts_unseen : {A : Type 0} (items : List (Expression × A × ℕ)) → of_list (expressions (map (map_part h) items)) ≡ of_list (expressions items)
  of_parts_unseen items = fun_ext (λ row. ap (λ es. of_list es row) (expressions_map items) ∙ of_list_unseen (expressions items) row)

  of_over_unseen : (o : Over) → of_over (map_over h o) ≡ of_over o
  of_over_unseen (filter predicate) = ap (λ f rows. flat_map f rows) (fun_ext (λ row. of_expression_unseen row predicate))
  of_over_unseen (other (limit amount)) = refl
  of_over_unseen (other (offset amount)) = refl
  of_over_unseen (other (order key)) = ap (λ f rows. flat_map f rows) (of_parts_unseen key)
  of_over_unseen (other (projection items)) = ap (λ f rows. flat_map f rows) (of_parts_unseen items)
  of_over_unseen (other (remap targets)) = refl
  of_over_unseen (other (aggregate group_by aggregates)) = refl

  -- ---- nodes

  outer_unseen : (n : Node) → no_outer (map_node_origins h n) ≡ no_outer n
  outer_unseen (leaf og l) = refl
  outer_unseen (over og o source) = outer_unseen source
  outer_unseen (join og outer j left right) = ap₂ (λ a b. not outer && (a && b)) (outer_unseen left) (outer_unseen right)

  module _ (database : Database) where
    leaf_unseen : (l : Leaf) → read_leaf database (map_leaf h l) ≡ read_leaf database l
    leaf_unseen (scan table alias predicate) = ap (λ f. keep_each f (database.table_rows table)) (optional_unseen predicate)
    leaf_unseen (lookup access table alias constants) =
        ap (λ f. ok (keep f (database.table_rows table))) (fun_ext (looked_up_unseen (lookup_column database.schema table access) constants))
    leaf_unseen (nothing labels) = refl
    leaf_unseen (values rows) =
        ap (λ n. each (values_row n) (map (map_row h) rows)) (columns_unseen h [] (leaf 0 (values rows)))
        ∙ each_unseen (map_row h) (values_row (values_columns rows)) (values_row (values_columns rows)) (values_row_unseen (values_columns rows)) rows

    over_unseen : (o : Over) → read_over database (map_over h o) ≡ read_over database o
    over_unseen (filter predicate) = ap (λ f rows. keep_each f rows) (holds_unseen predicate)
    over_unseen (other (limit amount)) = refl
    over_unseen (other (offset amount)) = refl
    over_unseen (other (order key)) =
        ap₂ (λ f ds rows. bind (each f rows) (λ keys. ok (pick_all (database.arrangement ds keys) rows))) (parts_unseen key) (map-map (λ k. k.1) (map_part h) key)
    over_unseen (other (projection items)) = ap (λ f rows. each f rows) (parts_unseen items)
    over_unseen (other (remap targets)) = ap (λ f rows. ok (map f rows)) (remap_unseen targets)
    over_unseen (other (aggregate group_by aggregates)) =
        ap₂ (λ es gs rows. ok (database.aggregated es gs rows)) (map_unseen (map_origins h) unmarked unmarked_unseen group_by)
        (map_unseen (map_aggregate h) unmarked_aggregate aggregate_unseen aggregates)

    read_unseen : (n : Node) → read database (map_node_origins h n) ≡ read database n
    read_unseen (leaf og l) = leaf_unseen l
    read_unseen (over og o source) = ap₂ bind (read_unseen source) (over_unseen o)
    read_unseen (join og outer j left right) =
        ap₂ (λ r s. bind r (λ ls. bind s (λ rs. joined (map_join h j) (columns database.schema (map_node_origins h left)) (columns database.schema (map_node_origins h right)) ls rs)))
        (read_unseen left) (read_unseen right)
        ∙ (ap₂ (λ m n. both (joined (map_join h j) m n)) (columns_unseen h database.schema left) (columns_unseen h database.schema right)
        ∙ ap (λ f. both (λ ls rs. read_join outer f (columns database.schema right) ls rs)) (join_unseen j (columns database.schema left)))
      where
        joined : Join → ℕ → ℕ → List Row → List Row → Result (List Row)
        joined k m n ls rs = read_join outer (join_holds k m) n ls rs

        both : (List Row → List Row → Result (List Row)) → Result (List Row)
        both f = bind (read database left) (λ ls. bind (read database right) (λ rs. f ls rs))

    of_leaf_unseen : (l : Leaf) → of_leaf database (map_leaf h l) ≡ of_leaf database l
    of_leaf_unseen (scan table alias predicate) = ap (λ f. flat_map f (database.table_rows table)) (of_optional_unseen predicate)
    of_leaf_unseen (lookup access table alias constants) = refl
    of_leaf_unseen (nothing labels) = refl
    of_leaf_unseen (values rows) = flat_unseen (map_row h) (λ es. of_list es.0 []) (λ es. of_list es.0 []) (λ es. of_list_unseen es.0 []) rows

    equalities_unseen : (n : Node) → equalities database (map_node_origins h n) ≡ equalities database n
    equalities_unseen (leaf og l) = of_leaf_unseen l
    equalities_unseen (over og o source) = ap₂ ◌++◌ (equalities_unseen source) (ap₂ in_rows (read_unseen source) (of_over_unseen o))
    equalities_unseen (join og outer j left right) =
        ap₂ ◌++◌ (equalities_unseen left) (ap₂ ◌++◌ (equalities_unseen right)
        (ap₂ (λ r s. met r s (of_join (map_join h j) (columns database.schema (map_node_origins h left)))) (read_unseen left) (read_unseen right)
        ∙ ap (met (read database left) (read database right))
        (ap (of_join (map_join h j)) (columns_unseen h database.schema left) ∙ of_join_unseen j (columns database.schema left))))
      where
        met : Result (List Row) → Result (List Row) → (Row → List Compared) → List Compared
        met r s f = in_rows r (λ ls. in_rows s (λ rs. flat_map f (joined_rows ls rs)))

pub origins_are_no_rows : OriginsAreNoRows
origins_are_no_rows database h n =
    record {
      same_reading = read_unseen h database n;
      same_columns = columns_unseen h database.schema n;
      same_outer = outer_unseen h n;
      same_equalities = equalities_unseen h database n;
    }

pub premises_without_origins : PremisesWithoutOrigins
premises_without_origins database plans rows h p =
    record {
      not_refused = λ k lt. passes_commute max_cells database.schema (suc k) h (plans k) ∙ ap (map_answer (map_node_origins h)) (p.not_refused k lt);
      inner = outer_unseen h (plans 0) ∙ p.inner;
      reads = λ k le. read_unseen h database (plans k) ∙ p.reads k le;
      one_kind = λ k le. ap (all of_one_kind) (equalities_unseen h database (plans k)) ∙ p.one_kind k le;
    }
