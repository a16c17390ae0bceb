-- short_circuit commutes with every map on origins.
use Rattle.std.specs.Prelude.{ℕ, suc, Bool, true, false, ◌&&◌, ◌||◌, cond, List, [], ◌∷◌, map, ◌≡◌, refl, eqb, length}
use Rattle.std.proofs.lemmas.Simd.{map-map}
use Rattle.std.proofs.Math.Option.{Option, none, some}
use Rattle.std.proofs.Common.{sym, ap, ap₂, ◌∙◌}
use Rattle.std.proofs.lemmas.List.{length-map}
use Rattle.value.specs.Value.{True, Unknown, False, truth, datum}
use Rattle.sql.specs.Schema.{Schema}
use Rattle.sql.specs.Expression.{Expression, constant, column, unary, binary}
use Rattle.sql.specs.Plan.{Label, Leaf, scan, lookup, nothing, values, Other, limit, offset, order, projection, remap, aggregate, filter, other, Join, nested_loop, hash, Node, leaf, over, join, node_origin, columns, column_labels}
use Rattle.sql.specs.Optimizer.{map_optional, verdict, optional_verdict, is_always, is_never, remove_true, is_unlabelled, is_column_number, pass_through, is_empty_list, is_nothing, is_empty_other, is_empty_join, is_empty, is_noop, remove_useless, empty_or_node, short_circuit}
use Rattle.origins.specs.Origins.{map_origins, map_mark, map_row, map_part, map_other, map_join, map_node_origins}
use Rattle.origins.proofs.Lists.{cond_map}
use Rattle.origins.proofs.Unseen.{columns_unseen, column_labels_unseen}

empty_list_unseen : {A : Type 0} (u : A → A) (xs : List A) → is_empty_list (map u xs) ≡ is_empty_list xs
empty_list_unseen u [] = refl
empty_list_unseen u (x ∷ xs) = refl

module _ (h : ℕ → ℕ) where
  abbrev M : Node → Node
  M = map_node_origins h

  -- ---- predicates that are always true, and Projections that pass their source's columns through

  verdict_unseen : (e : Expression) → verdict (map_origins h e) ≡ verdict e
  verdict_unseen (constant og (truth True)) = refl
  verdict_unseen (constant og (truth Unknown)) = refl
  verdict_unseen (constant og (truth False)) = refl
  verdict_unseen (constant og (datum d)) = refl
  verdict_unseen (column og c) = refl
  verdict_unseen (unary og o x) = refl
  verdict_unseen (binary og o l r) = refl

  optional_verdict_unseen : (p : Option Expression) → optional_verdict (map_optional (map_origins h) p) ≡ optional_verdict p
  optional_verdict_unseen none = refl
  optional_verdict_unseen (some e) = verdict_unseen e

  remove_true_map : (p : Option Expression) → remove_true (map_optional (map_origins h) p) ≡ map_optional (map_origins h) (remove_true p)
  remove_true_map p =
      ap (λ v. cond (is_always v) none (map_optional (map_origins h) p)) (optional_verdict_unseen p)
      ∙ cond_map (map_optional (map_origins h)) (is_always (optional_verdict p)) none p

  column_number_unseen : (i : ℕ) (e : Expression) → is_column_number i (map_origins h e) ≡ is_column_number i e
  column_number_unseen i (constant og v) = refl
  column_number_unseen i (column og c) = refl
  column_number_unseen i (unary og o x) = refl
  column_number_unseen i (binary og o l r) = refl

  pass_through_unseen : (i : ℕ) (items : List (Expression × Label × ℕ)) → pass_through i (map (map_part h) items) ≡ pass_through i items
  pass_through_unseen i [] = refl
  pass_through_unseen i (item ∷ items) =
      ap₂ (λ a b. (a && is_unlabelled item.1) && b) (column_number_unseen i item.0) (pass_through_unseen (suc i) items)

  noop_unseen : (schema : Schema) (items : List (Expression × Label × ℕ)) (source : Node) → is_noop schema (map (map_part h) items) (M source) ≡ is_noop schema items source
  noop_unseen schema items source =
      ap₂ ◌&&◌ (ap₂ eqb (columns_unseen h schema source) (length-map items (map_part h))) (pass_through_unseen 0 items)

  useless_map : (schema : Schema) (n : Node) → remove_useless schema (M n) ≡ M (remove_useless schema n)
  useless_map schema (leaf og (scan table alias predicate)) = ap (λ p. leaf (h og) (scan table alias p)) (remove_true_map predicate)
  useless_map schema (leaf og (lookup access table alias constants)) = refl
  useless_map schema (leaf og (nothing labels)) = refl
  useless_map schema (leaf og (values rows)) = refl
  useless_map schema (over og (filter predicate) source) =
      ap (λ v. cond (is_always v) (M source) (M (over og (filter predicate) source))) (verdict_unseen predicate)
      ∙ cond_map M (is_always (verdict predicate)) source (over og (filter predicate) source)
  useless_map schema (over og (other (limit amount)) source) = refl
  useless_map schema (over og (other (offset amount)) source) = refl
  useless_map schema (over og (other (order key)) source) = refl
  useless_map schema (over og (other (projection items)) source) =
      ap (λ b. cond b (M source) (M (over og (other (projection items)) source))) (noop_unseen schema items source)
      ∙ cond_map M (is_noop schema items source) source (over og (other (projection items)) source)
  useless_map schema (over og (other (remap targets)) source) = refl
  useless_map schema (over og (other (aggregate group_by aggregates)) source) = refl
  useless_map schema (join og outer (nested_loop predicate) left right) = ap (λ p. join (h og) outer (nested_loop p) (M left) (M right)) (remove_true_map predicate)
  useless_map schema (join og outer (hash left_column right_column) left right) = refl

  -- ---- emptied nodes

  nothing_unseen : (n : Node) → is_nothing (M n) ≡ is_nothing n
  nothing_unseen (leaf og (scan table alias predicate)) = refl
  nothing_unseen (leaf og (lookup access table alias constants)) = refl
  nothing_unseen (leaf og (nothing labels)) = refl
  nothing_unseen (leaf og (values rows)) = refl
  nothing_unseen (over og o source) = refl
  nothing_unseen (join og outer j left right) = refl

  empty_other_unseen : (o : Other) (b : Bool) → is_empty_other (map_other h o) b ≡ is_empty_other o b
  empty_other_unseen (limit amount) b = refl
  empty_other_unseen (offset amount) b = refl
  empty_other_unseen (order key) b = refl
  empty_other_unseen (projection items) b = refl
  empty_other_unseen (remap targets) b = refl
  empty_other_unseen (aggregate group_by aggregates) b = refl

  empty_join_unseen : (j : Join) → is_empty_join (map_join h j) ≡ is_empty_join j
  empty_join_unseen (nested_loop predicate) = ap is_never (optional_verdict_unseen predicate)
  empty_join_unseen (hash left_column right_column) = refl

  empty_unseen : (n : Node) → is_empty (M n) ≡ is_empty n
  empty_unseen (leaf og (scan table alias predicate)) = ap is_never (optional_verdict_unseen predicate)
  empty_unseen (leaf og (lookup access table alias constants)) = empty_list_unseen (map_mark h) constants
  empty_unseen (leaf og (nothing labels)) = refl
  empty_unseen (leaf og (values rows)) = empty_list_unseen (map_row h) rows
  empty_unseen (over og (filter predicate) source) = ap₂ (λ v b. is_never v || b) (verdict_unseen predicate) (nothing_unseen source)
  empty_unseen (over og (other o) source) = ap (is_empty_other (map_other h o)) (nothing_unseen source) ∙ empty_other_unseen o (is_nothing source)
  empty_unseen (join og outer j left right) =
      ap₂ (λ a b. a || b) (empty_join_unseen j) (ap₂ (λ a b. a || b) (nothing_unseen left) (nothing_unseen right))

  node_origin_map : (n : Node) → node_origin (M n) ≡ h (node_origin n)
  node_origin_map (leaf og l) = refl
  node_origin_map (over og o source) = refl
  node_origin_map (join og outer j left right) = refl

  emptied_map : (schema : Schema) (b : Bool) (n : Node) → empty_or_node schema b (M n) ≡ M (empty_or_node schema b n)
  emptied_map schema true n =
      ap₂ (λ og ls. leaf og (nothing (map (λ (l : Label). (l, og)) ls))) (node_origin_map n) (column_labels_unseen h schema n)
      ∙ ap (λ ls. leaf (h (node_origin n)) (nothing ls)) (sym (map-map (map_mark h) (λ (l : Label). (l, node_origin n)) (column_labels schema n)))
  emptied_map schema false n = refl

  pub short_circuit_map : (schema : Schema) (n : Node) → short_circuit schema (M n) ≡ M (short_circuit schema n)
  short_circuit_map schema n =
      ap (λ m. empty_or_node schema (is_empty m) m) (useless_map schema n)
      ∙ (ap (λ b. empty_or_node schema b (M (remove_useless schema n))) (empty_unseen (remove_useless schema n))
      ∙ emptied_map schema (is_empty (remove_useless schema n)) (remove_useless schema n))
