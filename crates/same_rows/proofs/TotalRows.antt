-- T of a plan: the number of its columns, and rows that are read by T and so never fail. An outer join is read as an inner one.
use Rattle.std.specs.Prelude.{ℕ, zero, suc, ◌+◌, Bool, true, false, not, ◌&&◌, ◌≡◌, refl, List, [], ◌∷◌, ◌++◌, map, length, get_or, take, drop}
use Rattle.std.proofs.Common.{sym, ap, ap₂, ◌∙◌, subst, length-append}
use Rattle.std.proofs.Math.Option.{Option, none, some}
use Rattle.std.proofs.lemmas.List.{length-map}
use Rattle.value.specs.Value.{Value}
use Rattle.sql.specs.Schema.{Schema, table_of}
use Rattle.sql.specs.Expression.{Expression, column, binary, Equal, Row}
use Rattle.sql.specs.Plan.{Label, Access, Leaf, scan, lookup, nothing, values, Other, limit, offset, order, projection, remap, aggregate, Over, filter, other, Join, nested_loop, hash, Node, leaf, over, join, leaf_columns, other_columns, columns, values_columns, remap_columns, remap_source, up_to, column_label, column_labels}
use Rattle.sql.specs.Optimizer.{cons_if, keep}
use Rattle.rows.specs.Database.{Wide, no_rows, and_row, unmarked, unmarked_aggregate, Database}
use Rattle.rows.specs.Reading.{joined_rows, looked_up, lookup_column, fit, pick, pick_all, optional_value, remap_row, expressions, directions}
use Rattle.same_rows.specs.Total.{at, true_at, optional_true_at, value_at}

-- a number of columns, and rows
abbrev pub Table : Type 0
Table = ℕ × List Row

abbrev pub keep_table : (Row → Bool) → Table → Table
keep_table f t = (t.0, keep f t.1)

-- of a joined row, whose first n values are the left source's
abbrev pub join_true : Join → ℕ → Row → Bool
join_true (nested_loop predicate) n row = optional_true_at (at row) predicate
join_true (hash left_column right_column) n row = true_at (at row) (binary 0 Equal (column 0 left_column) (column 0 (n + right_column)))

abbrev pub total_join : Join → Table → Table → Table
total_join j s t = (s.0 + t.0, keep (join_true j s.0) (joined_rows s.1 t.1))

abbrev pub values_at : List Expression → Row → Row
values_at es row = map (value_at (at row)) es

module _ (database : Database) where
  abbrev pub total_leaf : Leaf → List Row
  total_leaf (scan table alias predicate) = keep (λ row. optional_true_at (at row) predicate) (database.table_rows table)
  total_leaf (lookup access table alias constants) = keep (looked_up (lookup_column database.schema table access) constants) (database.table_rows table)
  total_leaf (nothing labels) = []
  total_leaf (values rows) = map (λ es. fit (values_columns rows) (values_at es.0 [])) rows

  abbrev pub total_other : Other → List Row → List Row
  total_other (limit amount) rows = take amount rows
  total_other (offset amount) rows = drop amount rows
  total_other (order key) rows = pick_all (database.arrangement (directions key) (map (values_at (expressions key)) rows)) rows
  total_other (projection items) rows = map (values_at (expressions items)) rows
  total_other (remap targets) rows = map (remap_row targets) rows
  total_other (aggregate group_by aggregates) rows = database.aggregated (map unmarked group_by) (map unmarked_aggregate aggregates) rows

  abbrev pub total_over : Over → Table → Table
  total_over (filter predicate) t = keep_table (λ row. true_at (at row) predicate) t
  total_over (other o) t = (other_columns o t.0, total_other o t.1)

  abbrev pub total_table : Node → Table
  total_table (leaf og l) = (leaf_columns database.schema l, total_leaf l)
  total_table (over og o source) = total_over o (total_table source)
  total_table (join og outer j left right) = total_join j (total_table left) (total_table right)

  pub total_columns : (n : Node) → (total_table n).0 ≡ columns database.schema n
  total_columns (leaf og l) = refl
  total_columns (over og (filter predicate) source) = total_columns source
  total_columns (over og (other o) source) = ap (other_columns o) (total_columns source)
  total_columns (join og outer j left right) = ap₂ ◌+◌ (total_columns left) (total_columns right)

-- ---- rows are as wide as the node says

wide_if : {n : ℕ} {rows : List Row} (b : Bool) (row : Row) → length row ≡ n → Wide n rows → Wide n (cons_if b row rows)
wide_if true row h w = and_row h w
wide_if false row h w = w

wide_keep : {n : ℕ} {rows : List Row} (f : Row → Bool) → Wide n rows → Wide n (keep f rows)
wide_keep f no_rows = no_rows
wide_keep f (and_row {row} h w) = wide_if (f row) row h (wide_keep f w)

wide_append : {n : ℕ} {rows more : List Row} → Wide n rows → Wide n more → Wide n (rows ++ more)
wide_append no_rows v = v
wide_append (and_row h w) v = and_row h (wide_append w v)

wide_take : {n : ℕ} {rows : List Row} (k : ℕ) → Wide n rows → Wide n (take k rows)
wide_take zero w = no_rows
wide_take (suc k) no_rows = no_rows
wide_take (suc k) (and_row h w) = and_row h (wide_take k w)

wide_drop : {n : ℕ} {rows : List Row} (k : ℕ) → Wide n rows → Wide n (drop k rows)
wide_drop zero w = w
wide_drop (suc k) no_rows = no_rows
wide_drop (suc k) (and_row h w) = wide_drop k w

wide_map : {A : Type 0} (n : ℕ) (f : A → Row) → ((a : A) → length (f a) ≡ n) → (xs : List A) → Wide n (map f xs)
wide_map n f h [] = no_rows
wide_map n f h (x ∷ xs) = and_row (h x) (wide_map n f h xs)

wide_pick : {n : ℕ} {rows : List Row} (i : ℕ) → Wide n rows → Wide n (pick i rows)
wide_pick i no_rows = no_rows
wide_pick zero (and_row h w) = and_row h no_rows
wide_pick (suc i) (and_row h w) = wide_pick i w

wide_pick_all : {n : ℕ} {rows : List Row} (numbers : List ℕ) → Wide n rows → Wide n (pick_all numbers rows)
wide_pick_all [] w = no_rows
wide_pick_all (i ∷ numbers) w = wide_append (wide_pick i w) (wide_pick_all numbers w)

wide_row : {n : ℕ} (m : ℕ) (l : Row) → length l ≡ m → {rows : List Row} → Wide n rows → Wide (m + n) (map (λ r. l ++ r) rows)
wide_row m l h no_rows = no_rows
wide_row m l h (and_row {row} k w) = and_row (length-append l row ∙ ap₂ ◌+◌ h k) (wide_row m l h w)

wide_joined : {m n : ℕ} {left right : List Row} → Wide m left → Wide n right → Wide (m + n) (joined_rows left right)
wide_joined no_rows v = no_rows
wide_joined {m} (and_row {row} h w) v = wide_append (wide_row m row h v) (wide_joined w v)

pub length_fit : (n : ℕ) (row : Row) → length (fit n row) ≡ n
length_fit zero row = refl
length_fit (suc n) [] = ap suc (length_fit n [])
length_fit (suc n) (v ∷ row) = ap suc (length_fit n row)

length_up_to : (from n : ℕ) → length (up_to from n) ≡ n
length_up_to from zero = refl
length_up_to from (suc n) = ap suc (length_up_to (suc from) n)

pub length_labels : (schema : Schema) (n : Node) → length (column_labels schema n) ≡ columns schema n
length_labels schema n = length-map (up_to 0 (columns schema n)) (column_label schema n) ∙ length_up_to 0 (columns schema n)

length_remap : (targets : List (Option ℕ × ℕ)) (row : Row) → length (remap_row targets row) ≡ remap_columns targets
length_remap targets row =
    length-map (up_to 0 (remap_columns targets)) (λ to. optional_value row (remap_source 0 targets to)) ∙ length_up_to 0 (remap_columns targets)

length_values : {A : Type 0} (items : List (Expression × A × ℕ)) (row : Row) → length (values_at (expressions items) row) ≡ length items
length_values items row = length-map (expressions items) (value_at (at row)) ∙ length-map items (λ item. item.0)

module _ (database : Database) where
  wide_leaf : (l : Leaf) → Wide (leaf_columns database.schema l) (total_leaf database l)
  wide_leaf (scan table alias predicate) = wide_keep (λ row. optional_true_at (at row) predicate) (database.table_wide table)
  wide_leaf (lookup access table alias constants) = wide_keep (looked_up (lookup_column database.schema table access) constants) (database.table_wide table)
  wide_leaf (nothing labels) = no_rows
  wide_leaf (values rows) = wide_map (values_columns rows) (λ es. fit (values_columns rows) (values_at es.0 [])) (λ es. length_fit (values_columns rows) (values_at es.0 [])) rows

  wide_other : (o : Other) (n : ℕ) (rows : List Row) → Wide n rows → Wide (other_columns o n) (total_other database o rows)
  wide_other (limit amount) n rows w = wide_take amount w
  wide_other (offset amount) n rows w = wide_drop amount w
  wide_other (order key) n rows w = wide_pick_all (database.arrangement (directions key) (map (values_at (expressions key)) rows)) w
  wide_other (projection items) n rows w = wide_map (length items) (values_at (expressions items)) (length_values items) rows
  wide_other (remap targets) n rows w = wide_map (remap_columns targets) (remap_row targets) (length_remap targets) rows
  wide_other (aggregate group_by aggregates) n rows w =
      subst (λ k. Wide k (total_other database (aggregate group_by aggregates) rows))
      (ap₂ ◌+◌ (length-map aggregates unmarked_aggregate) (length-map group_by unmarked))
      (database.aggregated_wide (map unmarked group_by) (map unmarked_aggregate aggregates) rows)

  pub wide : (n : Node) → Wide (total_table database n).0 (total_table database n).1
  wide (leaf og l) = wide_leaf l
  wide (over og (filter predicate) source) = wide_keep (λ row. true_at (at row) predicate) (wide source)
  wide (over og (other o) source) = wide_other o (total_table database source).0 (total_table database source).1 (wide source)
  wide (join og outer j left right) = wide_keep (join_true j (total_table database left).0) (wide_joined (wide left) (wide right))
