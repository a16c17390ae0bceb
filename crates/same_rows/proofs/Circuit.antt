-- Pass 5, ShortCircuit, keeps T.
use Rattle.std.specs.Prelude.{ℕ, zero, suc, ◌+◌, Bool, true, false, ◌&&◌, ◌||◌, cond, ◌≡◌, refl, List, [], ◌∷◌, map, eqb, length, drop}
use Rattle.std.proofs.Common.{sym, ap, ap₂, ◌∙◌, arith}
use Rattle.std.proofs.Math.Option.{Option, none, some}
use Rattle.std.proofs.lemmas.List.{length-map}
use Rattle.value.specs.Value.{False, Unknown, True, Value, truth, datum}
use Rattle.sql.specs.Expression.{origin, Expression, constant, column, unary, binary, Row}
use Rattle.sql.specs.Plan.{Label, Leaf, scan, lookup, nothing, values, Other, limit, offset, order, projection, remap, aggregate, Over, filter, other, Join, nested_loop, hash, Node, leaf, over, join, columns, node_origin, column_labels}
use Rattle.sql.specs.Optimizer.{keep, Verdict, always, never, unknown, verdict, optional_verdict, is_always, is_never, remove_true, is_unlabelled, is_column_number, pass_through, is_empty_list, is_nothing, is_empty_other, is_empty_join, is_empty, is_noop, remove_useless, empty_or_node, short_circuit, ShortCircuit}
use Rattle.rows.specs.Database.{Wide, no_rows, and_row, Database}
use Rattle.rows.specs.Reading.{joined_rows, looked_up, lookup_column, pick_all, expressions, directions}
use Rattle.same_rows.proofs.Booleans.{false≢true, and_left, and_right, eqb_eq}
use Rattle.same_rows.specs.Total.{Columns, at, from_value, true_at, optional_true_at, to_value, value_at}
use Rattle.same_rows.proofs.TotalRows.{Table, join_true, total_join, values_at, total_other, total_over, total_table, total_columns, wide, length_labels}
use Rattle.same_rows.proofs.Split.{keep_same, keep_all}

-- ---- constant predicates

always_true : (p : Expression) → is_always (verdict p) ≡ true → (row : Columns) → true_at row p ≡ true
always_true (constant og (truth True)) h row = refl
always_true (constant og (truth Unknown)) h row = false≢true h
always_true (constant og (truth False)) h row = false≢true h
always_true (constant og (datum d)) h row = false≢true h
always_true (column og c) h row = false≢true h
always_true (unary og o x) h row = false≢true h
always_true (binary og o l r) h row = false≢true h

never_true : (p : Expression) → is_never (verdict p) ≡ true → (row : Columns) → true_at row p ≡ false
never_true (constant og (truth True)) h row = false≢true h
never_true (constant og (truth Unknown)) h row = refl
never_true (constant og (truth False)) h row = refl
never_true (constant og (datum d)) h row = false≢true h
never_true (column og c) h row = false≢true h
never_true (unary og o x) h row = false≢true h
never_true (binary og o l r) h row = false≢true h

optional_never : (p : Option Expression) → is_never (optional_verdict p) ≡ true → (row : Columns) → optional_true_at row p ≡ false
optional_never none h row = false≢true h
optional_never (some p) h row = never_true p h row

remove_true_same : (p : Option Expression) (row : Columns) → optional_true_at row (remove_true p) ≡ optional_true_at row p
remove_true_same none row = refl
remove_true_same (some p) row = go (is_always (verdict p)) refl
  where
    go : (b : Bool) → is_always (verdict p) ≡ b → optional_true_at row (cond b none (some p)) ≡ true_at row p
    go true h = sym (always_true p h row)
    go false h = refl

keep_none : (f : Row → Bool) → ((row : Row) → f row ≡ false) → (rows : List Row) → keep f rows ≡ []
keep_none f h [] = refl
keep_none f h (row ∷ rows) = rw (h row) (keep_none f h rows)

keep_every : (f : Row → Bool) → ((row : Row) → f row ≡ true) → (rows : List Row) → keep f rows ≡ rows
keep_every f h rows = keep_same f (λ row. true) h rows ∙ keep_all rows

-- ---- a projection of all columns in order gives the rows back

to_from : (v : Value) → to_value (from_value v) ≡ v
to_from (truth t) = refl
to_from (datum d) = refl

is_that_column : (i : ℕ) (e : Expression) → is_column_number i e ≡ true → e ≡ column (origin e) i
is_that_column i (constant og v) h = false≢true h
is_that_column i (column og c) h = ap (column og) (eqb_eq c i h)
is_that_column i (unary og o x) h = false≢true h
is_that_column i (binary og o l r) h = false≢true h

pass_through_row : (row : Columns) (i : ℕ) (items : List (Expression × Label × ℕ)) (those : Row) → pass_through i items ≡ true → length those ≡ length items
    → ((j : ℕ) → row (i + j) ≡ at those j) → map (value_at row) (expressions items) ≡ those
pass_through_row row i [] [] h k g = refl
pass_through_row row i [] (v ∷ those) h k g = absurd (omega arith)
pass_through_row row i (item ∷ items) [] h k g = absurd (omega arith)
pass_through_row row i (item ∷ items) (v ∷ those) h k g =
    let here = and_left (is_column_number i item.0 && is_unlabelled item.1) (pass_through (suc i) items) h in
    ap₂ ◌∷◌
    (ap (value_at row) (is_that_column i item.0 (and_left (is_column_number i item.0) (is_unlabelled item.1) here))
    ∙ (to_from (row i) ∙ (ap row (let z : i ≡ i + 0 = omega arith in z) ∙ g 0)))
    (pass_through_row row (suc i) items those (and_right (is_column_number i item.0 && is_unlabelled item.1) (pass_through (suc i) items) h) (omega arith)
    (λ j. ap row (let z : suc i + j ≡ i + suc j = omega arith in z) ∙ g (suc j)))

pass_through_rows : (items : List (Expression × Label × ℕ)) {n : ℕ} {rows : List Row} → Wide n rows → n ≡ length items → pass_through 0 items ≡ true
    → map (values_at (expressions items)) rows ≡ rows
pass_through_rows items no_rows h k = refl
pass_through_rows items (and_row {row} w ws) h k =
    ap₂ ◌∷◌ (pass_through_row (at row) 0 items row k (w ∙ h) (λ j. ap (at row) (let z : 0 + j ≡ j = omega arith in z))) (pass_through_rows items ws h k)

-- ---- what is over no rows gives none

joined_none : (left : List Row) → joined_rows left [] ≡ []
joined_none [] = refl
joined_none (l ∷ left) = joined_none left

pick_none : (numbers : List ℕ) → pick_all numbers [] ≡ []
pick_none [] = refl
pick_none (i ∷ numbers) = pick_none numbers

drop_none : (k : ℕ) → drop {A = Row} k [] ≡ []
drop_none zero = refl
drop_none (suc k) = refl

either_way : {A : Type 0} (a b : Bool) → (a || b) ≡ true → (a ≡ true → A) → (b ≡ true → A) → A
either_way true b h f g = f refl
either_way false b h f g = g h

empty_list : {A : Type 0} (xs : List A) → is_empty_list xs ≡ true → xs ≡ []
empty_list [] h = refl
empty_list (x ∷ xs) h = false≢true h

module _ (database : Database) where
  -- ---- the first part

  filter_if : (og : ℕ) (p : Expression) (source : Node) (b : Bool) → is_always (verdict p) ≡ b
      → total_table database (cond b source (over og (filter p) source)) ≡ total_table database (over og (filter p) source)
  filter_if og p source true h =
      ap (λ z. ((total_table database source).0, z)) (sym (keep_every (λ row. true_at (at row) p) (λ row. always_true p h (at row)) (total_table database source).1))
  filter_if og p source false h = refl

  projection_if : (og : ℕ) (items : List (Expression × Label × ℕ)) (source : Node) (b : Bool) → is_noop database.schema items source ≡ b
      → total_table database (cond b source (over og (other (projection items)) source)) ≡ total_table database (over og (other (projection items)) source)
  projection_if og items source true h =
      let same_width_lem = eqb (columns database.schema source) (length items) in
      let w = total_columns database source ∙ eqb_eq (columns database.schema source) (length items) (and_left same_width_lem (pass_through 0 items) h) in
      ap₂ {C = Table} (λ x y. (x, y)) w (sym (pass_through_rows items (wide database source) w (and_right same_width_lem (pass_through 0 items) h)))
  projection_if og items source false h = refl

  useless_table : (n : Node) → total_table database (remove_useless database.schema n) ≡ total_table database n
  useless_table (leaf og (scan table alias p)) = ap (λ z. ((total_table database (leaf og (scan table alias p))).0, z))
      (keep_same (λ row. optional_true_at (at row) (remove_true p)) (λ row. optional_true_at (at row) p) (λ row. remove_true_same p (at row)) (database.table_rows table))
  useless_table (leaf og (lookup access table alias constants)) = refl
  useless_table (leaf og (nothing labels)) = refl
  useless_table (leaf og (values rows)) = refl
  useless_table (over og (filter p) source) = filter_if og p source (is_always (verdict p)) refl
  useless_table (over og (other (limit amount)) source) = refl
  useless_table (over og (other (offset amount)) source) = refl
  useless_table (over og (other (order key)) source) = refl
  useless_table (over og (other (projection items)) source) = projection_if og items source (is_noop database.schema items source) refl
  useless_table (over og (other (remap targets)) source) = refl
  useless_table (over og (other (aggregate group_by aggregates)) source) = refl
  useless_table (join og outer (nested_loop p) left right) = ap (λ z. ((total_table database left).0 + (total_table database right).0, z))
      (keep_same (λ row. optional_true_at (at row) (remove_true p)) (λ row. optional_true_at (at row) p) (λ row. remove_true_same p (at row))
      (joined_rows (total_table database left).1 (total_table database right).1))
  useless_table (join og outer (hash a b) left right) = refl

  -- ---- emptied nodes

  nothing_rows : (n : Node) → is_nothing n ≡ true → (total_table database n).1 ≡ []
  nothing_rows (leaf og (scan table alias p)) h = false≢true h
  nothing_rows (leaf og (lookup access table alias constants)) h = false≢true h
  nothing_rows (leaf og (nothing labels)) h = refl
  nothing_rows (leaf og (values rows)) h = false≢true h
  nothing_rows (over og o source) h = false≢true h
  nothing_rows (join og outer j left right) h = false≢true h

  empty_other : (o : Other) (source : Node) → is_empty_other o (is_nothing source) ≡ true → total_other database o (total_table database source).1 ≡ []
  empty_other (limit zero) source h = refl
  empty_other (limit (suc n)) source h = false≢true h
  empty_other (offset amount) source h = ap (drop amount) (nothing_rows source h) ∙ drop_none amount
  empty_other (order key) source h = ap (total_other database (order key)) (nothing_rows source h) ∙ pick_none (database.arrangement (directions key) [])
  empty_other (projection items) source h = ap (map (values_at (expressions items))) (nothing_rows source h)
  empty_other (remap targets) source h = false≢true h
  empty_other (aggregate group_by aggregates) source h = false≢true h

  empty_join : (j : Join) (n : ℕ) (rows : List Row) → is_empty_join j ≡ true → keep (join_true j n) rows ≡ []
  empty_join (nested_loop p) n rows h = keep_none (λ row. optional_true_at (at row) p) (λ row. optional_never p h (at row)) rows
  empty_join (hash a b) n rows h = false≢true h

  empty_rows : (n : Node) → is_empty n ≡ true → (total_table database n).1 ≡ []
  empty_rows (leaf og (scan table alias p)) h = keep_none (λ row. optional_true_at (at row) p) (λ row. optional_never p h (at row)) (database.table_rows table)
  empty_rows (leaf og (lookup access table alias constants)) h =
      let c = lookup_column database.schema table access in
      keep_none (looked_up c constants) (λ row. ap (λ z. looked_up c z row) (empty_list constants h)) (database.table_rows table)
  empty_rows (leaf og (nothing labels)) h = refl
  empty_rows (leaf og (values rows)) h = ap (λ z. (total_table database (leaf og (values z))).1) (empty_list rows h)
  empty_rows (over og (filter p) source) h = either_way (is_never (verdict p)) (is_nothing source) h
      (λ k. keep_none (λ row. true_at (at row) p) (λ row. never_true p k (at row)) (total_table database source).1)
      (λ k. ap (keep (λ row. true_at (at row) p)) (nothing_rows source k))
  empty_rows (over og (other o) source) h = empty_other o source h
  empty_rows (join og outer j left right) h = either_way (is_empty_join j) (is_nothing left || is_nothing right) h
      (λ k. empty_join j (total_table database left).0 (joined_rows (total_table database left).1 (total_table database right).1) k)
      (λ k. either_way (is_nothing left) (is_nothing right) k
      (λ i. ap (λ z. keep (join_true j (total_table database left).0) (joined_rows z (total_table database right).1)) (nothing_rows left i))
      (λ i. ap (λ z. keep (join_true j (total_table database left).0) (joined_rows (total_table database left).1 z)) (nothing_rows right i)
      ∙ ap (keep (join_true j (total_table database left).0)) (joined_none (total_table database left).1)))

  empty_table : (b : Bool) (n : Node) → is_empty n ≡ b → total_table database (empty_or_node database.schema b n) ≡ total_table database n
  empty_table true n h = ap₂ {C = Table} (λ x y. (x, y)) (length-map (column_labels database.schema n) (λ (l : Label). (l, node_origin n)) ∙ length_labels database.schema n ∙ sym (total_columns database n)) (sym (empty_rows n h))
  empty_table false n h = refl

  one_table : (n : Node) → total_table database (short_circuit database.schema n) ≡ total_table database n
  one_table n =
      empty_table (is_empty (remove_useless database.schema n)) (remove_useless database.schema n) refl ∙ useless_table n

  pub circuit_table : (n : Node) → total_table database (ShortCircuit database.schema n) ≡ total_table database n
  circuit_table (leaf og l) = one_table (leaf og l)
  circuit_table (over og o source) = one_table (over og o (ShortCircuit database.schema source)) ∙ ap (total_over database o) (circuit_table source)
  circuit_table (join og outer j left right) =
      one_table (join og outer j (ShortCircuit database.schema left) (ShortCircuit database.schema right)) ∙ ap₂ (total_join j) (circuit_table left) (circuit_table right)
