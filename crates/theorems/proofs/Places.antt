-- The places of refusals: of check's, how many there are for each number, and of ConstantFolding's, that they are cells of the plan.
use Prim.Native.Nat.{ℕ, zero, suc, ◌+◌, ◌≤◌, ◌<◌}
use native.Mathlib.Omega.{arith}
use mathlib.Core.Path.{◌≡◌, refl, sym, ap, ◌∙◌}
use mathlib.Core.Bool.{Bool, true, false, ◌&&◌}
use mathlib.Core.List.{List, [], ◌∷◌}
use mathlib.Core.Option.{Option, none, some}
use lib.Dec.{ltb, eqb}
use lib.ListN.{length}
use Rattle.value.specs.Value.{overflow, division_by_zero, mismatch, Result, ok, err}
use Rattle.sql.specs.Schema.{Schema}
use Rattle.sql.specs.Expression.{Marked, origin, Expression, constant, column, unary, binary, size, bind, evaluate, contains_column}
use Rattle.sql.specs.Plan.{by_key, by_index, Leaf, scan, lookup, nothing, values, limit, offset, order, projection, remap, aggregate, Over, filter, other, Join, nested_loop, hash, Node, leaf, over, join, columns, values_columns, sum, optional_size, row_size, item_size, key_size, aggregate_size, leaf_size, over_size, join_size, node_size}
use Rattle.sql.specs.Answer.{Answer, done, refused, ◌>>=◌, at_place}
use Rattle.sql.specs.Optimizer.{fold_by, fold, fold_expression, fold_each, fold_optional, fold_row, fold_part, fold_leaf, fold_over, fold_join, ConstantFolding}
use Rattle.sheet.specs.Parts.{tables_at, table_count, column_count, cell_count, length_ok, edition_ok, parts_ok, record_ok, first_failing, bad_record}
use Rattle.sheet.specs.Cell.{Cell, Tag, unknown, not_carried, carried, tag_of, cell, cell_ok, origins, bad_number, bad_cell}
use Rattle.sheet.specs.Tree.{expression_tree, label_tree, item_tree, key_tree, target_tree, agg_tree, row_tree, node_tree, Stack, Read, lacking, stack, after, read}
use Rattle.sheet.specs.Scope.{first_of, unless, in_each, column_outside, optional_outside, expressions_outside, equally_long, table_columns, leaf_outside, over_outside, join_outside, outside, member, repeated, over_repeated, target_repeated}
use Rattle.sheet.specs.Check.{text, schema, cells_of, test, unfound, cells_checked, one_plan, in_scope, plan}
use Rattle.sheet.specs.Cells.{cells}
use Rattle.sheet_laws.specs.Size.{node_length}
use Rattle.sheet_laws.proofs.Reading.{sound, read_runs}
use Rattle.sheet_laws.specs.Plan.{Bytes}
use Rattle.sheet_laws.proofs.Plan.{cells_pass, length_cells_of}
use Rattle.theorems.specs.Theorems.{places}

-- ---- findings

-- a finding, if there is one, is below this
abbrev Below : ℕ → Option ℕ → Type 0
Below most none = Unit {0}
Below most (some place) = place < most

below_more : (a b : ℕ) (o : Option ℕ) → a ≤ b → Below a o → Below b o
below_more a b none i h = tt
below_more a b (some p) i h = omega arith

below_first : (most : ℕ) (x y : Option ℕ) → Below most x → Below most y → Below most (first_of x y)
below_first most none y h k = k
below_first most (some p) y h k = h

below_unless : (most : ℕ) (b : Bool) (at : ℕ) → at < most → Below most (unless b at)
below_unless most true at h = tt
below_unless most false at h = h

below_each : {A : Type 0} (f : ℕ → A → Option ℕ) (cells : A → ℕ) → ((at : ℕ) (x : A) → Below (at + cells x) (f at x))
    → (at : ℕ) (xs : List A) → Below (at + sum cells xs) (in_each f cells at xs)
below_each f cells h at [] = tt
below_each f cells h at (x ∷ xs) =
    below_first (at + sum cells (x ∷ xs)) (f at x) (in_each f cells (at + cells x) xs)
    (below_more (at + cells x) (at + sum cells (x ∷ xs)) (f at x) (omega arith) (h at x))
    (below_more (at + cells x + sum cells xs) (at + sum cells (x ∷ xs)) (in_each f cells (at + cells x) xs) (omega arith) (below_each f cells h (at + cells x) xs))

below_failing : (test : ℕ → Bool) (i k : ℕ) → Below (i + k) (first_failing test i k)
unfolding first_failing
below_failing test i zero = tt
below_failing test i (suc k) = go (test i) (below_failing test (suc i) k)
  where
    go : (b : Bool) → Below (suc i + k) (first_failing test (suc i) k) → Below (i + suc k) (elim b [ true ↦ first_failing test (suc i) k | false ↦ some i ])
    go true h = below_more (suc i + k) (i + suc k) (first_failing test (suc i) k) (omega arith) h
    go false h = omega arith

-- ---- refusals 9 and 10: what is found in a plan whose cells start at `at` is one of its cells

column_below : (n at : ℕ) (e : Expression) → Below (at + size e) (column_outside n at e)
column_below n at (constant og v) = tt
column_below n at (column og i) = below_unless (at + 1) (ltb i n) at (omega arith)
column_below n at (unary og o x) = below_more (at + size x) (at + suc (size x)) (column_outside n at x) (omega arith) (column_below n at x)
column_below n at (binary og o l r) =
    below_first (at + suc (size l + size r)) (column_outside n at l) (column_outside n (at + size l) r)
    (below_more (at + size l) (at + suc (size l + size r)) (column_outside n at l) (omega arith) (column_below n at l))
    (below_more (at + size l + size r) (at + suc (size l + size r)) (column_outside n (at + size l) r) (omega arith) (column_below n (at + size l) r))

optional_below : (n at : ℕ) (p : Option Expression) → Below (at + optional_size p) (optional_outside n at p)
optional_below n at none = tt
optional_below n at (some e) = column_below n at e

expressions_below : (n at : ℕ) (es : List Expression) → Below (at + sum size es) (expressions_outside n at es)
expressions_below n = below_each (column_outside n) size (column_below n)

-- with the cell of the part itself
closed_below : (n at : ℕ) (e : Expression) → Below (at + suc (size e)) (column_outside n at e)
closed_below n at e = below_more (at + size e) (at + suc (size e)) (column_outside n at e) (omega arith) (column_below n at e)

row_below : (at : ℕ) (row : Marked (List Expression)) → Below (at + row_size row) (expressions_outside 0 at row.0)
row_below at row =
    below_more (at + sum size row.0) (at + row_size row) (expressions_outside 0 at row.0) (omega arith) (expressions_below 0 at row.0)

abbrev row_outside : ℕ → Marked (List Expression) → Option ℕ
row_outside i row = expressions_outside 0 i row.0

module _ (tables : Schema) where
  leaf_below : (at : ℕ) (l : Leaf) → Below (at + leaf_size l) (leaf_outside tables at l)
  leaf_below at (scan table alias p) =
      below_more (at + optional_size p) (at + suc (optional_size p)) (optional_outside (table_columns tables table) at p) (omega arith)
      (optional_below (table_columns tables table) at p)
  leaf_below at (lookup by_key table alias vs) = tt
  leaf_below at (lookup (by_index i) table alias vs) = below_unless (at + suc (length vs)) (ltb i (table_columns tables table)) (at + length vs) (omega arith)
  leaf_below at (nothing labels) = tt
  leaf_below at (values rows) =
      let most = at + suc (sum row_size rows) in
      let each = in_each row_outside row_size at rows in
      let long = equally_long (values_columns rows) rows in
      below_first most each (unless long (at + sum row_size rows))
      (below_more (at + sum row_size rows) most each (omega arith) (below_each row_outside row_size row_below at rows))
      (below_unless most long (at + sum row_size rows) (omega arith))

  -- the parts of a node, which stand before its own cell
  before_cell : (at cells : ℕ) (o : Option ℕ) → Below (at + cells) o → Below (at + suc cells) o
  before_cell at cells o h = below_more (at + cells) (at + suc cells) o (omega arith) h

  over_below : (n at : ℕ) (o : Over) → Below (at + over_size o) (over_outside tables n at o)
  over_below n at (filter p) = closed_below n at p
  over_below n at (other (limit amount)) = tt
  over_below n at (other (offset amount)) = tt
  over_below n at (other (order key)) =
      before_cell at (sum key_size key) (in_each (λ i k. column_outside n i k.0) key_size at key)
      (below_each (λ i k. column_outside n i k.0) key_size (λ i k. closed_below n i k.0) at key)
  over_below n at (other (projection items)) =
      before_cell at (sum item_size items) (in_each (λ i e. column_outside n i e.0) item_size at items)
      (below_each (λ i e. column_outside n i e.0) item_size (λ i e. closed_below n i e.0) at items)
  over_below n at (other (remap targets)) = below_unless (at + suc (length targets)) (eqb (length targets) n) (at + length targets) (omega arith)
  over_below n at (other (aggregate es gs)) =
      let most = at + suc (sum size es + sum aggregate_size gs) in
      let from = at + sum size es in
      let each = in_each (λ i g. column_outside n i g.1) aggregate_size from gs in
      below_first most (expressions_outside n at es) each
      (below_more from most (expressions_outside n at es) (omega arith) (expressions_below n at es))
      (below_more (from + sum aggregate_size gs) most each (omega arith)
      (below_each (λ i g. column_outside n i g.1) aggregate_size (λ i g. closed_below n i g.1) from gs))

  join_below : (left right at : ℕ) (j : Join) → Below (at + join_size j) (join_outside tables left right at j)
  join_below left right at (nested_loop p) = before_cell at (optional_size p) (optional_outside (left + right) at p) (optional_below (left + right) at p)
  join_below left right at (hash i j) = below_unless (at + 1) (ltb i left && ltb j right) at (omega arith)

  outside_below : (at : ℕ) (n : Node) → Below (at + node_size n) (outside tables at n)
  outside_below at (leaf og l) = leaf_below at l
  outside_below at (over og o source) =
      let from = at + node_size source in
      let most = at + (node_size source + over_size o) in
      below_first most (outside tables at source) (over_outside tables (columns tables source) from o)
      (below_more from most (outside tables at source) (omega arith) (outside_below at source))
      (below_more (from + over_size o) most (over_outside tables (columns tables source) from o) (omega arith) (over_below (columns tables source) from o))
  outside_below at (join og outer j left right) =
      let most = at + (node_size left + node_size right + join_size j) in
      let from = at + node_size left in
      let own = join_outside tables (columns tables left) (columns tables right) (from + node_size right) j in
      below_first most (outside tables at left) (first_of (outside tables from right) own)
      (below_more from most (outside tables at left) (omega arith) (outside_below at left))
      (below_first most (outside tables from right) own
      (below_more (from + node_size right) most (outside tables from right) (omega arith) (outside_below from right))
      (below_more (from + node_size right + join_size j) most own (omega arith) (join_below (columns tables left) (columns tables right) (from + node_size right) j)))

repeated_below : (before : List ℕ) (at : ℕ) (ts : List (Marked (Option ℕ))) → Below (at + length ts) (repeated before at ts)
repeated_below before at [] = tt
repeated_below before at ((none, og) ∷ ts) =
    below_more (suc at + length ts) (at + suc (length ts)) (repeated before (suc at) ts) (omega arith) (repeated_below before (suc at) ts)
repeated_below before at ((some t, og) ∷ ts) = go (member t before) (repeated_below (t ∷ before) (suc at) ts)
  where
    go : (b : Bool) → Below (suc at + length ts) (repeated (t ∷ before) (suc at) ts)
        → Below (at + suc (length ts)) (elim b [ true ↦ some at | false ↦ repeated (t ∷ before) (suc at) ts ])
    go true h = omega arith
    go false h = below_more (suc at + length ts) (at + suc (length ts)) (repeated (t ∷ before) (suc at) ts) (omega arith) h

over_repeated_below : (at : ℕ) (o : Over) → Below (at + over_size o) (over_repeated at o)
over_repeated_below at (filter p) = tt
over_repeated_below at (other (limit amount)) = tt
over_repeated_below at (other (offset amount)) = tt
over_repeated_below at (other (order key)) = tt
over_repeated_below at (other (projection items)) = tt
over_repeated_below at (other (remap targets)) =
    below_more (at + length targets) (at + suc (length targets)) (repeated [] at targets) (omega arith) (repeated_below [] at targets)
over_repeated_below at (other (aggregate es gs)) = tt

target_below : (at : ℕ) (n : Node) → Below (at + node_size n) (target_repeated at n)
target_below at (leaf og l) = tt
target_below at (over og o source) =
    let from = at + node_size source in
    let most = at + (node_size source + over_size o) in
    below_first most (target_repeated at source) (over_repeated from o)
    (below_more from most (target_repeated at source) (omega arith) (target_below at source))
    (below_more (from + over_size o) most (over_repeated from o) (omega arith) (over_repeated_below from o))
target_below at (join og outer j left right) =
    let from = at + node_size left in
    let most = at + (node_size left + node_size right + join_size j) in
    below_first most (target_repeated at left) (target_repeated from right)
    (below_more from most (target_repeated at left) (omega arith) (target_below at left))
    (below_more (from + node_size right) most (target_repeated from right) (omega arith) (target_below from right))

-- ---- the places of check's refusals

read_below : (text : List ℕ) (i : ℕ) (cs : List Cell) (st : Stack) (place : ℕ) → read text i cs st ≡ lacking place → place < i + length cs
unfolding read
read_below text i [] st place e = absurd (let z : ◌≡◌ {A = ℕ} 0 1 = cc in omega arith)
read_below text i (c ∷ cs) st place e = go (after text c st) e (λ next. read_below text (suc i) cs next place)
  where
    go : (o : Option Stack) → elim o [ none ↦ lacking i | some next ↦ read text (suc i) cs next ] ≡ lacking place
        → ((next : Stack) → read text (suc i) cs next ≡ lacking place → place < suc i + length cs) → place < i + suc (length cs)
    go none h ih = let z : i ≡ place = cc in omega arith
    go (some next) h ih = let z = ih next h in omega arith

abbrev pub Placed : List ℕ → Answer Node → Type 0
Placed s (done n) = Unit {0}
Placed s (refused number place) = (2 ≤ number) × (number ≤ 10) × (place < places s number)

module _ (s : List ℕ) where
  tested : (b : Bool) (next : Answer Node) (number : ℕ) → 2 ≤ number → number ≤ 10 → 0 < places s number → Placed s next → Placed s (test b number next)
  tested true next number p q r h = h
  tested false next number p q r h = (p, q, r)

  if_unfound : (o : Option ℕ) (next : Answer Node) (number : ℕ) → 2 ≤ number → number ≤ 10 → Below (places s number) o → Placed s next → Placed s (unfound o number next)
  if_unfound none next number p q r h = h
  if_unfound (some place) next number p q r h = (p, q, r)

  bad_cell_placed : (t : Tag) (place : ℕ) → place < cell_count s → Placed s (refused (bad_number t) place)
  bad_cell_placed unknown place h = (omega arith, omega arith, h)
  bad_cell_placed not_carried place h = (omega arith, omega arith, h)
  bad_cell_placed (carried flags a b c) place h = (omega arith, omega arith, h)

  -- the cell count, as a place
  counted : Placed s (refused 8 (cell_count s))
  counted = (omega arith, omega arith, omega arith)

  scoped : (n : Node) → node_size n ≡ cell_count s → Placed s (in_scope (schema s) n)
  scoped n e =
      if_unfound (outside (schema s) 0 n) (unfound (target_repeated 0 n) 10 (done n)) 9 (omega arith) (omega arith)
      (below_more (0 + node_size n) (cell_count s) (outside (schema s) 0 n) (omega arith) (outside_below (schema s) 0 n))
      (if_unfound (target_repeated 0 n) (done n) 10 (omega arith) (omega arith)
      (below_more (0 + node_size n) (cell_count s) (target_repeated 0 n) (omega arith) (target_below 0 n)) tt)

  module _ (b : Bytes s) (good : bad_cell s ≡ none) where
    sized : (n : Node) → read (text s) 0 (cells_of s) [] ≡ stack (node_tree n ∷ []) → node_size n ≡ cell_count s
    sized n e =
        let runs = read_runs (text s) 0 (cells_of s) [] (node_tree n ∷ []) e in
        let same : cells_of s ≡ cells n = sym (sound (tables_at s) (table_count s) (λ k. Unit {0}) (λ k x. tt) (cells_pass s b good) runs).cells_are in
        sym (node_length n) ∙ ap length (sym same) ∙ length_cells_of s

    read_placed : (r : Read) → read (text s) 0 (cells_of s) [] ≡ r → Placed s (one_plan (cell_count s) r >>= in_scope (schema s))
    read_placed (lacking place) e = (omega arith, omega arith, let p = read_below (text s) 0 (cells_of s) [] place e in omega (arith, p, length_cells_of s))
    read_placed (stack []) e = counted
    read_placed (stack (node_tree n ∷ [])) e = scoped n (sized n e)
    read_placed (stack (node_tree n ∷ t ∷ st)) e = counted
    read_placed (stack (expression_tree x ∷ st)) e = counted
    read_placed (stack (label_tree l ∷ st)) e = counted
    read_placed (stack (item_tree i ∷ st)) e = counted
    read_placed (stack (key_tree k ∷ st)) e = counted
    read_placed (stack (target_tree t ∷ st)) e = counted
    read_placed (stack (agg_tree a ∷ st)) e = counted
    read_placed (stack (row_tree es ∷ st)) e = counted

  cells_placed : Bytes s → (o : Option ℕ) → bad_cell s ≡ o → Below (cell_count s) o
      → Placed s (cells_checked s o (one_plan (cell_count s) (read (text s) 0 (cells_of s) []) >>= in_scope (schema s)))
  cells_placed b none e h = read_placed b e (read (text s) 0 (cells_of s) []) refl
  cells_placed b (some place) e h = bad_cell_placed (tag_of (cell s place).tag) place h

  pub plan_placed : Bytes s → Placed s (plan s)
  unfolding plan bad_record bad_cell
  plan_placed b =
      let records = table_count s + column_count s in
      let in_records = below_more (0 + records) records (bad_record s) (omega arith) (below_failing (record_ok s) 0 records) in
      let in_cells =
      below_more (0 + cell_count s) (cell_count s) (bad_cell s) (omega arith)
      (below_failing (λ i. cell_ok (origins s) (tables_at s) (table_count s) (cell s i)) 0 (cell_count s)) in
      tested (length_ok s) _ 2 (omega arith) (omega arith) (omega arith)
      (tested (edition_ok s) _ 3 (omega arith) (omega arith) (omega arith)
      (tested (parts_ok s) _ 4 (omega arith) (omega arith) (omega arith)
      (if_unfound (bad_record s) _ 5 (omega arith) (omega arith) in_records (cells_placed b (bad_cell s) refl in_cells))))

-- ---- ConstantFolding

-- If this is refused, then by 11 to 13, and at a place below `most`.
abbrev pub Fails : {A : Type 0} → (most : ℕ) → Answer A → Type 0
Fails most (done a) = Unit {0}
Fails most (refused number place) = (11 ≤ number) × (number ≤ 13) × (place < most)

fails_then : {A B : Type 0} (most : ℕ) (r : Answer A) (f : A → Answer B) → Fails most r → ((a : A) → Fails most (f a)) → Fails most (r >>= f)
fails_then most (done a) f h k = k a
fails_then most (refused number place) f h k = h

fails_more : {A : Type 0} (a b : ℕ) (r : Answer A) → a ≤ b → Fails a r → Fails b r
fails_more a b (done x) i h = tt
fails_more a b (refused number place) i h = (h.0, h.1, let p = h.2 in omega arith)

placed : {A : Type 0} (most place : ℕ) (r : Result A) → place < most → Fails most (at_place place r)
placed most place (ok a) h = tt
placed most place (err overflow) h = (omega arith, omega arith, h)
placed most place (err division_by_zero) h = (omega arith, omega arith, h)
placed most place (err mismatch) h = (omega arith, omega arith, h)

fold_fails : (most place : ℕ) (e : Expression) → place < most → Fails most (fold place e)
fold_fails most place e h = go (contains_column (λ c. true) e)
  where
    go : (b : Bool) → Fails most (fold_by b place e)
    go true = tt
    go false = placed most place (bind (evaluate [] e) (λ v. ok (constant (origin e) v))) h

expression_fails : (first : ℕ) (e : Expression) → Fails (first + size e) (fold_expression first e)
expression_fails first (constant og v) = fold_fails (first + 1) first (constant og v) (omega arith)
expression_fails first (column og c) = fold_fails (first + 1) first (column og c) (omega arith)
expression_fails first (unary og o x) =
    let most = first + suc (size x) in
    fails_then most (fold_expression first x) (λ y. fold (first + size x) (unary og o y))
    (fails_more (first + size x) most (fold_expression first x) (omega arith) (expression_fails first x))
    (λ y. fold_fails most (first + size x) (unary og o y) (omega arith))
expression_fails first (binary og o l r) =
    let most = first + suc (size l + size r) in
    let place = first + (size l + size r) in
    fails_then most (fold_expression first l) (λ x. fold_expression (first + size l) r >>= λ y. fold place (binary og o x y))
    (fails_more (first + size l) most (fold_expression first l) (omega arith) (expression_fails first l))
    (λ x. fails_then most (fold_expression (first + size l) r) (λ y. fold place (binary og o x y))
    (fails_more (first + size l + size r) most (fold_expression (first + size l) r) (omega arith) (expression_fails (first + size l) r))
    (λ y. fold_fails most place (binary og o x y) (omega arith)))

each_fails : {A : Type 0} (f : ℕ → A → Answer A) (cells : A → ℕ) → ((first : ℕ) (x : A) → Fails (first + cells x) (f first x))
    → (first : ℕ) (xs : List A) → Fails (first + sum cells xs) (fold_each f cells first xs)
each_fails f cells h first [] = tt
each_fails f cells h first (x ∷ xs) =
    let most = first + sum cells (x ∷ xs) in
    let later = fold_each f cells (first + cells x) xs in
    fails_then most (f first x) (λ y. later >>= λ ys. done (y ∷ ys)) (fails_more (first + cells x) most (f first x) (omega arith) (h first x))
    (λ y. fails_then most later (λ ys. done (y ∷ ys))
    (fails_more (first + cells x + sum cells xs) most later (omega arith) (each_fails f cells h (first + cells x) xs)) (λ ys. tt))

-- what is made of a part, whose cells stand before the cell of what it is a part of
part_fails : {A B : Type 0} (first cells : ℕ) (r : Answer A) (f : A → B) → Fails (first + cells) r → Fails (first + suc cells) (r >>= λ a. done (f a))
part_fails first cells r f h =
    fails_then (first + suc cells) r (λ a. done (f a)) (fails_more (first + cells) (first + suc cells) r (omega arith) h) (λ a. tt)

optional_fails : (first : ℕ) (p : Option Expression) → Fails (first + optional_size p) (fold_optional first p)
optional_fails first none = tt
optional_fails first (some e) = fails_then (first + size e) (fold_expression first e) (λ x. done (some x)) (expression_fails first e) (λ x. tt)

row_fails : (first : ℕ) (row : Marked (List Expression)) → Fails (first + row_size row) (fold_row first row)
row_fails first row =
    part_fails first (sum size row.0) (fold_each fold_expression size first row.0) (λ es. (es, row.1)) (each_fails fold_expression size expression_fails first row.0)

one_part_fails : {A : Type 0} (first : ℕ) (p : Expression × A × ℕ) → Fails (first + suc (size p.0)) (fold_part first p)
one_part_fails first p = part_fails first (size p.0) (fold_expression first p.0) (λ x. (x, p.1, p.2)) (expression_fails first p.0)

leaf_fails : (first : ℕ) (l : Leaf) → Fails (first + leaf_size l) (fold_leaf first l)
leaf_fails first (scan t al p) = part_fails first (optional_size p) (fold_optional first p) (λ q. scan t al q) (optional_fails first p)
leaf_fails first (lookup a t al vs) = tt
leaf_fails first (nothing ls) = tt
leaf_fails first (values rs) =
    part_fails first (sum row_size rs) (fold_each fold_row row_size first rs) (λ q. values q) (each_fails fold_row row_size row_fails first rs)

over_fails : (first : ℕ) (o : Over) → Fails (first + over_size o) (fold_over first o)
over_fails first (filter e) = part_fails first (size e) (fold_expression first e) (λ p. filter p) (expression_fails first e)
over_fails first (other (limit k)) = tt
over_fails first (other (offset k)) = tt
over_fails first (other (order ks)) =
    part_fails first (sum key_size ks) (fold_each fold_part key_size first ks) (λ q. other (order q)) (each_fails fold_part key_size one_part_fails first ks)
over_fails first (other (projection is)) =
    part_fails first (sum item_size is) (fold_each fold_part item_size first is) (λ q. other (projection q)) (each_fails fold_part item_size one_part_fails first is)
over_fails first (other (remap ts)) = tt
over_fails first (other (aggregate es gs)) = tt

join_fails : (first : ℕ) (j : Join) → Fails (first + join_size j) (fold_join first j)
join_fails first (nested_loop p) = part_fails first (optional_size p) (fold_optional first p) (λ q. nested_loop q) (optional_fails first p)
join_fails first (hash i j) = tt

pub folding_fails : (first : ℕ) (n : Node) → Fails (first + node_size n) (ConstantFolding first n)
folding_fails first (leaf og l) = fails_then (first + leaf_size l) (fold_leaf first l) (λ m. done (leaf og m)) (leaf_fails first l) (λ m. tt)
folding_fails first (over og o s) =
    let most = first + (node_size s + over_size o) in
    let own = fold_over (first + node_size s) o in
    fails_then most own (λ p. ConstantFolding first s >>= λ t. done (over og p t))
    (fails_more (first + node_size s + over_size o) most own (omega arith) (over_fails (first + node_size s) o))
    (λ p. fails_then most (ConstantFolding first s) (λ t. done (over og p t))
    (fails_more (first + node_size s) most (ConstantFolding first s) (omega arith) (folding_fails first s)) (λ t. tt))
folding_fails first (join og outer j a b) =
    let most = first + (node_size a + node_size b + join_size j) in
    let from = first + (node_size a + node_size b) in
    let right = ConstantFolding (first + node_size a) b in
    fails_then most (fold_join from j) (λ k. ConstantFolding first a >>= λ l. right >>= λ r. done (join og outer k l r))
    (fails_more (from + join_size j) most (fold_join from j) (omega arith) (join_fails from j))
    (λ k. fails_then most (ConstantFolding first a) (λ l. right >>= λ r. done (join og outer k l r))
    (fails_more (first + node_size a) most (ConstantFolding first a) (omega arith) (folding_fails first a))
    (λ l. fails_then most right (λ r. done (join og outer k l r))
    (fails_more (first + node_size a + node_size b) most right (omega arith) (folding_fails (first + node_size a) b)) (λ r. tt)))
