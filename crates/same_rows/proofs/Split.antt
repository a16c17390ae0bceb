-- One split of a join predicate keeps T.
use Rattle.std.specs.Prelude.{ℕ, zero, suc, ◌+◌, ◌-◌, ◌≤◌, ◌<◌, Bool, true, false, not, ◌&&◌, ◌||◌, cond, ◌≡◌, refl, List, [], ◌∷◌, ◌++◌, map, eqb, ltb, length}
use Rattle.std.proofs.Math.Bool.{and-true, and-false, and_assoc, and_comm, not-not}
use Rattle.std.proofs.Common.{sym, ap, ap₂, ◌∙◌, subst, arith, get_or-append-add}
use Rattle.std.proofs.Math.Path.{fun_ext}
use Rattle.std.proofs.Math.Option.{Option, none, some}
use Rattle.std.proofs.Math.ListN.{get_or-append}
use Rattle.value.specs.Value.{Truth, False, Unknown, True, Value, null}
use Rattle.sql.specs.Schema.{Schema}
use Rattle.sql.specs.Expression.{Logical, Unary, Binary, logical, Equal, function, Expression, constant, column, unary, binary, and, Row, contains_column, map_columns, replace_column, shift_column_down, shift_column_up, into_cnf_vec, and_all, and_vec, is_column, is_column_lookup}
use Rattle.sql.specs.Plan.{Leaf, scan, lookup, nothing, values, Over, filter, other, Join, nested_loop, hash, Node, leaf, over, join, columns}
use Rattle.sql.specs.Optimizer.{and_with, push_into, push_part, ref_left, ref_right, cons_if, keep, for_left, for_right, for_both, ordered, equijoin, is_number, is_lookup_of, or_else, last_lookup, copied, copy_up, copy_down, flat_map, push_left, push_right, map_optional, split}
use Rattle.rows.specs.Database.{Wide, no_rows, and_row, Database}
use Rattle.rows.specs.Reading.{is_true, joined_rows}
use Rattle.rows.specs.Equalities.{all}
use Rattle.same_rows.proofs.Booleans.{false≢true, and_left, and_right, not_true, eqb_eq, eqb_self, lt_is, ge_is}
use Rattle.same_rows.specs.Total.{Columns, at, from_value, equal_totals, as_truth, total, true_at, optional_true, optional_true_at}
use Rattle.same_rows.proofs.Normal.{true_and, all_append, all_cnf, true_and_vec, map_columns_total, unread, contains_map, contains_fewer}
use Rattle.same_rows.proofs.Comparing.{Alike, alike, alike_sym}
use Rattle.same_rows.proofs.Lookups.{Lookup, lookup_of, lookup_columns, lookup_alike}
use Rattle.same_rows.proofs.TotalRows.{Table, keep_table, join_true, total_join, total_table, total_columns, wide}

-- ---- lists of rows that pass a test

keep_if : (f : Row → Bool) (b : Bool) (x : Row) (xs : List Row) → keep f (cons_if b x xs) ≡ cons_if (f x && b) x (keep f xs)
keep_if f true x xs = ap (λ z. cons_if z x (keep f xs)) (sym (and-true (f x)))
keep_if f false x xs = ap (λ z. cons_if z x (keep f xs)) (sym (and-false (f x)))

pub keep_and : (f g : Row → Bool) (xs : List Row) → keep (λ x. f x && g x) xs ≡ keep f (keep g xs)
keep_and f g [] = refl
keep_and f g (x ∷ xs) = ap (cons_if (f x && g x) x) (keep_and f g xs) ∙ sym (keep_if f (g x) x (keep g xs))

pub keep_same : (f g : Row → Bool) → ((x : Row) → f x ≡ g x) → (xs : List Row) → keep f xs ≡ keep g xs
keep_same f g h [] = refl
keep_same f g h (x ∷ xs) = ap₂ (λ b ys. cons_if b x ys) (h x) (keep_same f g h xs)

pub keep_all : (xs : List Row) → keep (λ x. true) xs ≡ xs
keep_all [] = refl
keep_all (x ∷ xs) = ap (λ ys. x ∷ ys) (keep_all xs)

if_append : (b : Bool) (x : Row) (xs ys : List Row) → cons_if b x xs ++ ys ≡ cons_if b x (xs ++ ys)
if_append true x xs ys = refl
if_append false x xs ys = refl

keep_append : (f : Row → Bool) (xs ys : List Row) → keep f (xs ++ ys) ≡ keep f xs ++ keep f ys
keep_append f [] ys = refl
keep_append f (x ∷ xs) ys = ap (cons_if (f x) x) (keep_append f xs ys) ∙ sym (if_append (f x) x (keep f xs) (keep f ys))

-- ---- joined rows that pass a test which falls into one of the left row, one of the right row, and one of both

module _ (n : ℕ) (whole of_left of_right of_both : Row → Bool) (parts : (l r : Row) → length l ≡ n → whole (l ++ r) ≡ (of_left l && (of_right r && of_both (l ++ r)))) where
  row_kept : (l : Row) → length l ≡ n → of_left l ≡ true → (right : List Row) → keep whole (map (λ r. l ++ r) right) ≡ keep of_both (map (λ r. l ++ r) (keep of_right right))
  row_kept l h a [] = refl
  row_kept l h a (r ∷ right) = go (of_right r) (parts l r h ∙ ap (λ z. z && (of_right r && of_both (l ++ r))) a) (row_kept l h a right)
    where
      go : (b : Bool) → whole (l ++ r) ≡ (b && of_both (l ++ r)) → keep whole (map (λ r. l ++ r) right) ≡ keep of_both (map (λ r. l ++ r) (keep of_right right))
          → cons_if (whole (l ++ r)) (l ++ r) (keep whole (map (λ r. l ++ r) right)) ≡ keep of_both (map (λ r. l ++ r) (cons_if b r (keep of_right right)))
      go true k ih = ap₂ (λ b ys. cons_if b (l ++ r) ys) k ih
      go false k ih = ap₂ (λ b ys. cons_if b (l ++ r) ys) k ih

  row_dropped : (l : Row) → length l ≡ n → of_left l ≡ false → (right : List Row) → keep whole (map (λ r. l ++ r) right) ≡ []
  row_dropped l h a [] = refl
  row_dropped l h a (r ∷ right) =
      ap₂ (λ b ys. cons_if b (l ++ r) ys) (parts l r h ∙ ap (λ z. z && (of_right r && of_both (l ++ r))) a) (row_dropped l h a right)

  one_row : (l : Row) → length l ≡ n → (b : Bool) → of_left l ≡ b → (right more : List Row)
      → keep whole (map (λ r. l ++ r) right) ++ keep of_both more ≡ keep of_both (elim b [ true ↦ map (λ r. l ++ r) (keep of_right right) ++ more | false ↦ more ])
  one_row l h true a right more = ap (λ z. z ++ keep of_both more) (row_kept l h a right) ∙ sym (keep_append of_both (map (λ r. l ++ r) (keep of_right right)) more)
  one_row l h false a right more = ap (λ z. z ++ keep of_both more) (row_dropped l h a right)

  joined_if : (b : Bool) (l : Row) (left right : List Row)
      → joined_rows (cons_if b l left) right ≡ elim b [ true ↦ map (λ r. l ++ r) right ++ joined_rows left right | false ↦ joined_rows left right ]
  joined_if true l left right = refl
  joined_if false l left right = refl

  keep_joined : {left : List Row} → Wide n left → (right : List Row) → keep whole (joined_rows left right) ≡ keep of_both (joined_rows (keep of_left left) (keep of_right right))
  keep_joined no_rows right = refl
  keep_joined (and_row {row = l} {rows = left} h w) right =
      keep_append whole (map (λ r. l ++ r) right) (joined_rows left right)
      ∙ (ap (λ z. keep whole (map (λ r. l ++ r) right) ++ z) (keep_joined w right)
      ∙ (one_row l h (of_left l) refl right (joined_rows (keep of_left left) (keep of_right right))
      ∙ ap (keep of_both) (sym (joined_if (of_left l) l (keep of_left left) (keep of_right right)))))

-- ---- push_into keeps what is true in the source

true_and_with : (columns : Columns) (new : ℕ) (e : Expression) (p : Option Expression) → true_at columns (and_with new e p) ≡ (true_at columns e && optional_true_at columns p)
true_and_with columns new e none = sym (and-true (true_at columns e))
true_and_with columns new e (some p) = true_and columns new e p

-- `back` is handed back, and the rest of the part is now a test of the source's rows
pub record Pushed (database : Database) (part : Option Expression) (source pushed : Node) (back : List Expression) : Type 0 where
  pub test : Row → Bool
  pub same_table : total_table database pushed ≡ keep_table test (total_table database source)
  pub together : (holds : Expression → Bool) (row : Row) → optional_true holds part ≡ optional_true_at (at row) part
      → optional_true holds part ≡ (test row && all holds back)

module _ (database : Database) (new : ℕ) (e : Expression) where
  abbrev Takes : Node → Node → Type 0
  Takes source pushed = total_table database pushed ≡ keep_table (λ row. true_at (at row) e) (total_table database source)

  taken : (source pushed : Node) → Takes source pushed → Pushed database (some e) source pushed []
  taken source pushed h = record { test = λ row. true_at (at row) e; same_table = h; together = λ holds row k. k ∙ sym (and-true (true_at (at row) e)) }

  handed_back : (source : Node) → Pushed database (some e) source source (e ∷ [])
  handed_back source = record {
    test = λ row. true;
    same_table = ap (λ z. ((total_table database source).0, z)) (sym (keep_all (total_table database source).1));
    together = λ holds row k. sym (and-true (holds e));
  }

  both_tests : (w : ℕ) (f g : Row → Bool) → ((row : Row) → f row ≡ (true_at (at row) e && g row)) → (rows : List Row)
      → ◌≡◌ {A = Table} (w, keep f rows) (w, keep (λ row. true_at (at row) e) (keep g rows))
  both_tests w f g h rows = ap (λ z. (w, z)) (keep_same f (λ row. true_at (at row) e && g row) h rows ∙ keep_and (λ row. true_at (at row) e) g rows)

  push_into_join : (og : ℕ) (outer : Bool) (p : Option Expression) (left right : Node)
      → Takes (join og outer (nested_loop p) left right) (join og outer (nested_loop (some (and_with new e p))) left right)
  push_into_join og outer p left right = both_tests ((total_table database left).0 + (total_table database right).0)
      (λ row. true_at (at row) (and_with new e p)) (λ row. optional_true_at (at row) p) (λ row. true_and_with (at row) new e p)
      (joined_rows (total_table database left).1 (total_table database right).1)

  push_into_filter : (og : ℕ) (p : Expression) (source : Node) → Takes (over og (filter p) source) (over og (filter (and new e p)) source)
  push_into_filter og p source = both_tests (total_table database source).0 (λ row. true_at (at row) (and new e p)) (λ row. true_at (at row) p)
      (λ row. true_and (at row) new e p) (total_table database source).1

  push_into_scan : (og table : ℕ) (alias : Option ℕ) (p : Option Expression) → Takes (leaf og (scan table alias p)) (leaf og (scan table alias (some (and_with new e p))))
  push_into_scan og table alias p = both_tests (total_table database (leaf og (scan table alias p))).0 (λ row. true_at (at row) (and_with new e p)) (λ row. optional_true_at (at row) p)
      (λ row. true_and_with (at row) new e p) (database.table_rows table)

  no_node : {A : Type 0} (n : Node) → ◌≡◌ {A = Option Node} none (some n) → A
  no_node n h = absurd (let y : ◌≡◌ {A = ℕ} 0 1 = cc in omega arith)

  -- what push_into gives is the node filtered by the expression
  pub push_into_table : (source pushed : Node) → push_into new e source ≡ some pushed → Takes source pushed
  push_into_table (leaf og (scan table alias p)) pushed h = let k : leaf og (scan table alias (some (and_with new e p))) ≡ pushed = cc in rw (← k) (push_into_scan og table alias p)
  push_into_table (leaf og (lookup access table alias constants)) pushed h = no_node pushed h
  push_into_table (leaf og (nothing labels)) pushed h = no_node pushed h
  push_into_table (leaf og (values rows)) pushed h = no_node pushed h
  push_into_table (over og (filter p) source) pushed h = let k : over og (filter (and new e p)) source ≡ pushed = cc in rw (← k) (push_into_filter og p source)
  push_into_table (over og (other o) source) pushed h = no_node pushed h
  push_into_table (join og outer (nested_loop p) left right) pushed h =
      let k : join og outer (nested_loop (some (and_with new e p))) left right ≡ pushed = cc in rw (← k) (push_into_join og outer p left right)
  push_into_table (join og outer (hash a b) left right) pushed h = no_node pushed h

push_part_table : (database : Database) (new : ℕ) (part : Option Expression) (source : Node) → Pushed database part source (push_part new part source).0 (push_part new part source).1
push_part_table database new none source = record {
  test = λ row. true;
  same_table = ap (λ z. ((total_table database source).0, z)) (sym (keep_all (total_table database source).1));
  together = λ holds row k. refl;
}
push_part_table database new (some e) source = go (push_into new e source) refl
  where
    go : (o : Option Node) → push_into new e source ≡ o
        → Pushed database (some e) source (Rattle.sql.specs.Optimizer.pushed_or_back e source o).0 (Rattle.sql.specs.Optimizer.pushed_or_back e source o).1
    go none h = handed_back database new e source
    go (some pushed) h = taken database new e source pushed (push_into_table database new e source pushed h)

-- ---- each conjunct goes left, right, or stays

all_if : (f : Expression → Bool) (b : Bool) (x : Expression) (xs : List Expression) → all f (cons_if b x xs) ≡ ((not b || f x) && all f xs)
all_if f true x xs = refl
all_if f false x xs = refl

-- of a conjunct with value v that refers to the left source (a) or to the right (b)
route_one : (v a b p q s : Bool) → (v && (p && (q && s))) ≡ (((not (not b) || v) && p) && (((not (not a) || v) && q) && ((not (a && b) || v) && s)))
route_one true true true p q s = refl
route_one true true false p q s = refl
route_one true false true p q s = refl
route_one true false false p q s = refl
route_one false a false p q s = refl
route_one false false true p q s = sym (and-false p)
route_one false true true p q s = sym (ap (λ z. p && z) (and-false q) ∙ and-false p)

route : (n : ℕ) (f : Expression → Bool) (cnf : List Expression) → all f cnf ≡ (all f (for_left n cnf) && (all f (for_right n cnf) && all f (for_both n cnf)))
route n f [] = refl
route n f (x ∷ cnf) =
    ap (λ z. f x && z) (route n f cnf)
    ∙ (route_one (f x) (ref_left n x) (ref_right n x) (all f (for_left n cnf)) (all f (for_right n cnf)) (all f (for_both n cnf))
    ∙ sym (ap₂ ◌&&◌ (all_if f (not (ref_right n x)) x (for_left n cnf))
    (ap₂ ◌&&◌ (all_if f (not (ref_left n x)) x (for_right n cnf)) (all_if f (ref_left n x && ref_right n x) x (for_both n cnf)))))

all_kept : (f : Expression → Bool) (es : List Expression) → all f (keep f es) ≡ true
all_kept f [] = refl
all_kept f (x ∷ es) = all_if f (f x) x (keep f es) ∙ (ap (λ z. (not (f x) || f x) && z) (all_kept f es) ∙ go (f x))
  where
    go : (b : Bool) → ((not b || b) && true) ≡ true
    go true = refl
    go false = refl

all_same : (q f g : Expression → Bool) → ((e : Expression) → q e ≡ true → f e ≡ g e) → (es : List Expression) → all q es ≡ true → all f es ≡ all g es
all_same q f g h [] k = refl
all_same q f g h (x ∷ es) k = ap₂ ◌&&◌ (h x (and_left (q x) (all q es) k)) (all_same q f g h es (and_right (q x) (all q es) k))

all_map : (f : Expression → Bool) (g : Expression → Expression) (es : List Expression) → all f (map g es) ≡ all (λ e. f (g e)) es
all_map f g [] = refl
all_map f g (x ∷ es) = ap (λ z. f (g x) && z) (all_map f g es)

all_flat_map : (f h : Expression → Bool) (g : Expression → List Expression) → ((e : Expression) → h e ≡ true → all f (g e) ≡ true) → (es : List Expression) → all h es ≡ true → all f (flat_map g es) ≡ true
all_flat_map f h g k [] i = refl
all_flat_map f h g k (x ∷ es) i =
    all_append f (g x) (flat_map g es) ∙ ap₂ ◌&&◌ (k x (and_left (h x) (all h es) i)) (all_flat_map f h g k es (and_right (h x) (all h es) i))

-- ---- lookups that are copied

no_expression : {A : Type 0} (e : Expression) → ◌≡◌ {A = Option Expression} none (some e) → A
no_expression e h = absurd (let y : ◌≡◌ {A = ℕ} 0 1 = cc in omega arith)

is_number_some : (c : ℕ) (o : Option ℕ) → is_number c o ≡ true → o ≡ some c
is_number_some c none h = false≢true h
is_number_some c (some d) h = ap some (eqb_eq d c h)

-- the last lookup of a column is a lookup of it, and one of the list
last_found : (g : Expression → Bool) (c : ℕ) (es : List Expression) (e : Expression) → last_lookup c es ≡ some e → all g es ≡ true → (is_column_lookup e ≡ some c) × (g e ≡ true)
last_found g c [] e h k = no_expression e h
last_found g c (x ∷ es) e h k =
    go (last_lookup c es) (is_lookup_of c x) refl h (λ y. last_found g c es e y (and_right (g x) (all g es) k))
  where
    go : (o : Option Expression) (b : Bool) → is_lookup_of c x ≡ b → or_else o (cond b (some x) none) ≡ some e
        → (o ≡ some e → (is_column_lookup e ≡ some c) × (g e ≡ true)) → (is_column_lookup e ≡ some c) × (g e ≡ true)
    go (some y) b i j ih = ih j
    go none true i j ih = let z : x ≡ e = cc in (rw (← z) (is_number_some c (is_column_lookup x) i), rw (← z) (and_left (g x) (all g es) k))
    go none false i j ih = no_expression e j

trues : (es : List Expression) → all (λ z. true) es ≡ true
trues [] = refl
trues (x ∷ es) = trues es

module _ (row : Columns) (lookups : List Expression) (known : all (true_at row) lookups ≡ true) where
  copy_same : (from to : ℕ) (e : Expression) → Lookup from e → Alike (row from) (row to) → true_at row (replace_column from to e) ≡ true_at row e
  copy_same from to e k h = ap (λ z. is_true (as_truth z)) (map_columns_total row (λ c. cond (eqb c from) to c) e
      ∙ sym (lookup_alike row (λ c. row (cond (eqb c from) to c)) k (rw (eqb_self from) h)))

  copied_true : (from to : ℕ) → Alike (row from) (row to) → (o : Option Expression) → last_lookup from lookups ≡ o → all (true_at row) (copied from to o) ≡ true
  copied_true from to h none k = refl
  copied_true from to h (some e) k =
      let (i, j) = last_found (true_at row) from lookups e k known in
      ap (λ z. z && true) (copy_same from to e (lookup_of e from i) h ∙ j)

-- a copy to a column that fails the test has no column that passes it
module _ (test : ℕ → Bool) (lookups : List Expression) where
  copied_side : (from to : ℕ) → test to ≡ false → (o : Option Expression) → last_lookup from lookups ≡ o → all (λ e. not (contains_column test e)) (copied from to o) ≡ true
  copied_side from to h none k = refl
  copied_side from to h (some e) k =
      ap (λ z. not z && true) (contains_map test (λ c. cond (eqb c from) to c) e
      ∙ contains_fewer (λ c. test (cond (eqb c from) to c)) (λ d. not (eqb d from)) moved e
      (lookup_columns (lookup_of e from (last_found (λ z. true) from lookups e k (trues lookups)).0)))
    where
      moved : (c : ℕ) → not (eqb c from) ≡ false → test (cond (eqb c from) to c) ≡ false
      moved c q = rw (sym (not-not (eqb c from)) ∙ ap not q) h

-- ---- equijoins

pub record Equijoin (e : Expression) (pair : ℕ × ℕ) : Type 0 where
  pub a : ℕ
  pub b : ℕ
  pub own : ℕ
  pub of_a : ℕ
  pub of_b : ℕ
  pub is : e ≡ binary own Equal (column of_a a) (column of_b b)
  pub pair_is : cond (ltb b a) (b, a) (a, b) ≡ pair

no_pair : {A : Type 0} (p : ℕ × ℕ) → ◌≡◌ {A = Option (ℕ × ℕ)} none (some p) → A
no_pair p h = absurd (let y : ◌≡◌ {A = ℕ} 0 1 = cc in omega arith)

equal_columns : (own : ℕ) (l r : Expression) (p : ℕ × ℕ) → ordered (is_column l) (is_column r) ≡ some p → Equijoin (binary own Equal l r) p
equal_columns own (constant og v) r p h = no_pair p h
equal_columns own (column og a) (constant og' v) p h = no_pair p h
equal_columns own (column og a) (column og' b) p h = record { a = a; b = b; own = own; of_a = og; of_b = og'; is = refl; pair_is = cc }
equal_columns own (column og a) (unary og' o x) p h = no_pair p h
equal_columns own (column og a) (binary og' o x y) p h = no_pair p h
equal_columns own (unary og o x) r p h = no_pair p h
equal_columns own (binary og o x y) r p h = no_pair p h

pub equijoin_of : (e : Expression) (p : ℕ × ℕ) → equijoin e ≡ some p → Equijoin e p
equijoin_of (constant og v) p h = no_pair p h
equijoin_of (column og c) p h = no_pair p h
equijoin_of (unary og o x) p h = no_pair p h
equijoin_of (binary og (logical o) l r) p h = no_pair p h
equijoin_of (binary og Equal l r) p h = equal_columns og l r p h
equijoin_of (binary og (function f) l r) p h = no_pair p h

is_true_true : (t : Truth) → is_true t ≡ true → t ≡ True
is_true_true False h = false≢true h
is_true_true Unknown h = false≢true h
is_true_true True h = refl

ordered_alike : (row : Columns) (c : Bool) (a b : ℕ) → Alike (row a) (row b) → Alike (row (cond {A = ℕ × ℕ} c (b, a) (a, b)).0) (row (cond {A = ℕ × ℕ} c (b, a) (a, b)).1)
ordered_alike row true a b k = alike_sym k
ordered_alike row false a b k = k

equijoin_alike : (row : Columns) (e : Expression) (p : ℕ × ℕ) → Equijoin e p → true_at row e ≡ true → Alike (row p.0) (row p.1)
equijoin_alike row e p q h =
    rw (← q.pair_is) (ordered_alike row (ltb q.b q.a) q.a q.b
    (alike (row q.a) (row q.b) (is_true_true (equal_totals true (from_value (row q.a)) (from_value (row q.b))) (rw q.is at h))))

-- the lower column of an equijoin that refers to both sources is the left one's
sides_of : (n a b : ℕ) (s t u : Bool) → ltb a n ≡ s → ltb b n ≡ t → ltb b a ≡ u → ((s || t) && (not s || not t)) ≡ true
    → (ltb (cond {A = ℕ × ℕ} u (b, a) (a, b)).0 n ≡ true) × (ltb (cond {A = ℕ × ℕ} u (b, a) (a, b)).1 n ≡ false)
sides_of n a b true true u hs ht hu h = false≢true h
sides_of n a b false false u hs ht hu h = false≢true h
sides_of n a b true false false hs ht hu h = (hs, ht)
sides_of n a b true false true hs ht hu h = absurd (let x = lt_is a n hs in let y = ge_is b n ht in let z = lt_is b a hu in omega arith)
sides_of n a b false true true hs ht hu h = (ht, hs)
sides_of n a b false true false hs ht hu h = absurd (let x = lt_is b n ht in let y = ge_is a n hs in let z = ge_is b a hu in omega arith)

sides : (n : ℕ) (e : Expression) (p : ℕ × ℕ) → Equijoin e p → (ref_left n e && ref_right n e) ≡ true → (ltb p.0 n ≡ true) × (ltb p.1 n ≡ false)
sides n e p q h = rw (← q.pair_is) (sides_of n q.a q.b (ltb q.a n) (ltb q.b n) (ltb q.b q.a) refl refl refl (rw q.is at h))

-- ---- rows joined

module _ (n : ℕ) (l r : Row) (h : length l ≡ n) where
  at_left : (c : ℕ) → not (ltb c n) ≡ false → at (l ++ r) c ≡ at l c
  at_left c k = get_or-append l r null c (let x = lt_is c n (sym (not-not (ltb c n)) ∙ ap not k) in omega arith)

  at_right : (c : ℕ) → ltb c n ≡ false → at r (c - n) ≡ at (l ++ r) c
  at_right c k = sym (ap (at (l ++ r)) (let x = ge_is c n k in omega arith) ∙ get_or-append-add l r (c - n) null)

  left_same : (e : Expression) → not (ref_right n e) ≡ true → true_at (at (l ++ r)) e ≡ true_at (at l) e
  left_same e k = ap (λ z. is_true (as_truth z)) (unread (λ c. not (ltb c n)) (at (l ++ r)) (at l) at_left e (not_true (ref_right n e) k))

  right_same : (e : Expression) → not (ref_left n e) ≡ true → true_at (at r) (shift_column_down n e) ≡ true_at (at (l ++ r)) e
  right_same e k = ap (λ z. is_true (as_truth z))
      (map_columns_total (at r) (λ c. c - n) e ∙ unread (λ c. ltb c n) (λ c. at r (c - n)) (at (l ++ r)) at_right e (not_true (ref_left n e) k))

  up_same : (e : Expression) → true_at (at (l ++ r)) (shift_column_up n e) ≡ true_at (at r) e
  up_same e = ap (λ z. is_true (as_truth z))
      (map_columns_total (at (l ++ r)) (λ c. n + c) e ∙ ap (λ z. total z e) (fun_ext (λ c. rw (← h) (get_or-append-add l r c null))))

map_and_all : (new : ℕ) (f : ℕ → ℕ) (e : Expression) (es : List Expression) → map_columns f (and_all new e es) ≡ and_all new (map_columns f e) (map (map_columns f) es)
map_and_all new f e [] = refl
map_and_all new f e (x ∷ es) = map_and_all new f (and new e x) es

map_and_vec : (new : ℕ) (f : ℕ → ℕ) (es : List Expression) → map_optional (map_columns f) (and_vec new es) ≡ and_vec new (map (map_columns f) es)
map_and_vec new f [] = refl
map_and_vec new f (x ∷ es) = ap some (map_and_all new f x es)

optional_same : (f g : Expression → Bool) → ((e : Expression) → f e ≡ g e) → (o : Option Expression) → optional_true f o ≡ optional_true g o
optional_same f g h none = refl
optional_same f g h (some e) = h e

-- what is implied may be added
add_implied : (a b p to_left to_right : Bool) → (a ≡ true → p ≡ true → to_right ≡ true) → (b ≡ true → p ≡ true → to_left ≡ true)
    → (a && (b && p)) ≡ ((a && to_left) && ((b && to_right) && p))
add_implied false b p to_left to_right f g = refl
add_implied true false p to_left to_right f g = sym (and-false to_left)
add_implied true true false to_left to_right f g = sym (ap (λ z. to_left && z) (and-false to_right) ∙ and-false to_left)
add_implied true true true to_left to_right f g = rw (f refl refl, g refl refl)

shuffle : (kl kr bl br x : Bool) → ((kl && bl) && ((kr && br) && x)) ≡ (kl && (kr && (x && (bl && br))))
shuffle false kr bl br x = refl
shuffle true false bl br x = and-false bl
shuffle true true bl br x = sym (and_assoc bl br x) ∙ and_comm (bl && br) x

module _ (og n : ℕ) (cnf : List Expression) where
  abbrev copies_down : List Expression
  copies_down = flat_map (λ e. copy_down (for_right n cnf) (equijoin e)) (for_both n cnf)

  abbrev copies_up : List Expression
  copies_up = flat_map (λ e. copy_up (for_left n cnf) (equijoin e)) (for_both n cnf)

  down_side : (e : Expression) (o : Option (ℕ × ℕ)) → equijoin e ≡ o → (ref_left n e && ref_right n e) ≡ true → all (λ x. not (ref_right n x)) (copy_down (for_right n cnf) o) ≡ true
  down_side e none k h = refl
  down_side e (some p) k h =
      copied_side (λ c. not (ltb c n)) (for_right n cnf) p.1 p.0 (ap not (sides n e p (equijoin_of e p k) h).0) (last_lookup p.1 (for_right n cnf)) refl

  up_side : (e : Expression) (o : Option (ℕ × ℕ)) → equijoin e ≡ o → (ref_left n e && ref_right n e) ≡ true → all (λ x. not (ref_left n x)) (copy_up (for_left n cnf) o) ≡ true
  up_side e none k h = refl
  up_side e (some p) k h =
      copied_side (λ c. ltb c n) (for_left n cnf) p.0 p.1 (sides n e p (equijoin_of e p k) h).1 (last_lookup p.0 (for_left n cnf)) refl

  all_left : all (λ x. not (ref_right n x)) (push_left n cnf) ≡ true
  all_left = all_append (λ x. not (ref_right n x)) (for_left n cnf) copies_down
      ∙ ap₂ ◌&&◌ (all_kept (λ x. not (ref_right n x)) cnf)
      (all_flat_map (λ x. not (ref_right n x)) (λ e. ref_left n e && ref_right n e) (λ e. copy_down (for_right n cnf) (equijoin e))
      (λ e h. down_side e (equijoin e) refl h) (for_both n cnf) (all_kept (λ e. ref_left n e && ref_right n e) cnf))

  all_right : all (λ x. not (ref_left n x)) (push_right n cnf) ≡ true
  all_right = all_append (λ x. not (ref_left n x)) (for_right n cnf) copies_up
      ∙ ap₂ ◌&&◌ (all_kept (λ x. not (ref_left n x)) cnf)
      (all_flat_map (λ x. not (ref_left n x)) (λ e. ref_left n e && ref_right n e) (λ e. copy_up (for_left n cnf) (equijoin e))
      (λ e h. up_side e (equijoin e) refl h) (for_both n cnf) (all_kept (λ e. ref_left n e && ref_right n e) cnf))

  module _ (row : Columns) where
    down_true : all (true_at row) (for_right n cnf) ≡ true → (e : Expression) (o : Option (ℕ × ℕ)) → equijoin e ≡ o → true_at row e ≡ true
        → all (true_at row) (copy_down (for_right n cnf) o) ≡ true
    down_true known e none k h = refl
    down_true known e (some p) k h =
        copied_true row (for_right n cnf) known p.1 p.0 (alike_sym (equijoin_alike row e p (equijoin_of e p k) h)) (last_lookup p.1 (for_right n cnf)) refl

    up_true : all (true_at row) (for_left n cnf) ≡ true → (e : Expression) (o : Option (ℕ × ℕ)) → equijoin e ≡ o → true_at row e ≡ true
        → all (true_at row) (copy_up (for_left n cnf) o) ≡ true
    up_true known e none k h = refl
    up_true known e (some p) k h =
        copied_true row (for_left n cnf) known p.0 p.1 (equijoin_alike row e p (equijoin_of e p k) h) (last_lookup p.0 (for_left n cnf)) refl

    -- the copies change nothing
    with_copies : all (true_at row) cnf ≡ (all (true_at row) (push_left n cnf) && (all (true_at row) (push_right n cnf) && all (true_at row) (for_both n cnf)))
    with_copies =
        route n (true_at row) cnf
        ∙ (add_implied (all (true_at row) (for_left n cnf)) (all (true_at row) (for_right n cnf)) (all (true_at row) (for_both n cnf))
        (all (true_at row) copies_down) (all (true_at row) copies_up)
        (λ a x. all_flat_map (true_at row) (true_at row) (λ e. copy_up (for_left n cnf) (equijoin e)) (λ e h. up_true a e (equijoin e) refl h) (for_both n cnf) x)
        (λ b x. all_flat_map (true_at row) (true_at row) (λ e. copy_down (for_right n cnf) (equijoin e)) (λ e h. down_true b e (equijoin e) refl h) (for_both n cnf) x)
        ∙ sym (ap₂ ◌&&◌ (all_append (true_at row) (for_left n cnf) copies_down)
        (ap (λ z. z && all (true_at row) (for_both n cnf)) (all_append (true_at row) (for_right n cnf) copies_up))))

  abbrev left_part : Option Expression
  left_part = and_vec og (push_left n cnf)

  abbrev right_part : Option Expression
  right_part = map_optional (shift_column_down n) (and_vec og (push_right n cnf))

  module _ (l r : Row) (h : length l ≡ n) where
    left_list : optional_true_at (at (l ++ r)) left_part ≡ optional_true_at (at l) left_part
    left_list = true_and_vec (at (l ++ r)) og (push_left n cnf)
        ∙ (all_same (λ x. not (ref_right n x)) (true_at (at (l ++ r))) (true_at (at l)) (left_same n l r h) (push_left n cnf) all_left
        ∙ sym (true_and_vec (at l) og (push_left n cnf)))

    right_list : optional_true_at (at r) right_part ≡ all (true_at (at (l ++ r))) (push_right n cnf)
    right_list = ap (optional_true_at (at r)) (map_and_vec og (λ c. c - n) (push_right n cnf))
        ∙ (true_and_vec (at r) og (map (shift_column_down n) (push_right n cnf))
        ∙ (all_map (true_at (at r)) (shift_column_down n) (push_right n cnf)
        ∙ all_same (λ x. not (ref_left n x)) (λ e. true_at (at r) (shift_column_down n e)) (true_at (at (l ++ r))) (right_same n l r h) (push_right n cnf) all_right))

    split_row : (kl kr : Bool) (bl br : List Expression)
        → optional_true_at (at (l ++ r)) left_part ≡ (kl && all (true_at (at (l ++ r))) bl)
        → optional_true (λ e. true_at (at (l ++ r)) (shift_column_up n e)) right_part ≡ (kr && all (λ e. true_at (at (l ++ r)) (shift_column_up n e)) br)
        → all (true_at (at (l ++ r))) cnf ≡ (kl && (kr && optional_true_at (at (l ++ r)) (and_vec og (for_both n cnf ++ (bl ++ map (shift_column_up n) br)))))
    split_row kl kr bl br p q =
        let row = at (l ++ r) in
        with_copies row
        ∙ (ap₂ (λ a b. a && (b && all (true_at row) (for_both n cnf)))
        (sym (true_and_vec row og (push_left n cnf)) ∙ p)
        (sym right_list ∙ (sym (optional_same (λ e. true_at row (shift_column_up n e)) (true_at (at r)) (up_same n l r h) right_part) ∙ q))
        ∙ (shuffle kl kr (all (true_at row) bl) (all (λ e. true_at row (shift_column_up n e)) br) (all (true_at row) (for_both n cnf))
        ∙ ap (λ z. kl && (kr && z))
        (sym (true_and_vec row og (for_both n cnf ++ (bl ++ map (shift_column_up n) br))
        ∙ (all_append (true_at row) (for_both n cnf) (bl ++ map (shift_column_up n) br)
        ∙ ap (λ z. all (true_at row) (for_both n cnf) && z) (all_append (true_at row) bl (map (shift_column_up n) br)
        ∙ ap (λ z. all (true_at row) bl && z) (all_map (true_at row) (shift_column_up n) br)))))))

  split_table_of : (database : Database) (outer : Bool) (p : Expression) → ((row : Columns) → true_at row p ≡ all (true_at row) cnf) → (left right : Node) → (total_table database left).0 ≡ n
      → total_table database (split og n outer cnf left right) ≡ total_table database (join og outer (nested_loop (some p)) left right)
  split_table_of database outer p hp left right w =
      let a = push_part_table database og left_part left in
      let b = push_part_table database og right_part right in
      let bl = (push_part og left_part left).1 in
      let br = (push_part og right_part right).1 in
      let q = and_vec og (for_both n cnf ++ (bl ++ map (shift_column_up n) br)) in
      ap₂ (total_join (nested_loop q)) a.same_table b.same_table
      ∙ ap (λ z. ((total_table database left).0 + (total_table database right).0, z))
      (sym (keep_joined n (λ row. true_at (at row) p) a.test b.test (λ row. optional_true_at (at row) q)
      (λ x y h. hp (at (x ++ y)) ∙ split_row x y h (a.test x) (b.test y) bl br
      (a.together (true_at (at (x ++ y))) x (left_list x y h))
      (b.together (λ e. true_at (at (x ++ y)) (shift_column_up n e)) y
      (optional_same (λ e. true_at (at (x ++ y)) (shift_column_up n e)) (true_at (at y)) (up_same n x y h) right_part)))
      (subst (λ z. Wide z (total_table database left).1) w (wide database left)) (total_table database right).1))

-- One split keeps T.
pub split_table : (database : Database) (og : ℕ) (outer : Bool) (p : Expression) (left right : Node)
    → total_table database (split og (columns database.schema left) outer (into_cnf_vec p) left right) ≡ total_table database (join og outer (nested_loop (some p)) left right)
split_table database og outer p left right =
    split_table_of og (columns database.schema left) (into_cnf_vec p) database outer p (λ row. sym (all_cnf row p)) left right (total_columns database left)
