-- Where a plan without outer joins is read with no failure, and its equalities of two columns that come out true compare values of one kind, T gives
-- the rows that are read.
use Rattle.std.specs.Prelude.{ℕ, ◌+◌, Bool, true, false, not, ◌&&◌, ◌||◌, ◌≡◌, refl, List, [], ◌∷◌, ◌++◌, map, get_or}
use Rattle.std.proofs.Common.{sym, ap, ap₂, ◌∙◌, arith}
use Rattle.std.proofs.Math.Option.{Option, none, some}
use Rattle.value.specs.Value.{False, Unknown, True, Datum, integer, float, string, Value, truth, datum, null, Result, ok, err, Error}
use Rattle.value.specs.Logic as Logic
use Rattle.value.specs.Logic.{logical_not}
use Rattle.value.specs.Comparison.{Comparison, Null, Found, Less, Greater, Unordered, NotComparable, compare, is_equal, answer, equal}
use Rattle.value.specs.Comparison
use Rattle.sql.specs.Expression.{Logical, And, Or, Function1, Function2, Unary, Not, function, Binary, logical, Equal, Expression, constant, column, unary, binary, Row, bind, evaluate_unary, evaluate_binary, evaluate, is_column}
use Rattle.sql.specs.Plan.{Leaf, scan, lookup, nothing, values, limit, offset, order, projection, remap, aggregate, Over, filter, other, Join, nested_loop, hash, Node, leaf, over, join, columns, values_columns}
use Rattle.sql.specs.Optimizer.{cons_if, keep, flat_map}
use Rattle.rows.specs.Database.{Database}
use Rattle.rows.specs.Reading.{each, keep_each, is_true, kept, holds, optional_holds, join_holds, joined_rows, evaluate_all, fit, values_row, pick_all, expressions, directions, read_leaf, read_over, read}
use Rattle.rows.specs.Equalities.{Compared, is_true_result, of_columns, of_binary, of_expression, of_optional, of_join, of_list, of_over, in_rows, of_leaf, equalities, of_one_kind, all}
use Rattle.rows.specs.Premises.{no_outer}
use Rattle.same_rows.proofs.Booleans.{false≢true, and_left, and_right}
use Rattle.same_rows.specs.Total.{at, Total, known, figure, Shape, even_nots, odd_nots, no_column, valued, total_of, from_value, or_null, plain, turn, as_truth, mixed, truth_of, equal_totals, is_even, total_unary, total_binary, total, true_at, optional_true_at, to_value, value_at}
use Rattle.same_rows.proofs.Normal.{all_append}
use Rattle.same_rows.proofs.TotalRows.{join_true, values_at, total_leaf, total_over, total_table, total_columns}

-- ---- a value that came of another

pub no_value : {A B : Type 0} {e : Error} {v : A} → ◌≡◌ {A = Result A} (err e) (ok v) → B
no_value h = absurd (let y : ◌≡◌ {A = ℕ} 0 1 = cc in omega arith)

pub ok_same : {A : Type 0} {a b : A} → ◌≡◌ {A = Result A} (ok a) (ok b) → a ≡ b
ok_same h = cc

pub record Came {A B : Type 0} (r : Result A) (f : A → Result B) (v : B) : Type 0 where
  pub of : A
  pub first : r ≡ ok of
  pub second : f of ≡ ok v

pub came : {A B : Type 0} (r : Result A) (f : A → Result B) (v : B) → bind r f ≡ ok v → Came r f v
came (ok a) f v h = record { of = a; first = refl; second = h }
came (err e) f v h = no_value h

-- ---- the equalities of a part are of one kind

abbrev OneKind : List Compared → Type 0
OneKind pairs = all of_one_kind pairs ≡ true

one_kind_left : (xs ys : List Compared) → OneKind (xs ++ ys) → OneKind xs
one_kind_left xs ys h = and_left (all of_one_kind xs) (all of_one_kind ys) (sym (all_append of_one_kind xs ys) ∙ h)

one_kind_right : (xs ys : List Compared) → OneKind (xs ++ ys) → OneKind ys
one_kind_right xs ys h = and_right (all of_one_kind xs) (all of_one_kind ys) (sym (all_append of_one_kind xs ys) ∙ h)

-- ---- values

abbrev shape : Expression → Shape
shape (constant og v) = no_column
shape (column og c) = even_nots
shape (unary og Not x) = turn (shape x)
shape (unary og (function f) x) = no_column
shape (binary og o l r) = no_column

plain_from : (v : Value) → plain (from_value v) ≡ ok v
plain_from (truth t) = refl
plain_from (datum d) = refl

not_agrees : (s : Shape) (u v : Value) → logical_not u ≡ ok v → total_unary Not (valued s (from_value u)) ≡ valued (turn s) (from_value v)
not_agrees s (truth t) v h = ap (λ z. valued (turn s) (from_value z)) (ok_same h)
not_agrees s (datum d) v h = no_value h

function1_agrees : (f : Function1) (s : Shape) (u v : Value) → evaluate_unary (function f) u ≡ ok v
    → total_unary (function f) (valued s (from_value u)) ≡ valued no_column (from_value v)
function1_agrees f s u v h =
    ap (λ z. valued no_column (or_null (bind z (evaluate_unary (function f))))) (plain_from u) ∙ ap (λ z. valued no_column (or_null z)) h

logical_agrees : (o : Logical) (s r : Shape) (a b v : Value) → evaluate_binary (logical o) a b ≡ ok v
    → total_binary (logical o) (valued s (from_value a)) (valued r (from_value b)) ≡ valued no_column (from_value v)
logical_agrees And s r (truth a) (truth b) v h = ap (λ z. valued no_column (from_value z)) (ok_same h)
logical_agrees And s r (truth a) (datum g) v h = no_value h
logical_agrees And s r (datum f) b v h = no_value h
logical_agrees Or s r (truth a) (truth b) v h = ap (λ z. valued no_column (from_value z)) (ok_same h)
logical_agrees Or s r (truth a) (datum g) v h = no_value h
logical_agrees Or s r (datum f) b v h = no_value h

function2_agrees : (f : Function2) (s r : Shape) (a b v : Value) → evaluate_binary (function f) a b ≡ ok v
    → total_binary (function f) (valued s (from_value a)) (valued r (from_value b)) ≡ valued no_column (from_value v)
function2_agrees f s r a b v h =
    ap (λ z. valued no_column (or_null (bind z (λ x. bind (plain (from_value b)) (evaluate_binary (function f) x))))) (plain_from a)
    ∙ (ap (λ z. valued no_column (or_null (bind z (evaluate_binary (function f) a)))) (plain_from b) ∙ ap (λ z. valued no_column (or_null z)) h)

answer_agrees : (c : Comparison) (v : Value) → answer c (is_equal c) ≡ ok v → known (truth_of false c) ≡ from_value v
answer_agrees Null v h = ap from_value (ok_same h)
answer_agrees (Found Less) v h = ap from_value (ok_same h)
answer_agrees (Found Comparison.Equal) v h = ap from_value (ok_same h)
answer_agrees (Found Greater) v h = ap from_value (ok_same h)
answer_agrees (Found Unordered) v h = ap from_value (ok_same h)
answer_agrees (Found NotComparable) v h = no_value h

-- two kinds that are not found equal
mixed_agrees : (c : Comparison) (v : Value) → (not (is_true_result (answer c (is_equal c))) || false) ≡ true → answer c (is_equal c) ≡ ok v → known (truth_of true c) ≡ from_value v
mixed_agrees Null v k h = ap from_value (ok_same h)
mixed_agrees (Found Less) v k h = ap from_value (ok_same h)
mixed_agrees (Found Comparison.Equal) v k h = false≢true k
mixed_agrees (Found Greater) v k h = ap from_value (ok_same h)
mixed_agrees (Found Unordered) v k h = ap from_value (ok_same h)
mixed_agrees (Found NotComparable) v k h = no_value h

columns_agree : (f g : Datum) (v : Value) → of_one_kind (datum f, datum g) ≡ true → equal (datum f) (datum g) ≡ ok v → known (truth_of (mixed f g) (compare (datum f) (datum g))) ≡ from_value v
columns_agree (integer a) (integer b) v k h = answer_agrees (compare (datum (integer a)) (datum (integer b))) v h
columns_agree (integer a) (float b) v k h = mixed_agrees (compare (datum (integer a)) (datum (float b))) v k h
columns_agree (integer a) (string r t) v k h = no_value h
columns_agree (float a) (integer b) v k h = mixed_agrees (compare (datum (float a)) (datum (integer b))) v k h
columns_agree (float a) (float b) v k h = answer_agrees (compare (datum (float a)) (datum (float b))) v h
columns_agree (float a) (string r t) v k h = no_value h
columns_agree (string r t) (integer b) v k h = no_value h
columns_agree (string r t) (float b) v k h = no_value h
columns_agree (string r t) (string q u) v k h = answer_agrees (compare (datum (string r t)) (datum (string q u))) v h

-- a datum under an even number of Nots stands under none
abbrev is_some : {A : Type 0} → Option A → Bool
is_some none = false
is_some (some a) = true

not_no_datum : {A : Type 0} (u : Value) (d : Datum) → logical_not u ≡ ok (datum d) → A
not_no_datum (truth t) d h = let z : truth (Logic.not t) ≡ datum d = ok_same h in absurd (let y : ◌≡◌ {A = ℕ} 0 1 = cc in omega arith)
not_no_datum (datum g) d h = no_value h

even_column : (row : Row) (e : Expression) (d : Datum) → evaluate row e ≡ ok (datum d) → is_even (shape e) ≡ is_some (is_column e)
even_column row (constant og v) d h = refl
even_column row (column og c) d h = refl
even_column row (unary og Not x) d h = let c = came (evaluate row x) logical_not (datum d) h in not_no_datum c.of d c.second
even_column row (unary og (function f) x) d h = refl
even_column row (binary og o l r) d h = refl

data_agree : (row : Row) (l r : Expression) (f g : Datum) (v : Value) → evaluate row l ≡ ok (datum f) → evaluate row r ≡ ok (datum g)
    → OneKind (of_columns row (is_column l) (is_column r)) → equal (datum f) (datum g) ≡ ok v
    → known (truth_of ((is_some (is_column l) && is_some (is_column r)) && mixed f g) (compare (datum f) (datum g))) ≡ from_value v
data_agree row (constant og u) r f g v i j k h = answer_agrees (compare (datum f) (datum g)) v h
data_agree row (column og c) (constant og' u) f g v i j k h = answer_agrees (compare (datum f) (datum g)) v h
data_agree row (column og c) (column og' d) f g v i j k h =
    columns_agree f g v (rw (ok_same i, ok_same j) at (and_left (of_one_kind (get_or row c null, get_or row d null)) true k)) h
data_agree row (column og c) (unary og' o x) f g v i j k h = answer_agrees (compare (datum f) (datum g)) v h
data_agree row (column og c) (binary og' o x y) f g v i j k h = answer_agrees (compare (datum f) (datum g)) v h
data_agree row (unary og o x) r f g v i j k h = answer_agrees (compare (datum f) (datum g)) v h
data_agree row (binary og o x y) r f g v i j k h = answer_agrees (compare (datum f) (datum g)) v h

equal_agrees : (row : Row) (l r : Expression) (a b v : Value) → evaluate row l ≡ ok a → evaluate row r ≡ ok b → OneKind (of_columns row (is_column l) (is_column r)) → equal a b ≡ ok v
    → known (equal_totals (is_even (shape l) && is_even (shape r)) (from_value a) (from_value b)) ≡ from_value v
equal_agrees row l r (truth a) (truth b) v i j k h = answer_agrees (compare (truth a) (truth b)) v h
equal_agrees row l r (truth False) (datum g) v i j k h = no_value h
equal_agrees row l r (truth Unknown) (datum g) v i j k h = ap from_value (ok_same h)
equal_agrees row l r (truth True) (datum g) v i j k h = no_value h
equal_agrees row l r (datum f) (truth False) v i j k h = no_value h
equal_agrees row l r (datum f) (truth Unknown) v i j k h = ap from_value (ok_same h)
equal_agrees row l r (datum f) (truth True) v i j k h = no_value h
equal_agrees row l r (datum f) (datum g) v i j k h =
    ap₂ (λ x y. known (truth_of ((x && y) && mixed f g) (compare (datum f) (datum g)))) (even_column row l f i) (even_column row r g j) ∙ data_agree row l r f g v i j k h

module _ (row : Row) where
  binary_agrees : (o : Binary) (l r : Expression) (a b v : Value) → evaluate row l ≡ ok a → evaluate row r ≡ ok b → OneKind (of_binary row o l r) → evaluate_binary o a b ≡ ok v
      → total_binary o (valued (shape l) (from_value a)) (valued (shape r) (from_value b)) ≡ valued no_column (from_value v)
  binary_agrees (logical o) l r a b v i j k h = logical_agrees o (shape l) (shape r) a b v h
  binary_agrees Equal l r a b v i j k h = ap (valued no_column) (equal_agrees row l r a b v i j k h)
  binary_agrees (function f) l r a b v i j k h = function2_agrees f (shape l) (shape r) a b v h

  value_agrees : (e : Expression) (v : Value) → evaluate row e ≡ ok v → OneKind (of_expression row e) → total (at row) e ≡ valued (shape e) (from_value v)
  value_agrees (constant og u) v h k = ap (λ z. valued no_column (from_value z)) (ok_same h)
  value_agrees (column og c) v h k = ap (λ z. valued even_nots (from_value z)) (ok_same h)
  value_agrees (unary og Not x) v h k =
      let c = came (evaluate row x) logical_not v h in
      ap (total_unary Not) (value_agrees x c.of c.first k) ∙ not_agrees (shape x) c.of v c.second
  value_agrees (unary og (function f) x) v h k =
      let c = came (evaluate row x) (evaluate_unary (function f)) v h in
      ap (total_unary (function f)) (value_agrees x c.of c.first k) ∙ function1_agrees f (shape x) c.of v c.second
  value_agrees (binary og o l r) v h k =
      let c = came (evaluate row l) (λ x. bind (evaluate row r) (evaluate_binary o x)) v h in
      let d = came (evaluate row r) (evaluate_binary o c.of) v c.second in
      let m = one_kind_right (of_expression row l) (of_expression row r ++ of_binary row o l r) k in
      ap₂ (total_binary o) (value_agrees l c.of c.first (one_kind_left (of_expression row l) (of_expression row r ++ of_binary row o l r) k))
      (value_agrees r d.of d.first (one_kind_left (of_expression row r) (of_binary row o l r) m))
      ∙ binary_agrees o l r c.of d.of v c.first d.first (one_kind_right (of_expression row r) (of_binary row o l r) m) d.second

-- ---- rows

to_from : (v : Value) → to_value (from_value v) ≡ v
to_from (truth t) = refl
to_from (datum d) = refl

value_same : (row : Row) (e : Expression) (v : Value) → evaluate row e ≡ ok v → OneKind (of_expression row e) → value_at (at row) e ≡ v
value_same row e v h k = ap (λ z. to_value (total_of z)) (value_agrees row e v h k) ∙ to_from v

kept_same : (s : Shape) (v : Value) (b : Bool) → kept v ≡ ok b → is_true (as_truth (valued s (from_value v))) ≡ b
kept_same s (truth t) b h = ok_same h
kept_same s (datum d) b h = no_value h

holds_same : (e : Expression) (row : Row) (b : Bool) → holds e row ≡ ok b → OneKind (of_expression row e) → true_at (at row) e ≡ b
holds_same e row b h k =
    let c = came (evaluate row e) kept b h in
    ap (λ z. is_true (as_truth z)) (value_agrees row e c.of c.first k) ∙ kept_same (shape e) c.of b c.second

optional_same : (o : Option Expression) (row : Row) (b : Bool) → optional_holds o row ≡ ok b → OneKind (of_optional o row) → optional_true_at (at row) o ≡ b
optional_same none row b h k = ok_same h
optional_same (some e) row b h k = holds_same e row b h k

join_same : (j : Join) (n : ℕ) (row : Row) (b : Bool) → join_holds j n row ≡ ok b → OneKind (of_join j n row) → join_true j n row ≡ b
join_same (nested_loop o) n row b h k = optional_same o row b h k
join_same (hash x y) n row b h k = holds_same (binary 0 Equal (column 0 x) (column 0 (n + y))) row b h k

each_same : {A B : Type 0} (f : A → Result B) (g : A → B) (c : A → List Compared) → ((x : A) (y : B) → f x ≡ ok y → OneKind (c x) → g x ≡ y)
    → (xs : List A) (ys : List B) → each f xs ≡ ok ys → OneKind (flat_map c xs) → map g xs ≡ ys
each_same f g c k [] ys h m = ok_same h
each_same f g c k (x ∷ xs) ys h m =
    let a = came (f x) (λ y. bind (each f xs) (λ zs. ok (y ∷ zs))) ys h in
    let b = came (each f xs) (λ zs. ok (a.of ∷ zs)) ys a.second in
    ap₂ ◌∷◌ (k x a.of a.first (one_kind_left (c x) (flat_map c xs) m)) (each_same f g c k xs b.of b.first (one_kind_right (c x) (flat_map c xs) m)) ∙ ok_same b.second

keep_each_same : (f : Row → Result Bool) (g : Row → Bool) (c : Row → List Compared) → ((x : Row) (y : Bool) → f x ≡ ok y → OneKind (c x) → g x ≡ y)
    → (xs ys : List Row) → keep_each f xs ≡ ok ys → OneKind (flat_map c xs) → keep g xs ≡ ys
keep_each_same f g c k [] ys h m = ok_same h
keep_each_same f g c k (x ∷ xs) ys h m =
    let a = came (f x) (λ y. bind (keep_each f xs) (λ zs. ok (cons_if y x zs))) ys h in
    let b = came (keep_each f xs) (λ zs. ok (cons_if a.of x zs)) ys a.second in
    ap₂ (λ y zs. cons_if y x zs) (k x a.of a.first (one_kind_left (c x) (flat_map c xs) m)) (keep_each_same f g c k xs b.of b.first (one_kind_right (c x) (flat_map c xs) m)) ∙ ok_same b.second

list_same : (es : List Expression) (row those : Row) → evaluate_all es row ≡ ok those → OneKind (of_list es row) → values_at es row ≡ those
list_same es row those h k = each_same (evaluate row) (value_at (at row)) (of_expression row) (value_same row) es those h k

values_same : (n : ℕ) (es : List Expression × ℕ) (row : Row) → values_row n es ≡ ok row → OneKind (of_list es.0 []) → fit n (values_at es.0 []) ≡ row
values_same n es row h k =
    let c = came (evaluate_all es.0 []) (λ z. ok (fit n z)) row h in ap (fit n) (list_same es.0 [] c.of c.first k) ∙ ok_same c.second

one_kind_in : (r : Result (List Row)) (f : List Row → List Compared) (rows : List Row) → r ≡ ok rows → OneKind (in_rows r f) → OneKind (f rows)
one_kind_in r f rows h m = rw h at m

module _ (database : Database) where
  leaf_same : (l : Leaf) (rows : List Row) → read_leaf database l ≡ ok rows → OneKind (of_leaf database l) → total_leaf database l ≡ rows
  leaf_same (scan table alias p) rows h m = keep_each_same (optional_holds p) (λ row. optional_true_at (at row) p) (of_optional p) (optional_same p) (database.table_rows table) rows h m
  leaf_same (lookup access table alias constants) rows h m = ok_same h
  leaf_same (nothing labels) rows h m = ok_same h
  leaf_same (values es) rows h m =
      each_same (values_row (values_columns es)) (λ e. fit (values_columns es) (values_at e.0 [])) (λ e. of_list e.0 []) (values_same (values_columns es)) es rows h m

  over_same : (o : Over) (n : ℕ) (source rows : List Row) → read_over database o source ≡ ok rows → OneKind (of_over o source) → (total_over database o (n, source)).1 ≡ rows
  over_same (filter p) n source rows h m = keep_each_same (holds p) (λ row. true_at (at row) p) (λ row. of_expression row p) (holds_same p) source rows h m
  over_same (other (limit amount)) n source rows h m = ok_same h
  over_same (other (offset amount)) n source rows h m = ok_same h
  over_same (other (order key)) n source rows h m =
      let es = expressions key in
      let c = came (each (evaluate_all es) source) (λ keys. ok (pick_all (database.arrangement (directions key) keys) source)) rows h in
      ap (λ z. pick_all (database.arrangement (directions key) z) source) (each_same (evaluate_all es) (values_at es) (of_list es) (list_same es) source c.of c.first m)
      ∙ ok_same c.second
  over_same (other (projection items)) n source rows h m =
      let es = expressions items in each_same (evaluate_all es) (values_at es) (of_list es) (list_same es) source rows h m
  over_same (other (remap targets)) n source rows h m = ok_same h
  over_same (other (aggregate group_by aggregates)) n source rows h m = ok_same h

  total_over_rows : (o : Over) (t : ℕ × List Row) (rows : List Row) → t.1 ≡ rows → (total_over database o t).1 ≡ (total_over database o (t.0, rows)).1
  total_over_rows o t rows h = ap (λ z. (total_over database o (t.0, z)).1) h

  pub read_same : (n : Node) → no_outer n ≡ true → (rows : List Row) → read database n ≡ ok rows → OneKind (equalities database n) → (total_table database n).1 ≡ rows
  read_same (leaf og l) i rows h m = leaf_same l rows h m
  read_same (over og o source) i rows h m =
      let c = came (read database source) (read_over database o) rows h in
      let here = in_rows (read database source) (of_over o) in
      total_over_rows o (total_table database source) c.of (read_same source i c.of c.first (one_kind_left (equalities database source) here m))
      ∙ over_same o (total_table database source).0 c.of rows c.second
      (one_kind_in (read database source) (of_over o) c.of c.first (one_kind_right (equalities database source) here m))
  read_same (join og true j left right) i rows h m = false≢true i
  read_same (join og false j left right) i rows h m =
      let n = columns database.schema left in
      let on : List Row → List Row → Result (List Row) = λ ls rs. keep_each (join_holds j n) (joined_rows ls rs) in
      let met : List Row → List Row → List Compared = λ ls rs. flat_map (of_join j n) (joined_rows ls rs) in
      let a = came (read database left) (λ ls. bind (read database right) (on ls)) rows h in
      let b = came (read database right) (on a.of) rows a.second in
      let here = in_rows (read database left) (λ ls. in_rows (read database right) (met ls)) in
      let m₂ = one_kind_right (equalities database left) (equalities database right ++ here) m in
      let m₃ = one_kind_in (read database left) (λ ls. in_rows (read database right) (met ls)) a.of a.first (one_kind_right (equalities database right) here m₂) in
      let m₄ = one_kind_in (read database right) (met a.of) b.of b.first m₃ in
      ap₂ (λ x y. keep (join_true j (total_table database left).0) (joined_rows x y))
      (read_same left (and_left (no_outer left) (no_outer right) i) a.of a.first (one_kind_left (equalities database left) (equalities database right ++ here) m))
      (read_same right (and_right (no_outer left) (no_outer right) i) b.of b.first (one_kind_left (equalities database right) here m₂))
      ∙ (ap (λ z. keep (join_true j z) (joined_rows a.of b.of)) (total_columns database left)
      ∙ keep_each_same (join_holds j n) (join_true j n) (of_join j n) (join_same j n) (joined_rows a.of b.of) rows b.second m₄)
