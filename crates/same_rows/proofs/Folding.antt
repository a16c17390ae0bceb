-- Pass 1, ConstantFolding, keeps the rows that are read, if the plan handed in is read with no failure.
use Rattle.std.specs.Prelude.{ℕ, suc, ◌+◌, Bool, true, false, not, ◌&&◌, ◌||◌, ◌≡◌, refl, List, [], ◌∷◌, map, length, take, drop}
use Rattle.std.proofs.Common.{sym, ap, ap₂, ◌∙◌, subst, arith}
use Rattle.std.proofs.Math.Option.{Option, none, some}
use Rattle.value.specs.Value.{Truth, False, Unknown, True, Datum, Value, truth, datum, Result, ok, err}
use Rattle.sql.specs.Schema.{Schema}
use Rattle.sql.specs.Expression.{origin, Logical, And, Or, Unary, Binary, logical, Equal, function, Expression, constant, column, unary, binary, Row, size, bind, evaluate_unary, evaluate_binary, evaluate, contains_column}
use Rattle.sql.specs.Plan.{Label, Leaf, scan, lookup, nothing, values, Other, limit, offset, order, projection, remap, aggregate, Over, filter, other, Join, nested_loop, hash, Node, leaf, over, join, leaf_columns, other_columns, values_columns, columns, row_size, key_size, item_size, node_size}
use Rattle.sql.specs.Answer.{Answer, done, refused, ◌>>=◌, at_place}
use Rattle.sql.specs.Optimizer.{cons_if, Operand, deciding, neutral, undetermined, truth_operand, operand, decided, simplify_logical, simplify, fold_by, fold, fold_expression, fold_each, fold_optional, fold_row, fold_part, fold_leaf, fold_over, fold_join, ConstantFolding}
use Rattle.rows.specs.Database.{Database}
use Rattle.rows.specs.Reading.{each, keep_each, kept, holds, optional_holds, join_holds, joined_rows, evaluate_all, fit, values_row, pick_all, expressions, directions, read_leaf, read_over, read}
use Rattle.rows.specs.Premises.{no_outer}
use Rattle.room.specs.Done.{done_same, After, after}
use Rattle.same_rows.proofs.Booleans.{false≢true, and_left, and_right, or_left, or_right}
use Rattle.same_rows.specs.Total.{table}
use Rattle.same_rows.proofs.Agree.{no_value, ok_same, Came, came}

-- ---- an expression without columns has one value

still : (row those : Row) (e : Expression) → contains_column (λ c. true) e ≡ false → evaluate row e ≡ evaluate those e
still row those (constant og v) h = refl
still row those (column og c) h = false≢true (sym h)
still row those (unary og o x) h = ap (λ z. bind z (evaluate_unary o)) (still row those x h)
still row those (binary og o l r) h =
    let in_l = contains_column (λ c. true) l in
    let in_r = contains_column (λ c. true) r in
    ap₂ (λ x y. bind x (λ a. bind y (evaluate_binary o a))) (still row those l (or_left in_l in_r h)) (still row those r (or_right in_l in_r h))

-- ---- And and Or with a constant operand

logical_value : (o : Logical) (a b : Truth) → evaluate_binary (logical o) (truth a) (truth b) ≡ ok (truth (table o a b))
logical_value And a b = refl
logical_value Or a b = refl

module _ (og : ℕ) (o : Logical) (a b : Truth) (l r : Expression) (row : Row) (left : evaluate row l ≡ ok (truth a)) (right : evaluate row r ≡ ok (truth b)) where
  simplified : (s t : Operand)
      → (s ≡ deciding → table o a b ≡ decided o) → (t ≡ deciding → table o a b ≡ decided o)
      → (s ≡ neutral → table o a b ≡ b) → (t ≡ neutral → table o a b ≡ a)
      → evaluate row (simplify_logical og o s t l r) ≡ ok (truth (table o a b))
  simplified deciding t dl dr nl nr = ap (λ z. ok (truth z)) (sym (dl refl))
  simplified neutral deciding dl dr nl nr = ap (λ z. ok (truth z)) (sym (dr refl))
  simplified neutral neutral dl dr nl nr = right ∙ ap (λ z. ok (truth z)) (sym (nl refl))
  simplified neutral undetermined dl dr nl nr = right ∙ ap (λ z. ok (truth z)) (sym (nl refl))
  simplified undetermined deciding dl dr nl nr = ap (λ z. ok (truth z)) (sym (dr refl))
  simplified undetermined neutral dl dr nl nr = left ∙ ap (λ z. ok (truth z)) (sym (nr refl))
  simplified undetermined undetermined dl dr nl nr = ap₂ (λ x y. bind x (λ u. bind y (evaluate_binary (logical o) u))) left right ∙ logical_value o a b

abbrev neutral_truth : Logical → Truth
neutral_truth And = True
neutral_truth Or = False

undetermined≢deciding : {A : Type 0} → undetermined ≡ deciding → A
undetermined≢deciding h = absurd (let y : ◌≡◌ {A = ℕ} 0 1 = cc in omega arith)

undetermined≢neutral : {A : Type 0} → undetermined ≡ neutral → A
undetermined≢neutral h = absurd (let y : ◌≡◌ {A = ℕ} 0 1 = cc in omega arith)

deciding≢neutral : {A : Type 0} → deciding ≡ neutral → A
deciding≢neutral h = absurd (let y : ◌≡◌ {A = ℕ} 0 1 = cc in omega arith)

truth_decides : (o : Logical) (t : Truth) → truth_operand o t ≡ deciding → t ≡ decided o
truth_decides And False h = refl
truth_decides And Unknown h = undetermined≢deciding h
truth_decides And True h = deciding≢neutral (sym h)
truth_decides Or False h = deciding≢neutral (sym h)
truth_decides Or Unknown h = undetermined≢deciding h
truth_decides Or True h = refl

truth_neutral : (o : Logical) (t : Truth) → truth_operand o t ≡ neutral → t ≡ neutral_truth o
truth_neutral And False h = deciding≢neutral h
truth_neutral And Unknown h = undetermined≢neutral h
truth_neutral And True h = refl
truth_neutral Or False h = refl
truth_neutral Or Unknown h = undetermined≢neutral h
truth_neutral Or True h = deciding≢neutral h

truth_same : {a b : Truth} → ◌≡◌ {A = Result Value} (ok (truth a)) (ok (truth b)) → a ≡ b
truth_same h = cc

operand_decides : (o : Logical) (e : Expression) (a : Truth) (row : Row) → evaluate row e ≡ ok (truth a) → operand o e ≡ deciding → a ≡ decided o
operand_decides o (constant og (truth t)) a row i h = sym (truth_same i) ∙ truth_decides o t h
operand_decides o (constant og (datum d)) a row i h = undetermined≢deciding h
operand_decides o (column og c) a row i h = undetermined≢deciding h
operand_decides o (unary og p x) a row i h = undetermined≢deciding h
operand_decides o (binary og p x y) a row i h = undetermined≢deciding h

operand_neutral : (o : Logical) (e : Expression) (a : Truth) (row : Row) → evaluate row e ≡ ok (truth a) → operand o e ≡ neutral → a ≡ neutral_truth o
operand_neutral o (constant og (truth t)) a row i h = sym (truth_same i) ∙ truth_neutral o t h
operand_neutral o (constant og (datum d)) a row i h = undetermined≢neutral h
operand_neutral o (column og c) a row i h = undetermined≢neutral h
operand_neutral o (unary og p x) a row i h = undetermined≢neutral h
operand_neutral o (binary og p x y) a row i h = undetermined≢neutral h

decided_left : (o : Logical) (b : Truth) → table o (decided o) b ≡ decided o
decided_left And b = refl
decided_left Or b = refl

decided_right : (o : Logical) (a : Truth) → table o a (decided o) ≡ decided o
decided_right And False = refl
decided_right And Unknown = refl
decided_right And True = refl
decided_right Or False = refl
decided_right Or Unknown = refl
decided_right Or True = refl

neutral_left : (o : Logical) (b : Truth) → table o (neutral_truth o) b ≡ b
neutral_left And b = refl
neutral_left Or b = refl

neutral_right : (o : Logical) (a : Truth) → table o a (neutral_truth o) ≡ a
neutral_right And False = refl
neutral_right And Unknown = refl
neutral_right And True = refl
neutral_right Or False = refl
neutral_right Or Unknown = refl
neutral_right Or True = refl

simplify_truths : (og : ℕ) (o : Logical) (l r : Expression) (row : Row) (a b : Truth) (v : Value) → evaluate row l ≡ ok (truth a) → evaluate row r ≡ ok (truth b)
    → evaluate_binary (logical o) (truth a) (truth b) ≡ ok v → evaluate row (simplify_logical og o (operand o l) (operand o r) l r) ≡ ok v
simplify_truths og o l r row a b v i j h =
    simplified og o a b l r row i j (operand o l) (operand o r)
    (λ k. ap (λ z. table o z b) (operand_decides o l a row i k) ∙ decided_left o b)
    (λ k. ap (λ z. table o a z) (operand_decides o r b row j k) ∙ decided_right o a)
    (λ k. ap (λ z. table o z b) (operand_neutral o l a row i k) ∙ neutral_left o b)
    (λ k. ap (λ z. table o a z) (operand_neutral o r b row j k) ∙ neutral_right o a)
    ∙ (sym (logical_value o a b) ∙ h)

simplify_values : (og : ℕ) (o : Logical) (l r : Expression) (row : Row) (x y v : Value) → evaluate row l ≡ ok x → evaluate row r ≡ ok y → evaluate_binary (logical o) x y ≡ ok v
    → evaluate row (simplify_logical og o (operand o l) (operand o r) l r) ≡ ok v
simplify_values og o l r row (truth a) (truth b) v i j h = simplify_truths og o l r row a b v i j h
simplify_values og And l r row (truth a) (datum g) v i j h = no_value h
simplify_values og And l r row (datum f) y v i j h = no_value h
simplify_values og Or l r row (truth a) (datum g) v i j h = no_value h
simplify_values og Or l r row (datum f) y v i j h = no_value h

simplify_keeps : (row : Row) (e : Expression) (v : Value) → evaluate row e ≡ ok v → evaluate row (simplify e) ≡ ok v
simplify_keeps row (constant og u) v h = h
simplify_keeps row (column og c) v h = h
simplify_keeps row (unary og o x) v h = h
simplify_keeps row (binary og (logical o) l r) v h =
    let a = came (evaluate row l) (λ x. bind (evaluate row r) (evaluate_binary (logical o) x)) v h in
    let b = came (evaluate row r) (evaluate_binary (logical o) a.of) v a.second in
    simplify_values og o l r row a.of b.of v a.first b.first b.second
simplify_keeps row (binary og Equal l r) v h = h
simplify_keeps row (binary og (function f) l r) v h = h

-- ---- a folded expression has the same value

fold_by_keeps : (row : Row) (place : ℕ) (e : Expression) (t : Bool) → contains_column (λ c. true) e ≡ t → (d : Expression) (v : Value)
    → fold_by t place e ≡ done d → evaluate row e ≡ ok v → evaluate row d ≡ ok v
fold_by_keeps row place e true n d v k h = ap (evaluate row) (sym (done_same k)) ∙ simplify_keeps row e v h
fold_by_keeps row place e false n d v k h =
    let z : constant (origin e) v ≡ d = done_same (sym (ap (λ w. at_place place (bind w (λ u. ok (constant (origin e) u)))) (still [] row e n ∙ h)) ∙ k) in
    ap (evaluate row) (sym z)

fold_keeps : (row : Row) (place : ℕ) (e d : Expression) (v : Value) → fold place e ≡ done d → evaluate row e ≡ ok v → evaluate row d ≡ ok v
fold_keeps row place e d v k h = fold_by_keeps row place e (contains_column (λ c. true) e) refl d v k h

expression_keeps : (row : Row) (first : ℕ) (e d : Expression) (v : Value) → fold_expression first e ≡ done d → evaluate row e ≡ ok v → evaluate row d ≡ ok v
expression_keeps row first (constant og u) d v k h = fold_keeps row first (constant og u) d v k h
expression_keeps row first (column og c) d v k h = fold_keeps row first (column og c) d v k h
expression_keeps row first (unary og o x) d v k h =
    let a = after (fold_expression first x) (λ y. fold (first + size x) (unary og o y)) d k in
    let b = came (evaluate row x) (evaluate_unary o) v h in
    fold_keeps row (first + size x) (unary og o a.of) d v a.second
    (ap (λ z. bind z (evaluate_unary o)) (expression_keeps row first x a.of b.of a.first b.first) ∙ b.second)
expression_keeps row first (binary og o l r) d v k h =
    let place = first + (size l + size r) in
    let a = after (fold_expression first l) (λ x. fold_expression (first + size l) r >>= λ y. fold place (binary og o x y)) d k in
    let c = after (fold_expression (first + size l) r) (λ y. fold place (binary og o a.of y)) d a.second in
    let b = came (evaluate row l) (λ x. bind (evaluate row r) (evaluate_binary o x)) v h in
    let e = came (evaluate row r) (evaluate_binary o b.of) v b.second in
    fold_keeps row place (binary og o a.of c.of) d v c.second
    (ap₂ (λ x y. bind x (λ u. bind y (evaluate_binary o u))) (expression_keeps row first l a.of b.of a.first b.first)
    (expression_keeps row (first + size l) r c.of e.of c.first e.first) ∙ e.second)

-- ---- lists of which each part is folded

module _ {A : Type 0} (f : ℕ → A → Answer A) (cells : A → ℕ) where
  -- The parts of a folded list, one by one.
  pub record Folded (first : ℕ) (x : A) (xs ys : List A) : Type 0 where
    pub y : A
    pub more : List A
    pub part : f first x ≡ done y
    pub rest : fold_each f cells (first + cells x) xs ≡ done more
    pub is : y ∷ more ≡ ys

  folded : (first : ℕ) (x : A) (xs ys : List A) → fold_each f cells first (x ∷ xs) ≡ done ys → Folded first x xs ys
  folded first x xs ys k =
      let a = after (f first x) (λ y. fold_each f cells (first + cells x) xs >>= λ zs. done (y ∷ zs)) ys k in
      let b = after (fold_each f cells (first + cells x) xs) (λ zs. done (a.of ∷ zs)) ys a.second in
      record { y = a.of; more = b.of; part = a.first; rest = b.first; is = done_same b.second }

  pub length_folded : (first : ℕ) (xs ys : List A) → fold_each f cells first xs ≡ done ys → length ys ≡ length xs
  length_folded first [] ys k = ap length (sym (done_same k))
  length_folded first (x ∷ xs) ys k =
      let a = folded first x xs ys k in ap length (sym a.is) ∙ ap suc (length_folded (first + cells x) xs a.more a.rest)

  -- What the folding of each part keeps, `each` keeps.
  each_folded : {B : Type 0} (g : A → Result B) → ((n : ℕ) (x y : A) (b : B) → f n x ≡ done y → g x ≡ ok b → g y ≡ ok b)
      → (first : ℕ) (xs ys : List A) → fold_each f cells first xs ≡ done ys → (bs : List B) → each g xs ≡ ok bs → each g ys ≡ ok bs
  each_folded g keeps first [] ys k bs h = ap (each g) (sym (done_same k)) ∙ h
  each_folded g keeps first (x ∷ xs) ys k bs h =
      let a = folded first x xs ys k in
      let b = came (g x) (λ y. bind (each g xs) (λ zs. ok (y ∷ zs))) bs h in
      let c = came (each g xs) (λ zs. ok (b.of ∷ zs)) bs b.second in
      ap (each g) (sym a.is)
      ∙ (ap₂ (λ u v. bind u (λ y. bind v (λ zs. ok (y ∷ zs)))) (keeps first x a.y b.of a.part b.first)
      (each_folded g keeps (first + cells x) xs a.more a.rest c.of c.first) ∙ c.second)

  -- What the folding of each part leaves, stays.
  map_folded : {B : Type 0} (g : A → B) → ((n : ℕ) (x y : A) → f n x ≡ done y → g y ≡ g x) → (first : ℕ) (xs ys : List A) → fold_each f cells first xs ≡ done ys → map g ys ≡ map g xs
  map_folded g same first [] ys k = ap (map g) (sym (done_same k))
  map_folded g same first (x ∷ xs) ys k =
      let a = folded first x xs ys k in
      ap (map g) (sym a.is) ∙ ap₂ ◌∷◌ (same first x a.y a.part) (map_folded g same (first + cells x) xs a.more a.rest)

row_of : (first : ℕ) (es ds : List Expression × ℕ) → fold_row first es ≡ done ds → fold_each fold_expression size first es.0 ≡ done ds.0
row_of first es ds k =
    let a = after (fold_each fold_expression size first es.0) (λ ys. done (ys, es.1)) ds k in
    a.first ∙ ap (λ z. done z.0) (done_same a.second)

row_keeps : (row : Row) (first : ℕ) (es ds : List Expression × ℕ) → fold_row first es ≡ done ds → (those : Row) → evaluate_all es.0 row ≡ ok those → evaluate_all ds.0 row ≡ ok those
row_keeps row first es ds k those h = each_folded fold_expression size (evaluate row) (expression_keeps row) first es.0 ds.0 (row_of first es ds k) those h

each_map : {A B C : Type 0} (g : B → Result C) (f : A → B) (xs : List A) → each g (map f xs) ≡ each (λ x. g (f x)) xs
each_map g f [] = refl
each_map g f (x ∷ xs) = ap (λ z. bind (g (f x)) (λ y. bind z (λ ys. ok (y ∷ ys)))) (each_map g f xs)

module _ {A : Type 0} (cells : Expression × A × ℕ → ℕ) where
  part_of : (n : ℕ) (x y : Expression × A × ℕ) → fold_part n x ≡ done y → After (fold_expression n x.0) (λ e. done (e, x.1, x.2)) y
  part_of n x y k = after (fold_expression n x.0) (λ e. done (e, x.1, x.2)) y k

  parts_keep : (row : Row) (first : ℕ) (ps qs : List (Expression × A × ℕ)) → fold_each fold_part cells first ps ≡ done qs
      → (those : Row) → evaluate_all (expressions ps) row ≡ ok those → evaluate_all (expressions qs) row ≡ ok those
  parts_keep row first ps qs k those h =
      each_map (evaluate row) (λ p. p.0) qs
      ∙ each_folded fold_part cells (λ p. evaluate row p.0) keeps first ps qs k those (sym (each_map (evaluate row) (λ p. p.0) ps) ∙ h)
    where
      keeps : (n : ℕ) (x y : Expression × A × ℕ) (v : Value) → fold_part n x ≡ done y → evaluate row x.0 ≡ ok v → evaluate row y.0 ≡ ok v
      keeps n x y v i j = let a = part_of n x y i in
          ap (λ z. evaluate row z.0) (sym (done_same a.second)) ∙ expression_keeps row n x.0 a.of v a.first j

  parts_rest : (first : ℕ) (ps qs : List (Expression × A × ℕ)) → fold_each fold_part cells first ps ≡ done qs → map (λ p. p.1) qs ≡ map (λ p. p.1) ps
  parts_rest first ps qs k =
      map_folded fold_part cells (λ p. p.1) (λ n x y i. ap (λ z. z.1) (sym (done_same (part_of n x y i).second))) first ps qs k

-- ---- one reading follows another

keep_each_keeps : (f g : Row → Result Bool) → ((x : Row) (y : Bool) → f x ≡ ok y → g x ≡ ok y) → (xs ys : List Row) → keep_each f xs ≡ ok ys → keep_each g xs ≡ ok ys
keep_each_keeps f g k [] ys h = h
keep_each_keeps f g k (x ∷ xs) ys h =
    let a = came (f x) (λ y. bind (keep_each f xs) (λ zs. ok (cons_if y x zs))) ys h in
    let b = came (keep_each f xs) (λ zs. ok (cons_if a.of x zs)) ys a.second in
    ap₂ (λ u v. bind u (λ y. bind v (λ zs. ok (cons_if y x zs)))) (k x a.of a.first) (keep_each_keeps f g k xs b.of b.first) ∙ b.second

each_keeps : {A B : Type 0} (f g : A → Result B) → ((x : A) (y : B) → f x ≡ ok y → g x ≡ ok y) → (xs : List A) (ys : List B) → each f xs ≡ ok ys → each g xs ≡ ok ys
each_keeps f g k [] ys h = h
each_keeps f g k (x ∷ xs) ys h =
    let a = came (f x) (λ y. bind (each f xs) (λ zs. ok (y ∷ zs))) ys h in
    let b = came (each f xs) (λ zs. ok (a.of ∷ zs)) ys a.second in
    ap₂ (λ u v. bind u (λ y. bind v (λ zs. ok (y ∷ zs)))) (k x a.of a.first) (each_keeps f g k xs b.of b.first) ∙ b.second

holds_keeps : (first : ℕ) (e d : Expression) → fold_expression first e ≡ done d → (row : Row) (b : Bool) → holds e row ≡ ok b → holds d row ≡ ok b
holds_keeps first e d k row b h =
    let c = came (evaluate row e) kept b h in ap (λ z. bind z kept) (expression_keeps row first e d c.of k c.first) ∙ c.second

optional_keeps : (first : ℕ) (p q : Option Expression) → fold_optional first p ≡ done q → (row : Row) (b : Bool) → optional_holds p row ≡ ok b → optional_holds q row ≡ ok b
optional_keeps first none q k row b h = ap (λ z. optional_holds z row) (sym (done_same k)) ∙ h
optional_keeps first (some e) q k row b h =
    let a = after (fold_expression first e) (λ x. done (some x)) q k in
    ap (λ z. optional_holds z row) (sym (done_same a.second)) ∙ holds_keeps first e a.of a.first row b h

values_keeps : (n first : ℕ) (es ds : List Expression × ℕ) (row : Row) → fold_row first es ≡ done ds → values_row n es ≡ ok row → values_row n ds ≡ ok row
values_keeps n first es ds row k h =
    let c = came (evaluate_all es.0 []) (λ z. ok (fit n z)) row h in ap (λ z. bind z (λ w. ok (fit n w))) (row_keeps [] first es ds k c.of c.first) ∙ c.second

values_columns_same : (first : ℕ) (rows folded_rows : List (List Expression × ℕ)) → fold_each fold_row row_size first rows ≡ done folded_rows → values_columns folded_rows ≡ values_columns rows
values_columns_same first [] ys k = ap values_columns (sym (done_same k))
values_columns_same first (x ∷ xs) ys k =
    let a = folded fold_row row_size first x xs ys k in
    ap values_columns (sym a.is) ∙ length_folded fold_expression size first x.0 a.y.0 (row_of first x a.y a.part)

module _ (database : Database) where
  leaf_keeps : (first : ℕ) (l m : Leaf) → fold_leaf first l ≡ done m → (rows : List Row) → read_leaf database l ≡ ok rows → read_leaf database m ≡ ok rows
  leaf_keeps first (scan table alias p) m k rows h =
      let a = after (fold_optional first p) (λ q. done (scan table alias q)) m k in
      ap (read_leaf database) (sym (done_same a.second))
      ∙ keep_each_keeps (optional_holds p) (optional_holds a.of) (optional_keeps first p a.of a.first) (database.table_rows table) rows h
  leaf_keeps first (lookup access table alias constants) m k rows h = ap (read_leaf database) (sym (done_same k)) ∙ h
  leaf_keeps first (nothing labels) m k rows h = ap (read_leaf database) (sym (done_same k)) ∙ h
  leaf_keeps first (values es) m k rows h =
      let a = after (fold_each fold_row row_size first es) (λ qs. done (values qs)) m k in
      ap (read_leaf database) (sym (done_same a.second))
      ∙ (ap (λ n. each (values_row n) a.of) (values_columns_same first es a.of a.first)
      ∙ each_folded fold_row row_size (values_row (values_columns es)) (values_keeps (values_columns es)) first es a.of a.first rows h)

  over_keeps : (first : ℕ) (o p : Over) → fold_over first o ≡ done p → (source rows : List Row) → read_over database o source ≡ ok rows → read_over database p source ≡ ok rows
  over_keeps first (filter e) p k source rows h =
      let a = after (fold_expression first e) (λ z. done (filter z)) p k in
      ap (λ z. read_over database z source) (sym (done_same a.second))
      ∙ keep_each_keeps (holds e) (holds a.of) (holds_keeps first e a.of a.first) source rows h
  over_keeps first (other (limit amount)) p k source rows h = ap (λ z. read_over database z source) (sym (done_same k)) ∙ h
  over_keeps first (other (offset amount)) p k source rows h = ap (λ z. read_over database z source) (sym (done_same k)) ∙ h
  over_keeps first (other (order key)) p k source rows h =
      let a = after (fold_each fold_part key_size first key) (λ qs. done (other (order qs))) p k in
      let b = came (each (evaluate_all (expressions key)) source) (λ keys. ok (pick_all (database.arrangement (directions key) keys) source)) rows h in
      ap (λ z. read_over database z source) (sym (done_same a.second))
      ∙ (ap₂ (λ z ds. bind z (λ keys. ok (pick_all (database.arrangement ds keys) source)))
      (each_keeps (evaluate_all (expressions key)) (evaluate_all (expressions a.of)) (λ row those i. parts_keep key_size row first key a.of a.first those i) source b.of b.first)
      (parts_rest key_size first key a.of a.first) ∙ b.second)
  over_keeps first (other (projection items)) p k source rows h =
      let a = after (fold_each fold_part item_size first items) (λ qs. done (other (projection qs))) p k in
      ap (λ z. read_over database z source) (sym (done_same a.second))
      ∙ each_keeps (evaluate_all (expressions items)) (evaluate_all (expressions a.of)) (λ row those i. parts_keep item_size row first items a.of a.first those i) source rows h
  over_keeps first (other (remap targets)) p k source rows h = ap (λ z. read_over database z source) (sym (done_same k)) ∙ h
  over_keeps first (other (aggregate group_by aggregates)) p k source rows h = ap (λ z. read_over database z source) (sym (done_same k)) ∙ h

  join_keeps : (first : ℕ) (j k : Join) → fold_join first j ≡ done k → (n : ℕ) (row : Row) (b : Bool) → join_holds j n row ≡ ok b → join_holds k n row ≡ ok b
  join_keeps first (nested_loop p) k i n row b h =
      let a = after (fold_optional first p) (λ z. done (nested_loop z)) k i in
      ap (λ z. join_holds z n row) (sym (done_same a.second)) ∙ optional_keeps first p a.of a.first row b h
  join_keeps first (hash x y) k i n row b h = ap (λ z. join_holds z n row) (sym (done_same i)) ∙ h

-- ---- folding keeps the number of columns, and makes no join outer

module _ (schema : Schema) where
  leaf_columns_same : (first : ℕ) (l m : Leaf) → fold_leaf first l ≡ done m → leaf_columns schema m ≡ leaf_columns schema l
  leaf_columns_same first (scan table alias p) m k = let a = after (fold_optional first p) (λ q. done (scan table alias q)) m k in ap (leaf_columns schema) (sym (done_same a.second))
  leaf_columns_same first (lookup access table alias constants) m k = ap (leaf_columns schema) (sym (done_same k))
  leaf_columns_same first (nothing labels) m k = ap (leaf_columns schema) (sym (done_same k))
  leaf_columns_same first (values es) m k =
      let a = after (fold_each fold_row row_size first es) (λ qs. done (values qs)) m k in
      ap (leaf_columns schema) (sym (done_same a.second)) ∙ values_columns_same first es a.of a.first

  over_columns_same : (og first : ℕ) (o p : Over) → fold_over first o ≡ done p → (m n : Node) → columns schema m ≡ columns schema n → columns schema (over og p m) ≡ columns schema (over og o n)
  over_columns_same og first (filter e) p k m n h = let a = after (fold_expression first e) (λ z. done (filter z)) p k in ap (λ z. columns schema (over og z m)) (sym (done_same a.second)) ∙ h
  over_columns_same og first (other (limit amount)) p k m n h = ap (λ z. columns schema (over og z m)) (sym (done_same k)) ∙ h
  over_columns_same og first (other (offset amount)) p k m n h = ap (λ z. columns schema (over og z m)) (sym (done_same k)) ∙ h
  over_columns_same og first (other (order key)) p k m n h =
      let a = after (fold_each fold_part key_size first key) (λ qs. done (other (order qs))) p k in ap (λ z. columns schema (over og z m)) (sym (done_same a.second)) ∙ h
  over_columns_same og first (other (projection items)) p k m n h =
      let a = after (fold_each fold_part item_size first items) (λ qs. done (other (projection qs))) p k in
      ap (λ z. columns schema (over og z m)) (sym (done_same a.second)) ∙ length_folded fold_part item_size first items a.of a.first
  over_columns_same og first (other (remap targets)) p k m n h = ap (λ z. columns schema (over og z m)) (sym (done_same k))
  over_columns_same og first (other (aggregate group_by aggregates)) p k m n h = ap (λ z. columns schema (over og z m)) (sym (done_same k))

-- ---- the pass

-- the parts of a folded node
abbrev then_source : ℕ → ℕ → Node → Over → Answer Node
then_source og first source p = ConstantFolding first source >>= λ s. done (over og p s)

abbrev then_right : ℕ → ℕ → Bool → Node → Node → Join → Node → Answer Node
then_right og first outer left right k l = ConstantFolding (first + node_size left) right >>= λ r. done (join og outer k l r)

abbrev then_left : ℕ → ℕ → Bool → Node → Node → Join → Answer Node
then_left og first outer left right k = ConstantFolding first left >>= λ l. then_right og first outer left right k l

module _ (schema : Schema) where
  pub folding_columns : (first : ℕ) (n m : Node) → ConstantFolding first n ≡ done m → columns schema m ≡ columns schema n
  folding_columns first (leaf og l) m k = let a = after (fold_leaf first l) (λ z. done (leaf og z)) m k in
      ap (columns schema) (sym (done_same a.second)) ∙ leaf_columns_same schema first l a.of a.first
  folding_columns first (over og o source) m k =
      let a = after (fold_over (first + node_size source) o) (then_source og first source) m k in
      let b = after (ConstantFolding first source) (λ s. done (over og a.of s)) m a.second in
      ap (columns schema) (sym (done_same b.second))
      ∙ over_columns_same schema og (first + node_size source) o a.of a.first b.of source (folding_columns first source b.of b.first)
  folding_columns first (join og outer j left right) m k =
      let a = after (fold_join (first + (node_size left + node_size right)) j) (then_left og first outer left right) m k in
      let b = after (ConstantFolding first left) (then_right og first outer left right a.of) m a.second in
      let c = after (ConstantFolding (first + node_size left) right) (λ r. done (join og outer a.of b.of r)) m b.second in
      ap (columns schema) (sym (done_same c.second))
      ∙ ap₂ ◌+◌ (folding_columns first left b.of b.first) (folding_columns (first + node_size left) right c.of c.first)

pub folding_no_outer : (first : ℕ) (n m : Node) → ConstantFolding first n ≡ done m → no_outer m ≡ no_outer n
folding_no_outer first (leaf og l) m k = let a = after (fold_leaf first l) (λ z. done (leaf og z)) m k in ap no_outer (sym (done_same a.second))
folding_no_outer first (over og o source) m k =
    let a = after (fold_over (first + node_size source) o) (then_source og first source) m k in
    let b = after (ConstantFolding first source) (λ s. done (over og a.of s)) m a.second in
    ap no_outer (sym (done_same b.second)) ∙ folding_no_outer first source b.of b.first
folding_no_outer first (join og outer j left right) m k =
    let a = after (fold_join (first + (node_size left + node_size right)) j) (then_left og first outer left right) m k in
    let b = after (ConstantFolding first left) (then_right og first outer left right a.of) m a.second in
    let c = after (ConstantFolding (first + node_size left) right) (λ r. done (join og outer a.of b.of r)) m b.second in
    ap no_outer (sym (done_same c.second))
    ∙ ap₂ (λ x y. not outer && (x && y)) (folding_no_outer first left b.of b.first) (folding_no_outer (first + node_size left) right c.of c.first)

module _ (database : Database) where
  abbrev schema : Schema
  schema = database.schema

  pub folding_read : (first : ℕ) (n m : Node) → no_outer n ≡ true → ConstantFolding first n ≡ done m → (rows : List Row) → read database n ≡ ok rows → read database m ≡ ok rows
  folding_read first (leaf og l) m i k rows h = let a = after (fold_leaf first l) (λ z. done (leaf og z)) m k in
      ap (read database) (sym (done_same a.second)) ∙ leaf_keeps database first l a.of a.first rows h
  folding_read first (over og o source) m i k rows h =
      let a = after (fold_over (first + node_size source) o) (then_source og first source) m k in
      let b = after (ConstantFolding first source) (λ s. done (over og a.of s)) m a.second in
      let c = came (read database source) (read_over database o) rows h in
      ap (read database) (sym (done_same b.second))
      ∙ (ap (λ z. bind z (read_over database a.of)) (folding_read first source b.of i b.first c.of c.first)
      ∙ over_keeps database (first + node_size source) o a.of a.first c.of rows c.second)
  folding_read first (join og true j left right) m i k rows h = false≢true i
  folding_read first (join og false j left right) m i k rows h =
      let a = after (fold_join (first + (node_size left + node_size right)) j) (then_left og first false left right) m k in
      let b = after (ConstantFolding first left) (then_right og first false left right a.of) m a.second in
      let c = after (ConstantFolding (first + node_size left) right) (λ r. done (join og false a.of b.of r)) m b.second in
      let n = columns schema left in
      let d = came (read database left) (λ ls. bind (read database right) (λ rs. keep_each (join_holds j n) (joined_rows ls rs))) rows h in
      let e = came (read database right) (λ rs. keep_each (join_holds j n) (joined_rows d.of rs)) rows d.second in
      ap (read database) (sym (done_same c.second))
      ∙ (ap₂ (λ x y. bind x (λ ls. bind y (λ rs. keep_each (join_holds a.of (columns schema b.of)) (joined_rows ls rs))))
      (folding_read first left b.of (and_left (no_outer left) (no_outer right) i) b.first d.of d.first)
      (folding_read (first + node_size left) right c.of (and_right (no_outer left) (no_outer right) i) c.first e.of e.first)
      ∙ (ap (λ z. keep_each (join_holds a.of z) (joined_rows d.of e.of)) (folding_columns schema first left b.of b.first)
      ∙ keep_each_keeps (join_holds j n) (join_holds a.of n) (join_keeps database (first + (node_size left + node_size right)) j a.of a.first n) (joined_rows d.of e.of) rows e.second))
