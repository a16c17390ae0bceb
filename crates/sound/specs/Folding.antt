-- Pass 1, ConstantFolding: what is done is sound, with the same number of columns.
use Rattle.std.specs.Prelude.{ℕ, suc, ◌+◌, ◌<◌, ◌≡◌, refl, Bool, true, false, List, [], ◌∷◌, length}
use Rattle.std.proofs.Common.{arith, sym, ap, ◌∙◌, subst}
use Rattle.std.proofs.Math.Option.{Option, none, some}
use Rattle.value.specs.Value.{ok}
use Rattle.sql.specs.Schema.{Schema}
use Rattle.sql.specs.Expression.{Marked, origin, Logical, logical, Equal, function, Expression, constant, column, unary, binary, size, bind, evaluate, contains_column}
use Rattle.sql.specs.Plan.{Label, Leaf, scan, lookup, nothing, values, limit, offset, order, projection, remap, aggregate, Over, filter, other, Join, nested_loop, hash, Node, leaf, over, join, values_columns, leaf_columns, columns, row_size, item_size, key_size, node_size}
use Rattle.sql.specs.Answer.{Answer, done, refused, ◌>>=◌}
use Rattle.sql.specs.Optimizer.{Operand, deciding, neutral, undetermined, operand, simplify_logical, simplify, fold_by, fold, fold_expression, fold_each, fold_optional, fold_row, fold_part, fold_leaf, fold_over, fold_join, ConstantFolding}
use Rattle.sheet.specs.Scope.{table_columns}
use Rattle.sheet_laws.specs.Fits.{All, Optional, LabelFits}
use Rattle.sheet_laws.proofs.Counts.{all_map}
use Rattle.sound.specs.Answers.{valued_bind, Answered, answered_then, answered_place}
use Rattle.sound.specs.Expressions.{MadeOf}
use Rattle.sound.specs.Values.{evaluate_fits}
use Rattle.sound.specs.Sound.{Fitting, Within, RowOf, SoundLeaf, SoundOver, SoundJoin, Sound, Emits}
use Rattle.sound.specs.Keeps.{over_keeps, join_keeps}

-- parts that are folded one by one
each_folded : {A : Type 0} (f : ℕ → A → Answer A) (cells : A → ℕ) (Q : A → Type 0) → ((first : ℕ) (x : A) → Q x → Answered Q (f first x))
    → (xs : List A) (first : ℕ) → All Q xs → Answered (λ ys. All Q ys × (length ys ≡ length xs)) (fold_each f cells first xs)
each_folded f cells Q h [] first q = (tt, refl)
each_folded {A} f cells Q h (x ∷ xs) first q =
    answered_then Q (λ ys. All Q ys × (length ys ≡ suc (length xs))) (f first x) (λ y. fold_each f cells (first + cells x) xs >>= λ ys. done (y ∷ ys)) (h first x q.0)
    (λ y p. answered_then (λ (ys : List A). All Q ys × (length ys ≡ length xs)) (λ ys. All Q ys × (length ys ≡ suc (length xs))) (fold_each f cells (first + cells x) xs) (λ ys. done (y ∷ ys))
    (each_folded f cells Q h xs (first + cells x) q.1) (λ ys r. ((p, r.0), ap suc r.1)))

module _ (schema : Schema) (text : List ℕ) (tables : ℕ) where
  module _ (C : ℕ → Type 0) where
    abbrev M : Expression → Type 0
    M = MadeOf (Fitting schema text tables) C

    simplified : (og : ℕ) (o : Logical) (a b : Operand) (l r : Expression) → M l → M r → M (simplify_logical og o a b l r)
    simplified og o deciding b l r x y = tt
    simplified og o neutral deciding l r x y = tt
    simplified og o neutral neutral l r x y = y
    simplified og o neutral undetermined l r x y = y
    simplified og o undetermined deciding l r x y = tt
    simplified og o undetermined neutral l r x y = x
    simplified og o undetermined undetermined l r x y = (x, y)

    simplify_keeps : (e : Expression) → M e → M (simplify e)
    simplify_keeps (constant og v) m = m
    simplify_keeps (column og c) m = m
    simplify_keeps (unary og o x) m = m
    simplify_keeps (binary og (logical o) l r) m = simplified og o (operand o l) (operand o r) l r m.0 m.1
    simplify_keeps (binary og Equal l r) m = m
    simplify_keeps (binary og (function f) l r) m = m

    folded_by : (b : Bool) (place : ℕ) (e : Expression) → M e → Answered M (fold_by b place e)
    folded_by true place e m = simplify_keeps e m
    folded_by false place e m =
        answered_place M place (bind (evaluate [] e) (λ v. ok (constant (origin e) v)))
        (valued_bind (Fitting schema text tables) M (evaluate [] e) (λ v. ok (constant (origin e) v)) (evaluate_fits text (length text) C e m) (λ v p. p))

    folded : (place : ℕ) (e : Expression) → M e → Answered M (fold place e)
    folded place e m = folded_by (contains_column (λ c. true) e) place e m

    expression_folded : (first : ℕ) (e : Expression) → M e → Answered M (fold_expression first e)
    expression_folded first (constant og v) m = folded first (constant og v) m
    expression_folded first (column og c) m = folded first (column og c) m
    expression_folded first (unary og o x) m =
        answered_then M M (fold_expression first x) (λ y. fold (first + size x) (unary og o y)) (expression_folded first x m)
        (λ y p. folded (first + size x) (unary og o y) p)
    expression_folded first (binary og o l r) m =
        answered_then M M (fold_expression first l) (λ x. fold_expression (first + size l) r >>= λ y. fold (first + (size l + size r)) (binary og o x y)) (expression_folded first l m.0)
        (λ x p. answered_then M M (fold_expression (first + size l) r) (λ y. fold (first + (size l + size r)) (binary og o x y)) (expression_folded (first + size l) r m.1)
        (λ y q. folded (first + (size l + size r)) (binary og o x y) (p, q)))

    optional_folded : (first : ℕ) (p : Option Expression) → Optional M p → Answered (Optional M) (fold_optional first p)
    optional_folded first none m = tt
    optional_folded first (some e) m = answered_then M (Optional M) (fold_expression first e) (λ x. done (some x)) (expression_folded first e m) (λ x p. p)

    part_folded : {A : Type 0} (L : A → Type 0) (first : ℕ) (x : Expression × A × ℕ) → M x.0 × L x.1 → Answered (λ (y : Expression × A × ℕ). M y.0 × L y.1) (fold_part first x)
    part_folded {A} L first x m =
        answered_then M (λ (y : Expression × A × ℕ). M y.0 × L y.1) (fold_expression first x.0) (λ e. done (e, x.1, x.2)) (expression_folded first x.0 m.0) (λ e p. (p, m.1))

  abbrev R : ℕ → Marked (List Expression) → Type 0
  R = RowOf schema text tables

  row_folded : (n first : ℕ) (row : Marked (List Expression)) → R n row → Answered (R n) (fold_row first row)
  row_folded n first row m =
      answered_then (λ (ys : List Expression). All (Within schema text tables 0) ys × (length ys ≡ length row.0)) (R n) (fold_each fold_expression size first row.0) (λ ys. done (ys, row.1))
      (each_folded fold_expression size (Within schema text tables 0) (expression_folded (λ c. c < 0)) row.0 first m.0) (λ ys h. (h.0, h.1 ∙ m.1))

  -- rows of n columns each, as many as others whose first one has n
  same_columns : (n : ℕ) (rs qs : List (Marked (List Expression))) → values_columns rs ≡ n → All (R n) qs → length qs ≡ length rs → values_columns qs ≡ n
  same_columns n [] [] h x e = h
  same_columns n [] (q ∷ qs) h x e = absurd (omega arith)
  same_columns n (r ∷ rs) [] h x e = absurd (omega arith)
  same_columns n (r ∷ rs) (q ∷ qs) h x e = x.0.1

  leaf_folded : (first : ℕ) (l : Leaf) → SoundLeaf schema text tables l → Answered (λ m. SoundLeaf schema text tables m × (leaf_columns schema m ≡ leaf_columns schema l)) (fold_leaf first l)
  leaf_folded first (scan t al p) x =
      answered_then (Optional (Within schema text tables (table_columns schema t))) (λ m. SoundLeaf schema text tables m × (leaf_columns schema m ≡ table_columns schema t))
      (fold_optional first p) (λ q. done (scan t al q)) (optional_folded (λ c. c < table_columns schema t) first p x.0) (λ q y. ((y, x.1), refl))
  leaf_folded first (lookup a t al vs) x = (x, refl)
  leaf_folded first (nothing ls) x = (x, refl)
  leaf_folded first (values rs) x =
      let n = values_columns rs in
      answered_then (λ qs. All (R n) qs × (length qs ≡ length rs)) (λ m. SoundLeaf schema text tables m × (leaf_columns schema m ≡ n))
      (fold_each fold_row row_size first rs) (λ qs. done (values qs)) (each_folded fold_row row_size (R n) (row_folded n) rs first x)
      (λ qs y. let e = same_columns n rs qs refl y.0 y.1 in (subst (λ (k : ℕ). All (R k) qs) (sym e) y.0, e))

  -- with as many columns over any source
  abbrev OverAs : ℕ → Over → Over → Type 0
  OverAs n o p = SoundOver schema text tables n p × ((og : ℕ) (s : Node) → columns schema (over og p s) ≡ columns schema (over og o s))

  over_folded : (n first : ℕ) (o : Over) → SoundOver schema text tables n o → Answered (OverAs n o) (fold_over first o)
  over_folded n first (filter e) x =
      answered_then (Within schema text tables n) (OverAs n (filter e)) (fold_expression first e) (λ p. done (filter p)) (expression_folded (λ c. c < n) first e x) (λ p y. (y, λ og s. refl))
  over_folded n first (other (limit k)) x = (x, λ og s. refl)
  over_folded n first (other (offset k)) x = (x, λ og s. refl)
  over_folded n first (other (order ks)) x =
      let Q : Expression × Bool × ℕ → Type 0 = λ k. Within schema text tables n k.0 × Unit {0} in
      answered_then (λ ys. All Q ys × (length ys ≡ length ks)) (OverAs n (other (order ks)))
      (fold_each fold_part key_size first ks) (λ ys. done (other (order ys)))
      (each_folded fold_part key_size Q (part_folded (λ c. c < n) (λ d. Unit {0})) ks first (all_map (λ k. Within schema text tables n k.0) Q (λ k y. (y, tt)) ks x))
      (λ ys y. (all_map Q (λ k. Within schema text tables n k.0) (λ k z. z.0) ys y.0, λ og s. refl))
  over_folded n first (other (projection is)) x =
      let Q : Expression × Label × ℕ → Type 0 = λ i. Within schema text tables n i.0 × LabelFits (length text) i.1 in
      answered_then (λ ys. All Q ys × (length ys ≡ length is)) (OverAs n (other (projection is)))
      (fold_each fold_part item_size first is) (λ ys. done (other (projection ys)))
      (each_folded fold_part item_size Q (part_folded (λ c. c < n) (LabelFits (length text))) is first x)
      (λ ys y. (y.0, λ og s. y.1))
  over_folded n first (other (remap ts)) x = (x, λ og s. refl)
  over_folded n first (other (aggregate es gs)) x = (x, λ og s. refl)

  join_folded : (l r first : ℕ) (j : Join) → SoundJoin schema text tables l r j → Answered (SoundJoin schema text tables l r) (fold_join first j)
  join_folded l r first (nested_loop p) x =
      answered_then (Optional (Within schema text tables (l + r))) (SoundJoin schema text tables l r) (fold_optional first p) (λ q. done (nested_loop q))
      (optional_folded (λ c. c < l + r) first p x) (λ q y. y)
  join_folded l r first (hash i j) x = x

  abbrev E : ℕ → Node → Type 0
  E = Emits schema text tables

  pub folding_keeps : (first : ℕ) (n : Node) → Sound schema text tables n → Answered (Emits schema text tables (columns schema n)) (ConstantFolding first n)
  folding_keeps first (leaf og l) x =
      answered_then (λ m. SoundLeaf schema text tables m × (leaf_columns schema m ≡ leaf_columns schema l)) (E (leaf_columns schema l))
      (fold_leaf first l) (λ m. done (leaf og m)) (leaf_folded first l x) (λ m y. y)
  folding_keeps first (over og o s) x =
      let n = columns schema s in
      answered_then (OverAs n o) (E (columns schema (over og o s))) (fold_over (first + node_size s) o) (λ p. ConstantFolding first s >>= λ t. done (over og p t))
      (over_folded n (first + node_size s) o x.1)
      (λ p y. answered_then (E n) (E (columns schema (over og o s))) (ConstantFolding first s) (λ t. done (over og p t)) (folding_keeps first s x.0)
      (λ t z. let k = over_keeps schema text tables og p s t y.0 z in (k.0, k.1 ∙ y.1 og s)))
  folding_keeps first (join og outer j a b) x =
      let n = columns schema a in
      let m = columns schema b in
      answered_then (SoundJoin schema text tables n m) (E (n + m)) (fold_join (first + (node_size a + node_size b)) j)
      (λ k. ConstantFolding first a >>= λ l. ConstantFolding (first + node_size a) b >>= λ r. done (join og outer k l r))
      (join_folded n m (first + (node_size a + node_size b)) j x.1.1)
      (λ k y. answered_then (E n) (E (n + m)) (ConstantFolding first a) (λ l. ConstantFolding (first + node_size a) b >>= λ r. done (join og outer k l r)) (folding_keeps first a x.0)
      (λ l z. answered_then (E m) (E (n + m)) (ConstantFolding (first + node_size a) b) (λ r. done (join og outer k l r)) (folding_keeps (first + node_size a) b x.1.0)
      (λ r w. join_keeps schema text tables og outer k n m l r y z w)))
