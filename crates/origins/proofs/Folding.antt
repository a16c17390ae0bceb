-- ConstantFolding commutes with every map on origins.
use Rattle.std.specs.Prelude.{ℕ, ◌+◌, Bool, true, false, List, [], ◌∷◌, map, ◌≡◌, refl}
use Rattle.std.proofs.Math.Option.{Option, none, some}
use Rattle.std.proofs.Common.{ap, ap₂, ◌∙◌}
use Rattle.value.specs.Value.{Value, truth, datum, Result, ok, err}
use Rattle.sql.specs.Expression.{Marked, Logical, logical, Equal, function, Expression, constant, column, unary, binary, origin, size, bind, evaluate, contains_column}
use Rattle.sql.specs.Plan.{Label, Leaf, scan, lookup, nothing, values, limit, offset, order, projection, remap, aggregate, Over, filter, other, Join, nested_loop, hash, Node, leaf, over, join, row_size, item_size, key_size, node_size}
use Rattle.sql.specs.Answer.{Answer, done, ◌>>=◌, at_place}
use Rattle.sql.specs.Optimizer.{Operand, deciding, neutral, undetermined, operand, decided, simplify_logical, simplify, fold_by, fold, fold_expression, fold_each, fold_optional, fold_row, fold_part, fold_leaf, fold_over, fold_join, ConstantFolding, map_optional}
use Rattle.origins.specs.Origins.{map_origins, map_row, map_part, map_leaf, map_over, map_join, map_node_origins, map_answer}
use Rattle.origins.proofs.Lists.{then_map}
use Rattle.origins.proofs.Unseen.{size_unseen, evaluate_unseen, contains_unseen, row_size_unseen, item_size_unseen, key_size_unseen, node_size_unseen}

-- ---- parts that stand one behind the other

module _ {A : Type 0} (u : A → A) (f : ℕ → A → Answer A) (cells : A → ℕ)
    (commutes : (first : ℕ) (x : A) → f first (u x) ≡ map_answer u (f first x)) (unseen : (x : A) → cells (u x) ≡ cells x) where
  each_map : (first : ℕ) (xs : List A) → fold_each f cells first (map u xs) ≡ map_answer (map u) (fold_each f cells first xs)
  each_map first [] = refl
  each_map first (x ∷ xs) =
      let rest = fold_each f cells (first + cells x) xs in
      then_map u (map u) (λ y. rest >>= λ ys. done (y ∷ ys)) (λ y. fold_each f cells (first + cells (u x)) (map u xs) >>= λ ys. done (y ∷ ys)) (f first x) (f first (u x)) (commutes first x)
      (λ y. then_map (map u) (map u) (λ ys. done (y ∷ ys)) (λ ys. done (u y ∷ ys)) rest (fold_each f cells (first + cells (u x)) (map u xs))
      (ap (λ k. fold_each f cells (first + k) (map u xs)) (unseen x) ∙ each_map (first + cells x) xs) (λ ys. refl))

module _ (h : ℕ → ℕ) where
  -- ---- expressions

  origin_map : (e : Expression) → origin (map_origins h e) ≡ h (origin e)
  origin_map (constant og v) = refl
  origin_map (column og c) = refl
  origin_map (unary og o x) = refl
  origin_map (binary og o l r) = refl

  operand_unseen : (o : Logical) (e : Expression) → operand o (map_origins h e) ≡ operand o e
  operand_unseen o (constant og (truth t)) = refl
  operand_unseen o (constant og (datum d)) = refl
  operand_unseen o (column og c) = refl
  operand_unseen o (unary og p x) = refl
  operand_unseen o (binary og p x y) = refl

  simplify_logical_map : (og : ℕ) (o : Logical) (a b : Operand) (l r : Expression)
      → simplify_logical (h og) o a b (map_origins h l) (map_origins h r) ≡ map_origins h (simplify_logical og o a b l r)
  simplify_logical_map og o deciding b l r = refl
  simplify_logical_map og o neutral deciding l r = refl
  simplify_logical_map og o neutral neutral l r = refl
  simplify_logical_map og o neutral undetermined l r = refl
  simplify_logical_map og o undetermined deciding l r = refl
  simplify_logical_map og o undetermined neutral l r = refl
  simplify_logical_map og o undetermined undetermined l r = refl

  simplify_map : (e : Expression) → simplify (map_origins h e) ≡ map_origins h (simplify e)
  simplify_map (constant og v) = refl
  simplify_map (column og c) = refl
  simplify_map (unary og o x) = refl
  simplify_map (binary og (logical o) l r) =
      ap₂ (λ a b. simplify_logical (h og) o a b (map_origins h l) (map_origins h r)) (operand_unseen o l) (operand_unseen o r)
      ∙ simplify_logical_map og o (operand o l) (operand o r) l r
  simplify_map (binary og Equal l r) = refl
  simplify_map (binary og (function f) l r) = refl

  value_map : (place og : ℕ) (r : Result Value)
      → at_place place (bind r (λ v. ok (constant (h og) v))) ≡ map_answer (map_origins h) (at_place place (bind r (λ v. ok (constant og v))))
  value_map place og (ok v) = refl
  value_map place og (err e) = refl

  fold_by_map : (has_column : Bool) (place : ℕ) (e : Expression) → fold_by has_column place (map_origins h e) ≡ map_answer (map_origins h) (fold_by has_column place e)
  fold_by_map true place e = ap done (simplify_map e)
  fold_by_map false place e =
      ap₂ (λ r og. at_place place (bind r (λ v. ok (constant og v)))) (evaluate_unseen h [] e) (origin_map e) ∙ value_map place (origin e) (evaluate [] e)

  fold_map : (place : ℕ) (e : Expression) → fold place (map_origins h e) ≡ map_answer (map_origins h) (fold place e)
  fold_map place e =
      ap (λ b. fold_by b place (map_origins h e)) (contains_unseen h (λ c. true) e) ∙ fold_by_map (contains_column (λ c. true) e) place e

  pub expression_map : (first : ℕ) (e : Expression) → fold_expression first (map_origins h e) ≡ map_answer (map_origins h) (fold_expression first e)
  expression_map first (constant og v) = fold_map first (constant og v)
  expression_map first (column og c) = fold_map first (column og c)
  expression_map first (unary og o x) =
      then_map (map_origins h) (map_origins h) (λ y. fold (first + size x) (unary og o y)) (λ y. fold (first + size (map_origins h x)) (unary (h og) o y))
      (fold_expression first x) (fold_expression first (map_origins h x)) (expression_map first x)
      (λ y. ap (λ k. fold (first + k) (unary (h og) o (map_origins h y))) (size_unseen h x) ∙ fold_map (first + size x) (unary og o y))
  expression_map first (binary og o l r) =
      then_map (map_origins h) (map_origins h)
      (λ x. fold_expression (first + size l) r >>= λ y. fold (first + (size l + size r)) (binary og o x y))
      (λ x. fold_expression (first + size (map_origins h l)) (map_origins h r) >>= λ y. fold (first + (size (map_origins h l) + size (map_origins h r))) (binary (h og) o x y))
      (fold_expression first l) (fold_expression first (map_origins h l)) (expression_map first l)
      (λ x. then_map (map_origins h) (map_origins h) (λ y. fold (first + (size l + size r)) (binary og o x y))
      (λ y. fold (first + (size (map_origins h l) + size (map_origins h r))) (binary (h og) o (map_origins h x) y))
      (fold_expression (first + size l) r) (fold_expression (first + size (map_origins h l)) (map_origins h r))
      (ap (λ k. fold_expression (first + k) (map_origins h r)) (size_unseen h l) ∙ expression_map (first + size l) r)
      (λ y. ap₂ (λ m n. fold (first + (m + n)) (binary (h og) o (map_origins h x) (map_origins h y))) (size_unseen h l) (size_unseen h r)
      ∙ fold_map (first + (size l + size r)) (binary og o x y)))

  -- ---- parts of nodes

  optional_map : (first : ℕ) (p : Option Expression) → fold_optional first (map_optional (map_origins h) p) ≡ map_answer (map_optional (map_origins h)) (fold_optional first p)
  optional_map first none = refl
  optional_map first (some e) =
      then_map (map_origins h) (map_optional (map_origins h)) (λ x. done (some x)) (λ x. done (some x))
      (fold_expression first e) (fold_expression first (map_origins h e)) (expression_map first e) (λ x. refl)

  expressions_map : (first : ℕ) (es : List Expression)
      → fold_each fold_expression size first (map (map_origins h) es) ≡ map_answer (map (map_origins h)) (fold_each fold_expression size first es)
  expressions_map = each_map (map_origins h) fold_expression size expression_map (size_unseen h)

  row_map : (first : ℕ) (row : Marked (List Expression)) → fold_row first (map_row h row) ≡ map_answer (map_row h) (fold_row first row)
  row_map first row =
      then_map (map (map_origins h)) (map_row h) (λ es. done (es, row.1)) (λ es. done (es, h row.1))
      (fold_each fold_expression size first row.0) (fold_each fold_expression size first (map (map_origins h) row.0)) (expressions_map first row.0) (λ es. refl)

  part_map : {A : Type 0} (first : ℕ) (part : Expression × A × ℕ) → fold_part first (map_part h part) ≡ map_answer (map_part h) (fold_part first part)
  part_map first part =
      then_map (map_origins h) (map_part h) (λ x. done (x, part.1, part.2)) (λ x. done (x, part.1, h part.2))
      (fold_expression first part.0) (fold_expression first (map_origins h part.0)) (expression_map first part.0) (λ x. refl)

  leaf_map : (first : ℕ) (l : Leaf) → fold_leaf first (map_leaf h l) ≡ map_answer (map_leaf h) (fold_leaf first l)
  leaf_map first (scan table alias predicate) =
      then_map (map_optional (map_origins h)) (map_leaf h) (λ p. done (scan table alias p)) (λ p. done (scan table alias p))
      (fold_optional first predicate) (fold_optional first (map_optional (map_origins h) predicate)) (optional_map first predicate) (λ p. refl)
  leaf_map first (lookup access table alias constants) = refl
  leaf_map first (nothing labels) = refl
  leaf_map first (values rows) =
      then_map (map (map_row h)) (map_leaf h) (λ rs. done (values rs)) (λ rs. done (values rs))
      (fold_each fold_row row_size first rows) (fold_each fold_row row_size first (map (map_row h) rows))
      (each_map (map_row h) fold_row row_size row_map (row_size_unseen h) first rows) (λ rs. refl)

  over_map : (first : ℕ) (o : Over) → fold_over first (map_over h o) ≡ map_answer (map_over h) (fold_over first o)
  over_map first (filter predicate) =
      then_map (map_origins h) (map_over h) (λ p. done (filter p)) (λ p. done (filter p))
      (fold_expression first predicate) (fold_expression first (map_origins h predicate)) (expression_map first predicate) (λ p. refl)
  over_map first (other (limit amount)) = refl
  over_map first (other (offset amount)) = refl
  over_map first (other (order key)) =
      then_map (map (map_part h)) (map_over h) (λ ks. done (other (order ks))) (λ ks. done (other (order ks)))
      (fold_each fold_part key_size first key) (fold_each fold_part key_size first (map (map_part h) key))
      (each_map (map_part h) fold_part key_size part_map (key_size_unseen h) first key) (λ ks. refl)
  over_map first (other (projection items)) =
      then_map (map (map_part h)) (map_over h) (λ is. done (other (projection is))) (λ is. done (other (projection is)))
      (fold_each fold_part item_size first items) (fold_each fold_part item_size first (map (map_part h) items))
      (each_map (map_part h) fold_part item_size part_map (item_size_unseen h) first items) (λ is. refl)
  over_map first (other (remap targets)) = refl
  over_map first (other (aggregate group_by aggregates)) = refl

  join_map : (first : ℕ) (j : Join) → fold_join first (map_join h j) ≡ map_answer (map_join h) (fold_join first j)
  join_map first (nested_loop predicate) =
      then_map (map_optional (map_origins h)) (map_join h) (λ p. done (nested_loop p)) (λ p. done (nested_loop p))
      (fold_optional first predicate) (fold_optional first (map_optional (map_origins h) predicate)) (optional_map first predicate) (λ p. refl)
  join_map first (hash left_column right_column) = refl

  -- ---- the pass

  abbrev M : Node → Node
  M = map_node_origins h

  pub folding_map : (first : ℕ) (n : Node) → ConstantFolding first (map_node_origins h n) ≡ map_answer (map_node_origins h) (ConstantFolding first n)
  folding_map first (leaf og l) =
      then_map (map_leaf h) M (λ m. done (leaf og m)) (λ m. done (leaf (h og) m)) (fold_leaf first l) (fold_leaf first (map_leaf h l)) (leaf_map first l) (λ m. refl)
  folding_map first (over og o source) =
      let below = ConstantFolding first source in
      let below' = ConstantFolding first (M source) in
      then_map (map_over h) M (λ p. below >>= λ s. done (over og p s)) (λ p. below' >>= λ s. done (over (h og) p s))
      (fold_over (first + node_size source) o) (fold_over (first + node_size (M source)) (map_over h o))
      (ap (λ k. fold_over (first + k) (map_over h o)) (node_size_unseen h source) ∙ over_map (first + node_size source) o)
      (λ p. then_map M M (λ s. done (over og p s)) (λ s. done (over (h og) (map_over h p) s)) below below' (folding_map first source) (λ s. refl))
  folding_map first (join og outer j left right) =
      let on_left = ConstantFolding first left in
      let on_left' = ConstantFolding first (M left) in
      let on_right = ConstantFolding (first + node_size left) right in
      let on_right' = ConstantFolding (first + node_size (M left)) (M right) in
      then_map (map_join h) M (λ k. on_left >>= λ l. on_right >>= λ r. done (join og outer k l r)) (λ k. on_left' >>= λ l. on_right' >>= λ r. done (join (h og) outer k l r))
      (fold_join (first + (node_size left + node_size right)) j) (fold_join (first + (node_size (M left) + node_size (M right))) (map_join h j))
      (ap₂ (λ m n. fold_join (first + (m + n)) (map_join h j)) (node_size_unseen h left) (node_size_unseen h right) ∙ join_map (first + (node_size left + node_size right)) j)
      (λ k. then_map M M (λ l. on_right >>= λ r. done (join og outer k l r)) (λ l. on_right' >>= λ r. done (join (h og) outer (map_join h k) l r)) on_left on_left' (folding_map first left)
      (λ l. then_map M M (λ r. done (join og outer k l r)) (λ r. done (join (h og) outer (map_join h k) (M l) r)) on_right on_right'
      (ap (λ m. ConstantFolding (first + m) (M right)) (node_size_unseen h left) ∙ folding_map (first + node_size left) right) (λ r. refl)))
