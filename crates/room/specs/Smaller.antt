-- ConstantFolding and HashJoin put no more cells in the place of what they rewrite: after each of their steps, and so after all of them, a plan that had
-- room has it. They are never refused for room.
use Rattle.std.specs.Prelude.{ℕ, suc, ◌+◌, ◌-◌, ◌≤◌, Bool, true, false, not, ◌&&◌, cond, List, [], ◌∷◌, ◌≡◌, refl, ltb}
use Rattle.std.proofs.Math.Option.{Option, none, some}
use Rattle.std.proofs.Common.{sym, ap, ◌∙◌, arith}
use Rattle.value.specs.Value.{Value, Result, ok, err}
use Rattle.sql.specs.Schema.{Schema}
use Rattle.sql.specs.Expression.{Logical, Unary, Binary, logical, Equal, function, Expression, constant, column, unary, binary, origin, size, bind, evaluate, contains_column}
use Rattle.sql.specs.Plan.{Label, Leaf, scan, lookup, nothing, values, limit, offset, order, projection, remap, aggregate, Over, filter, other, Join, nested_loop, hash, Node, leaf, over, join, columns, sum, optional_size, row_size, item_size, key_size, leaf_size, over_size, join_size, node_size}
use Rattle.sql.specs.Answer.{Answer, done, refused, ◌>>=◌, at_place}
use Rattle.sql.specs.Optimizer.{Operand, deciding, neutral, undetermined, operand, simplify_logical, simplify, fold_by, fold, fold_expression, fold_each, fold_optional, fold_row, fold_part, fold_leaf, fold_over, fold_join, ConstantFolding, equijoin, hash_pair, hash_join, HashJoin}
use Rattle.room.specs.Done.{not_done, done_same, After, after}

at_least_one : (e : Expression) → 1 ≤ size e
at_least_one (constant og v) = omega arith
at_least_one (column og c) = omega arith
at_least_one (unary og o x) = omega arith
at_least_one (binary og o l r) = omega arith

-- ---- ConstantFolding

logical_smaller : (og : ℕ) (o : Logical) (a b : Operand) (l r : Expression) → size (simplify_logical og o a b l r) ≤ suc (size l + size r)
logical_smaller og o deciding b l r = omega arith
logical_smaller og o neutral deciding l r = omega arith
logical_smaller og o neutral neutral l r = omega arith
logical_smaller og o neutral undetermined l r = omega arith
logical_smaller og o undetermined deciding l r = omega arith
logical_smaller og o undetermined neutral l r = omega arith
logical_smaller og o undetermined undetermined l r = omega arith

simplify_smaller : (e : Expression) → size (simplify e) ≤ size e
simplify_smaller (constant og v) = omega arith
simplify_smaller (column og c) = omega arith
simplify_smaller (unary og o x) = omega arith
simplify_smaller (binary og (logical o) l r) = logical_smaller og o (operand o l) (operand o r) l r
simplify_smaller (binary og Equal l r) = omega arith
simplify_smaller (binary og (function f) l r) = omega arith

constant_size : (place og : ℕ) (r : Result Value) (d : Expression) → at_place place (bind r (λ v. ok (constant og v))) ≡ done d → size d ≡ 1
constant_size place og (ok v) d h = ap size (sym (done_same h))
constant_size place og (err e) d h = not_done h

fold_smaller : (place : ℕ) (e d : Expression) → fold place e ≡ done d → size d ≤ size e
fold_smaller place e d h = go (contains_column (λ c. true) e) h
  where
    go : (b : Bool) → fold_by b place e ≡ done d → size d ≤ size e
    go true k = let s = simplify_smaller e in let z : size (simplify e) ≡ size d = ap size (done_same k) in omega arith
    go false k = let s = constant_size place (origin e) (evaluate [] e) d k in let p = at_least_one e in omega arith

pub expression_smaller : (first : ℕ) (e d : Expression) → fold_expression first e ≡ done d → size d ≤ size e
expression_smaller first (constant og v) d h = fold_smaller first (constant og v) d h
expression_smaller first (column og c) d h = fold_smaller first (column og c) d h
expression_smaller first (unary og o x) d h =
    let a = after (fold_expression first x) (λ y. fold (first + size x) (unary og o y)) d h in
    let p = expression_smaller first x a.of a.first in
    let q = fold_smaller (first + size x) (unary og o a.of) d a.second in
    omega arith
expression_smaller first (binary og o l r) d h =
    let place = first + (size l + size r) in
    let a = after (fold_expression first l) (λ x. fold_expression (first + size l) r >>= λ y. fold place (binary og o x y)) d h in
    let b = after (fold_expression (first + size l) r) (λ y. fold place (binary og o a.of y)) d a.second in
    let p = expression_smaller first l a.of a.first in
    let q = expression_smaller (first + size l) r b.of b.first in
    let s = fold_smaller place (binary og o a.of b.of) d b.second in
    omega arith

each_smaller : {A : Type 0} (f : ℕ → A → Answer A) (cells : A → ℕ) → ((n : ℕ) (x y : A) → f n x ≡ done y → cells y ≤ cells x)
    → (first : ℕ) (xs ys : List A) → fold_each f cells first xs ≡ done ys → sum cells ys ≤ sum cells xs
each_smaller f cells k first [] ys h = let z : sum cells [] ≡ sum cells ys = ap (sum cells) (done_same h) in omega arith
each_smaller f cells k first (x ∷ xs) ys h =
    let a = after (f first x) (λ y. fold_each f cells (first + cells x) xs >>= λ zs. done (y ∷ zs)) ys h in
    let b = after (fold_each f cells (first + cells x) xs) (λ zs. done (a.of ∷ zs)) ys a.second in
    let p = k first x a.of a.first in
    let q = each_smaller f cells k (first + cells x) xs b.of b.first in
    let z : cells a.of + sum cells b.of ≡ sum cells ys = ap (sum cells) (done_same b.second) in
    omega arith

optional_smaller : (first : ℕ) (p q : Option Expression) → fold_optional first p ≡ done q → optional_size q ≤ optional_size p
optional_smaller first none q h = let z : optional_size none ≡ optional_size q = ap optional_size (done_same h) in omega arith
optional_smaller first (some e) q h =
    let a = after (fold_expression first e) (λ x. done (some x)) q h in
    let p = expression_smaller first e a.of a.first in
    let z : size a.of ≡ optional_size q = ap optional_size (done_same a.second) in
    omega arith

row_smaller : (first : ℕ) (es ds : List Expression × ℕ) → fold_row first es ≡ done ds → row_size ds ≤ row_size es
row_smaller first es ds h =
    let a = after (fold_each fold_expression size first es.0) (λ ys. done (ys, es.1)) ds h in
    let p = each_smaller fold_expression size expression_smaller first es.0 a.of a.first in
    let z : row_size (a.of, es.1) ≡ row_size ds = ap row_size (done_same a.second) in
    omega arith

part_smaller : {A : Type 0} (first : ℕ) (p q : Expression × A × ℕ) → fold_part first p ≡ done q → suc (size q.0) ≤ suc (size p.0)
part_smaller first p q h =
    let a = after (fold_expression first p.0) (λ e. done (e, p.1, p.2)) q h in
    let s = expression_smaller first p.0 a.of a.first in
    let z : size a.of ≡ size q.0 = ap (λ t. size t.0) (done_same a.second) in
    omega arith

-- one visit
pub leaf_smaller : (first : ℕ) (l m : Leaf) → fold_leaf first l ≡ done m → leaf_size m ≤ leaf_size l
leaf_smaller first (scan table alias p) m h =
    let a = after (fold_optional first p) (λ q. done (scan table alias q)) m h in
    let s = optional_smaller first p a.of a.first in
    let z : suc (optional_size a.of) ≡ leaf_size m = ap leaf_size (done_same a.second) in
    omega arith
leaf_smaller first (lookup access table alias constants) m h = let z : leaf_size (lookup access table alias constants) ≡ leaf_size m = ap leaf_size (done_same h) in omega arith
leaf_smaller first (nothing labels) m h = let z : leaf_size (nothing labels) ≡ leaf_size m = ap leaf_size (done_same h) in omega arith
leaf_smaller first (values rows) m h =
    let a = after (fold_each fold_row row_size first rows) (λ q. done (values q)) m h in
    let s = each_smaller fold_row row_size row_smaller first rows a.of a.first in
    let z : suc (sum row_size a.of) ≡ leaf_size m = ap leaf_size (done_same a.second) in
    omega arith

pub over_smaller : (first : ℕ) (o p : Over) → fold_over first o ≡ done p → over_size p ≤ over_size o
over_smaller first (filter e) p h =
    let a = after (fold_expression first e) (λ z. done (filter z)) p h in
    let s = expression_smaller first e a.of a.first in
    let z : suc (size a.of) ≡ over_size p = ap over_size (done_same a.second) in
    omega arith
over_smaller first (other (limit amount)) p h = let z : over_size (other (limit amount)) ≡ over_size p = ap over_size (done_same h) in omega arith
over_smaller first (other (offset amount)) p h = let z : over_size (other (offset amount)) ≡ over_size p = ap over_size (done_same h) in omega arith
over_smaller first (other (order key)) p h =
    let a = after (fold_each fold_part key_size first key) (λ q. done (other (order q))) p h in
    let s = each_smaller fold_part key_size part_smaller first key a.of a.first in
    let z : suc (sum key_size a.of) ≡ over_size p = ap over_size (done_same a.second) in
    omega arith
over_smaller first (other (projection items)) p h =
    let a = after (fold_each fold_part item_size first items) (λ q. done (other (projection q))) p h in
    let s = each_smaller fold_part item_size part_smaller first items a.of a.first in
    let z : suc (sum item_size a.of) ≡ over_size p = ap over_size (done_same a.second) in
    omega arith
over_smaller first (other (remap targets)) p h = let z : over_size (other (remap targets)) ≡ over_size p = ap over_size (done_same h) in omega arith
over_smaller first (other (aggregate group_by aggregates)) p h =
    let z : over_size (other (aggregate group_by aggregates)) ≡ over_size p = ap over_size (done_same h) in omega arith

pub join_smaller : (first : ℕ) (j k : Join) → fold_join first j ≡ done k → join_size k ≤ join_size j
join_smaller first (nested_loop p) k h =
    let a = after (fold_optional first p) (λ z. done (nested_loop z)) k h in
    let s = optional_smaller first p a.of a.first in
    let z : suc (optional_size a.of) ≡ join_size k = ap join_size (done_same a.second) in
    omega arith
join_smaller first (hash x y) k h = let z : join_size (hash x y) ≡ join_size k = ap join_size (done_same h) in omega arith

-- all visits
pub folding_smaller : (first : ℕ) (n m : Node) → ConstantFolding first n ≡ done m → node_size m ≤ node_size n
folding_smaller first (leaf og l) m h =
    let a = after (fold_leaf first l) (λ z. done (leaf og z)) m h in
    let s = leaf_smaller first l a.of a.first in
    let z : leaf_size a.of ≡ node_size m = ap node_size (done_same a.second) in
    omega arith
folding_smaller first (over og o source) m h =
    let a = after (fold_over (first + node_size source) o) (λ p. ConstantFolding first source >>= λ s. done (over og p s)) m h in
    let b = after (ConstantFolding first source) (λ s. done (over og a.of s)) m a.second in
    let p = over_smaller (first + node_size source) o a.of a.first in
    let q = folding_smaller first source b.of b.first in
    let z : node_size b.of + over_size a.of ≡ node_size m = ap node_size (done_same b.second) in
    omega arith
folding_smaller first (join og outer j left right) m h =
    let a = after (fold_join (first + (node_size left + node_size right)) j)
    (λ k. ConstantFolding first left >>= λ l. ConstantFolding (first + node_size left) right >>= λ r. done (join og outer k l r)) m h in
    let b = after (ConstantFolding first left) (λ l. ConstantFolding (first + node_size left) right >>= λ r. done (join og outer a.of l r)) m a.second in
    let c = after (ConstantFolding (first + node_size left) right) (λ r. done (join og outer a.of b.of r)) m b.second in
    let p = join_smaller (first + (node_size left + node_size right)) j a.of a.first in
    let q = folding_smaller first left b.of b.first in
    let s = folding_smaller (first + node_size left) right c.of c.first in
    let z : node_size b.of + node_size c.of + join_size a.of ≡ node_size m = ap node_size (done_same c.second) in
    omega arith

-- ---- HashJoin

hash_if : (b : Bool) (x y : ℕ) (e : Expression) → join_size (cond b (hash x y) (nested_loop (some e))) ≤ suc (size e)
hash_if true x y e = omega arith
hash_if false x y e = omega arith

hash_pair_smaller : (n : ℕ) (e : Expression) (o : Option (ℕ × ℕ)) → join_size (hash_pair n e o) ≤ suc (size e)
hash_pair_smaller n e none = omega arith
hash_pair_smaller n e (some p) = hash_if (ltb p.0 n && not (ltb p.1 n)) p.0 (p.1 - n) e

-- one visit
pub hash_join_smaller : (n : ℕ) (j : Join) → join_size (hash_join n j) ≤ join_size j
hash_join_smaller n (nested_loop none) = omega arith
hash_join_smaller n (nested_loop (some e)) = hash_pair_smaller n e (equijoin e)
hash_join_smaller n (hash x y) = omega arith

-- all visits
pub hash_smaller : (schema : Schema) (n : Node) → node_size (HashJoin schema n) ≤ node_size n
hash_smaller schema (leaf og l) = omega arith
hash_smaller schema (over og o source) = let p = hash_smaller schema source in omega arith
hash_smaller schema (join og outer j left right) =
    let p = hash_smaller schema left in let q = hash_smaller schema right in let s = hash_join_smaller (columns schema left) j in omega arith
