-- ConstantFolding, as transcribed, gives what crate sql defines, but for the place of a refusal.
use Prim.Native.Nat.{ℕ, zero, suc, ◌+◌, ◌≤◌}
use mathlib.Core.Path.{◌≡◌, refl, sym, ap, ap₂, ◌∙◌}
use mathlib.Core.Bool.{Bool, true, false, not, cond}
use mathlib.Core.List.{List, [], ◌∷◌}
use mathlib.Core.Option.{Option, none, some}
use native.Mathlib.Omega.{arith}
use Rattle.value.specs.Value.{False, Unknown, True, Value, truth, datum, number, Result, ok, err}
use Rattle.sql.specs.Expression.{Marked, And, Or, logical, Equal, function, Expression, constant, column, unary, binary, and, or, origin, size, bind, contains_column}
use Rattle.sql.specs.Expression as Defined
use Rattle.sql.specs.Plan.{Leaf, scan, lookup, nothing, values, limit, offset, order, projection, remap, aggregate, Over, filter, other, Join, nested_loop, hash, Node, leaf, over, join, row_size, item_size, key_size, node_size}
use Rattle.sql.specs.Answer.{Answer, done, refused, ◌>>=◌, at_place}
use Rattle.sql.specs.Optimizer.{Operand, deciding, neutral, undetermined, operand, simplify_logical, simplify, fold_by, fold_expression, fold_each, fold_row, fold_part, fold_leaf, fold_over, fold_join}
use Rattle.sql.specs.Optimizer as Optimizer
use Rattle.literal.specs.Rust.{Run, Ok, Err, Panic, ◌⇒◌, ◌∣◌, ◌else◌, try_collect}
use Rattle.literal.specs.Rust
use Rattle.literal.specs.Value.{document_01, Boolean}
use Rattle.literal.specs.Expression.{evaluate}
use Rattle.literal.specs.Expression
use Rattle.literal.specs.Plan.{transform_sources, transform, transformed, transform_expressions}
use Rattle.literal.specs.Optimizer.{ConstantBoolean?, fold_match, fold, ConstantFolding}
use Rattle.literal.specs.Law.{told, answer, without_place}
use Rattle.literal.specs.Nodes.{nodes, nodes_positive, nodes_cells}
use Rattle.literal.proofs.Expression.{evaluate_same, contains_same}

-- ---- binds

infixl 10 ◌then◌
abbrev ◌then◌ : {A B : Type 0} → Run A → (A → Run B) → Run B
◌then◌ = Rust.◌>>=◌

clash : {A : Type 0} → ◌≡◌ {A = ℕ} 0 1 → A
clash h = absurd (omega arith)

-- Answers that are the same but for places stay so.
pub says_bind : {A B : Type 0} (a : Answer A) (r : Run A) (f : A → Answer B) (g : A → Run B) → without_place a ≡ answer r → ((x : A) → without_place (f x) ≡ answer (g x))
    → without_place (a >>= f) ≡ answer (r then g)
says_bind (done x) (Ok y) f g h k = let e : x ≡ y = cc in k x ∙ ap (λ z. answer (g z)) e
says_bind (done x) (Err e) f g h k = clash cc
says_bind (done x) Panic f g h k = clash cc
says_bind (refused n p) (Ok y) f g h k = clash cc
says_bind (refused n p) (Err e) f g h k = let i : n ≡ number e = cc in ap (λ z. refused z 0) i
says_bind (refused n p) Panic f g h k = let i : n ≡ 0 = cc in ap (λ z. refused z 0) i

-- the same, with what is done to the result first
says_map : {A B C : Type 0} (a : Answer A) (r : Run A) (f : A → Answer C) (m : A → B) (g : B → Run C) → without_place a ≡ answer r
    → ((x : A) → without_place (f x) ≡ answer (g (m x))) → without_place (a >>= f) ≡ answer ((r then λ x. Ok (m x)) then g)
says_map a r f m g h k = says_bind a r f (λ x. g (m x)) h k ∙ ap answer (go r)
  where
    go : (r : Run _) → (r then λ x. g (m x)) ≡ ((r then λ x. Ok (m x)) then g)
    go (Ok x) = refl
    go (Err e) = refl
    go Panic = refl

-- ---- fold

-- a constant that decides, or that leaves the other operand
abbrev as_deciding : Bool → Operand → Option Bool
as_deciding b deciding = some b
as_deciding b neutral = none
as_deciding b undetermined = none

abbrev as_neutral : Bool → Operand → Option Bool
as_neutral b deciding = none
as_neutral b neutral = some b
as_neutral b undetermined = none

and_false : (e : Expression) → ConstantBoolean? false e ≡ as_deciding false (operand And e)
and_false (constant og (truth False)) = refl
and_false (constant og (truth Unknown)) = refl
and_false (constant og (truth True)) = refl
and_false (constant og (datum d)) = refl
and_false (column og c) = refl
and_false (unary og o x) = refl
and_false (binary og o l r) = refl

and_true : (e : Expression) → ConstantBoolean? true e ≡ as_neutral true (operand And e)
and_true (constant og (truth False)) = refl
and_true (constant og (truth Unknown)) = refl
and_true (constant og (truth True)) = refl
and_true (constant og (datum d)) = refl
and_true (column og c) = refl
and_true (unary og o x) = refl
and_true (binary og o l r) = refl

or_true : (e : Expression) → ConstantBoolean? true e ≡ as_deciding true (operand Or e)
or_true (constant og (truth False)) = refl
or_true (constant og (truth Unknown)) = refl
or_true (constant og (truth True)) = refl
or_true (constant og (datum d)) = refl
or_true (column og c) = refl
or_true (unary og o x) = refl
or_true (binary og o l r) = refl

or_false : (e : Expression) → ConstantBoolean? false e ≡ as_neutral false (operand Or e)
or_false (constant og (truth False)) = refl
or_false (constant og (truth Unknown)) = refl
or_false (constant og (truth True)) = refl
or_false (constant og (datum d)) = refl
or_false (column og c) = refl
or_false (unary og o x) = refl
or_false (binary og o l r) = refl

-- the arms of And or Or
arms : (decides leaves : Option Bool × Option Bool) (decided : Expression) (l r whole : Expression) → Expression
arms decides leaves decided l r whole =
    (decides.0 ∣ decides.1 ⇒ λ b. decided)
    else ((leaves.0 ⇒ λ b. r) ∣ (leaves.1 ⇒ λ b. l) ⇒ λ e. e)
    else whole

and_arms : (og : ℕ) (l r : Expression) (a b : Operand)
    → arms (as_deciding false a, as_deciding false b) (as_neutral true a, as_neutral true b) (constant og (Boolean false)) l r (and og l r) ≡ simplify_logical og And a b l r
unfolding arms
and_arms og l r deciding deciding = refl
and_arms og l r deciding neutral = refl
and_arms og l r deciding undetermined = refl
and_arms og l r neutral deciding = refl
and_arms og l r neutral neutral = refl
and_arms og l r neutral undetermined = refl
and_arms og l r undetermined deciding = refl
and_arms og l r undetermined neutral = refl
and_arms og l r undetermined undetermined = refl

or_arms : (og : ℕ) (l r : Expression) (a b : Operand)
    → arms (as_deciding true a, as_deciding true b) (as_neutral false a, as_neutral false b) (constant og (Boolean true)) l r (or og l r) ≡ simplify_logical og Or a b l r
unfolding arms
or_arms og l r deciding deciding = refl
or_arms og l r deciding neutral = refl
or_arms og l r deciding undetermined = refl
or_arms og l r neutral deciding = refl
or_arms og l r neutral neutral = refl
or_arms og l r neutral undetermined = refl
or_arms og l r undetermined deciding = refl
or_arms og l r undetermined neutral = refl
or_arms og l r undetermined undetermined = refl

match_same : (e : Expression) → fold_match e ≡ simplify e
unfolding arms
match_same (constant og v) = refl
match_same (column og c) = refl
match_same (unary og o x) = refl
match_same (binary og (logical And) l r) =
    ap₂ (λ (d n : Option Bool × Option Bool). arms d n (constant og (Boolean false)) l r (and og l r)) (ap₂ (λ x y. (x, y)) (and_false l) (and_false r)) (ap₂ (λ x y. (x, y)) (and_true l) (and_true r))
    ∙ and_arms og l r (operand And l) (operand And r)
match_same (binary og (logical Or) l r) =
    ap₂ (λ (d n : Option Bool × Option Bool). arms d n (constant og (Boolean true)) l r (or og l r)) (ap₂ (λ x y. (x, y)) (or_true l) (or_true r)) (ap₂ (λ x y. (x, y)) (or_false l) (or_false r))
    ∙ or_arms og l r (operand Or l) (operand Or r)
match_same (binary og Equal l r) = refl
match_same (binary og (function f) l r) = refl

pub fold_same : (place : ℕ) (e : Expression) → without_place (Optimizer.fold place e) ≡ answer (fold document_01 e)
fold_same place e =
    go (contains_column (λ c. true) e) refl
    ∙ ap (λ b. answer (cond (not b) (evaluate document_01 none e then λ v. Ok (constant (origin e) v)) (Ok (fold_match e)))) (sym (contains_same e))
  where
    valued : (r : Result Value) → without_place (at_place place (bind r (λ v. ok (constant (origin e) v)))) ≡ answer (told r then λ v. Ok (constant (origin e) v))
    valued (ok v) = refl
    valued (err e) = refl

    go : (b : Bool) → contains_column (λ c. true) e ≡ b
        → without_place (fold_by b place e) ≡ answer (cond (not b) (evaluate document_01 none e then λ v. Ok (constant (origin e) v)) (Ok (fold_match e)))
    go true h = ap done (sym (match_same e))
    go false h = valued (Defined.evaluate [] e) ∙ ap (λ z. answer (z then λ v. Ok (constant (origin e) v))) (sym (evaluate_same e h))

-- ---- an expression

abbrev folded : ℕ → Expression → Run Expression
folded = Expression.transform Ok (fold document_01)

expression_at : (n first : ℕ) (e : Expression) → size e ≤ n → without_place (fold_expression first e) ≡ answer (folded n e)
expression_at zero first (constant og v) h = absurd (omega arith)
expression_at zero first (column og c) h = absurd (omega arith)
expression_at zero first (unary og o x) h = absurd (omega arith)
expression_at zero first (binary og o l r) h = absurd (omega arith)
expression_at (suc n) first (constant og v) h = fold_same first (constant og v)
expression_at (suc n) first (column og c) h = fold_same first (column og c)
expression_at (suc n) first (unary og o x) h =
    says_map (fold_expression first x) (folded n x) (λ y. Optimizer.fold (first + size x) (unary og o y)) (unary og o) (fold document_01)
    (expression_at n first x (omega arith)) (λ y. fold_same (first + size x) (unary og o y))
expression_at (suc n) first (binary og o l r) h =
    says_bind (fold_expression first l) (folded n l) (λ x. fold_expression (first + size l) r >>= λ y. Optimizer.fold (first + (size l + size r)) (binary og o x y))
    (λ x. (folded n r then λ y. Ok (binary og o x y)) then fold document_01) (expression_at n first l (omega arith))
    (λ x. says_map (fold_expression (first + size l) r) (folded n r) (λ y. Optimizer.fold (first + (size l + size r)) (binary og o x y)) (binary og o x) (fold document_01)
    (expression_at n (first + size l) r (omega arith)) (λ y. fold_same (first + (size l + size r)) (binary og o x y)))
    ∙ ap answer (assoc (folded n l))
  where
    assoc : (a : Run Expression) → (a then λ x. (folded n r then λ y. Ok (binary og o x y)) then fold document_01)
        ≡ ((a then λ x. folded n r then λ y. Ok (binary og o x y)) then fold document_01)
    assoc (Ok x) = refl
    assoc (Err e) = refl
    assoc Panic = refl

abbrev run : Expression → Run Expression
run = transformed Ok (fold document_01)

pub expression_same : (first : ℕ) (e : Expression) → without_place (fold_expression first e) ≡ answer (run e)
expression_same first e = expression_at (size e) first e (omega arith)

-- ---- lists

each_same : {A : Type 0} (f : ℕ → A → Answer A) (cells : A → ℕ) (g : A → Run A) → ((first : ℕ) (x : A) → without_place (f first x) ≡ answer (g x)) → (first : ℕ) (xs : List A)
    → without_place (fold_each f cells first xs) ≡ answer (try_collect g xs)
each_same f cells g h first [] = refl
each_same f cells g h first (x ∷ xs) =
    says_bind (f first x) (g x) (λ y. fold_each f cells (first + cells x) xs >>= λ ys. done (y ∷ ys)) (λ y. try_collect g xs then λ ys. Ok (y ∷ ys)) (h first x)
    (λ y. says_bind (fold_each f cells (first + cells x) xs) (try_collect g xs) (λ ys. done (y ∷ ys)) (λ ys. Ok (y ∷ ys)) (each_same f cells g h (first + cells x) xs) (λ ys. refl))

-- a Key or an Item
abbrev part_run : {A : Type 0} → Expression × A × ℕ → Run (Expression × A × ℕ)
part_run (e, a, o) = run e then λ x. Ok (x, a, o)

part_same : {A : Type 0} (first : ℕ) (p : Expression × A × ℕ) → without_place (fold_part first p) ≡ answer (part_run p)
part_same first p = says_bind (fold_expression first p.0) (run p.0) (λ x. done (x, p.1, p.2)) (λ x. Ok (x, p.1, p.2)) (expression_same first p.0) (λ x. refl)

abbrev row_run : Marked (List Expression) → Run (Marked (List Expression))
row_run (row, o) = try_collect run row then λ es. Ok (es, o)

row_same : (first : ℕ) (row : Marked (List Expression)) → without_place (fold_row first row) ≡ answer (row_run row)
row_same first row =
    says_bind (fold_each fold_expression size first row.0) (try_collect run row.0) (λ es. done (es, row.1)) (λ es. Ok (es, row.1))
    (each_same fold_expression size run expression_same first row.0) (λ es. refl)

-- ---- a node: what becomes of its own expressions, apart from its sources

abbrev leaf_run : Leaf → Run Leaf
leaf_run (scan table alias none) = Ok (scan table alias none)
leaf_run (scan table alias (some e)) = run e then λ p. Ok (scan table alias (some p))
leaf_run (lookup access table alias constants) = Ok (lookup access table alias constants)
leaf_run (nothing labels) = Ok (nothing labels)
leaf_run (values rows) = try_collect row_run rows then λ r. Ok (values r)

abbrev over_run : Over → Run Over
over_run (filter e) = run e then λ p. Ok (filter p)
over_run (other (limit amount)) = Ok (other (limit amount))
over_run (other (offset amount)) = Ok (other (offset amount))
over_run (other (order key)) = try_collect part_run key then λ k. Ok (other (order k))
over_run (other (projection items)) = try_collect part_run items then λ i. Ok (other (projection i))
over_run (other (remap targets)) = Ok (other (remap targets))
over_run (other (aggregate group_by aggregates)) = Ok (other (aggregate group_by aggregates))

abbrev join_run : Join → Run Join
join_run (nested_loop none) = Ok (nested_loop none)
join_run (nested_loop (some e)) = run e then λ p. Ok (nested_loop (some p))
join_run (hash a b) = Ok (hash a b)

leaf_same : (first : ℕ) (l : Leaf) → without_place (fold_leaf first l) ≡ answer (leaf_run l)
leaf_same first (scan table alias none) = refl
leaf_same first (scan table alias (some e)) = go (fold_expression first e) (run e) (expression_same first e)
  where
    go : (a : Answer Expression) (r : Run Expression) → without_place a ≡ answer r
        → without_place ((a >>= λ x. done (some x)) >>= λ p. done (scan table alias p)) ≡ answer (r then λ p. Ok (scan table alias (some p)))
    go (done x) r h = says_bind (done x) r (λ x. done (scan table alias (some x))) (λ p. Ok (scan table alias (some p))) h (λ x. refl)
    go (refused n p) r h = says_bind (refused n p) r (λ x. done (scan table alias (some x))) (λ p. Ok (scan table alias (some p))) h (λ x. refl)
leaf_same first (lookup access table alias constants) = refl
leaf_same first (nothing labels) = refl
leaf_same first (values rows) =
    says_bind (fold_each fold_row row_size first rows) (try_collect row_run rows) (λ r. done (values r)) (λ r. Ok (values r)) (each_same fold_row row_size row_run row_same first rows) (λ r. refl)

over_same : (first : ℕ) (o : Over) → without_place (fold_over first o) ≡ answer (over_run o)
over_same first (filter e) = says_bind (fold_expression first e) (run e) (λ p. done (filter p)) (λ p. Ok (filter p)) (expression_same first e) (λ p. refl)
over_same first (other (limit amount)) = refl
over_same first (other (offset amount)) = refl
over_same first (other (order key)) =
    says_bind (fold_each fold_part key_size first key) (try_collect part_run key) (λ k. done (other (order k))) (λ k. Ok (other (order k))) (each_same fold_part key_size part_run part_same first key) (λ k. refl)
over_same first (other (projection items)) =
    says_bind (fold_each fold_part item_size first items) (try_collect part_run items) (λ i. done (other (projection i))) (λ i. Ok (other (projection i)))
    (each_same fold_part item_size part_run part_same first items) (λ i. refl)
over_same first (other (remap targets)) = refl
over_same first (other (aggregate group_by aggregates)) = refl

join_same : (first : ℕ) (j : Join) → without_place (fold_join first j) ≡ answer (join_run j)
join_same first (nested_loop none) = refl
join_same first (nested_loop (some e)) = go (fold_expression first e) (run e) (expression_same first e)
  where
    go : (a : Answer Expression) (r : Run Expression) → without_place a ≡ answer r
        → without_place ((a >>= λ x. done (some x)) >>= λ p. done (nested_loop p)) ≡ answer (r then λ p. Ok (nested_loop (some p)))
    go (done x) r h = says_bind (done x) r (λ x. done (nested_loop (some x))) (λ p. Ok (nested_loop (some p))) h (λ x. refl)
    go (refused n p) r h = says_bind (refused n p) r (λ x. done (nested_loop (some x))) (λ p. Ok (nested_loop (some p))) h (λ x. refl)
join_same first (hash a b) = refl

-- ---- the pass

abbrev again : ℕ → Node → Run Node
again = transform (transform_expressions Ok (fold document_01)) Ok

-- transform, of a node over a source whose own expressions became p
joined : {A B C : Type 0} (r : Run A) (m : A → B) (c : B → C) (g : C → Run Node) → ((r then λ x. Ok (c (m x))) then g then Ok) ≡ ((r then λ x. Ok (m x)) then λ y. g (c y) then Ok)
joined (Ok x) m c g = refl
joined (Err e) m c g = refl
joined Panic m c g = refl

leaf_transformed : (k og : ℕ) (l : Leaf) → again (suc k) (leaf og l) ≡ (leaf_run l then λ m. Ok (leaf og m))
leaf_transformed k og (scan table alias none) = refl
leaf_transformed k og (scan table alias (some e)) = joined (run e) (λ p. scan table alias (some p)) (leaf og) (transform_sources (again k))
leaf_transformed k og (lookup access table alias constants) = refl
leaf_transformed k og (nothing labels) = refl
leaf_transformed k og (values rows) = joined (try_collect row_run rows) values (leaf og) (transform_sources (again k))

over_transformed : (k og : ℕ) (o : Over) (source : Node) → again (suc k) (over og o source) ≡ (over_run o then λ p. again k source then λ s. Ok (over og p s))
over_transformed k og o source = go o ∙ ok_behind (over_run o)
  where
    ok_behind : (r : Run Over) → (r then λ p. transform_sources (again k) (over og p source) then Ok) ≡ (r then λ p. again k source then λ s. Ok (over og p s))
    ok_behind (Ok p) = twice (again k source)
      where
        twice : (r : Run Node) → ((r then λ s. Ok (over og p s)) then Ok) ≡ (r then λ s. Ok (over og p s))
        twice (Ok s) = refl
        twice (Err e) = refl
        twice Panic = refl
    ok_behind (Err e) = refl
    ok_behind Panic = refl

    made : Over → Node
    made p = over og p source

    go : (o : Over) → again (suc k) (over og o source) ≡ (over_run o then λ p. transform_sources (again k) (over og p source) then Ok)
    go (filter e) = joined (run e) filter made (transform_sources (again k))
    go (other (limit amount)) = refl
    go (other (offset amount)) = refl
    go (other (order key)) = joined (try_collect part_run key) (λ x. other (order x)) made (transform_sources (again k))
    go (other (projection items)) = joined (try_collect part_run items) (λ x. other (projection x)) made (transform_sources (again k))
    go (other (remap targets)) = refl
    go (other (aggregate group_by aggregates)) = refl

join_transformed : (k og : ℕ) (outer : Bool) (j : Join) (left right : Node)
    → again (suc k) (join og outer j left right) ≡ (join_run j then λ p. again k left then λ l. again k right then λ r. Ok (join og outer p l r))
join_transformed k og outer j left right = go j ∙ ok_behind (join_run j)
  where
    twice : (p : Join) (a b : Run Node) → ((a then λ l. b then λ r. Ok (join og outer p l r)) then Ok) ≡ (a then λ l. b then λ r. Ok (join og outer p l r))
    twice p (Ok l) (Ok r) = refl
    twice p (Ok l) (Err e) = refl
    twice p (Ok l) Panic = refl
    twice p (Err e) b = refl
    twice p Panic b = refl

    ok_behind : (r : Run Join) → (r then λ p. transform_sources (again k) (join og outer p left right) then Ok) ≡ (r then λ p. again k left then λ l. again k right then λ r. Ok (join og outer p l r))
    ok_behind (Ok p) = twice p (again k left) (again k right)
    ok_behind (Err e) = refl
    ok_behind Panic = refl

    made : Join → Node
    made p = join og outer p left right

    go : (j : Join) → again (suc k) (join og outer j left right) ≡ (join_run j then λ p. transform_sources (again k) (join og outer p left right) then Ok)
    go (nested_loop none) = refl
    go (nested_loop (some e)) = joined (run e) (λ p. nested_loop (some p)) made (transform_sources (again k))
    go (hash a b) = refl

folding_at : (k first : ℕ) (n : Node) → nodes n ≤ k → without_place (Optimizer.ConstantFolding first n) ≡ answer (again k n)
folding_at zero first n h = absurd (let p = nodes_positive n in omega arith)
folding_at (suc k) first (leaf og l) h =
    says_bind (fold_leaf first l) (leaf_run l) (λ m. done (leaf og m)) (λ m. Ok (leaf og m)) (leaf_same first l) (λ m. refl) ∙ ap answer (sym (leaf_transformed k og l))
folding_at (suc k) first (over og o source) h =
    says_bind (fold_over (first + node_size source) o) (over_run o) (λ p. Optimizer.ConstantFolding first source >>= λ s. done (over og p s)) (λ p. again k source then λ s. Ok (over og p s))
    (over_same (first + node_size source) o)
    (λ p. says_bind (Optimizer.ConstantFolding first source) (again k source) (λ s. done (over og p s)) (λ s. Ok (over og p s)) (folding_at k first source (omega arith)) (λ s. refl))
    ∙ ap answer (sym (over_transformed k og o source))
folding_at (suc k) first (join og outer j left right) h =
    says_bind (fold_join (first + (node_size left + node_size right)) j) (join_run j)
    (λ p. Optimizer.ConstantFolding first left >>= λ l. Optimizer.ConstantFolding (first + node_size left) right >>= λ r. done (join og outer p l r))
    (λ p. again k left then λ l. again k right then λ r. Ok (join og outer p l r))
    (join_same (first + (node_size left + node_size right)) j)
    (λ p. says_bind (Optimizer.ConstantFolding first left) (again k left)
    (λ l. Optimizer.ConstantFolding (first + node_size left) right >>= λ r. done (join og outer p l r)) (λ l. again k right then λ r. Ok (join og outer p l r))
    (folding_at k first left (omega arith))
    (λ l. says_bind (Optimizer.ConstantFolding (first + node_size left) right) (again k right) (λ r. done (join og outer p l r)) (λ r. Ok (join og outer p l r))
    (folding_at k (first + node_size left) right (omega arith)) (λ r. refl)))
    ∙ ap answer (sym (join_transformed k og outer j left right))

pub folding_same : (first : ℕ) (n : Node) → without_place (Optimizer.ConstantFolding first n) ≡ answer (ConstantFolding document_01 n)
folding_same first n = folding_at (node_size n) first n (nodes_cells n)
