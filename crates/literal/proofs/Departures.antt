-- What document 01's departures change: ConstantFolding, IndexLookup and ShortCircuit only where the Rust panics, HashJoin only where a join is on two columns of one source.
use Prim.Native.Nat.{ℕ, zero, suc, ◌-◌}
use mathlib.Core.Path.{◌≡◌, refl, sym, ap, ap₂, ◌∙◌, subst}
use mathlib.Core.Bool.{Bool, true, false, not, ◌&&◌, cond}
use mathlib.Core.List.{List, [], ◌∷◌}
use mathlib.Core.Option.{Option, none, some}
use native.Mathlib.Omega.{arith}
use lib.Dec.{eqb, ltb}
use lib.IntN.{ℤ, pos, neg_ℤ}
use lib.Signed.{quot_z}
use Rattle.value.specs.Value.{Value, division_by_zero}
use Rattle.sql.specs.Schema.{Schema, no_column, table_of}
use Rattle.sql.specs.Expression.{Marked, And, Or, IsNull, IsNaN, Identity, Negate, SquareRoot, GreaterThan, LessThan, Add, Divide, Subtract, Multiply, Not, logical, Equal, function, Expression, constant, column, unary, binary, origin, size, Row}
use Rattle.sql.specs.Plan.{Label, unlabelled, scan, lookup, nothing, values, limit, offset, order, projection, remap, aggregate, filter, other, Join, nested_loop, hash, Node, leaf, over, join, node_origin, up_to, node_size}
use Rattle.sql.specs.Plan as DefinedPlan
use Rattle.sql.specs.Optimizer as Optimizer
use Rattle.literal.specs.Rust.{Run, Ok, Err, Panic, ◌>>=◌, ◌⇒◌, ◌&◌, ◌if◌, ◌else◌, matches, and_then, get, enumerate, position, try_find_map, try_collect}
use Rattle.literal.specs.Value.{toydb, document_01, in_i64, i64_eq, Integer?, Integer, checked_div}
use Rattle.literal.specs.Expression.{Column?, is_column_lookup, evaluate_negate, evaluate, contains}
use Rattle.literal.specs.Expression
use Rattle.literal.specs.Plan.{expressions, aliases, targets_of, columns, no_alias?, is_some, column_at, table_label, column_label, transform_sources, transform, transformed, transform_expressions}
use Rattle.literal.specs.Optimizer.{fold_match, fold, has_index, is_indexed, index_lookup_of, index_lookup, minus, hash_join, emptied, without_useless, nothing_of, short_circuit}
use Rattle.literal.specs.Law.{OrPanics, same, panics, FoldingDeparts, LookupDeparts, CircuitDeparts, sides, each_side, HashDeparts}
use Rattle.literal.proofs.Passes.{hash_join_same}

-- ---- outcomes that are the same, or of which the first is a panic

always : {A : Type 0} {r : Run A} → OrPanics r r
always = same refl

or_bind : {A B : Type 0} (a b : Run A) (f g : A → Run B) → OrPanics a b → ((x : A) → OrPanics (f x) (g x)) → OrPanics (a >>= f) (b >>= g)
or_bind a b f g (same e) h = subst (λ (z : Run _). OrPanics (a >>= f) (z >>= g)) e (go a)
  where
    go : (r : Run _) → OrPanics (r >>= f) (r >>= g)
    go (Ok x) = h x
    go (Err e) = same refl
    go Panic = same refl
or_bind a b f g (panics e) h = panics (ap (λ z. z >>= f) e)

or_collect : {A B : Type 0} (f g : A → Run B) → ((x : A) → OrPanics (f x) (g x)) → (xs : List A) → OrPanics (try_collect f xs) (try_collect g xs)
or_collect f g h [] = always
or_collect f g h (x ∷ xs) =
    or_bind (f x) (g x) (λ y. try_collect f xs >>= λ ys. Ok (y ∷ ys)) (λ y. try_collect g xs >>= λ ys. Ok (y ∷ ys)) (h x)
    (λ y. or_bind (try_collect f xs) (try_collect g xs) (λ ys. Ok (y ∷ ys)) (λ ys. Ok (y ∷ ys)) (or_collect f g h xs) (λ ys. always))

-- ---- evaluate

or_overflow : (o : Option ℤ) → OrPanics ((o ⇒ λ i. Ok (Integer i)) else toydb.overflowed) ((o ⇒ λ i. Ok (Integer i)) else document_01.overflowed)
or_overflow none = panics refl
or_overflow (some i) = always

-- an arm of which the two outcomes are so, among arms that are the same
or_arm : {A R : Type 0} (o : Option A) (f g : A → Run R) (r : Run R) → ((a : A) → OrPanics (f a) (g a)) → OrPanics ((o ⇒ f) else r) ((o ⇒ g) else r)
or_arm none f g r h = always
or_arm (some a) f g r h = h a

or_below : {A R : Type 0} (o : Option A) (f : A → Run R) (r s : Run R) → OrPanics r s → OrPanics ((o ⇒ f) else r) ((o ⇒ f) else s)
or_below none f r s h = h
or_below (some a) f r s h = always

or_div : (v w : Value) → OrPanics (checked_div toydb v w) (checked_div document_01 v w)
or_div v w =
    or_below (Integer? v & (Integer? w if i64_eq (pos 0))) (λ p. Err division_by_zero) _ _
    (or_arm (Integer? v & Integer? w) _ _ _ (λ p. or_overflow (in_i64 (quot_z p.0 p.1))))

or_negate : (v : Value) → OrPanics (evaluate_negate toydb v) (evaluate_negate document_01 v)
or_negate v = or_arm (Integer? v) _ _ _ (λ i. or_overflow (in_i64 (neg_ℤ i)))

module _ (row : Option Row) where
  or_one : (x : Expression) (f g : Value → Run Value) → OrPanics (evaluate toydb row x) (evaluate document_01 row x) → ((v : Value) → OrPanics (f v) (g v))
      → OrPanics (evaluate toydb row x >>= f) (evaluate document_01 row x >>= g)
  or_one x f g = or_bind (evaluate toydb row x) (evaluate document_01 row x) f g

  or_two : (l r : Expression) (f g : Value → Value → Run Value) → OrPanics (evaluate toydb row l) (evaluate document_01 row l) → OrPanics (evaluate toydb row r) (evaluate document_01 row r)
      → ((v w : Value) → OrPanics (f v w) (g v w))
      → OrPanics (evaluate toydb row l >>= λ v. evaluate toydb row r >>= λ w. f v w) (evaluate document_01 row l >>= λ v. evaluate document_01 row r >>= λ w. g v w)
  or_two l r f g a b h =
      or_one l (λ v. evaluate toydb row r >>= λ w. f v w) (λ v. evaluate document_01 row r >>= λ w. g v w) a (λ v. or_one r (f v) (g v) b (h v))

  or_evaluate : (e : Expression) → OrPanics (evaluate toydb row e) (evaluate document_01 row e)
  or_evaluate (constant og v) = always
  or_evaluate (column og c) = always
  or_evaluate (unary og Not x) = or_one x _ _ (or_evaluate x) (λ v. always)
  or_evaluate (unary og (function IsNull) x) = or_one x _ _ (or_evaluate x) (λ v. always)
  or_evaluate (unary og (function IsNaN) x) = or_one x _ _ (or_evaluate x) (λ v. always)
  or_evaluate (unary og (function Identity) x) = or_one x _ _ (or_evaluate x) (λ v. always)
  or_evaluate (unary og (function SquareRoot) x) = or_one x _ _ (or_evaluate x) (λ v. always)
  or_evaluate (unary og (function Negate) x) = or_one x _ _ (or_evaluate x) or_negate
  or_evaluate (binary og (logical And) l r) = or_two l r _ _ (or_evaluate l) (or_evaluate r) (λ v w. always)
  or_evaluate (binary og (logical Or) l r) = or_two l r _ _ (or_evaluate l) (or_evaluate r) (λ v w. always)
  or_evaluate (binary og Equal l r) = or_two l r _ _ (or_evaluate l) (or_evaluate r) (λ v w. always)
  or_evaluate (binary og (function GreaterThan) l r) = or_two l r _ _ (or_evaluate l) (or_evaluate r) (λ v w. always)
  or_evaluate (binary og (function LessThan) l r) = or_two l r _ _ (or_evaluate l) (or_evaluate r) (λ v w. always)
  or_evaluate (binary og (function Add) l r) = or_two l r _ _ (or_evaluate l) (or_evaluate r) (λ v w. always)
  or_evaluate (binary og (function Subtract) l r) = or_two l r _ _ (or_evaluate l) (or_evaluate r) (λ v w. always)
  or_evaluate (binary og (function Multiply) l r) = or_two l r _ _ (or_evaluate l) (or_evaluate r) (λ v w. always)
  or_evaluate (binary og (function Divide) l r) = or_two l r _ _ (or_evaluate l) (or_evaluate r) or_div

-- ---- ConstantFolding

or_fold : (e : Expression) → OrPanics (fold toydb e) (fold document_01 e)
or_fold e = go (not (contains (λ x. matches (Column? x)) e))
  where
    go : (b : Bool) → OrPanics (cond b (evaluate toydb none e >>= λ v. Ok (constant (origin e) v)) (Ok (fold_match e)))
        (cond b (evaluate document_01 none e >>= λ v. Ok (constant (origin e) v)) (Ok (fold_match e)))
    go true = or_bind (evaluate toydb none e) (evaluate document_01 none e) (λ v. Ok (constant (origin e) v)) (λ v. Ok (constant (origin e) v)) (or_evaluate none e) (λ v. always)
    go false = always

or_operands : (f g : Expression → Run Expression) → ((e : Expression) → OrPanics (f e) (g e)) → (e : Expression) → OrPanics (Expression.transform_operands f e) (Expression.transform_operands g e)
or_operands f g h (constant og v) = always
or_operands f g h (column og c) = always
or_operands f g h (unary og o x) = or_bind (f x) (g x) (λ y. Ok (unary og o y)) (λ y. Ok (unary og o y)) (h x) (λ y. always)
or_operands f g h (binary og o l r) =
    or_bind (f l) (g l) (λ x. f r >>= λ y. Ok (binary og o x y)) (λ x. g r >>= λ y. Ok (binary og o x y)) (h l)
    (λ x. or_bind (f r) (g r) (λ y. Ok (binary og o x y)) (λ y. Ok (binary og o x y)) (h r) (λ y. always))

or_transform : (n : ℕ) (e : Expression) → OrPanics (Expression.transform Ok (fold toydb) n e) (Expression.transform Ok (fold document_01) n e)
or_transform zero e = always
or_transform (suc n) e =
    or_bind (Expression.transform_operands (Expression.transform Ok (fold toydb) n) e) (Expression.transform_operands (Expression.transform Ok (fold document_01) n) e) (fold toydb) (fold document_01)
    (or_operands (Expression.transform Ok (fold toydb) n) (Expression.transform Ok (fold document_01) n) (or_transform n) e) or_fold

or_made : {A : Type 0} (e : Expression) (made : Expression → A)
    → OrPanics (transformed Ok (fold toydb) e >>= λ p. Ok (made p)) (transformed Ok (fold document_01) e >>= λ p. Ok (made p))
or_made e made =
    or_bind (transformed Ok (fold toydb) e) (transformed Ok (fold document_01) e) (λ p. Ok (made p)) (λ p. Ok (made p)) (or_transform (size e) e) (λ p. always)

or_list : {A B : Type 0} (f g : A → Run A) (xs : List A) (made : List A → B) → ((x : A) → OrPanics (f x) (g x))
    → OrPanics (try_collect f xs >>= λ ys. Ok (made ys)) (try_collect g xs >>= λ ys. Ok (made ys))
or_list f g xs made h = or_bind (try_collect f xs) (try_collect g xs) (λ ys. Ok (made ys)) (λ ys. Ok (made ys)) (or_collect f g h xs) (λ ys. always)

or_expressions : (n : Node) → OrPanics (transform_expressions Ok (fold toydb) n) (transform_expressions Ok (fold document_01) n)
or_expressions (leaf og (scan table alias none)) = always
or_expressions (leaf og (scan table alias (some p))) = or_made p (λ q. leaf og (scan table alias (some q)))
or_expressions (leaf og (lookup by table alias constants)) = always
or_expressions (leaf og (nothing labels)) = always
or_expressions (leaf og (values rows)) =
    or_list {A = Marked (List Expression)} _ _ rows (λ r. leaf og (values r)) (λ (row, o). or_list _ _ row (λ es. (es, o)) (λ e. or_transform (size e) e))
or_expressions (over og (filter p) source) = or_made p (λ q. over og (filter q) source)
or_expressions (over og (other (limit amount)) source) = always
or_expressions (over og (other (offset amount)) source) = always
or_expressions (over og (other (order key)) source) =
    or_list {A = Expression × Bool × ℕ} _ _ key (λ k. over og (other (order k)) source) (λ (e, d, o). or_made e (λ x. (x, d, o)))
or_expressions (over og (other (projection items)) source) =
    or_list {A = Expression × Label × ℕ} _ _ items (λ i. over og (other (projection i)) source) (λ (e, l, o). or_made e (λ x. (x, l, o)))
or_expressions (over og (other (remap targets)) source) = always
or_expressions (over og (other (aggregate group_by aggregates)) source) = always
or_expressions (join og outer (nested_loop none) left right) = always
or_expressions (join og outer (nested_loop (some p)) left right) = or_made p (λ q. join og outer (nested_loop (some q)) left right)
or_expressions (join og outer (hash a b) left right) = always

or_sources : (f g : Node → Run Node) → ((n : Node) → OrPanics (f n) (g n)) → (n : Node) → OrPanics (transform_sources f n) (transform_sources g n)
or_sources f g h (leaf og l) = always
or_sources f g h (over og o source) = or_bind (f source) (g source) (λ s. Ok (over og o s)) (λ s. Ok (over og o s)) (h source) (λ s. always)
or_sources f g h (join og outer j left right) =
    or_bind (f left) (g left) (λ l. f right >>= λ r. Ok (join og outer j l r)) (λ l. g right >>= λ r. Ok (join og outer j l r)) (h left)
    (λ l. or_bind (f right) (g right) (λ r. Ok (join og outer j l r)) (λ r. Ok (join og outer j l r)) (h right) (λ r. always))

-- Node::transform with rewrites that are so
or_nodes : (b₁ b₂ a₁ a₂ : Node → Run Node) → ((n : Node) → OrPanics (b₁ n) (b₂ n)) → ((n : Node) → OrPanics (a₁ n) (a₂ n)) → (k : ℕ) (n : Node)
    → OrPanics (transform b₁ a₁ k n) (transform b₂ a₂ k n)
or_nodes b₁ b₂ a₁ a₂ g h zero n = always
or_nodes b₁ b₂ a₁ a₂ g h (suc k) n =
    or_bind (b₁ n >>= transform_sources (transform b₁ a₁ k)) (b₂ n >>= transform_sources (transform b₂ a₂ k)) a₁ a₂
    (or_bind (b₁ n) (b₂ n) (transform_sources (transform b₁ a₁ k)) (transform_sources (transform b₂ a₂ k)) (g n)
    (or_sources (transform b₁ a₁ k) (transform b₂ a₂ k) (or_nodes b₁ b₂ a₁ a₂ g h k)))
    h

pub folding_departs : FoldingDeparts
folding_departs n =
    or_nodes (transform_expressions Ok (fold toydb)) (transform_expressions Ok (fold document_01)) Ok Ok or_expressions (λ m. always) (node_size n) n

-- ---- IndexLookup and ShortCircuit: a column that the table hasn't

module _ (schema : Schema) where
  or_column : (table i : ℕ) → OrPanics (column_at toydb schema table i) (column_at document_01 schema table i)
  or_column table i = or_below (get (table_of schema table).columns i) (λ c. Ok c) Panic (Ok no_column) (panics refl)

  or_has_index : (table c : ℕ) → OrPanics (has_index toydb schema table c) (has_index document_01 schema table c)
  or_has_index table c = go (eqb c (table_of schema table).primary_key)
    where
      go : (b : Bool) → OrPanics (cond b (Ok true) (column_at toydb schema table c >>= λ column. Ok column.index)) (cond b (Ok true) (column_at document_01 schema table c >>= λ column. Ok column.index))
      go true = always
      go false = or_bind (column_at toydb schema table c) (column_at document_01 schema table c) (λ column. Ok column.index) (λ column. Ok column.index) (or_column table c) (λ column. always)

  or_indexed : (table : ℕ) (p : ℕ × Expression) → OrPanics (is_indexed toydb schema table p) (is_indexed document_01 schema table p)
  or_indexed table p =
      or_arm (is_column_lookup p.1) _ _ (Ok none)
      (λ c. or_bind (has_index toydb schema table c) (has_index document_01 schema table c) _ _ (or_has_index table c) (λ indexed. always))

  or_find_map : {A B : Type 0} (f g : A → Run (Option B)) → ((x : A) → OrPanics (f x) (g x)) → (xs : List A) → OrPanics (try_find_map f xs) (try_find_map g xs)
  or_find_map f g h [] = always
  or_find_map f g h (x ∷ xs) =
      or_bind (f x) (g x) (λ o. (o ⇒ λ y. Ok (some y)) else try_find_map f xs) (λ o. (o ⇒ λ y. Ok (some y)) else try_find_map g xs) (h x)
      (λ o. or_below o (λ y. Ok (some y)) (try_find_map f xs) (try_find_map g xs) (or_find_map f g h xs))

  or_index_lookup : (n : Node) → OrPanics (index_lookup toydb schema n) (index_lookup document_01 schema n)
  or_index_lookup (leaf og (scan table alias none)) = always
  or_index_lookup (leaf og (scan table alias (some p))) =
      or_bind (Expression.into_cnf_vec p) (Expression.into_cnf_vec p) (index_lookup_of toydb schema og table alias p) (index_lookup_of document_01 schema og table alias p) always
      (λ cnf. or_bind (try_find_map (is_indexed toydb schema table) (enumerate 0 cnf)) (try_find_map (is_indexed document_01 schema table) (enumerate 0 cnf)) _ _
      (or_find_map (is_indexed toydb schema table) (is_indexed document_01 schema table) (or_indexed table) (enumerate 0 cnf)) (λ first. always))
  or_index_lookup (leaf og (lookup by table alias constants)) = always
  or_index_lookup (leaf og (nothing labels)) = always
  or_index_lookup (leaf og (values rows)) = always
  or_index_lookup (over og o source) = always
  or_index_lookup (join og outer j left right) = always

  or_table : (table : ℕ) (alias : Option ℕ) (i : ℕ) → OrPanics (table_label toydb schema table alias i) (table_label document_01 schema table alias i)
  or_table table alias i = or_bind (column_at toydb schema table i) (column_at document_01 schema table i) _ _ (or_column table i) (λ c. always)

  or_label : (n : Node) (i : ℕ) → OrPanics (column_label toydb schema n i) (column_label document_01 schema n i)
  or_label (leaf og (scan table alias predicate)) i = or_table table alias i
  or_label (leaf og (lookup by table alias constants)) i = or_table table alias i
  or_label (leaf og (nothing labels)) i = always
  or_label (leaf og (values rows)) i = always
  or_label (over og (filter predicate) source) i = or_label source i
  or_label (over og (other (limit amount)) source) i = or_label source i
  or_label (over og (other (offset amount)) source) i = or_label source i
  or_label (over og (other (order key)) source) i = or_label source i
  or_label (over og (other (projection items)) source) i =
      or_arm (no_alias? (get (aliases items) i)) _ _ _ (λ n. or_arm (and_then (get (expressions items) i) Column?) _ _ (Ok unlabelled) (λ p. or_label source p.1))
  or_label (over og (other (remap targets)) source) i = or_arm (position (is_some i) (targets_of targets)) _ _ (Ok unlabelled) (λ j. or_label source j)
  or_label (over og (other (aggregate group_by aggregates)) source) i = or_arm (and_then (get group_by i) Column?) _ _ (Ok unlabelled) (λ p. or_label source p.1)
  or_label (join og outer j left right) i = go (ltb i (columns schema left)) (or_label left i) (or_label right (i - columns schema left))
    where
      go : {a b c d : Run Label} (t : Bool) → OrPanics a b → OrPanics c d → OrPanics (cond t a c) (cond t b d)
      go true x y = x
      go false x y = y

  or_short_circuit : (n : Node) → OrPanics (short_circuit toydb schema n) (short_circuit document_01 schema n)
  or_short_circuit n = go (emptied m)
    where
      m : Node
      m = without_useless schema n

      labels : (i : ℕ) → OrPanics {A = Marked Label} (column_label toydb schema m i >>= λ l. Ok (l, node_origin m)) (column_label document_01 schema m i >>= λ l. Ok (l, node_origin m))
      labels i = or_bind (column_label toydb schema m i) (column_label document_01 schema m i) _ _ (or_label m i) (λ l. always)

      go : (b : Bool) → OrPanics (cond b (nothing_of toydb schema m) (Ok m)) (cond b (nothing_of document_01 schema m) (Ok m))
      go true =
          or_bind _ _ (λ ls. Ok (leaf (node_origin m) (nothing ls))) (λ ls. Ok (leaf (node_origin m) (nothing ls)))
          (or_collect {B = Marked Label} (λ i. column_label toydb schema m i >>= λ l. Ok (l, node_origin m)) (λ i. column_label document_01 schema m i >>= λ l. Ok (l, node_origin m)) labels (up_to 0 (columns schema m)))
          (λ ls. always)
      go false = always

pub lookup_departs : LookupDeparts
lookup_departs schema n = or_nodes (index_lookup toydb schema) (index_lookup document_01 schema) Ok Ok (or_index_lookup schema) (λ m. always) (node_size n) n

pub circuit_departs : CircuitDeparts
circuit_departs schema n = or_nodes Ok Ok (short_circuit toydb schema) (short_circuit document_01 schema) (λ m. always) (or_short_circuit schema) (node_size n) n

-- ---- HashJoin

and_both : (a b : Bool) → (a && b) ≡ true → (a ≡ true) × (b ≡ true)
and_both true b h = (refl, h)
and_both false b h = absurd (let y : ◌≡◌ {A = ℕ} 0 1 = cc in omega arith)

module _ (schema : Schema) where
  -- of one join
  join_departs : (og : ℕ) (outer : Bool) (j : Join) (left right : Node) → sides (columns schema left) j ≡ true
      → hash_join toydb schema (join og outer j left right) ≡ hash_join document_01 schema (join og outer j left right)
  join_departs og outer (hash a b) left right h = refl
  join_departs og outer (nested_loop none) left right h = refl
  join_departs og outer (nested_loop (some (constant o v))) left right h = refl
  join_departs og outer (nested_loop (some (column o c))) left right h = refl
  join_departs og outer (nested_loop (some (unary o f x))) left right h = refl
  join_departs og outer (nested_loop (some (binary o (logical f) x y))) left right h = refl
  join_departs og outer (nested_loop (some (binary o Equal (constant i v) y))) left right h = refl
  join_departs og outer (nested_loop (some (binary o Equal (column i a) (constant k v)))) left right h = refl
  join_departs og outer (nested_loop (some (binary o Equal (column i a) (column k b)))) left right h =
      ap (λ (t : Bool). cond t (minus pair.1 (columns schema left) >>= λ c. Ok (join og outer (hash pair.0 c) left right))
      (Ok (join og outer (nested_loop (some (binary o Equal (column i a) (column k b)))) left right))) (sym h)
    where
      pair : ℕ × ℕ
      pair = cond (ltb b a) (b, a) (a, b)
  join_departs og outer (nested_loop (some (binary o Equal (column i a) (unary k f x)))) left right h = refl
  join_departs og outer (nested_loop (some (binary o Equal (column i a) (binary k f x z)))) left right h = refl
  join_departs og outer (nested_loop (some (binary o Equal (unary i f x) y))) left right h = refl
  join_departs og outer (nested_loop (some (binary o Equal (binary i f x z) y))) left right h = refl
  join_departs og outer (nested_loop (some (binary o (function f) x y))) left right h = refl

  hash_at : (k : ℕ) (n : Node) → each_side schema n ≡ true → transform (hash_join toydb schema) Ok k n ≡ transform (hash_join document_01 schema) Ok k n
  hash_at zero n h = refl
  hash_at (suc k) (leaf og l) h = refl
  hash_at (suc k) (over og o source) h = ap (λ (r : Run Node). r >>= (λ s. Ok (over og o s)) >>= Ok) (hash_at k source h)
  hash_at (suc k) (join og outer j left right) h =
      let (a, b) = and_both (sides (columns schema left) j) (each_side schema left && each_side schema right) h in
      let (c, d) = and_both (each_side schema left) (each_side schema right) b in
      ap (λ (r : Run Node). r >>= transform_sources (transform (hash_join toydb schema) Ok k) >>= Ok) (join_departs og outer j left right a ∙ hash_join_same schema (join og outer j left right))
      ∙ (ap₂ (λ (x y : Run Node). x >>= (λ l. y >>= λ r. Ok (join og outer (Optimizer.hash_join (DefinedPlan.columns schema left) j) l r)) >>= Ok) (hash_at k left c) (hash_at k right d)
      ∙ sym (ap (λ (r : Run Node). r >>= transform_sources (transform (hash_join document_01 schema) Ok k) >>= Ok) (hash_join_same schema (join og outer j left right))))

pub hash_departs : HashDeparts
hash_departs schema n h = hash_at schema (node_size n) n h
