-- IndexLookup, HashJoin and ShortCircuit, as transcribed, give what crate sql defines; HashJoin with document 01's departure.
use Prim.Native.Nat.{ℕ, zero, suc, ◌+◌, ◌-◌, ◌≤◌}
use mathlib.Core.Path.{◌≡◌, refl, sym, ap, ap₂, ◌∙◌}
use mathlib.Core.Bool.{Bool, true, false, not, ◌&&◌, ◌||◌, cond}
use mathlib.Core.List.{List, [], ◌∷◌, map}
use mathlib.Core.Option.{Option, none, some}
use native.Mathlib.Omega.{arith}
use lib.Dec.{eqb, ltb, eqb-zero-suc}
use lib.ListN.{length}
use Rattle.value.specs.Value.{False, Unknown, True, Value, truth, datum}
use Rattle.sql.specs.Schema.{Column, Schema, table_of, column_of}
use Rattle.sql.specs.Expression.{Marked, logical, Equal, function, Expression, constant, column, unary, binary}
use Rattle.sql.specs.Expression as Defined
use Rattle.sql.specs.Plan.{Label, unlabelled, unqualified, qualified, Access, by_key, by_index, Leaf, scan, lookup, nothing, values, limit, offset, order, projection, remap, aggregate, filter, other, nested_loop, hash, Node, leaf, over, join, node_origin, up_to, node_size}
use Rattle.sql.specs.Plan as DefinedPlan
use Rattle.sql.specs.Optimizer.{map_sources, Found, filtered, has_index, with_index, found_here, find_lookup, access, lookup_or_scan, hash_pair, verdict, optional_verdict, is_always, is_never, is_unlabelled, is_column_number, pass_through, is_nothing, remove_useless, empty_or_node}
use Rattle.sql.specs.Optimizer as Optimizer
use Rattle.literal.specs.Rust.{Run, Ok, Panic, ◌>>=◌, ◌⇒◌, ◌∣◌, ◌if◌, ◌else◌, matches, and_then, remove, enumerate, try_find_map, try_collect, all}
use Rattle.literal.specs.Rust as Rust
use Rattle.literal.specs.Value.{document_01}
use Rattle.literal.specs.Expression.{into_cnf_vec, and_vec, is_column_lookup, into_column_values}
use Rattle.literal.specs.Plan.{expressions, aliases, columns, column_label, transform}
use Rattle.literal.specs.Optimizer.{ConstantBoolean?, ConstantFalseNull?, is_indexed, index_lookup_of, index_lookup, IndexLookup, minus, hash_join, HashJoin, is_none, is_column, over_nothing, emptied, is_noop, without_useless, nothing_of, short_circuit, ShortCircuit}
use Rattle.literal.specs.Optimizer as OptimizerText
use Rattle.literal.specs.Nodes.{nodes, nodes_positive, nodes_cells, over_positive, join_positive}
use Rattle.literal.proofs.Expression.{size_positive, cnf_vec_same, and_vec_same, lookup_same, values_same, no_number}
use Rattle.literal.proofs.Plan.{length_map, columns_same, column_at_same, label_same, Fits, before_same}

-- ======== IndexLookup

-- find_map, with a closure that gives its result at once
abbrev find_map : {A B : Type 0} → (A → Option B) → List A → Option B
find_map f [] = none
find_map f (x ∷ xs) = f x ∣ find_map f xs

find_map_same : {A B : Type 0} (f : A → Run (Option B)) (g : A → Option B) → ((x : A) → f x ≡ Ok (g x)) → (xs : List A) → try_find_map f xs ≡ Ok (find_map g xs)
find_map_same f g h [] = refl
find_map_same f g h (x ∷ xs) = ap (λ (r : Run (Option _)). r >>= λ o. (o ⇒ λ y. Ok (some y)) else try_find_map f xs) (h x) ∙ go (g x) (find_map_same f g h xs)
  where
    go : (o : Option _) → try_find_map f xs ≡ Ok (find_map g xs) → ((o ⇒ λ y. Ok (some y)) else try_find_map f xs) ≡ Ok (o ∣ find_map g xs)
    go none k = k
    go (some y) k = refl

module _ (schema : Schema) (table : ℕ) where
  abbrev choose_at : ℕ × Expression → Option (ℕ × ℕ)
  choose_at (i, e) = is_column_lookup e if (λ c. eqb c (table_of schema table).primary_key || (column_of schema table c).index) ⇒ λ c. (i, c)

  abbrev choose : ℕ → List Expression → Option (ℕ × ℕ)
  choose k cnf = find_map choose_at (enumerate k cnf)

  indexed_same : (p : ℕ × Expression) → is_indexed document_01 schema table p ≡ Ok (choose_at p)
  indexed_same p = go (is_column_lookup p.1)
    where
      chosen_if : Bool → ℕ → Option (ℕ × ℕ)
      chosen_if b c = cond b (some (p.0, c)) none

      by_key_or : (b : Bool) (c : Column) → cond b (Ok true) (Ok c.index) ≡ Ok (b || c.index)
      by_key_or true c = refl
      by_key_or false c = refl

      kept : (b : Bool) (c : ℕ) → chosen_if b c ≡ (cond b (some c) none ⇒ λ c. (p.0, c))
      kept true c = refl
      kept false c = refl

      go : (o : Option ℕ) → ((o ⇒ λ c. OptimizerText.has_index document_01 schema table c >>= λ indexed. Ok (chosen_if indexed c)) else Ok none)
          ≡ Ok (o if has_index schema table ⇒ λ c. (p.0, c))
      go none = refl
      go (some c) =
          ap (λ (r : Run Column). cond (eqb c (table_of schema table).primary_key) (Ok true) (r >>= λ column. Ok column.index) >>= λ indexed. Ok (chosen_if indexed c)) (column_at_same schema table c)
          ∙ (ap (λ (r : Run Bool). r >>= λ indexed. Ok (chosen_if indexed c)) (by_key_or (eqb c (table_of schema table).primary_key) (column_of schema table c))
          ∙ ap Ok (kept (has_index schema table c) c))

  abbrev next : Option (ℕ × ℕ) → Option (ℕ × ℕ)
  next o = o ⇒ λ (i, c). (suc i, c)

  counted : (k : ℕ) (cnf : List Expression) → choose (suc k) cnf ≡ next (choose k cnf)
  counted k [] = refl
  counted k (e ∷ es) = go (is_column_lookup e if has_index schema table) (counted (suc k) es)
    where
      go : (o : Option ℕ) → choose (suc (suc k)) es ≡ next (choose (suc k) es)
          → ((o ⇒ λ c. (suc k, c)) ∣ choose (suc (suc k)) es) ≡ next ((o ⇒ λ c. (k, c)) ∣ choose (suc k) es)
      go none h = h
      go (some c) h = refl

  -- the column that is chosen, and what `remove` gives; and crate sql's Found
  abbrev removed : List Expression → Option (ℕ × ℕ) → Option (ℕ × Run (Expression × List Expression))
  removed cnf o = o ⇒ λ (i, c). (c, remove cnf i)

  abbrev taken : Option Found → Option (ℕ × Run (Expression × List Expression))
  taken o = o ⇒ λ f. (f.column_number, Ok (f.conjunct, f.remaining))

  with_index_same : (o : Option ℕ) → (o if has_index schema table) ≡ with_index schema table o
  with_index_same none = refl
  with_index_same (some c) = refl

  chosen : (cnf : List Expression) → removed cnf (choose 0 cnf) ≡ taken (find_lookup schema table cnf)
  chosen [] = refl
  chosen (e ∷ es) =
      ap (λ (o : Option ℕ). removed (e ∷ es) ((o if has_index schema table ⇒ λ c. (0, c)) ∣ choose 1 es)) (lookup_same e)
      ∙ (ap (λ (o : Option ℕ). removed (e ∷ es) ((o ⇒ λ c. (0, c)) ∣ choose 1 es)) (with_index_same (Defined.is_column_lookup e))
      ∙ go (with_index schema table (Defined.is_column_lookup e)) (counted 0 es) (chosen es))
    where
      behind : ℕ × Run (Expression × List Expression) → ℕ × Run (Expression × List Expression)
      behind q = (q.0, q.1 >>= λ p. Ok (p.0, e ∷ p.1))

      moved : (o : Option (ℕ × ℕ)) → removed (e ∷ es) (next o) ≡ (removed es o ⇒ behind)
      moved none = refl
      moved (some p) = refl

      later : (o : Option Found) → (taken o ⇒ behind) ≡ taken (found_here schema table e es none o)
      later none = refl
      later (some f) = refl

      go : (o : Option ℕ) → choose 1 es ≡ next (choose 0 es) → removed es (choose 0 es) ≡ taken (find_lookup schema table es)
          → removed (e ∷ es) ((o ⇒ λ c. (0, c)) ∣ choose 1 es) ≡ taken (found_here schema table e es o (find_lookup schema table es))
      go none h k = ap (removed (e ∷ es)) h ∙ (moved (choose 0 es) ∙ (ap (λ (o : Option (ℕ × Run (Expression × List Expression))). o ⇒ behind) k ∙ later (find_lookup schema table es)))
      go (some c) h k = refl

  no_found : {A : Type 0} {f : Found} → ◌≡◌ {A = Option Found} none (some f) → A
  no_found h = absurd (let y : ◌≡◌ {A = ℕ} 0 1 = cc in omega arith)

  indexed : (o : Option ℕ) (c : ℕ) → with_index schema table o ≡ some c → o ≡ some c
  indexed none c h = no_number h
  indexed (some d) c h = go (has_index schema table d) h
    where
      go : (b : Bool) → cond b (some d) none ≡ some c → ◌≡◌ {A = Option ℕ} (some d) (some c)
      go true i = i
      go false i = no_number i

  found_lookup : (cnf : List Expression) (f : Found) → find_lookup schema table cnf ≡ some f → Defined.is_column_lookup f.conjunct ≡ some f.column_number
  found_lookup [] f h = no_found h
  found_lookup (e ∷ es) f h = go (with_index schema table (Defined.is_column_lookup e)) refl (find_lookup schema table es) refl h (found_lookup es)
    where
      go : (o : Option ℕ) → with_index schema table (Defined.is_column_lookup e) ≡ o → (q : Option Found) → find_lookup schema table es ≡ q → found_here schema table e es o q ≡ some f
          → ((f : Found) → find_lookup schema table es ≡ some f → Defined.is_column_lookup f.conjunct ≡ some f.column_number)
          → Defined.is_column_lookup f.conjunct ≡ some f.column_number
      go none k none l i later = no_found i
      go none k (some g) l i later =
          let a : g.conjunct ≡ f.conjunct = cc in let b : g.column_number ≡ f.column_number = cc in
          ap Defined.is_column_lookup (sym a) ∙ (later g l ∙ ap some b)
      go (some c) k q l i later =
          let a : e ≡ f.conjunct = cc in let b : c ≡ f.column_number = cc in
          ap Defined.is_column_lookup (sym a) ∙ (indexed (Defined.is_column_lookup e) c k ∙ ap some b)

  module _ (og : ℕ) (alias : Option ℕ) (predicate : Expression) where
    abbrev made : ℕ → List (Marked Value) → Node
    made c vs = cond (eqb c (table_of schema table).primary_key) (leaf og (lookup by_key table alias vs)) (leaf og (lookup (by_index c) table alias vs))

    -- the text from line 279 on
    abbrev built : ℕ → Expression × List Expression → Run Node
    built c q = into_column_values c q.0 >>= λ vs. Ok ((and_vec og q.1 ⇒ λ p. over og (filter p) (made c vs)) else made c vs)

    made_same : (c : ℕ) (vs : List (Marked Value)) → made c vs ≡ leaf og (lookup (access schema table c) table alias vs)
    made_same c vs = go (eqb c (table_of schema table).primary_key)
      where
        go : (b : Bool) → cond b (leaf og (lookup by_key table alias vs)) (leaf og (lookup (by_index c) table alias vs)) ≡ leaf og (lookup (cond b by_key (by_index c)) table alias vs)
        go true = refl
        go false = refl

    filtered_same : (o : Option Expression) (n : Node) → ((o ⇒ λ p. over og (filter p) n) else n) ≡ filtered og o n
    filtered_same none n = refl
    filtered_same (some p) n = refl

    chosen_same : (cnf : List Expression)
        → ((choose 0 cnf ⇒ λ (i, c). remove cnf i >>= built c) else Ok (leaf og (scan table alias (some predicate)))) ≡ Ok (lookup_or_scan schema table og alias predicate (find_lookup schema table cnf))
    chosen_same cnf =
        (regroup (choose 0 cnf)
        ∙ ap (λ (o : Option (ℕ × Run (Expression × List Expression))). (o ⇒ λ q. q.1 >>= built q.0) else Ok (leaf og (scan table alias (some predicate)))) (chosen cnf))
        ∙ go (find_lookup schema table cnf) (found_lookup cnf)
      where
        regroup : (o : Option (ℕ × ℕ)) → ((o ⇒ λ (i, c). remove cnf i >>= built c) else Ok (leaf og (scan table alias (some predicate))))
            ≡ ((removed cnf o ⇒ λ q. q.1 >>= built q.0) else Ok (leaf og (scan table alias (some predicate))))
        regroup none = refl
        regroup (some p) = refl

        go : (o : Option Found) → ((f : Found) → o ≡ some f → Defined.is_column_lookup f.conjunct ≡ some f.column_number)
            → ((taken o ⇒ λ q. q.1 >>= built q.0) else Ok (leaf og (scan table alias (some predicate)))) ≡ Ok (lookup_or_scan schema table og alias predicate o)
        go none h = refl
        go (some f) h =
            let c = f.column_number in
            let vs = Defined.into_column_values f.conjunct in
            ap (λ (r : Run (List (Marked Value))). r >>= λ vs. Ok ((and_vec og f.remaining ⇒ λ p. over og (filter p) (made c vs)) else made c vs)) (values_same f.conjunct c (h f refl))
            ∙ (ap₂ (λ (o : Option Expression) n. Ok ((o ⇒ λ p. over og (filter p) n) else n)) (and_vec_same og f.remaining) (made_same c vs)
            ∙ ap Ok (filtered_same (Defined.and_vec og f.remaining) (leaf og (lookup (access schema table c) table alias vs))))

module _ (schema : Schema) where
  abbrev index_lookup_node : Node → Node
  index_lookup_node (leaf og l) = Optimizer.index_lookup schema og l
  index_lookup_node (over og o source) = over og o source
  index_lookup_node (join og outer j left right) = join og outer j left right

  pub index_lookup_same : (n : Node) → index_lookup document_01 schema n ≡ Ok (index_lookup_node n)
  unfolding Optimizer.index_lookup
  index_lookup_same (leaf og (scan table alias none)) = refl
  index_lookup_same (leaf og (scan table alias (some p))) =
      ap (λ (r : Run (List Expression)). r >>= index_lookup_of document_01 schema og table alias p) (cnf_vec_same p)
      ∙ (ap (λ (r : Run (Option (ℕ × ℕ))). r >>= λ first. (first ⇒ λ (i, c). remove cnf i >>= built schema table og alias p c) else Ok (leaf og (scan table alias (some p))))
      (find_map_same (is_indexed document_01 schema table) (choose_at schema table) (indexed_same schema table) (enumerate 0 cnf))
      ∙ chosen_same schema table og alias p cnf)
    where
      cnf : List Expression
      cnf = Defined.into_cnf_vec p
  index_lookup_same (leaf og (lookup by table alias constants)) = refl
  index_lookup_same (leaf og (nothing labels)) = refl
  index_lookup_same (leaf og (values rows)) = refl
  index_lookup_same (over og o source) = refl
  index_lookup_same (join og outer j left right) = refl

  -- how deep `transform` goes: a Scan with a filter may become a Filter over a lookup
  abbrev leaf_steps : Leaf → ℕ
  leaf_steps (scan table alias none) = 1
  leaf_steps (scan table alias (some p)) = 2
  leaf_steps (lookup by table alias constants) = 1
  leaf_steps (nothing labels) = 1
  leaf_steps (values rows) = 1

  abbrev steps : Node → ℕ
  steps (leaf og l) = leaf_steps l
  steps (over og o source) = suc (steps source)
  steps (join og outer j left right) = suc (steps left + steps right)

  steps_positive : (n : Node) → 1 ≤ steps n
  steps_positive (leaf og (scan table alias none)) = omega arith
  steps_positive (leaf og (scan table alias (some p))) = omega arith
  steps_positive (leaf og (lookup by table alias constants)) = omega arith
  steps_positive (leaf og (nothing labels)) = omega arith
  steps_positive (leaf og (values rows)) = omega arith
  steps_positive (over og o source) = omega arith
  steps_positive (join og outer j left right) = omega arith

  steps_cells : (n : Node) → steps n ≤ node_size n
  steps_cells (leaf og (scan table alias none)) = omega arith
  steps_cells (leaf og (scan table alias (some p))) = let q = size_positive p in omega arith
  steps_cells (leaf og (lookup by table alias constants)) = omega arith
  steps_cells (leaf og (nothing labels)) = omega arith
  steps_cells (leaf og (values rows)) = omega arith
  steps_cells (over og o source) = let h = steps_cells source in let p = over_positive o in omega arith
  steps_cells (join og outer j left right) = let h = steps_cells left in let k = steps_cells right in let p = join_positive j in omega arith

  found_fits : (k og table : ℕ) (alias : Option ℕ) (p : Expression) (o : Option Found) → 1 ≤ k → Fits steps k (lookup_or_scan schema table og alias p o)
  found_fits k og table alias p none h = omega arith
  found_fits k og table alias p (some f) h = go (Defined.and_vec og f.remaining)
    where
      go : (q : Option Expression)
          → Fits steps k (filtered og q (leaf og (lookup (access schema table f.column_number) table alias (Defined.into_column_values f.conjunct))))
      go none = omega arith
      go (some q) = h

  index_fits : (k : ℕ) (n : Node) → steps n ≤ suc k → Fits steps k (index_lookup_node n)
  unfolding Optimizer.index_lookup
  index_fits k (leaf og (scan table alias none)) h = omega arith
  index_fits k (leaf og (scan table alias (some p))) h = found_fits k og table alias p (find_lookup schema table (Defined.into_cnf_vec p)) (omega arith)
  index_fits k (leaf og (lookup by table alias constants)) h = omega arith
  index_fits k (leaf og (nothing labels)) h = omega arith
  index_fits k (leaf og (values rows)) h = omega arith
  index_fits k (over og o source) h = omega arith
  index_fits k (join og outer j left right) h = let p = steps_positive left in let q = steps_positive right in (omega arith, omega arith)

  found_stays : (og table : ℕ) (alias : Option ℕ) (p : Expression) (o : Option Found)
      → map_sources (Optimizer.IndexLookup schema) (lookup_or_scan schema table og alias p o) ≡ lookup_or_scan schema table og alias p o
  unfolding Optimizer.IndexLookup Optimizer.index_lookup
  found_stays og table alias p none = refl
  found_stays og table alias p (some f) = go (Defined.and_vec og f.remaining) (access schema table f.column_number) (Defined.into_column_values f.conjunct)
    where
      go : (q : Option Expression) (by : Access) (vs : List (Marked Value))
          → map_sources (Optimizer.IndexLookup schema) (filtered og q (leaf og (lookup by table alias vs))) ≡ filtered og q (leaf og (lookup by table alias vs))
      go none by vs = refl
      go (some q) by vs = refl

  index_step : (n : Node) → map_sources (Optimizer.IndexLookup schema) (index_lookup_node n) ≡ Optimizer.IndexLookup schema n
  unfolding Optimizer.IndexLookup Optimizer.index_lookup
  index_step (leaf og (scan table alias none)) = refl
  index_step (leaf og (scan table alias (some p))) = found_stays og table alias p (find_lookup schema table (Defined.into_cnf_vec p))
  index_step (leaf og (lookup by table alias constants)) = refl
  index_step (leaf og (nothing labels)) = refl
  index_step (leaf og (values rows)) = refl
  index_step (over og o source) = refl
  index_step (join og outer j left right) = refl

  pub index_same : (n : Node) → IndexLookup document_01 schema n ≡ Ok (Optimizer.IndexLookup schema n)
  index_same n =
      before_same steps steps_positive (index_lookup document_01 schema) index_lookup_node (Optimizer.IndexLookup schema) index_lookup_same index_fits index_step (node_size n) n (steps_cells n)

-- ======== HashJoin

and_left : (a b : Bool) → (a && b) ≡ true → b ≡ true
and_left true b h = h
and_left false b h = absurd (let y : ◌≡◌ {A = ℕ} 0 1 = cc in omega arith)

not_true : (b : Bool) → not b ≡ true → b ≡ false
not_true true h = absurd (let y : ◌≡◌ {A = ℕ} 0 1 = cc in omega arith)
not_true false h = refl

module _ (schema : Schema) where
  abbrev hash_join_node : Node → Node
  hash_join_node (leaf og l) = leaf og l
  hash_join_node (over og o source) = over og o source
  hash_join_node (join og outer j left right) = join og outer (Optimizer.hash_join (DefinedPlan.columns schema left) j) left right

  hash_pair_same : (og : ℕ) (outer : Bool) (left right : Node) (predicate : Expression) (n : ℕ) (p : ℕ × ℕ)
      → cond (ltb p.0 n && not (ltb p.1 n)) (minus p.1 n >>= λ c. Ok (join og outer (hash p.0 c) left right)) (Ok (join og outer (nested_loop (some predicate)) left right))
      ≡ Ok (join og outer (hash_pair n predicate (some p)) left right)
  hash_pair_same og outer left right predicate n p = go (ltb p.0 n && not (ltb p.1 n)) refl
    where
      go : (b : Bool) → (ltb p.0 n && not (ltb p.1 n)) ≡ b
          → cond b (minus p.1 n >>= λ c. Ok (join og outer (hash p.0 c) left right)) (Ok (join og outer (nested_loop (some predicate)) left right))
          ≡ Ok (join og outer (cond b (hash p.0 (p.1 - n)) (nested_loop (some predicate))) left right)
      go true h =
          ap (λ (b : Bool). cond b Panic (Ok (p.1 - n)) >>= λ c. Ok (join og outer (hash p.0 c) left right))
          (not_true (ltb p.1 n) (and_left (ltb p.0 n) (not (ltb p.1 n)) h))
      go false h = refl

  pub hash_join_same : (n : Node) → hash_join document_01 schema n ≡ Ok (hash_join_node n)
  hash_join_same (leaf og l) = refl
  hash_join_same (over og o source) = refl
  hash_join_same (join og outer (hash a b) left right) = refl
  hash_join_same (join og outer (nested_loop none) left right) = refl
  hash_join_same (join og outer (nested_loop (some (constant o v))) left right) = refl
  hash_join_same (join og outer (nested_loop (some (column o c))) left right) = refl
  hash_join_same (join og outer (nested_loop (some (unary o f x))) left right) = refl
  hash_join_same (join og outer (nested_loop (some (binary o (logical f) x y))) left right) = refl
  hash_join_same (join og outer (nested_loop (some (binary o Equal (constant i v) y))) left right) = refl
  hash_join_same (join og outer (nested_loop (some (binary o Equal (column i a) (constant k v)))) left right) = refl
  hash_join_same (join og outer (nested_loop (some (binary o Equal (column i a) (column k b)))) left right) =
      ap (λ n. cond (ltb pair.0 n && not (ltb pair.1 n)) (minus pair.1 n >>= λ c. Ok (join og outer (hash pair.0 c) left right))
      (Ok (join og outer (nested_loop (some (binary o Equal (column i a) (column k b)))) left right))) (columns_same schema left)
      ∙ hash_pair_same og outer left right (binary o Equal (column i a) (column k b)) (DefinedPlan.columns schema left) pair
    where
      pair : ℕ × ℕ
      pair = cond (ltb b a) (b, a) (a, b)
  hash_join_same (join og outer (nested_loop (some (binary o Equal (column i a) (unary k f x)))) left right) = refl
  hash_join_same (join og outer (nested_loop (some (binary o Equal (column i a) (binary k f x z)))) left right) = refl
  hash_join_same (join og outer (nested_loop (some (binary o Equal (unary i f x) y))) left right) = refl
  hash_join_same (join og outer (nested_loop (some (binary o Equal (binary i f x z) y))) left right) = refl
  hash_join_same (join og outer (nested_loop (some (binary o (function f) x y))) left right) = refl

  hash_fits : (k : ℕ) (n : Node) → nodes n ≤ suc k → Fits nodes k (hash_join_node n)
  hash_fits k (leaf og l) h = omega arith
  hash_fits k (over og o source) h = omega arith
  hash_fits k (join og outer j left right) h = let p = nodes_positive left in let q = nodes_positive right in (omega arith, omega arith)

  hash_step : (n : Node) → map_sources (Optimizer.HashJoin schema) (hash_join_node n) ≡ Optimizer.HashJoin schema n
  hash_step (leaf og l) = refl
  hash_step (over og o source) = refl
  hash_step (join og outer j left right) = refl

  pub hash_same : (n : Node) → HashJoin document_01 schema n ≡ Ok (Optimizer.HashJoin schema n)
  hash_same n =
      before_same nodes nodes_positive (hash_join document_01 schema) hash_join_node (Optimizer.HashJoin schema) hash_join_same hash_fits hash_step (node_size n) n (nodes_cells n)

-- ======== ShortCircuit

true_same : (e : Expression) → matches (ConstantBoolean? true e) ≡ is_always (verdict e)
true_same (constant og (truth False)) = refl
true_same (constant og (truth Unknown)) = refl
true_same (constant og (truth True)) = refl
true_same (constant og (datum d)) = refl
true_same (column og c) = refl
true_same (unary og o x) = refl
true_same (binary og o l r) = refl

false_same : (e : Expression) → matches (ConstantFalseNull? e) ≡ is_never (verdict e)
false_same (constant og (truth False)) = refl
false_same (constant og (truth Unknown)) = refl
false_same (constant og (truth True)) = refl
false_same (constant og (datum d)) = refl
false_same (column og c) = refl
false_same (unary og o x) = refl
false_same (binary og o l r) = refl

optional_true : (o : Option Expression) → matches (and_then o (ConstantBoolean? true)) ≡ is_always (optional_verdict o)
optional_true none = refl
optional_true (some e) = true_same e

optional_false : (o : Option Expression) → matches (and_then o ConstantFalseNull?) ≡ is_never (optional_verdict o)
optional_false none = refl
optional_false (some e) = false_same e

nothing_same : (n : Node) → over_nothing n ≡ is_nothing n
nothing_same (leaf og (scan table alias predicate)) = refl
nothing_same (leaf og (lookup by table alias constants)) = refl
nothing_same (leaf og (nothing labels)) = refl
nothing_same (leaf og (values rows)) = refl
nothing_same (over og o source) = refl
nothing_same (join og outer j left right) = refl

-- ---- the guard of the Projection: three tests over two Vecs, and crate sql's one over items

column_number_same : (i : ℕ) (e : Expression) → is_column i e ≡ is_column_number i e
column_number_same i (constant og v) = refl
column_number_same i (column og c) = go (eqb c i)
  where
    go : (b : Bool) → matches {A = ℕ × ℕ} (cond b (some (og, c)) none) ≡ b
    go true = refl
    go false = refl
column_number_same i (unary og o x) = refl
column_number_same i (binary og o l r) = refl

unlabelled_same : (l : Label) → is_none l ≡ is_unlabelled l
unlabelled_same unlabelled = refl
unlabelled_same (unqualified name) = refl
unlabelled_same (qualified table name) = refl

interleaved : (a b x y : Bool) → ((b && y) && (a && x)) ≡ ((a && b) && (y && x))
interleaved true true x y = refl
interleaved true false x y = refl
interleaved false true x true = refl
interleaved false true x false = refl
interleaved false false x y = refl

pass_through_same : (i : ℕ) (items : List (Expression × Label × ℕ))
    → (all is_none (aliases items) && all (λ (i, expr). is_column i expr) (enumerate i (expressions items)))
    ≡ pass_through i items
pass_through_same i [] = refl
pass_through_same i (item ∷ items) =
    interleaved (is_column i item.0) (is_none item.1)
    (all (λ (i, expr). is_column i expr) (enumerate (suc i) (expressions items))) (all is_none (aliases items))
    ∙ ap₂ ◌&&◌ (ap₂ ◌&&◌ (column_number_same i item.0) (unlabelled_same item.1)) (pass_through_same (suc i) items)

guarded : {A R : Type 0} (b : Bool) (a : A) (f : A → R) (r : R) → ((cond b (some a) none ⇒ f) else r) ≡ cond b (f a) r
guarded true a f r = refl
guarded false a f r = refl

cond_in : {A B : Type 0} (f : A → B) (b : Bool) (x y : A) → cond b (f x) (f y) ≡ f (cond b x y)
cond_in f true x y = refl
cond_in f false x y = refl

module _ (schema : Schema) where
  noop_same : (items : List (Expression × Label × ℕ)) (source : Node) → is_noop schema (source, items) ≡ Optimizer.is_noop schema items source
  noop_same items source =
      ap₂ (λ n k. eqb n k && (all is_none (aliases items) && all (λ (i, expr). is_column i expr) (enumerate 0 (expressions items)))) (columns_same schema source) (length_map (λ (item : Expression × Label × ℕ). item.0) items)
      ∙ ap (λ b. eqb (DefinedPlan.columns schema source) (length items) && b) (pass_through_same 0 items)

  -- ---- the first match

  pub useless_same : (n : Node) → without_useless schema n ≡ remove_useless schema n
  useless_same (leaf og (scan table alias predicate)) =
      guarded {A = ℕ × ℕ × Option Expression × Option ℕ} (matches (and_then predicate (ConstantBoolean? true))) (og, table, predicate, alias) (λ t. leaf t.0 (scan t.1 t.3 none)) (leaf og (scan table alias predicate))
      ∙ (ap (λ b. cond b (leaf og (scan table alias none)) (leaf og (scan table alias predicate))) (optional_true predicate)
      ∙ cond_in (λ p. leaf og (scan table alias p)) (is_always (optional_verdict predicate)) none predicate)
  useless_same (leaf og (lookup by table alias constants)) = refl
  useless_same (leaf og (nothing labels)) = refl
  useless_same (leaf og (values rows)) = refl
  useless_same (over og (filter predicate) source) =
      guarded {A = ℕ × Node × Expression} (matches (ConstantBoolean? true predicate)) (og, source, predicate) (λ t. t.1) (over og (filter predicate) source)
      ∙ ap (λ b. cond b source (over og (filter predicate) source)) (true_same predicate)
  useless_same (over og (other (limit amount)) source) = refl
  useless_same (over og (other (offset amount)) source) = refl
  useless_same (over og (other (order key)) source) = refl
  useless_same (over og (other (projection items)) source) =
      guarded {A = Node × List (Expression × Label × ℕ)} (is_noop schema (source, items)) (source, items) (λ t. t.0) (over og (other (projection items)) source)
      ∙ ap (λ b. cond b source (over og (other (projection items)) source)) (noop_same items source)
  useless_same (over og (other (remap targets)) source) = refl
  useless_same (over og (other (aggregate group_by aggregates)) source) = refl
  useless_same (join og outer (nested_loop predicate) left right) =
      guarded {A = ℕ × Node × Node × Option Expression × Bool} (matches (and_then predicate (ConstantBoolean? true))) (og, left, right, predicate, outer)
      (λ t. join t.0 t.4 (nested_loop none) t.1 t.2) (join og outer (nested_loop predicate) left right)
      ∙ (ap (λ b. cond b (join og outer (nested_loop none) left right) (join og outer (nested_loop predicate) left right)) (optional_true predicate)
      ∙ cond_in (λ p. join og outer (nested_loop p) left right) (is_always (optional_verdict predicate)) none predicate)
  useless_same (join og outer (hash a b) left right) = refl

-- ---- is_empty

-- an arm with a guard
one_arm : {A : Type 0} (b : Bool) (a : A) → ((cond b (some a) none ⇒ λ x. true) else false) ≡ b
one_arm true a = refl
one_arm false a = refl

-- an arm, and one below it of a source or of two
over_source : {A : Type 0} (b c : Bool) (a : A) (s : Node) → ((cond b (some a) none ⇒ λ x. true) else (cond c (some s) none ∣ none ⇒ λ x. true) else false) ≡ (b || c)
over_source true c a s = refl
over_source false true a s = refl
over_source false false a s = refl

one_source : (b : Bool) (a : Node) → (((cond b (some a) none) ⇒ λ x. true) else false) ≡ b
one_source true a = refl
one_source false a = refl

two_sources : (b c : Bool) (l r : Node) → ((cond b (some l) none ∣ (cond c (some r) none ∣ none) ⇒ λ x. true) else false) ≡ (b || c)
two_sources true c l r = refl
two_sources false true l r = refl
two_sources false false l r = refl

over_sources : {A : Type 0} (b c d : Bool) (a : A) (l r : Node)
    → ((cond b (some a) none ⇒ λ x. true) else (cond c (some l) none ∣ (cond d (some r) none ∣ none) ⇒ λ x. true) else false) ≡ (b || (c || d))
over_sources true c d a l r = refl
over_sources false c d a l r = two_sources c d l r

empty_list : {A : Type 0} (xs : List A) → Rust.is_empty xs ≡ Optimizer.is_empty_list xs
empty_list [] = refl
empty_list (x ∷ xs) = refl

pub emptied_same : (n : Node) → emptied n ≡ Optimizer.is_empty n
emptied_same (leaf og (scan table alias predicate)) = one_arm {A = ℕ × ℕ × Option Expression × Option ℕ} (matches (and_then predicate ConstantFalseNull?)) (og, table, predicate, alias) ∙ optional_false predicate
emptied_same (leaf og (lookup by_key table alias constants)) = one_arm (Rust.is_empty constants) constants ∙ empty_list constants
emptied_same (leaf og (lookup (by_index c) table alias constants)) = one_arm (Rust.is_empty constants) constants ∙ empty_list constants
emptied_same (leaf og (nothing labels)) = refl
emptied_same (leaf og (values rows)) = one_arm (Rust.is_empty rows) rows ∙ empty_list rows
emptied_same (over og (filter predicate) source) =
    over_source {A = ℕ × Node × Expression} (matches (ConstantFalseNull? predicate)) (over_nothing source) (og, source, predicate) source
    ∙ ap₂ ◌||◌ (false_same predicate) (nothing_same source)
emptied_same (over og (other (limit zero)) source) = refl
emptied_same (over og (other (limit (suc n))) source) = one_arm (eqb 0 (suc n)) (suc n) ∙ eqb-zero-suc n
emptied_same (over og (other (offset amount)) source) = go (over_nothing source) ∙ nothing_same source
  where
    go : (b : Bool) → ((cond b (some source) none ∣ none ⇒ λ s. true) else false) ≡ b
    go true = refl
    go false = refl
emptied_same (over og (other (order key)) source) = go (over_nothing source) ∙ nothing_same source
  where
    go : (b : Bool) → ((cond b (some source) none ∣ none ⇒ λ s. true) else false) ≡ b
    go true = refl
    go false = refl
emptied_same (over og (other (projection items)) source) = one_source (over_nothing source) source ∙ nothing_same source
emptied_same (over og (other (remap targets)) source) = refl
emptied_same (over og (other (aggregate group_by aggregates)) source) = refl
emptied_same (join og outer (nested_loop predicate) left right) =
    over_sources {A = ℕ × Node × Node × Option Expression × Bool} (matches (and_then predicate ConstantFalseNull?)) (over_nothing left) (over_nothing right) (og, left, right, predicate, outer) left right
    ∙ ap₂ ◌||◌ (optional_false predicate) (ap₂ ◌||◌ (nothing_same left) (nothing_same right))
emptied_same (join og outer (hash a b) left right) = two_sources (over_nothing left) (over_nothing right) left right ∙ ap₂ ◌||◌ (nothing_same left) (nothing_same right)

-- ---- the rewrite, and the pass

module _ (schema : Schema) where
  labels_same : (n : Node) (og : ℕ) (is : List ℕ)
      → try_collect {B = Marked Label} (λ i. column_label document_01 schema n i >>= λ l. Ok (l, og)) is ≡ Ok (map (λ (l : Label). (l, og)) (map (DefinedPlan.column_label schema n) is))
  labels_same n og [] = refl
  labels_same n og (i ∷ is) =
      ap₂ (λ (r : Run Label) (s : Run (List (Marked Label))). (r >>= λ l. Ok (l, og)) >>= λ x. s >>= λ xs. Ok (x ∷ xs)) (label_same schema n i) (labels_same n og is)

  emptied_or : (b : Bool) (n : Node) → cond b (nothing_of document_01 schema n) (Ok n) ≡ Ok (empty_or_node schema b n)
  emptied_or true n =
      ap (λ (r : Run (List (Marked Label))). r >>= λ ls. Ok (leaf (node_origin n) (nothing ls)))
      (ap (λ k. try_collect {B = Marked Label} (λ i. column_label document_01 schema n i >>= λ l. Ok (l, node_origin n)) (up_to 0 k)) (columns_same schema n)
      ∙ labels_same n (node_origin n) (up_to 0 (DefinedPlan.columns schema n)))
  emptied_or false n = refl

  pub short_circuit_same : (n : Node) → short_circuit document_01 schema n ≡ Ok (Optimizer.short_circuit schema n)
  short_circuit_same n =
      ap (λ m. cond (emptied m) (nothing_of document_01 schema m) (Ok m)) (useless_same schema n)
      ∙ (ap (λ b. cond b (nothing_of document_01 schema m) (Ok m)) (emptied_same m) ∙ emptied_or (Optimizer.is_empty m) m)
    where
      m : Node
      m = remove_useless schema n

  abbrev again : ℕ → Node → Run Node
  again = transform Ok (short_circuit document_01 schema)

  circuit_at : (k : ℕ) (n : Node) → nodes n ≤ k → again k n ≡ Ok (Optimizer.ShortCircuit schema n)
  circuit_at zero n h = absurd (let p = nodes_positive n in omega arith)
  circuit_at (suc k) (leaf og l) h = short_circuit_same (leaf og l)
  circuit_at (suc k) (over og o source) h =
      ap (λ (r : Run Node). r >>= (λ s. Ok (over og o s)) >>= short_circuit document_01 schema) (circuit_at k source (omega arith))
      ∙ short_circuit_same (over og o (Optimizer.ShortCircuit schema source))
  circuit_at (suc k) (join og outer j left right) h =
      ap₂ (λ (a b : Run Node). a >>= (λ l. b >>= λ r. Ok (join og outer j l r)) >>= short_circuit document_01 schema) (circuit_at k left (omega arith)) (circuit_at k right (omega arith))
      ∙ short_circuit_same (join og outer j (Optimizer.ShortCircuit schema left) (Optimizer.ShortCircuit schema right))

  pub circuit_same : (n : Node) → ShortCircuit document_01 schema n ≡ Ok (Optimizer.ShortCircuit schema n)
  circuit_same n = circuit_at (node_size n) n (nodes_cells n)
