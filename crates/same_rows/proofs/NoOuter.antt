-- Passes 2 to 5 make no join outer.
use Prim.Native.Nat.{ℕ, zero, suc}
use Rattle.std.specs.Prelude.{Bool, true, false, ◌&&◌, cond, ◌≡◌, List}
use Rattle.std.proofs.Math.Bool.{not}
use Rattle.std.proofs.Math.Path.{refl, ap₂}
use Rattle.std.proofs.Common.{sym, ap, ◌∙◌, arith}
use Rattle.std.proofs.Math.Option.{Option, none, some}
use Rattle.sql.specs.Schema.{Schema}
use Rattle.sql.specs.Expression.{Expression, and_vec, shift_column_down, into_cnf_vec, into_column_values}
use Rattle.sql.specs.Plan.{Leaf, scan, lookup, nothing, values, limit, offset, order, projection, remap, aggregate, Over, filter, other, nested_loop, hash, Node, leaf, over, join, columns, node_size}
use Rattle.sql.specs.Optimizer.{map_sources, push_into, push_part, pushed_or_back, push_left, push_right, map_optional, split, go_on, maybe_push_join, maybe_push_filter, push_filters, push_filters_from, FilterPushdown, Found, filtered, access, find_lookup, lookup_or_scan, index_lookup, IndexLookup, HashJoin, verdict, is_always, is_noop, is_empty, remove_useless, empty_or_node, short_circuit, ShortCircuit}
use Rattle.rows.specs.Premises.{no_outer}
use Rattle.same_rows.proofs.Booleans.{and_left, and_right}

no_node : {A : Type 0} (n : Node) → ◌≡◌ {A = Option Node} none (some n) → A
no_node n h = absurd (let y : ◌≡◌ {A = ℕ} 0 1 = cc in omega arith)

node_same : {a b : Node} → ◌≡◌ {A = Option Node} (some a) (some b) → a ≡ b
node_same h = cc

into : (new : ℕ) (e : Expression) (n m : Node) → push_into new e n ≡ some m → no_outer m ≡ no_outer n
into new e (leaf og (scan table alias p)) m h = ap no_outer (sym (node_same h))
into new e (leaf og (lookup access table alias constants)) m h = no_node m h
into new e (leaf og (nothing labels)) m h = no_node m h
into new e (leaf og (values rows)) m h = no_node m h
into new e (over og (filter p) source) m h = ap no_outer (sym (node_same h))
into new e (over og (other o) source) m h = no_node m h
into new e (join og outer (nested_loop p) left right) m h = ap no_outer (sym (node_same h))
into new e (join og outer (hash a b) left right) m h = no_node m h

part : (new : ℕ) (p : Option Expression) (n : Node) → no_outer (push_part new p n).0 ≡ no_outer n
part new none n = refl
part new (some e) n = go (push_into new e n) refl
  where
    go : (o : Option Node) → push_into new e n ≡ o → no_outer (pushed_or_back e n o).0 ≡ no_outer n
    go none h = refl
    go (some m) h = into new e n m h

module _ (schema : Schema) where
  a_join : (n : Node) → no_outer (maybe_push_join schema n) ≡ no_outer n
  unfolding maybe_push_join
  a_join (leaf og l) = refl
  a_join (over og o source) = refl
  a_join (join og outer (nested_loop none) left right) = refl
  a_join (join og outer (nested_loop (some p)) left right) =
      let n = columns schema left in
      let cnf = into_cnf_vec p in
      ap₂ (λ x y. not outer && (x && y)) (part og (and_vec og (push_left n cnf)) left) (part og (map_optional (shift_column_down n) (and_vec og (push_right n cnf))) right)
  a_join (join og outer (hash a b) left right) = refl

  a_filter : (k : ℕ) (n : Node) → no_outer (maybe_push_filter schema k n) ≡ no_outer n
  unfolding maybe_push_filter
  a_filter zero n = refl
  a_filter (suc k) (leaf og l) = refl
  a_filter (suc k) (over og (filter p) source) = go (push_into og p source) refl (a_filter k)
    where
      on : Node → Node
      on pushed = maybe_push_join schema (maybe_push_filter schema k pushed)

      go : (o : Option Node) → push_into og p source ≡ o → ((n : Node) → no_outer (maybe_push_filter schema k n) ≡ no_outer n)
          → no_outer (go_on on (over og (filter p) source) o) ≡ no_outer source
      go none h ih = refl
      go (some pushed) h ih = a_join (maybe_push_filter schema k pushed) ∙ (ih pushed ∙ into og p source pushed h)
  a_filter (suc k) (over og (other o) source) = refl
  a_filter (suc k) (join og outer j left right) = refl

  sources : (f : Node → Node) → ((n : Node) → no_outer (f n) ≡ no_outer n) → (n : Node) → no_outer (map_sources f n) ≡ no_outer n
  sources f h (leaf og l) = refl
  sources f h (over og o source) = h source
  sources f h (join og outer j left right) = ap₂ (λ x y. not outer && (x && y)) (h left) (h right)

  from : (k : ℕ) (n : Node) → no_outer (push_filters_from schema k n) ≡ no_outer n
  unfolding push_filters_from
  from zero n = refl
  from (suc k) n = sources (push_filters_from schema k) (from k) (push_filters schema (suc k) n) ∙ (a_join (maybe_push_filter schema (suc k) n) ∙ a_filter (suc k) n)

  pub pushdown_no_outer : (n : Node) → no_outer (FilterPushdown schema n) ≡ no_outer n
  unfolding FilterPushdown
  pushdown_no_outer n = from (node_size n) n

  a_filtered : (og : ℕ) (o : Option Expression) (n : Node) → no_outer (filtered og o n) ≡ no_outer n
  a_filtered og none n = refl
  a_filtered og (some p) n = refl

  a_lookup : (og table : ℕ) (alias : Option ℕ) (p : Expression) (o : Option Found) → no_outer (lookup_or_scan schema table og alias p o) ≡ true
  a_lookup og table alias p none = refl
  a_lookup og table alias p (some f) = a_filtered og (and_vec og f.remaining) (leaf og (lookup (access schema table f.column_number) table alias (into_column_values f.conjunct)))

  a_leaf : (og : ℕ) (l : Leaf) → no_outer (index_lookup schema og l) ≡ true
  unfolding index_lookup
  a_leaf og (scan table alias none) = refl
  a_leaf og (scan table alias (some p)) = a_lookup og table alias p (find_lookup schema table (into_cnf_vec p))
  a_leaf og (lookup access table alias constants) = refl
  a_leaf og (nothing labels) = refl
  a_leaf og (values rows) = refl

  pub lookup_no_outer : (n : Node) → no_outer (IndexLookup schema n) ≡ no_outer n
  unfolding IndexLookup
  lookup_no_outer (leaf og l) = a_leaf og l
  lookup_no_outer (over og o source) = lookup_no_outer source
  lookup_no_outer (join og outer j left right) = ap₂ (λ x y. not outer && (x && y)) (lookup_no_outer left) (lookup_no_outer right)

  pub hash_no_outer : (n : Node) → no_outer (HashJoin schema n) ≡ no_outer n
  hash_no_outer (leaf og l) = refl
  hash_no_outer (over og o source) = hash_no_outer source
  hash_no_outer (join og outer j left right) = ap₂ (λ x y. not outer && (x && y)) (hash_no_outer left) (hash_no_outer right)

  either : (b : Bool) (og : ℕ) (o : Over) (source : Node) → no_outer (cond b source (over og o source)) ≡ no_outer source
  either true og o source = refl
  either false og o source = refl

  useless : (n : Node) → no_outer (remove_useless schema n) ≡ no_outer n
  useless (leaf og (scan table alias p)) = refl
  useless (leaf og (lookup access table alias constants)) = refl
  useless (leaf og (nothing labels)) = refl
  useless (leaf og (values rows)) = refl
  useless (over og (filter p) source) = either (is_always (verdict p)) og (filter p) source
  useless (over og (other (limit amount)) source) = refl
  useless (over og (other (offset amount)) source) = refl
  useless (over og (other (order key)) source) = refl
  useless (over og (other (projection items)) source) = either (is_noop schema items source) og (other (projection items)) source
  useless (over og (other (remap targets)) source) = refl
  useless (over og (other (aggregate group_by aggregates)) source) = refl
  useless (join og outer (nested_loop p) left right) = refl
  useless (join og outer (hash a b) left right) = refl

  emptied : (b : Bool) (n : Node) → no_outer n ≡ true → no_outer (empty_or_node schema b n) ≡ true
  emptied true n h = refl
  emptied false n h = h

  one : (n : Node) → no_outer n ≡ true → no_outer (short_circuit schema n) ≡ true
  one n h = emptied (is_empty (remove_useless schema n)) (remove_useless schema n) (useless n ∙ h)

  pub circuit_no_outer : (n : Node) → no_outer n ≡ true → no_outer (ShortCircuit schema n) ≡ true
  circuit_no_outer (leaf og l) h = one (leaf og l) h
  circuit_no_outer (over og o source) h = one (over og o (ShortCircuit schema source)) (circuit_no_outer source h)
  circuit_no_outer (join og true j left right) h = one (join og true j (ShortCircuit schema left) (ShortCircuit schema right)) h
  circuit_no_outer (join og false j left right) h = one (join og false j (ShortCircuit schema left) (ShortCircuit schema right))
      (ap₂ ◌&&◌ (circuit_no_outer left (and_left (no_outer left) (no_outer right) h)) (circuit_no_outer right (and_right (no_outer left) (no_outer right) h)))
