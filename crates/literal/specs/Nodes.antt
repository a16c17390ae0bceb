-- The recursion of FilterPushdown. Crate sql bounds it by the number of cells; that is enough, since pushing makes no more nodes: a node is pushed, then the sources of
-- what it became are gone into, as the Rust's `transform` goes (pushdown_literal).
use Prim.Native.Nat.{ℕ, zero, suc, ◌+◌, ◌≤◌}
use Rattle.std.specs.Prelude.{◌≡◌}
use Rattle.std.proofs.Math.Path.{refl, sym, ap, ap₂}
use Rattle.std.proofs.Common.{◌∙◌}
use Rattle.std.proofs.Math.Option.{Option, none, some}
use native.Mathlib.Omega.{arith}
use Rattle.sql.specs.Schema.{Schema}
use Rattle.sql.specs.Expression.{Expression, and_vec, shift_column_down, into_cnf_vec}
use Rattle.sql.specs.Plan.{Leaf, scan, lookup, nothing, values, limit, offset, order, projection, remap, aggregate, Over, filter, other, Join, nested_loop, hash, Node, leaf, over, join, columns, leaf_size, over_size, join_size, node_size}
use Rattle.sql.specs.Optimizer.{map_sources, push_into, push_part, pushed_or_back, push_left, push_right, map_optional, go_on, maybe_push_join, maybe_push_filter, push_filters, push_filters_from, FilterPushdown}

abbrev pub nodes : Node → ℕ
nodes (leaf og l) = 1
nodes (over og o source) = suc (nodes source)
nodes (join og outer j left right) = suc (nodes left + nodes right)

pub nodes_positive : (n : Node) → 1 ≤ nodes n
nodes_positive (leaf og l) = omega arith
nodes_positive (over og o source) = omega arith
nodes_positive (join og outer j left right) = omega arith

-- ---- a plan has no more nodes than cells

pub leaf_positive : (l : Leaf) → 1 ≤ leaf_size l
leaf_positive (scan table alias p) = omega arith
leaf_positive (lookup by table alias constants) = omega arith
leaf_positive (nothing labels) = omega arith
leaf_positive (values rows) = omega arith

pub over_positive : (o : Over) → 1 ≤ over_size o
over_positive (filter p) = omega arith
over_positive (other (limit amount)) = omega arith
over_positive (other (offset amount)) = omega arith
over_positive (other (order key)) = omega arith
over_positive (other (projection items)) = omega arith
over_positive (other (remap targets)) = omega arith
over_positive (other (aggregate group_by aggregates)) = omega arith

pub join_positive : (j : Join) → 1 ≤ join_size j
join_positive (nested_loop p) = omega arith
join_positive (hash a b) = omega arith

pub nodes_cells : (n : Node) → nodes n ≤ node_size n
nodes_cells (leaf og l) = leaf_positive l
nodes_cells (over og o source) = let h = nodes_cells source in let p = over_positive o in omega arith
nodes_cells (join og outer j left right) = let h = nodes_cells left in let k = nodes_cells right in let p = join_positive j in omega arith

-- ---- FilterPushdown: pushing makes no more nodes

no_node : {A : Type 0} {n : Node} → ◌≡◌ {A = Option Node} none (some n) → A
no_node h = absurd (let y : ◌≡◌ {A = ℕ} 0 1 = cc in omega arith)

some_node : {a b : Node} → ◌≡◌ {A = Option Node} (some a) (some b) → a ≡ b
some_node h = cc

pub nodes_into : (new : ℕ) (e : Expression) (n m : Node) → push_into new e n ≡ some m → nodes m ≡ nodes n
nodes_into new e (leaf og (scan table alias p)) m h = ap nodes (sym (some_node h))
nodes_into new e (leaf og (lookup by table alias constants)) m h = no_node h
nodes_into new e (leaf og (nothing labels)) m h = no_node h
nodes_into new e (leaf og (values rows)) m h = no_node h
nodes_into new e (over og (filter p) source) m h = ap nodes (sym (some_node h))
nodes_into new e (over og (other o) source) m h = no_node h
nodes_into new e (join og outer (nested_loop p) left right) m h = ap nodes (sym (some_node h))
nodes_into new e (join og outer (hash a b) left right) m h = no_node h

nodes_part : (new : ℕ) (p : Option Expression) (n : Node) → nodes (push_part new p n).0 ≡ nodes n
nodes_part new none n = refl
nodes_part new (some e) n = go (push_into new e n) refl
  where
    go : (o : Option Node) → push_into new e n ≡ o → nodes (pushed_or_back e n o).0 ≡ nodes n
    go none h = refl
    go (some m) h = nodes_into new e n m h

module _ (schema : Schema) where
  nodes_join : (n : Node) → nodes (maybe_push_join schema n) ≡ nodes n
  unfolding maybe_push_join
  nodes_join (leaf og l) = refl
  nodes_join (over og o source) = refl
  nodes_join (join og outer (nested_loop none) left right) = refl
  nodes_join (join og outer (nested_loop (some p)) left right) =
      let n = columns schema left in
      let cnf = into_cnf_vec p in
      ap₂ (λ x y. suc (x + y)) (nodes_part og (and_vec og (push_left n cnf)) left) (nodes_part og (map_optional (shift_column_down n) (and_vec og (push_right n cnf))) right)
  nodes_join (join og outer (hash a b) left right) = refl

  nodes_filter : (k : ℕ) (n : Node) → nodes (maybe_push_filter schema k n) ≤ nodes n
  unfolding maybe_push_filter
  nodes_filter zero n = omega arith
  nodes_filter (suc k) (leaf og l) = omega arith
  nodes_filter (suc k) (over og (filter p) source) = go (push_into og p source) refl (nodes_filter k)
    where
      on : Node → Node
      on pushed = maybe_push_join schema (maybe_push_filter schema k pushed)

      go : (o : Option Node) → push_into og p source ≡ o → ((n : Node) → nodes (maybe_push_filter schema k n) ≤ nodes n) → nodes (go_on on (over og (filter p) source) o) ≤ suc (nodes source)
      go none h below = omega arith
      go (some pushed) h below =
          let a = nodes_join (maybe_push_filter schema k pushed) in
          let b = below pushed in
          let c = nodes_into og p source pushed h in
          omega arith
  nodes_filter (suc k) (over og (other o) source) = omega arith
  nodes_filter (suc k) (join og outer j left right) = omega arith

  pub nodes_push : (k : ℕ) (n : Node) → nodes (push_filters schema k n) ≤ nodes n
  nodes_push k n = let a = nodes_join (maybe_push_filter schema k n) in let b = nodes_filter k n in omega arith

  -- Two bounds that are high enough give the same.
  filter_enough : (k j : ℕ) (n : Node) → nodes n ≤ k → nodes n ≤ j → maybe_push_filter schema k n ≡ maybe_push_filter schema j n
  unfolding maybe_push_filter
  filter_enough zero j n h i = absurd (let p = nodes_positive n in omega arith)
  filter_enough (suc k) zero n h i = absurd (let p = nodes_positive n in omega arith)
  filter_enough (suc k) (suc j) (leaf og l) h i = refl
  filter_enough (suc k) (suc j) (over og (filter p) source) h i = go (push_into og p source) refl (filter_enough k j)
    where
      go : (o : Option Node) → push_into og p source ≡ o
          → ((n : Node) → nodes n ≤ k → nodes n ≤ j → maybe_push_filter schema k n ≡ maybe_push_filter schema j n)
          → go_on (λ pushed. maybe_push_join schema (maybe_push_filter schema k pushed)) (over og (filter p) source) o
          ≡ go_on (λ pushed. maybe_push_join schema (maybe_push_filter schema j pushed)) (over og (filter p) source) o
      go none e below = refl
      go (some pushed) e below = let c = nodes_into og p source pushed e in ap (maybe_push_join schema) (below pushed (omega arith) (omega arith))
  filter_enough (suc k) (suc j) (over og (other o) source) h i = refl
  filter_enough (suc k) (suc j) (join og outer q left right) h i = refl

  -- push_filters, without a bound
  abbrev pub push_filters_of : Node → Node
  push_filters_of n = push_filters schema (node_size n) n

  pub push_enough : (k : ℕ) (n : Node) → nodes n ≤ k → push_filters schema k n ≡ push_filters_of n
  push_enough k n h = ap (maybe_push_join schema) (filter_enough k (node_size n) n h (nodes_cells n))

-- what two functions do to plans with few nodes, they do to the sources of plans with one more
sources_same : (f g : Node → Node) (j : ℕ) → ((n : Node) → nodes n ≤ j → f n ≡ g n) → (n : Node) → nodes n ≤ suc j → map_sources f n ≡ map_sources g n
sources_same f g j h (leaf og l) b = refl
sources_same f g j h (over og o source) b = ap (over og o) (h source (omega arith))
sources_same f g j h (join og outer q left right) b = ap₂ (join og outer q) (h left (omega arith)) (h right (omega arith))

module _ (schema : Schema) where
  from_enough : (k j : ℕ) (n : Node) → nodes n ≤ k → nodes n ≤ j → push_filters_from schema k n ≡ push_filters_from schema j n
  unfolding push_filters_from
  from_enough zero j n h i = absurd (let p = nodes_positive n in omega arith)
  from_enough (suc k) zero n h i = absurd (let p = nodes_positive n in omega arith)
  from_enough (suc k) (suc j) n h i =
      ap (map_sources (push_filters_from schema k)) (push_enough schema (suc k) n h ∙ sym (push_enough schema (suc j) n i))
      ∙ go (nodes (push_filters schema (suc j) n)) refl (from_enough k j)
    where
      pushed : Node
      pushed = push_filters schema (suc j) n

      go : (s : ℕ) → nodes pushed ≡ s → ((m : Node) → nodes m ≤ k → nodes m ≤ j → push_filters_from schema k m ≡ push_filters_from schema j m)
          → map_sources (push_filters_from schema k) pushed ≡ map_sources (push_filters_from schema j) pushed
      go zero e below = absurd (let p = nodes_positive pushed in omega arith)
      go (suc s) e below = let q = nodes_push schema (suc j) n in
          sources_same (push_filters_from schema k) (push_filters_from schema j) s (λ m b. below m (omega arith) (omega arith)) pushed (omega arith)

  pushdown_at : (k : ℕ) (n : Node) → node_size n ≡ k → push_filters_from schema k n ≡ map_sources (FilterPushdown schema) (push_filters_of schema n)
  unfolding push_filters_from FilterPushdown
  pushdown_at zero n e = absurd (let p = nodes_positive n in let q = nodes_cells n in omega arith)
  pushdown_at (suc k) n e =
      ap (map_sources (push_filters_from schema k)) (ap (λ z. push_filters schema z n) (sym e))
      ∙ go (nodes (push_filters_of schema n)) refl
    where
      go : (s : ℕ) → nodes (push_filters_of schema n) ≡ s
          → map_sources (push_filters_from schema k) (push_filters_of schema n) ≡ map_sources (λ m. push_filters_from schema (node_size m) m) (push_filters_of schema n)
      go zero i = absurd (let p = nodes_positive (push_filters_of schema n) in omega arith)
      go (suc s) i =
          let q = nodes_push schema (node_size n) n in let c = nodes_cells n in
          sources_same (push_filters_from schema k) (λ m. push_filters_from schema (node_size m) m) s
          (λ m b. from_enough k (node_size m) m (omega arith) (nodes_cells m)) (push_filters_of schema n) (omega arith)

  -- A node is pushed, then the sources of what it became are gone into.
  pub pushdown_literal : (n : Node) → FilterPushdown schema n ≡ map_sources (FilterPushdown schema) (push_filters_of schema n)
  unfolding FilterPushdown
  pushdown_literal n = pushdown_at (node_size n) n refl
