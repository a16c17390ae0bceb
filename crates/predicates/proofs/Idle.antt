-- FilterPushdown, IndexLookup and HashJoin leave a plan as it is that has no predicate: they rewrite only Filters, Scans that have a filter and joins that have a
-- predicate.
use Prim.Native.Nat.{ℕ, zero, suc, ◌+◌, ◌≤◌}
use Rattle.std.proofs.Common.{arith, ◌∙◌, le-leb}
use Rattle.std.specs.Prelude.{Bool, true, false, ◌||◌, ◌≡◌}
use Rattle.std.proofs.Math.Path.{refl, ap}
use Rattle.std.proofs.Math.Option.{none, some}
use Rattle.sql.specs.Schema.{Schema}
use Rattle.sql.specs.Plan.{Leaf, scan, lookup, nothing, values, Over, filter, other, Join, nested_loop, hash, Node, leaf, over, join, leaf_size, over_size, join_size, node_size}
use Rattle.sql.specs.Answer.{Answer, done, ◌>>=◌}
use Rattle.sql.specs.Optimizer.{HashJoin}
use Rattle.sql.specs.Optimizer
use Rattle.sql.specs.Room
use Rattle.predicates.specs.Predicates.{leaf_has_filter, join_has_predicate, is_filter, has_predicate}

clash : {A : Type 0} → ◌≡◌ {A = Bool} true false → A
clash e = absurd (let z : ◌≡◌ {A = ℕ} 0 1 = cc in omega arith)

left_false : (a b : Bool) → a || b ≡ false → a ≡ false
left_false true b e = e
left_false false b e = refl

right_false : (a b : Bool) → a || b ≡ false → b ≡ false
right_false true b e = clash e
right_false false b e = e

module _ (room : ℕ) (schema : Schema) where
  fits : (rest : ℕ) (p : Node) → rest + node_size p ≤ room → Room.step room schema rest p ≡ done p
  fits rest p h = ap (λ (b : Bool). Room.if_room b p) (le-leb (rest + node_size p) room h)

  leaf_idle : (og rest : ℕ) (l : Leaf) → leaf_has_filter l ≡ false → rest + leaf_size l ≤ room → Room.index_lookup room schema og rest l ≡ done (leaf og l)
  unfolding Room.index_lookup Optimizer.index_lookup
  leaf_idle og rest (scan table alias none) e h = fits rest (leaf og (scan table alias none)) h
  leaf_idle og rest (scan table alias (some predicate)) e h = clash e
  leaf_idle og rest (lookup access table alias constants) e h = fits rest (leaf og (lookup access table alias constants)) h
  leaf_idle og rest (nothing labels) e h = fits rest (leaf og (nothing labels)) h
  leaf_idle og rest (values rows) e h = fits rest (leaf og (values rows)) h

  -- A plan without a predicate, for which there is room.
  pub lookup_idle : (rest : ℕ) (p : Node) → has_predicate p ≡ false → rest + node_size p ≤ room → Room.IndexLookup room schema rest p ≡ done p
  unfolding Room.IndexLookup
  lookup_idle rest (leaf og l) e h = leaf_idle og rest l e h
  lookup_idle rest (over og o source) e h =
      ap (λ (a : Answer Node). a >>= λ s. done (over og o s))
      (lookup_idle (rest + over_size o) source (left_false (has_predicate source) (is_filter o) e) (omega arith))
  lookup_idle rest (join og outer j left right) e h =
      let f = right_false (has_predicate left) (has_predicate right || join_has_predicate j) e in
      ap (λ (a : Answer Node). a >>= λ l. Room.IndexLookup room schema (rest + (node_size l + join_size j)) right >>= λ r. done (join og outer j l r))
      (lookup_idle (rest + (node_size right + join_size j)) left (left_false (has_predicate left) (has_predicate right || join_has_predicate j) e) (omega arith))
      ∙ ap (λ (a : Answer Node). a >>= λ r. done (join og outer j left r))
      (lookup_idle (rest + (node_size left + join_size j)) right (left_false (has_predicate right) (join_has_predicate j) f) (omega arith))

  -- ---- FilterPushdown

  sources_stay : (og : ℕ) (outer : Bool) (j : Join) (left right : Node) (f : ℕ → Node → Answer Node) (rest : ℕ) → f (rest + (node_size right + join_size j)) left ≡ done left
      → f (rest + (node_size left + join_size j)) right ≡ done right → Room.each_source room schema f rest (join og outer j left right) ≡ done (join og outer j left right)
  sources_stay og outer j left right f rest l r =
      ap (λ (a : Answer Node). a >>= λ m. f (rest + (node_size m + join_size j)) right >>= λ q. done (join og outer j m q)) l
      ∙ ap (λ (a : Answer Node). a >>= λ q. done (join og outer j left q)) r

  push_leaf : (n rest og : ℕ) (l : Leaf) → rest + leaf_size l ≤ room → Room.push_filters_from room schema n rest (leaf og l) ≡ done (leaf og l)
  unfolding Room.push_filters_from Room.maybe_push_filter Room.maybe_push_join Optimizer.maybe_push_join
  push_leaf zero rest og l h = refl
  push_leaf (suc n) rest og l h = ap (λ (a : Answer Node). a >>= Room.each_source room schema (Room.push_filters_from room schema n) rest) (fits rest (leaf og l) h)

  -- Below a node that stays, its sources stay.
  push_over : (n rest og : ℕ) (o : Over) (source : Node) → is_filter o ≡ false → rest + node_size (over og o source) ≤ room
      → ((k : ℕ) → Room.push_filters_from room schema k (rest + over_size o) source ≡ done source)
      → Room.push_filters_from room schema n rest (over og o source) ≡ done (over og o source)
  unfolding Room.push_filters_from Room.maybe_push_filter Room.maybe_push_join Optimizer.maybe_push_join
  push_over zero rest og o source e h below = refl
  push_over (suc n) rest og (filter predicate) source e h below = clash e
  push_over (suc n) rest og (other o) source e h below =
      ap (λ (a : Answer Node). a >>= Room.each_source room schema (Room.push_filters_from room schema n) rest) (fits rest (over og (other o) source) h)
      ∙ ap (λ (a : Answer Node). a >>= λ s. done (over og (other o) s)) (below n)

  push_join : (n rest og : ℕ) (outer : Bool) (j : Join) (left right : Node) → join_has_predicate j ≡ false → rest + node_size (join og outer j left right) ≤ room
      → ((k : ℕ) → Room.push_filters_from room schema k (rest + (node_size right + join_size j)) left ≡ done left)
      → ((k : ℕ) → Room.push_filters_from room schema k (rest + (node_size left + join_size j)) right ≡ done right)
      → Room.push_filters_from room schema n rest (join og outer j left right) ≡ done (join og outer j left right)
  unfolding Room.push_filters_from Room.maybe_push_filter Room.maybe_push_join Optimizer.maybe_push_join
  push_join zero rest og outer j left right e h f g = refl
  push_join (suc n) rest og outer (nested_loop (some predicate)) left right e h f g = clash e
  push_join (suc n) rest og outer (nested_loop none) left right e h f g =
      ap (λ (a : Answer Node). a >>= Room.each_source room schema (Room.push_filters_from room schema n) rest) (fits rest (join og outer (nested_loop none) left right) h)
      ∙ sources_stay og outer (nested_loop none) left right (Room.push_filters_from room schema n) rest (f n) (g n)
  push_join (suc n) rest og outer (hash a b) left right e h f g =
      ap (λ (a : Answer Node). a >>= Room.each_source room schema (Room.push_filters_from room schema n) rest) (fits rest (join og outer (hash a b) left right) h)
      ∙ sources_stay og outer (hash a b) left right (Room.push_filters_from room schema n) rest (f n) (g n)

  push_idle_from : (n rest : ℕ) (p : Node) → has_predicate p ≡ false → rest + node_size p ≤ room → Room.push_filters_from room schema n rest p ≡ done p
  push_idle_from n rest (leaf og l) e h = push_leaf n rest og l h
  push_idle_from n rest (over og o source) e h =
      push_over n rest og o source (right_false (has_predicate source) (is_filter o) e) h
      (λ k. push_idle_from k (rest + over_size o) source (left_false (has_predicate source) (is_filter o) e) (omega arith))
  push_idle_from n rest (join og outer j left right) e h =
      let f = right_false (has_predicate left) (has_predicate right || join_has_predicate j) e in
      push_join n rest og outer j left right (right_false (has_predicate right) (join_has_predicate j) f) h
      (λ k. push_idle_from k (rest + (node_size right + join_size j)) left (left_false (has_predicate left) (has_predicate right || join_has_predicate j) e) (omega arith))
      (λ k. push_idle_from k (rest + (node_size left + join_size j)) right (left_false (has_predicate right) (join_has_predicate j) f) (omega arith))

  -- A plan without a predicate, for which there is room.
  pub push_idle : (rest : ℕ) (p : Node) → has_predicate p ≡ false → rest + node_size p ≤ room → Room.FilterPushdown room schema rest p ≡ done p
  unfolding Room.FilterPushdown
  push_idle rest p e h = push_idle_from (node_size p) rest p e h

-- ---- HashJoin

join_idle : (schema : Schema) (og : ℕ) (outer : Bool) (j : Join) → join_has_predicate j ≡ false → (left right left' right' : Node) → left' ≡ left → right' ≡ right
    → join og outer (Optimizer.hash_join (Rattle.sql.specs.Plan.columns schema left) j) left' right' ≡ join og outer j left right
join_idle schema og outer (nested_loop none) e left right left' right' l r = cc
join_idle schema og outer (nested_loop (some predicate)) e left right left' right' l r = clash e
join_idle schema og outer (hash left_column right_column) e left right left' right' l r = cc

-- A plan without a predicate.
pub hash_idle : (schema : Schema) (p : Node) → has_predicate p ≡ false → HashJoin schema p ≡ p
hash_idle schema (leaf og l) e = refl
hash_idle schema (over og o source) e = ap (over og o) (hash_idle schema source (left_false (has_predicate source) (is_filter o) e))
hash_idle schema (join og outer j left right) e =
    let f = right_false (has_predicate left) (has_predicate right || join_has_predicate j) e in
    join_idle schema og outer j (right_false (has_predicate right) (join_has_predicate j) f) left right (HashJoin schema left) (HashJoin schema right)
    (hash_idle schema left (left_false (has_predicate left) (has_predicate right || join_has_predicate j) e))
    (hash_idle schema right (left_false (has_predicate right) (join_has_predicate j) f))
