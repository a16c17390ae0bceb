-- The bounds on the recursion of FilterPushdown with room are high enough too: one that is higher gives the same plan or the same refusal.
use Prim.Native.Nat.{ℕ, zero, suc, ◌+◌, ◌≤◌}
use Rattle.std.specs.Prelude.{◌≡◌}
use Rattle.std.proofs.Math.Path.{refl, ap}
use Rattle.std.proofs.Common.{sym, ◌∙◌}
use Rattle.std.proofs.Math.Option.{Option, none, some}
use native.Mathlib.Omega.{arith}
use Rattle.sql.specs.Schema.{Schema}
use Rattle.sql.specs.Plan.{Over, filter, other, Node, leaf, over, join, over_size, join_size, node_size}
use Rattle.sql.specs.Answer.{Answer, done, refused, ◌>>=◌}
use Rattle.sql.specs.Optimizer.{push_into}
use Rattle.sql.specs.Optimizer
use Rattle.sql.specs.Room.{go_on}
use Rattle.sql.specs.Room
use Rattle.room.specs.Done.{After, after}
use Rattle.room.specs.Same.{step_same, push_same}
use Rattle.literal.specs.Nodes.{nodes, nodes_positive, nodes_cells, nodes_into, nodes_push}

same_after : {A B : Type 0} (r : Answer A) (f g : A → Answer B) → ((a : A) → r ≡ done a → f a ≡ g a) → (r >>= f) ≡ (r >>= g)
same_after (done a) f g h = h a refl
same_after (refused number place) f g h = refl

module _ (room : ℕ) (schema : Schema) where
  filter_enough : (k j rest : ℕ) (n : Node) → nodes n ≤ k → nodes n ≤ j → Room.maybe_push_filter room schema k rest n ≡ Room.maybe_push_filter room schema j rest n
  unfolding Room.maybe_push_filter
  filter_enough zero j rest n h i = absurd (let p = nodes_positive n in omega arith)
  filter_enough (suc k) zero rest n h i = absurd (let p = nodes_positive n in omega arith)
  filter_enough (suc k) (suc j) rest (leaf og l) h i = refl
  filter_enough (suc k) (suc j) rest (over og (filter p) source) h i = go (push_into og p source) refl (filter_enough k j rest)
    where
      on : ℕ → Node → Answer Node
      on m pushed = Room.step room schema rest pushed >>= Room.maybe_push_filter room schema m rest >>= Room.maybe_push_join room schema rest

      go : (o : Option Node) → push_into og p source ≡ o
          → ((n : Node) → nodes n ≤ k → nodes n ≤ j → Room.maybe_push_filter room schema k rest n ≡ Room.maybe_push_filter room schema j rest n)
          → go_on (on k) (over og (filter p) source) o ≡ go_on (on j) (over og (filter p) source) o
      go none e below = refl
      go (some pushed) e below =
          let c = nodes_into og p source pushed e in
          ap (λ z. z >>= Room.maybe_push_join room schema rest)
          (same_after (Room.step room schema rest pushed) (Room.maybe_push_filter room schema k rest) (Room.maybe_push_filter room schema j rest)
          (λ a s. let q : nodes pushed ≡ nodes a = ap nodes (step_same room schema rest pushed a s) in below a (omega arith) (omega arith)))
  filter_enough (suc k) (suc j) rest (over og (other o) source) h i = refl
  filter_enough (suc k) (suc j) rest (join og outer q left right) h i = refl

  sources_same : (f g : ℕ → Node → Answer Node) (j : ℕ) → ((rest : ℕ) (n : Node) → nodes n ≤ j → f rest n ≡ g rest n)
      → (rest : ℕ) (n : Node) → nodes n ≤ suc j → Room.each_source room schema f rest n ≡ Room.each_source room schema g rest n
  sources_same f g j h rest (leaf og l) b = refl
  sources_same f g j h rest (over og o source) b = ap (λ z. z >>= λ s. done (over og o s)) (h (rest + over_size o) source (omega arith))
  sources_same f g j h rest (join og outer q left right) b =
      ap (λ z. z >>= λ l. f (rest + (node_size l + join_size q)) right >>= λ r. done (join og outer q l r)) (h (rest + (node_size right + join_size q)) left (omega arith))
      ∙ same_after (g (rest + (node_size right + join_size q)) left)
      (λ l. f (rest + (node_size l + join_size q)) right >>= λ r. done (join og outer q l r))
      (λ l. g (rest + (node_size l + join_size q)) right >>= λ r. done (join og outer q l r))
      (λ l e. ap (λ z. z >>= λ r. done (join og outer q l r)) (h (rest + (node_size l + join_size q)) right (omega arith)))

  from_enough : (k j rest : ℕ) (n : Node) → nodes n ≤ k → nodes n ≤ j → Room.push_filters_from room schema k rest n ≡ Room.push_filters_from room schema j rest n
  unfolding Room.push_filters_from
  from_enough zero j rest n h i = absurd (let p = nodes_positive n in omega arith)
  from_enough (suc k) zero rest n h i = absurd (let p = nodes_positive n in omega arith)
  from_enough (suc k) (suc j) rest n h i =
      ap (λ z. z >>= Room.maybe_push_join room schema rest >>= Room.each_source room schema (Room.push_filters_from room schema k) rest) (filter_enough (suc k) (suc j) rest n h i)
      ∙ same_after (Room.push_filters room schema (suc j) rest n)
      (Room.each_source room schema (Room.push_filters_from room schema k) rest) (Room.each_source room schema (Room.push_filters_from room schema j) rest)
      (λ m e. go m (pushed_nodes m e) (nodes m) refl (from_enough k j))
    where
      pushed_nodes : (m : Node) → Room.push_filters room schema (suc j) rest n ≡ done m → nodes m ≤ nodes n
      pushed_nodes m e = let q = nodes_push schema (suc j) n in
          let z : nodes (Optimizer.push_filters schema (suc j) n) ≡ nodes m = ap nodes (push_same room schema (suc j) rest n m e) in omega arith

      go : (m : Node) → nodes m ≤ nodes n → (s : ℕ) → nodes m ≡ s
          → ((r : ℕ) (a : Node) → nodes a ≤ k → nodes a ≤ j → Room.push_filters_from room schema k r a ≡ Room.push_filters_from room schema j r a)
          → Room.each_source room schema (Room.push_filters_from room schema k) rest m ≡ Room.each_source room schema (Room.push_filters_from room schema j) rest m
      go m b zero e below = absurd (let p = nodes_positive m in omega arith)
      go m b (suc s) e below =
          sources_same (Room.push_filters_from room schema k) (Room.push_filters_from room schema j) s (λ r a q. below r a (omega arith) (omega arith)) rest m (omega arith)

  -- Every bound that is no lower than the number of nodes gives what FilterPushdown gives.
  pub pushdown_bound : (k rest : ℕ) (n : Node) → nodes n ≤ k → Room.push_filters_from room schema k rest n ≡ Room.FilterPushdown room schema rest n
  unfolding Room.FilterPushdown
  pushdown_bound k rest n h = from_enough k (node_size n) rest n h (nodes_cells n)
