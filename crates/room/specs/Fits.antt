-- A plan that has room has it after each pass that is not refused.
use Prim.Native.Nat.{ℕ, zero, suc, ◌+◌, ◌≤◌, ◌<◌}
use Rattle.std.specs.Prelude.{Bool, true, false, ◌≡◌, refl, T, leb}
use Rattle.std.proofs.Math.Option.{Option, none, some}
use Rattle.std.proofs.Common.{sym, ◌∙◌, subst, leb→le}
use Rattle.std.proofs.Math.Path.{ap}
use native.Mathlib.Omega.{arith}
use Rattle.sql.specs.Schema.{Schema}
use Rattle.sql.specs.Plan.{Leaf, Over, filter, other, Node, leaf, over, join, over_size, join_size, node_size}
use Rattle.sql.specs.Answer.{Answer, done, refused, ◌>>=◌}
use Rattle.sql.specs.Optimizer.{push_into}
use Rattle.sql.specs.Optimizer as Optimizer
use Rattle.sql.specs.Room.{if_room, join_predicate, scan_filter, go_on}
use Rattle.sql.specs.Room
use Rattle.room.specs.Done.{not_done, done_same, After, after}
use Rattle.room.specs.Six.{Six, six}
use Rattle.room.specs.Smaller.{folding_smaller, hash_smaller}

module _ (room : ℕ) (schema : Schema) where
  pub step_fits : (rest : ℕ) (n m : Node) → Room.step room schema rest n ≡ done m → rest + node_size m ≤ room
  step_fits rest n m h = go (leb (rest + node_size n) room) refl h
    where
      go : (b : Bool) → leb (rest + node_size n) room ≡ b → if_room b n ≡ done m → rest + node_size m ≤ room
      go true e k = let p = leb→le (rest + node_size n) room (subst T (sym e) tt) in let z : node_size n ≡ node_size m = ap node_size (done_same k) in omega arith
      go false e k = not_done k

  -- rest and the node fit, before and after
  abbrev Keeps : (ℕ → Node → Answer Node) → Type 0
  Keeps f = (rest : ℕ) (n m : Node) → f rest n ≡ done m → rest + node_size n ≤ room → rest + node_size m ≤ room

  join_fits : (rest : ℕ) (n m : Node) → Room.maybe_push_join room schema rest n ≡ done m → rest + node_size m ≤ room
  unfolding Room.maybe_push_join
  join_fits rest n m h =
      let a = after (if_room (Room.normal_forms_fit room schema (join_predicate n)) n) (λ k. Room.step room schema rest (Optimizer.maybe_push_join schema k)) m h in
      step_fits rest (Optimizer.maybe_push_join schema a.of) m a.second

  filter_fits : (k : ℕ) → Keeps (Room.maybe_push_filter room schema k)
  unfolding Room.maybe_push_filter
  filter_fits zero rest n m h i = let z : node_size n ≡ node_size m = ap node_size (done_same h) in omega arith
  filter_fits (suc k) rest (leaf og l) m h i = let z : node_size (leaf og l) ≡ node_size m = ap node_size (done_same h) in omega arith
  filter_fits (suc k) rest (over og (filter p) source) m h i = go (push_into og p source) h
    where
      on : Node → Answer Node
      on pushed = Room.step room schema rest pushed >>= Room.maybe_push_filter room schema k rest >>= Room.maybe_push_join room schema rest

      go : (o : Option Node) → go_on on (over og (filter p) source) o ≡ done m → rest + node_size m ≤ room
      go none j = let z : node_size (over og (filter p) source) ≡ node_size m = ap node_size (done_same j) in omega arith
      go (some pushed) j =
          let a = after (Room.step room schema rest pushed >>= Room.maybe_push_filter room schema k rest) (Room.maybe_push_join room schema rest) m j in
          join_fits rest a.of m a.second
  filter_fits (suc k) rest (over og (other o) source) m h i = let z : node_size (over og (other o) source) ≡ node_size m = ap node_size (done_same h) in omega arith
  filter_fits (suc k) rest (join og outer j left right) m h i = let z : node_size (join og outer j left right) ≡ node_size m = ap node_size (done_same h) in omega arith

  sources_fit : (f : ℕ → Node → Answer Node) → Keeps f → Keeps (Room.each_source room schema f)
  sources_fit f k rest (leaf og l) m h i = let z : node_size (leaf og l) ≡ node_size m = ap node_size (done_same h) in omega arith
  sources_fit f k rest (over og o source) m h i =
      let a = after (f (rest + over_size o) source) (λ s. done (over og o s)) m h in
      let p = k (rest + over_size o) source a.of a.first (omega arith) in
      let z : node_size a.of + over_size o ≡ node_size m = ap node_size (done_same a.second) in
      omega arith
  sources_fit f k rest (join og outer j left right) m h i =
      let a = after (f (rest + (node_size right + join_size j)) left) (λ l. f (rest + (node_size l + join_size j)) right >>= λ r. done (join og outer j l r)) m h in
      let b = after (f (rest + (node_size a.of + join_size j)) right) (λ r. done (join og outer j a.of r)) m a.second in
      let p = k (rest + (node_size right + join_size j)) left a.of a.first (omega arith) in
      let q = k (rest + (node_size a.of + join_size j)) right b.of b.first (omega arith) in
      let z : node_size a.of + node_size b.of + join_size j ≡ node_size m = ap node_size (done_same b.second) in
      omega arith

  from_fits : (k : ℕ) → Keeps (Room.push_filters_from room schema k)
  unfolding Room.push_filters_from
  from_fits zero rest n m h i = let z : node_size n ≡ node_size m = ap node_size (done_same h) in omega arith
  from_fits (suc k) rest n m h i =
      let a = after (Room.push_filters room schema (suc k) rest n) (Room.each_source room schema (Room.push_filters_from room schema k) rest) m h in
      let b = after (Room.maybe_push_filter room schema (suc k) rest n) (Room.maybe_push_join room schema rest) a.of a.first in
      sources_fit (Room.push_filters_from room schema k) (from_fits k) rest a.of m a.second (join_fits rest b.of a.of b.second)

  pub pushdown_fits : Keeps (Room.FilterPushdown room schema)
  unfolding Room.FilterPushdown
  pushdown_fits rest n m h i = from_fits (node_size n) rest n m h i

  pub lookup_fits : Keeps (Room.IndexLookup room schema)
  unfolding Room.IndexLookup Room.index_lookup
  lookup_fits rest (leaf og l) m h i =
      let a = after (if_room (Room.normal_forms_fit room schema (scan_filter l)) (leaf og l)) (λ k. Room.step room schema rest (Optimizer.index_lookup schema og l)) m h in
      step_fits rest (Optimizer.index_lookup schema og l) m a.second
  lookup_fits rest (over og o source) m h i =
      let a = after (Room.IndexLookup room schema (rest + over_size o) source) (λ s. done (over og o s)) m h in
      let p = lookup_fits (rest + over_size o) source a.of a.first (omega arith) in
      let z : node_size a.of + over_size o ≡ node_size m = ap node_size (done_same a.second) in
      omega arith
  lookup_fits rest (join og outer j left right) m h i =
      let a = after (Room.IndexLookup room schema (rest + (node_size right + join_size j)) left)
      (λ l. Room.IndexLookup room schema (rest + (node_size l + join_size j)) right >>= λ r. done (join og outer j l r)) m h in
      let b = after (Room.IndexLookup room schema (rest + (node_size a.of + join_size j)) right) (λ r. done (join og outer j a.of r)) m a.second in
      let p = lookup_fits (rest + (node_size right + join_size j)) left a.of a.first (omega arith) in
      let q = lookup_fits (rest + (node_size a.of + join_size j)) right b.of b.first (omega arith) in
      let z : node_size a.of + node_size b.of + join_size j ≡ node_size m = ap node_size (done_same b.second) in
      omega arith

  one_fits : (rest : ℕ) (n m : Node) → Room.short_circuit room schema rest n ≡ done m → rest + node_size m ≤ room
  unfolding Room.short_circuit
  one_fits rest n m h = step_fits rest (Optimizer.short_circuit schema n) m h

  pub circuit_fits : (rest : ℕ) (n m : Node) → Room.ShortCircuit room schema rest n ≡ done m → rest + node_size m ≤ room
  unfolding Room.ShortCircuit
  circuit_fits rest (leaf og l) m h = one_fits rest (leaf og l) m h
  circuit_fits rest (over og o source) m h =
      let a = after (Room.ShortCircuit room schema (rest + over_size o) source) (λ s. Room.short_circuit room schema rest (over og o s)) m h in
      one_fits rest (over og o a.of) m a.second
  circuit_fits rest (join og outer j left right) m h =
      let a = after (Room.ShortCircuit room schema (rest + (node_size right + join_size j)) left)
      (λ l. Room.ShortCircuit room schema (rest + (node_size l + join_size j)) right >>= λ r. Room.short_circuit room schema rest (join og outer j l r)) m h in
      let b = after (Room.ShortCircuit room schema (rest + (node_size a.of + join_size j)) right) (λ r. Room.short_circuit room schema rest (join og outer j a.of r)) m a.second in
      one_fits rest (join og outer j a.of b.of) m b.second

  -- One pass, and all five.
  pub pass_fits : (k : ℕ) (n m : Node) → Room.pass room schema k n ≡ done m → node_size n ≤ room → node_size m ≤ room
  pass_fits zero n m h i = not_done h
  pass_fits (suc zero) n m h i = let p = folding_smaller 0 n m h in omega arith
  pass_fits (suc (suc zero)) n m h i = let p = pushdown_fits 0 n m h (omega arith) in omega arith
  pass_fits (suc (suc (suc zero))) n m h i = let p = lookup_fits 0 n m h (omega arith) in omega arith
  pass_fits (suc (suc (suc (suc zero)))) n m h i =
      let p = hash_smaller schema n in let z : node_size (Optimizer.HashJoin schema n) ≡ node_size m = ap node_size (done_same h) in omega arith
  pass_fits (suc (suc (suc (suc (suc zero))))) n m h i = let p = circuit_fits 0 n m h in omega arith
  pass_fits (suc (suc (suc (suc (suc (suc k)))))) n m h i = not_done h

  pub optimize_fits : (n m : Node) → Room.optimize room schema n ≡ done m → node_size n ≤ room → node_size m ≤ room
  optimize_fits n m h i = let s = six room schema n m h in subst (λ z. node_size z ≤ room) s.plan_5 (fits s)
    where
      fits : (s : Six room schema n m) → node_size (s.plan 5) ≤ room
      fits s = next 4 (omega arith) (next 3 (omega arith) (next 2 (omega arith) (next 1 (omega arith) (next 0 (omega arith) start))))
        where
          start : node_size (s.plan 0) ≤ room
          start = let z : node_size (s.plan 0) ≡ node_size n = ap node_size s.plan_0 in omega arith

          next : (k : ℕ) → k < 5 → node_size (s.plan k) ≤ room → node_size (s.plan (suc k)) ≤ room
          next k j b = pass_fits (suc k) (s.plan k) (s.plan (suc k)) (s.passed k j) b
