-- With room, each optimizer does what it does without: if it is not refused, its plan is the same.
use Prim.Native.Nat.{ℕ, zero, suc, ◌+◌}
use Rattle.std.specs.Prelude.{Bool, true, false, List, [], ◌∷◌, ◌≡◌, refl, leb}
use Rattle.std.proofs.Math.Option.{Option, none, some}
use Rattle.std.proofs.Common.{sym, ◌∙◌}
use Rattle.std.proofs.Math.Path.{ap, ap₂}
use Rattle.sql.specs.Schema.{Schema}
use Rattle.sql.specs.Expression.{Expression}
use Rattle.sql.specs.Plan.{Leaf, Over, filter, other, Node, leaf, over, join, over_size, join_size, node_size}
use Rattle.sql.specs.Answer.{Answer, done, refused, ◌>>=◌}
use Rattle.sql.specs.Optimizer.{map_sources, push_into, Optimizer, in_turn}
use Rattle.sql.specs.Optimizer as Optimizer
use Rattle.sql.specs.Room.{if_room, join_predicate, scan_filter, go_on}
use Rattle.sql.specs.Room
use Rattle.room.specs.Done.{not_done, done_same, After, after}

if_room_same : (b : Bool) (n m : Node) → if_room b n ≡ done m → n ≡ m
if_room_same true n m h = done_same h
if_room_same false n m h = not_done h

module _ (room : ℕ) (schema : Schema) where
  pub step_same : (rest : ℕ) (n m : Node) → Room.step room schema rest n ≡ done m → n ≡ m
  step_same rest n m h = if_room_same (leb (rest + node_size n) room) n m h

  -- ---- FilterPushdown

  join_same : (rest : ℕ) (n m : Node) → Room.maybe_push_join room schema rest n ≡ done m → Optimizer.maybe_push_join schema n ≡ m
  unfolding Room.maybe_push_join
  join_same rest n m h =
      let fits = Room.normal_forms_fit room schema (join_predicate n) in
      let a = after (if_room fits n) (λ k. Room.step room schema rest (Optimizer.maybe_push_join schema k)) m h in
      ap (Optimizer.maybe_push_join schema) (if_room_same fits n a.of a.first) ∙ step_same rest (Optimizer.maybe_push_join schema a.of) m a.second

  filter_same : (k rest : ℕ) (n m : Node) → Room.maybe_push_filter room schema k rest n ≡ done m → Optimizer.maybe_push_filter schema k n ≡ m
  unfolding Room.maybe_push_filter Optimizer.maybe_push_filter
  filter_same zero rest n m h = done_same h
  filter_same (suc k) rest (leaf og l) m h = done_same h
  filter_same (suc k) rest (over og (filter p) source) m h = go (push_into og p source) h (filter_same k rest)
    where
      on : Node → Answer Node
      on pushed = Room.step room schema rest pushed >>= Room.maybe_push_filter room schema k rest >>= Room.maybe_push_join room schema rest

      plain : Node → Node
      plain pushed = Optimizer.maybe_push_join schema (Optimizer.maybe_push_filter schema k pushed)

      go : (o : Option Node) → go_on on (over og (filter p) source) o ≡ done m
          → ((n m : Node) → Room.maybe_push_filter room schema k rest n ≡ done m → Optimizer.maybe_push_filter schema k n ≡ m)
          → Optimizer.go_on plain (over og (filter p) source) o ≡ m
      go none j ih = done_same j
      go (some pushed) j ih =
          let a = after (Room.step room schema rest pushed >>= Room.maybe_push_filter room schema k rest) (Room.maybe_push_join room schema rest) m j in
          let b = after (Room.step room schema rest pushed) (Room.maybe_push_filter room schema k rest) a.of a.first in
          ap (λ z. Optimizer.maybe_push_join schema (Optimizer.maybe_push_filter schema k z)) (step_same rest pushed b.of b.first)
          ∙ (ap (Optimizer.maybe_push_join schema) (ih b.of a.of b.second) ∙ join_same rest a.of m a.second)
  filter_same (suc k) rest (over og (other o) source) m h = done_same h
  filter_same (suc k) rest (join og outer j left right) m h = done_same h

  pub push_same : (k rest : ℕ) (n m : Node) → Room.push_filters room schema k rest n ≡ done m → Optimizer.push_filters schema k n ≡ m
  push_same k rest n m h =
      let a = after (Room.maybe_push_filter room schema k rest n) (Room.maybe_push_join room schema rest) m h in
      ap (Optimizer.maybe_push_join schema) (filter_same k rest n a.of a.first) ∙ join_same rest a.of m a.second

  sources_same : (f : ℕ → Node → Answer Node) (g : Node → Node) → ((rest : ℕ) (n m : Node) → f rest n ≡ done m → g n ≡ m)
      → (rest : ℕ) (n m : Node) → Room.each_source room schema f rest n ≡ done m → map_sources g n ≡ m
  sources_same f g k rest (leaf og l) m h = done_same h
  sources_same f g k rest (over og o source) m h =
      let a = after (f (rest + over_size o) source) (λ s. done (over og o s)) m h in
      ap (over og o) (k (rest + over_size o) source a.of a.first) ∙ done_same a.second
  sources_same f g k rest (join og outer j left right) m h =
      let on_left = rest + (node_size right + join_size j) in
      let a = after (f on_left left) (λ l. f (rest + (node_size l + join_size j)) right >>= λ r. done (join og outer j l r)) m h in
      let on_right = rest + (node_size a.of + join_size j) in
      let b = after (f on_right right) (λ r. done (join og outer j a.of r)) m a.second in
      ap₂ (join og outer j) (k on_left left a.of a.first) (k on_right right b.of b.first) ∙ done_same b.second

  from_same : (k rest : ℕ) (n m : Node) → Room.push_filters_from room schema k rest n ≡ done m → Optimizer.push_filters_from schema k n ≡ m
  unfolding Room.push_filters_from Optimizer.push_filters_from
  from_same zero rest n m h = done_same h
  from_same (suc k) rest n m h =
      let a = after (Room.push_filters room schema (suc k) rest n) (Room.each_source room schema (Room.push_filters_from room schema k) rest) m h in
      ap (map_sources (Optimizer.push_filters_from schema k)) (push_same (suc k) rest n a.of a.first)
      ∙ sources_same (Room.push_filters_from room schema k) (Optimizer.push_filters_from schema k) (from_same k) rest a.of m a.second

  pub pushdown_same : (rest : ℕ) (n m : Node) → Room.FilterPushdown room schema rest n ≡ done m → Optimizer.FilterPushdown schema n ≡ m
  unfolding Room.FilterPushdown Optimizer.FilterPushdown
  pushdown_same rest n m h = from_same (node_size n) rest n m h

  -- ---- IndexLookup

  leaf_same : (og rest : ℕ) (l : Leaf) (m : Node) → Room.index_lookup room schema og rest l ≡ done m → Optimizer.index_lookup schema og l ≡ m
  unfolding Room.index_lookup
  leaf_same og rest l m h =
      let a = after (if_room (Room.normal_forms_fit room schema (scan_filter l)) (leaf og l)) (λ k. Room.step room schema rest (Optimizer.index_lookup schema og l)) m h in
      step_same rest (Optimizer.index_lookup schema og l) m a.second

  pub lookup_same : (rest : ℕ) (n m : Node) → Room.IndexLookup room schema rest n ≡ done m → Optimizer.IndexLookup schema n ≡ m
  unfolding Room.IndexLookup Optimizer.IndexLookup
  lookup_same rest (leaf og l) m h = leaf_same og rest l m h
  lookup_same rest (over og o source) m h =
      let a = after (Room.IndexLookup room schema (rest + over_size o) source) (λ s. done (over og o s)) m h in
      ap (over og o) (lookup_same (rest + over_size o) source a.of a.first) ∙ done_same a.second
  lookup_same rest (join og outer j left right) m h =
      let on_left = rest + (node_size right + join_size j) in
      let a = after (Room.IndexLookup room schema on_left left)
      (λ l. Room.IndexLookup room schema (rest + (node_size l + join_size j)) right >>= λ r. done (join og outer j l r)) m h in
      let on_right = rest + (node_size a.of + join_size j) in
      let b = after (Room.IndexLookup room schema on_right right) (λ r. done (join og outer j a.of r)) m a.second in
      ap₂ (join og outer j) (lookup_same on_left left a.of a.first) (lookup_same on_right right b.of b.first) ∙ done_same b.second

  -- ---- ShortCircuit

  one_same : (rest : ℕ) (n m : Node) → Room.short_circuit room schema rest n ≡ done m → Optimizer.short_circuit schema n ≡ m
  unfolding Room.short_circuit
  one_same rest n m h = step_same rest (Optimizer.short_circuit schema n) m h

  pub circuit_same : (rest : ℕ) (n m : Node) → Room.ShortCircuit room schema rest n ≡ done m → Optimizer.ShortCircuit schema n ≡ m
  unfolding Room.ShortCircuit
  circuit_same rest (leaf og l) m h = one_same rest (leaf og l) m h
  circuit_same rest (over og o source) m h =
      let a = after (Room.ShortCircuit room schema (rest + over_size o) source) (λ s. Room.short_circuit room schema rest (over og o s)) m h in
      ap (λ z. Optimizer.short_circuit schema (over og o z)) (circuit_same (rest + over_size o) source a.of a.first) ∙ one_same rest (over og o a.of) m a.second
  circuit_same rest (join og outer j left right) m h =
      let on_left = rest + (node_size right + join_size j) in
      let a = after (Room.ShortCircuit room schema on_left left)
      (λ l. Room.ShortCircuit room schema (rest + (node_size l + join_size j)) right >>= λ r. Room.short_circuit room schema rest (join og outer j l r)) m h in
      let on_right = rest + (node_size a.of + join_size j) in
      let b = after (Room.ShortCircuit room schema on_right right) (λ r. Room.short_circuit room schema rest (join og outer j a.of r)) m a.second in
      ap₂ (λ x y. Optimizer.short_circuit schema (join og outer j x y)) (circuit_same on_left left a.of a.first) (circuit_same on_right right b.of b.first)
      ∙ one_same rest (join og outer j a.of b.of) m b.second

  -- ---- all of them

  pub pass_same : (k : ℕ) (n m : Node) → Room.pass room schema k n ≡ done m → Optimizer.pass schema k n ≡ done m
  pass_same zero n m h = h
  pass_same (suc zero) n m h = h
  pass_same (suc (suc zero)) n m h = ap done (pushdown_same 0 n m h)
  pass_same (suc (suc (suc zero))) n m h = ap done (lookup_same 0 n m h)
  pass_same (suc (suc (suc (suc zero)))) n m h = h
  pass_same (suc (suc (suc (suc (suc zero))))) n m h = ap done (circuit_same 0 n m h)
  pass_same (suc (suc (suc (suc (suc (suc k)))))) n m h = h

-- optimizers in turn, each of which does what another one does
data Follow : List Optimizer → List Optimizer → Type 0 where
  no_more : Follow [] []
  and_then : {f g : Optimizer} {fs gs : List Optimizer} → ((n m : Node) → f n ≡ done m → g n ≡ done m) → Follow fs gs → Follow (f ∷ fs) (g ∷ gs)

in_turn_same : {fs gs : List Optimizer} → Follow fs gs → (n m : Node) → in_turn fs n ≡ done m → in_turn gs n ≡ done m
in_turn_same no_more n m h = h
in_turn_same (and_then {f} {g} {fs} {gs} k r) n m h =
    let a = after (f n) (in_turn fs) m h in
    ap (λ z. z >>= in_turn gs) (k n a.of a.first) ∙ in_turn_same r a.of m a.second

pub optimize_same : (room : ℕ) (schema : Schema) (n m : Node) → Room.optimize room schema n ≡ done m → Optimizer.optimize schema n ≡ done m
optimize_same room schema =
    in_turn_same (and_then (pass_same room schema 1) (and_then (pass_same room schema 2) (and_then (pass_same room schema 3)
    (and_then (pass_same room schema 4) (and_then (pass_same room schema 5) no_more)))))
