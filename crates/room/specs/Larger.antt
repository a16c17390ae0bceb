-- What is done in some room is done the same in more: a run in a small room that isn't refused needs no other.
use Prim.Native.Nat.{ℕ, zero, suc, ◌+◌, ◌≤◌}
use Rattle.std.specs.Prelude.{Bool, true, false, ◌&&◌, List, [], ◌∷◌, ◌≡◌, refl, T, leb}
use Rattle.std.proofs.Math.Option.{Option, none, some}
use Rattle.std.proofs.Common.{sym, ap, ap₂, ◌∙◌, subst, arith, leb→le, le→leb}
use Rattle.sql.specs.Schema.{Schema}
use Rattle.sql.specs.Expression.{Expression, size, into_nnf, into_cnf}
use Rattle.sql.specs.Plan.{Leaf, Over, filter, other, Node, leaf, over, join, over_size, join_size, node_size}
use Rattle.sql.specs.Answer.{Answer, done, refused, ◌>>=◌}
use Rattle.sql.specs.Optimizer.{push_into, Optimizer, in_turn}
use Rattle.sql.specs.Optimizer as Optimizer
use Rattle.sql.specs.Room.{if_room, join_predicate, scan_filter, go_on}
use Rattle.sql.specs.Room
use Rattle.room.specs.Done.{not_done, After, after}

-- s does what r does, where r is done
abbrev Follows : {A : Type 0} → Answer A → Answer A → Type 0
Follows {A} r s = (a : A) → r ≡ done a → s ≡ done a

follows_then : {A B : Type 0} (r s : Answer A) (f g : A → Answer B) → Follows r s → ((a : A) → Follows (f a) (g a)) → Follows (r >>= f) (s >>= g)
follows_then r s f g h k b e = let a = after r f b e in ap (λ z. z >>= g) (h a.of a.first) ∙ k a.of b a.second

true_or_refused : (b : Bool) (n m : Node) → if_room b n ≡ done m → b ≡ true
true_or_refused true n m h = refl
true_or_refused false n m h = not_done h

if_room_follows : (b c : Bool) (n : Node) → (b ≡ true → c ≡ true) → Follows (if_room b n) (if_room c n)
if_room_follows true c n h m e = ap (λ z. if_room z n) (h refl) ∙ e
if_room_follows false c n h m e = not_done e

T_true : (b : Bool) → T b → b ≡ true
T_true true h = refl
T_true false h = absurd h

module _ (room more : ℕ) (larger : room ≤ more) (schema : Schema) where
  leb_larger : (n : ℕ) → leb n room ≡ true → leb n more ≡ true
  leb_larger n h = T_true (leb n more) (le→leb n more (let p = leb→le n room (subst T (sym h) tt) in omega arith))

  and_both : (a b c d : Bool) → (a ≡ true → c ≡ true) → (b ≡ true → d ≡ true) → (a && b) ≡ true → (c && d) ≡ true
  and_both true b c d f g h = ap₂ ◌&&◌ (f refl) (g h)
  and_both false b c d f g h = absurd (let y : ◌≡◌ {A = ℕ} 0 1 = cc in omega arith)

  forms_larger : (o : Option Expression) → Room.normal_forms_fit room schema o ≡ true → Room.normal_forms_fit more schema o ≡ true
  forms_larger none h = refl
  forms_larger (some e) h = and_both (leb (size (into_nnf e)) room) (leb (size (into_cnf e)) room) (leb (size (into_nnf e)) more) (leb (size (into_cnf e)) more)
      (leb_larger (size (into_nnf e))) (leb_larger (size (into_cnf e))) h

  step_larger : (rest : ℕ) (n : Node) → Follows (Room.step room schema rest n) (Room.step more schema rest n)
  step_larger rest n = if_room_follows (leb (rest + node_size n) room) (leb (rest + node_size n) more) n (leb_larger (rest + node_size n))

  join_larger : (rest : ℕ) (n : Node) → Follows (Room.maybe_push_join room schema rest n) (Room.maybe_push_join more schema rest n)
  unfolding Room.maybe_push_join
  join_larger rest n =
      let here = Room.normal_forms_fit room schema (join_predicate n) in
      let there = Room.normal_forms_fit more schema (join_predicate n) in
      follows_then (if_room here n) (if_room there n) (λ k. Room.step room schema rest (Optimizer.maybe_push_join schema k)) (λ k. Room.step more schema rest (Optimizer.maybe_push_join schema k))
      (if_room_follows here there n (forms_larger (join_predicate n))) (λ k. step_larger rest (Optimizer.maybe_push_join schema k))

  filter_larger : (k rest : ℕ) (n : Node) → Follows (Room.maybe_push_filter room schema k rest n) (Room.maybe_push_filter more schema k rest n)
  unfolding Room.maybe_push_filter
  filter_larger zero rest n = λ m h. h
  filter_larger (suc k) rest (leaf og l) = λ m h. h
  filter_larger (suc k) rest (over og (filter p) source) = go (push_into og p source) (filter_larger k rest)
    where
      on : ℕ → Node → Answer Node
      on r pushed = Room.step r schema rest pushed >>= Room.maybe_push_filter r schema k rest >>= Room.maybe_push_join r schema rest

      go : (o : Option Node) → ((n : Node) → Follows (Room.maybe_push_filter room schema k rest n) (Room.maybe_push_filter more schema k rest n))
          → Follows (go_on (on room) (over og (filter p) source) o) (go_on (on more) (over og (filter p) source) o)
      go none below = λ m h. h
      go (some pushed) below =
          follows_then (Room.step room schema rest pushed >>= Room.maybe_push_filter room schema k rest) (Room.step more schema rest pushed >>= Room.maybe_push_filter more schema k rest)
          (Room.maybe_push_join room schema rest) (Room.maybe_push_join more schema rest)
          (follows_then (Room.step room schema rest pushed) (Room.step more schema rest pushed) (Room.maybe_push_filter room schema k rest) (Room.maybe_push_filter more schema k rest)
          (step_larger rest pushed) below)
          (join_larger rest)
  filter_larger (suc k) rest (over og (other o) source) = λ m h. h
  filter_larger (suc k) rest (join og outer j left right) = λ m h. h

  sources_larger : (f g : ℕ → Node → Answer Node) → ((rest : ℕ) (n : Node) → Follows (f rest n) (g rest n))
      → (rest : ℕ) (n : Node) → Follows (Room.each_source room schema f rest n) (Room.each_source more schema g rest n)
  sources_larger f g k rest (leaf og l) = λ m h. h
  sources_larger f g k rest (over og o source) =
      follows_then (f (rest + over_size o) source) (g (rest + over_size o) source) (λ s. done (over og o s)) (λ s. done (over og o s)) (k (rest + over_size o) source) (λ s m h. h)
  sources_larger f g k rest (join og outer j left right) =
      let on_left = rest + (node_size right + join_size j) in
      follows_then (f on_left left) (g on_left left)
      (λ l. f (rest + (node_size l + join_size j)) right >>= λ r. done (join og outer j l r)) (λ l. g (rest + (node_size l + join_size j)) right >>= λ r. done (join og outer j l r))
      (k on_left left)
      (λ l. follows_then (f (rest + (node_size l + join_size j)) right) (g (rest + (node_size l + join_size j)) right) (λ r. done (join og outer j l r)) (λ r. done (join og outer j l r))
      (k (rest + (node_size l + join_size j)) right) (λ r m h. h))

  from_larger : (k rest : ℕ) (n : Node) → Follows (Room.push_filters_from room schema k rest n) (Room.push_filters_from more schema k rest n)
  unfolding Room.push_filters_from
  from_larger zero rest n = λ m h. h
  from_larger (suc k) rest n =
      follows_then (Room.push_filters room schema (suc k) rest n) (Room.push_filters more schema (suc k) rest n)
      (Room.each_source room schema (Room.push_filters_from room schema k) rest) (Room.each_source more schema (Room.push_filters_from more schema k) rest)
      (follows_then (Room.maybe_push_filter room schema (suc k) rest n) (Room.maybe_push_filter more schema (suc k) rest n)
      (Room.maybe_push_join room schema rest) (Room.maybe_push_join more schema rest) (filter_larger (suc k) rest n) (join_larger rest))
      (sources_larger (Room.push_filters_from room schema k) (Room.push_filters_from more schema k) (from_larger k) rest)

  pub pushdown_larger : (rest : ℕ) (n : Node) → Follows (Room.FilterPushdown room schema rest n) (Room.FilterPushdown more schema rest n)
  unfolding Room.FilterPushdown
  pushdown_larger rest n = from_larger (node_size n) rest n

  pub lookup_larger : (rest : ℕ) (n : Node) → Follows (Room.IndexLookup room schema rest n) (Room.IndexLookup more schema rest n)
  unfolding Room.IndexLookup Room.index_lookup
  lookup_larger rest (leaf og l) =
      let here = Room.normal_forms_fit room schema (scan_filter l) in
      let there = Room.normal_forms_fit more schema (scan_filter l) in
      follows_then (if_room here (leaf og l)) (if_room there (leaf og l)) (λ k. Room.step room schema rest (Optimizer.index_lookup schema og l)) (λ k. Room.step more schema rest (Optimizer.index_lookup schema og l))
      (if_room_follows here there (leaf og l) (forms_larger (scan_filter l))) (λ k. step_larger rest (Optimizer.index_lookup schema og l))
  lookup_larger rest (over og o source) =
      follows_then (Room.IndexLookup room schema (rest + over_size o) source) (Room.IndexLookup more schema (rest + over_size o) source) (λ s. done (over og o s)) (λ s. done (over og o s))
      (lookup_larger (rest + over_size o) source) (λ s m h. h)
  lookup_larger rest (join og outer j left right) =
      let on_left = rest + (node_size right + join_size j) in
      follows_then (Room.IndexLookup room schema on_left left) (Room.IndexLookup more schema on_left left)
      (λ l. Room.IndexLookup room schema (rest + (node_size l + join_size j)) right >>= λ r. done (join og outer j l r))
      (λ l. Room.IndexLookup more schema (rest + (node_size l + join_size j)) right >>= λ r. done (join og outer j l r))
      (lookup_larger on_left left)
      (λ l. follows_then (Room.IndexLookup room schema (rest + (node_size l + join_size j)) right) (Room.IndexLookup more schema (rest + (node_size l + join_size j)) right)
      (λ r. done (join og outer j l r)) (λ r. done (join og outer j l r)) (lookup_larger (rest + (node_size l + join_size j)) right) (λ r m h. h))

  one_larger : (rest : ℕ) (n : Node) → Follows (Room.short_circuit room schema rest n) (Room.short_circuit more schema rest n)
  unfolding Room.short_circuit
  one_larger rest n = step_larger rest (Optimizer.short_circuit schema n)

  pub circuit_larger : (rest : ℕ) (n : Node) → Follows (Room.ShortCircuit room schema rest n) (Room.ShortCircuit more schema rest n)
  unfolding Room.ShortCircuit
  circuit_larger rest (leaf og l) = one_larger rest (leaf og l)
  circuit_larger rest (over og o source) =
      follows_then (Room.ShortCircuit room schema (rest + over_size o) source) (Room.ShortCircuit more schema (rest + over_size o) source)
      (λ s. Room.short_circuit room schema rest (over og o s)) (λ s. Room.short_circuit more schema rest (over og o s))
      (circuit_larger (rest + over_size o) source) (λ s. one_larger rest (over og o s))
  circuit_larger rest (join og outer j left right) =
      let on_left = rest + (node_size right + join_size j) in
      follows_then (Room.ShortCircuit room schema on_left left) (Room.ShortCircuit more schema on_left left)
      (λ l. Room.ShortCircuit room schema (rest + (node_size l + join_size j)) right >>= λ r. Room.short_circuit room schema rest (join og outer j l r))
      (λ l. Room.ShortCircuit more schema (rest + (node_size l + join_size j)) right >>= λ r. Room.short_circuit more schema rest (join og outer j l r))
      (circuit_larger on_left left)
      (λ l. follows_then (Room.ShortCircuit room schema (rest + (node_size l + join_size j)) right) (Room.ShortCircuit more schema (rest + (node_size l + join_size j)) right)
      (λ r. Room.short_circuit room schema rest (join og outer j l r)) (λ r. Room.short_circuit more schema rest (join og outer j l r))
      (circuit_larger (rest + (node_size l + join_size j)) right) (λ r. one_larger rest (join og outer j l r)))

  -- One pass, and all five.
  pub pass_larger : (k : ℕ) (n : Node) → Follows (Room.pass room schema k n) (Room.pass more schema k n)
  pass_larger zero n m h = h
  pass_larger (suc zero) n m h = h
  pass_larger (suc (suc zero)) n m h = pushdown_larger 0 n m h
  pass_larger (suc (suc (suc zero))) n m h = lookup_larger 0 n m h
  pass_larger (suc (suc (suc (suc zero)))) n m h = h
  pass_larger (suc (suc (suc (suc (suc zero))))) n m h = circuit_larger 0 n m h
  pass_larger (suc (suc (suc (suc (suc (suc k)))))) n m h = h

  turn : (f g : Optimizer) (fs gs : List Optimizer) → ((n : Node) → Follows (f n) (g n)) → ((n : Node) → Follows (in_turn fs n) (in_turn gs n))
      → (n : Node) → Follows (in_turn (f ∷ fs) n) (in_turn (g ∷ gs) n)
  turn f g fs gs h k n = follows_then (f n) (g n) (in_turn fs) (in_turn gs) (h n) k

  abbrev from_5 : ℕ → List Optimizer
  from_5 r = Room.ShortCircuit r schema 0 ∷ []

  abbrev from_4 : ℕ → List Optimizer
  from_4 r = (λ n. done (Optimizer.HashJoin schema n)) ∷ from_5 r

  abbrev from_3 : ℕ → List Optimizer
  from_3 r = Room.IndexLookup r schema 0 ∷ from_4 r

  abbrev from_2 : ℕ → List Optimizer
  from_2 r = Room.FilterPushdown r schema 0 ∷ from_3 r

  pub optimize_larger : (n : Node) → Follows (Room.optimize room schema n) (Room.optimize more schema n)
  optimize_larger =
      turn (Optimizer.ConstantFolding 0) (Optimizer.ConstantFolding 0) (from_2 room) (from_2 more) (pass_larger 1)
      (turn (Room.FilterPushdown room schema 0) (Room.FilterPushdown more schema 0) (from_3 room) (from_3 more) (pass_larger 2)
      (turn (Room.IndexLookup room schema 0) (Room.IndexLookup more schema 0) (from_4 room) (from_4 more) (pass_larger 3)
      (turn (λ n. done (Optimizer.HashJoin schema n)) (λ n. done (Optimizer.HashJoin schema n)) (from_5 room) (from_5 more) (pass_larger 4)
      (turn (Room.ShortCircuit room schema 0) (Room.ShortCircuit more schema 0) [] [] (pass_larger 5) (λ n m h. h)))))
