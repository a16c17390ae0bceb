-- The proof of Law.antt.
use Prim.Native.Nat.{ℕ, zero, suc, ◌+◌}
use Rattle.std.specs.Prelude.{Bool, true, false, ◌&&◌, List, [], ◌∷◌, ◌≡◌, leb}
use Rattle.std.proofs.Math.Option.{Option, none, some}
use Rattle.std.proofs.Math.Path.{refl, ap}
use Rattle.std.proofs.Common.{sym, ap₂, ◌∙◌}
use Rattle.sql.specs.Schema.{Schema}
use Rattle.sql.specs.Expression.{Expression, size, into_nnf, into_cnf}
use Rattle.sql.specs.Plan.{Leaf, scan, lookup, nothing, values, Over, filter, other, Join, nested_loop, hash, Node, leaf, over, join, over_size, join_size, node_size}
use Rattle.sql.specs.Answer.{Answer, done, refused, ◌>>=◌}
use Rattle.sql.specs.Optimizer.{push_into, map_optional, Optimizer, in_turn}
use Rattle.sql.specs.Optimizer as Optimizer
use Rattle.sql.specs.Room.{if_room, join_predicate, scan_filter, go_on}
use Rattle.sql.specs.Room
use Rattle.room.specs.Done.{done_same}
use Rattle.origins.specs.Origins.{map_origins, map_leaf, map_over, map_join, map_node_origins, map_answer}
use Rattle.origins.specs.Law.{Commutes, PassesCommute, FiveCommute, Keeps, PassesKeep, FiveKeep}
use Rattle.origins.proofs.Lists.{then_map}
use Rattle.origins.proofs.Normal.{nnf_map, cnf_map}
use Rattle.origins.proofs.Unseen.{size_unseen, over_size_unseen, join_size_unseen, node_size_unseen}
use Rattle.origins.proofs.Folding.{folding_map}
use Rattle.origins.proofs.Split.{push_into_map, maybe_push_join_map}
use Rattle.origins.proofs.Found.{index_lookup_map, hash_map}
use Rattle.origins.proofs.Circuit.{short_circuit_map}

module _ (h : ℕ → ℕ) where
  abbrev E : Expression → Expression
  E = map_origins h

  abbrev M : Node → Node
  M = map_node_origins h

  -- one function of a node
  abbrev OverMap : (Node → Answer Node) → Type 0
  OverMap f = (n : Node) → f (M n) ≡ map_answer M (f n)

  -- one function after another
  after : (f g : Node → Answer Node) → OverMap f → OverMap g → OverMap (λ n. f n >>= g)
  after f g j k n = then_map M M g g (f n) (f (M n)) (j n) k

  join_predicate_map : (n : Node) → join_predicate (M n) ≡ map_optional E (join_predicate n)
  join_predicate_map (leaf og l) = refl
  join_predicate_map (over og o source) = refl
  join_predicate_map (join og outer (nested_loop predicate) left right) = refl
  join_predicate_map (join og outer (hash left_column right_column) left right) = refl

  scan_filter_map : (l : Leaf) → scan_filter (map_leaf h l) ≡ map_optional E (scan_filter l)
  scan_filter_map (scan table alias predicate) = refl
  scan_filter_map (lookup access table alias constants) = refl
  scan_filter_map (nothing labels) = refl
  scan_filter_map (values rows) = refl

  if_room_map : (b : Bool) (n : Node) → if_room b (M n) ≡ map_answer M (if_room b n)
  if_room_map true n = refl
  if_room_map false n = refl

  -- ---- from a node's sources to the node, which `last` makes something of

  module _ (f : ℕ → Node → Answer Node) (last : Node → Answer Node) (last_map : OverMap last) where
    over_source : (rest og : ℕ) (o : Over) (source : Node) → ((k : ℕ) → f k (M source) ≡ map_answer M (f k source))
        → (f (rest + over_size (map_over h o)) (M source) >>= λ s. last (over (h og) (map_over h o) s)) ≡ map_answer M (f (rest + over_size o) source >>= λ s. last (over og o s))
    over_source rest og o source k =
        then_map M M (λ s. last (over og o s)) (λ s. last (over (h og) (map_over h o) s)) (f (rest + over_size o) source) (f (rest + over_size (map_over h o)) (M source))
        (ap (λ n. f (rest + n) (M source)) (over_size_unseen h o) ∙ k (rest + over_size o)) (λ s. last_map (over og o s))

    join_sources : (rest og : ℕ) (outer : Bool) (j : Join) (left right : Node)
        → ((k : ℕ) → f k (M left) ≡ map_answer M (f k left)) → ((k : ℕ) → f k (M right) ≡ map_answer M (f k right))
        → (f (rest + (node_size (M right) + join_size (map_join h j))) (M left) >>= λ l. f (rest + (node_size l + join_size (map_join h j))) (M right)
        >>= λ r. last (join (h og) outer (map_join h j) l r))
        ≡ map_answer M (f (rest + (node_size right + join_size j)) left >>= λ l. f (rest + (node_size l + join_size j)) right >>= λ r. last (join og outer j l r))
    join_sources rest og outer j left right on_left on_right =
        then_map M M (λ l. f (rest + (node_size l + join_size j)) right >>= λ r. last (join og outer j l r))
        (λ l. f (rest + (node_size l + join_size (map_join h j))) (M right) >>= λ r. last (join (h og) outer (map_join h j) l r))
        (f (rest + (node_size right + join_size j)) left) (f (rest + (node_size (M right) + join_size (map_join h j))) (M left))
        (ap₂ (λ m n. f (rest + (m + n)) (M left)) (node_size_unseen h right) (join_size_unseen h j) ∙ on_left (rest + (node_size right + join_size j)))
        (λ l. then_map M M (λ r. last (join og outer j l r)) (λ r. last (join (h og) outer (map_join h j) (M l) r))
        (f (rest + (node_size l + join_size j)) right) (f (rest + (node_size (M l) + join_size (map_join h j))) (M right))
        (ap₂ (λ m n. f (rest + (m + n)) (M right)) (node_size_unseen h l) (join_size_unseen h j) ∙ on_right (rest + (node_size l + join_size j)))
        (λ r. last_map (join og outer j l r)))

  module _ (room : ℕ) (schema : Schema) where
    -- ---- room

    forms_unseen : (p : Option Expression) → Room.normal_forms_fit room schema (map_optional E p) ≡ Room.normal_forms_fit room schema p
    forms_unseen none = refl
    forms_unseen (some e) =
        ap₂ (λ m n. leb m room && leb n room) (ap size (nnf_map h e) ∙ size_unseen h (into_nnf e)) (ap size (cnf_map h e) ∙ size_unseen h (into_cnf e))

    step_map : (rest : ℕ) → OverMap (Room.step room schema rest)
    step_map rest n = ap (λ k. if_room (leb (rest + k) room) (M n)) (node_size_unseen h n) ∙ if_room_map (leb (rest + node_size n) room) n

    -- a step that makes this of a node
    step_of : (rest : ℕ) (f : Node → Node) → ((n : Node) → f (M n) ≡ M (f n)) → OverMap (λ n. Room.step room schema rest (f n))
    step_of rest f k n = ap (Room.step room schema rest) (k n) ∙ step_map rest (f n)

    -- ---- FilterPushdown

    join_map : (rest : ℕ) → OverMap (Room.maybe_push_join room schema rest)
    unfolding Room.maybe_push_join
    join_map rest =
        after (λ n. if_room (Room.normal_forms_fit room schema (join_predicate n)) n) (λ n. Room.step room schema rest (Optimizer.maybe_push_join schema n))
        (λ n. ap (λ p. if_room (Room.normal_forms_fit room schema p) (M n)) (join_predicate_map n)
        ∙ (ap (λ b. if_room b (M n)) (forms_unseen (join_predicate n)) ∙ if_room_map (Room.normal_forms_fit room schema (join_predicate n)) n))
        (step_of rest (Optimizer.maybe_push_join schema) (maybe_push_join_map h schema))

    go_on_map : (f : Node → Answer Node) → OverMap f → (n : Node) (o : Option Node) → go_on f (M n) (map_optional M o) ≡ map_answer M (go_on f n o)
    go_on_map f k n none = refl
    go_on_map f k n (some pushed) = k pushed

    filter_map : (k rest : ℕ) → OverMap (Room.maybe_push_filter room schema k rest)
    unfolding Room.maybe_push_filter
    filter_map zero rest n = refl
    filter_map (suc k) rest (leaf og l) = refl
    filter_map (suc k) rest (over og (filter p) source) =
        ap (go_on on (M (over og (filter p) source))) (push_into_map h og p source)
        ∙ go_on_map on
        (after (λ n. Room.step room schema rest n >>= Room.maybe_push_filter room schema k rest) (Room.maybe_push_join room schema rest)
        (after (Room.step room schema rest) (Room.maybe_push_filter room schema k rest) (step_map rest) (filter_map k rest)) (join_map rest))
        (over og (filter p) source) (push_into og p source)
      where
        on : Node → Answer Node
        on pushed = Room.step room schema rest pushed >>= Room.maybe_push_filter room schema k rest >>= Room.maybe_push_join room schema rest
    filter_map (suc k) rest (over og (other o) source) = refl
    filter_map (suc k) rest (join og outer j left right) = refl

    sources_map : (f : ℕ → Node → Answer Node) → ((rest : ℕ) → OverMap (f rest)) → (rest : ℕ) → OverMap (Room.each_source room schema f rest)
    sources_map f k rest (leaf og l) = refl
    sources_map f k rest (over og o source) = over_source f done (λ n. refl) rest og o source (λ m. k m source)
    sources_map f k rest (join og outer j left right) = join_sources f done (λ n. refl) rest og outer j left right (λ m. k m left) (λ m. k m right)

    from_map : (k rest : ℕ) → OverMap (Room.push_filters_from room schema k rest)
    unfolding Room.push_filters_from
    from_map zero rest n = refl
    from_map (suc k) rest n =
        after (Room.push_filters room schema (suc k) rest) (Room.each_source room schema (Room.push_filters_from room schema k) rest)
        (after (Room.maybe_push_filter room schema (suc k) rest) (Room.maybe_push_join room schema rest) (filter_map (suc k) rest) (join_map rest))
        (sources_map (Room.push_filters_from room schema k) (from_map k) rest) n

    pushdown_map : (rest : ℕ) → OverMap (Room.FilterPushdown room schema rest)
    unfolding Room.FilterPushdown
    pushdown_map rest n = ap (λ k. Room.push_filters_from room schema k rest (M n)) (node_size_unseen h n) ∙ from_map (node_size n) rest n

    -- ---- IndexLookup

    lookup_map : (rest : ℕ) → OverMap (Room.IndexLookup room schema rest)
    unfolding Room.IndexLookup Room.index_lookup
    lookup_map rest (leaf og l) =
        then_map M M (λ n. Room.step room schema rest (Optimizer.index_lookup schema og l)) (λ n. Room.step room schema rest (Optimizer.index_lookup schema (h og) (map_leaf h l)))
        (if_room (Room.normal_forms_fit room schema (scan_filter l)) (leaf og l)) (if_room (Room.normal_forms_fit room schema (scan_filter (map_leaf h l))) (M (leaf og l)))
        (ap (λ p. if_room (Room.normal_forms_fit room schema p) (M (leaf og l))) (scan_filter_map l)
        ∙ (ap (λ b. if_room b (M (leaf og l))) (forms_unseen (scan_filter l)) ∙ if_room_map (Room.normal_forms_fit room schema (scan_filter l)) (leaf og l)))
        (λ n. ap (Room.step room schema rest) (index_lookup_map h schema og l) ∙ step_map rest (Optimizer.index_lookup schema og l))
    lookup_map rest (over og o source) = over_source (Room.IndexLookup room schema) done (λ n. refl) rest og o source (λ m. lookup_map m source)
    lookup_map rest (join og outer j left right) =
        join_sources (Room.IndexLookup room schema) done (λ n. refl) rest og outer j left right (λ m. lookup_map m left) (λ m. lookup_map m right)

    -- ---- ShortCircuit

    one_map : (rest : ℕ) → OverMap (Room.short_circuit room schema rest)
    unfolding Room.short_circuit
    one_map rest = step_of rest (Optimizer.short_circuit schema) (short_circuit_map h schema)

    circuit_map : (rest : ℕ) → OverMap (Room.ShortCircuit room schema rest)
    unfolding Room.ShortCircuit
    circuit_map rest (leaf og l) = one_map rest (leaf og l)
    circuit_map rest (over og o source) =
        over_source (Room.ShortCircuit room schema) (Room.short_circuit room schema rest) (one_map rest) rest og o source (λ m. circuit_map m source)
    circuit_map rest (join og outer j left right) =
        join_sources (Room.ShortCircuit room schema) (Room.short_circuit room schema rest) (one_map rest) rest og outer j left right (λ m. circuit_map m left) (λ m. circuit_map m right)

    -- ---- all of them

    pass_map : (k : ℕ) → OverMap (Room.pass room schema k)
    pass_map zero n = refl
    pass_map (suc zero) n = folding_map h 0 n
    pass_map (suc (suc zero)) n = pushdown_map 0 n
    pass_map (suc (suc (suc zero))) n = lookup_map 0 n
    pass_map (suc (suc (suc (suc zero)))) n = ap done (hash_map h schema n)
    pass_map (suc (suc (suc (suc (suc zero))))) n = circuit_map 0 n
    pass_map (suc (suc (suc (suc (suc (suc k)))))) n = refl

pub passes_commute : PassesCommute
passes_commute room schema k h n = pass_map h room schema k n

-- optimizers in turn, each of which commutes
data AllCommute : List Optimizer → Type 0 where
  no_more : AllCommute []
  and_then : {f : Optimizer} {fs : List Optimizer} → Commutes f → AllCommute fs → AllCommute (f ∷ fs)

in_turn_commutes : {fs : List Optimizer} → AllCommute fs → Commutes (in_turn fs)
in_turn_commutes no_more h n = refl
in_turn_commutes (and_then {f} {fs} k r) h n = after h f (in_turn fs) (k h) (in_turn_commutes r h) n

pub five_commute : FiveCommute
five_commute room schema =
    in_turn_commutes {fs = Room.OPTIMIZERS room schema}
    (and_then (passes_commute room schema 1) (and_then (passes_commute room schema 2) (and_then (passes_commute room schema 3)
    (and_then (passes_commute room schema 4) (and_then (passes_commute room schema 5) no_more)))))

-- What commutes makes no origin: if the plan given is its own image, so is the result.
commutes_keeps : (optimizer : Optimizer) → Commutes optimizer → Keeps optimizer
commutes_keeps optimizer k h n m same is =
    done_same (sym (ap (map_answer (map_node_origins h)) is) ∙ (sym (k h n) ∙ (ap optimizer same ∙ is)))

pub passes_keep : PassesKeep
passes_keep room schema k = commutes_keeps (Room.pass room schema k) (passes_commute room schema k)

pub five_keep : FiveKeep
five_keep room schema = commutes_keeps (Room.optimize room schema) (five_commute room schema)
