-- The passes with room (crate sql, Room.antt) are the passes without, except that they refuse by 14, with place 0, where one of the sizes of Sizes.antt is over
-- the room that there is. They ask after fewer steps than Sizes.antt lists: not after those of ConstantFolding and HashJoin, nor after IndexLookup's visits of
-- nodes with sources and of the lookups that it made. A plan that had room has it after each of these too: that is proved here.
use Prim.Native.Nat.{ℕ, zero, suc, ◌+◌, ◌≤◌}
use native.Mathlib.Omega.{arith}
use borrow.Author.Tests.{le-leb}
use mathlib.Core.Path.{◌≡◌, refl, sym, ap, ◌∙◌}
use mathlib.Core.Bool.{Bool, true, false, ◌&&◌, cond, and_assoc, and_self_left}
use mathlib.Core.List.{List, [], ◌∷◌, ◌++◌}
use mathlib.Core.Option.{Option, none, some}
use lib.Dec.{leb}
use Rattle.sql.specs.Schema.{Schema}
use Rattle.sql.specs.Expression.{Expression, size, into_nnf, into_cnf}
use Rattle.sql.specs.Plan.{Leaf, Over, filter, other, Join, Node, leaf, over, join, columns, over_size, join_size, node_size}
use Rattle.sql.specs.Answer.{Answer, done, refused, ◌>>=◌}
use Rattle.sql.specs.Optimizer.{fold_leaf, fold_over, fold_join, map_sources, push_into, hash_join, in_turn}
use Rattle.sql.specs.Optimizer as Optimizer
use Rattle.sql.specs.Room.{max_cells, if_room, join_predicate, scan_filter, go_on}
use Rattle.sql.specs.Room
use Rattle.literal.specs.Nodes.{nodes_cells}
use Rattle.literal.specs.Bounds.{pushdown_bound}
use Rattle.room.specs.Done.{not_done}
use Rattle.room.specs.Smaller.{leaf_smaller, over_smaller, join_smaller, folding_smaller, hash_join_smaller, hash_smaller}
use Rattle.room.specs.Fits.{pushdown_fits, lookup_fits}
use Rattle.rows.specs.Equalities.{all}
use Rattle.theorems.specs.Sizes.{normal_forms, step, if_pushed, if_done}
use Rattle.theorems.specs.Sizes
use Rattle.theorems.specs.Theorems.{with_room}

and_true : (b : Bool) → b ≡ (b && true)
and_true true = refl
and_true false = refl

module _ (room : ℕ) (schema : Schema) where
  abbrev fit : List ℕ → Bool
  fit = all (λ (c : ℕ). leb c room)

  -- ---- one after the other

  fit_append : (xs ys : List ℕ) → fit (xs ++ ys) ≡ (fit xs && fit ys)
  fit_append [] ys = refl
  fit_append (x ∷ xs) ys = ap (λ (t : Bool). leb x room && t) (fit_append xs ys) ∙ sym (and_assoc (leb x room) (fit xs) (fit ys))

  -- sizes that fit can be left out
  pub left_out : (xs ys : List ℕ) → fit xs ≡ true → fit (xs ++ ys) ≡ fit ys
  left_out xs ys h = fit_append xs ys ∙ ap (λ (t : Bool). t && fit ys) h

  -- what comes next has to be sized only where all before fits
  then_if_fit : (xs ys : List ℕ) (a b : Node) (g : Node → Answer Node) → (fit xs ≡ true → g a ≡ if_room (fit ys) b)
      → (if_room (fit xs) a >>= g) ≡ if_room (fit (xs ++ ys)) b
  then_if_fit xs ys a b g h = go (fit xs) refl ∙ ap (λ (t : Bool). if_room t b) (sym (fit_append xs ys))
    where
      go : (t : Bool) → fit xs ≡ t → (if_room t a >>= g) ≡ if_room (t && fit ys) b
      go true e = h e
      go false e = refl

  then_sized : (xs ys : List ℕ) (a b : Node) (g : Node → Answer Node) → g a ≡ if_room (fit ys) b → (if_room (fit xs) a >>= g) ≡ if_room (fit (xs ++ ys)) b
  then_sized xs ys a b g h = then_if_fit xs ys a b g (λ e. h)

  made : (t : Bool) (a : Node) (g : Node → Node) → (if_room t a >>= λ n. done (g n)) ≡ if_room t (g a)
  made true a g = refl
  made false a g = refl

  abbrev Sized : (Node → Answer Node) → (Node → Node) → (Node → List ℕ) → Type 0
  Sized with_room plain sizes = (n : Node) → with_room n ≡ if_room (fit (sizes n)) (plain n)

  step_sized : (rest : ℕ) (n : Node) → Room.step room schema rest n ≡ if_room (fit (step rest n)) n
  step_sized rest n = ap (λ (b : Bool). if_room b n) (and_true (leb (rest + node_size n) room))

  forms_sized : (p : Option Expression) (n : Node) → if_room (Room.normal_forms_fit room schema p) n ≡ if_room (fit (normal_forms p)) n
  forms_sized none n = refl
  forms_sized (some e) n =
      ap (λ (b : Bool). if_room (leb (size (into_nnf e)) room && b) n) (and_true (leb (size (into_cnf e)) room))

  -- a step that leaves no more cells than there is room for
  step_fits : (rest : ℕ) (n : Node) → rest + node_size n ≤ room → fit (step rest n) ≡ true
  step_fits rest n h = rw (le-leb (rest + node_size n) room h)

  -- normal forms, then a step
  formed : (p : Option Expression) (rest : ℕ) (n m : Node)
      → (if_room (Room.normal_forms_fit room schema p) n >>= λ k. Room.step room schema rest m) ≡ if_room (fit (normal_forms p ++ step rest m)) m
  formed p rest n m =
      ap (λ (r : Answer Node). r >>= λ k. Room.step room schema rest m) (forms_sized p n) ∙ then_sized (normal_forms p) (step rest m) n m _ (step_sized rest m)

  -- ---- ConstantFolding

  done_fits : {A : Type 0} (r : Answer A) (f : A → List ℕ) → ((a : A) → r ≡ done a → fit (f a) ≡ true) → fit (if_done r f) ≡ true
  done_fits (refused number place) f h = refl
  done_fits (done a) f h = h a refl

  pub folding_fits : (first rest : ℕ) (n : Node) → rest + node_size n ≤ room → fit (Sizes.ConstantFolding first rest n) ≡ true
  folding_fits first rest (leaf og l) h = done_fits (fold_leaf first l) _ (λ m e. let s = leaf_smaller first l m e in step_fits rest (leaf og m) (omega arith))
  folding_fits first rest (over og o source) h =
      let place = first + node_size source in
      done_fits (fold_over place o) _ (λ p e.
      let s = over_smaller place o p e in
      left_out (step rest (over og p source)) (Sizes.ConstantFolding first (rest + over_size p) source) (step_fits rest (over og p source) (omega arith))
      ∙ folding_fits first (rest + over_size p) source (omega arith))
  folding_fits first rest (join og outer j left right) h =
      let place = first + (node_size left + node_size right) in
      done_fits (fold_join place j) _ (λ k e.
      let s = join_smaller place j k e in
      let on_left = rest + (node_size right + join_size k) in
      let on_right : Node → List ℕ = λ l. Sizes.ConstantFolding (first + node_size left) (rest + (node_size l + join_size k)) right in
      let folded = Optimizer.ConstantFolding first left in
      left_out (step rest (join og outer k left right)) (Sizes.ConstantFolding first on_left left ++ if_done folded on_right)
      (step_fits rest (join og outer k left right) (omega arith))
      ∙ (left_out (Sizes.ConstantFolding first on_left left) (if_done folded on_right) (folding_fits first on_left left (omega arith))
      ∙ done_fits folded on_right (λ l f.
      let t = folding_smaller first left l f in
      folding_fits (first + node_size left) (rest + (node_size l + join_size k)) right (omega arith))))

  -- ---- FilterPushdown

  join_sized : (rest : ℕ) → Sized (Room.maybe_push_join room schema rest) (Optimizer.maybe_push_join schema) (Sizes.maybe_push_join schema rest)
  unfolding Room.maybe_push_join
  join_sized rest n =
      let p = join_predicate n in
      let g : Node → Answer Node = λ k. Room.step room schema rest (Optimizer.maybe_push_join schema k) in
      ap (λ (r : Answer Node). r >>= g) (forms_sized p n)
      ∙ then_sized (normal_forms p) (step rest (Optimizer.maybe_push_join schema n)) n (Optimizer.maybe_push_join schema n) g
      (step_sized rest (Optimizer.maybe_push_join schema n))

  filter_sized : (k rest : ℕ) → Sized (Room.maybe_push_filter room schema k rest) (Optimizer.maybe_push_filter schema k) (Sizes.maybe_push_filter schema k rest)
  unfolding Room.maybe_push_filter Optimizer.maybe_push_filter Sizes.maybe_push_filter
  filter_sized zero rest n = refl
  filter_sized (suc k) rest (leaf og l) = refl
  filter_sized (suc k) rest (over og (filter p) source) = go (push_into og p source) (filter_sized k rest)
    where
      again : Node → Answer Node
      again = Room.maybe_push_filter room schema k rest

      on : Node → Answer Node
      on pushed = Room.step room schema rest pushed >>= again >>= Room.maybe_push_join room schema rest

      plain : Node → Node
      plain pushed = Optimizer.maybe_push_join schema (Optimizer.maybe_push_filter schema k pushed)

      sizes : Node → List ℕ
      sizes pushed = (step rest pushed ++ Sizes.maybe_push_filter schema k rest pushed) ++ Sizes.maybe_push_join schema rest (Optimizer.maybe_push_filter schema k pushed)

      go : (o : Option Node) → Sized again (Optimizer.maybe_push_filter schema k) (Sizes.maybe_push_filter schema k rest)
          → go_on on (over og (filter p) source) o ≡ if_room (fit (if_pushed sizes o)) (Optimizer.go_on plain (over og (filter p) source) o)
      go none ih = refl
      go (some m) ih =
          let n = Optimizer.maybe_push_filter schema k m in
          let merged : (Room.step room schema rest m >>= again) ≡ if_room (fit (step rest m ++ Sizes.maybe_push_filter schema k rest m)) n =
          ap (λ (r : Answer Node). r >>= again) (step_sized rest m) ∙ then_sized (step rest m) (Sizes.maybe_push_filter schema k rest m) m n again (ih m) in
          ap (λ (r : Answer Node). r >>= Room.maybe_push_join room schema rest) merged
          ∙ then_sized (step rest m ++ Sizes.maybe_push_filter schema k rest m) (Sizes.maybe_push_join schema rest n) n (plain m) (Room.maybe_push_join room schema rest)
          (join_sized rest n)
  filter_sized (suc k) rest (over og (other o) source) = refl
  filter_sized (suc k) rest (join og outer j left right) = refl

  push_sized : (k rest : ℕ) → Sized (Room.push_filters room schema k rest) (Optimizer.push_filters schema k) (Sizes.push_filters schema k rest)
  push_sized k rest n =
      let m = Optimizer.maybe_push_filter schema k n in
      ap (λ (r : Answer Node). r >>= Room.maybe_push_join room schema rest) (filter_sized k rest n)
      ∙ then_sized (Sizes.maybe_push_filter schema k rest n) (Sizes.maybe_push_join schema rest m) m (Optimizer.maybe_push_join schema m)
      (Room.maybe_push_join room schema rest) (join_sized rest m)

  -- a node over a source, and a join, whose sources are visited in turn
  over_sized : (og : ℕ) (f : Node → Answer Node) (g : Node → Node) (sizes : List ℕ) (o : Over) (source : Node) → f source ≡ if_room (fit sizes) (g source)
      → (f source >>= λ s. done (over og o s)) ≡ if_room (fit sizes) (over og o (g source))
  over_sized og f g sizes o source h = ap (λ (r : Answer Node). r >>= λ s. done (over og o s)) h ∙ made (fit sizes) (g source) (over og o)

  both_sized : (og : ℕ) (f : ℕ → Node → Answer Node) (g : Node → Node) (sizes : ℕ → Node → List ℕ) (rest : ℕ) (outer : Bool) (j : Join) (left right : Node)
      → let on_left = rest + (node_size right + join_size j) in
      let on_right = rest + (node_size (g left) + join_size j) in
      f on_left left ≡ if_room (fit (sizes on_left left)) (g left)
      → (fit (sizes on_left left) ≡ true → f on_right right ≡ if_room (fit (sizes on_right right)) (g right))
      → (f on_left left >>= λ l. f (rest + (node_size l + join_size j)) right >>= λ r. done (join og outer j l r))
      ≡ if_room (fit (sizes on_left left ++ sizes on_right right)) (join og outer j (g left) (g right))
  both_sized og f g sizes rest outer j left right h k =
      let on_left = rest + (node_size right + join_size j) in
      let on_right = rest + (node_size (g left) + join_size j) in
      let then : Node → Answer Node = λ l. f (rest + (node_size l + join_size j)) right >>= λ r. done (join og outer j l r) in
      ap (λ (r : Answer Node). r >>= then) h
      ∙ then_if_fit (sizes on_left left) (sizes on_right right) (g left) (join og outer j (g left) (g right)) then
      (λ e. ap (λ (a : Answer Node). a >>= λ r. done (join og outer j (g left) r)) (k e) ∙ made (fit (sizes on_right right)) (g right) (join og outer j (g left)))

  sources_sized : (f : ℕ → Node → Answer Node) (g : Node → Node) (sizes : ℕ → Node → List ℕ) → ((i : ℕ) → Sized (f i) g (sizes i))
      → (rest : ℕ) → Sized (Room.each_source room schema f rest) (map_sources g) (Sizes.each_source schema g sizes rest)
  sources_sized f g sizes h rest (leaf og l) = refl
  sources_sized f g sizes h rest (over og o source) =
      over_sized og (f (rest + over_size o)) g (sizes (rest + over_size o) source) o source (h (rest + over_size o) source)
  sources_sized f g sizes h rest (join og outer j left right) =
      both_sized og f g sizes rest outer j left right (h (rest + (node_size right + join_size j)) left) (λ e. h (rest + (node_size (g left) + join_size j)) right)

  from_sized : (k rest : ℕ) → Sized (Room.push_filters_from room schema k rest) (Optimizer.push_filters_from schema k) (Sizes.push_filters_from schema k rest)
  unfolding Room.push_filters_from Optimizer.push_filters_from Sizes.push_filters_from
  from_sized zero rest n = refl
  from_sized (suc k) rest n =
      let m = Optimizer.push_filters schema (suc k) n in
      let f = Room.push_filters_from room schema k in
      let g = Optimizer.push_filters_from schema k in
      let sizes = Sizes.push_filters_from schema k in
      ap (λ (r : Answer Node). r >>= Room.each_source room schema f rest) (push_sized (suc k) rest n)
      ∙ then_sized (Sizes.push_filters schema (suc k) rest n) (Sizes.each_source schema g sizes rest m) m (map_sources g m) (Room.each_source room schema f rest)
      (sources_sized f g sizes (from_sized k) rest m)

  pushdown_sized : (rest : ℕ) → Sized (Room.FilterPushdown room schema rest) (Optimizer.FilterPushdown schema) (Sizes.FilterPushdown schema rest)
  unfolding Room.FilterPushdown Optimizer.FilterPushdown
  pushdown_sized rest n = from_sized (node_size n) rest n

  -- a higher bound on the recursion
  same_room : (s t : Bool) (a b : Node) → if_room s a ≡ if_room t b → s ≡ t
  same_room true true a b h = refl
  same_room true false a b h = not_done (sym h)
  same_room false true a b h = not_done h
  same_room false false a b h = refl

  pub bound_sized : (k rest : ℕ) (n : Node) → node_size n ≤ k → fit (Sizes.push_filters_from schema k rest n) ≡ fit (Sizes.FilterPushdown schema rest n)
  bound_sized k rest n h =
      let p = nodes_cells n in
      same_room (fit (Sizes.push_filters_from schema k rest n)) (fit (Sizes.FilterPushdown schema rest n)) (Optimizer.push_filters_from schema k n)
      (Optimizer.FilterPushdown schema n) (sym (from_sized k rest n) ∙ (pushdown_bound room schema k rest n (omega arith) ∙ pushdown_sized rest n))

  -- ---- IndexLookup

  leaf_sized : (og rest : ℕ) (l : Leaf) → Room.index_lookup room schema og rest l ≡ if_room (fit (normal_forms (scan_filter l) ++ step rest (Optimizer.index_lookup schema og l))) (Optimizer.index_lookup schema og l)
  unfolding Room.index_lookup
  leaf_sized og rest l = formed (scan_filter l) rest (leaf og l) (Optimizer.index_lookup schema og l)

  -- a visit that leaves the node as it is, and then those of its sources, which stay too
  stays : (rest : ℕ) (n : Node) → fit (step rest n ++ Sizes.each_source schema (λ (m : Node). m) step rest n) ≡ fit (step rest n)
  stays rest (leaf og l) = refl
  stays rest (over og o source) =
      let e : rest + over_size o + node_size source ≡ rest + (node_size source + over_size o) = omega arith in
      let b = leb (rest + (node_size source + over_size o)) room in
      ap (λ (c : ℕ). b && (leb c room && true)) e ∙ and_self_left b true
  stays rest (join og outer j left right) =
      let e : rest + (node_size right + join_size j) + node_size left ≡ rest + (node_size left + node_size right + join_size j) = omega arith in
      let f : rest + (node_size left + join_size j) + node_size right ≡ rest + (node_size left + node_size right + join_size j) = omega arith in
      let b = leb (rest + (node_size left + node_size right + join_size j)) room in
      ap (λ (c : ℕ). b && (leb c room && (leb (rest + (node_size left + join_size j) + node_size right) room && true))) e
      ∙ (ap (λ (c : ℕ). b && (b && (leb c room && true))) f ∙ (and_self_left b (b && true) ∙ and_self_left b true))

  lookup_sized : (rest : ℕ) (n : Node) → rest + node_size n ≤ room
      → Room.IndexLookup room schema rest n ≡ if_room (fit (Sizes.IndexLookup schema rest n)) (Optimizer.IndexLookup schema n)
  unfolding Room.IndexLookup Optimizer.IndexLookup
  lookup_sized rest (leaf og l) h =
      let m = Optimizer.index_lookup schema og l in
      let forms = normal_forms (scan_filter l) in
      let visits = step rest m ++ Sizes.each_source schema (λ (n : Node). n) step rest m in
      leaf_sized og rest l
      ∙ ap (λ (t : Bool). if_room t m) (fit_append forms (step rest m) ∙ (ap (λ (t : Bool). fit forms && t) (sym (stays rest m)) ∙ sym (fit_append forms visits)))
  lookup_sized rest (over og o source) h =
      let sizes = Sizes.IndexLookup schema (rest + over_size o) source in
      let m = over og o (Optimizer.IndexLookup schema source) in
      over_sized og (Room.IndexLookup room schema (rest + over_size o)) (Optimizer.IndexLookup schema) sizes o source
      (lookup_sized (rest + over_size o) source (omega arith))
      ∙ ap (λ (t : Bool). if_room t m) (sym (left_out (step rest (over og o source)) sizes (step_fits rest (over og o source) h)))
  lookup_sized rest (join og outer j left right) h =
      let f = Room.IndexLookup room schema in
      let g = Optimizer.IndexLookup schema in
      let on_left = rest + (node_size right + join_size j) in
      let on_right = rest + (node_size (g left) + join_size j) in
      let sizes = Sizes.IndexLookup schema on_left left ++ Sizes.IndexLookup schema on_right right in
      let on_the_left = lookup_sized on_left left (omega arith) in
      both_sized og f g (Sizes.IndexLookup schema) rest outer j left right on_the_left
      (λ e.
      let p = lookup_fits room schema on_left left (g left) (on_the_left ∙ ap (λ (t : Bool). if_room t (g left)) e) (omega arith) in
      lookup_sized on_right right (omega arith))
      ∙ ap (λ (t : Bool). if_room t (join og outer j (g left) (g right)))
      (sym (left_out (step rest (join og outer j left right)) sizes (step_fits rest (join og outer j left right) h)))

  -- ---- HashJoin

  pub hash_fits : (rest : ℕ) (n : Node) → rest + node_size n ≤ room → fit (Sizes.HashJoin schema rest n) ≡ true
  hash_fits rest (leaf og l) h = step_fits rest (leaf og l) h
  hash_fits rest (over og o source) h =
      left_out (step rest (over og o source)) (Sizes.HashJoin schema (rest + over_size o) source) (step_fits rest (over og o source) h)
      ∙ hash_fits (rest + over_size o) source (omega arith)
  hash_fits rest (join og outer j left right) h =
      let k = hash_join (columns schema left) j in
      let s = hash_join_smaller (columns schema left) j in
      let t = hash_smaller schema left in
      let on_left = Sizes.HashJoin schema (rest + (node_size right + join_size k)) left in
      let on_right = Sizes.HashJoin schema (rest + (node_size (Optimizer.HashJoin schema left) + join_size k)) right in
      left_out (step rest (join og outer k left right)) (on_left ++ on_right) (step_fits rest (join og outer k left right) (omega arith))
      ∙ (left_out on_left on_right (hash_fits (rest + (node_size right + join_size k)) left (omega arith))
      ∙ hash_fits (rest + (node_size (Optimizer.HashJoin schema left) + join_size k)) right (omega arith))

  -- ---- ShortCircuit

  circuit_step : (rest : ℕ) (n : Node) → Room.short_circuit room schema rest n ≡ if_room (fit (step rest (Optimizer.short_circuit schema n))) (Optimizer.short_circuit schema n)
  unfolding Room.short_circuit
  circuit_step rest n = step_sized rest (Optimizer.short_circuit schema n)

  circuit_sized : (rest : ℕ) → Sized (Room.ShortCircuit room schema rest) (Optimizer.ShortCircuit schema) (Sizes.ShortCircuit schema rest)
  unfolding Room.ShortCircuit
  circuit_sized rest (leaf og l) = circuit_step rest (leaf og l)
  circuit_sized rest (over og o source) =
      let s = Optimizer.ShortCircuit schema source in
      ap (λ (r : Answer Node). r >>= λ t. Room.short_circuit room schema rest (over og o t)) (circuit_sized (rest + over_size o) source)
      ∙ then_sized (Sizes.ShortCircuit schema (rest + over_size o) source) (step rest (Optimizer.short_circuit schema (over og o s))) s
      (Optimizer.short_circuit schema (over og o s)) (λ t. Room.short_circuit room schema rest (over og o t)) (circuit_step rest (over og o s))
  circuit_sized rest (join og outer j left right) =
      let l = Optimizer.ShortCircuit schema left in
      let r = Optimizer.ShortCircuit schema right in
      let on_left = rest + (node_size right + join_size j) in
      let on_right = rest + (node_size l + join_size j) in
      let last : Node → Node → Answer Node = λ x y. Room.short_circuit room schema rest (join og outer j x y) in
      let then : Node → Answer Node = λ x. Room.ShortCircuit room schema (rest + (node_size x + join_size j)) right >>= last x in
      let m = Optimizer.short_circuit schema (join og outer j l r) in
      ap (λ (a : Answer Node). a >>= then) (circuit_sized on_left left)
      ∙ then_sized (Sizes.ShortCircuit schema on_left left) (Sizes.ShortCircuit schema on_right right ++ step rest m) l m then
      (ap (λ (a : Answer Node). a >>= last l) (circuit_sized on_right right)
      ∙ then_sized (Sizes.ShortCircuit schema on_right right) (step rest m) r m (last l) (circuit_step rest (join og outer j l r)))

-- ---- one pass, and all five

module _ (schema : Schema) where
  roomy : (sizes : List ℕ) (m : Node) → if_room (fit max_cells schema sizes) m ≡ with_room sizes (done m)
  roomy sizes m = go (fit max_cells schema sizes)
    where
      go : (t : Bool) → if_room t m ≡ cond t (done m) (refused 14 0)
      go true = refl
      go false = refl

  -- a pass whose sizes all fit
  all_fit : (sizes : List ℕ) (r : Answer Node) → fit max_cells schema sizes ≡ true → r ≡ with_room sizes r
  all_fit sizes r h = sym (ap (λ (t : Bool). cond t r (refused 14 0)) h)

  pub pass_sized : (k : ℕ) (n : Node) → node_size n ≤ max_cells → Room.pass max_cells schema k n ≡ with_room (Sizes.pass schema k n) (Optimizer.pass schema k n)
  pass_sized zero n h = refl
  pass_sized (suc zero) n h = all_fit (Sizes.ConstantFolding 0 0 n) (Optimizer.ConstantFolding 0 n) (folding_fits max_cells schema 0 0 n (omega arith))
  pass_sized (suc (suc zero)) n h = pushdown_sized max_cells schema 0 n ∙ roomy (Sizes.FilterPushdown schema 0 n) _
  pass_sized (suc (suc (suc zero))) n h = lookup_sized max_cells schema 0 n (omega arith) ∙ roomy (Sizes.IndexLookup schema 0 n) _
  pass_sized (suc (suc (suc (suc zero)))) n h =
      all_fit (Sizes.HashJoin schema 0 n) (done (Optimizer.HashJoin schema n)) (hash_fits max_cells schema 0 n (omega arith))
  pass_sized (suc (suc (suc (suc (suc zero))))) n h = circuit_sized max_cells schema 0 n ∙ roomy (Sizes.ShortCircuit schema 0 n) _
  pass_sized (suc (suc (suc (suc (suc (suc k)))))) n h = refl

  -- the passes after ConstantFolding, with room and without
  abbrev from_hash : Node → Answer Node
  from_hash = in_turn ((λ n. done (Optimizer.HashJoin schema n)) ∷ Room.ShortCircuit max_cells schema 0 ∷ [])

  abbrev from_lookup : Node → Answer Node
  from_lookup = in_turn (Room.IndexLookup max_cells schema 0 ∷ (λ n. done (Optimizer.HashJoin schema n)) ∷ Room.ShortCircuit max_cells schema 0 ∷ [])

  abbrev from_pushdown : Node → Answer Node
  from_pushdown =
      in_turn (Room.FilterPushdown max_cells schema 0 ∷ Room.IndexLookup max_cells schema 0 ∷ (λ n. done (Optimizer.HashJoin schema n)) ∷ Room.ShortCircuit max_cells schema 0 ∷ [])

  abbrev plain_from_pushdown : Node → Answer Node
  plain_from_pushdown =
      in_turn ((λ n. done (Optimizer.FilterPushdown schema n)) ∷ (λ n. done (Optimizer.IndexLookup schema n)) ∷ (λ n. done (Optimizer.HashJoin schema n))
      ∷ (λ n. done (Optimizer.ShortCircuit schema n)) ∷ [])

  hash_sized : (n : Node) → node_size n ≤ max_cells → let h = Optimizer.HashJoin schema n in
      from_hash n ≡ if_room (fit max_cells schema (Sizes.HashJoin schema 0 n ++ Sizes.ShortCircuit schema 0 h)) (Optimizer.ShortCircuit schema h)
  hash_sized n i =
      let h = Optimizer.HashJoin schema n in
      let sizes = Sizes.ShortCircuit schema 0 h in
      let m = Optimizer.ShortCircuit schema h in
      ap (λ (r : Answer Node). r >>= in_turn []) (circuit_sized max_cells schema 0 h)
      ∙ (made max_cells schema (fit max_cells schema sizes) m (λ z. z)
      ∙ ap (λ (t : Bool). if_room t m) (sym (left_out max_cells schema (Sizes.HashJoin schema 0 n) sizes (hash_fits max_cells schema 0 n (omega arith)))))

  lookups_sized : (n : Node) → node_size n ≤ max_cells → let i = Optimizer.IndexLookup schema n in let h = Optimizer.HashJoin schema i in
      from_lookup n
      ≡ if_room (fit max_cells schema (Sizes.IndexLookup schema 0 n ++ (Sizes.HashJoin schema 0 i ++ Sizes.ShortCircuit schema 0 h))) (Optimizer.ShortCircuit schema h)
  lookups_sized n fits =
      let i = Optimizer.IndexLookup schema n in
      let h = Optimizer.HashJoin schema i in
      let sized = lookup_sized max_cells schema 0 n (omega arith) in
      ap (λ (r : Answer Node). r >>= from_hash) sized
      ∙ then_if_fit max_cells schema (Sizes.IndexLookup schema 0 n) (Sizes.HashJoin schema 0 i ++ Sizes.ShortCircuit schema 0 h) i (Optimizer.ShortCircuit schema h) from_hash
      (λ e. let p = lookup_fits max_cells schema 0 n i (sized ∙ ap (λ (t : Bool). if_room t i) e) (omega arith) in hash_sized i (omega arith))

  folded_sized : (r : Answer Node) → ((n : Node) → r ≡ done n → node_size n ≤ max_cells)
      → (r >>= from_pushdown) ≡ with_room (if_done r (Sizes.after_folding schema)) (r >>= plain_from_pushdown)
  folded_sized (refused number place) fits = refl
  folded_sized (done n) fits =
      let p = Optimizer.FilterPushdown schema n in
      let i = Optimizer.IndexLookup schema p in
      let h = Optimizer.HashJoin schema i in
      let sized = pushdown_sized max_cells schema 0 n in
      let small = fits n refl in
      ap (λ (r : Answer Node). r >>= from_lookup) sized
      ∙ (then_if_fit max_cells schema (Sizes.FilterPushdown schema 0 n) (Sizes.IndexLookup schema 0 p ++ (Sizes.HashJoin schema 0 i ++ Sizes.ShortCircuit schema 0 h)) p
      (Optimizer.ShortCircuit schema h) from_lookup
      (λ e. let q = pushdown_fits max_cells schema 0 n p (sized ∙ ap (λ (t : Bool). if_room t p) e) (omega arith) in lookups_sized p (omega arith))
      ∙ roomy (Sizes.after_folding schema n) (Optimizer.ShortCircuit schema h))

  pub optimize_sized : (n : Node) → node_size n ≤ max_cells → Room.optimize max_cells schema n ≡ with_room (Sizes.optimize schema n) (Optimizer.optimize schema n)
  optimize_sized n h =
      let r = Optimizer.ConstantFolding 0 n in
      let later = if_done r (Sizes.after_folding schema) in
      folded_sized r (λ m e. let s = folding_smaller 0 n m e in omega arith)
      ∙ ap (λ (t : Bool). cond t (Optimizer.optimize schema n) (refused 14 0))
      (sym (left_out max_cells schema (Sizes.ConstantFolding 0 0 n) later (folding_fits max_cells schema 0 0 n (omega arith))))
