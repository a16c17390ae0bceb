-- What each function has written, from what its calls have.
use Prim.Native.Nat.{ℕ, ◌+◌, ◌≤◌, ◌<◌}
use native.Mathlib.Omega.{arith}
use mathlib.Core.Bool.{Bool, true, false}
use mathlib.Core.Option.{Option, none, some}
use mathlib.Core.Path.{◌≡◌, refl, sym, ap, ◌∙◌, subst}
use mathlib.Core.List.{List, [], ◌∷◌, ◌++◌, append_assoc, append-nil}
use lib.ListN.{length, length-append}
use Rattle.std.specs.Prelude.{Some, None}
use Rattle.std.proofs.lemmas.Option.{none-some, same_Some}
use Rattle.sql.specs.Expression.{Expression, and, ands, and_vec}
use Rattle.sql.specs.Plan.{scan, lookup, nothing, values, filter, other, nested_loop, hash, Node, leaf, over, join, node_origin}
use Rattle.sql.specs.Optimizer.{for_left, for_right, push_into, pushed_or_back, push_part}
use Rattle.cells.specs.Cells.{cell_words, words, Part}
use Rattle.cells.specs.Room.{Wrote, Copies}
use Rattle.cells.proofs.Laws.{part_right, nothing as no_words, then, wrote_up, fits_to, no_more, full_already}
use Rattle.words.specs.Words.{cell, expression_words, optional_words, node_words, source_words, own_words, node_cell}
use Rattle.words.specs.Place.{ExpressionHere, ExpressionAt, NodeHere, NodeAt}
use Rattle.words.proofs.Nodes.{node_shape, node_in, node_long, source_part}
use Rattle.words.proofs.Sizes
use Rattle.nodes.specs.Own.{OwnStart}
use Rattle.conjuncts.specs.Conjuncts.{and_then, GatheredAt, Appends, JoinableAt, Joins, OptionalHere}
use Rattle.conjuncts.proofs.Appending.{words_long, join_full, appends_none, appends_one, joinable}
use Rattle.copied_lookups.specs.declared.Source.{Source}
use Rattle.copied_lookups.specs.declared.Source.TheVariants as Source
use Rattle.copied_lookups.specs.Copies.{LeftAt, PushesLeft, RightAt, PushesRight}
use Rattle.push_into.specs.Push.{is_some, Takes, PredicateWritten, Pushes}
use Rattle.push_into.proofs.Taking.{taken, not_taken, own_over, same_sources}
use Rattle.push_part.specs.Part.{part_for, own_end, WritesPart, WritesOwn, CloseableAt, Closes, PushesPart, ComesBack}

-- ---- the part for a source

-- with the other source's conjuncts
module _ (new n : ℕ) {s : List ℕ} {end : ℕ} {g : List ℕ} {m : ℕ} where
  pub left_at : ((e : Expression) → ExpressionHere s 0 end e → OptionalHere g 0 m (and_vec new (for_right n (ands e)))) → ExpressionAt s 0 end → LeftAt new n s 0 end g 0 m
  left_at h t = record { e = t.e; here = t.here; others = h t.e t.here }

  pub right_at : ((e : Expression) → ExpressionHere s 0 end e → OptionalHere g 0 m (and_vec new (for_left n (ands e)))) → ExpressionAt s 0 end → RightAt new n s 0 end g 0 m
  right_at h t = record { e = t.e; here = t.here; others = h t.e t.here }

module _ {into : Source} (new n shift : ℕ) {s : List ℕ} {end : ℕ} {g : List ℕ} {m : ℕ} {d : List ℕ} {at r : ℕ} {d' : List ℕ} where
  pub part_left : into ≡ Source.Left → ((e : Expression) → ExpressionHere s 0 end e → OptionalHere g 0 m (and_vec new (for_right n (ands e))))
      → PushesLeft new n s 0 end g 0 m d at r d' → WritesPart new into n shift s end d at r d'
  part_left q h f e u = subst (λ (i : Source). Wrote d at (optional_words (part_for new i n shift (ands e))) r d') (sym q) (f e u (h e u))

  pub part_right_side : into ≡ Source.Right → ((e : Expression) → ExpressionHere s 0 end e → OptionalHere g 0 m (and_vec new (for_left n (ands e))))
      → PushesRight new n shift s 0 end g 0 m d at r d' → WritesPart new into n shift s end d at r d'
  part_right_side q h f e u = subst (λ (i : Source). Wrote d at (optional_words (part_for new i n shift (ands e))) r d') (sym q) (f e u (h e u))

-- ---- where a node's own words start

pub own_in : {s : List ℕ} {lo hi m : ℕ} → NodeAt s lo hi → OwnStart s lo hi m → (lo ≤ m) × ((m ≤ hi) × (hi ≤ length s))
own_in t own =
    let e = own t.p t.here in
    let l = node_long t.p t.here in
    let (i, j) = node_in t.p t.here in
    (omega arith, (omega arith, j))

-- ---- a part that was written, as the next function asks for it

-- the first words
pub part_predicate : (new : ℕ) (into : Source) (n shift : ℕ) {cnf : List ℕ} {end : ℕ} {d : List ℕ} {m : ℕ} {d₁ : List ℕ} → ExpressionAt cnf 0 end → length d₁ ≡ length d → (m ≡ 0 → ⊥)
    → WritesPart new into n shift cnf end d 0 m d₁ → PredicateWritten d₁ 0 0 m
part_predicate new into n shift {d = d} {m} {d₁} t k i f = go (part_for new into n shift (ands t.e)) (f t.e t.here)
  where
    go : (o : Option Expression) → Wrote d 0 (optional_words o) m d₁ → PredicateWritten d₁ 0 0 m
    go none w = absurd (i (let (c, e) = fits_to w (omega arith) (omega arith) in omega arith))
    go (some x) w = record { d₀ = d; d₁ = d; b = []; e = x; same_before = refl; same = k; before = no_words d 0; predicate = w }

-- behind the sources
pub part_closeable : (new : ℕ) (into : Source) (n shift : ℕ) {s : List ℕ} {lo hi m : ℕ} {cnf : List ℕ} {end : ℕ} {d : List ℕ} {at a c : ℕ} {d₁ d₂ : List ℕ} → NodeAt s lo hi → ExpressionAt cnf 0 end
    → OwnStart s lo hi m → length d₁ ≡ length d → length d₂ ≡ length d₁ → Copies s lo m d at a d₁ → WritesPart new into n shift cnf end d₁ a c d₂ → CloseableAt d₂ at a c
part_closeable new into n shift {d = d} {d₁ = d₁} t x own k₁ k₂ g w =
    record {
      d₀ = d;
      d₁ = d₁;
      b = source_words t.p;
      o = part_for new into n shift (ands x.e);
      same_before = k₁;
      same = k₂;
      before = g (source_words t.p) (source_part t.p t.here (own t.p t.here));
      behind = w x.e x.here;
    }

pub closed_predicate : {d : List ℕ} {from mid at : ℕ} → at ≤ length d → (at ≡ mid → ⊥) → CloseableAt d from mid at → PredicateWritten d from mid at
closed_predicate {d} {from} {mid} {at} h i t = go t.o t.behind
  where
    go : (o : Option Expression) → Wrote t.d₁ mid (optional_words o) at d → PredicateWritten d from mid at
    go none w = absurd (i (omega (arith, wrote_up w (omega (arith, t.same)))))
    go (some x) w = record { d₀ = t.d₀; d₁ = t.d₁; b = t.b; e = x; same_before = t.same_before; same = t.same; before = t.before; predicate = w }

-- behind conjuncts
pub back_joinable : (new : ℕ) (into : Source) (n : ℕ) {cnf : List ℕ} {end : ℕ} {d : List ℕ} {from at m : ℕ} {d₁ : List ℕ} → ExpressionAt cnf 0 end → GatheredAt d from at → length d₁ ≡ length d
    → WritesPart new into n 0 cnf end d at m d₁ → (m ≡ at → ⊥) → m ≤ length d → JoinableAt d₁ from at m
back_joinable new into n {d = d} {from} {at} {m} {d₁} t g k f i h = go (part_for new into n 0 (ands t.e)) (f t.e t.here)
  where
    go : (o : Option Expression) → Wrote d at (optional_words o) m d₁ → JoinableAt d₁ from at m
    go none w = absurd (i (omega (arith, wrote_up w h)))
    go (some x) w = joinable g k x w

-- ---- a node with a part in its predicate

pushed_is : (new : ℕ) (e : Expression) (p q : Node) → push_into new e p ≡ some q → (push_part new (some e) p).0 ≡ q
pushed_is new e p q h = ap (λ (o : Option Node). (pushed_or_back e p o).0) h

-- It is no shorter than its sources and the part.
merged_long : (new : ℕ) (e : Expression) (p : Node) → is_some (push_into new e p) ≡ true → length (source_words p) + length (expression_words e) ≤ length (node_words (push_part new (some e) p).0)
merged_long new e (leaf og (scan t al none)) h = omega (arith, Sizes.words_long (leaf og (scan t al (some e))), Sizes.expression_long e)
merged_long new e (leaf og (scan t al (some q))) h = omega (arith, Sizes.words_long (push_part new (some e) (leaf og (scan t al (some q)))).0, Sizes.expression_long e)
merged_long new e (leaf og (lookup a t al vs)) h = absurd (let z : ◌≡◌ {A = ℕ} 0 1 = cc in omega arith)
merged_long new e (leaf og (nothing ls)) h = absurd (let z : ◌≡◌ {A = ℕ} 0 1 = cc in omega arith)
merged_long new e (leaf og (values rs)) h = absurd (let z : ◌≡◌ {A = ℕ} 0 1 = cc in omega arith)
merged_long new e (over og (filter q) n) h = omega (arith, Sizes.words_long (push_part new (some e) (over og (filter q) n)).0, Sizes.words_long n, Sizes.expression_long e)
merged_long new e (over og (other o) n) h = absurd (let z : ◌≡◌ {A = ℕ} 0 1 = cc in omega arith)
merged_long new e (join og outer (nested_loop none) l r) h =
    omega (arith, Sizes.words_long (join og outer (nested_loop (some e)) l r), length-append (node_words l) (node_words r), Sizes.words_long l, Sizes.words_long r, Sizes.expression_long e)
merged_long new e (join og outer (nested_loop (some q)) l r) h =
    omega (arith, Sizes.words_long (push_part new (some e) (join og outer (nested_loop (some q)) l r)).0, length-append (node_words l) (node_words r), Sizes.words_long l, Sizes.words_long r, Sizes.expression_long e)
merged_long new e (join og outer (hash i j) l r) h = absurd (let z : ◌≡◌ {A = ℕ} 0 1 = cc in omega arith)

-- the words of a node behind its sources
pub rest : Node → List ℕ
rest p = own_words p ++ words (cell (node_origin p) (node_cell p)) (length (source_words p ++ own_words p) + cell_words)

pub rest_is : (p : Node) → node_words p ≡ source_words p ++ rest p
unfolding rest
rest_is p = node_shape p ∙ append_assoc (source_words p) (own_words p) (words (cell (node_origin p) (node_cell p)) (length (source_words p ++ own_words p) + cell_words))

rest_part : {s : List ℕ} {lo hi m : ℕ} (p : Node) → NodeHere s lo hi p → m ≡ lo + length (source_words p) → Part s m hi (rest p)
rest_part {s} {lo} {hi} p u f = rw f (part_right (source_words p) (rest p) (subst (λ (w : List ℕ). Part s lo hi w) (rest_is p) u.part))

closed_long : (new : ℕ) (o : Option Expression) (p : Node) → ((e : Expression) → is_some (push_into new e p) ≡ true)
    → length (source_words p) + length (optional_words o) ≤ length (node_words (push_part new o p).0)
closed_long new none p h = omega (arith, ap length (rest_is p), length-append (source_words p) (rest p))
closed_long new (some e) p h = merged_long new e p (h e)

module _ (new : ℕ) {s : List ℕ} {lo hi : ℕ} {d : List ℕ} {from mid at : ℕ} where
  pub close_full : length d < at → Closes new s lo hi d from mid at at d
  close_full z p u h o d₀ d₁ l₁ l₂ v w =
      let f = then l₁ v w in
      let k = closed_long new o p h in
      let j = length-append (source_words p) (optional_words o) in
      no_more (omega arith) (omega arith) f

  module _ (z : at ≤ length d) where
    pub close_none : at ≡ mid → {m : ℕ} → OwnStart s lo hi m → {r : ℕ} {d' : List ℕ} → Copies s m hi d at r d' → Closes new s lo hi d from mid at r d'
    close_none i own {r} {d'} f p u h none d₀ d₁ l₁ l₂ v w =
        rw (rest_is p) (then l₁ v (then l₂ w (f (rest p) (rest_part p u (own p u)))))
    close_none i own f p u h (some e) d₀ d₁ l₁ l₂ v w = absurd (omega (arith, wrote_up w (omega arith), words_long e))

    pub close_some : (at ≡ mid → ⊥) → {r : ℕ} {d' : List ℕ} → Pushes new s lo hi d from mid at r d' → Closes new s lo hi d from mid at r d'
    close_some i f p u h none d₀ d₁ l₁ l₂ v w = absurd (i (omega (arith, wrote_up w (omega arith))))
    close_some i {r} {d'} f p u h (some e) d₀ d₁ l₁ l₂ v w =
        let t = taken new e p (h e) in
        subst (λ (q : Node). Wrote d₀ from (node_words q) r d') (sym (pushed_is new e p t.pushed t.is))
        (subst (λ (b : List ℕ). Wrote d₀ from b r d')
        (ap (λ (b : List ℕ). own_over b t.pushed) (same_sources new e p t.pushed t.is) ∙ sym (node_shape t.pushed))
        (f.writes e p t.pushed u t.is d₀ d₁ (source_words p) l₁ l₂ v w))

-- ---- a source with its part of the predicate

refused_is : (new : ℕ) (o : Option Expression) (p : Node) → ((e : Expression) → is_some (push_into new e p) ≡ false) → (push_part new o p).0 ≡ p
refused_is new none p h = refl
refused_is new (some e) p h = ap (λ (q : Option Node). (pushed_or_back e p q).0) (not_taken new e p (h e))

module _ (new : ℕ) (into : Source) (n shift : ℕ) {s : List ℕ} {lo hi : ℕ} {cnf : List ℕ} {end : ℕ} {b : Bool} (f : Takes s lo hi b) where
  pub push_taken : b ≡ true → {m : ℕ} → OwnStart s lo hi m → {d : List ℕ} {at a c r : ℕ} {d₁ d₂ d₃ : List ℕ} → length d₁ ≡ length d → length d₂ ≡ length d₁
      → Copies s lo m d at a d₁ → WritesPart new into n shift cnf end d₁ a c d₂ → Closes new s lo hi d₂ at a c r d₃ → PushesPart new into n shift s lo hi cnf end d at r d₃
  push_taken z own {d} {d₁ = d₁} k₁ k₂ g w cl p u e v =
      cl p u (λ x. sym (f new p x u) ∙ z) (part_for new into n shift (ands e)) d d₁ k₁ k₂ (g (source_words p) (source_part p u (own p u))) (w e v)

  pub push_refused : b ≡ false → {d : List ℕ} {at r : ℕ} {d' : List ℕ} → Copies s lo hi d at r d' → PushesPart new into n shift s lo hi cnf end d at r d'
  push_refused z g p u e v = rw (refused_is new (part_for new into n shift (ands e)) p (λ x. sym (f new p x u) ∙ z)) (g (node_words p) u.part)

-- ---- the own words of a source with its part

-- its sources stay
pub sources_stay : (new : ℕ) (o : Option Expression) (p : Node) → source_words p ≡ source_words (push_part new o p).0
sources_stay new none p = refl
sources_stay new (some e) p = go (push_into new e p) refl
  where
    go : (q : Option Node) → push_into new e p ≡ q → source_words p ≡ source_words (pushed_or_back e p q).0
    go none i = refl
    go (some q) i = same_sources new e p q i

pub own_end_long : (p : Node) → cell_words ≤ length (own_end p)
own_end_long p = omega (arith, Sizes.sized_long (own_words p) (cell (node_origin p) (node_cell p)))

module _ (new : ℕ) (into : Source) (n shift : ℕ) {s : List ℕ} {lo hi : ℕ} {cnf : List ℕ} {end : ℕ} {b : Bool} (f : Takes s lo hi b) where
  pub own_refused : b ≡ false → {d : List ℕ} → WritesOwn new into n shift s lo hi cnf end d None d
  own_refused z =
      record { same = λ i p u e v. refused_is new (part_for new into n shift (ands e)) p (λ a. sym (f new p a u) ∙ z); own = λ k i. absurd (none-some k i) }

  module _ {d : List ℕ} {m : ℕ} {d₁ : List ℕ} (w : WritesPart new into n shift cnf end d 0 m d₁) where
    pub own_nothing : m ≡ 0 → WritesOwn new into n shift s lo hi cnf end d None d₁
    own_nothing i = record { same = λ j p u e v. go (part_for new into n shift (ands e)) p (w e v); own = λ k j. absurd (none-some k j) }
      where
        go : (o : Option Expression) (p : Node) → Wrote d 0 (optional_words o) m d₁ → (push_part new o p).0 ≡ p
        go none p g = refl
        go (some a) p g = absurd (omega (arith, wrote_up g (omega arith), words_long a))

    pub own_taken : b ≡ true → (m ≡ 0 → ⊥) → length d₁ ≡ length d → {r : ℕ} {d₂ : List ℕ} → Pushes new s lo hi d₁ 0 0 m r d₂ → WritesOwn new into n shift s lo hi cnf end d (Some r) d₂
    own_taken z i k {r} {d₂} g =
        record {
          same = λ j. absurd (none-some r (sym j));
          own = λ q j p u e v. subst (λ (h : ℕ). Wrote d 0 (own_end (push_part new (part_for new into n shift (ands e)) p).0) h d₂) (same_Some r q j) (wrote p u e v);
        }
      where
        go : (p : Node) → NodeHere s lo hi p → (o : Option Expression) → Wrote d 0 (optional_words o) m d₁ → Wrote d 0 (own_end (push_part new o p).0) r d₂
        go p u none j = absurd (i (let (c, e) = fits_to j (omega arith) (omega arith) in omega arith))
        go p u (some a) j =
            let q = taken new a p (sym (f new p a u) ∙ z) in
            subst (λ (t : Node). Wrote d 0 (own_end t) r d₂) (sym (pushed_is new a p q.pushed q.is))
            (g.writes a p q.pushed u q.is d d [] refl k (no_words d 0) j)

        wrote : (p : Node) → NodeHere s lo hi p → (e : Expression) → ExpressionHere cnf 0 end e → Wrote d 0 (own_end (push_part new (part_for new into n shift (ands e)) p).0) r d₂
        wrote p u e v = go p u (part_for new into n shift (ands e)) (w e v)

-- ---- what comes back

abbrev optional_list : Option Expression → List Expression
optional_list none = []
optional_list (some e) = e ∷ []

back_none : (new : ℕ) (o : Option Expression) (p : Node) → ((e : Expression) → is_some (push_into new e p) ≡ true) → (push_part new o p).1 ≡ []
back_none new none p h = refl
back_none new (some e) p h = ap (λ (q : Option Node). (pushed_or_back e p q).1) (taken new e p (h e)).is

pub back_is : (new : ℕ) (o : Option Expression) (p : Node) → ((e : Expression) → is_some (push_into new e p) ≡ false) → (push_part new o p).1 ≡ optional_list o
back_is new none p h = refl
back_is new (some e) p h = ap (λ (q : Option Node). (pushed_or_back e p q).1) (not_taken new e p (h e))

and_then_holds : (new : ℕ) (acc : Option Expression) (x : Expression) → length (optional_words acc ++ expression_words x) ≤ length (optional_words (and_then new acc x))
and_then_holds new none x = omega arith
and_then_holds new (some a) x =
    omega (arith, length-append (expression_words a) (expression_words x), Sizes.expression_long a, Sizes.expression_long x, Sizes.expression_long (and new a x))

module _ (new : ℕ) (into : Source) (n : ℕ) {s : List ℕ} {lo hi : ℕ} {cnf : List ℕ} {end : ℕ} {b : Bool} (f : Takes s lo hi b) {d : List ℕ} {from at : ℕ} where
  pub back_taken : b ≡ true → ComesBack new into n s lo hi cnf end d from at at d
  back_taken z p u e v = rw (back_none new (part_for new into n 0 (ands e)) p (λ x. sym (f new p x u) ∙ z)) (appends_none new)

  module _ (z : b ≡ false) where
    by_part : {r : ℕ} {d' : List ℕ} → ((e : Expression) → ExpressionHere cnf 0 end e → Appends new d from at (optional_list (part_for new into n 0 (ands e))) r d')
        → ComesBack new into n s lo hi cnf end d from at r d'
    by_part {r} {d'} g p u e v =
        subst (λ (xs : List Expression). Appends new d from at xs r d') (sym (back_is new (part_for new into n 0 (ands e)) p (λ x. sym (f new p x u) ∙ z))) (g e v)

    pub back_full : length d < at → ComesBack new into n s lo hi cnf end d from at at d
    back_full h = by_part (λ e v. go (part_for new into n 0 (ands e)))
      where
        go : (o : Option Expression) → Appends new d from at (optional_list o) at d
        go none = appends_none new
        go (some x) = λ d₀ acc l w. join_full new h d₀ d acc x l refl w (full_already h)

    module _ (h : at ≤ length d) {m : ℕ} {d₁ : List ℕ} (k : length d₁ ≡ length d) (w : WritesPart new into n 0 cnf end d at m d₁) where
      pub back_nothing : m ≡ at → ComesBack new into n s lo hi cnf end d from at at d₁
      back_nothing i = by_part (λ e v. go (part_for new into n 0 (ands e)) (w e v))
        where
          go : (o : Option Expression) → Wrote d at (optional_words o) m d₁ → Appends new d from at (optional_list o) at d₁
          go none g = λ d₀ acc l v.
              subst (λ (j : ℕ). Wrote d₀ from (optional_words acc) j d₁) i
              (subst (λ (x : List ℕ). Wrote d₀ from x m d₁) (append-nil (optional_words acc)) (then l v g))
          go (some x) g = absurd (omega (arith, wrote_up g (omega arith), words_long x))

      pub back_long : length d < m → ComesBack new into n s lo hi cnf end d from at m d₁
      back_long i = by_part (λ e v. go (part_for new into n 0 (ands e)) (w e v))
        where
          go : (o : Option Expression) → Wrote d at (optional_words o) m d₁ → Appends new d from at (optional_list o) m d₁
          go none g = λ d₀ acc l v. subst (λ (x : List ℕ). Wrote d₀ from x m d₁) (append-nil (optional_words acc)) (then l v g)
          go (some x) g = λ d₀ acc l v. no_more (omega arith) (and_then_holds new acc x) (then l v g)

      pub back_one : (m ≡ at → ⊥) → m ≤ length d → {r : ℕ} {d₂ : List ℕ} → Joins new d₁ from at m r d₂ → ComesBack new into n s lo hi cnf end d from at r d₂
      back_one i f {r} {d₂} j = by_part (λ e v. go (part_for new into n 0 (ands e)) (w e v))
        where
          go : (o : Option Expression) → Wrote d at (optional_words o) m d₁ → Appends new d from at (optional_list o) r d₂
          go none g = absurd (i (omega (arith, wrote_up g f)))
          go (some x) g = appends_one k new x g j
