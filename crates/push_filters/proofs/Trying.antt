-- Laws on the node that is tried: how it stands there, what a merge makes of that, and the ways out of maybe_push_filter and push_filters.
use Prim.Native.Nat.{ℕ, ◌+◌, ◌-◌, ◌≤◌, ◌<◌}
use native.Mathlib.Omega.{arith}
use mathlib.Core.Bool.{Bool, true, false}
use mathlib.Core.Path.{◌≡◌, refl, sym, ap, ◌∙◌, subst}
use mathlib.Core.List.{List, [], ◌++◌, append_assoc}
use mathlib.Core.Option.{none, some}
use lib.ListN.{length, length-append}
use Rattle.sql.specs.Schema.{Schema}
use Rattle.sql.specs.Expression.{Expression, and}
use Rattle.sql.specs.Plan.{filter, other, Node, leaf, over, join, node_size}
use Rattle.sql.specs.Answer.{Answer, done}
use Rattle.sql.specs.Room.{maybe_push_join, maybe_push_filter, push_filters}
use Rattle.cells.specs.Cells.{cell_words, words, sized, tag_at, origin_at}
use Rattle.cells.specs.Room.{Short, Wrote, Seals, Copies}
use Rattle.cells.proofs.Laws.{nothing, then, fits_to}
use Rattle.words.specs.Words.{cell, expression_words, over_cell, node_words}
use Rattle.words.specs.Place.{NodeHere, NodeAt}
use Rattle.words.proofs.Sizes.{sized_long, words_long}
use Rattle.words.proofs.Writing.{plain}
use Rattle.words.proofs.Nodes.{node_tag, node_in, node_long, own_part}
use Rattle.words.proofs.Tags.{tag_of, tagged, by_filter}
use Rattle.nodes.specs.Own.{OwnStart}
use Rattle.edit.specs.Edit.{Holds, Held, Left, Placed, ReplacesOwn}
use Rattle.edit.proofs.Edits.{total, holds_here, shares_next, left_done, left_stop, left_go, left_map, left_with}
use Rattle.kept.specs.Kept.{Kept, kept}
use Rattle.kept.specs.Pass.{PassAt, Passes}
use Rattle.conjuncts.proofs.Appending as conjuncts
use Rattle.push_into.specs.Push.{Takes, PredicateWritten, PushesInPlace}
use Rattle.push_into.proofs.Taking.{origin_here, taken, not_taken, by_taker}
use Rattle.push_filters.specs.Tried.{Gathered, Stands, TriedAt, Tries, Gathers, Filters}
use Rattle.push_filters.proofs.Merging.{merge, merge_smaller, merge_keeps, none_left, not_merged, merged_is}

-- ---- the words of predicates and Filters

and_words : (og : ℕ) (e q : Expression) → sized (expression_words e ++ expression_words q) (plain og 10) ≡ expression_words (and og e q)
unfolding cell expression_words
and_words og e q = refl

and_long : (og : ℕ) (e q : Expression) → length (expression_words (and og e q)) ≡ length (expression_words e) + length (expression_words q) + cell_words
and_long og e q =
    omega (arith, ap length (and_words og e q), sized_long (expression_words e ++ expression_words q) (plain og 10), length-append (expression_words e) (expression_words q))

abbrev last : ℕ → Expression → Node → List ℕ
last og e source = words (cell og (over_cell (filter e))) (length (node_words source ++ expression_words e) + cell_words)

filter_words : (og : ℕ) (e : Expression) (source : Node) → node_words (over og (filter e) source) ≡ node_words source ++ (expression_words e ++ last og e source)
unfolding node_words
filter_words og e source = append_assoc (node_words source) (expression_words e) (last og e source)

filter_long : (og : ℕ) (e : Expression) (source : Node) → length (node_words (over og (filter e) source)) ≡ length (node_words source) + length (expression_words e) + cell_words
filter_long og e source =
    omega (arith, ap length (filter_words og e source), length-append (node_words source) (expression_words e ++ last og e source), length-append (expression_words e) (last og e source))

-- ---- gather and filter_over
pub gathers : (new : ℕ) {x : List ℕ} {lo hi : ℕ} {y y₁ y₂ : List ℕ} {at m r : ℕ} → length y₁ ≡ length y → Copies x lo hi y at m y₁ → Seals y₁ 0 m (plain new 10) r y₂
    → Gathers new x lo hi y at r y₂
gathers new {y = y} {y₂ = y₂} {r = r} k c s e q u w =
    subst (λ (b : List ℕ). Wrote y 0 b r y₂) (and_words new e q)
    (s y (expression_words e ++ expression_words q) k (then refl w (c (expression_words q) u.part)))

pub filtered : (og : ℕ) (x : List ℕ) (t : ℕ) {lo end tail : ℕ} {y y₁ : List ℕ} {n m r : ℕ} {x' : List ℕ} → length y₁ ≡ length y → Seals y 0 n (plain og 51) m y₁
    → ReplacesOwn x y₁ m t lo end tail r x' → Filters og x y n t lo end tail r x'
unfolding cell node_words
filtered og x t {y = y} k s f e source pre gone post w a b c v =
    f pre (node_words source) gone post w a b c y (expression_words e) (plain og 51) (length (expression_words e) + cell_words) k (s y (expression_words e) refl v)

-- where a node's own words stand
pub own_ends : {x : List ℕ} {lo hi own : ℕ} → OwnStart x lo hi own → NodeAt x lo hi → (own ≤ hi - cell_words) × (hi - cell_words ≤ length x)
own_ends o g =
    (omega (arith, o g.p g.here, node_long g.p g.here), omega (arith, (node_in g.p g.here).1))

-- a node that isn't larger has room in the place of another
placed_holds : {x₁ : List ℕ} {t lo tail u : ℕ} {pre post : List ℕ} (p q : Node) → lo + length (node_words p) + tail ≤ t → t ≤ length x₁
    → length pre ≡ lo → length post ≡ tail → node_size q ≤ node_size p → Short x₁ → Placed x₁ u pre post (node_words q) → Holds x₁ u lo tail pre post q
placed_holds {x₁ = x₁} {pre = pre} {post = post} p q a i b c s k f =
    let l = length-append (node_words q) post in
    let r : length pre + length (node_words q ++ post) ≤ length x₁ = omega (arith, words_long p, words_long q) in
    let h = f.room k r in
    record { whole = (f.is h).1; low = b; high = c; inside = h }

-- ---- a Filter that was gathered
module _ {x y : List ℕ} {at end t lo tail : ℕ} {pre post : List ℕ} {e : Expression} {source : Node} (g : Gathered x y at end t lo tail pre post e source) where
  below_holds : Holds x t lo (length (g.gone ++ post)) pre (g.gone ++ post) source
  below_holds = record { whole = g.whole; low = g.low; high = refl; inside = g.inside }

  below_here : NodeHere x lo end source
  below_here =
      let a = (holds_here below_holds).part in
      record { part = record { before = a.before; after = a.after; whole = a.whole; low = a.low; high = g.below } }

  below_in : (lo ≤ end) × ((end + tail ≤ t) × (t ≤ length x))
  below_in = (omega (arith, g.below), (omega (arith, total below_holds, length-append g.gone post, g.below, g.high), g.inside))

  gathered_in : (og : ℕ) → lo + length (node_words (over og (filter e) source)) + tail ≤ t
  gathered_in og = omega (arith, filter_long og e source, total below_holds, length-append g.gone post, g.high, g.fits, g.long)

  gathered_wrote : Wrote y 0 (expression_words e) at y
  gathered_wrote = record { is = λ h. (omega (arith, g.long), g.predicate); room = λ s h. omega (arith, g.long) }

-- ---- the node that stands there
module _ {x y : List ℕ} {at end t lo tail origin : ℕ} {pre post : List ℕ} where
  -- with nothing gathered it is no Filter
  none_gathered : at ≡ 0 → (p : Node) → Stands x y at end t lo tail origin pre post p → Holds x t lo tail pre post p × (merge p ≡ none)
  none_gathered z (leaf og l) s = (s.is.1, refl)
  none_gathered z (over og (filter e) source) s = absurd (omega (arith, s.is.1.long, conjuncts.words_long e))
  none_gathered z (over og (other o) source) s = (s.is.1, refl)
  none_gathered z (join og outer j l r) s = (s.is.1, refl)

  stands_plain : (p : Node) → (tag_of p ≡ 51 → ⊥) → at ≡ 0 → Holds x t lo tail pre post p → Stands x y at end t lo tail origin pre post p
  stands_plain (leaf og l) n z h = record { is = (z, h) }
  stands_plain (over og (filter e) source) n z h = absurd (n refl)
  stands_plain (over og (other o) source) n z h = record { is = (z, h) }
  stands_plain (join og outer j l r) n z h = record { is = (z, h) }

  stands_low : (p : Node) → Stands x y at end t lo tail origin pre post p → length pre ≡ lo
  stands_low (leaf og l) s = s.is.1.low
  stands_low (over og (filter e) source) s = s.is.1.low
  stands_low (over og (other o) source) s = s.is.1.low
  stands_low (join og outer j l r) s = s.is.1.low

  stands_high : (p : Node) → Stands x y at end t lo tail origin pre post p → length post ≡ tail
  stands_high (leaf og l) s = s.is.1.high
  stands_high (over og (filter e) source) s = s.is.1.high
  stands_high (over og (other o) source) s = s.is.1.high
  stands_high (join og outer j l r) s = s.is.1.high

  when_gathered : (at ≡ 0 → ⊥) → (P : Node → Type 0) → ((e : Expression) (source : Node) → Gathered x y at end t lo tail pre post e source → P (over origin (filter e) source))
      → (p : Node) → Stands x y at end t lo tail origin pre post p → P p
  when_gathered z P f (leaf og l) s = absurd (z s.is.0)
  when_gathered z P f (over og (filter e) source) s = subst (λ (o : ℕ). P (over o (filter e) source)) s.is.0 (f e source s.is.1)
  when_gathered z P f (over og (other o) source) s = absurd (z s.is.0)
  when_gathered z P f (join og outer j l r) s = absurd (z s.is.0)

-- ---- a merge: what comes of the node stands there
pub record Merged (p : Node) (Next : Node → Type 0) : Type 0 where
  pub q : Node
  pub is : merge p ≡ some q
  pub stands : Next q

abbrev pub Merges : (x y : List ℕ) (at end t lo tail origin : ℕ) (x₁ y₁ : List ℕ) (at₁ end₁ t₁ origin₁ : ℕ) → Type 0
Merges x y at end t lo tail origin x₁ y₁ at₁ end₁ t₁ origin₁ =
    Short x → (pre post : List ℕ) (p : Node) → Stands x y at end t lo tail origin pre post p → Merged p (Stands x₁ y₁ at₁ end₁ t₁ lo tail origin₁ pre post)

module _ {x y : List ℕ} {at end t lo tail origin : ℕ} (z : at ≡ 0 → ⊥) where
  -- what is below the Filter
  module _ {records : List ℕ} (g : TriedAt records x y at end t lo tail origin) where
    pub tried_below : NodeAt x lo end
    tried_below = when_gathered z (λ p. NodeAt x lo end) (λ e source h. record { p = source; here = below_here h }) g.p g.stands

    pub tried_in : (lo ≤ end) × ((end + tail ≤ t) × (t ≤ length x))
    tried_in =
        when_gathered z (λ p. (lo ≤ end) × ((end + tail ≤ t) × (t ≤ length x))) (λ e source h. below_in h) g.p g.stands

    pub tried_predicate : PredicateWritten y 0 0 at
    tried_predicate =
        when_gathered z (λ p. PredicateWritten y 0 0 at)
        (λ e source h. record { d₀ = y; d₁ = y; b = []; e = e; same_before = refl; same = refl; before = nothing y 0; predicate = gathered_wrote h }) g.p g.stands

  -- another Filter: it is gathered
  gathers_next : {og : ℕ} {e q : Expression} {p : Node} {pre post : List ℕ} → Gathered x y at end t lo tail pre post e (over og (filter q) p) → {own : ℕ} → OwnStart x lo end own
      → length y ≡ length x → Short x → {more : ℕ} {y₁ : List ℕ} → Gathers origin x own (end - cell_words) y at more y₁ → Gathered x y₁ more own t lo tail pre post (and origin e q) p
  gathers_next {og} {e} {q} {p} {pre} {post} h {own} o k s c =
      let f = over og (filter q) p in
      let i = o f (below_here h) in
      let w = c e q (record { part = own_part f (below_here h) i }) (gathered_wrote h) in
      let l = and_long origin e q in
      let lg = length-append (expression_words q) (last og q p ++ h.gone) in
      let ll = length-append (last og q p) h.gone in
      let n : length (expression_words (and origin e q)) ≤ length x = omega (arith, gathered_in h origin, filter_long origin e f, filter_long og q p, h.inside) in
      let (a, b) = fits_to w (omega arith) (omega arith) in
      record {
        gone = expression_words q ++ (last og q p ++ h.gone);
        whole = h.whole ∙ ap (λ (v : List ℕ). pre ++ (v ++ (h.gone ++ post))) (filter_words og q p) ∙ simp append_assoc;
        low = h.low;
        below = sym i;
        high = h.high;
        inside = h.inside;
        long = omega arith;
        predicate = b;
        fits = omega (arith, h.long, h.fits);
      }

  pub merges_filter : tag_at x end ≡ 51 → {own : ℕ} → OwnStart x lo end own → length y ≡ length x → {more : ℕ} {y₁ : List ℕ} → Gathers origin x own (end - cell_words) y at more y₁
      → {below : ℕ} → below ≡ origin_at x end → Merges x y at end t lo tail origin x y₁ more own t below
  merges_filter i {own} o k {more} {y₁} c {below} j short pre post =
      when_gathered z (λ p. Merged p (Stands x y₁ more own t lo tail below pre post)) (λ e source h.
      by_filter (λ source. Gathered x y at end t lo tail pre post e source → Merged (over origin (filter e) source) (Stands x y₁ more own t lo tail below pre post))
      (λ og q p g. record { q = over og (filter (and origin e q)) p; is = refl; stands = record { is = (j ∙ origin_here (over og (filter q) p) (below_here g), gathers_next g o k short c) } })
      source (sym (tagged source) ∙ sym (node_tag source (below_here h)) ∙ i) h)

  -- a node that takes the predicate, and is no Filter
  pub merges_into : (tag_at x end ≡ 51 → ⊥) → {b : Bool} → Takes x lo end b → b ≡ true → {u : ℕ} {x₁ : List ℕ} → length x₁ ≡ length x
      → PushesInPlace origin x y at t lo end tail u x₁ → (y₁ : List ℕ) (end₁ origin₁ : ℕ) → Merges x y at end t lo tail origin x₁ y₁ 0 end₁ u origin₁
  merges_into i a j {u} {x₁} k f y₁ end₁ origin₁ short pre post =
      when_gathered z (λ p. Merged p (Stands x₁ y₁ 0 end₁ u lo tail origin₁ pre post)) (λ e source h.
      let o = taken origin e source (sym (a origin source e (below_here h)) ∙ j) in
      let v = f e source o.pushed pre h.gone post h.whole h.low h.below h.high o.is y refl (gathered_wrote h) in
      let p = over origin (filter e) source in
      let no_filter =
      by_taker origin e (λ source pushed. (tag_of source ≡ 51 → ⊥) → tag_of pushed ≡ 51 → ⊥) (λ og t al q n m. absurd (omega arith)) (λ og q s n m. n refl) (λ og outer q l r n m. absurd (omega arith)) source o.pushed o.is
      (λ m. i (node_tag source (below_here h) ∙ tagged source ∙ m)) in
      record {
        q = o.pushed;
        is = o.is;
        stands =
            stands_plain o.pushed no_filter refl (placed_holds p o.pushed (gathered_in h origin) (omega (arith, h.inside)) h.low h.high (merge_smaller p o.pushed o.is) (omega arith) v);
      })

  -- the Filter stays: it takes its place
  module _ (n : ℕ) {records : List ℕ} {r : ℕ} {x' : List ℕ} (k : length x' ≡ length x) (f : Filters origin x y at t lo end tail r x') where
    stays : ((room : ℕ) (schema : Schema) (rest : ℕ) (e : Expression) (source : Node) → NodeHere x lo end source
        → maybe_push_filter room schema n rest (over origin (filter e) source) ≡ done (over origin (filter e) source))
        → Tries (λ room schema. maybe_push_filter room schema n) records x y at end t lo tail origin r x'
    stays same schema text tables given room rest s pre post p fit h =
        when_gathered z (λ p. Kept schema text tables p p → Left (Kept schema text tables p) x' r pre post (maybe_push_filter room schema n rest p)) (λ e source h fit.
        let p = over origin (filter e) source in
        let v = f e source pre h.gone post h.whole h.low h.below h.high (gathered_wrote h) in
        subst (Left (Kept schema text tables p) x' r pre post) (sym (same room schema rest e source (below_here h)))
        (left_done p fit (placed_holds p p (gathered_in h origin) (omega (arith, h.inside)) h.low h.high (omega arith) (omega (arith, s.short)) v)))
        p h fit

    pub filter_last : n ≡ 0 → Tries (λ room schema. maybe_push_filter room schema n) records x y at end t lo tail origin r x'
    filter_last i = stays (λ room schema rest e source u. none_left room schema n rest (over origin (filter e) source) i)

    pub filter_stays : {b : Bool} → Takes x lo end b → b ≡ false → Tries (λ room schema. maybe_push_filter room schema n) records x y at end t lo tail origin r x'
    filter_stays a j =
        stays (λ room schema rest e source u. not_merged room schema n rest (over origin (filter e) source) (not_taken origin e source (sym (a origin source e u) ∙ j)))

-- no Filter
pub no_filter : (n : ℕ) {records x y : List ℕ} {at end t lo tail origin : ℕ} → at ≡ 0 → Tries (λ room schema. maybe_push_filter room schema n) records x y at end t lo tail origin t x
no_filter n {x = x} {t = t} z schema text tables given room rest s pre post p fit h =
    let (a, b) = none_gathered z p h in
    subst (Left (Kept schema text tables p) x t pre post) (sym (not_merged room schema n rest p b)) (left_done p fit a)

-- ---- what is asked for after a merge, and what the push of the rest does
module _ {records x y : List ℕ} {at end t lo tail origin : ℕ} (z : at ≡ 0 → ⊥) {x₁ y₁ : List ℕ} {at₁ end₁ t₁ origin₁ : ℕ} (k : length x₁ ≡ length x)
    (m : Merges x y at end t lo tail origin x₁ y₁ at₁ end₁ t₁ origin₁) where
  pub merged_at : TriedAt records x y at end t lo tail origin → TriedAt records x₁ y₁ at₁ end₁ t₁ lo tail origin₁
  merged_at g =
      let n = m g.shares.short g.pre g.post g.p g.stands in
      record {
        schema = g.schema;
        text = g.text;
        tables = g.tables;
        given = g.given;
        short = omega (arith, g.short);
        room = g.room;
        rest = g.rest;
        shares = shares_next k g.shares;
        pre = g.pre;
        post = g.post;
        p = n.q;
        fit = (kept g.schema g.text g.tables).end g.p n.q (merge_keeps g.schema g.text g.tables g.p n.q n.is g.fit);
        stands = n.stands;
      }

  pub merged_tries : (n : ℕ) → (n ≡ 0 → ⊥) → {r : ℕ} {x' : List ℕ} → Tries (λ room schema. push_filters room schema (n - 1)) records x₁ y₁ at₁ end₁ t₁ lo tail origin₁ r x'
      → Tries (λ room schema. maybe_push_filter room schema n) records x y at end t lo tail origin r x'
  merged_tries n i {r} {x'} a schema text tables given room rest s pre post p fit h =
      let b = m s.short pre post p h in
      let c = merge_keeps schema text tables p b.q b.is fit in
      let fits = kept schema text tables in
      let enough : rest + node_size p ≤ room = when_gathered z (λ p. rest + node_size p ≤ room) (λ e source g. omega (arith, gathered_in g origin, g.inside, words_long (over origin (filter e) source), s.all, s.outside)) p h in
      subst (Left (Kept schema text tables p) x' r pre post) (merged_is room schema n rest p b.q i b.is enough)
      (left_map (push_filters room schema (n - 1) rest b.q) (λ q j. fits.through p b.q q c j)
      (a schema text tables given room rest (shares_next k s) pre post b.q (fits.end p b.q c) b.stands))

-- ---- push_filters: maybe_push_filter, then the join rule
module _ (n : ℕ) {records x y : List ℕ} {at end t lo tail origin u : ℕ} {x₁ : List ℕ}
    (a : Tries (λ room schema. maybe_push_filter room schema n) records x y at end t lo tail origin u x₁) where
  pub push_full : length x₁ < u → Tries (λ room schema. push_filters room schema n) records x y at end t lo tail origin u x₁
  push_full z schema text tables given room rest s pre post p fit h =
      left_stop (maybe_push_filter room schema n rest p) (maybe_push_join room schema rest) (a schema text tables given room rest s pre post p fit h) z

  module _ (z : u ≤ length x₁) (k : length x₁ ≡ length x) where
    pub push_next : TriedAt records x y at end t lo tail origin → PassAt records x₁ u lo tail
    push_next g =
        let K = Kept g.schema g.text g.tables in
        let o = maybe_push_filter g.room g.schema n g.rest g.p in
        let l = a g.schema g.text g.tables g.given g.room g.rest g.shares g.pre g.post g.p g.fit g.stands in
        record {
          schema = g.schema;
          text = g.text;
          tables = g.tables;
          given = g.given;
          short = omega (arith, g.short);
          held =
              left_with (Held K x₁ u lo tail) o l z
              (λ q i w. record {
                room = g.room;
                rest = g.rest;
                shares = shares_next k g.shares;
                pre = g.pre;
                post = g.post;
                p = q;
                fit = (kept g.schema g.text g.tables).end g.p q i;
                holds = record { whole = w; low = stands_low g.p g.stands; high = stands_high g.p g.stands; inside = z };
              });
        }

    pub push_again : {r : ℕ} {x₂ : List ℕ} → Passes maybe_push_join records x₁ u lo tail r x₂
        → Tries (λ room schema. push_filters room schema n) records x y at end t lo tail origin r x₂
    push_again b schema text tables given room rest s pre post p fit h =
        let fits = kept schema text tables in
        left_go (maybe_push_filter room schema n rest p) (maybe_push_join room schema rest) (a schema text tables given room rest s pre post p fit h) z
        (λ q i w. left_map (maybe_push_join room schema rest q) (λ r j. fits.through p q r i j)
        (b schema text tables given room rest (shares_next k s) pre post q (fits.end p q i)
        (record { whole = w; low = stands_low p h; high = stands_high p h; inside = z })))

-- ---- the start: the node stands in x, and a Filter's predicate is gathered
abbrev pub Starts : (x : List ℕ) (t lo tail : ℕ) (y : List ℕ) (at end origin : ℕ) → Type 0
Starts x t lo tail y at end origin = Short x → (pre post : List ℕ) (p : Node) → Holds x t lo tail pre post p → Stands x y at end t lo tail origin pre post p

module _ {x : List ℕ} {t lo tail : ℕ} where
  pub starts_plain : (tag_at x (t - tail) ≡ 51 → ⊥) → (y : List ℕ) (end origin : ℕ) → Starts x t lo tail y 0 end origin
  starts_plain i y end origin short pre post p h = stands_plain p (λ m. i (node_tag p (holds_here h) ∙ tagged p ∙ m)) refl h

  pub starts_filter : tag_at x (t - tail) ≡ 51 → {own : ℕ} → OwnStart x lo (t - tail) own → {y y₁ : List ℕ} → length y ≡ length x → {at : ℕ}
      → Copies x own (t - tail - cell_words) y 0 at y₁ → {origin : ℕ} → origin ≡ origin_at x (t - tail) → Starts x t lo tail y₁ at own origin
  starts_filter i {own} o {y} {y₁} k {at} c {origin} g short pre post p h =
      by_filter (λ p. Holds x t lo tail pre post p → Stands x y₁ at own t lo tail origin pre post p)
      (λ og e source h.
      let f = over og (filter e) source in
      let j = o f (holds_here h) in
      let l = filter_long og e source in
      let n : length (expression_words e) ≤ length x = omega (arith, total h, h.inside) in
      let (a, b) = fits_to (c (expression_words e) (own_part f (holds_here h) j)) (omega arith) (omega arith) in
      record {
        is = (
          g ∙ origin_here f (holds_here h),
          record {
            gone = expression_words e ++ last og e source;
            whole = h.whole ∙ ap (λ (v : List ℕ). pre ++ (v ++ post)) (filter_words og e source) ∙ simp append_assoc;
            low = h.low;
            below = sym j;
            high = h.high;
            inside = h.inside;
            long = omega arith;
            predicate = b;
            fits = omega (arith, length-append (expression_words e) (last og e source));
          },
        );
      })
      p (sym (tagged p) ∙ sym (node_tag p (holds_here h)) ∙ i) h

  module _ {y : List ℕ} {at end origin : ℕ} (m : Starts x t lo tail y at end origin) {records : List ℕ} where
    pub starts_at : PassAt records x t lo tail → TriedAt records x y at end t lo tail origin
    starts_at g =
        let d = g.held in
        record {
          schema = g.schema;
          text = g.text;
          tables = g.tables;
          given = g.given;
          short = g.short;
          room = d.room;
          rest = d.rest;
          shares = d.shares;
          pre = d.pre;
          post = d.post;
          p = d.p;
          fit = d.fit;
          stands = m d.shares.short d.pre d.post d.p d.holds;
        }

    pub starts_passes : (f : ℕ → Schema → ℕ → Node → Answer Node) {r : ℕ} {x' : List ℕ} → Tries f records x y at end t lo tail origin r x' → Passes f records x t lo tail r x'
    starts_passes f a schema text tables given room rest s pre post p fit h = a schema text tables given room rest s pre post p fit (m s.short pre post p h)
