-- Laws for a streamed pass that goes on into a node's sources, left before right. F is what the pass does with a source, and k what it does with the node
-- after its sources.
use Prim.Native.Nat.{ℕ, ◌+◌, ◌-◌, ◌*◌, ◌≤◌, ◌<◌}
use native.Mathlib.Omega.{arith}
use mathlib.Core.Bool.{Bool}
use mathlib.Core.Path.{◌≡◌, refl, sym, ap, ◌∙◌, subst}
use mathlib.Core.List.{List, ◌++◌}
use lib.ListN.{length, length-append}
use Rattle.sql.specs.Schema.{Schema}
use Rattle.sql.specs.Plan.{node_origin, Leaf, Over, Join, Node, leaf, over, join, over_size, join_size, node_size}
use Rattle.sql.specs.Answer.{Answer, done, refused, ◌>>=◌}
use Rattle.cells.specs.Cells.{cell_words, start_at, Sized}
use Rattle.cells.specs.Room.{most_words, Wrote}
use Rattle.cells.proofs.Laws.{then}
use Rattle.words.specs.Words.{cell, source_words, own_words, node_cell, node_words, source_count}
use Rattle.words.proofs.Nodes.{node_shape, node_in, node_long, over_source, join_left, join_right, sources_sized}
use Rattle.words.proofs.Tags.{by_leaf, by_over, by_join}
use Rattle.words.proofs.Sizes.{sized_long, over_long, join_long, words_long}
use Rattle.nodes.specs.Own.{OwnStart, SourceCount}
use Rattle.kept.specs.Kept.{Kept, kept}
use Rattle.stream.specs.Stream.{Reading, StreamAt, Streamed, Streams, Finishes}
use Rattle.stream.proofs.Streams.{written_done, done_long, done_wrote, streamed_with, streamed_stop, streamed_go, finishes_node}

module _ {Lent : Schema → Type 0} {x : List ℕ} {lo hi tail : ℕ} {y : List ℕ} {at : ℕ} (d : StreamAt Lent x lo hi tail y at) where
  -- a node has no, one or two sources
  pub two_left : {g : ℕ} → SourceCount x lo hi g → (g ≡ 0 → ⊥) → (g ≡ 1 → ⊥) → g ≡ 2
  two_left {g} c a b = go d.p (c d.p d.reading.here)
    where
      go : (p : Node) → g ≡ source_count p → g ≡ 2
      go (leaf og l) e = absurd (a e)
      go (over og o n) e = absurd (b e)
      go (join og outer j l r) e = e

  -- the own words stand inside the node, and what is behind its sources can be counted
  pub own_in : {m : ℕ} → OwnStart x lo hi m → (lo ≤ m) × ((m + cell_words ≤ hi) × (tail + (hi - m) ≤ most_words))
  own_in own =
      let e = own d.p d.reading.here in
      let f = node_long d.p d.reading.here in
      (omega arith, (omega arith, omega (arith, d.reading.fits, d.short_out)))

-- ---- no source

-- A node of one cell has none: a source has a cell of its own beside the node's.
pub one_cell : {x : List ℕ} {lo hi : ℕ} → hi - lo ≡ cell_words → SourceCount x lo hi 0
one_cell e (leaf og l) u = refl
one_cell e (over og o n) u = absurd (omega (arith, node_long (over og o n) u, (node_in n (over_source og o n u refl)).0))
one_cell e (join og outer j l r) u =
    absurd (omega (arith, node_long (join og outer j l r) u, length-append (node_words l) (node_words r), ap length (node_shape r), sized_long (source_words r ++ own_words r) (cell (node_origin r) (node_cell r))))

module _ {Lent : Schema → Type 0} {x : List ℕ} {lo hi tail g : ℕ} {y : List ℕ} {at : ℕ} (c : SourceCount x lo hi g) (zero : g ≡ 0)
    (f : ℕ → Schema → ℕ → Node → Answer Node) where
  pub leaf_streams : {n : ℕ} {y' : List ℕ}
      → ((schema : Schema) (text : List ℕ) (tables : ℕ) → Lent schema → (room rest og : ℕ) (l : Leaf) → Reading schema text tables x lo hi tail y at room rest (leaf og l)
      → Streamed (Kept schema text tables (leaf og l)) y at tail n y' (f room schema rest (leaf og l)))
      → Streams Lent f x lo hi tail y at n y'
  leaf_streams {n} {y'} k schema text tables lent room rest p h =
      by_leaf (λ p. Reading schema text tables x lo hi tail y at room rest p → Streamed (Kept schema text tables p) y at tail n y' (f room schema rest p))
      (k schema text tables lent room rest) p (sym (c p h.here) ∙ zero) h

-- ---- one source, which ends at m

module _ {x : List ℕ} {lo hi m : ℕ} (own : OwnStart x lo hi m) {schema : Schema} {text : List ℕ} {tables tail : ℕ} {y : List ℕ} {at room rest : ℕ} (og : ℕ) (o : Over) (n : Node)
    (h : Reading schema text tables x lo hi tail y at room rest (over og o n)) where
  behind_is : hi ≡ m + cell_words * over_size o
  behind_is = omega (arith, own (over og o n) h.here, node_long (over og o n) h.here, over_long o)

  pub source_reading : Reading schema text tables x lo m (tail + (hi - m)) y at room (rest + over_size o) n
  source_reading =
      record {
        fit = (kept schema text tables).source og o n h.fit;
        here = over_source og o n h.here (own (over og o n) h.here);
        shares = record { all = h.shares.all; short = h.shares.short; outside = omega (arith, behind_is, h.shares.outside) };
        fits = omega (arith, behind_is, own (over og o n) h.here, h.fits);
      }

  -- the node over what its source became, written in full
  module _ {u : ℕ} {y₁ : List ℕ} (k₁ : length y₁ ≡ length y) (q : Node) (s : Streamed (Kept schema text tables n) y at (tail + (hi - m)) u y₁ (done q)) where
    at_in : at ≤ length y
    at_in = omega (arith, h.fits)

    pub over_fits : at + length (node_words (over og o q)) + tail ≤ length y
    over_fits = omega (arith, done_long q at_in s, s.is.0, behind_is, words_long (over og o q), words_long q)

    pub over_fit : Kept schema text tables (over og o n) (over og o q)
    over_fit = (kept schema text tables).with_source og o n q h.fit s.is.1.1

    pub over_written : {r : ℕ} {y₂ : List ℕ} → Finishes x m hi y₁ at u r y₂ → Wrote y at (node_words (over og o q)) r y₂
    over_written {r} {y₂} f =
        subst (λ (w : List ℕ). Wrote y at w r y₂) (sym (node_shape (over og o q))) (finishes_node f lo (over og o n) h.here own y (node_words q) k₁ (done_wrote q at_in s k₁))

    pub over_done : {r : ℕ} {y₂ : List ℕ} → length y₂ ≡ length y₁ → Finishes x m hi y₁ at u r y₂
        → Streamed (Kept schema text tables (over og o n)) y at tail r y₂ (done (over og o q))
    over_done k₂ f = written_done (over og o q) over_fit (k₂ ∙ k₁) over_fits h.shares.short (over_written f)

module _ {Lent : Schema → Type 0} {x : List ℕ} {lo hi tail g m : ℕ} {y : List ℕ} {at : ℕ} (c : SourceCount x lo hi g) (one : g ≡ 1) (own : OwnStart x lo hi m) where
  pub source_at : StreamAt Lent x lo hi tail y at → StreamAt Lent x lo m (tail + (hi - m)) y at
  source_at d =
      by_over (λ p. Reading d.schema d.text d.tables x lo hi tail y at d.room d.rest p → StreamAt Lent x lo m (tail + (hi - m)) y at)
      (λ og o n h. record {
        schema = d.schema;
        text = d.text;
        tables = d.tables;
        lent = d.lent;
        room = d.room;
        rest = d.rest + over_size o;
        p = n;
        reading = source_reading own og o n h;
        short = d.short;
        short_out = d.short_out;
      })
      d.p (sym (c d.p d.reading.here) ∙ one) d.reading

  module _ (f F : ℕ → Schema → ℕ → Node → Answer Node) (k : ℕ → Schema → ℕ → ℕ → Over → Node → Node → Answer Node)
      (shape : (room : ℕ) (schema : Schema) (rest og : ℕ) (o : Over) (n : Node) → f room schema rest (over og o n) ≡ (F room schema (rest + over_size o) n >>= k room schema rest og o n))
      {u : ℕ} {y₁ : List ℕ} (a : Streams Lent F x lo m (tail + (hi - m)) y at u y₁) where
    -- the source is refused
    pub source_stop : length y₁ < u → Streams Lent f x lo hi tail y at u y₁
    source_stop z schema text tables lent room rest p h =
        by_over (λ p. Reading schema text tables x lo hi tail y at room rest p → Streamed (Kept schema text tables p) y at tail u y₁ (f room schema rest p))
        (λ og o n h. rw (shape room schema rest og o n)
        (streamed_stop (F room schema (rest + over_size o) n) (a schema text tables lent room (rest + over_size o) n (source_reading own og o n h)) (k room schema rest og o n) z))
        p (sym (c p h.here) ∙ one) h

    -- the source became q
    pub source_go : u ≤ length y₁ → {r : ℕ} {y₂ : List ℕ}
        → ((schema : Schema) (text : List ℕ) (tables : ℕ) → Lent schema → (room rest og : ℕ) (o : Over) (n : Node)
        → Reading schema text tables x lo hi tail y at room rest (over og o n) → (q : Node) → Streamed (Kept schema text tables n) y at (tail + (hi - m)) u y₁ (done q)
        → Streamed (Kept schema text tables (over og o n)) y at tail r y₂ (k room schema rest og o n q))
        → Streams Lent f x lo hi tail y at r y₂
    source_go z {r} {y₂} b schema text tables lent room rest p h =
        by_over (λ p. Reading schema text tables x lo hi tail y at room rest p → Streamed (Kept schema text tables p) y at tail r y₂ (f room schema rest p))
        (λ og o n h. rw (shape room schema rest og o n)
        (streamed_go (F room schema (rest + over_size o) n) (a schema text tables lent room (rest + over_size o) n (source_reading own og o n h)) (k room schema rest og o n) z
        (b schema text tables lent room rest og o n h)))
        p (sym (c p h.here) ∙ one) h

-- ---- two sources, of which the left one ends at mid and the right one at m

module _ {x : List ℕ} {lo hi m mid : ℕ} (own : OwnStart x lo hi m) (st : mid ≡ start_at x m) {schema : Schema} {text : List ℕ} {tables tail : ℕ} {y : List ℕ}
    {at room rest : ℕ} (og : ℕ) (outer : Bool) (j : Join) (l r : Node) (h : Reading schema text tables x lo hi tail y at room rest (join og outer j l r)) where
  end_is : hi ≡ m + cell_words * join_size j
  end_is = omega (arith, own (join og outer j l r) h.here, node_long (join og outer j l r) h.here, join_long j)

  mid_is : mid ≡ lo + length (node_words l)
  mid_is = sym (join_left og outer j l r h.here (own (join og outer j l r) h.here) st).part.high

  right_is : m ≡ mid + cell_words * node_size r
  right_is =
      omega (arith, (join_right og outer j l r h.here (own (join og outer j l r) h.here) st).part.high, words_long r)

  pub left_reading : Reading schema text tables x lo mid (tail + (hi - mid)) y at room (rest + (node_size r + join_size j)) l
  left_reading =
      record {
        fit = (kept schema text tables).left og outer j l r h.fit;
        here = join_left og outer j l r h.here (own (join og outer j l r) h.here) st;
        shares = record { all = h.shares.all; short = h.shares.short; outside = omega (arith, end_is, right_is, h.shares.outside) };
        fits = omega (arith, end_is, right_is, mid_is, h.fits);
      }

  -- the right source, after the left one became p
  module _ {u : ℕ} {y₁ : List ℕ} (k₁ : length y₁ ≡ length y) (p : Node) (s : Streamed (Kept schema text tables l) y at (tail + (hi - mid)) u y₁ (done p)) where
    before_in : at ≤ length y
    before_in = omega (arith, h.fits)

    left_end : u ≡ at + cell_words * node_size p
    left_end = omega (arith, done_long p before_in s, words_long p)

    pub right_reading : Reading schema text tables x mid m (tail + (hi - m)) y₁ u room (rest + (node_size p + join_size j)) r
    right_reading =
        record {
          fit = (kept schema text tables).right og outer j l r h.fit;
          here = join_right og outer j l r h.here (own (join og outer j l r) h.here) st;
          shares = record { all = k₁ ∙ h.shares.all; short = omega (arith, k₁, h.shares.short); outside = omega (arith, left_end, end_is, h.shares.outside) };
          fits = omega (arith, end_is, right_is, s.is.0);
        }

    -- both sources, written in full
    module _ {v : ℕ} {y₂ : List ℕ} (k₂ : length y₂ ≡ length y₁) (q : Node) (t : Streamed (Kept schema text tables r) y₁ u (tail + (hi - m)) v y₂ (done q)) where
      u_in : u ≤ length y₁
      u_in = omega (arith, s.is.0)

      pub sources_written : Wrote y at (node_words p ++ node_words q) v y₂
      sources_written = then k₁ (done_wrote p before_in s k₁) (done_wrote q u_in t k₂)

      -- there is room for any join of them that is no larger
      pub join_fits : (i : Join) → join_size i ≤ join_size j → at + length (node_words (join og outer i p q)) + tail ≤ length y
      join_fits i z =
          omega (arith, left_end, done_long q u_in t, t.is.0, end_is, words_long (join og outer i p q), words_long q)

      pub join_fit : Kept schema text tables (join og outer j l r) (join og outer j p q)
      join_fit = (kept schema text tables).with_sources og outer j l r p q h.fit s.is.1.1 t.is.1.1

      pub join_written : {w : ℕ} {y₃ : List ℕ} → Finishes x m hi y₂ at v w y₃ → Wrote y at (node_words (join og outer j p q)) w y₃
      join_written {w} {y₃} f =
          subst (λ (z : List ℕ). Wrote y at z w y₃) (sym (node_shape (join og outer j p q)))
          (finishes_node f lo (join og outer j l r) h.here own y (node_words p ++ node_words q) (k₂ ∙ k₁) sources_written)

      pub join_done : {w : ℕ} {y₃ : List ℕ} → length y₃ ≡ length y₂ → Finishes x m hi y₂ at v w y₃
          → Streamed (Kept schema text tables (join og outer j l r)) y at tail w y₃ (done (join og outer j p q))
      join_done k₃ f = written_done (join og outer j p q) join_fit (k₃ ∙ k₂ ∙ k₁) (join_fits j (omega arith)) h.shares.short (join_written f)

module _ {Lent : Schema → Type 0} {x : List ℕ} {lo hi tail g m : ℕ} {y : List ℕ} {at : ℕ} (c : SourceCount x lo hi g) (two : g ≡ 2) (own : OwnStart x lo hi m) where
  pub right_sized : StreamAt Lent x lo hi tail y at → Sized x m
  right_sized d =
      by_join (λ p. Reading d.schema d.text d.tables x lo hi tail y at d.room d.rest p → Sized x m)
      (λ og outer j l r h. sources_sized og outer j l r h.here (own (join og outer j l r) h.here))
      d.p (sym (c d.p d.reading.here) ∙ two) d.reading

  module _ {mid : ℕ} (st : mid ≡ start_at x m) where
    -- the sources stand inside the node, and what is behind the left one can be counted
    pub mid_in : StreamAt Lent x lo hi tail y at → (lo + cell_words ≤ mid) × ((mid + cell_words ≤ m) × (tail + (hi - mid) ≤ most_words))
    mid_in d =
        by_join (λ p. Reading d.schema d.text d.tables x lo hi tail y at d.room d.rest p → (lo + cell_words ≤ mid) × ((mid + cell_words ≤ m) × (tail + (hi - mid) ≤ most_words)))
        (λ og outer j l r h.
        let e = own (join og outer j l r) h.here in
        let a = node_in l (join_left og outer j l r h.here e st) in
        let b = node_in r (join_right og outer j l r h.here e st) in
        (a.0, (b.0, omega (arith, a.0, b.0, end_is own st og outer j l r h, h.fits, d.short_out))))
        d.p (sym (c d.p d.reading.here) ∙ two) d.reading

    pub left_at : StreamAt Lent x lo hi tail y at → StreamAt Lent x lo mid (tail + (hi - mid)) y at
    left_at d =
        by_join (λ p. Reading d.schema d.text d.tables x lo hi tail y at d.room d.rest p → StreamAt Lent x lo mid (tail + (hi - mid)) y at)
        (λ og outer j l r h. record {
          schema = d.schema;
          text = d.text;
          tables = d.tables;
          lent = d.lent;
          room = d.room;
          rest = d.rest + (node_size r + join_size j);
          p = l;
          reading = left_reading own st og outer j l r h;
          short = d.short;
          short_out = d.short_out;
        })
        d.p (sym (c d.p d.reading.here) ∙ two) d.reading

    module _ (F : ℕ → Schema → ℕ → Node → Answer Node) {u : ℕ} {y₁ : List ℕ} (a : Streams Lent F x lo mid (tail + (hi - mid)) y at u y₁) where
      pub right_at : length y₁ ≡ length y → u ≤ length y₁ → StreamAt Lent x lo hi tail y at → StreamAt Lent x mid m (tail + (hi - m)) y₁ u
      right_at k₁ z d =
          by_join (λ p. Reading d.schema d.text d.tables x lo hi tail y at d.room d.rest p → StreamAt Lent x mid m (tail + (hi - m)) y₁ u)
          (λ og outer j l r h. streamed_with (F d.room d.schema (d.rest + (node_size r + join_size j)) l)
          (a d.schema d.text d.tables d.lent d.room (d.rest + (node_size r + join_size j)) l (left_reading own st og outer j l r h)) z
          (StreamAt Lent x mid m (tail + (hi - m)) y₁ u)
          (λ p s. record {
            schema = d.schema;
            text = d.text;
            tables = d.tables;
            lent = d.lent;
            room = d.room;
            rest = d.rest + (node_size p + join_size j);
            p = r;
            reading = right_reading own st og outer j l r h k₁ p s;
            short = d.short;
            short_out = omega (arith, k₁, d.short_out);
          }))
          d.p (sym (c d.p d.reading.here) ∙ two) d.reading

      module _ (f : ℕ → Schema → ℕ → Node → Answer Node) (k : ℕ → Schema → ℕ → ℕ → Bool → Join → Node → Node → Node → Node → Answer Node)
          (shape : (room : ℕ) (schema : Schema) (rest og : ℕ) (outer : Bool) (j : Join) (l r : Node)
          → f room schema rest (join og outer j l r)
          ≡ (F room schema (rest + (node_size r + join_size j)) l >>= λ p. F room schema (rest + (node_size p + join_size j)) r >>= k room schema rest og outer j l r p)) where
        -- the left source is refused
        pub left_stop : length y₁ < u → Streams Lent f x lo hi tail y at u y₁
        left_stop z schema text tables lent room rest p h =
            by_join (λ p. Reading schema text tables x lo hi tail y at room rest p → Streamed (Kept schema text tables p) y at tail u y₁ (f room schema rest p))
            (λ og outer j l r h. rw (shape room schema rest og outer j l r)
            (streamed_stop (F room schema (rest + (node_size r + join_size j)) l)
            (a schema text tables lent room (rest + (node_size r + join_size j)) l (left_reading own st og outer j l r h))
            (λ p. F room schema (rest + (node_size p + join_size j)) r >>= k room schema rest og outer j l r p) z))
            p (sym (c p h.here) ∙ two) h

        module _ (k₁ : length y₁ ≡ length y) (z : u ≤ length y₁) {v : ℕ} {y₂ : List ℕ} (b : Streams Lent F x mid m (tail + (hi - m)) y₁ u v y₂) where
          -- the left source became p
          left_went : (schema : Schema) (text : List ℕ) (tables : ℕ) → Lent schema → (room rest : ℕ) {w : ℕ} {y₃ : List ℕ}
              → ((og : ℕ) (outer : Bool) (j : Join) (l r : Node) → Reading schema text tables x lo hi tail y at room rest (join og outer j l r)
              → (p : Node) → Streamed (Kept schema text tables l) y at (tail + (hi - mid)) u y₁ (done p)
              → Streamed (Kept schema text tables r) y₁ u (tail + (hi - m)) v y₂ (F room schema (rest + (node_size p + join_size j)) r)
              → Streamed (Kept schema text tables (join og outer j l r)) y at tail w y₃
              (F room schema (rest + (node_size p + join_size j)) r >>= k room schema rest og outer j l r p))
              → (p : Node) → Reading schema text tables x lo hi tail y at room rest p → Streamed (Kept schema text tables p) y at tail w y₃ (f room schema rest p)
          left_went schema text tables lent room rest {w} {y₃} e p h =
              by_join (λ p. Reading schema text tables x lo hi tail y at room rest p → Streamed (Kept schema text tables p) y at tail w y₃ (f room schema rest p))
              (λ og outer j l r h. rw (shape room schema rest og outer j l r)
              (streamed_go (F room schema (rest + (node_size r + join_size j)) l)
              (a schema text tables lent room (rest + (node_size r + join_size j)) l (left_reading own st og outer j l r h))
              (λ p. F room schema (rest + (node_size p + join_size j)) r >>= k room schema rest og outer j l r p) z
              (λ p s. e og outer j l r h p s
              (b schema text tables lent room (rest + (node_size p + join_size j)) r (right_reading own st og outer j l r h k₁ p s)))))
              p (sym (c p h.here) ∙ two) h

          -- the right source is refused
          pub right_stop : length y₂ < v → Streams Lent f x lo hi tail y at v y₂
          right_stop w schema text tables lent room rest p h =
              left_went schema text tables lent room rest
              (λ og outer j l r h p s t. streamed_stop (F room schema (rest + (node_size p + join_size j)) r) t (k room schema rest og outer j l r p) w) p h

          -- the sources became p and q
          pub both_go : v ≤ length y₂ → {w : ℕ} {y₃ : List ℕ}
              → ((schema : Schema) (text : List ℕ) (tables : ℕ) → Lent schema → (room rest og : ℕ) (outer : Bool) (j : Join) (l r : Node)
              → Reading schema text tables x lo hi tail y at room rest (join og outer j l r)
              → (p : Node) → Streamed (Kept schema text tables l) y at (tail + (hi - mid)) u y₁ (done p)
              → (q : Node) → Streamed (Kept schema text tables r) y₁ u (tail + (hi - m)) v y₂ (done q)
              → Streamed (Kept schema text tables (join og outer j l r)) y at tail w y₃ (k room schema rest og outer j l r p q))
              → Streams Lent f x lo hi tail y at w y₃
          both_go i e schema text tables lent room rest p h =
              left_went schema text tables lent room rest
              (λ og outer j l r h p s t. streamed_go (F room schema (rest + (node_size p + join_size j)) r) t (k room schema rest og outer j l r p) i
              (e schema text tables lent room rest og outer j l r h p s)) p h
