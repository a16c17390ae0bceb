-- Laws on the pass: a node after its sources.
use Prim.Native.Nat.{ℕ, ◌+◌, ◌-◌, ◌≤◌, ◌<◌}
use native.Mathlib.Omega.{arith}
use mathlib.Core.Logic.{⊎_elim}
use mathlib.Core.Bool.{Bool}
use mathlib.Core.Path.{◌≡◌, refl, sym, ◌∙◌}
use mathlib.Core.List.{List}
use mathlib.Core.Option.{Option, none, some}
use lib.ListN.{length}
use lib.Dec.{leb}
use borrow.Author.Tests.{le-leb, lt-leb}
use Rattle.sql.specs.Schema.{Schema}
use Rattle.sql.specs.Expression.{Expression}
use Rattle.sql.specs.Plan.{Leaf, scan, Over, Join, Node, leaf, over, join, over_size, join_size, node_size}
use Rattle.sql.specs.Answer.{done, ◌>>=◌}
use Rattle.sql.specs.Optimizer as Optimizer
use Rattle.sql.specs.Room.{if_room, short_circuit, ShortCircuit}
use Rattle.sheet_laws.proofs.Counts.{size_positive}
use Rattle.sound.specs.Sound.{Named}
use Rattle.sound.specs.Keeps.{keeps_next}
use Rattle.sound.specs.Circuit.{one_keeps}
use Rattle.cells.specs.Cells.{cell_words, tag_at, start_at}
use Rattle.cells.specs.Room.{most_words, Copies}
use Rattle.cells.proofs.Laws.{lt_or_ge}
use Rattle.words.specs.Words.{node_words}
use Rattle.words.specs.Place.{NodeAt}
use Rattle.words.proofs.Nodes.{node_tag, node_in, node_long}
use Rattle.words.proofs.Tags.{tagged, by_leaf, by_over, by_join, by_scan}
use Rattle.words.proofs.Sizes.{expression_long, words_long}
use Rattle.nodes.specs.Own.{OwnStart, SourceCount}
use Rattle.nodes.specs.Columns.{ColumnsAt}
use Rattle.records.specs.Records.{Records, RecordsAt}
use Rattle.records.proofs.Laws.{tables_said}
use Rattle.edit.specs.Edit.{Shares}
use Rattle.kept.specs.Kept.{Kept, sound_narrow}
use Rattle.stream.specs.Stream.{Reading, Streamed, Finishes}
use Rattle.stream.proofs.Streams.{done_here, done_before, copied_done, streamed_with, streamed_stop, streamed_go}
use Rattle.stream.proofs.Sources.{source_reading, over_done, left_reading, right_reading, join_done}
use Rattle.short_circuit.specs.ShortCircuit.{Fitted, CircuitsNode, CircuitAt, Circuits}
use Rattle.short_circuit.proofs.Node.{wrote_fitted, fitted_over}

-- the step, with the question for room
fitted_step : {Fit : Node → Type 0} {y : List ℕ} {at tail n room rest : ℕ} {y' : List ℕ} (q : Node) → Fit q → Shares y at tail room rest → length y' ≡ length y
    → Fitted y at (node_words q) tail n y' → Streamed Fit y at tail n y' (if_room (leb (rest + node_size q) room) q)
fitted_step {room = room} {rest = rest} q i s k a =
    let l = words_long q in
    ⊎_elim
    (λ (z : room < rest + node_size q). rw (lt-leb _ _ z) (record { is = (let f = a.full (omega (arith, s.all, s.outside)) in omega arith, (refl, refl)) }))
    (λ (z : rest + node_size q ≤ room).
    let (e, f) = a.fits (omega (arith, s.all, s.outside)) in
    rw (le-leb _ _ z) (record { is = (omega (arith, s.all, s.outside), (f, i)) }))
    (lt_or_ge room (rest + node_size q))

-- The node q, in whose place p was, has been written.
module _ {records columns' : List ℕ} {schema : Schema} (text : List ℕ) {tables : ℕ} (g : Records records columns' schema)
    {y : List ℕ} {at tail v : ℕ} {y₁ : List ℕ} (p q : Node) (h : at ≤ length y) (k : length y₁ ≡ length y)
    (s : Streamed (Kept schema text tables p) y at tail v y₁ (done q)) where
  pub written_at : length y ≤ most_words → ColumnsAt records y₁ at v
  written_at i =
      record {
        schema = schema;
        tables = tables_said g;
        p = q;
        here = done_here q h s;
        narrow = sound_narrow schema text tables q s.is.1.1.0;
        short = omega (arith, s.is.0);
      }

  pub written_next : Named schema (length text) → {room rest n : ℕ} {y₂ : List ℕ} → length y₂ ≡ length y₁ → Shares y at tail room rest
      → CircuitsNode records columns' y₁ at v tail n y₂ → Streamed (Kept schema text tables p) y at tail n y₂ (short_circuit room schema rest q)
  unfolding short_circuit
  written_next named {n = n} {y₂ = y₂} k₂ r f =
      fitted_step (Optimizer.short_circuit schema q)
      (keeps_next schema text tables (Optimizer.short_circuit schema) (one_keeps schema text tables named) q s.is.1.1) r (k₂ ∙ k)
      (fitted_over k (done_before q h s) (f schema q g (done_here q h s)))

-- ---- what is asked for

module _ {records columns' x : List ℕ} {lo hi tail : ℕ} {y : List ℕ} {at : ℕ} (d : CircuitAt records columns' x lo hi tail y at) where
  pub records_at : RecordsAt records columns'
  records_at = record { schema = d.stream.schema; given = d.stream.lent }

  -- the node there, and its source or sources
  with_leaf : SourceCount x lo hi 0 → (P : Type 0)
      → ((og : ℕ) (l : Leaf) → Reading d.stream.schema d.stream.text d.stream.tables x lo hi tail y at d.stream.room d.stream.rest (leaf og l) → P) → P
  with_leaf c P f =
      by_leaf (λ p. Reading d.stream.schema d.stream.text d.stream.tables x lo hi tail y at d.stream.room d.stream.rest p → P) f
      d.stream.p (sym (c d.stream.p d.stream.reading.here)) d.stream.reading

  with_over : SourceCount x lo hi 1 → (P : Type 0)
      → ((og : ℕ) (o : Over) (n : Node) → Reading d.stream.schema d.stream.text d.stream.tables x lo hi tail y at d.stream.room d.stream.rest (over og o n) → P) → P
  with_over c P f =
      by_over (λ p. Reading d.stream.schema d.stream.text d.stream.tables x lo hi tail y at d.stream.room d.stream.rest p → P) f
      d.stream.p (sym (c d.stream.p d.stream.reading.here)) d.stream.reading

  with_join : SourceCount x lo hi 2 → (P : Type 0)
      → ((og : ℕ) (outer : Bool) (j : Join) (l r : Node)
      → Reading d.stream.schema d.stream.text d.stream.tables x lo hi tail y at d.stream.room d.stream.rest (join og outer j l r) → P)
      → P
  with_join c P f =
      by_join (λ p. Reading d.stream.schema d.stream.text d.stream.tables x lo hi tail y at d.stream.room d.stream.rest p → P) f
      d.stream.p (sym (c d.stream.p d.stream.reading.here)) d.stream.reading

  sub_at : {lo' hi' tail' : ℕ} {y₁ : List ℕ} {at' rest : ℕ} (p : Node) → length y₁ ≡ length y
      → Reading d.stream.schema d.stream.text d.stream.tables x lo' hi' tail' y₁ at' d.stream.room rest p
      → CircuitAt records columns' x lo' hi' tail' y₁ at'
  sub_at {rest = rest} p k h =
      record {
        stream =
            record {
              schema = d.stream.schema;
              text = d.stream.text;
              tables = d.stream.tables;
              lent = d.stream.lent;
              room = d.stream.room;
              rest = rest;
              p = p;
              reading = h;
              short = d.stream.short;
              short_out = omega (arith, k, d.stream.short_out);
            };
        named = d.named;
      }

  -- a node that was written is ready for short_circuit
  ready : {v : ℕ} {y₁ : List ℕ} (p q : Node) → at ≤ length y → length y₁ ≡ length y
      → Streamed (Kept d.stream.schema d.stream.text d.stream.tables p) y at tail v y₁ (done q)
      → ColumnsAt records y₁ at v × ((v + tail ≤ length y₁) × (length y₁ ≤ most_words))
  ready p q h k s = (written_at d.stream.text d.stream.lent p q h k s d.stream.short_out, (s.is.0, omega (arith, d.stream.short_out)))

  pub leaf_ready : SourceCount x lo hi 0 → {v : ℕ} {y₁ : List ℕ} → length y₁ ≡ length y → Copies x lo hi y at v y₁
      → ColumnsAt records y₁ at v × ((v + tail ≤ length y₁) × (length y₁ ≤ most_words))
  leaf_ready c {v} {y₁} k a =
      with_leaf c (ColumnsAt records y₁ at v × ((v + tail ≤ length y₁) × (length y₁ ≤ most_words)))
      (λ og l h. ready (leaf og l) (leaf og l) (omega (arith, h.fits)) k (copied_done (leaf og l) h k a))

  module _ (c : SourceCount x lo hi 1) {m : ℕ} (own : OwnStart x lo hi m) where
    pub source_at : CircuitAt records columns' x lo m (tail + (hi - m)) y at
    source_at = with_over c (CircuitAt records columns' x lo m (tail + (hi - m)) y at) (λ og o n h. sub_at n refl (source_reading own og o n h))

    pub over_ready : {u : ℕ} {y₁ : List ℕ} → length y₁ ≡ length y → Circuits records columns' x lo m (tail + (hi - m)) y at u y₁ → u ≤ length y₁
        → {v : ℕ} {y₂ : List ℕ} → length y₂ ≡ length y₁ → Finishes x m hi y₁ at u v y₂
        → ColumnsAt records y₂ at v × ((v + tail ≤ length y₂) × (length y₂ ≤ most_words))
    over_ready {u} {y₁} k₁ a z {v} {y₂} k₂ f =
        with_over c (ColumnsAt records y₂ at v × ((v + tail ≤ length y₂) × (length y₂ ≤ most_words)))
        (λ og o n h.
        streamed_with (ShortCircuit d.stream.room d.stream.schema (d.stream.rest + over_size o) n)
        (a d.stream.schema d.stream.text d.stream.tables d.stream.lent d.named d.stream.room (d.stream.rest + over_size o) n (source_reading own og o n h)) z
        (ColumnsAt records y₂ at v × ((v + tail ≤ length y₂) × (length y₂ ≤ most_words)))
        (λ q s. ready (over og o n) (over og o q) (omega (arith, h.fits)) (k₂ ∙ k₁) (over_done own og o n h k₁ q s k₂ f)))

  module _ (c : SourceCount x lo hi 2) {m : ℕ} (own : OwnStart x lo hi m) {mid : ℕ} (st : mid ≡ start_at x m) where
    pub left_at : CircuitAt records columns' x lo mid (tail + (hi - mid)) y at
    left_at = with_join c (CircuitAt records columns' x lo mid (tail + (hi - mid)) y at) (λ og outer j l r h. sub_at l refl (left_reading own st og outer j l r h))

    module _ {u : ℕ} {y₁ : List ℕ} (k₁ : length y₁ ≡ length y) (a : Circuits records columns' x lo mid (tail + (hi - mid)) y at u y₁) (z : u ≤ length y₁) where
      with_left : (P : Type 0)
          → ((og : ℕ) (outer : Bool) (j : Join) (l r : Node)
          → (h : Reading d.stream.schema d.stream.text d.stream.tables x lo hi tail y at d.stream.room d.stream.rest (join og outer j l r))
          → (p : Node) → Streamed (Kept d.stream.schema d.stream.text d.stream.tables l) y at (tail + (hi - mid)) u y₁ (done p) → P)
          → P
      with_left P f =
          with_join c P
          (λ og outer j l r h.
          streamed_with (ShortCircuit d.stream.room d.stream.schema (d.stream.rest + (node_size r + join_size j)) l)
          (a d.stream.schema d.stream.text d.stream.tables d.stream.lent d.named d.stream.room (d.stream.rest + (node_size r + join_size j)) l
          (left_reading own st og outer j l r h)) z P (f og outer j l r h))

      pub right_at : CircuitAt records columns' x mid m (tail + (hi - m)) y₁ u
      right_at =
          with_left (CircuitAt records columns' x mid m (tail + (hi - m)) y₁ u)
          (λ og outer j l r h p s. sub_at r k₁ (right_reading own st og outer j l r h k₁ p s))

      pub join_ready : {v : ℕ} {y₂ : List ℕ} → length y₂ ≡ length y₁ → Circuits records columns' x mid m (tail + (hi - m)) y₁ u v y₂ → v ≤ length y₂
          → {w : ℕ} {y₃ : List ℕ} → length y₃ ≡ length y₂ → Finishes x m hi y₂ at v w y₃
          → ColumnsAt records y₃ at w × ((w + tail ≤ length y₃) × (length y₃ ≤ most_words))
      join_ready {v} {y₂} k₂ b i {w} {y₃} k₃ f =
          with_left (ColumnsAt records y₃ at w × ((w + tail ≤ length y₃) × (length y₃ ≤ most_words)))
          (λ og outer j l r h p s.
          streamed_with (ShortCircuit d.stream.room d.stream.schema (d.stream.rest + (node_size p + join_size j)) r)
          (b d.stream.schema d.stream.text d.stream.tables d.stream.lent d.named d.stream.room (d.stream.rest + (node_size p + join_size j)) r
          (right_reading own st og outer j l r h k₁ p s)) i
          (ColumnsAt records y₃ at w × ((w + tail ≤ length y₃) × (length y₃ ≤ most_words)))
          (λ q t. ready (join og outer j l r) (join og outer j p q) (omega (arith, h.fits)) (k₃ ∙ k₂ ∙ k₁) (join_done own st og outer j l r h k₁ p s k₂ q t k₃ f)))

-- ---- what is handed out

module _ {records columns' x : List ℕ} {lo hi tail : ℕ} {y : List ℕ} {at : ℕ} where
  pub leaf_circuits : SourceCount x lo hi 0 → {v : ℕ} {y₁ : List ℕ} → length y₁ ≡ length y → Copies x lo hi y at v y₁ → {n : ℕ} {y₂ : List ℕ} → length y₂ ≡ length y₁
      → CircuitsNode records columns' y₁ at v tail n y₂ → Circuits records columns' x lo hi tail y at n y₂
  unfolding ShortCircuit
  leaf_circuits c {v} {y₁} k a {n} {y₂} k₂ f schema text tables g named room rest p h =
      by_leaf (λ p. Reading schema text tables x lo hi tail y at room rest p → Streamed (Kept schema text tables p) y at tail n y₂ (ShortCircuit room schema rest p))
      (λ og l h. written_next text g (leaf og l) (leaf og l) (omega (arith, h.fits)) k (copied_done (leaf og l) h k a) named k₂ h.shares f) p (sym (c p h.here)) h

  -- a Scan without a filter stays as it is
  pub scan_circuits : hi - lo ≡ cell_words → tag_at x hi ≡ 62 → {n : ℕ} {y₁ : List ℕ} → length y₁ ≡ length y → Copies x lo hi y at n y₁ → Circuits records columns' x lo hi tail y at n y₁
  unfolding ShortCircuit short_circuit
  scan_circuits e i {n} {y₁} k a schema text tables g named room rest p h =
      by_scan (λ p. Reading schema text tables x lo hi tail y at room rest p → Streamed (Kept schema text tables p) y at tail n y₁ (ShortCircuit room schema rest p)) go
      p (sym (tagged p) ∙ sym (node_tag p h.here) ∙ i) h
    where
      go : (og t : ℕ) (al : Option ℕ) (q : Option Expression) → Reading schema text tables x lo hi tail y at room rest (leaf og (scan t al q))
          → Streamed (Kept schema text tables (leaf og (scan t al q))) y at tail n y₁ (ShortCircuit room schema rest (leaf og (scan t al q)))
      go og t al none h =
          let s = h.here.part.high in
          fitted_step (leaf og (scan t al none)) h.fit h.shares k (wrote_fitted (omega (arith, h.fits)) h.shares.short (a (node_words (leaf og (scan t al none))) h.here.part))
      go og t al (some f) h = absurd (omega (arith, node_long (leaf og (scan t al (some f))) h.here, expression_long f, size_positive f))

  module _ (c : SourceCount x lo hi 1) {m : ℕ} (own : OwnStart x lo hi m) {u : ℕ} {y₁ : List ℕ} (a : Circuits records columns' x lo m (tail + (hi - m)) y at u y₁) where
    -- the source is refused
    pub over_stop : length y₁ < u → Circuits records columns' x lo hi tail y at u y₁
    unfolding ShortCircuit
    over_stop z schema text tables g named room rest p h =
        by_over (λ p. Reading schema text tables x lo hi tail y at room rest p → Streamed (Kept schema text tables p) y at tail u y₁ (ShortCircuit room schema rest p))
        (λ og o n h. streamed_stop (ShortCircuit room schema (rest + over_size o) n) (a schema text tables g named room (rest + over_size o) n (source_reading own og o n h))
        (λ q. short_circuit room schema rest (over og o q)) z) p (sym (c p h.here)) h

    pub over_circuits : length y₁ ≡ length y → u ≤ length y₁ → {v : ℕ} {y₂ : List ℕ} → length y₂ ≡ length y₁ → Finishes x m hi y₁ at u v y₂ → {n : ℕ} {y₃ : List ℕ}
        → length y₃ ≡ length y₂ → CircuitsNode records columns' y₂ at v tail n y₃ → Circuits records columns' x lo hi tail y at n y₃
    unfolding ShortCircuit
    over_circuits k₁ z {v} {y₂} k₂ e {n} {y₃} k₃ f schema text tables g named room rest p h =
        by_over (λ p. Reading schema text tables x lo hi tail y at room rest p → Streamed (Kept schema text tables p) y at tail n y₃ (ShortCircuit room schema rest p))
        (λ og o i h. streamed_go (ShortCircuit room schema (rest + over_size o) i) (a schema text tables g named room (rest + over_size o) i (source_reading own og o i h))
        (λ q. short_circuit room schema rest (over og o q)) z
        (λ q s. written_next text g (over og o i) (over og o q) (omega (arith, h.fits)) (k₂ ∙ k₁) (over_done own og o i h k₁ q s k₂ e) named k₃ h.shares f))
        p (sym (c p h.here)) h

  module _ (c : SourceCount x lo hi 2) {m : ℕ} (own : OwnStart x lo hi m) {mid : ℕ} (st : mid ≡ start_at x m) {u : ℕ} {y₁ : List ℕ}
      (a : Circuits records columns' x lo mid (tail + (hi - mid)) y at u y₁) where
    -- the left source is refused
    pub left_stop : length y₁ < u → Circuits records columns' x lo hi tail y at u y₁
    unfolding ShortCircuit
    left_stop z schema text tables g named room rest p h =
        by_join (λ p. Reading schema text tables x lo hi tail y at room rest p → Streamed (Kept schema text tables p) y at tail u y₁ (ShortCircuit room schema rest p))
        (λ og outer j l r h. streamed_stop (ShortCircuit room schema (rest + (node_size r + join_size j)) l)
        (a schema text tables g named room (rest + (node_size r + join_size j)) l (left_reading own st og outer j l r h))
        (λ p. ShortCircuit room schema (rest + (node_size p + join_size j)) r >>= λ q. short_circuit room schema rest (join og outer j p q)) z) p (sym (c p h.here)) h

    module _ (k₁ : length y₁ ≡ length y) (z : u ≤ length y₁) {v : ℕ} {y₂ : List ℕ} (b : Circuits records columns' x mid m (tail + (hi - m)) y₁ u v y₂) where
      left_went : {n : ℕ} {y₃ : List ℕ} (schema : Schema) (text : List ℕ) (tables : ℕ) → Records records columns' schema → Named schema (length text) → (room rest : ℕ)
          → ((og : ℕ) (outer : Bool) (j : Join) (l r : Node) (h : Reading schema text tables x lo hi tail y at room rest (join og outer j l r))
          → (p : Node) (s : Streamed (Kept schema text tables l) y at (tail + (hi - mid)) u y₁ (done p))
          → Streamed (Kept schema text tables r) y₁ u (tail + (hi - m)) v y₂ (ShortCircuit room schema (rest + (node_size p + join_size j)) r)
          → Streamed (Kept schema text tables (join og outer j l r)) y at tail n y₃
          (ShortCircuit room schema (rest + (node_size p + join_size j)) r >>= λ q. short_circuit room schema rest (join og outer j p q)))
          → (p : Node) → Reading schema text tables x lo hi tail y at room rest p → Streamed (Kept schema text tables p) y at tail n y₃ (ShortCircuit room schema rest p)
      unfolding ShortCircuit
      left_went {n} {y₃} schema text tables g named room rest e p h =
          by_join (λ p. Reading schema text tables x lo hi tail y at room rest p → Streamed (Kept schema text tables p) y at tail n y₃ (ShortCircuit room schema rest p))
          (λ og outer j l r h. streamed_go (ShortCircuit room schema (rest + (node_size r + join_size j)) l)
          (a schema text tables g named room (rest + (node_size r + join_size j)) l (left_reading own st og outer j l r h))
          (λ p. ShortCircuit room schema (rest + (node_size p + join_size j)) r >>= λ q. short_circuit room schema rest (join og outer j p q)) z
          (λ p s. e og outer j l r h p s
          (b schema text tables g named room (rest + (node_size p + join_size j)) r (right_reading own st og outer j l r h k₁ p s)))) p (sym (c p h.here)) h

      -- the right source is refused
      pub right_stop : length y₂ < v → Circuits records columns' x lo hi tail y at v y₂
      right_stop i schema text tables g named room rest p h =
          left_went schema text tables g named room rest
          (λ og outer j l r h p s t. streamed_stop (ShortCircuit room schema (rest + (node_size p + join_size j)) r) t (λ q. short_circuit room schema rest (join og outer j p q)) i) p h

      pub join_circuits : length y₂ ≡ length y₁ → v ≤ length y₂ → {w : ℕ} {y₃ : List ℕ} → length y₃ ≡ length y₂ → Finishes x m hi y₂ at v w y₃ → {n : ℕ} {y₄ : List ℕ}
          → length y₄ ≡ length y₃ → CircuitsNode records columns' y₃ at w tail n y₄ → Circuits records columns' x lo hi tail y at n y₄
      join_circuits k₂ i k₃ e k₄ f schema text tables g named room rest p h =
          left_went schema text tables g named room rest
          (λ og outer j l r h p s t. streamed_go (ShortCircuit room schema (rest + (node_size p + join_size j)) r) t (λ q. short_circuit room schema rest (join og outer j p q)) i
          (λ q t. written_next text g (join og outer j l r) (join og outer j p q) (omega (arith, h.fits)) (k₃ ∙ k₂ ∙ k₁)
          (join_done own st og outer j l r h k₁ p s k₂ q t k₃ e) named k₄ h.shares f)) p h

-- ---- bounds

module _ {records columns' x : List ℕ} {lo hi tail : ℕ} {y : List ℕ} {at : ℕ} (d : CircuitAt records columns' x lo hi tail y at) where
  pub node_there : NodeAt x lo hi
  node_there = record { p = d.stream.p; here = d.stream.reading.here }

  pub node_inside : (lo + cell_words ≤ hi) × (hi ≤ length x)
  node_inside = node_in d.stream.p d.stream.reading.here
