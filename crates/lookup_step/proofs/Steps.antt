-- A step: whether a leaf is a Scan with a filter, the filter's normal form, and what becomes of the leaf.
use Prim.Native.Nat.{ℕ, ◌+◌, ◌-◌, ◌%◌, ◌≤◌, ◌<◌}
use native.Mathlib.Omega.{arith}
use borrow.Author.Tests.{le-leb, lt-leb}
use mathlib.Core.Bool.{Bool, true, false, ◌&&◌}
use mathlib.Core.Logic.{⊎_elim}
use mathlib.Core.Option.{Option, none, some}
use mathlib.Core.Path.{◌≡◌, refl, sym, ap, ◌∙◌, subst}
use mathlib.Core.List.{List}
use lib.Dec.{eqb, leb}
use lib.ListN.{length}
use Rattle.sql.specs.Schema.{Schema}
use Rattle.sql.specs.Expression.{Expression, size, into_nnf, into_cnf, distribute}
use Rattle.sql.specs.Plan.{by_key, by_index, Leaf, scan, lookup, nothing, values, Node, leaf, node_size}
use Rattle.sql.specs.Answer.{Answer, done, ◌>>=◌}
use Rattle.sql.specs.Optimizer
use Rattle.sql.specs.Room.{if_room, scan_filter, normal_forms_fit, step, index_lookup, IndexLookup}
use Rattle.sheet.specs.Cells.{present}
use Rattle.sound.specs.Lookup.{leaf_keeps}
use Rattle.cells.specs.declared.Cell.{Cell}
use Rattle.cells.specs.Cells.{cell_words, cell_at}
use Rattle.cells.specs.Room.{Short, Copies}
use Rattle.cells.proofs.Laws.{fits, lt_or_ge, wrote_up}
use Rattle.words.specs.Words.{cell, leaf_cell}
use Rattle.words.specs.Place.{ExpressionHere, ExpressionAt, Maps, NodeHere}
use Rattle.words.proofs.Nodes.{node_cell_is, children_part}
use Rattle.words.proofs.Sizes.{expression_long, words_long}
use Rattle.words.proofs.Tags.{by_leaf}
use Rattle.conjuncts.proofs.Appending.{written_part}
use Rattle.nodes.specs.Own.{SourceCount}
use Rattle.kept.specs.Kept.{Kept}
use Rattle.stream.specs.Stream.{Reading, StreamAt, Streamed, Streams, InRoom}
use Rattle.stream.proofs.Streams.{reading_total, streamed_refused, step_streamed, copied_done}
use Rattle.stream.proofs.Sources.{leaf_streams}
use Rattle.records.specs.Records.{Records}
use Rattle.lookup_step.specs.Lookup.{FilteredAt, HasFilter, Normalizes, LooksUp}

below : (a b : ℕ) → (b ≤ a → ⊥) → a < b
below a b h = ⊎_elim (λ (z : a < b). z) (λ (z : b ≤ a). absurd (h z)) (lt_or_ge a b)

-- ---- a Scan with a filter

flag_of : (og : ℕ) (l : Leaf) → (cell og (leaf_cell l)).tag ≡ 62 → eqb ((cell og (leaf_cell l)).flag % 2) 1 ≡ present (scan_filter l)
unfolding cell
flag_of og (scan t none none) h = refl
flag_of og (scan t none (some e)) h = refl
flag_of og (scan t (some r) none) h = refl
flag_of og (scan t (some r) (some e)) h = refl
flag_of og (lookup by_key t none vs) h = absurd (omega (arith, h))
flag_of og (lookup by_key t (some r) vs) h = absurd (omega (arith, h))
flag_of og (lookup (by_index i) t none vs) h = absurd (omega (arith, h))
flag_of og (lookup (by_index i) t (some r) vs) h = absurd (omega (arith, h))
flag_of og (nothing ls) h = absurd (omega (arith, h))
flag_of og (values rs) h = absurd (omega (arith, h))

no_scan : (og : ℕ) (l : Leaf) → ((cell og (leaf_cell l)).tag ≡ 62 → ⊥) → false ≡ present (scan_filter l)
unfolding cell
no_scan og (scan t none q) h = absurd (h refl)
no_scan og (scan t (some r) q) h = absurd (h refl)
no_scan og (lookup a t al vs) h = refl
no_scan og (nothing ls) h = refl
no_scan og (values rs) h = refl

module _ {x : List ℕ} {lo hi : ℕ} {k : Cell} (e : k ≡ cell_at x hi) where
  cell_here : (og : ℕ) (l : Leaf) → NodeHere x lo hi (leaf og l) → k ≡ cell og (leaf_cell l)
  cell_here og l u = e ∙ node_cell_is (leaf og l) u

  pub filter_by_flag : k.tag ≡ 62 → HasFilter x lo hi (eqb (k.flag % 2) 1)
  filter_by_flag h og l u =
      ap (λ (c : Cell). eqb (c.flag % 2) 1) (cell_here og l u) ∙ flag_of og l (sym (ap (λ (c : Cell). c.tag) (cell_here og l u)) ∙ h)

  pub filter_none : (k.tag ≡ 62 → ⊥) → HasFilter x lo hi false
  filter_none h og l u = no_scan og l (λ z. h (ap (λ (c : Cell). c.tag) (cell_here og l u) ∙ z))

true_false : {B : Type 0} → true ≡ false → B
true_false h = absurd (let z : ◌≡◌ {A = ℕ} 0 1 = cc in omega arith)

by_filter : (P : Leaf → Type 0) → ((t : ℕ) (al : Option ℕ) (q : Expression) → P (scan t al (some q))) → (l : Leaf) → true ≡ present (scan_filter l) → P l
by_filter P f (scan t al (some q)) h = f t al q
by_filter P f (scan t al none) h = true_false h
by_filter P f (lookup a t al vs) h = true_false h
by_filter P f (nothing ls) h = true_false h
by_filter P f (values rs) h = true_false h

-- the filter's words are those before the Scan's cell
filter_here : {x : List ℕ} {lo hi : ℕ} (og t : ℕ) (al : Option ℕ) (q : Expression) → NodeHere x lo hi (leaf og (scan t al (some q))) → ExpressionHere x lo (hi - cell_words) q
filter_here og t al q u = record { part = children_part (leaf og (scan t al (some q))) u }

-- ---- the normal form

module _ {x : List ℕ} {lo hi : ℕ} {z : List ℕ} {n : ℕ} {z₁ : List ℕ} (a : Maps into_nnf x lo hi z 0 n z₁) where
  pub nnf_full : {w : List ℕ} → length z ≡ length w → Short w → length z < n → Normalizes x lo hi n w
  nnf_full k short h e u = record {
    fits = λ f. absurd (omega arith);
    room = λ room schema l f. absurd (omega arith);
    full = λ room schema l f.
        let i = expression_long (into_nnf e) in
        let j : room < size (into_nnf e) = below room (size (into_nnf e)) (λ v. let y = (fits (a e u) (omega arith) (omega arith)).0 in omega arith) in
        ap (λ (b : Bool). b && leb (size (into_cnf e)) room) (lt-leb _ _ j);
  }

  pub nnf_at : length z₁ ≡ length z → n ≤ length z₁ → ExpressionAt x lo hi → ExpressionAt z₁ 0 n
  nnf_at k h p = record { e = into_nnf p.e; here = record { part = written_part (a p.e p.here) (omega arith) } }

  pub normal : {w : List ℕ} → length z ≡ length w → Short w → length z₁ ≡ length z → n ≤ length z₁ → {m : ℕ} {w₁ : List ℕ} → length w₁ ≡ length w
      → Maps distribute z₁ 0 n w 0 m w₁ → Normalizes x lo hi m w₁
  unfolding into_cnf
  normal {w} k short k₁ h {m} {w₁} k₂ b e u =
      let v = a e u in
      let t = b (into_nnf e) (record { part = written_part v (omega arith) }) in
      let i = expression_long (into_nnf e) in
      let j = expression_long (distribute (into_nnf e)) in
      let g = wrote_up v (omega arith) in
      record {
        fits = λ f. record { part = written_part t (omega arith) };
        room = λ room schema l f.
            let y = wrote_up t (omega arith) in
            ap (λ (b : Bool). b && leb (size (distribute (into_nnf e))) room) (le-leb (size (into_nnf e)) room (omega arith))
            ∙ le-leb (size (distribute (into_nnf e))) room (omega arith);
        full = λ room schema l f.
            let c : room < size (distribute (into_nnf e)) =
            below room (size (distribute (into_nnf e))) (λ s. let y = (fits t short (omega arith)).0 in omega arith) in
            ap (λ (b : Bool). b && leb (size (distribute (into_nnf e))) room) (le-leb (size (into_nnf e)) room (omega arith))
            ∙ lt-leb (size (distribute (into_nnf e))) room c;
      }

-- ---- the definition, by what is known of the filter

module _ (room : ℕ) (schema : Schema) (rest : ℕ) where
  as_it_is : (og : ℕ) (l : Leaf) → false ≡ present (scan_filter l) → rest + node_size (leaf og l) ≤ room → IndexLookup room schema rest (leaf og l) ≡ done (leaf og l)
  unfolding IndexLookup index_lookup Optimizer.index_lookup
  as_it_is og (scan t al none) h k = ap (λ (b : Bool). if_room b (leaf og (scan t al none))) (le-leb _ _ k)
  as_it_is og (scan t al (some q)) h k = true_false (sym h)
  as_it_is og (lookup a t al vs) h k = ap (λ (b : Bool). if_room b (leaf og (lookup a t al vs))) (le-leb _ _ k)
  as_it_is og (nothing ls) h k = ap (λ (b : Bool). if_room b (leaf og (nothing ls))) (le-leb _ _ k)
  as_it_is og (values rs) h k = ap (λ (b : Bool). if_room b (leaf og (values rs))) (le-leb _ _ k)

  module _ (og t : ℕ) (al : Option ℕ) (q : Expression) where
    by_room : {b : Bool} → normal_forms_fit room schema (some q) ≡ b
        → IndexLookup room schema rest (leaf og (scan t al (some q)))
        ≡ (if_room b (leaf og (scan t al (some q))) >>= λ n. step room schema rest (Optimizer.index_lookup schema og (scan t al (some q))))
    unfolding IndexLookup index_lookup
    by_room e =
        ap (λ (b : Bool). if_room b (leaf og (scan t al (some q))) >>= λ n. step room schema rest (Optimizer.index_lookup schema og (scan t al (some q)))) e

-- ---- the step

module _ {x : List ℕ} {lo hi : ℕ} {b : Bool} (f : HasFilter x lo hi b) (c : SourceCount x lo hi 0) where
  module _ {records columns : List ℕ} {tail : ℕ} {y : List ℕ} {at : ℕ} where
    -- a leaf without a filter
    pub leaf_copied : b ≡ false → {r : ℕ} {y' : List ℕ} → length y' ≡ length y → Copies x lo hi y at r y'
        → Streams (Records records columns) IndexLookup x lo hi tail y at r y'
    leaf_copied h {r} {y'} k v =
        leaf_streams c refl IndexLookup
        (λ schema text tables lent room rest og l g.
        subst (λ (o : Answer Node). Streamed (Kept schema text tables (leaf og l)) y at tail r y' o)
        (sym (as_it_is room schema rest og l (sym h ∙ f og l g.here) (omega (arith, reading_total g, words_long (leaf og l), g.shares.all, g.shares.outside))))
        (copied_done (leaf og l) g k v))

  module _ (h : b ≡ true) where
    when_filtered : (P : Leaf → Type 0) → ((t : ℕ) (al : Option ℕ) (q : Expression) → P (scan t al (some q))) → (og : ℕ) (l : Leaf) → NodeHere x lo hi (leaf og l) → P l
    when_filtered P g og l u = by_filter P g l (sym h ∙ f og l u)

    module _ {records columns : List ℕ} {tail : ℕ} {y : List ℕ} {at : ℕ} where
      module _ (d : StreamAt (Records records columns) x lo hi tail y at) where
        scan_read : (P : Type 0)
            → ((og t : ℕ) (al : Option ℕ) (q : Expression)
            → Reading d.schema d.text d.tables x lo hi tail y at d.room d.rest (leaf og (scan t al (some q))) → P) → P
        scan_read P g =
            by_leaf (λ p. Reading d.schema d.text d.tables x lo hi tail y at d.room d.rest p → P)
            (λ og l i. when_filtered (λ l. Reading d.schema d.text d.tables x lo hi tail y at d.room d.rest (leaf og l) → P) (g og) og l i.here i)
            d.p (sym (c d.p d.reading.here)) d.reading

        pub filter_at : ExpressionAt x lo (hi - cell_words)
        filter_at = scan_read (ExpressionAt x lo (hi - cell_words)) (λ og t al q g. record { e = q; here = filter_here og t al q g.here })

        pub filtered_at : {m : ℕ} {w : List ℕ} → Normalizes x lo (hi - cell_words) m w → m ≤ length w → FilteredAt x lo hi y w m records columns
        filtered_at {m} {w} n k =
            scan_read (FilteredAt x lo hi y w m records columns)
            (λ og t al q g. record {
              schema = d.schema;
              text = d.text;
              tables = d.tables;
              given = d.lent;
              og = og;
              table = t;
              alias = al;
              predicate = q;
              sound = g.fit.0;
              here = g.here;
              cnf_here = (n q (filter_here og t al q g.here)).fits k;
              short = d.short_out;
            })

      module _ {m : ℕ} {w : List ℕ} (n : Normalizes x lo (hi - cell_words) m w) (k : length w ≡ length y) where
        -- a normal form without room
        pub leaf_refused : length w < m → Streams (Records records columns) IndexLookup x lo hi tail y at m y
        leaf_refused z =
            leaf_streams c refl IndexLookup
            (λ schema text tables lent room rest og l g.
            when_filtered (λ l. Reading schema text tables x lo hi tail y at room rest (leaf og l)
            → Streamed (Kept schema text tables (leaf og l)) y at tail m y (IndexLookup room schema rest (leaf og l)))
            (λ t al q g. subst (λ (o : Answer Node). Streamed (Kept schema text tables (leaf og (scan t al (some q)))) y at tail m y o)
            (sym (by_room room schema rest og t al q ((n q (filter_here og t al q g.here)).full room schema (k ∙ g.shares.all) z)))
            (streamed_refused (omega arith)))
            og l g.here g)

        pub leaf_looked : m ≤ length w → {u : ℕ} {y₁ : List ℕ} → length y₁ ≡ length y → LooksUp x lo hi y at w m records columns u y₁ → {r : ℕ} → InRoom y₁ u tail r
            → Streams (Records records columns) IndexLookup x lo hi tail y at r y₁
        leaf_looked z {u} {y₁} k₁ v {r} i =
            leaf_streams c refl IndexLookup
            (λ schema text tables lent room rest og l g.
            when_filtered (λ l. Reading schema text tables x lo hi tail y at room rest (leaf og l)
            → Streamed (Kept schema text tables (leaf og l)) y at tail r y₁ (IndexLookup room schema rest (leaf og l)))
            (λ t al q g.
            let e = n q (filter_here og t al q g.here) in
            subst (λ (o : Answer Node). Streamed (Kept schema text tables (leaf og (scan t al (some q)))) y at tail r y₁ o)
            (sym (by_room room schema rest og t al q (e.room room schema (k ∙ g.shares.all) z)))
            (step_streamed (Optimizer.index_lookup schema og (scan t al (some q))) (leaf_keeps schema text tables og (scan t al (some q)) g.fit.0) g.shares k₁
            (v schema text tables lent og t al q g.fit.0 g.here (e.fits z)) i))
            og l g.here g)
