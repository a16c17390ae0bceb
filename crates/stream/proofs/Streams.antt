-- Laws on what a streamed function leaves: a node that is written, a step with room, one answer after another, and a node's own words behind its sources.
use Prim.Native.Nat.{ℕ, ◌+◌, ◌-◌, ◌*◌, ◌≤◌, ◌<◌}
use native.Mathlib.Omega.{arith}
use mathlib.Core.Logic.{◌⊎◌, ⊎_elim}
use mathlib.Core.Path.{◌≡◌, refl, sym, ap, ap₂, ◌∙◌, subst}
use mathlib.Core.List.{List, [], ◌++◌, append_assoc}
use lib.ListN.{length, take, drop, replicate, length-append, length-drop, length-replicate, take-append-drop}
use lib.Seq.{take-take, take_at, length-take-le}
use lib.Dec.{leb}
use borrow.Author.Tests.{le-leb, lt-leb}
use Rattle.sql.specs.Schema.{Schema}
use Rattle.sql.specs.Plan.{node_origin, Node, node_size}
use Rattle.sql.specs.Answer.{Answer, done, refused, ◌>>=◌}
use Rattle.sql.specs.Room.{if_room}
use Rattle.cells.specs.declared.Cell.{Cell}
use Rattle.cells.specs.Cells.{cell_words, words, sized, cell_at, Part}
use Rattle.cells.specs.Room.{most_words, Short, Wrote, Puts, Copies}
use Rattle.cells.proofs.Laws as cells
use Rattle.cells.proofs.Laws.{then, fits, full, lt_or_ge}
use Rattle.words.specs.Words.{cell, own_words, node_cell, node_words}
use Rattle.words.specs.Place.{NodeHere, NodeAt}
use Rattle.words.proofs.Nodes.{own_part, node_cell_is, node_in}
use Rattle.words.proofs.Sizes.{words_long, sized_long}
use Rattle.nodes.specs.Own.{OwnStart}
use Rattle.edit.specs.Edit.{Shares}
use Rattle.kept.specs.Kept.{Kept}
use Rattle.stream.specs.Stream.{Reading, StreamAt, Streamed, Finishes, InRoom}

-- ---- the node that is read
pub reading_total : {schema : Schema} {text : List ℕ} {tables : ℕ} {x : List ℕ} {lo hi tail : ℕ} {y : List ℕ} {at room rest : ℕ} {p : Node}
    → Reading schema text tables x lo hi tail y at room rest p → at + length (node_words p) + tail ≤ length y
reading_total h = omega (arith, h.fits, h.here.part.high)

module _ {Lent : Schema → Type 0} {x : List ℕ} {lo hi tail : ℕ} {y : List ℕ} {at : ℕ} (g : StreamAt Lent x lo hi tail y at) where
  pub stream_node : NodeAt x lo hi
  stream_node = record { p = g.p; here = g.reading.here }

  pub stream_in : (lo + cell_words ≤ hi) × (hi ≤ length x)
  stream_in = node_in g.p g.reading.here

  pub stream_fits : at + (hi - lo) + tail ≤ length y
  stream_fits = g.reading.fits

-- ---- what is written
module _ {Fit : Node → Type 0} {y : List ℕ} {at tail n : ℕ} {y' : List ℕ} where
  -- a node that is written, where there is room
  pub written_done : (q : Node) → Fit q → length y' ≡ length y → at + length (node_words q) + tail ≤ length y → Short y → Wrote y at (node_words q) n y'
      → Streamed Fit y at tail n y' (done q)
  written_done q i k z short w = let (e, f) = fits w short (omega arith) in record { is = (omega arith, (f, i)) }

  -- no room
  pub streamed_refused : length y' < n → Streamed Fit y at tail n y' (refused 14 0)
  streamed_refused z = record { is = (z, (refl, refl)) }

  -- a step: the node that is written, with the question for room
  pub step_streamed : {room rest r : ℕ} (q : Node) → Fit q → Shares y at tail room rest → length y' ≡ length y → Wrote y at (node_words q) n y' → InRoom y' n tail r
      → Streamed Fit y at tail r y' (if_room (leb (rest + node_size q) room) q)
  step_streamed {room} {rest} {r} q i s k w g =
      let l = words_long q in
      ⊎_elim
      (λ (z : room < rest + node_size q).
      rw (lt-leb _ _ z)
      (record {
        is = (
          ⊎_elim
              (λ (v : length y < at + length (node_words q)). let a = full w v in let b = g.full (omega arith) in omega arith)
              (λ (v : at + length (node_words q) ≤ length y).
              let (e, f) = fits w s.short v in let b = g.full (omega (arith, s.all, s.outside)) in omega arith)
              (lt_or_ge (length y) (at + length (node_words q))),
          (refl, refl),
        );
      }))
      (λ (z : rest + node_size q ≤ room).
      let (e, f) = fits w s.short (omega (arith, s.all, s.outside)) in
      let b = g.fits (omega (arith, s.all, s.outside)) in
      rw (le-leb _ _ z) (record { is = (omega (arith, s.all, s.outside), (ap (λ (m : ℕ). take m y') b ∙ f, i)) }))
      (lt_or_ge room (rest + node_size q))

  -- a node that was written, as the next function finds it
  module _ (q : Node) (h : at ≤ length y) (s : Streamed Fit y at tail n y' (done q)) where
    pub done_fit : Fit q
    done_fit = s.is.1.1

    pub done_room : n + tail ≤ length y'
    done_room = s.is.0

    pub done_long : n ≡ at + length (node_words q)
    done_long =
        omega (arith, s.is.0, length-take-le n y' (omega (arith, s.is.0)), ap length s.is.1.0, length-append (take at y) (node_words q), length-take-le at y h)

    pub done_wrote : length y' ≡ length y → Wrote y at (node_words q) n y'
    done_wrote k = record { is = λ i. (done_long, s.is.1.0); room = λ _ i. omega (arith, s.is.0) }

    pub done_here : NodeHere y' at n q
    done_here =
        record {
          part =
              record {
                before = take at y;
                after = drop n y';
                whole =
                    sym (take-append-drop n y')
                    ∙ ap (λ (l : List ℕ). l ++ drop n y') s.is.1.0
                    ∙ append_assoc (take at y) (node_words q) (drop n y');
                low = length-take-le at y h;
                high = sym done_long;
              };
        }

    -- the words before it are those that were written before
    pub done_before : take at y' ≡ take at y
    done_before =
        sym (take-take at n y' (omega (arith, done_long))) ∙ ap (take at) s.is.1.0 ∙ take_at (take at y) (node_words q) at (length-take-le at y h)

    -- so what is written over it stands behind the same words
    pub written_over : length y' ≡ length y → {w : List ℕ} {r : ℕ} {y₂ : List ℕ} → Wrote y' at w r y₂ → Wrote y at w r y₂
    written_over k {w} a =
        record {
          is = λ i. let (e, f) = a.is (omega arith) in (e, f ∙ ap (λ (l : List ℕ). l ++ w) done_before);
          room = λ s i. let z = a.room (omega arith) (omega arith) in omega arith;
        }

-- a node that is copied as it is
pub copied_done : {schema : Schema} {text : List ℕ} {tables : ℕ} {x : List ℕ} {lo hi tail : ℕ} {y : List ℕ} {at room rest : ℕ} (p : Node)
    → Reading schema text tables x lo hi tail y at room rest p → {n : ℕ} {y' : List ℕ} → length y' ≡ length y → Copies x lo hi y at n y'
    → Streamed (Kept schema text tables p) y at tail n y' (done p)
copied_done p h k c = written_done p h.fit k (reading_total h) h.shares.short (c (node_words p) h.here.part)

-- ---- one answer after another
module _ {Fit : Node → Type 0} {y : List ℕ} {at tail n : ℕ} {y' : List ℕ} (o : Answer Node) (s : Streamed Fit y at tail n y' o) where
  -- the answer is done where the number of words isn't past the end
  pub streamed_with : n ≤ length y' → (P : Type 0) → ((q : Node) → Streamed Fit y at tail n y' (done q) → P) → P
  streamed_with z P k = go o s
    where
      go : (o : Answer Node) → Streamed Fit y at tail n y' o → P
      go (done q) s = k q s
      go (refused number place) s = absurd (omega (arith, s.is.0))

  module _ {Next : Node → Type 0} {y₀ : List ℕ} {at₀ tail₀ : ℕ} (g : Node → Answer Node) where
    pub streamed_stop : length y' < n → Streamed Next y₀ at₀ tail₀ n y' (o >>= g)
    streamed_stop z = go o s
      where
        go : (o : Answer Node) → Streamed Fit y at tail n y' o → Streamed Next y₀ at₀ tail₀ n y' (o >>= g)
        go (done q) s = absurd (omega (arith, s.is.0))
        go (refused number place) s = record { is = s.is }

    pub streamed_go : n ≤ length y' → {r : ℕ} {y₂ : List ℕ} → ((q : Node) → Streamed Fit y at tail n y' (done q) → Streamed Next y₀ at₀ tail₀ r y₂ (g q))
        → Streamed Next y₀ at₀ tail₀ r y₂ (o >>= g)
    streamed_go z {r} {y₂} k = go o s
      where
        go : (o : Answer Node) → Streamed Fit y at tail n y' o → Streamed Next y₀ at₀ tail₀ r y₂ (o >>= g)
        go (done q) s = k q s
        go (refused number place) s = absurd (omega (arith, s.is.0))

-- ---- own words and cell

-- the words of y from `at` up to n, as if they were written now
behind : (y : List ℕ) (at n : ℕ) → at ≤ n → n ≤ length y → Wrote y at (drop at (take n y)) n y
behind y at n h k =
    let l = length-drop at (take n y) in
    let m = length-take-le n y k in
    cells.done (omega arith) (omega arith) (sym (take-append-drop at (take n y)) ∙ ap (λ (w : List ℕ). w ++ drop at (take n y)) (take-take at n y h))

-- where there is no room for the words, there is none for the cell
past : {y : List ℕ} {at end n : ℕ} {y' : List ℕ} (c : Cell) → Puts y at end c n y' → length y < end → length y < n
past {y} {end = end} c s z =
    let l = length-replicate {A = ℕ} end 0 in
    full (s.0 y (replicate end 0) refl (cells.no_room (omega arith) z)) (omega (arith, sized_long (replicate end 0) c))

pub finished : {x : List ℕ} {m hi : ℕ} {y : List ℕ} {at u end n : ℕ} {y₁ y₂ : List ℕ} {c : Cell} → length y₁ ≡ length y → Copies x m (hi - cell_words) y u end y₁
    → c ≡ cell_at x hi → Puts y₁ at end c n y₂ → Finishes x m hi y at u n y₂
finished {x} {m} {hi} {y} {at} {u} {end} {n} {y₁} {y₂} {c} k a q s = record {
  writes = λ own p h. ⊎_elim
      (λ (z : length y₁ < end).
      let j = length-append own (words (cell_at x hi) (u + length own - at + cell_words)) in
      record { is = λ r. absurd (let d = past c s z in omega arith); room = λ r o. absurd (let d = (a own p).room (omega arith) (omega arith) in omega arith) })
      (λ (z : end ≤ length y₁). there own p h z) (lt_or_ge (length y₁) end);
  before = λ own p h. ⊎_elim (λ (z : length y₁ < end). let d = past c s z in omega arith)
      (λ (z : end ≤ length y₁). let e = cells.wrote_up (a own p) (omega arith) in let d = s.1 (omega arith) in omega arith) (lt_or_ge (length y₁) end);
}
  where
    there : (own : List ℕ) → Part x m (hi - cell_words) own → at ≤ u + length own → end ≤ length y₁ → Wrote y u (own ++ words (cell_at x hi) (u + length own - at + cell_words)) n y₂
    there own p h z =
        let (e, t) = (a own p).is (omega arith) in
        let b = drop at (take end y₁) in
        let v = behind y₁ at end (omega arith) z in
        let (f, i) = v.is z in
        let g = s.0 y₁ b refl v in
        let l = sized_long b c in
        let j = length-append own (words (cell_at x hi) (u + length own - at + cell_words)) in
        let size : length b + cell_words ≡ u + length own - at + cell_words = omega arith in
        record {
          is = λ r. let (e₁, t₁) = g.is (omega arith) in (
            omega arith,
            t₁
                ∙ sym (append_assoc (take at y₁) b (words c (length b + cell_words)))
                ∙ ap (λ (w : List ℕ). w ++ words c (length b + cell_words)) (sym i ∙ t)
                ∙ append_assoc (take u y) own (words c (length b + cell_words))
                ∙ ap₂ (λ (d : Cell) (o : ℕ). take u y ++ (own ++ words d o)) q size,
          );
          room = λ r o. let d = g.room (omega arith) (omega arith) in omega arith;
        }

-- of the node whose own words they are, behind whatever was written from `at` on
pub finishes_node : {x : List ℕ} {m hi : ℕ} {y : List ℕ} {at u n : ℕ} {y₁ : List ℕ} → Finishes x m hi y at u n y₁ → (lo : ℕ) (p : Node) → NodeHere x lo hi p → OwnStart x lo hi m
    → (y₀ b : List ℕ) → length y ≡ length y₀ → Wrote y₀ at b u y → Wrote y₀ at (sized (b ++ own_words p) (cell (node_origin p) (node_cell p))) n y₁
finishes_node {x} {m} {hi} {y} {at} {u} {n} {y₁} f lo p h own y₀ b k w =
    ⊎_elim full_there fits_there (lt_or_ge (length y) u)
  where
    part : Part x m (hi - cell_words) (own_words p)
    part = own_part p h (own p h)

    full_there : length y < u → Wrote y₀ at (sized (b ++ own_words p) (cell (node_origin p) (node_cell p))) n y₁
    full_there z =
        let l = sized_long (b ++ own_words p) (cell (node_origin p) (node_cell p)) in
        let j = length-append b (own_words p) in
        let past : length y < n =
        ⊎_elim (λ (i : u + length (own_words p) < at). f.before (own_words p) part i)
        (λ (i : at ≤ u + length (own_words p)). full (f.writes (own_words p) part i) (omega arith)) (lt_or_ge (u + length (own_words p)) at) in
        record { is = λ r. absurd (omega arith); room = λ r o. absurd (let d = w.room (omega arith) (omega arith) in omega arith) }

    fits_there : u ≤ length y → Wrote y₀ at (sized (b ++ own_words p) (cell (node_origin p) (node_cell p))) n y₁
    fits_there z =
        let e = cells.wrote_up w (omega arith) in
        let j = length-append b (own_words p) in
        let size = u + length (own_words p) - at + cell_words in
        let i : size ≡ length (b ++ own_words p) + cell_words = omega arith in
        subst (λ (d : Cell). Wrote y₀ at (sized (b ++ own_words p) d) n y₁) (node_cell_is p h)
        (subst (λ (o : ℕ). Wrote y₀ at ((b ++ own_words p) ++ words (cell_at x hi) o) n y₁) i
        (subst (λ (l : List ℕ). Wrote y₀ at l n y₁) (sym (append_assoc b (own_words p) (words (cell_at x hi) size)))
        (then k w (f.writes (own_words p) part (omega arith)))))

-- ---- the whole plan
module _ (x : List ℕ) (t : ℕ) (p : Node) (e : take t x ≡ node_words p) (h : t ≤ length x) where
  top_long : length (node_words p) ≡ t
  top_long = ap length (sym e) ∙ length-take-le t x h

  pub top_here : NodeHere x 0 t p
  top_here =
      record {
        part =
            record {
              before = [];
              after = drop t x;
              whole = sym (take-append-drop t x) ∙ ap (λ (l : List ℕ). l ++ drop t x) e;
              low = refl;
              high = omega (arith, top_long);
            };
      }

  module _ (schema : Schema) (text : List ℕ) (tables : ℕ) (fit : Kept schema text tables p p) (y : List ℕ) (room : ℕ) (a : length y ≡ cell_words * room) (short : Short y) (f : t ≤ length y) where
    pub top_reading : Reading schema text tables x 0 t 0 y 0 room 0 p
    top_reading = record { fit = fit; here = top_here; shares = record { all = a; short = short; outside = refl }; fits = omega arith }

    pub top_at : (Lent : Schema → Type 0) → Lent schema → length x ≤ most_words → length y ≤ most_words → StreamAt Lent x 0 t 0 y 0
    top_at Lent l s u =
        record {
          schema = schema;
          text = text;
          tables = tables;
          lent = l;
          room = room;
          rest = 0;
          p = p;
          reading = top_reading;
          short = s;
          short_out = u;
        }

pub top_done : {Fit : Node → Type 0} {y : List ℕ} {n : ℕ} {y' : List ℕ} (q : Node) → Streamed Fit y 0 0 n y' (done q)
    → (n ≤ length y') × ((take n y' ≡ node_words q) × Fit q)
top_done q s = (omega (arith, s.is.0), (s.is.1.0, s.is.1.1))
