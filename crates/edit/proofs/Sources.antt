-- Laws for a pass that goes on into a node's sources, left before right: Room.each_source. F is what the pass does with a source.
use Prim.Native.Nat.{ℕ, ◌+◌, ◌-◌, ◌*◌, ◌≤◌, ◌<◌}
use native.Mathlib.Omega.{arith}
use mathlib.Core.Bool.{Bool}
use mathlib.Core.Path.{◌≡◌, refl, sym, ap, ◌∙◌}
use mathlib.Core.List.{List, ◌++◌, append_assoc}
use lib.ListN.{length, take, length-append}
use lib.Seq.{length-take-le}
use Rattle.sql.specs.Schema.{Schema}
use Rattle.sql.specs.Plan.{Over, Join, Node, leaf, over, join, over_size, join_size, node_size}
use Rattle.sql.specs.Answer.{Answer, done, ◌>>=◌}
use Rattle.sql.specs.Room.{each_source}
use Rattle.cells.specs.Room.{Short}
use Rattle.cells.specs.declared.Cell.{Cell}
use Rattle.cells.specs.Cells.{cell_words, words, sized, start_at, Sized}
use Rattle.words.specs.Words.{cell, over_own, over_cell, join_own, join_cell, node_words, source_count}
use Rattle.words.proofs.Nodes.{node_long, join_left, sources_sized}
use Rattle.words.proofs.Tags.{by_leaf, by_over, by_join}
use Rattle.words.proofs.Sizes.{over_long, join_long, words_long}
use Rattle.nodes.specs.Own.{OwnStart, SourceCount}
use Rattle.edit.specs.Edit.{Holds, Shares, Held, Left, Edit, Inherited, Reseals}
use Rattle.edit.proofs.Edits.{total, holds_here, left_done, left_stop, left_go, left_with}

-- a node without sources
pub no_sources : {Kept : Node → Node → Type 0} → Inherited Kept → (schema : Schema) (F : ℕ → ℕ → Node → Answer Node) {x : List ℕ} {t lo tail g : ℕ} → SourceCount x lo (t - tail) g → g ≡ 0
    → Edit Kept (λ room. each_source room schema (F room)) x t lo tail t x
no_sources {Kept} fit schema F {x} {t} {lo} {tail} c z room rest s pre post p k h =
    by_leaf (λ p. Kept p p → Holds x t lo tail pre post p → Left (Kept p) x t pre post (each_source room schema (F room) rest p)) (λ og l i w. left_done (leaf og l) i w) p
    (sym (c p (holds_here h)) ∙ z) k h

module _ {Kept : Node → Node → Type 0} {x : List ℕ} {t lo tail : ℕ} (d : Held Kept x t lo tail) where
  pub own_below : {m : ℕ} → OwnStart x lo (t - tail) m → m ≤ t
  own_below own = omega (arith, own d.p (holds_here d.holds), node_long d.p (holds_here d.holds), total d.holds)

  -- a node has no, one or two sources
  pub two_left : {g : ℕ} → SourceCount x lo (t - tail) g → (g ≡ 0 → ⊥) → (g ≡ 1 → ⊥) → g ≡ 2
  two_left {g} c y z = go d.p (c d.p (holds_here d.holds))
    where
      go : (p : Node) → g ≡ source_count p → g ≡ 2
      go (leaf og l) e = absurd (y e)
      go (over og o n) e = absurd (z e)
      go (join og outer j l r) e = e

-- ---- the words of a node behind its source, and their number

behind : ℕ → Over → Node → List ℕ
behind og o n = over_own o ++ words (cell og (over_cell o)) (length (node_words n ++ over_own o) + cell_words)

over_words : (og : ℕ) (o : Over) (n : Node) → node_words (over og o n) ≡ node_words n ++ behind og o n
unfolding node_words behind
over_words og o n = append_assoc (node_words n) (over_own o) (words (cell og (over_cell o)) (length (node_words n ++ over_own o) + cell_words))

behind_long : (og : ℕ) (o : Over) (n : Node) → length (behind og o n) ≡ cell_words * over_size o
unfolding behind
behind_long og o n = omega (arith, over_long o, length-append (over_own o) (words (cell og (over_cell o)) (length (node_words n ++ over_own o) + cell_words)))

module _ (og : ℕ) (outer : Bool) (j : Join) (l r : Node) where
  join_end : List ℕ
  join_end = join_own j ++ words (cell og (join_cell outer j)) (length (node_words l ++ (node_words r ++ join_own j)) + cell_words)

  end_long : length join_end ≡ cell_words * join_size j
  unfolding join_end
  end_long =
      omega (arith, join_long j, length-append (join_own j) (words (cell og (join_cell outer j)) (length (node_words l ++ (node_words r ++ join_own j)) + cell_words)))

  join_words : node_words (join og outer j l r) ≡ node_words l ++ (node_words r ++ join_end)
  unfolding node_words join_end
  join_words = simp append_assoc

  back_long : length (node_words r ++ join_end) ≡ cell_words * (node_size r + join_size j)
  back_long = omega (arith, length-append (node_words r) join_end, end_long, words_long r)

-- the first source of a node whose words behind it are b
first : {x : List ℕ} {t lo tail : ℕ} {pre post : List ℕ} {p : Node} → Holds x t lo tail pre post p → (n : Node) (b : List ℕ) → node_words p ≡ node_words n ++ b
    → {back : ℕ} → back ≡ length b + tail → Holds x t lo back pre (b ++ post) n
first {pre = pre} {post = post} h n b e q =
    record {
      whole = h.whole ∙ ap (λ (w : List ℕ). pre ++ (w ++ post)) e ∙ simp append_assoc;
      low = h.low;
      high = omega (arith, length-append b post, h.high);
      inside = h.inside;
    }

-- a node that is resealed
sealed_left : {Fit : Node → Type 0} {x₂ x₃ : List ℕ} {v lo tail r : ℕ} → Reseals x₂ v lo tail r x₃ → Short x₂ → length x₃ ≡ length x₂ → v ≤ length x₂
    → (pre b post : List ℕ) (k : Cell) (n : ℕ) (q : Node) → node_words q ≡ sized b k → Fit q → take v x₂ ≡ pre ++ ((b ++ words k n) ++ post)
    → length pre ≡ lo → length post ≡ tail → Left Fit x₃ r pre post (done q)
sealed_left {x₃ = x₃} c short k₃ z pre b post k n q e g w i j =
    left_done q g
    (record {
      whole = ap (λ (m : ℕ). take m x₃) (c.room short) ∙ c.seal (omega (arith, c.room short)) pre b post k n w i j ∙ ap (λ (f : List ℕ). pre ++ (f ++ post)) (sym e);
      low = i;
      high = j;
      inside = omega (arith, c.room short);
    })

-- ---- one source, which ends at m

module _ {Kept : Node → Node → Type 0} (fit : Inherited Kept) {x : List ℕ} {t lo tail g m : ℕ} (c : SourceCount x lo (t - tail) g) (one : g ≡ 1)
    (own : OwnStart x lo (t - tail) m) where
  when_over : {pre post : List ℕ} (P : Node → Type 0) → ((og : ℕ) (o : Over) (n : Node) → Kept (over og o n) (over og o n) → Holds x t lo tail pre post (over og o n) → P (over og o n))
      → (p : Node) → Kept p p → Holds x t lo tail pre post p → P p
  when_over {pre} {post} P f p k h = by_over (λ p. Kept p p → Holds x t lo tail pre post p → P p) f p (sym (c p (holds_here h)) ∙ one) k h

  module _ (og : ℕ) (o : Over) (n : Node) {pre post : List ℕ} (h : Holds x t lo tail pre post (over og o n)) where
    after_is : t - m ≡ length (behind og o n) + tail
    after_is =
        omega (arith, own (over og o n) (holds_here h), node_long (over og o n) (holds_here h), total h, behind_long og o n, over_long o)

    source_holds : Holds x t lo (t - m) pre (behind og o n ++ post) n
    source_holds = first h n (behind og o n) (over_words og o n) after_is

    source_shares : {room rest : ℕ} → Shares x lo tail room rest → Shares x lo (t - m) room (rest + over_size o)
    source_shares s = record { all = s.all; short = s.short; outside = omega (arith, after_is, behind_long og o n, s.outside) }

  pub source_held : Held Kept x t lo tail → Held Kept x t lo (t - m)
  source_held d =
      when_over (λ p. Held Kept x t lo (t - m))
      (λ og o n k h. record {
        room = d.room;
        rest = d.rest + over_size o;
        shares = source_shares og o n h d.shares;
        pre = d.pre;
        post = behind og o n ++ d.post;
        p = n;
        fit = fit.source og o n k;
        holds = source_holds og o n h;
      })
      d.p d.fit d.holds

  module _ (schema : Schema) (F : ℕ → ℕ → Node → Answer Node) {u : ℕ} {x₁ : List ℕ} (a : Edit Kept F x t lo (t - m) u x₁) where
    went : {room rest : ℕ} → Shares x lo tail room rest → (og : ℕ) (o : Over) (n : Node) {pre post : List ℕ} → Kept (over og o n) (over og o n) → Holds x t lo tail pre post (over og o n)
        → Left (Kept n) x₁ u pre (behind og o n ++ post) (F room (rest + over_size o) n)
    went {room} {rest} s og o n {pre} {post} k h =
        a room (rest + over_size o) (source_shares og o n h s) pre (behind og o n ++ post) n (fit.source og o n k) (source_holds og o n h)

    pub source_stop : length x₁ < u → Edit Kept (λ room. each_source room schema (F room)) x t lo tail u x₁
    source_stop z room rest s pre post p k h =
        when_over (λ p. Left (Kept p) x₁ u pre post (each_source room schema (F room) rest p))
        (λ og o n k h. left_stop (F room (rest + over_size o) n) (λ q. done (over og o q)) (went s og o n k h) z) p k h

    -- the cell stands behind the source
    pub source_room : u ≤ length x₁ → Held Kept x t lo tail → lo + cell_words + tail ≤ u
    source_room z d =
        when_over (λ p. lo + cell_words + tail ≤ u)
        (λ og o n k h. left_with (lo + cell_words + tail ≤ u) (F d.room (d.rest + over_size o) n) (went d.shares og o n k h) z
        (λ q i w. omega (arith, length-take-le u x₁ z, ap length w, length-append d.pre (node_words q ++ (behind og o n ++ d.post)), length-append (node_words q) (behind og o n ++ d.post), length-append (behind og o n) d.post, behind_long og o n, over_long o, h.low, h.high)))
        d.p d.fit d.holds

    pub source_go : length x₁ ≡ length x → u ≤ length x₁ → {r : ℕ} {x₂ : List ℕ} → length x₂ ≡ length x₁ → Reseals x₁ u lo tail r x₂
        → Edit Kept (λ room. each_source room schema (F room)) x t lo tail r x₂
    unfolding node_words behind
    source_go k₁ z {r} {x₂} k₂ seal room rest s pre post p k h =
        when_over (λ p. Left (Kept p) x₂ r pre post (each_source room schema (F room) rest p))
        (λ og o n k h. left_go (F room (rest + over_size o) n) (λ q. done (over og o q)) (went s og o n k h) z
        (λ q i w. sealed_left seal (omega (arith, s.short)) k₂ z pre (node_words q ++ over_own o) post (cell og (over_cell o)) (length (node_words n ++ over_own o) + cell_words) (over og o q) refl
        (fit.with_source og o n q k i) (w ∙ simp append_assoc) h.low h.high))
        p k h

-- what each_source does with the right source after the left one
then_right : (ℕ → ℕ → Node → Answer Node) → ℕ → ℕ → ℕ → Bool → Join → Node → Node → Answer Node
then_right F room rest og outer j r l = F room (rest + (node_size l + join_size j)) r >>= λ q. done (join og outer j l q)

-- ---- two sources, of which the left one ends at mid and the right one at m

module _ {Kept : Node → Node → Type 0} (fit : Inherited Kept) {x : List ℕ} {t lo tail g m : ℕ} (c : SourceCount x lo (t - tail) g) (two : g ≡ 2)
    (own : OwnStart x lo (t - tail) m) where
  when_join : {pre post : List ℕ} (P : Node → Type 0)
      → ((og : ℕ) (outer : Bool) (j : Join) (l r : Node) → Kept (join og outer j l r) (join og outer j l r) → Holds x t lo tail pre post (join og outer j l r) → P (join og outer j l r))
      → (p : Node) → Kept p p → Holds x t lo tail pre post p → P p
  when_join {pre} {post} P f p k h = by_join (λ p. Kept p p → Holds x t lo tail pre post p → P p) f p (sym (c p (holds_here h)) ∙ two) k h

  pub right_sized : Held Kept x t lo tail → Sized x m
  right_sized d =
      when_join (λ p. Sized x m) (λ og outer j l r k h. sources_sized og outer j l r (holds_here h) (own (join og outer j l r) (holds_here h))) d.p d.fit d.holds

  module _ {mid : ℕ} (st : mid ≡ start_at x m) where
    module _ (og : ℕ) (outer : Bool) (j : Join) (l r : Node) {pre post : List ℕ} (h : Holds x t lo tail pre post (join og outer j l r)) where
      mid_is : mid ≡ lo + length (node_words l)
      mid_is = sym (join_left og outer j l r (holds_here h) (own (join og outer j l r) (holds_here h)) st).part.high

      end_is : t - m ≡ length (join_end og outer j l r) + tail
      end_is =
          omega (arith, own (join og outer j l r) (holds_here h), node_long (join og outer j l r) (holds_here h), total h, end_long og outer j l r, join_long j)

      back_is : t - mid ≡ length (node_words r ++ join_end og outer j l r) + tail
      back_is =
          omega (arith, mid_is, own (join og outer j l r) (holds_here h), end_is, total h, length-append (node_words l) (node_words r), length-append (node_words r) (join_end og outer j l r), node_long (join og outer j l r) (holds_here h))

      left_holds : Holds x t lo (t - mid) pre ((node_words r ++ join_end og outer j l r) ++ post) l
      left_holds = first h l (node_words r ++ join_end og outer j l r) (join_words og outer j l r) back_is

      left_shares : {room rest : ℕ} → Shares x lo tail room rest → Shares x lo (t - mid) room (rest + (node_size r + join_size j))
      left_shares s = record { all = s.all; short = s.short; outside = omega (arith, back_is, back_long og outer j l r, s.outside) }

    pub mid_below : Held Kept x t lo tail → mid ≤ t
    mid_below d = when_join (λ p. mid ≤ t) (λ og outer j l r k h. omega (arith, mid_is og outer j l r h, total h, node_long (join og outer j l r) (holds_here h), own (join og outer j l r) (holds_here h), length-append (node_words l) (node_words r))) d.p d.fit d.holds

    pub left_held : Held Kept x t lo tail → Held Kept x t lo (t - mid)
    left_held d =
        when_join (λ p. Held Kept x t lo (t - mid))
        (λ og outer j l r k h. record {
          room = d.room;
          rest = d.rest + (node_size r + join_size j);
          shares = left_shares og outer j l r h d.shares;
          pre = d.pre;
          post = (node_words r ++ join_end og outer j l r) ++ d.post;
          p = l;
          fit = fit.left og outer j l r k;
          holds = left_holds og outer j l r h;
        })
        d.p d.fit d.holds

    module _ (schema : Schema) (F : ℕ → ℕ → Node → Answer Node) {u : ℕ} {x₁ : List ℕ} (a : Edit Kept F x t lo (t - mid) u x₁) where
      went_left : {room rest : ℕ} → Shares x lo tail room rest → (og : ℕ) (outer : Bool) (j : Join) (l r : Node) {pre post : List ℕ} → Kept (join og outer j l r) (join og outer j l r)
          → Holds x t lo tail pre post (join og outer j l r)
          → Left (Kept l) x₁ u pre ((node_words r ++ join_end og outer j l r) ++ post) (F room (rest + (node_size r + join_size j)) l)
      went_left {room} {rest} s og outer j l r {pre} {post} k h =
          a room (rest + (node_size r + join_size j)) (left_shares og outer j l r h s) pre ((node_words r ++ join_end og outer j l r) ++ post) l (fit.left og outer j l r k)
          (left_holds og outer j l r h)

      pub left_stopped : length x₁ < u → Edit Kept (λ room. each_source room schema (F room)) x t lo tail u x₁
      unfolding then_right
      left_stopped z room rest s pre post p k h =
          when_join (λ p. Left (Kept p) x₁ u pre post (each_source room schema (F room) rest p))
          (λ og outer j l r k h. left_stop (F room (rest + (node_size r + join_size j)) l) (then_right F room rest og outer j r) (went_left s og outer j l r k h) z) p k h

      module _ (k₁ : length x₁ ≡ length x) (z : u ≤ length x₁) where
        -- the right source, after the left one became q
        module _ (og : ℕ) (outer : Bool) (j : Join) (l r : Node) {pre post : List ℕ} (h : Holds x t lo tail pre post (join og outer j l r)) (q : Node)
            (w : take u x₁ ≡ pre ++ (node_words q ++ ((node_words r ++ join_end og outer j l r) ++ post))) where
          start_is : u - (t - mid) ≡ lo + length (node_words q)
          start_is =
              let b = node_words r ++ join_end og outer j l r in
              omega (arith, length-take-le u x₁ z, ap length w, length-append pre (node_words q ++ (b ++ post)), length-append (node_words q) (b ++ post), length-append b post, back_is og outer j l r h, h.low, h.high)

          back_below : t - mid ≤ u
          back_below =
              let b = node_words r ++ join_end og outer j l r in
              omega (arith, length-take-le u x₁ z, ap length w, length-append pre (node_words q ++ (b ++ post)), length-append (node_words q) (b ++ post), length-append b post, back_is og outer j l r h, h.low, h.high)

          right_holds : Holds x₁ u (u - (t - mid)) (t - m) (pre ++ node_words q) (join_end og outer j l r ++ post) r
          right_holds =
              record {
                whole = w ∙ simp append_assoc;
                low = omega (arith, start_is, length-append pre (node_words q), h.low);
                high = omega (arith, end_is og outer j l r h, length-append (join_end og outer j l r) post, h.high);
                inside = z;
              }

          right_shares : {room rest : ℕ} → Shares x lo tail room rest → Shares x₁ (u - (t - mid)) (t - m) room (rest + (node_size q + join_size j))
          right_shares s =
              record {
                all = k₁ ∙ s.all;
                short = omega (arith, k₁, s.short);
                outside = omega (arith, start_is, end_is og outer j l r h, end_long og outer j l r, words_long q, s.outside);
              }

        -- what the left source became, where there is room
        after_left : (P : Type 0) (d : Held Kept x t lo tail)
            → ((og : ℕ) (outer : Bool) (j : Join) (l r : Node) → Kept (join og outer j l r) (join og outer j l r) → Holds x t lo tail d.pre d.post (join og outer j l r) → (q : Node) → Kept l q
            → take u x₁ ≡ d.pre ++ (node_words q ++ ((node_words r ++ join_end og outer j l r) ++ d.post)) → P) → P
        after_left P d f =
            when_join (λ p. P)
            (λ og outer j l r k h. left_with P (F d.room (d.rest + (node_size r + join_size j)) l) (went_left d.shares og outer j l r k h) z (f og outer j l r k h))
            d.p d.fit d.holds

        pub back_fits : Held Kept x t lo tail → t - mid ≤ u
        back_fits d = after_left (t - mid ≤ u) d (λ og outer j l r k h q i w. back_below og outer j l r h q w)

        pub right_held : Held Kept x t lo tail → Held Kept x₁ u (u - (t - mid)) (t - m)
        right_held d =
            after_left (Held Kept x₁ u (u - (t - mid)) (t - m)) d
            (λ og outer j l r k h q i w. record {
              room = d.room;
              rest = d.rest + (node_size q + join_size j);
              shares = right_shares og outer j l r h q w d.shares;
              pre = d.pre ++ node_words q;
              post = join_end og outer j l r ++ d.post;
              p = r;
              fit = fit.right og outer j l r k;
              holds = right_holds og outer j l r h q w;
            })

        module _ {v : ℕ} {x₂ : List ℕ} (b : Edit Kept F x₁ u (u - (t - mid)) (t - m) v x₂) where
          went_right : {room rest : ℕ} → Shares x lo tail room rest → (og : ℕ) (outer : Bool) (j : Join) (l r : Node) {pre post : List ℕ} → Kept (join og outer j l r) (join og outer j l r)
              → Holds x t lo tail pre post (join og outer j l r) → (q : Node)
              → take u x₁ ≡ pre ++ (node_words q ++ ((node_words r ++ join_end og outer j l r) ++ post))
              → Left (Kept r) x₂ v (pre ++ node_words q) (join_end og outer j l r ++ post) (F room (rest + (node_size q + join_size j)) r)
          went_right {room} {rest} s og outer j l r {pre} {post} k h q w =
              b room (rest + (node_size q + join_size j)) (right_shares og outer j l r h q w s) (pre ++ node_words q) (join_end og outer j l r ++ post) r
              (fit.right og outer j l r k) (right_holds og outer j l r h q w)

          pub right_stopped : length x₂ < v → Edit Kept (λ room. each_source room schema (F room)) x t lo tail v x₂
          unfolding then_right
          right_stopped y room rest s pre post p k h =
              when_join (λ p. Left (Kept p) x₂ v pre post (each_source room schema (F room) rest p))
              (λ og outer j l r k h. left_go (F room (rest + (node_size r + join_size j)) l) (then_right F room rest og outer j r) (went_left s og outer j l r k h) z
              (λ q i w. left_stop (F room (rest + (node_size q + join_size j)) r) (λ n. done (join og outer j q n)) (went_right s og outer j l r k h q w) y))
              p k h

          module _ (y : v ≤ length x₂) where
            pub both_room : Held Kept x t lo tail → lo + cell_words + tail ≤ v
            both_room d =
                after_left (lo + cell_words + tail ≤ v) d
                (λ og outer j l r k h q i w. left_with (lo + cell_words + tail ≤ v) (F d.room (d.rest + (node_size q + join_size j)) r) (went_right d.shares og outer j l r k h q w) y
                (λ n i w. omega (arith, length-take-le v x₂ y, ap length w, length-append (d.pre ++ node_words q) (node_words n ++ (join_end og outer j l r ++ d.post)), length-append d.pre (node_words q), length-append (node_words n) (join_end og outer j l r ++ d.post), length-append (join_end og outer j l r) d.post, end_long og outer j l r, join_long j, h.low, h.high)))

            pub both_go : length x₂ ≡ length x₁ → {e : ℕ} {x₃ : List ℕ} → length x₃ ≡ length x₂ → Reseals x₂ v lo tail e x₃
                → Edit Kept (λ room. each_source room schema (F room)) x t lo tail e x₃
            unfolding node_words join_end then_right
            both_go k₂ {e} {x₃} k₃ seal room rest s pre post p k h =
                when_join (λ p. Left (Kept p) x₃ e pre post (each_source room schema (F room) rest p))
                (λ og outer j l r k h. left_go (F room (rest + (node_size r + join_size j)) l) (then_right F room rest og outer j r) (went_left s og outer j l r k h) z
                (λ q i w. left_go (F room (rest + (node_size q + join_size j)) r) (λ n. done (join og outer j q n)) (went_right s og outer j l r k h q w) y
                (λ n i' w'. sealed_left seal (omega (arith, s.short)) k₃ y pre (node_words q ++ (node_words n ++ join_own j)) post (cell og (join_cell outer j)) (length (node_words l ++ (node_words r ++ join_own j)) + cell_words)
                (join og outer j q n) refl (fit.with_sources og outer j l r q n k i i') (w' ∙ simp append_assoc) h.low h.high)))
                p k h
