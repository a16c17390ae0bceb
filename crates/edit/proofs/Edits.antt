-- Laws on edits: what the functions leave, one edit after another, and the steps with room.
use Prim.Native.Nat.{ℕ, ◌+◌, ◌-◌, ◌*◌, ◌≤◌, ◌<◌}
use native.Mathlib.Omega.{arith}
use mathlib.Core.Logic.{⊎_elim}
use mathlib.Core.Path.{◌≡◌, refl, sym, ap, ap₂, ◌∙◌, subst}
use mathlib.Core.List.{List, [], ◌∷◌, ◌++◌, append_assoc}
use lib.ListN.{length, take, drop, set, replicate, length-append, length-drop, length-replicate, take-append-drop}
use lib.Seq.{take-paste, length-paste, take-take, take_at, length-take-le, drop_at, drop-drop, take-set-lt, set_at}
use lib.Dec.{leb}
use borrow.Author.Tests.{le-leb, lt-leb}
use Rattle.sql.specs.Plan.{Node, node_size}
use Rattle.sql.specs.Answer.{Answer, done, refused, ◌>>=◌}
use Rattle.sql.specs.Room.{if_room}
use Rattle.cells.specs.declared.Cell.{Cell}
use Rattle.cells.specs.Cells.{cell_words, words, sized, Part}
use Rattle.cells.specs.Room.{Wrote}
use Rattle.cells.proofs.Laws.{part_is, no_room, done as written, lt_or_ge, wrote_up}
use Rattle.words.specs.Words.{node_words}
use Rattle.words.specs.Place.{NodeHere, NodeAt}
use Rattle.words.proofs.Sizes.{sized_long, words_long}
use Rattle.edit.specs.Edit.{Holds, Standing, Shares, Held, Left, Edit, Inherited, Placed, moved, Replaces, Reseals, ReplacesOwn}

-- ---- the place of some words among all words
module _ (x : List ℕ) {t from tail : ℕ} (inside : t ≤ length x) (pre old post : List ℕ) (whole : take t x ≡ pre ++ (old ++ post)) (low : length pre ≡ from)
    (high : length post ≡ tail) where
  span : from + length old + tail ≡ t
  span = omega (arith, length-take-le t x inside, ap length whole, length-append pre (old ++ post), length-append old post)

  all_of : x ≡ pre ++ (old ++ (post ++ drop t x))
  all_of = sym (take-append-drop t x) ∙ ap (λ (l : List ℕ). l ++ drop t x) whole ∙ simp append_assoc

  old_part : Part x from (t - tail) old
  old_part = record { before = pre; after = post ++ drop t x; whole = all_of; low = low; high = omega (arith, span) }

  post_part : Part x (t - tail) t post
  post_part =
      record {
        before = pre ++ old;
        after = drop t x;
        whole = all_of ∙ simp append_assoc;
        low = omega (arith, span, length-append pre old);
        high = omega (arith, span);
      }

  pre_is : take from x ≡ pre
  pre_is = sym (take-take from t x (omega (arith, span))) ∙ ap (take from) whole ∙ take_at pre (old ++ post) from low

  behind_is : (q : ℕ) → q ≡ length old → drop q (drop from x) ≡ post ++ drop t x
  behind_is q k =
      drop-drop q from x
      ∙ ap (drop (from + q)) (all_of ∙ sym (append_assoc pre old (post ++ drop t x)))
      ∙ drop_at (pre ++ old) (post ++ drop t x) (from + q) (omega (arith, length-append pre old))

-- ---- the node's place
module _ {x : List ℕ} {t lo tail : ℕ} {pre post : List ℕ} {p : Node} (h : Holds x t lo tail pre post p) where
  pub total : lo + length (node_words p) + tail ≡ t
  total = span x h.inside pre (node_words p) post h.whole h.low h.high

  pub holds_here : NodeHere x lo (t - tail) p
  holds_here = record { part = old_part x h.inside pre (node_words p) post h.whole h.low h.high }

-- the number of words, in cells
pub total_cells : {x : List ℕ} {t lo tail room rest : ℕ} {pre post : List ℕ} {p : Node} → Shares x lo tail room rest → Holds x t lo tail pre post p
    → t ≡ cell_words * (rest + node_size p)
total_cells {p = p} s h = omega (arith, total h, s.outside, words_long p)

pub standing_at : {x : List ℕ} {t lo tail : ℕ} → Standing x t lo tail → NodeAt x lo (t - tail)
standing_at g = record { p = g.p; here = holds_here g.holds }

pub standing_in : {x : List ℕ} {t lo tail : ℕ} → Standing x t lo tail → (tail ≤ t) × (t ≤ length x)
standing_in g = (omega (arith, total g.holds), g.holds.inside)

module _ {Kept : Node → Node → Type 0} {x : List ℕ} {t lo tail : ℕ} (g : Held Kept x t lo tail) where
  pub held_standing : Standing x t lo tail
  held_standing = record { pre = g.pre; post = g.post; p = g.p; holds = g.holds }

  pub held_at : NodeAt x lo (t - tail)
  held_at = standing_at held_standing

  pub held_in : (tail ≤ t) × (t ≤ length x)
  held_in = standing_in held_standing

-- ---- replace

module _ (x : List ℕ) {y : List ℕ} {n t from tail : ℕ} (inside : t ≤ length x) where
  -- what was written doesn't fit into the scratch
  pub replace_long : length y < n → Replaces x y n t from tail n x
  replace_long z pre old post e a b y₀ w l₀ l f =
      record { is = λ i. absurd (omega arith); room = λ s i. absurd (omega (arith, f.room (omega (arith, length-append w post)) (omega (arith, length-append w post)))) }

  -- no room for what was written
  pub replace_full : {r : ℕ} → from + tail ≤ t → n ≤ length y → length x - from - tail < n → length x < r → Replaces x y n t from tail r x
  replace_full h k z j pre old post e a b y₀ w l₀ l f =
      record { is = λ i. absurd (omega arith); room = λ s i. absurd (omega (arith, length-append w post, wrote_up f (omega arith))) }

  -- as many words as before, q of them: d' is what came of the words from `from` up to t − tail
  pub replace_same : {q : ℕ} {d' : List ℕ} → n ≤ length y → n ≡ q → q ≡ t - tail - from → d' ≡ take n y
      → Replaces x y n t from tail t (take from x ++ (d' ++ drop q (drop from x)))
  replace_same {q} {d'} h k k' c pre old post e a b y₀ w l₀ l f =
      let s = span x inside pre old post e a b in
      let g = wrote_up f (omega arith) in
      let (g', v) = f.is (omega arith) in
      let o : take q (drop from x) ≡ old = rw k' (part_is (old_part x inside pre old post e a b)) in
      let lo = ap length o in
      let ly = length-take-le n y h in
      let d : d' ≡ w = c ∙ v in
      let back : drop q (drop from x) ≡ post ++ drop t x = behind_is x inside pre old post e a b q (omega arith) in
      let front = pre ++ (w ++ post) in
      let lf = length-append pre (w ++ post) in
      let all : take from x ++ (d' ++ drop q (drop from x)) ≡ front ++ drop t x = rw (d, back, pre_is x inside pre old post e a b) (simp append_assoc) in
      record {
        is = λ i. (omega (arith, length-append w post), ap (take t) all ∙ take_at front (drop t x) t (omega (arith, length-append w post)));
        room = λ s i. omega (arith, ap length all, length-append front (drop t x), length-append w post);
      }

new_count : (from n tail : ℕ) → (n ≡ from + n - from) × (from + n - from ≡ from + n + tail - tail - from)
new_count from n tail = (omega arith, omega arith)

-- not as many as before: x₁ is x after the words behind were moved, so that there are as many words as take their place, whatever they are
module _ (x : List ℕ) {y : List ℕ} {n t from tail : ℕ} (inside : t ≤ length x) where
  pub replace_moved : {x₀ x₁ d' : List ℕ} {end to : ℕ} → from + tail ≤ t → n ≤ length y → n ≤ length x - from - tail → end ≡ t - tail → to ≡ from + n
      → x₁ ≡ moved x₀ end t to → x₀ ≡ x → d' ≡ take n y → Replaces x y n t from tail (from + n + tail) (take from x₁ ++ (d' ++ drop (from + n - from) (drop from x₁)))
  replace_moved {x₀ = x₀} {x₁ = x₁} {end = end} {to = o} h k z is_end is_to e₀ is_x c pre old post e a b y₀ w l₀ l f =
      let e₁ : x₁ ≡ moved x (t - tail) t (from + n) = e₀ ∙ ap (λ (s : List ℕ). moved s end t o) is_x ∙ ap₂ (λ (i j : ℕ). moved x i t j) is_end is_to in
      let to = from + n in
      let fits : to + tail ≤ length x = omega arith in
      let q = t - (t - tail) in
      let behind = drop (t - tail) x in
      let lb = length-drop (t - tail) x in
      let some = drop from (take to x) in
      let first : take to x ≡ pre ++ some =
      sym (take-append-drop from (take to x))
      ∙ ap (λ (s : List ℕ). s ++ some) (take-take from to x (omega arith) ∙ pre_is x inside pre old post e a b) in
      let whole : take (to + tail) x₁ ≡ pre ++ (some ++ post) =
      ap (λ (i : ℕ). take i x₁) (let s : to + tail ≡ to + q = omega arith in s)
      ∙ ap (take (to + q)) e₁
      ∙ take-paste x to behind q (omega arith) (omega arith)
      ∙ ap (λ (s : List ℕ). take to x ++ s) (part_is (post_part x inside pre old post e a b))
      ∙ ap (λ (s : List ℕ). s ++ post) first
      ∙ append_assoc pre some post in
      let long : length x₁ ≡ length x = ap length e₁ ∙ length-paste x to behind q (omega arith) (omega arith) in
      let (i₁, i₂) = new_count from n tail in
      replace_same x₁ (rw long fits) k i₁ i₂ c pre some post whole a b y₀ w l₀ (l ∙ sym long) f

-- Some words were written into the first n words of the scratch, whatever they are.
pub record Some (y : List ℕ) (n : ℕ) : Type 0 where
  pub w : List ℕ
  pub long : length w ≡ n
  pub wrote : Wrote y 0 w n y

pub some_words : (y : List ℕ) (n : ℕ) → Some y n
some_words y n =
    ⊎_elim
    (λ (z : length y < n). let l = length-replicate {A = ℕ} n 0 in record { w = replicate n 0; long = l; wrote = no_room (omega arith) z })
    (λ (z : n ≤ length y). let l = length-take-le n y z in record { w = take n y; long = l; wrote = written (omega arith) (omega arith) refl })
    (lt_or_ge (length y) n)

-- how many words there are after a replace that found room
replaced_up : (x : List ℕ) {y : List ℕ} {n t from tail r : ℕ} {x' : List ℕ} → (from + tail ≤ t) × (t ≤ length x) → length y ≡ length x → length x' ≡ length x
    → Replaces x y n t from tail r x' → r ≤ length x' → r ≡ from + n + tail
replaced_up x {y} {n} {t} {from} {tail} {r} {x'} (a, b) k k' f h =
    let q = t - tail - from in
    let z = take t x in
    let lz = length-take-le t x b in
    let pre = take from z in
    let old = take q (drop from z) in
    let post = drop q (drop from z) in
    let lp = length-take-le from z (omega arith) in
    let ld = length-drop from z in
    let le = length-drop q (drop from z) in
    let s = some_words y n in
    let g =
    f pre old post (sym (take-append-drop from z) ∙ ap (λ (l : List ℕ). pre ++ l) (sym (take-append-drop q (drop from z)))) lp (omega arith) y s.w refl k s.wrote in
    let l = length-append s.w post in
    omega (arith, (g.is h).0, s.long)

-- ---- reseal: the last word of a cell is set
opened : (pre b post : List ℕ) (k : Cell) (i : ℕ)
    → pre ++ ((b ++ words k i) ++ post) ≡ (pre ++ (b ++ (k.origin ∷ k.tag ∷ k.flag ∷ k.a ∷ k.b ∷ k.c ∷ []))) ++ (i ∷ post)
opened pre b post k i = simp append_assoc

re_sealed : (x : List ℕ) (t lo tail : ℕ) → lo + cell_words + tail ≤ t → t ≤ length x → (pre b post : List ℕ) (k : Cell) (n : ℕ)
    → take t x ≡ pre ++ ((b ++ words k n) ++ post) → length pre ≡ lo → length post ≡ tail
    → take t (set x (t - tail - 1) (t - tail - lo)) ≡ pre ++ (sized b k ++ post)
re_sealed x t lo tail h₁ h₂ pre b post k n e a c =
    let l = length-append pre ((b ++ words k n) ++ post) in
    let l₂ = length-append (b ++ words k n) post in
    let l₃ = length-append b (words k n) in
    let z = length-take-le t x h₂ in
    let w = ap length e in
    let v : t - tail - lo ≡ length b + cell_words = omega arith in
    let six = k.origin ∷ k.tag ∷ k.flag ∷ k.a ∷ k.b ∷ k.c ∷ [] in
    let front = pre ++ (b ++ six) in
    let q : length front ≡ t - tail - 1 = omega (arith, length-append pre (b ++ six), length-append b six) in
    take-set-lt t x (t - tail - 1) (t - tail - lo) (omega arith)
    ∙ ap (λ (y : List ℕ). set y (t - tail - 1) (t - tail - lo)) (e ∙ opened pre b post k n)
    ∙ set_at front n post (t - tail - lo) (t - tail - 1) q
    ∙ ap (λ (i : ℕ). front ++ (i ∷ post)) v
    ∙ sym (opened pre b post k (length b + cell_words))

pub resealed : (x : List ℕ) (t lo tail : ℕ) → lo + cell_words + tail ≤ t → t ≤ length x → Reseals x t lo tail t (set x (t - tail - 1) (t - tail - lo))
resealed x t lo tail h₁ h₂ = record { same = λ _. refl; room = λ _. refl; seal = λ _. re_sealed x t lo tail h₁ h₂ }

-- the size doesn't fit a word
pub not_resealed : (x : List ℕ) (t lo tail : ℕ) {r : ℕ} {x' : List ℕ} → t ≤ length x → 4294967295 < t - tail - lo → length x < r → Reseals x t lo tail r x'
not_resealed x t lo tail h₁ h₂ h₃ = record { same = λ h. absurd (omega arith); room = λ s. absurd (omega arith); seal = λ h. absurd (omega arith) }

-- ---- replace_own

-- the length of a plan with the node
same_long : (pre sources post w : List ℕ) (k : Cell) (size : ℕ)
    → length pre + length (sized (sources ++ w) k ++ post) ≡ length (pre ++ sources) + length ((w ++ words k size) ++ post)
same_long pre sources post w k size =
    omega (arith, length-append (sized (sources ++ w) k) post, length-append (w ++ words k size) post, sized_long (sources ++ w) k, length-append w (words k size), length-append sources w, length-append pre sources)

module _ (x : List ℕ) (t : ℕ) {y : List ℕ} {n lo own tail u : ℕ} {x₁ : List ℕ} (k₀ : length y ≡ length x) (k : length x₁ ≡ length x) (f : Replaces x y n t own tail u x₁) where
  own_placed : (pre sources old post : List ℕ) → take t x ≡ pre ++ (sources ++ (old ++ post)) → length pre ≡ lo → lo + length sources ≡ own → length post ≡ tail
      → (y₀ w : List ℕ) → length y ≡ length y₀ → Wrote y₀ 0 w n y → Placed x₁ u (pre ++ sources) post w
  own_placed pre sources old post e a b c y₀ w l g =
      f (pre ++ sources) old post (e ∙ sym (append_assoc pre sources (old ++ post))) (omega (arith, length-append pre sources)) c y₀ w l k₀ g

  pub own_full : length x₁ < u → ReplacesOwn x y n t lo own tail u x₁
  own_full z pre sources old post e a b c y₀ w i size l g =
      let p = own_placed pre sources old post e a b c y₀ (w ++ words i size) l g in
      let q = same_long pre sources post w i size in
      record { is = λ h. absurd (omega arith); room = λ s h. absurd (omega (arith, p.room s (omega arith))) }

  -- the cell stands behind the sources
  pub own_room : (own + tail ≤ t) × (t ≤ length x) → (lo ≤ own) × (n ≤ length y → cell_words ≤ n) → u ≤ length x₁ → (lo + cell_words + tail ≤ u) × (u ≤ length x₁)
  own_room h (i, j) z = let r = replaced_up x h k₀ k f z in (omega (arith, j (omega arith)), z)

  pub own_done : u ≤ length x₁ → {r : ℕ} {x₂ : List ℕ} → length x₂ ≡ length x₁ → Reseals x₁ u lo tail r x₂ → ReplacesOwn x y n t lo own tail r x₂
  own_done z {r} {x₂} k₂ s pre sources old post e a b c y₀ w i size l g =
      let p = own_placed pre sources old post e a b c y₀ (w ++ words i size) l g in
      let q = same_long pre sources post w i size in
      record {
        is = λ h. let (m, v) = p.is z in
            let j : r ≤ length x₁ = omega arith in
            (omega (arith, s.same j), ap (λ (m : ℕ). take m x₂) (s.same j) ∙ s.seal j pre (sources ++ w) post i size (v ∙ simp append_assoc) a c);
        room = λ q h. omega (arith, s.room (omega arith));
      }

pub shares_next : {x x₁ : List ℕ} {lo tail room rest : ℕ} → length x₁ ≡ length x → Shares x lo tail room rest → Shares x₁ lo tail room rest
shares_next e s = record { all = e ∙ s.all; short = omega (arith, s.short); outside = s.outside }

placed_full : {x' : List ℕ} {r : ℕ} {pre post w : List ℕ} → Placed x' r pre post w → length x' < length pre + length (w ++ post) → length x' < r
placed_full {x'} {r} f h = ⊎_elim (λ (z : length x' < r). z) (λ (z : r ≤ length x'). absurd (omega (arith, (f.is z).0))) (lt_or_ge (length x') r)

-- ---- answers
module _ {Fit : Node → Type 0} where
  -- a node that stands there
  pub left_done : {x : List ℕ} {t lo tail : ℕ} {pre post : List ℕ} (p : Node) → Fit p → Holds x t lo tail pre post p → Left Fit x t pre post (done p)
  left_done p k h = record { is = (h.inside, (h.whole, k)) }

  -- no room
  pub left_refused : {x : List ℕ} {n : ℕ} {pre post : List ℕ} → length x < n → Left Fit x n pre post (refused 14 0)
  left_refused z = record { is = (z, (refl, refl)) }

  -- words that took the node's place, with the question for room
  pub placed_left : {x x' : List ℕ} {lo tail room rest r : ℕ} {pre post : List ℕ} (q : Node) → Shares x lo tail room rest → length x' ≡ length x
      → length pre ≡ lo → length post ≡ tail → Fit q → Placed x' r pre post (node_words q)
      → Left Fit x' r pre post (if_room (leb (rest + node_size q) room) q)
  placed_left {x} {x'} {lo} {tail} {room} {rest} {r} {pre} {post} q s e a b k f =
      let l = length-append (node_words q) post in
      let w = words_long q in
      ⊎_elim
      (λ (z : room < rest + node_size q). rw (lt-leb _ _ z) (left_refused (placed_full f (omega (arith, s.all, s.outside)))))
      (λ (z : rest + node_size q ≤ room).
      let (u, v) = f.is (f.room (omega (arith, s.short)) (omega (arith, s.all, s.outside))) in
      rw (le-leb _ _ z) (record { is = (omega (arith, s.all, s.outside), (v, k)) }))
      (lt_or_ge room (rest + node_size q))

-- ---- in turn
module _ {Fit Next : Node → Type 0} {x₁ : List ℕ} {t₁ : ℕ} {a b : List ℕ} where
  pub left_stop : {pre post : List ℕ} (o : Answer Node) (g : Node → Answer Node) → Left Fit x₁ t₁ a b o → length x₁ < t₁ → Left Next x₁ t₁ pre post (o >>= g)
  left_stop (done q) g f z = absurd (omega (arith, f.is.0))
  left_stop (refused number place) g f z = record { is = f.is }

  pub left_go : {x₂ : List ℕ} {t₂ : ℕ} {pre post : List ℕ} (o : Answer Node) (g : Node → Answer Node) → Left Fit x₁ t₁ a b o → t₁ ≤ length x₁
      → ((q : Node) → Fit q → take t₁ x₁ ≡ a ++ (node_words q ++ b) → Left Next x₂ t₂ pre post (g q)) → Left Next x₂ t₂ pre post (o >>= g)
  left_go (done q) g f z k = k q f.is.1.1 f.is.1.0
  left_go (refused number place) g f z k = absurd (omega (arith, f.is.0))

  -- what is fit for more
  pub left_map : (o : Answer Node) → ((q : Node) → Fit q → Next q) → Left Fit x₁ t₁ a b o → Left Next x₁ t₁ a b o
  left_map (done q) g f = record { is = (f.is.0, (f.is.1.0, g q f.is.1.1)) }
  left_map (refused number place) g f = record { is = f.is }

-- The answer is done where the number of words isn't past the end.
pub left_with : {Fit : Node → Type 0} {x₁ : List ℕ} {t₁ : ℕ} {a b : List ℕ} (P : Type 0) (o : Answer Node) → Left Fit x₁ t₁ a b o → t₁ ≤ length x₁
    → ((q : Node) → Fit q → take t₁ x₁ ≡ a ++ (node_words q ++ b) → P) → P
left_with P (done q) f z k = k q f.is.1.1 f.is.1.0
left_with P (refused number place) f z k = absurd (omega (arith, f.is.0))

module _ {Kept : Node → Node → Type 0} (fit : Inherited Kept) where
  -- What is asked for holds after an edit that found room.
  pub held_next : (f : ℕ → ℕ → Node → Answer Node) {x : List ℕ} {t lo tail u : ℕ} {x₁ : List ℕ} → Edit Kept f x t lo tail u x₁ → u ≤ length x₁
      → length x₁ ≡ length x → Held Kept x t lo tail → Held Kept x₁ u lo tail
  held_next f {lo = lo} {tail = tail} {u = u} {x₁ = x₁} e z k h =
      left_with (Held Kept x₁ u lo tail) (f h.room h.rest h.p) (e h.room h.rest h.shares h.pre h.post h.p h.fit h.holds) z
      (λ q i w. record {
        room = h.room;
        rest = h.rest;
        shares = shares_next k h.shares;
        pre = h.pre;
        post = h.post;
        p = q;
        fit = fit.end h.p q i;
        holds = record { whole = w; low = h.holds.low; high = h.holds.high; inside = z };
      })

  -- one edit after another
  module _ (f g : ℕ → ℕ → Node → Answer Node) {x : List ℕ} {t lo tail u : ℕ} {x₁ : List ℕ} (a : Edit Kept f x t lo tail u x₁) where
    pub edit_stop : length x₁ < u → Edit Kept (λ room rest p. f room rest p >>= g room rest) x t lo tail u x₁
    edit_stop z room rest s pre post p k h = left_stop (f room rest p) (g room rest) (a room rest s pre post p k h) z

    pub edit_go : u ≤ length x₁ → length x₁ ≡ length x → {r : ℕ} {x₂ : List ℕ} → Edit Kept g x₁ u lo tail r x₂
        → Edit Kept (λ room rest p. f room rest p >>= g room rest) x t lo tail r x₂
    edit_go z e b room rest s pre post p k h =
        left_go (f room rest p) (g room rest) (a room rest s pre post p k h) z
        (λ q i w. left_map (g room rest q) (λ r j. fit.through p q r i j)
        (b room rest (shares_next e s) pre post q (fit.end p q i) (record { whole = w; low = h.low; high = h.high; inside = z })))

  -- an edit that leaves every node as it is
  pub edit_same : (f : ℕ → ℕ → Node → Answer Node) {x : List ℕ} {t lo tail : ℕ}
      → ((room rest : ℕ) (pre post : List ℕ) (p : Node) → Shares x lo tail room rest → Kept p p → Holds x t lo tail pre post p → f room rest p ≡ done p)
      → Edit Kept f x t lo tail t x
  edit_same f {x} {t} e room rest s pre post p k h =
      subst (λ (o : Answer Node). Left (Kept p) x t pre post o) (sym (e room rest pre post p s k h)) (left_done p k h)
