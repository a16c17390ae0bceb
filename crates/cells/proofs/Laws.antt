-- Laws on parts, sized cells, and what a writer with a room leaves.
use Prim.Native.Nat.{ℕ, suc, ◌+◌, ◌-◌, ◌≤◌, ◌<◌}
use native.Mathlib.Omega.{arith}
use native.Mathlib.Numerals.{add-one}
use native.Mathlib.Decide.{dec_lt}
use mathlib.Core.Logic.{◌⊎◌, inl, inr, ⊎_elim}
use mathlib.Core.Path.{◌≡◌, refl, sym, ap, ◌∙◌, subst}
use mathlib.Core.List.{List, [], ◌∷◌, ◌++◌, append_assoc, append-nil}
use lib.ListN.{length, take, drop, get_or, set, length-append, length-set}
use lib.Seq.{get_or-append-add, take-suc, take-suc-set, take_at, drop_at}
use Rattle.cells.specs.declared.Cell.{Cell}
use Rattle.cells.specs.Cells.{cell_words, words, sized, cell_at, tag_at, start_at, Part, Sized}
use Rattle.cells.specs.Room.{Short, Wrote, Seals}

-- parts
module _ {s : List ℕ} {lo hi : ℕ} (u v : List ℕ) (p : Part s lo hi (u ++ v)) where
  pub part_left : Part s lo (lo + length u) u
  part_left = record { before = p.before; after = v ++ p.after; whole = p.whole ∙ simp append_assoc; low = p.low; high = refl }

  pub part_right : Part s (lo + length u) hi v
  part_right = record {
    before = p.before ++ u;
    after = p.after;
    whole = p.whole ∙ simp append_assoc;
    low = omega (arith, length-append p.before u, p.low);
    high = omega (arith, length-append u v, p.high);
  }

module _ {s : List ℕ} {lo hi : ℕ} {w : List ℕ} (p : Part s lo hi w) where
  pub part_in : (lo ≤ hi) × (hi ≤ length s)
  part_in = (omega (arith, p.high), omega (arith, p.low, p.high, ap length p.whole, length-append p.before (w ++ p.after), length-append w p.after))

  pub part_word : (i j : ℕ) → i ≡ lo + j → get_or s i 0 ≡ get_or (w ++ p.after) j 0
  part_word i j e = rw (e, ← p.low, p.whole) (get_or-append-add p.before (w ++ p.after) j 0)

  pub part_is : take (hi - lo) (drop lo s) ≡ w
  part_is = rw (p.whole, drop_at p.before (w ++ p.after) lo p.low) (take_at w p.after (hi - lo) (omega (arith, p.high)))

-- a cell over the words of its children
module _ {s : List ℕ} {lo hi : ℕ} (b : List ℕ) (k : Cell) (p : Part s lo hi (sized b k)) where
  pub seam : lo + length b + cell_words ≡ hi
  seam = omega (arith, p.high, length-append b (words k (length b + cell_words)))

  pub body_part : Part s lo (hi - cell_words) b
  body_part = let e : lo + length b ≡ hi - cell_words = omega (arith, seam) in rw (← e) (part_left b (words k (length b + cell_words)) p)

  own : Part s (hi - cell_words) hi (words k (length b + cell_words))
  own = let e : lo + length b ≡ hi - cell_words = omega (arith, seam) in subst (λ (n : ℕ). Part s n hi (words k (length b + cell_words))) e (part_right b (words k (length b + cell_words)) p)

  pub cell_in : (lo + cell_words ≤ hi) × (hi ≤ length s)
  cell_in = (omega (arith, seam), (part_in p).1)

  pub cell_is : cell_at s hi ≡ k
  cell_is =
      let h : cell_words ≤ hi = omega (arith, seam) in
      rw (part_word own (hi - cell_words) 0 (omega arith), part_word own (hi - 6) 1 (omega arith), part_word own (hi - 5) 2 (omega arith), part_word own (hi - 4) 3 (omega arith), part_word own (hi - 3) 4 (omega arith), part_word own (hi - 2) 5 (omega arith))

  pub tag_is : tag_at s hi ≡ k.tag
  tag_is = ap (λ (x : Cell). x.tag) cell_is

  long_is : get_or s (hi - 1) 0 ≡ length b + cell_words
  long_is = let h : cell_words ≤ hi = omega (arith, seam) in part_word own (hi - 1) 6 (omega arith)

  pub start_is : start_at s hi ≡ lo
  start_is = omega (arith, seam, long_is)

  pub has_size : Sized s hi
  has_size = let (h, j) = cell_in in record { first = omega arith; last = j; long = omega (arith, seam, long_is) }

pub lt_or_ge : (a b : ℕ) → (a < b) ⊎ (b ≤ a)
lt_or_ge a b = go (dec_lt a b)
  where
    go : Dec (a < b) → (a < b) ⊎ (b ≤ a)
    go (yes h) = inl h
    go (no h) = inr (omega arith)

-- writers
module _ {d : List ℕ} {at : ℕ} {w : List ℕ} {n : ℕ} {d' : List ℕ} where
  pub no_room : length d < at + length w → length d < n → Wrote d at w n d'
  no_room h k = record { is = λ f. absurd (omega arith); room = λ _ f. absurd (omega arith) }

  pub done : at + length w ≤ length d → n ≡ at + length w → take n d' ≡ take at d ++ w → Wrote d at w n d'
  done h e t = record { is = λ _. (e, t); room = λ _ _. omega arith }

  pub fits : Wrote d at w n d' → Short d → at + length w ≤ length d → (n ≡ at + length w) × (take n d' ≡ take at d ++ w)
  fits a s h = a.is (a.room (omega arith) h)

  pub fits_to : Wrote d at w n d' → at + length w < 4294967296 → at + length w ≤ length d → (n ≡ at + length w) × (take n d' ≡ take at d ++ w)
  fits_to a s h = a.is (a.room s h)

  pub full : Wrote d at w n d' → length d < at + length w → length d < n
  full a h = ⊎_elim (λ (z : length d < n). z) (λ (z : n ≤ length d). absurd (let (e, _) = a.is z in omega arith)) (lt_or_ge (length d) n)

-- one piece, and one more after it
pub then : {d : List ℕ} {at : ℕ} {v w : List ℕ} {m n : ℕ} {d₁ d₂ : List ℕ}
    → length d₁ ≡ length d → Wrote d at v m d₁ → Wrote d₁ m w n d₂ → Wrote d at (v ++ w) n d₂
then {d} {at} {v} {w} {m} {n} {d₁} {d₂} k a b = record {
  is = λ h.
      let l = length-append v w in
      let (f, q) = b.is (omega arith) in
      let (e, p) = a.is (omega arith) in
      (omega arith, q ∙ ap (λ (x : List ℕ). x ++ w) p ∙ append_assoc (take at d) v w);
  room = λ s h.
      let l = length-append v w in
      let y = a.room (omega arith) (omega arith) in
      let (e, p) = a.is y in
      let x = b.room (omega arith) (omega arith) in
      omega arith;
}

-- what has no room has none when there is more of it
pub no_more : {d : List ℕ} {at : ℕ} {v w : List ℕ} {n : ℕ} {d₁ d₂ : List ℕ} → length d < n → length v ≤ length w → Wrote d at v n d₁ → Wrote d at w n d₂
no_more h g a = record { is = λ z. absurd (omega arith); room = λ s z. absurd (let k = a.room (omega arith) (omega arith) in omega arith) }

pub nothing : (d : List ℕ) (at : ℕ) → Wrote d at [] at d
nothing d at = record { is = λ h. (omega arith, sym (append-nil (take at d))); room = λ _ h. omega arith }

-- what was written ends at n or past the end
pub wrote_up : {d : List ℕ} {at : ℕ} {w : List ℕ} {n : ℕ} {d' : List ℕ} → Wrote d at w n d' → n ≤ length d → n ≡ at + length w
wrote_up a h = (a.is h).0

one_more : (l : List ℕ) (i j a : ℕ) → j ≡ i + 1 → i < length l → take j (set l i a) ≡ take i l ++ (a ∷ [])
one_more l i j a e h = ap (λ (n : ℕ). take n (set l i a)) (e ∙ add-one i) ∙ take-suc-set l i a h

pub put7 : (d : List ℕ) (at o t f a b c n : ℕ) → at + cell_words ≤ length d
    → take (at + cell_words) (set (set (set (set (set (set (set d at o) (at + 1) t) (at + 2) f) (at + 3) a) (at + 4) b) (at + 5) c) (at + 6) n)
    ≡ take at d ++ (o ∷ t ∷ f ∷ a ∷ b ∷ c ∷ n ∷ [])
put7 d at o t f a b c n g =
    let l₁ = set d at o in
    let l₂ = set l₁ (at + 1) t in
    let l₃ = set l₂ (at + 2) f in
    let l₄ = set l₃ (at + 3) a in
    let l₅ = set l₄ (at + 4) b in
    let l₆ = set l₅ (at + 5) c in
    one_more l₆ (at + 6) (at + 7) n (omega arith) (simp length-set (omega arith))
    ∙ ap (λ (l : List ℕ). l ++ (n ∷ [])) (one_more l₅ (at + 5) (at + 6) c (omega arith) (simp length-set (omega arith)))
    ∙ ap (λ (l : List ℕ). (l ++ (c ∷ [])) ++ (n ∷ [])) (one_more l₄ (at + 4) (at + 5) b (omega arith) (simp length-set (omega arith)))
    ∙ ap (λ (l : List ℕ). ((l ++ (b ∷ [])) ++ (c ∷ [])) ++ (n ∷ [])) (one_more l₃ (at + 3) (at + 4) a (omega arith) (simp length-set (omega arith)))
    ∙ ap (λ (l : List ℕ). (((l ++ (a ∷ [])) ++ (b ∷ [])) ++ (c ∷ [])) ++ (n ∷ [])) (one_more l₂ (at + 2) (at + 3) f (omega arith) (simp length-set (omega arith)))
    ∙ ap (λ (l : List ℕ). ((((l ++ (f ∷ [])) ++ (a ∷ [])) ++ (b ∷ [])) ++ (c ∷ [])) ++ (n ∷ [])) (one_more l₁ (at + 1) (at + 2) t (omega arith) (simp length-set (omega arith)))
    ∙ ap (λ (l : List ℕ). (((((l ++ (t ∷ [])) ++ (f ∷ [])) ++ (a ∷ [])) ++ (b ∷ [])) ++ (c ∷ [])) ++ (n ∷ [])) (one_more d at (at + 1) o refl (omega arith))
    ∙ simp append_assoc

-- what put writes where there is room
pub seals : (k : Cell) {d : List ℕ} {lo at : ℕ} {d' : List ℕ} → lo ≤ at → at + cell_words ≤ length d → take (at + cell_words) d' ≡ take at d ++ words k (at - lo + cell_words) → Seals d lo at k (at + cell_words) d'
seals k {d} {lo} {at} {d'} h j e d₀ b q w =
    let y = wrote_up w (omega arith) in
    let z : at - lo ≡ length b = omega arith in
    then q w (done (omega arith) refl (subst (λ (n : ℕ). take (at + cell_words) d' ≡ take at d ++ words k (n + cell_words)) z e))

-- a turn of the copy
pub copied : (s d₀ d : List ℕ) (at i : ℕ) → i < length s → at + i < length d → take (at + i) d ≡ take at d₀ ++ take i s
    → take (at + (i + 1)) (set d (at + i) (get_or s i 0)) ≡ take at d₀ ++ take (i + 1) s
copied s d₀ d at i h k e =
    let j : at + (i + 1) ≡ suc (at + i) = omega arith in
    rw (j, take-suc-set d (at + i) (get_or s i 0) k, add-one, take-suc s i 0 h, e) (append_assoc (take at d₀) (take i s) (get_or s i 0 ∷ []))

pub full_already : {d : List ℕ} {at : ℕ} {w d' : List ℕ} → length d < at → Wrote d at w at d'
full_already h = no_room (omega arith) h
