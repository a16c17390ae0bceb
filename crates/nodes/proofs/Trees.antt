-- Laws on trees that stand one after the other.
use Prim.Native.Nat.{ℕ, zero, suc, ◌+◌, ◌-◌, ◌*◌, ◌≤◌, ◌<◌}
use native.Mathlib.Omega.{arith}
use mathlib.Core.Path.{◌≡◌, refl, sym, ap, ◌∙◌, subst}
use mathlib.Core.List.{List, [], ◌∷◌, ◌++◌, append_assoc, append-nil}
use lib.ListN.{length, length-append}
use Rattle.cells.specs.declared.Cell.{Cell}
use Rattle.cells.specs.Cells.{cell_words, words, sized, tag_at, start_at, Part, Sized}
use Rattle.cells.proofs.Laws.{part_left, part_right, seam, tag_is, start_is, has_size}
use Rattle.words.specs.Words.{all_words}
use Rattle.nodes.specs.Trees.{Trees, none, one_more, TreesAt, Parts, no_part, one_part_more, PartsAt, trees_start}

-- ---- trees from their list

pub append_one : {n : ℕ} {w : List ℕ} (children : List ℕ) (k : Cell) → Trees n w → Trees (suc n) (sized children k ++ w)
append_one children k none = subst (λ (w : List ℕ). Trees 1 w) (sym (append-nil (sized children k))) (one_more none children k)
append_one children k (one_more {n = n} {w = w} t b j) =
    subst (λ (w : List ℕ). Trees (suc (suc n)) w) (append_assoc (sized children k) w (sized b j)) (one_more (append_one children k t) b j)

pub append_all : {n m : ℕ} {v w : List ℕ} → Trees n v → Trees m w → Trees (n + m) (v ++ w)
append_all {n = n} {v = v} t none =
    let e : n ≡ n + 0 = omega arith in
    subst (λ (i : ℕ). Trees i (v ++ [])) e (subst (λ (w : List ℕ). Trees n w) (sym (append-nil v)) t)
append_all {n = n} {v = v} t (one_more {n = m} {w = w} u b j) =
    let e : suc (n + m) ≡ n + suc m = omega arith in
    subst (λ (i : ℕ). Trees i (v ++ (w ++ sized b j))) e
    (subst (λ (w : List ℕ). Trees (suc (n + m)) w) (append_assoc v w (sized b j)) (one_more (append_all t u) b j))

-- of parts that are each a cell over something
pub all_trees : {A : Type 0} (f : A → List ℕ) (children : A → List ℕ) (k : A → Cell) → ((x : A) → f x ≡ sized (children x) (k x)) → (xs : List A)
    → Trees (length xs) (all_words f xs)
all_trees f children k h [] = none
all_trees f children k h (x ∷ xs) = rw (h x) (append_one (children x) (k x) (all_trees f children k h xs))

-- ---- where they stand

pub trees_long : {n : ℕ} {w : List ℕ} → Trees n w → cell_words * n ≤ length w
trees_long none = omega arith
trees_long (one_more {w = w} t b k) =
    omega (arith, trees_long t, length-append w (sized b k), length-append b (words k (length b + cell_words)))

-- they start where their words do
pub trees_start_is : {s : List ℕ} {n lo hi : ℕ} {w : List ℕ} → Trees n w → Part s lo hi w → trees_start s n hi ≡ lo
unfolding trees_start
trees_start_is none p = omega (arith, p.high)
trees_start_is {s = s} {n = suc n} {lo = lo} {hi = hi} (one_more {w = w} t b k) p =
    let e : start_at s hi ≡ lo + length w = start_is b k (part_right w (sized b k) p) in
    ap (trees_start s n) e ∙ trees_start_is t (part_left w (sized b k) p)

-- the last of them, and those before it
pub last_sized : {s : List ℕ} {n hi : ℕ} → (n ≡ 0 → ⊥) → TreesAt s n hi → Sized s hi
last_sized z t = go z t.trees t.part
  where
    go : {s : List ℕ} {n lo hi : ℕ} {w : List ℕ} → (n ≡ 0 → ⊥) → Trees n w → Part s lo hi w → Sized s hi
    go z none p = absurd (z refl)
    go z (one_more {w = w} t b k) p = has_size b k (part_right w (sized b k) p)

pub before_last : {s : List ℕ} {n hi at : ℕ} → (n ≡ 0 → ⊥) → at ≡ start_at s hi → TreesAt s n hi → TreesAt s (n - 1) at
before_last z e t = go z e t.trees t.part
  where
    go : {s : List ℕ} {n lo hi at : ℕ} {w : List ℕ} → (n ≡ 0 → ⊥) → at ≡ start_at s hi → Trees n w → Part s lo hi w → TreesAt s (n - 1) at
    go z e none p = absurd (z refl)
    go {s = s} {n = suc n} {lo = lo} {at = at} z e (one_more {w = w} t b k) p =
        let q : suc n - 1 ≡ n = omega arith in
        let j : lo + length w ≡ at = sym (e ∙ start_is b k (part_right w (sized b k) p)) in
        rw q (record { lo = lo; w = w; trees = t; part = subst (λ (i : ℕ). Part s lo i w) j (part_left w (sized b k) p) })

pub start_before : (s : List ℕ) (n hi at : ℕ) → (n ≡ 0 → ⊥) → at ≡ start_at s hi → trees_start s (n - 1) at ≡ trees_start s n hi
unfolding trees_start
start_before s zero hi at z e = absurd (z refl)
start_before s (suc n) hi at z e = let q : suc n - 1 ≡ n = omega arith in rw (q, e)

pub start_none : (s : List ℕ) {n : ℕ} (hi : ℕ) → n ≡ 0 → trees_start s n hi ≡ hi
unfolding trees_start
start_none s hi e = rw e

pub trees_few : {s : List ℕ} {n hi : ℕ} → TreesAt s n hi → cell_words * n ≤ hi
trees_few t = omega (arith, trees_long t.trees, t.part.high)

-- ---- parts, as trees above

pub plain : {n : ℕ} {w : List ℕ} → Parts n w → Trees n w
plain no_part = none
plain (one_part_more t b k h) = one_more (plain t) b k

pub parts_one : (children : List ℕ) (k : Cell) → (k.tag < 10 → length children ≡ 0) → Parts 1 (sized children k)
parts_one children k h = one_part_more no_part children k h

append_part : {n : ℕ} {w : List ℕ} (children : List ℕ) (k : Cell) → (k.tag < 10 → length children ≡ 0) → Parts n w → Parts (suc n) (sized children k ++ w)
append_part children k h no_part = subst (λ (w : List ℕ). Parts 1 w) (sym (append-nil (sized children k))) (parts_one children k h)
append_part children k h (one_part_more {n = n} {w = w} t b j i) =
    subst (λ (w : List ℕ). Parts (suc (suc n)) w) (append_assoc (sized children k) w (sized b j)) (one_part_more (append_part children k h t) b j i)

pub append_parts : {n m : ℕ} {v w : List ℕ} → Parts n v → Parts m w → Parts (n + m) (v ++ w)
append_parts {n = n} {v = v} t no_part =
    let e : n ≡ n + 0 = omega arith in
    subst (λ (i : ℕ). Parts i (v ++ [])) e (subst (λ (w : List ℕ). Parts n w) (sym (append-nil v)) t)
append_parts {n = n} {v = v} t (one_part_more {n = m} {w = w} u b j i) =
    let e : suc (n + m) ≡ n + suc m = omega arith in
    subst (λ (i : ℕ). Parts i (v ++ (w ++ sized b j))) e
    (subst (λ (w : List ℕ). Parts (suc (n + m)) w) (append_assoc v w (sized b j)) (one_part_more (append_parts t u) b j i))

pub all_parts : {A : Type 0} (f : A → List ℕ) (children : A → List ℕ) (k : A → Cell) → ((x : A) → f x ≡ sized (children x) (k x))
    → ((x : A) → (k x).tag < 10 → length (children x) ≡ 0) → (xs : List A) → Parts (length xs) (all_words f xs)
all_parts f children k h i [] = no_part
all_parts f children k h i (x ∷ xs) = rw (h x) (append_part (children x) (k x) (i x) (all_parts f children k h i xs))

pub trees_at : {s : List ℕ} {n hi : ℕ} → PartsAt s n hi → TreesAt s n hi
trees_at t = record { lo = t.lo; w = t.w; trees = plain t.parts; part = t.part }

-- the last of them is one cell if its tag is below 10
pub last_leaf : {s : List ℕ} {n hi : ℕ} → (n ≡ 0 → ⊥) → PartsAt s n hi → tag_at s hi < 10 → hi - cell_words ≡ start_at s hi
last_leaf z t g = go z t.parts t.part g
  where
    go : {s : List ℕ} {n lo hi : ℕ} {w : List ℕ} → (n ≡ 0 → ⊥) → Parts n w → Part s lo hi w → tag_at s hi < 10 → hi - cell_words ≡ start_at s hi
    go z no_part p g = absurd (z refl)
    go {s = s} {hi = hi} z (one_part_more {w = w} t b k h) p g =
        let q = part_right w (sized b k) p in
        let e : start_at s hi ≡ _ = start_is b k q in
        omega (arith, e, seam b k q, h (omega (arith, tag_is b k q)))

pub parts_before : {s : List ℕ} {n hi at : ℕ} → (n ≡ 0 → ⊥) → at ≡ start_at s hi → PartsAt s n hi → PartsAt s (n - 1) at
parts_before z e t = go z e t.parts t.part
  where
    go : {s : List ℕ} {n lo hi at : ℕ} {w : List ℕ} → (n ≡ 0 → ⊥) → at ≡ start_at s hi → Parts n w → Part s lo hi w → PartsAt s (n - 1) at
    go z e no_part p = absurd (z refl)
    go {s = s} {n = suc n} {lo = lo} {at = at} z e (one_part_more {w = w} t b k h) p =
        let q : suc n - 1 ≡ n = omega arith in
        let j : lo + length w ≡ at = sym (e ∙ start_is b k (part_right w (sized b k) p)) in
        rw q (record { lo = lo; w = w; parts = t; part = subst (λ (i : ℕ). Part s lo i w) j (part_left w (sized b k) p) })
