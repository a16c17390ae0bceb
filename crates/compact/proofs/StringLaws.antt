-- Laws of Strings.antt: each string met is kept, once; it stands where its reference says; and no text that has them all apart is shorter.
use Rattle.std.specs.Prelude.{ℕ, zero, suc, ◌+◌, ◌-◌, ◌*◌, ◌/◌, ◌%◌, ◌≤◌, ◌<◌, ◌≡◌, refl, ◌≢◌, Bool, true, false, ◌&&◌, ◌||◌, cond, List, [], ◌∷◌, ◌++◌, map, eqb, leb, length, take, drop}
use Rattle.std.proofs.Common.{arith, eqb-true, eq-eqb, leb-true, leb-false, sym, ap, ap₂, ◌∙◌, subst, append_assoc, append-nil, length-append, length-take, length-drop}
use Rattle.std.proofs.lemmas.List.{length-map}
use Rattle.std.proofs.Math.Seq.{take-append_seam, drop-append-add}
use Rattle.sheet_laws.specs.Fits.{All}
use Rattle.sheet_laws.specs.Content.{and_left, and_right, and_true}
use Rattle.compact.specs.Strings.{same, empty, among, add, keep, kept, joined, offset_in, reference_to, Stretch, Apart, before, behind, stretch_of}

-- ---- the same bytes

pub same_true : (a b : List ℕ) → same a b ≡ true → a ≡ b
same_true [] [] h = refl
same_true [] (y ∷ ys) h = absurd (let z : ◌≡◌ {A = ℕ} 0 1 = cc in omega arith)
same_true (x ∷ xs) [] h = absurd (let z : ◌≡◌ {A = ℕ} 0 1 = cc in omega arith)
same_true (x ∷ xs) (y ∷ ys) h = ap₂ ◌∷◌ (eqb-true x y (and_left (eqb x y) (same xs ys) h)) (same_true xs ys (and_right (eqb x y) (same xs ys) h))

pub same_self : (a : List ℕ) → same a a ≡ true
same_self [] = refl
same_self (x ∷ xs) = and_true (eqb x x) (same xs xs) (eq-eqb x x refl) (same_self xs)

pub or_left : (a b : Bool) → a ≡ true → (a || b) ≡ true
or_left true b h = refl
or_left false b h = absurd (let z : ◌≡◌ {A = ℕ} 0 1 = cc in omega arith)

pub or_right : (a b : Bool) → b ≡ true → (a || b) ≡ true
or_right true b h = refl
or_right false b h = h

-- ---- what is kept

-- A string that is among some is among more.
pub among_more : (t : List ℕ) (ks ls : List (List ℕ)) → among t ks ≡ true → among t (ks ++ ls) ≡ true
among_more t [] ls h = absurd (let z : ◌≡◌ {A = ℕ} 0 1 = cc in omega arith)
among_more t (k ∷ ks) ls h = go (same k t) h (among_more t ks ls)
  where
    go : (b : Bool) → (b || among t ks) ≡ true → (among t ks ≡ true → among t (ks ++ ls) ≡ true) → (b || among t (ks ++ ls)) ≡ true
    go true e ih = refl
    go false e ih = ih e

pub among_last : (t : List ℕ) (ks : List (List ℕ)) → among t (ks ++ (t ∷ [])) ≡ true
among_last t [] = or_left (same t t) false (same_self t)
among_last t (k ∷ ks) = or_right (same k t) (among t (ks ++ (t ∷ []))) (among_last t ks)

-- what `add` puts behind
abbrev pub added : List (List ℕ) → List ℕ → List (List ℕ)
added ks t = cond (empty t || among t ks) [] (t ∷ [])

pub add_is : (ks : List (List ℕ)) (t : List ℕ) → add ks t ≡ ks ++ added ks t
add_is ks t = go (empty t || among t ks)
  where
    go : (b : Bool) → cond b ks (ks ++ (t ∷ [])) ≡ ks ++ cond b [] (t ∷ [])
    go true = sym (append-nil ks)
    go false = refl

-- What was kept stays in front.
pub record Grows (ks ls : List (List ℕ)) : Type 0 where
  pub more : List (List ℕ)
  pub is : ls ≡ ks ++ more

pub keep_grows : (ks ts : List (List ℕ)) → Grows ks (keep ks ts)
keep_grows ks [] = record { more = []; is = sym (append-nil ks) }
keep_grows ks (t ∷ ts) =
    let g = keep_grows (add ks t) ts in
    record { more = added ks t ++ g.more; is = g.is ∙ ap (λ (l : List (List ℕ)). l ++ g.more) (add_is ks t) ∙ append_assoc ks (added ks t) g.more }

pub among_grows : (t : List ℕ) (ks ls : List (List ℕ)) → Grows ks ls → among t ks ≡ true → among t ls ≡ true
among_grows t ks ls g h = ap (among t) g.is ∙ among_more t ks g.more h

-- a string that is empty or kept
abbrev pub Has : List (List ℕ) → List ℕ → Type 0
Has ks t = (empty t || among t ks) ≡ true

pub has_grows : (ks ls : List (List ℕ)) (t : List ℕ) → Grows ks ls → Has ks t → Has ls t
has_grows ks ls [] g h = refl
has_grows ks ls (x ∷ xs) g h = among_grows (x ∷ xs) ks ls g h

pub add_has : (ks : List (List ℕ)) (t : List ℕ) → Has (add ks t) t
add_has ks t = go (empty t || among t ks) refl
  where
    go : (b : Bool) → (empty t || among t ks) ≡ b → (empty t || among t (cond b ks (ks ++ (t ∷ [])))) ≡ true
    go true e = e
    go false e = or_right (empty t) (among t (ks ++ (t ∷ []))) (among_last t ks)

-- Each string met is kept, or empty.
pub keep_has : (ks ts : List (List ℕ)) → All (Has (keep ks ts)) ts
keep_has ks [] = tt
keep_has ks (t ∷ ts) = (has_grows (add ks t) (keep (add ks t) ts) t (keep_grows (add ks t) ts) (add_has ks t), keep_has (add ks t) ts)

-- ---- each once, none empty, and each of them was met

abbrev pub Different : List ℕ → List (List ℕ) → Type 0
Different t ks = All (λ k. same k t ≡ false) ks

-- No string stands twice.
abbrev pub Distinct : List (List ℕ) → Type 0
Distinct [] = Unit {0}
Distinct (k ∷ ks) = All (λ l. same k l ≡ false) ks × Distinct ks

abbrev pub Filled : List ℕ → Type 0
Filled t = empty t ≡ false

or_false_left : (a b : Bool) → (a || b) ≡ false → a ≡ false
or_false_left false b h = refl
or_false_left true b h = h

or_false_right : (a b : Bool) → (a || b) ≡ false → b ≡ false
or_false_right false b h = h
or_false_right true b h = absurd (let z : ◌≡◌ {A = ℕ} 0 1 = cc in omega arith)

distinct_last : (ks : List (List ℕ)) (t : List ℕ) → Distinct ks → among t ks ≡ false → Distinct (ks ++ (t ∷ []))
distinct_last [] t d h = (tt, tt)
distinct_last (k ∷ ks) t d h =
    (last ks d.0, distinct_last ks t d.1 (or_false_right (same k t) (among t ks) h))
  where
    last : (ls : List (List ℕ)) → All (λ l. same k l ≡ false) ls → All (λ l. same k l ≡ false) (ls ++ (t ∷ []))
    last [] a = (or_false_left (same k t) (among t ks) h, tt)
    last (l ∷ ls) a = (a.0, last ls a.1)

all_last : {A : Type 0} (P : A → Type 0) (xs : List A) (x : A) → All P xs → P x → All P (xs ++ (x ∷ []))
all_last P [] x a p = (p, tt)
all_last P (y ∷ ys) x a p = (a.0, all_last P ys x a.1 p)

-- Any property of strings that each kept one has and each new one has.
pub keep_all : (P : List ℕ → Type 0) (ks ts : List (List ℕ)) → All P ks → All (λ t. Filled t → P t) ts → All P (keep ks ts)
keep_all P ks [] a n = a
keep_all P ks (t ∷ ts) a n = keep_all P (add ks t) ts (go (empty t || among t ks) refl) n.1
  where
    go : (b : Bool) → (empty t || among t ks) ≡ b → All P (cond b ks (ks ++ (t ∷ [])))
    go true e = a
    go false e = all_last P ks t a (n.0 (or_false_left (empty t) (among t ks) e))

keep_distinct : (ks ts : List (List ℕ)) → Distinct ks → Distinct (keep ks ts)
keep_distinct ks [] d = d
keep_distinct ks (t ∷ ts) d = keep_distinct (add ks t) ts (go (empty t || among t ks) refl)
  where
    go : (b : Bool) → (empty t || among t ks) ≡ b → Distinct (cond b ks (ks ++ (t ∷ [])))
    go true e = d
    go false e = distinct_last ks t d (or_false_right (empty t) (among t ks) e)

pub all_of : {A : Type 0} (P : A → Type 0) (xs : List A) → ((x : A) → P x) → All P xs
all_of P [] h = tt
all_of P (x ∷ xs) h = (h x, all_of P xs h)

pub kept_filled : (ts : List (List ℕ)) → All Filled (kept ts)
kept_filled ts = keep_all Filled [] ts tt (all_of (λ t. Filled t → Filled t) ts (λ t h. h))

pub kept_distinct : (ts : List (List ℕ)) → Distinct (kept ts)
kept_distinct ts = keep_distinct [] ts tt

all_among : (ts us : List (List ℕ)) → ((t : List ℕ) → among t ts ≡ true → among t us ≡ true) → All (λ t. Filled t → among t us ≡ true) ts
all_among [] us h = tt
all_among (t ∷ ts) us h =
    (λ e. h t (or_left (same t t) (among t ts) (same_self t)), all_among ts us (λ u e. h u (or_right (same t u) (among u ts) e)))

-- Each kept string is one of those met.
pub kept_met : (ts : List (List ℕ)) → All (λ t. among t ts ≡ true) (kept ts)
kept_met ts = keep_all (λ t. among t ts ≡ true) [] ts tt (all_among ts ts (λ t h. h))

-- ---- where they stand

pub offset_inside : (ks : List (List ℕ)) (t : List ℕ) → among t ks ≡ true → offset_in ks t + length t ≤ length (joined ks)
offset_inside [] t h = absurd (let z : ◌≡◌ {A = ℕ} 0 1 = cc in omega arith)
offset_inside (k ∷ ks) t h = go (same k t) refl h (offset_inside ks t)
  where
    whole : length (k ++ joined ks) ≡ length k + length (joined ks)
    whole = length-append k (joined ks)

    go : (b : Bool) → same k t ≡ b → (b || among t ks) ≡ true → (among t ks ≡ true → offset_in ks t + length t ≤ length (joined ks))
        → cond b 0 (length k + offset_in ks t) + length t ≤ length (k ++ joined ks)
    go true e a ih = let l : length k ≡ length t = ap length (same_true k t e) in omega (arith, whole)
    go false e a ih = omega (arith, whole, ih a)

-- A kept string stands in the text at its offset.
pub offset_stands : (ks : List (List ℕ)) (t : List ℕ) → among t ks ≡ true → take (length t) (drop (offset_in ks t) (joined ks)) ≡ t
offset_stands [] t h = absurd (let z : ◌≡◌ {A = ℕ} 0 1 = cc in omega arith)
offset_stands (k ∷ ks) t h = go (same k t) refl h (offset_stands ks t)
  where
    go : (b : Bool) → same k t ≡ b → (b || among t ks) ≡ true → (among t ks ≡ true → take (length t) (drop (offset_in ks t) (joined ks)) ≡ t)
        → take (length t) (drop (cond b 0 (length k + offset_in ks t)) (k ++ joined ks)) ≡ t
    go true e a ih = let i = same_true k t e in subst (λ (u : List ℕ). take (length u) (k ++ joined ks) ≡ u) i (take-append_seam k (joined ks))
    go false e a ih = ap (take (length t)) (drop-append-add k (joined ks) (offset_in ks t)) ∙ ih a

-- Strings kept later don't move it.
pub offset_stays : (ks ls : List (List ℕ)) (t : List ℕ) → among t ks ≡ true → offset_in (ks ++ ls) t ≡ offset_in ks t
offset_stays [] ls t h = absurd (let z : ◌≡◌ {A = ℕ} 0 1 = cc in omega arith)
offset_stays (k ∷ ks) ls t h = go (same k t) h (offset_stays ks ls t)
  where
    go : (b : Bool) → (b || among t ks) ≡ true → (among t ks ≡ true → offset_in (ks ++ ls) t ≡ offset_in ks t) → cond b 0 (length k + offset_in (ks ++ ls) t) ≡ cond b 0 (length k + offset_in ks t)
    go true a ih = refl
    go false a ih = ap (λ (n : ℕ). length k + n) (ih a)

-- ---- no shorter text

abbrev pub AllApart : List Stretch → Type 0
AllApart [] = Unit {0}
AllApart (x ∷ xs) = All (Apart x) xs × AllApart xs

abbrev pub EndsBy : ℕ → Stretch → Type 0
EndsBy n x = x.0 + x.1 ≤ n

abbrev pub total : List Stretch → ℕ
total [] = 0
total (x ∷ xs) = x.1 + total xs

-- the text with the stretch x cut out, which closes the gap: what started behind x starts so much earlier
abbrev closed : Stretch → Stretch → Stretch
closed x y = (cond (leb (y.0 + y.1) x.0) y.0 (y.0 - x.1), y.1)

-- What lies apart from x ends by x's start, or starts behind its end.
starts_behind : (x y : Stretch) → Apart x y → leb (y.0 + y.1) x.0 ≡ false → x.0 + x.1 ≤ y.0
starts_behind x y (before h) e = h
starts_behind x y (behind h) e = absurd (omega (arith, leb-false (y.0 + y.1) x.0 e))

closed_ends : (n : ℕ) (x y : Stretch) → EndsBy n x → EndsBy n y → Apart x y → EndsBy (n - x.1) (closed x y)
closed_ends n x y p q a = go (leb (y.0 + y.1) x.0) refl
  where
    go : (b : Bool) → leb (y.0 + y.1) x.0 ≡ b → cond b y.0 (y.0 - x.1) + y.1 ≤ n - x.1
    go true e = omega (arith, leb-true (y.0 + y.1) x.0 e)
    go false e = omega (arith, starts_behind x y a e)

closed_apart : (x y z : Stretch) → Apart x y → Apart x z → Apart y z → Apart (closed x y) (closed x z)
closed_apart x y z a b c = go (leb (y.0 + y.1) x.0) (leb (z.0 + z.1) x.0) refl refl c
  where
    go : (d e : Bool) → leb (y.0 + y.1) x.0 ≡ d → leb (z.0 + z.1) x.0 ≡ e → Apart y z
        → Apart (cond d y.0 (y.0 - x.1), y.1) (cond e z.0 (z.0 - x.1), z.1)
    go true true p q (before h) = before h
    go true true p q (behind h) = behind h
    go true false p q c = before (omega (arith, leb-true (y.0 + y.1) x.0 p, starts_behind x z b q))
    go false true p q c = behind (omega (arith, leb-true (z.0 + z.1) x.0 q, starts_behind x y a p))
    go false false p q (before h) = before (omega (arith, h, starts_behind x y a p, starts_behind x z b q))
    go false false p q (behind h) = behind (omega (arith, h, starts_behind x y a p, starts_behind x z b q))

closed_all_ends : (n : ℕ) (x : Stretch) (ys : List Stretch) → EndsBy n x → All (EndsBy n) ys → All (Apart x) ys → All (EndsBy (n - x.1)) (map (closed x) ys)
closed_all_ends n x [] p q a = tt
closed_all_ends n x (y ∷ ys) p q a = (closed_ends n x y p q.0 a.0, closed_all_ends n x ys p q.1 a.1)

closed_all_apart : (x : Stretch) (ys : List Stretch) → All (Apart x) ys → AllApart ys → AllApart (map (closed x) ys)
closed_all_apart x [] a c = tt
closed_all_apart x (y ∷ ys) a c = (from ys a.1 c.0, closed_all_apart x ys a.1 c.1)
  where
    from : (zs : List Stretch) → All (Apart x) zs → All (Apart y) zs → All (Apart (closed x y)) (map (closed x) zs)
    from [] b d = tt
    from (z ∷ zs) b d = (closed_apart x y z a.0 b.0 d.0, from zs b.1 d.1)

closed_total : (x : Stretch) (ys : List Stretch) → total (map (closed x) ys) ≡ total ys
closed_total x [] = refl
closed_total x (y ∷ ys) = ap (λ (n : ℕ). y.1 + n) (closed_total x ys)

-- Stretches of a text that lie apart have together at most as many bytes as the text: cut out one after the other.
pub apart_total : (k n : ℕ) (xs : List Stretch) → length xs ≤ k → All (EndsBy n) xs → AllApart xs → total xs ≤ n
apart_total zero n [] l e a = omega arith
apart_total zero n (x ∷ xs) l e a = absurd (omega arith)
apart_total (suc k) n [] l e a = omega arith
apart_total (suc k) n (x ∷ xs) l e a =
    let shorter = apart_total k (n - x.1) (map (closed x) xs) (omega (arith, length-map xs (closed x))) (closed_all_ends n x xs e.0 e.1 a.0) (closed_all_apart x xs a.0 a.1) in
    omega (arith, shorter, closed_total x xs, e.0)

-- ---- the same of strings

total_joined : (place : List ℕ → ℕ) (ks : List (List ℕ)) → total (map (stretch_of place) ks) ≡ length (joined ks)
total_joined place [] = refl
total_joined place (k ∷ ks) = ap (λ (n : ℕ). length k + n) (total_joined place ks) ∙ sym (length-append k (joined ks))

-- A way to place strings in a text: each stands where it is placed, and two that are different share no byte.
pub record Placed (ks : List (List ℕ)) (text : List ℕ) (place : List ℕ → ℕ) : Type 0 where
  pub stands : (t : List ℕ) → among t ks ≡ true → take (length t) (drop (place t) text) ≡ t
  pub apart : (t u : List ℕ) → among t ks ≡ true → among u ks ≡ true → t ≢ u → Apart (stretch_of place t) (stretch_of place u)

-- A string that is not empty and stands in a text stands inside it.
stands_inside : (text t : List ℕ) (p : ℕ) → Filled t → take (length t) (drop p text) ≡ t → p + length t ≤ length text
stands_inside text [] p f h = absurd (let z : ◌≡◌ {A = ℕ} 0 1 = cc in omega arith)
stands_inside text (x ∷ xs) p f h =
    let l = ap length h in
    let a = length-take (length (x ∷ xs)) (drop p text) in
    let b = length-drop p text in
    omega (arith, l, a, b)

stands_all : (ks : List (List ℕ)) (text : List ℕ) (place : List ℕ → ℕ) → ((t : List ℕ) → among t ks ≡ true → take (length t) (drop (place t) text) ≡ t)
    → All Filled ks → All (EndsBy (length text)) (map (stretch_of place) ks)
stands_all [] text place h f = tt
stands_all (k ∷ ks) text place h f = (
  stands_inside text k (place k) f.0 (h k (or_left (same k k) (among k ks) (same_self k))),
  stands_all ks text place (λ t a. h t (or_right (same k t) (among t ks) a)) f.1,
)

apart_all : (ks : List (List ℕ)) (place : List ℕ → ℕ)
    → ((t u : List ℕ) → among t ks ≡ true → among u ks ≡ true → t ≢ u → Apart (stretch_of place t) (stretch_of place u)) → Distinct ks → AllApart (map (stretch_of place) ks)
apart_all [] place h d = tt
apart_all (k ∷ ks) place h d = (
  from ks d.0 (λ u a. or_right (same k u) (among u ks) a),
  apart_all ks place (λ t u a b. h t u (or_right (same k t) (among t ks) a) (or_right (same k u) (among u ks) b)) d.1,
)
  where
    differ : (u : List ℕ) → same k u ≡ false → k ≢ u
    differ u f e = let z = sym f ∙ (ap (same k) (sym e) ∙ same_self k) in absurd (let y : ◌≡◌ {A = ℕ} 0 1 = cc in omega arith)

    from : (ls : List (List ℕ)) → All (λ l. same k l ≡ false) ls → ((u : List ℕ) → among u ls ≡ true → among u (k ∷ ks) ≡ true)
        → All (Apart (stretch_of place k)) (map (stretch_of place) ls)
    from [] f m = tt
    from (l ∷ ls) f m = (
      h k l (or_left (same k k) (among k ks) (same_self k)) (m l (or_left (same l l) (among l ls) (same_self l))) (differ l f.0),
      from ls f.1 (λ u a. m u (or_right (same l u) (among u ls) a)),
    )

-- No text that has different non-empty strings without shared or overlapping bytes is shorter than these one behind the other.
pub shortest : (ks : List (List ℕ)) (text : List ℕ) (place : List ℕ → ℕ) → All Filled ks → Distinct ks → Placed ks text place → length (joined ks) ≤ length text
shortest ks text place f d p =
    let xs = map (stretch_of place) ks in
    omega (arith, total_joined place ks, apart_total (length xs) (length text) xs (omega arith) (stands_all ks text place p.stands f) (apart_all ks place p.apart d))

-- Strings one behind the other lie apart.
pub offsets_apart : (ks : List (List ℕ)) (t u : List ℕ) → among t ks ≡ true → among u ks ≡ true → t ≢ u → Apart (stretch_of (offset_in ks) t) (stretch_of (offset_in ks) u)
offsets_apart [] t u h i ne = absurd (let z : ◌≡◌ {A = ℕ} 0 1 = cc in omega arith)
offsets_apart (k ∷ ks) t u h i ne = go (same k t) (same k u) refl refl h i (offsets_apart ks t u)
  where
    go : (b c : Bool) → same k t ≡ b → same k u ≡ c → (b || among t ks) ≡ true → (c || among u ks) ≡ true
        → (among t ks ≡ true → among u ks ≡ true → t ≢ u → Apart (stretch_of (offset_in ks) t) (stretch_of (offset_in ks) u))
        → Apart (cond b 0 (length k + offset_in ks t), length t) (cond c 0 (length k + offset_in ks u), length u)
    go true true e g h i ih = absurd (ne (sym (same_true k t e) ∙ same_true k u g))
    go true false e g h i ih = before (let l = ap length (same_true k t e) in omega arith)
    go false true e g h i ih = behind (let l = ap length (same_true k u g) in omega arith)
    go false false e g h i ih = further (ih h i ne)
      where
        further : Apart (stretch_of (offset_in ks) t) (stretch_of (offset_in ks) u)
            → Apart (length k + offset_in ks t, length t) (length k + offset_in ks u, length u)
        further (before x) = before (omega arith)
        further (behind x) = behind (omega arith)
