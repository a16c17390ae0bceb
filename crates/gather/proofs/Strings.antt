-- Laws on the strings that are held: where one is found, and what one more reference leads to.
-- Assumes nothing.
use Prim.Native.Nat.{ℕ, zero, suc, ◌+◌, ◌*◌, ◌/◌, ◌%◌, ◌≤◌, ◌<◌}
use native.Mathlib.Omega.{arith}
use native.Mathlib.Numerals.{add-one}
use borrow.Author.Tests.{clash}
use mathlib.Core.Path.{◌≡◌, refl, sym, ap, ap₂, ◌∙◌, subst}
use mathlib.Core.Logic.{◌≢◌}
use mathlib.Core.Bool.{Bool, true, false, ◌||◌, cond}
use mathlib.Core.List.{List, [], ◌∷◌, ◌++◌, map}
use lib.ListN.{length, take, drop, get_or, set, length-append, length-map, length-set, take-append-drop, get_or-map}
use lib.Seq.{get_or-take, drop-cons, take-suc, take-suc-set, length-take-le, take_all}
use Rattle.value.specs.Meaning.{bytes_at}
use Rattle.sheet.specs.Bytes.{word}
use Rattle.sheet_laws.specs.Fits.{All}
use Rattle.sound.specs.Lists.{all_append, get_d_of}
use Rattle.compact.specs.Strings.{same, empty, among, add, keep, kept, joined, offset_in, reference_to}
use Rattle.compact.proofs.StringLaws.{Grows, Has, keep_grows, keep_has, offset_stays, same_self}
use Rattle.compact.proofs.Blocks.{map_append}
use Rattle.gather.specs.Gather.{stretch, mark_of, Inside, index_in, starts, held, Holds, Finds, Fits, Gathers, Gathered}
use Rattle.gather.specs.declared.Total.{Total}
use Rattle.gather.specs.declared.Kept.{Kept}
use Rattle.gather.specs.declared.TooLong.{TooLong}
use Rattle.std.specs.Prelude.{None, Some, Result, Ok, Err, IsErr}
use Rattle.gather.proofs.Laws.{length_stretch, same_marks, same_lengths}

-- ---- what is held at a place

-- no string
abbrev pub nothing : Kept
nothing = record { reference = 0; mark = 0; place = 0 }

pub held_at : (s : List ℕ) (ks : List Kept) (j : ℕ) → get_or (held s ks) j [] ≡ bytes_at s (get_or ks j nothing).reference
held_at s ks j = get_or-map (λ (k : Kept). bytes_at s k.reference) ks j nothing

no_mark : mark_of [] ≡ 0
unfolding word
no_mark = refl

pub mark_at : (s : List ℕ) (ks : List Kept) (j : ℕ) → Holds s ks → (get_or ks j nothing).mark ≡ mark_of (bytes_at s (get_or ks j nothing).reference)
mark_at s ks j h =
    sym (get_or-map (λ (k : Kept). k.mark) ks j nothing)
    ∙ ap (λ (l : List ℕ). get_or l j 0) h.marks_are
    ∙ ap (λ (d : ℕ). get_or (map mark_of (held s ks)) j d) (sym no_mark)
    ∙ get_or-map mark_of (held s ks) j []
    ∙ ap mark_of (held_at s ks j)

pub inside_at : (s : List ℕ) (ks : List Kept) (j : ℕ) → All (λ k. Inside s k.reference) ks → Inside s (get_or ks j nothing).reference
inside_at s ks j a = get_d_of (λ (k : Kept). Inside s k.reference) ks j nothing a (record { within = omega arith; small = omega arith })

pub length_held : (s : List ℕ) (ks : List Kept) → length (held s ks) ≡ length ks
length_held s ks = length-map ks (λ (k : Kept). bytes_at s k.reference)

-- ---- is it this one

pub other_mark : (s : List ℕ) (old its at n mark : ℕ) → its ≡ mark_of (bytes_at s old) → mark ≡ mark_of (stretch s at n) → its ≢ mark → false ≡ same (bytes_at s old) (stretch s at n)
other_mark s old its at n mark p q ne = same_marks (bytes_at s old) (stretch s at n) (λ e. ne (p ∙ (e ∙ sym q)))

pub other_length : (s : List ℕ) (old at n : ℕ) → Inside s old → at + n ≤ length s → old / 65536 ≢ n → false ≡ same (bytes_at s old) (stretch s at n)
other_length s old at n i h ne =
    let a = length_stretch s (old % 65536) (old / 65536) i.within in
    let b = length_stretch s at n h in
    same_lengths (bytes_at s old) (stretch s at n) (λ e. ne (sym a ∙ (e ∙ b)))

pub this_length : (s : List ℕ) (old at n : ℕ) {r : Bool} → old / 65536 ≡ n → r ≡ same (stretch s (old % 65536) n) (stretch s at n) → r ≡ same (bytes_at s old) (stretch s at n)
this_length s old at n e h = h ∙ ap (λ (m : ℕ). same (stretch s (old % 65536) m) (stretch s at n)) (sym e)

-- ---- finding

-- None of the first j is it.
abbrev pub Seeking : (ks : List (List ℕ)) (t : List ℕ) (j : ℕ) → Type 0
Seeking ks t j = index_in ks t ≡ j + index_in (drop j ks) t

index_at : (ks : List (List ℕ)) (t : List ℕ) (j : ℕ) → j < length ks → index_in (drop j ks) t ≡ cond (same (get_or ks j []) t) 0 (suc (index_in (drop (suc j) ks) t))
index_at ks t j h = ap (λ (l : List (List ℕ)). index_in l t) (drop-cons ks j [] h)

pub seek_hit : (s : List ℕ) (held_now : List Kept) (t : List ℕ) (j : ℕ) → j < length held_now → Seeking (held s held_now) t j
    → true ≡ same (bytes_at s (get_or held_now j nothing).reference) t → Finds (held s held_now) t (Some j)
seek_hit s held_now t j h k e =
    let ks = held s held_now in
    let l = length_held s held_now in
    let z : index_in (drop j ks) t ≡ 0 =
    index_at ks t j (omega arith) ∙ ap (λ (b : Bool). cond b 0 (suc (index_in (drop (suc j) ks) t))) (ap (λ (u : List ℕ). same u t) (held_at s held_now j) ∙ sym e) in
    (omega arith, omega (arith, k, z))

pub seek_miss : (s : List ℕ) (held_now : List Kept) (t : List ℕ) (j : ℕ) → j < length held_now → Seeking (held s held_now) t j
    → false ≡ same (bytes_at s (get_or held_now j nothing).reference) t → Seeking (held s held_now) t (j + 1)
seek_miss s held_now t j h k e =
    let ks = held s held_now in
    let l = length_held s held_now in
    let z : index_in (drop j ks) t ≡ suc (index_in (drop (suc j) ks) t) =
    index_at ks t j (omega arith) ∙ ap (λ (b : Bool). cond b 0 (suc (index_in (drop (suc j) ks) t))) (ap (λ (u : List ℕ). same u t) (held_at s held_now j) ∙ sym e) in
    let y : index_in (drop (suc j) ks) t ≡ index_in (drop (j + 1) ks) t = ap (λ (i : ℕ). index_in (drop i ks) t) (sym (add-one j)) in
    omega (arith, k, z, y)

pub seek_done : (s : List ℕ) (held_now : List Kept) (t : List ℕ) (j : ℕ) → length held_now ≤ j → Seeking (held s held_now) t j → Finds (held s held_now) t None
seek_done s held_now t j h k = omega (arith, k, length_held s held_now)

-- ---- what the place says

among_found : (ks : List (List ℕ)) (t : List ℕ) → index_in ks t < length ks → among t ks ≡ true
among_found [] t h = absurd (omega arith)
among_found (k ∷ ks) t h = go (same k t) h (among_found ks t)
  where
    go : (b : Bool) → cond b 0 (suc (index_in ks t)) < suc (length ks) → (index_in ks t < length ks → among t ks ≡ true) → (b || among t ks) ≡ true
    go true h ih = refl
    go false h ih = ih (omega arith)

among_not : (ks : List (List ℕ)) (t : List ℕ) → length ks ≤ index_in ks t → among t ks ≡ false
among_not [] t h = refl
among_not (k ∷ ks) t h = go (same k t) h (among_not ks t)
  where
    go : (b : Bool) → suc (length ks) ≤ cond b 0 (suc (index_in ks t)) → (length ks ≤ index_in ks t → among t ks ≡ false) → (b || among t ks) ≡ false
    go true h ih = absurd (omega arith)
    go false h ih = ih (omega arith)

start_found : (o : ℕ) (ks : List (List ℕ)) (t : List ℕ) → index_in ks t < length ks → get_or (starts o ks) (index_in ks t) 0 ≡ o + offset_in ks t
start_found o [] t h = absurd (omega arith)
start_found o (k ∷ ks) t h = go (same k t) h (start_found (o + length k) ks t)
  where
    go : (b : Bool) → cond b 0 (suc (index_in ks t)) < suc (length ks) → (index_in ks t < length ks → get_or (starts (o + length k) ks) (index_in ks t) 0 ≡ o + length k + offset_in ks t)
        → get_or (o ∷ starts (o + length k) ks) (cond b 0 (suc (index_in ks t))) 0 ≡ o + cond b 0 (length k + offset_in ks t)
    go true h ih = omega arith
    go false h ih = ih (omega arith) ∙ omega arith

starts_last : (o : ℕ) (ks : List (List ℕ)) (t : List ℕ) → starts o (ks ++ (t ∷ [])) ≡ starts o ks ++ ((o + length (joined ks)) ∷ [])
starts_last o [] t = let e : o ≡ o + 0 = omega arith in ap (λ (n : ℕ). n ∷ []) e
starts_last o (k ∷ ks) t =
    let e : o + length k + length (joined ks) ≡ o + length (k ++ joined ks) = omega (arith, length-append k (joined ks)) in
    ap (λ (l : List ℕ). o ∷ l) (starts_last (o + length k) ks t ∙ ap (λ (n : ℕ). starts (o + length k) ks ++ (n ∷ [])) e)

joined_last : (ks : List (List ℕ)) (t : List ℕ) → length (joined (ks ++ (t ∷ []))) ≡ length (joined ks) + length t
joined_last [] t = omega (arith, length-append t [])
joined_last (k ∷ ks) t = omega (arith, length-append k (joined (ks ++ (t ∷ []))), length-append k (joined ks), joined_last ks t)

offset_last : (ks : List (List ℕ)) (t : List ℕ) → among t ks ≡ false → same t t ≡ true → offset_in (ks ++ (t ∷ [])) t ≡ length (joined ks)
offset_last [] t h e = ap (λ (b : Bool). cond b 0 (length t + 0)) e
offset_last (k ∷ ks) t h e = go (same k t) h (λ i. offset_last ks t i e)
  where
    go : (b : Bool) → (b || among t ks) ≡ false → (among t ks ≡ false → offset_in (ks ++ (t ∷ [])) t ≡ length (joined ks))
        → cond b 0 (length k + offset_in (ks ++ (t ∷ [])) t) ≡ length (k ++ joined ks)
    go true h ih = absurd (let z : ◌≡◌ {A = ℕ} 0 1 = cc in omega arith)
    go false h ih = omega (arith, ih h, length-append k (joined ks))

starts_short : (o : ℕ) (ks : List (List ℕ)) (j : ℕ) → get_or (starts o ks) j 0 ≤ o + length (joined ks)
starts_short o [] j = omega arith
starts_short o (k ∷ ks) zero = omega arith
starts_short o (k ∷ ks) (suc j) = omega (arith, starts_short (o + length k) ks j, length-append k (joined ks))

-- A new offset is no more than the bytes kept.
pub place_short : (s : List ℕ) (ks : List Kept) (j : ℕ) → Holds s ks → (get_or ks j nothing).place ≤ length (joined (held s ks))
place_short s ks j h =
    let e : (get_or ks j nothing).place ≡ get_or (starts 0 (held s ks)) j 0 = sym (get_or-map (λ (k : Kept). k.place) ks j nothing) ∙ ap (λ (x : List ℕ). get_or x j 0) h.places_are in
    omega (arith, e, starts_short 0 (held s ks) j)

-- ---- one reference more

-- a string that adds nothing
add_nothing : (ks : List (List ℕ)) (t : List ℕ) → (empty t || among t ks) ≡ true → add ks t ≡ ks
add_nothing ks t h = ap (λ (b : Bool). cond b ks (ks ++ (t ∷ []))) h

-- a new one
add_new : (ks : List (List ℕ)) (t : List ℕ) → (empty t || among t ks) ≡ false → add ks t ≡ ks ++ (t ∷ [])
add_new ks t h = ap (λ (b : Bool). cond b ks (ks ++ (t ∷ []))) h

filled : (t : List ℕ) → length t ≢ 0 → empty t ≡ false
filled [] ne = absurd (ne refl)
filled (x ∷ xs) ne = refl

or_true : (a b : Bool) → b ≡ true → (a || b) ≡ true
or_true true b h = refl
or_true false b h = h

or_false : (a b : Bool) → a ≡ false → b ≡ false → (a || b) ≡ false
or_false false b p q = q
or_false true b p q = absurd (let z : ◌≡◌ {A = ℕ} 0 1 = cc in omega arith)

refers_filled : (ks : List (List ℕ)) (t : List ℕ) → empty t ≡ false → reference_to ks t ≡ offset_in ks t + 65536 * length t
refers_filled ks t e = ap (λ (b : Bool). cond b 0 (offset_in ks t + 65536 * length t)) e

module _ (s : List ℕ) (buffer : List Kept) (t : Total) (r : ℕ) (h : Holds s (take t.count buffer)) (room : t.count < length buffer) (i : Inside s r)
    (bytes_are : t.bytes ≡ length (joined (held s (take t.count buffer)))) (few : t.bytes ≤ 8192) where
  abbrev old : List Kept
  old = take t.count buffer

  abbrev held_old : List (List ℕ)
  held_old = held s old

  abbrev x : List ℕ
  x = bytes_at s r

  length_old : length old ≡ t.count
  length_old = length-take-le t.count buffer (omega arith)

  length_x : length x ≡ r / 65536
  length_x = length_stretch s (r % 65536) (r / 65536) i.within

  kept_same : (reference : ℕ) → add held_old x ≡ held_old → reference ≡ reference_to held_old x → Fits s old r buffer t reference
  kept_same reference e f =
      record {
        within = omega arith;
        strings = sym e;
        holds = h;
        one = omega (arith, length_old);
        bytes = bytes_are ∙ ap (λ (l : List (List ℕ)). length (joined l)) (sym e);
        short = few;
        refers = f ∙ ap (λ (l : List (List ℕ)). reference_to l x) (sym e);
      }

  -- an empty string
  pub place_empty : r / 65536 ≡ 0 → Fits s old r buffer t 0
  place_empty z =
      let e : x ≡ [] = ap (λ (n : ℕ). take n (drop (r % 65536) s)) z in
      kept_same 0 (ap (λ (u : List ℕ). add held_old u) e) (sym (ap (reference_to held_old) e))

  same_place : (j : ℕ) → j < length held_old → get_or old j nothing ≡ get_or buffer j nothing
  same_place j l = get_or-take t.count buffer j nothing (omega (arith, length_held s old, length_old))

  pub place_small : (j : ℕ) → Finds held_old x (Some j) → (get_or buffer j nothing).place ≤ 8192
  place_small j (l, e) = omega (arith, place_short s old j h, ap (λ (k : Kept). k.place) (same_place j l), bytes_are)

  -- one that is held
  pub place_held : (j : ℕ) → r / 65536 ≢ 0 → Finds held_old x (Some j) → Fits s old r buffer t ((get_or buffer j nothing).place + 65536 * (r / 65536))
  place_held j ne (l, e) =
      let found : index_in held_old x < length held_old = omega (arith, e) in
      let start : (get_or buffer j nothing).place ≡ offset_in held_old x =
      ap (λ (k : Kept). k.place) (sym (same_place j l)) ∙ sym (get_or-map (λ (k : Kept). k.place) old j nothing) ∙ ap (λ (y : List ℕ). get_or y j 0) h.places_are
      ∙ ap (λ (k : ℕ). get_or (starts 0 held_old) k 0) e ∙ start_found 0 held_old x found ∙ omega arith in
      let full = filled x (λ z. ne (sym length_x ∙ z)) in
      kept_same ((get_or buffer j nothing).place + 65536 * (r / 65536)) (add_nothing held_old x (or_true (empty x) (among x held_old) (among_found held_old x found)))
      (omega (arith, start, length_x) ∙ sym (refers_filled held_old x full))

  module _ (ne : r / 65536 ≢ 0) (missing : Finds held_old x None) where
    absent : among x held_old ≡ false
    absent = among_not held_old x missing

    full : empty x ≡ false
    full = filled x (λ z. ne (sym length_x ∙ z))

    grown : add held_old x ≡ held_old ++ (x ∷ [])
    grown = add_new held_old x (or_false (empty x) (among x held_old) full absent)

    grown_bytes : t.bytes + r / 65536 ≡ length (joined (add held_old x))
    grown_bytes = sym (ap (λ (y : List (List ℕ)). length (joined y)) grown ∙ joined_last held_old x ∙ omega (arith, bytes_are, length_x))

    -- a new one, and too many bytes
    pub place_over : 8192 < t.bytes + r / 65536 → 8192 < length (joined (add held_old x))
    place_over o = omega (arith, grown_bytes)

    -- a new one
    pub place_new : (m : ℕ) → m ≡ mark_of x → t.bytes + r / 65536 ≤ 8192
        → Fits s old r (set buffer t.count (record { reference = r; mark = m; place = t.bytes })) (record { count = t.count + 1; bytes = t.bytes + r / 65536 }) (t.bytes + 65536 * (r / 65536))
    place_new m em short =
        let k : Kept = record { reference = r; mark = m; place = t.bytes } in
        let a : take (t.count + 1) (set buffer t.count k) ≡ old ++ (k ∷ []) = ap (λ (n : ℕ). take n (set buffer t.count k)) (add-one t.count) ∙ take-suc-set buffer t.count k room in
        let hd : held s (old ++ (k ∷ [])) ≡ held_old ++ (x ∷ []) = map_append (λ (y : Kept). bytes_at s y.reference) old (k ∷ []) in
        let mk : map (λ (y : Kept). y.mark) (old ++ (k ∷ [])) ≡ map mark_of (held s (old ++ (k ∷ []))) =
        map_append (λ (y : Kept). y.mark) old (k ∷ []) ∙ ap₂ (λ (y : List ℕ) (n : ℕ). y ++ (n ∷ [])) h.marks_are em ∙ sym (ap (map mark_of) hd ∙ map_append mark_of held_old (x ∷ [])) in
        let nw : map (λ (y : Kept). y.place) (old ++ (k ∷ [])) ≡ starts 0 (held s (old ++ (k ∷ []))) =
        map_append (λ (y : Kept). y.place) old (k ∷ []) ∙ ap₂ (λ (y : List ℕ) (n : ℕ). y ++ (n ∷ [])) h.places_are (bytes_are ∙ omega arith) ∙ sym (ap (starts 0) hd ∙ starts_last 0 held_old x) in
        let holds : Holds s (old ++ (k ∷ [])) = record { inside = all_append (λ (y : Kept). Inside s y.reference) old (k ∷ []) h.inside (i, tt); marks_are = mk; places_are = nw } in
        let o = length-set buffer t.count k in
        record {
          within = omega arith;
          strings = ap (held s) a ∙ hd ∙ sym grown;
          holds = subst (Holds s) (sym a) holds;
          one = omega (arith, length_old);
          bytes = grown_bytes;
          short = short;
          refers = omega (arith, length_x, bytes_are, offset_last held_old x absent (same_self x)) ∙ sym (refers_filled (held_old ++ (x ∷ [])) x full) ∙ ap (λ (y : List (List ℕ)). reference_to y x) (sym grown);
        }

-- ---- all references

keep_last : (ks ts : List (List ℕ)) (t : List ℕ) → keep ks (ts ++ (t ∷ [])) ≡ add (keep ks ts) t
keep_last ks [] t = refl
keep_last ks (u ∷ ts) t = keep_last (add ks u) ts t

keep_more : (ks ts us : List (List ℕ)) → keep ks (ts ++ us) ≡ keep (keep ks ts) us
keep_more ks [] us = refl
keep_more ks (t ∷ ts) us = keep_more (add ks t) ts us

joined_more : (ks ls : List (List ℕ)) → length (joined ks) ≤ length (joined (ks ++ ls))
joined_more [] ls = omega arith
joined_more (k ∷ ks) ls = omega (arith, length-append k (joined ks), length-append k (joined (ks ++ ls)), joined_more ks ls)

grows_longer : (ks ls : List (List ℕ)) → Grows ks ls → length (joined ks) ≤ length (joined ls)
grows_longer ks ls g = subst (λ (x : List (List ℕ)). length (joined ks) ≤ length (joined x)) (sym g.is) (joined_more ks g.more)

-- A reference stays where more strings are kept.
reference_stays : (ks ls : List (List ℕ)) (t : List ℕ) → Grows ks ls → Has ks t → reference_to ls t ≡ reference_to ks t
reference_stays ks ls [] g h = refl
reference_stays ks ls (x ∷ xs) g h =
    ap (λ (l : List (List ℕ)). offset_in l (x ∷ xs) + 65536 * length (x ∷ xs)) g.is ∙ ap (λ (n : ℕ). n + 65536 * length (x ∷ xs)) (offset_stays ks g.more (x ∷ xs) h)

references_stay : (s : List ℕ) (ks ls : List (List ℕ)) (rs : List ℕ) → Grows ks ls → All (Has ks) (map (bytes_at s) rs)
    → map (λ r. reference_to ls (bytes_at s r)) rs ≡ map (λ r. reference_to ks (bytes_at s r)) rs
references_stay s ks ls [] g a = refl
references_stay s ks ls (r ∷ rs) g a = ap₂ ◌∷◌ (reference_stays ks ls (bytes_at s r) g a.0) (references_stay s ks ls rs g a.1)

-- What is held after i references.
pub record Going (s refs : List ℕ) (buffer : List Kept) (fresh : List ℕ) (t : Total) (i : ℕ) : Type 0 where
  pub within : i ≤ length refs
  pub few : t.count ≤ i
  pub inside_buffer : t.count ≤ length buffer
  pub strings : held s (take t.count buffer) ≡ keep [] (map (bytes_at s) (take i refs))
  pub holds : Holds s (take t.count buffer)
  pub bytes_are : t.bytes ≡ length (joined (held s (take t.count buffer)))
  pub short : t.bytes ≤ 8192
  pub refers : take i fresh ≡ map (λ r. reference_to (held s (take t.count buffer)) (bytes_at s r)) (take i refs)

pub going_start : (s refs : List ℕ) (buffer : List Kept) (fresh : List ℕ) → Going s refs buffer fresh (record { count = 0; bytes = 0 }) 0
going_start s refs buffer fresh =
    record {
      within = omega arith;
      few = omega arith;
      inside_buffer = omega arith;
      strings = refl;
      holds = record { inside = tt; marks_are = refl; places_are = refl };
      bytes_are = refl;
      short = omega arith;
      refers = refl;
    }

module _ (s refs : List ℕ) (buffer : List Kept) (fresh : List ℕ) (t : Total) (i : ℕ) (g : Going s refs buffer fresh t i) (l : i < length refs) where
  abbrev xs : List ℕ
  xs = take i refs

  abbrev r : ℕ
  r = get_or refs i 0

  abbrev now : List Kept
  now = take t.count buffer

  abbrev now_held : List (List ℕ)
  now_held = held s now

  next_refs : take (i + 1) refs ≡ xs ++ (r ∷ [])
  next_refs = ap (λ (k : ℕ). take k refs) (add-one i) ∙ take-suc refs i 0 (omega arith)

  next_kept : keep [] (map (bytes_at s) (take (i + 1) refs)) ≡ add now_held (bytes_at s r)
  next_kept =
      ap (λ (x : List ℕ). keep [] (map (bytes_at s) x)) next_refs ∙ ap (keep []) (map_append (bytes_at s) xs (r ∷ [])) ∙ keep_last [] (map (bytes_at s) xs) (bytes_at s r)
      ∙ ap (λ (k : List (List ℕ)). add k (bytes_at s r)) (sym g.strings)

  now_grown : Grows now_held (add now_held (bytes_at s r))
  now_grown = keep_grows now_held (bytes_at s r ∷ [])

  pub going_on : (buffer' : List Kept) (t' : Total) (reference : ℕ) → i < length fresh → Fits s now r buffer' t' reference → Going s refs buffer' (set fresh i reference) t' (i + 1)
  going_on buffer' t' reference room f =
      let have : All (Has now_held) (map (bytes_at s) xs) = subst (λ (k : List (List ℕ)). All (Has k) (map (bytes_at s) xs)) (sym g.strings) (keep_has [] (map (bytes_at s) xs)) in
      let ks = held s (take t'.count buffer') in
      let front : map (λ x. reference_to ks (bytes_at s x)) xs ≡ map (λ x. reference_to now_held (bytes_at s x)) xs =
      references_stay s now_held ks xs (subst (Grows now_held) (sym f.strings) now_grown) have in
      let last : reference ≡ reference_to ks (bytes_at s r) = f.refers ∙ ap (λ (k : List (List ℕ)). reference_to k (bytes_at s r)) (sym f.strings) in
      record {
        within = omega arith;
        few = omega (arith, f.one, g.few, length-take-le t.count buffer g.inside_buffer);
        inside_buffer = f.within;
        strings = f.strings ∙ sym next_kept;
        holds = f.holds;
        bytes_are = f.bytes ∙ ap (λ (k : List (List ℕ)). length (joined k)) (sym f.strings);
        short = f.short;
        refers = ap (λ (k : ℕ). take k (set fresh i reference)) (add-one i) ∙ take-suc-set fresh i reference room
            ∙ ap₂ (λ (x : List ℕ) (v : ℕ). x ++ (v ∷ [])) (g.refers ∙ sym front) last
            ∙ sym (map_append (λ x. reference_to ks (bytes_at s x)) xs (r ∷ [])) ∙ ap (map (λ x. reference_to ks (bytes_at s x))) (sym next_refs);
      }

  pub going_over : 8192 < length (joined (add now_held (bytes_at s r))) → 8192 < length (joined (kept (map (bytes_at s) refs)))
  going_over over =
      let rest = drop (i + 1) refs in
      let split : refs ≡ take (i + 1) refs ++ rest = sym (take-append-drop (i + 1) refs) in
      let all : kept (map (bytes_at s) refs) ≡ keep (add now_held (bytes_at s r)) (map (bytes_at s) rest) =
      ap (λ (x : List ℕ). kept (map (bytes_at s) x)) split ∙ ap kept (map_append (bytes_at s) (take (i + 1) refs) rest)
      ∙ keep_more [] (map (bytes_at s) (take (i + 1) refs)) (map (bytes_at s) rest) ∙ ap (λ (k : List (List ℕ)). keep k (map (bytes_at s) rest)) next_kept in
      let longer = grows_longer (add now_held (bytes_at s r)) (keep (add now_held (bytes_at s r)) (map (bytes_at s) rest)) (keep_grows (add now_held (bytes_at s r)) (map (bytes_at s) rest)) in
      omega (arith, longer, ap (λ (k : List (List ℕ)). length (joined k)) all)

pub going_done : (s refs : List ℕ) (buffer : List Kept) (fresh : List ℕ) (t : Total) (i : ℕ) → Going s refs buffer fresh t i → length refs ≤ i → Gathers s refs buffer fresh t
going_done s refs buffer fresh t i g l =
    let e : take i refs ≡ refs = take_all i refs l in
    let size : length refs ≡ i = omega (arith, g.within) in
    let k : held s (take t.count buffer) ≡ kept (map (bytes_at s) refs) = g.strings ∙ ap (λ (x : List ℕ). keep [] (map (bytes_at s) x)) e in
    record {
      within = g.inside_buffer;
      inside = g.holds.inside;
      strings = k;
      refers = ap (λ (j : ℕ). take j fresh) size ∙ g.refers ∙ ap₂ (λ (x : List (List ℕ)) (y : List ℕ). map (λ r. reference_to x (bytes_at s r)) y) k e;
      bytes = g.bytes_are ∙ ap (λ (x : List (List ℕ)). length (joined x)) k;
      short = g.short;
    }

pub gathered_not : (s refs : List ℕ) (buffer : List Kept) (fresh : List ℕ) (r : Result Total TooLong) → IsErr r → 8192 < length (joined (kept (map (bytes_at s) refs)))
    → Gathered s refs buffer fresh r
gathered_not s refs buffer fresh (Ok t) e over = absurd (clash e)
gathered_not s refs buffer fresh (Err e) _ over = over
