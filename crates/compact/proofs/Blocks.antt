-- Words written one behind the other, and read back.
use Rattle.std.specs.Prelude.{ℕ, zero, suc, ◌+◌, ◌*◌, ◌/◌, ◌%◌, ◌≤◌, ◌<◌, ◌≡◌, refl, List, [], ◌∷◌, ◌++◌, map, length, get_or}
use Rattle.std.proofs.Common.{arith, sym, ap, ap₂, ◌∙◌, subst, append_assoc, length-append}
use Rattle.std.proofs.lemmas.List.{length-map}
use Rattle.sheet.specs.Bytes.{byte, half, word, bytes}
use Rattle.sheet_laws.specs.Fits.{All, Word}
use Rattle.sheet_laws.specs.Plan.{Bytes}
use Rattle.sheet_laws.specs.Bytes.{bytes_of_digits, digits, byte_after, word_after}
use Rattle.compact.specs.Slots.{Slot, number, reference, value, redirect, in_each, slot_bytes}

-- ---- a part of a list

-- The part stands in the whole behind k elements.
pub record Around {A : Type 0} (whole part : List A) (k : ℕ) : Type 0 where
  pub front : List A
  pub back : List A
  pub is : whole ≡ front ++ (part ++ back)
  pub at : length front ≡ k

pub around_left : {A : Type 0} {xs part : List A} {k : ℕ} (ys : List A) → Around xs part k → Around (xs ++ ys) part k
around_left {A} {xs} {part} ys a =
    record {
      front = a.front;
      back = a.back ++ ys;
      is = ap (λ (l : List A). l ++ ys) a.is ∙ append_assoc a.front (part ++ a.back) ys ∙ ap (λ (l : List A). a.front ++ l) (append_assoc part a.back ys);
      at = a.at;
    }

pub around_right : {A : Type 0} {ys part : List A} {k : ℕ} (xs : List A) → Around ys part k → Around (xs ++ ys) part (length xs + k)
around_right {A} {ys} {part} xs a =
    record {
      front = xs ++ a.front;
      back = a.back;
      is = ap (λ (l : List A). xs ++ l) a.is ∙ sym (append_assoc xs a.front (part ++ a.back));
      at = length-append xs a.front ∙ ap (λ (n : ℕ). length xs + n) a.at;
    }

pub map_append : {A B : Type 0} (f : A → B) (xs ys : List A) → map f (xs ++ ys) ≡ map f xs ++ map f ys
map_append f [] ys = refl
map_append f (x ∷ xs) ys = ap (λ l. f x ∷ l) (map_append f xs ys)

pub around_map : {A B : Type 0} {xs part : List A} {k : ℕ} (f : A → B) → Around xs part k → Around (map f xs) (map f part) k
around_map {A} {B} {xs} {part} f a =
    record {
      front = map f a.front;
      back = map f a.back;
      is = ap (map f) a.is ∙ map_append f a.front (part ++ a.back) ∙ ap (λ (l : List B). map f a.front ++ l) (map_append f part a.back);
      at = length-map a.front f ∙ a.at;
    }

pub around_at : {A : Type 0} {xs part : List A} {k m : ℕ} → k ≡ m → Around xs part k → Around xs part m
around_at e a = record { front = a.front; back = a.back; is = a.is; at = a.at ∙ e }

-- ---- words as bytes

pub slot_bytes_append : (xs ys : List Slot) → slot_bytes (xs ++ ys) ≡ slot_bytes xs ++ slot_bytes ys
unfolding slot_bytes
slot_bytes_append [] ys = refl
slot_bytes_append (x ∷ xs) ys = ap (λ (l : List ℕ). bytes (value x) ++ l) (slot_bytes_append xs ys) ∙ sym (append_assoc (bytes (value x)) (slot_bytes xs) (slot_bytes ys))

pub length_slot_bytes : (xs : List Slot) → length (slot_bytes xs) ≡ length xs * 4
unfolding slot_bytes bytes
length_slot_bytes [] = refl
length_slot_bytes (x ∷ xs) = omega (arith, length_slot_bytes xs)

pub around_bytes : {xs part : List Slot} {k : ℕ} → Around xs part k → Around (slot_bytes xs) (slot_bytes part) (k * 4)
around_bytes {xs} {part} {k} a =
    record {
      front = slot_bytes a.front;
      back = slot_bytes a.back;
      is = ap slot_bytes a.is ∙ slot_bytes_append a.front (part ++ a.back) ∙ ap (λ (l : List ℕ). slot_bytes a.front ++ l) (slot_bytes_append part a.back);
      at = length_slot_bytes a.front ∙ ap (λ (n : ℕ). n * 4) a.at;
    }

-- ---- records and cells, four words each

abbrev pub Four : (ℕ → List Slot) → Type 0
Four g = (p : ℕ) → length (g p) ≡ 4

pub length_in_each : (g : ℕ → List Slot) → Four g → (at n : ℕ) → length (in_each g at n) ≡ n * 4
length_in_each g four at zero = refl
length_in_each g four at (suc n) = length-append (g at) (in_each g (at + 16) n) ∙ omega (arith, four at, length_in_each g four (at + 16) n)

pub in_each_around : (g : ℕ → List Slot) → Four g → (at n i : ℕ) → i < n → Around (in_each g at n) (g (at + i * 16)) (i * 4)
in_each_around g four at zero i h = absurd (omega arith)
in_each_around g four at (suc n) zero h =
    let e : at ≡ at + 0 * 16 = omega arith in
    record { front = []; back = in_each g (at + 16) n; is = ap (λ (p : ℕ). g p ++ in_each g (at + 16) n) e; at = refl }
in_each_around g four at (suc n) (suc i) h =
    let e : at + 16 + i * 16 ≡ at + suc i * 16 = omega arith in
    let a = in_each_around g four (at + 16) n i (omega arith) in
    let l : length (g at) + i * 4 ≡ suc i * 4 = omega (arith, four at) in
    subst (λ (p : ℕ). Around (in_each g at (suc n)) (g p) (suc i * 4)) e (around_at l (around_right (g at) a))

-- A property of every word, and of those of each record.
pub all_left : {A : Type 0} (P : A → Type 0) (xs ys : List A) → All P (xs ++ ys) → All P xs
all_left P [] ys a = tt
all_left P (x ∷ xs) ys a = (a.0, all_left P xs ys a.1)

pub all_right : {A : Type 0} (P : A → Type 0) (xs ys : List A) → All P (xs ++ ys) → All P ys
all_right P [] ys a = a
all_right P (x ∷ xs) ys a = all_right P xs ys a.1

pub all_part : {A : Type 0} (P : A → Type 0) {whole part : List A} {k : ℕ} → Around whole part k → All P whole → All P part
all_part {A} P {whole} {part} a p = all_left P part a.back (all_right P a.front (part ++ a.back) (subst (All P) a.is p))

-- The same records elsewhere, each word put through a function.
pub in_each_mapped : (u : Slot → Slot) (g h : ℕ → List Slot) (at at' n : ℕ) → ((i : ℕ) → i < n → h (at' + i * 16) ≡ map u (g (at + i * 16)))
    → in_each h at' n ≡ map u (in_each g at n)
in_each_mapped u g h at at' zero e = refl
in_each_mapped u g h at at' (suc n) e =
    let p : at' ≡ at' + 0 * 16 = omega arith in
    let q : at ≡ at + 0 * 16 = omega arith in
    let first : h at' ≡ map u (g at) = ap h p ∙ e 0 (omega arith) ∙ ap (λ (i : ℕ). map u (g i)) (sym q) in
    let rest : in_each h (at' + 16) n ≡ map u (in_each g (at + 16) n) =
    in_each_mapped u g h (at + 16) (at' + 16) n (λ i l.
    let v : at' + 16 + i * 16 ≡ at' + suc i * 16 = omega arith in
    let w : at + 16 + i * 16 ≡ at + suc i * 16 = omega arith in
    ap h v ∙ e (suc i) (omega arith) ∙ ap (λ (j : ℕ). map u (g j)) (sym w)) in
    ap₂ ◌++◌ first rest ∙ sym (map_append u (g at) (in_each g (at + 16) n))

-- ---- reading them back

-- Four words stand in d from byte p on.
pub record FourWords (d : List ℕ) (p v0 v1 v2 v3 : ℕ) : Type 0 where
  pub first : word d p ≡ v0
  pub second : word d (p + 4) ≡ v1
  pub third : word d (p + 8) ≡ v2
  pub fourth : word d (p + 12) ≡ v3

pub four_words : (d : List ℕ) (p : ℕ) (x0 x1 x2 x3 : Slot) → Around d (slot_bytes (x0 ∷ x1 ∷ x2 ∷ x3 ∷ [])) p
    → Word (value x0) → Word (value x1) → Word (value x2) → Word (value x3) → FourWords d p (value x0) (value x1) (value x2) (value x3)
unfolding slot_bytes bytes word
four_words d p x0 x1 x2 x3 a w0 w1 w2 w3 =
    let zs = slot_bytes (x0 ∷ x1 ∷ x2 ∷ x3 ∷ []) ++ a.back in
    let l = a.at in
    record {
      first = ap (λ (l : List ℕ). word l p) a.is ∙ (word_after a.front zs p 0 (omega arith) ∙ digits (value x0) w0);
      second = ap (λ (l : List ℕ). word l (p + 4)) a.is ∙ (word_after a.front zs (p + 4) 4 (omega arith) ∙ digits (value x1) w1);
      third = ap (λ (l : List ℕ). word l (p + 8)) a.is ∙ (word_after a.front zs (p + 8) 8 (omega arith) ∙ digits (value x2) w2);
      fourth = ap (λ (l : List ℕ). word l (p + 12)) a.is ∙ (word_after a.front zs (p + 12) 12 (omega arith) ∙ digits (value x3) w3);
    }

-- The 4 bytes of d from p on are those of s from q on.
pub record Copied (d : List ℕ) (p : ℕ) (s : List ℕ) (q : ℕ) : Type 0 where
  pub byte_0 : byte d p ≡ byte s q
  pub byte_1 : byte d (p + 1) ≡ byte s (q + 1)
  pub byte_2 : byte d (p + 2) ≡ byte s (q + 2)
  pub byte_3 : byte d (p + 3) ≡ byte s (q + 3)

pub copied_word : {d : List ℕ} {p : ℕ} {s : List ℕ} {q : ℕ} → Copied d p s q → word d p ≡ word s q
unfolding word
copied_word c = cc (c.byte_0, c.byte_1, c.byte_2, c.byte_3)

pub copied_half : {d : List ℕ} {p : ℕ} {s : List ℕ} {q : ℕ} → Copied d p s q → half d (p + 2) ≡ half s (q + 2)
unfolding half
copied_half {d} {p} {s} {q} c =
    let e : p + 2 + 1 ≡ p + 3 = omega arith in
    let f : q + 2 + 1 ≡ q + 3 = omega arith in
    let g : byte d (p + 2 + 1) ≡ byte s (q + 2 + 1) = ap (byte d) e ∙ (c.byte_3 ∙ ap (byte s) (sym f)) in
    cc (c.byte_2, g)

-- A word of s that stands in d behind k bytes of a part.
pub copied : (s : List ℕ) → Bytes s → (q : ℕ) (d zs front : List ℕ) (p : ℕ) → d ≡ front ++ (bytes (word s q) ++ zs) → p ≡ length front → Copied d p s q
unfolding bytes word
copied s b q d zs front p e l =
    let w = bytes_of_digits (byte s q) (byte s (q + 1)) (byte s (q + 2)) (byte s (q + 3)) (b q) (b (q + 1)) (b (q + 2)) (b (q + 3)) in
    let ys = bytes (word s q) ++ zs in
    record {
      byte_0 = ap (λ (l : List ℕ). byte l p) e ∙ (byte_after front ys p 0 (omega arith) ∙ ap (λ (l : List ℕ). get_or l 0 0) w);
      byte_1 = ap (λ (l : List ℕ). byte l (p + 1)) e ∙ (byte_after front ys (p + 1) 1 (omega arith) ∙ ap (λ (l : List ℕ). get_or l 1 0) w);
      byte_2 = ap (λ (l : List ℕ). byte l (p + 2)) e ∙ (byte_after front ys (p + 2) 2 (omega arith) ∙ ap (λ (l : List ℕ). get_or l 2 0) w);
      byte_3 = ap (λ (l : List ℕ). byte l (p + 3)) e ∙ (byte_after front ys (p + 3) 3 (omega arith) ∙ ap (λ (l : List ℕ). get_or l 3 0) w);
    }

-- A word of s among words that stand in d.
pub copied_in : (s : List ℕ) → Bytes s → (q : ℕ) (d : List ℕ) (p : ℕ) (xs ys : List Slot) → Around d (slot_bytes (xs ++ (number (word s q) ∷ ys))) p → Copied d (p + length xs * 4) s q
unfolding slot_bytes
copied_in s b q d p xs ys a =
    let w = bytes (word s q) in
    let rest = slot_bytes ys in
    let split : slot_bytes (xs ++ (number (word s q) ∷ ys)) ≡ slot_bytes xs ++ (w ++ rest) = slot_bytes_append xs (number (word s q) ∷ ys) in
    let e : d ≡ (a.front ++ slot_bytes xs) ++ (w ++ (rest ++ a.back)) =
    a.is ∙ ap (λ (l : List ℕ). a.front ++ (l ++ a.back)) split ∙ ap (λ (l : List ℕ). a.front ++ l) (append_assoc (slot_bytes xs) (w ++ rest) a.back)
    ∙ sym (append_assoc a.front (slot_bytes xs) ((w ++ rest) ++ a.back)) ∙ ap (λ (l : List ℕ). (a.front ++ slot_bytes xs) ++ l) (append_assoc w rest a.back) in
    copied s b q d (rest ++ a.back) (a.front ++ slot_bytes xs) (p + length xs * 4) e (omega (arith, length-append a.front (slot_bytes xs), length_slot_bytes xs, a.at))
