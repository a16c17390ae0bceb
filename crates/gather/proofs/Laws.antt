-- Laws on stretches of bytes: their first eight bytes, and how two of them are compared.
-- Assumes nothing.
use Prim.Native.Nat.{ℕ, ◌+◌, ◌-◌, ◌*◌, ◌≤◌, ◌<◌}
use native.Mathlib.Omega.{arith}
use borrow.Author.Tests.{eq-eqb}
use mathlib.Core.Path.{◌≡◌, refl, sym, ap, ap₂, ◌∙◌}
use mathlib.Core.Logic.{◌≢◌}
use mathlib.Core.Bool.{Bool, true, false, ◌&&◌}
use mathlib.Core.List.{List, [], ◌∷◌, ◌++◌}
use lib.Dec.{eqb}
use lib.Pointwise.{pointwise}
use Rattle.std.specs.Int.{w64, from_le_bytes}
use lib.ListN.{length, take, drop, get_or, length-take, length-drop, get_or-eq_default}
use lib.Seq.{get_or-take, get_or-drop, take-append-add}
use Rattle.sheet.specs.Bytes.{byte, word, bytes}
use Rattle.sheet_laws.specs.Fits.{Word}
use Rattle.sheet_laws.specs.Plan.{Bytes}
use Rattle.sheet_laws.proofs.Plan.{word_bound}
use Rattle.sheet_laws.specs.Bytes.{word_next}
use Rattle.compact.specs.Strings.{same}
use Rattle.compact.proofs.StringLaws.{same_true}
use Rattle.gather.specs.Gather.{stretch, eight, mark_of, Begins}

-- ---- a byte of a stretch

pub length_stretch : (s : List ℕ) (at n : ℕ) → at + n ≤ length s → length (stretch s at n) ≡ n
length_stretch s at n h = omega (arith, length-take n (drop at s), length-drop at s)

pub byte_in : (s : List ℕ) (at n i : ℕ) → i < n → get_or s (at + i) 0 ≡ byte (stretch s at n) i
byte_in s at n i h = sym (get_or-take n (drop at s) i 0 h ∙ get_or-drop at s i 0)

pub byte_behind : (s : List ℕ) (at n i : ℕ) → at + n ≤ length s → n ≤ i → 0 ≡ byte (stretch s at n) i
byte_behind s at n i h l = sym (get_or-eq_default (stretch s at n) 0 (omega (arith, length_stretch s at n h)))

-- Eight bytes as one number, if they are those that a string begins with, and zeros behind it.
pub mark_is : (t : List ℕ) {b0 b1 b2 b3 b4 b5 b6 b7 : ℕ}
    → b0 ≡ byte t 0 → b1 ≡ byte t 1 → b2 ≡ byte t 2 → b3 ≡ byte t 3 → b4 ≡ byte t 4 → b5 ≡ byte t 5 → b6 ≡ byte t 6 → b7 ≡ byte t 7
    → from_le_bytes w64 (b0 ∷ b1 ∷ b2 ∷ b3 ∷ b4 ∷ b5 ∷ b6 ∷ b7 ∷ []) ≡ mark_of t
unfolding word
mark_is t e0 e1 e2 e3 e4 e5 e6 e7 = omega arith

-- ---- comparing

-- What is left to compare behind i bytes that are alike.
pub record Rest (s : List ℕ) (a b n i : ℕ) : Type 0 where
  pub within : i ≤ n
  pub is : same (stretch s a n) (stretch s b n) ≡ same (stretch s (a + i) (n - i)) (stretch s (b + i) (n - i))

pub rest_start : (s : List ℕ) (a b n : ℕ) → Rest s a b n 0
rest_start s a b n =
    let p : a ≡ a + 0 = omega arith in
    let q : b ≡ b + 0 = omega arith in
    let r : n ≡ n - 0 = omega arith in
    record { within = omega arith; is = ap₂ (λ (x y : ℕ). same (stretch s x n) (stretch s y n)) p q ∙ ap (λ (m : ℕ). same (stretch s (a + 0) m) (stretch s (b + 0) m)) r }

same_behind : (ks xs ys : List ℕ) → same (ks ++ xs) (ks ++ ys) ≡ same xs ys
same_behind [] xs ys = refl
same_behind (k ∷ ks) xs ys = ap (λ (t : Bool). t && same (ks ++ xs) (ks ++ ys)) (eq-eqb k k refl) ∙ same_behind ks xs ys

-- four bytes that are alike
same_four : (s : List ℕ) → Bytes s → (p q m : ℕ) → p + 4 ≤ length s → q + 4 ≤ length s → word s p ≡ word s q
    → same (stretch s p (4 + m)) (stretch s q (4 + m)) ≡ same (stretch s (p + 4) m) (stretch s (q + 4) m)
unfolding bytes
same_four s b p q m h k e =
    let x = word_next s b p (p + 4) refl h in
    let y = word_next s b q (q + 4) refl k in
    ap₂ (λ (u v : List ℕ). same (take (4 + m) u) (take (4 + m) v)) x y
    ∙ ap (λ (w : ℕ). same (take (4 + m) (bytes w ++ drop (p + 4) s)) (take (4 + m) (bytes (word s q) ++ drop (q + 4) s))) e
    ∙ ap₂ same (take-append-add (bytes (word s q)) (drop (p + 4) s) m) (take-append-add (bytes (word s q)) (drop (q + 4) s) m)
    ∙ same_behind (bytes (word s q)) (stretch s (p + 4) m) (stretch s (q + 4) m)

halves : (a b c d : ℕ) → Word a → Word c → a + 4294967296 * b ≡ c + 4294967296 * d → (a ≡ c) × (b ≡ d)
halves a b c d p q e = (omega arith, omega arith)

pub rest_eight : (s : List ℕ) → Bytes s → (a b n i : ℕ) → a + n ≤ length s → b + n ≤ length s → i + 8 ≤ n → Rest s a b n i → eight s (a + i) ≡ eight s (b + i) → Rest s a b n (i + 8)
rest_eight s bs a b n i h k l r e =
    let p = a + i in
    let q = b + i in
    let m = n - (i + 8) in
    let w = halves (word s p) (word s (p + 4)) (word s q) (word s (q + 4)) (word_bound s bs p) (word_bound s bs q) e in
    let split : n - i ≡ 4 + (4 + m) = omega arith in
    let pe : p + 4 + 4 ≡ a + (i + 8) = omega arith in
    let qe : q + 4 + 4 ≡ b + (i + 8) = omega arith in
    record {
      within = l;
      is = r.is ∙ ap (λ (j : ℕ). same (stretch s p j) (stretch s q j)) split
          ∙ same_four s bs p q (4 + m) (omega arith) (omega arith) w.0
          ∙ same_four s bs (p + 4) (q + 4) m (omega arith) (omega arith) w.1
          ∙ ap₂ (λ (x y : ℕ). same (stretch s x m) (stretch s y m)) pe qe;
    }

-- The library compares byte by byte.
pointwise_same : (xs ys : List ℕ) → pointwise eqb xs ys ≡ same xs ys
pointwise_same [] [] = refl
pointwise_same [] (y ∷ ys) = refl
pointwise_same (x ∷ xs) [] = refl
pointwise_same (x ∷ xs) (y ∷ ys) = ap (λ (t : Bool). eqb x y && t) (pointwise_same xs ys)

pub rest_same : (s : List ℕ) (a b n i : ℕ) → Rest s a b n i
    → pointwise eqb (take (a + n - (a + i)) (drop (a + i) s)) (take (b + n - (b + i)) (drop (b + i) s)) ≡ same (stretch s a n) (stretch s b n)
rest_same s a b n i r =
    let p : a + n - (a + i) ≡ n - i = omega arith in
    let q : b + n - (b + i) ≡ n - i = omega arith in
    pointwise_same (take (a + n - (a + i)) (drop (a + i) s)) (take (b + n - (b + i)) (drop (b + i) s))
    ∙ ap₂ (λ (x y : ℕ). same (stretch s (a + i) x) (stretch s (b + i) y)) p q ∙ sym r.is

-- ---- strings that differ

pub same_marks : (t u : List ℕ) → mark_of t ≢ mark_of u → false ≡ same t u
same_marks t u ne = go (same t u) refl
  where
    go : (b : Bool) → same t u ≡ b → false ≡ b
    go true e = absurd (ne (ap mark_of (same_true t u e)))
    go false e = refl

pub same_lengths : (t u : List ℕ) → length t ≢ length u → false ≡ same t u
same_lengths t u ne = go (same t u) refl
  where
    go : (b : Bool) → same t u ≡ b → false ≡ b
    go true e = absurd (ne (ap length (same_true t u e)))
    go false e = refl

-- ---- eight bytes that differ

word_in : (s : List ℕ) (a n k : ℕ) → k + 4 ≤ n → word (stretch s a n) k ≡ word s (a + k)
unfolding word
word_in s a n k h =
    let p1 : a + (k + 1) ≡ a + k + 1 = omega arith in
    let p2 : a + (k + 2) ≡ a + k + 2 = omega arith in
    let p3 : a + (k + 3) ≡ a + k + 3 = omega arith in
    let b0 = byte_in s a n k (omega arith) in
    let b1 = ap (byte s) (sym p1) ∙ byte_in s a n (k + 1) (omega arith) in
    let b2 = ap (byte s) (sym p2) ∙ byte_in s a n (k + 2) (omega arith) in
    let b3 = ap (byte s) (sym p3) ∙ byte_in s a n (k + 3) (omega arith) in
    cc

eight_in : (s : List ℕ) (a n k : ℕ) → k + 8 ≤ n → eight (stretch s a n) k ≡ eight s (a + k)
eight_in s a n k h =
    let p : a + (k + 4) ≡ a + k + 4 = omega arith in
    ap₂ (λ (x y : ℕ). x + 4294967296 * y) (word_in s a n k (omega arith)) (word_in s a n (k + 4) (omega arith) ∙ ap (word s) p)

pub eights_differ : (s : List ℕ) (a b n k : ℕ) → k + 8 ≤ n → eight s (a + k) ≢ eight s (b + k) → false ≡ same (stretch s a n) (stretch s b n)
eights_differ s a b n k h ne = go (same (stretch s a n) (stretch s b n)) refl
  where
    go : (t : Bool) → same (stretch s a n) (stretch s b n) ≡ t → false ≡ t
    go true e = absurd (ne (sym (eight_in s a n k h) ∙ (ap (λ (l : List ℕ). eight l k) (same_true (stretch s a n) (stretch s b n) e) ∙ eight_in s b n k h)))
    go false e = refl

pub rest_begins : {s : List ℕ} {a b n r : ℕ} → Begins s a b n r → Rest s a b n r
rest_begins x = record { within = x.within; is = x.rest }
