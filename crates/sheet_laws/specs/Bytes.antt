-- Numbers as bytes, and back.
use Rattle.std.specs.Prelude.{ℕ, suc, ◌+◌, ◌*◌, ◌/◌, ◌%◌, ◌≤◌, ◌<◌, ◌≡◌, length}
use Rattle.std.proofs.Math.Nat.{mod-add-div, div-div-eq-div-mul}
use Rattle.std.proofs.Common.{mod-eq_of_lt, div-lt_iff_lt-mul, arith, ◌∙◌, drop-cons, get_or-append-add}
use Rattle.std.proofs.Math.Path.{refl, sym, ap}
use mathlib.Core.List.{List, [], ◌∷◌, ◌++◌}
use Rattle.std.proofs.Math.ListN.{drop}
use Rattle.sheet.specs.Bytes.{byte, half, word, bytes}
use Rattle.sheet.specs.Cell.{Cell, cell_from}
use Rattle.sheet.specs.Write.{cell_bytes}
use Rattle.sheet_laws.specs.Fits.{Word}
use Rattle.sheet_laws.specs.Content.{Words, low_part, high_part}
use Rattle.sheet_laws.specs.Plan.{Bytes}

-- ---- from bytes to a number and back to them

pub bytes_of_digits : (x y z w : ℕ) → x < 256 → y < 256 → z < 256 → w < 256 → bytes (x + 256 * y + 65536 * z + 16777216 * w) ≡ x ∷ y ∷ z ∷ w ∷ []
unfolding bytes
bytes_of_digits x y z w p q r t =
    let n = x + 256 * y + 65536 * z + 16777216 * w in
    let e : n ≡ x + 256 * (y + 256 * (z + 256 * w)) = omega arith in
    let one : n / 256 ≡ y + 256 * (z + 256 * w) = ap (λ (m : ℕ). m / 256) e ∙ high_part 256 x (y + 256 * (z + 256 * w)) p in
    let two : n / 65536 ≡ z + 256 * w = sym (div-div-eq-div-mul n 256 256) ∙ ap (λ (m : ℕ). m / 256) one ∙ high_part 256 y (z + 256 * w) q in
    let three : n / 16777216 ≡ w = sym (div-div-eq-div-mul n 65536 256) ∙ ap (λ (m : ℕ). m / 256) two ∙ high_part 256 z w r in
    let a : n % 256 ≡ x = ap (λ (m : ℕ). m % 256) e ∙ low_part 256 x (y + 256 * (z + 256 * w)) p in
    let b : n / 256 % 256 ≡ y = ap (λ (m : ℕ). m % 256) one ∙ low_part 256 y (z + 256 * w) q in
    let c : n / 65536 % 256 ≡ z = ap (λ (m : ℕ). m % 256) two ∙ low_part 256 z w r in
    let d : n / 16777216 % 256 ≡ w = ap (λ (m : ℕ). m % 256) three ∙ mod-eq_of_lt t in
    rw (a, b, c, d)

pub next : (s : List ℕ) (i j : ℕ) → j ≡ i + 1 → i < length s → drop i s ≡ byte s i ∷ drop j s
next s i j e h = let f : j ≡ suc i = omega arith in rw f (drop-cons s i 0 h)

module _ (s : List ℕ) (b : Bytes s) where
  -- the next 4 bytes, and the next 16, are those of the number and of the cell that stand there
  pub word_next : (i j : ℕ) → j ≡ i + 4 → j ≤ length s → drop i s ≡ bytes (word s i) ++ drop j s
  unfolding word
  word_next i j e h =
      let d = bytes_of_digits (byte s i) (byte s (i + 1)) (byte s (i + 2)) (byte s (i + 3)) (b i) (b (i + 1)) (b (i + 2)) (b (i + 3)) in
      (next s i (i + 1) refl (omega arith)
      ∙ ap (λ (l : List ℕ). byte s i ∷ l) (next s (i + 1) (i + 2) (omega arith) (omega arith)
      ∙ ap (λ (l : List ℕ). byte s (i + 1) ∷ l) (next s (i + 2) (i + 3) (omega arith) (omega arith)
      ∙ ap (λ (l : List ℕ). byte s (i + 2) ∷ l) (next s (i + 3) j (omega arith) (omega arith)))))
      ∙ sym (ap (λ (l : List ℕ). l ++ drop j s) d)

  pub cell_next : (i j : ℕ) → j ≡ i + 16 → j ≤ length s → drop i s ≡ cell_bytes (cell_from s i) ++ drop j s
  unfolding cell_bytes half
  cell_next i j e h =
      let two = i + 2 in
      let z : half s two % 256 ≡ byte s two = low_part 256 (byte s two) (byte s (two + 1)) (b two) in
      let y : half s two / 256 ≡ byte s (two + 1) = high_part 256 (byte s two) (byte s (two + 1)) (b two) in
      next s i (i + 1) refl (omega arith)
      ∙ ap (λ (l : List ℕ). byte s i ∷ l) (next s (i + 1) (i + 2) (omega arith) (omega arith)
      ∙ ap (λ (l : List ℕ). byte s (i + 1) ∷ l) (next s (i + 2) (i + 2 + 1) (omega arith) (omega arith)
      ∙ ap (λ (l : List ℕ). byte s (i + 2) ∷ l) (next s (i + 2 + 1) (i + 4) (omega arith) (omega arith)
      ∙ ap (λ (l : List ℕ). byte s (i + 2 + 1) ∷ l) (word_next (i + 4) (i + 8) (omega arith) (omega arith)
      ∙ ap (λ (l : List ℕ). bytes (word s (i + 4)) ++ l) (word_next (i + 8) (i + 12) (omega arith) (omega arith)
      ∙ ap (λ (l : List ℕ). bytes (word s (i + 8)) ++ l) (word_next (i + 12) j (omega arith) (omega arith)))))))
      ∙ rw (z, y)

-- ---- from a number to bytes and back to it

pub digits : (w : ℕ) → Word w → w % 256 + 256 * (w / 256 % 256) + 65536 * (w / 65536 % 256) + 16777216 * (w / 16777216 % 256) ≡ w
digits w h =
    let a = mod-add-div w 256 in
    let b = mod-add-div (w / 256) 256 in
    let c = mod-add-div (w / 65536) 256 in
    let d = mod-add-div (w / 16777216) 256 in
    let two : w / 256 / 256 ≡ w / 65536 = div-div-eq-div-mul w 256 256 in
    let three : w / 65536 / 256 ≡ w / 16777216 = div-div-eq-div-mul w 65536 256 in
    let e : w / 16777216 < 256 = (div-lt_iff_lt-mul {k = 16777216} {x = w} {y = 256} (omega arith)).1 h in
    let f : w / 16777216 % 256 ≡ w / 16777216 = mod-eq_of_lt e in
    omega arith

-- what stands behind xs, and what stands in xs
pub byte_after : (xs ys : List ℕ) (p i : ℕ) → p ≡ length xs + i → byte (xs ++ ys) p ≡ byte ys i
byte_after xs ys p i e = rw e (get_or-append-add xs ys i 0)

pub half_after : (xs ys : List ℕ) (p i : ℕ) → p ≡ length xs + i → half (xs ++ ys) p ≡ half ys i
unfolding half
half_after xs ys p i e = cc (byte_after xs ys p i e, byte_after xs ys (p + 1) (i + 1) (omega arith))

pub word_after : (xs ys : List ℕ) (p i : ℕ) → p ≡ length xs + i → word (xs ++ ys) p ≡ word ys i
unfolding word
word_after xs ys p i e =
    cc (byte_after xs ys p i e, byte_after xs ys (p + 1) (i + 1) (omega arith), byte_after xs ys (p + 2) (i + 2) (omega arith), byte_after xs ys (p + 3) (i + 3) (omega arith))

pub word_of_bytes : (w : ℕ) (ys : List ℕ) → Word w → word (bytes w ++ ys) 0 ≡ w
unfolding word bytes
word_of_bytes w ys h = digits w h

-- the number written behind xs
pub word_written : (xs : List ℕ) (w : ℕ) (ys : List ℕ) (p : ℕ) → p ≡ length xs → Word w → word (xs ++ (bytes w ++ ys)) p ≡ w
word_written xs w ys p e h = word_after xs (bytes w ++ ys) p 0 (omega arith) ∙ word_of_bytes w ys h

pub length_cell_bytes : (k : Cell) → length (cell_bytes k) ≡ 16
unfolding cell_bytes
length_cell_bytes k = refl

same_cell : (c d : Cell) → c.tag ≡ d.tag → c.flag ≡ d.flag → c.origin ≡ d.origin → c.a ≡ d.a → c.b ≡ d.b → c.c ≡ d.c → c ≡ d
same_cell c d p q r s t u =
    let e : ◌≡◌ {A = Cell} (record { tag = c.tag; flag = c.flag; origin = c.origin; a = c.a; b = c.b; c = c.c })
    (record { tag = d.tag; flag = d.flag; origin = d.origin; a = d.a; b = d.b; c = d.c }) = cc in
    e

-- the cell written behind xs
pub cell_written : (xs : List ℕ) (k : Cell) (ys : List ℕ) (p : ℕ) → p ≡ length xs → Words k → cell_from (xs ++ (cell_bytes k ++ ys)) p ≡ k
unfolding cell_bytes half word bytes
cell_written xs k ys p e w =
    let zs = cell_bytes k ++ ys in
    same_cell (cell_from (xs ++ zs) p) k (byte_after xs zs p 0 (omega arith)) (byte_after xs zs (p + 1) 1 (omega arith))
    (half_after xs zs (p + 2) 2 (omega arith) ∙ mod-add-div k.origin 256)
    (word_after xs zs (p + 4) 4 (omega arith) ∙ digits k.a w.a_word)
    (word_after xs zs (p + 8) 8 (omega arith) ∙ digits k.b w.b_word)
    (word_after xs zs (p + 12) 12 (omega arith) ∙ digits k.c w.c_word)
