-- Laws on what is written into a list, one piece after the other.
-- Assumes nothing.
use Prim.Native.Nat.{ℕ, ◌+◌, ◌*◌, ◌/◌, ◌%◌, ◌≤◌, ◌<◌}
use native.Mathlib.Omega.{arith}
use native.Mathlib.Nat.{mod-lt, mod-add-div}
use mathlib.Core.Path.{◌≡◌, refl, sym, ap, ◌∙◌}
use mathlib.Core.List.{List, [], ◌∷◌, ◌++◌, append_assoc}
use lib.ListN.{length, take, drop, length-append, take-append-drop}
use lib.Seq.{length-take-le, take_at, drop-append-add, drop-drop}
use Rattle.sheet.specs.Bytes.{bytes}
use Rattle.sheet.specs.Write.{cell_bytes}
use Rattle.sheet_laws.specs.Bytes.{bytes_of_digits}
use Rattle.std.specs.Int.{w64, to_le_bytes}
use Rattle.cells.specs.declared.Cell.{Cell}
use Rattle.encode.specs.Encode.{written, as_cell, Small, trailer_at}

pub written_none : (d : List ℕ) (at : ℕ) → d ≡ written d at []
written_none d at =
    let e : at + 0 ≡ at = omega arith in
    rw e (sym (take-append-drop at d))

-- one piece, and one more behind it
pub chain : (d : List ℕ) (at : ℕ) {m : ℕ} (v w : List ℕ) {d₁ d₂ : List ℕ} → at ≤ length d → m ≡ at + length v → d₁ ≡ written d at v → d₂ ≡ written d₁ m w
    → d₂ ≡ written d at (v ++ w)
chain d at {m} v w {d₁} {d₂} h e p q =
    let front = take at d ++ v in
    let back = drop (at + length v) d in
    let is : d₁ ≡ front ++ back = p ∙ sym (append_assoc (take at d) v back) in
    let long : length front ≡ m = length-append (take at d) v ∙ ap (λ (n : ℕ). n + length v) (length-take-le at d h) ∙ sym e in
    let low : take m d₁ ≡ front = ap (take m) is ∙ take_at front back m long in
    let far : m + length w ≡ length front + length w = ap (λ (n : ℕ). n + length w) (sym long) in
    let end : at + length v + length w ≡ at + length (v ++ w) = omega (arith, length-append v w) in
    let high : drop (m + length w) d₁ ≡ drop (at + length (v ++ w)) d =
    ap (λ (n : ℕ). drop n d₁) far ∙ ap (drop (length front + length w)) is ∙ drop-append-add front back (length w)
    ∙ drop-drop (length w) (at + length v) d ∙ ap (λ (n : ℕ). drop n d) end in
    q ∙ ap (λ (l : List ℕ). l ++ (w ++ drop (m + length w) d₁)) low ∙ ap (λ (l : List ℕ). front ++ (w ++ l)) high ∙ simp append_assoc

-- The low half of what the library writes of a number.
pub low_bytes : (w : ℕ) → take 4 (to_le_bytes w64 w) ≡ bytes w
unfolding bytes
low_bytes w = refl

-- The same where the number is given in other words.
pub low_bytes_at : {m : ℕ} {v : List ℕ} (w : ℕ) → v ≡ to_le_bytes w64 m → m ≡ w → take 4 v ≡ bytes w
low_bytes_at {m} w e f = ap (take 4) e ∙ (low_bytes m ∙ ap bytes f)

pub length_bytes : (w : ℕ) → length (bytes w) ≡ 4
unfolding bytes
length_bytes w = refl

-- two numbers, one after the other
two : (d : List ℕ) (at m : ℕ) (v : List ℕ) (k w : ℕ) {d₁ d₂ : List ℕ} → at + 4 ≤ length d → length v ≡ k → m ≡ at + k → d₁ ≡ written d at v → d₂ ≡ written d₁ m (bytes w)
    → (length (v ++ bytes w) ≡ k + 4) × (d₂ ≡ written d at (v ++ bytes w))
two d at m v k w h l e p q =
    let f : m ≡ at + length v = omega arith in
    let g : length (v ++ bytes w) ≡ k + 4 = omega (arith, length-append v (bytes w), length_bytes w) in
    (g, chain d at v (bytes w) (omega arith) f p q)

-- the head of a cell
head : (t f og : ℕ) → t < 256 → f < 256 → og < 65536 → bytes (t + 256 * f + 65536 * og) ≡ t ∷ f ∷ og % 256 ∷ og / 256 ∷ []
head t f og h k j =
    let d = mod-add-div og 256 in
    let l = mod-lt og {m = 256} (omega arith) in
    let e : t + 256 * f + 65536 * og ≡ t + 256 * f + 65536 * (og % 256) + 16777216 * (og / 256) = omega arith in
    ap bytes e ∙ bytes_of_digits t f (og % 256) (og / 256) h k l (omega arith)

cell_is : (k : Cell) → cell_bytes (as_cell k) ≡ k.tag ∷ k.flag ∷ k.origin % 256 ∷ k.origin / 256 ∷ (bytes k.a ++ (bytes k.b ++ bytes k.c))
unfolding cell_bytes
cell_is k = refl

pub cell_put : (d : List ℕ) (at : ℕ) (k : Cell) {a b c r : ℕ} {d₁ d₂ d₃ d₄ : List ℕ} → at + 16 ≤ length d → Small (as_cell k)
    → (a ≡ at + 4) × (d₁ ≡ written d at (bytes (k.tag + 256 * k.flag + 65536 * k.origin)))
    → (b ≡ a + 4) × (d₂ ≡ written d₁ a (bytes k.a))
    → (c ≡ b + 4) × (d₃ ≡ written d₂ b (bytes k.b))
    → (r ≡ c + 4) × (d₄ ≡ written d₃ c (bytes k.c))
    → (r ≡ at + 16) × (d₄ ≡ written d at (cell_bytes (as_cell k)))
cell_put d at k {a = a} {b = b} {c = c} room small (ea, p) (eb, q) (ec, s) (er, t) =
    let w = bytes (k.tag + 256 * k.flag + 65536 * k.origin) in
    let (l1, x1) = two d at a w 4 k.a (omega arith) (length_bytes (k.tag + 256 * k.flag + 65536 * k.origin)) ea p q in
    let (l2, x2) = two d at b (w ++ bytes k.a) 8 k.b (omega arith) l1 (omega arith) x1 s in
    let (l3, x3) = two d at c ((w ++ bytes k.a) ++ bytes k.b) 12 k.c (omega arith) l2 (omega arith) x2 t in
    let e : ((w ++ bytes k.a) ++ bytes k.b) ++ bytes k.c ≡ cell_bytes (as_cell k) =
    ap (λ (l : List ℕ). ((l ++ bytes k.a) ++ bytes k.b) ++ bytes k.c) (head k.tag k.flag k.origin small.tag small.flag small.origin)
    ∙ ap (λ (l : List ℕ). k.tag ∷ k.flag ∷ k.origin % 256 ∷ k.origin / 256 ∷ l) (append_assoc (bytes k.a) (bytes k.b) (bytes k.c)) ∙ sym (cell_is k) in
    (omega arith, x3 ∙ ap (written d at) e)

pub trailer_put : (d : List ℕ) (at tables columns cells edition : ℕ) {a b c e r : ℕ} {d₁ d₂ d₃ d₄ d₅ : List ℕ} → at + 20 ≤ length d
    → (a ≡ at + 4) × (d₁ ≡ written d at (bytes tables))
    → (b ≡ a + 4) × (d₂ ≡ written d₁ a (bytes columns))
    → (c ≡ b + 4) × (d₃ ≡ written d₂ b (bytes cells))
    → (e ≡ c + 4) × (d₄ ≡ written d₃ c (bytes edition))
    → (r ≡ e + 4) × (d₅ ≡ written d₄ e (bytes (e + 4)))
    → (r ≡ at + 20) × (d₅ ≡ written d at (trailer_at tables columns cells edition (at + 20)))
trailer_put d at tables columns cells edition {a = a} {b = b} {c = c} {e = e} room (ea, x) (eb, y) (ec, z) (ee, s) (er, t) =
    let w = bytes tables in
    let v = bytes columns in
    let u = bytes cells in
    let (l1, x1) = two d at a w 4 columns (omega arith) (length_bytes tables) ea x y in
    let (l2, x2) = two d at b (w ++ v) 8 cells (omega arith) l1 (omega arith) x1 z in
    let (l3, x3) = two d at c ((w ++ v) ++ u) 12 edition (omega arith) l2 (omega arith) x2 s in
    let (l4, x4) = two d at e (((w ++ v) ++ u) ++ bytes edition) 16 (e + 4) (omega arith) l3 (omega arith) x3 t in
    let total : e + 4 ≡ at + 20 = omega arith in
    let f : (((w ++ v) ++ u) ++ bytes edition) ++ bytes (e + 4) ≡ trailer_at tables columns cells edition (at + 20) = rw total (simp append_assoc) in
    (omega arith, x4 ∙ ap (written d at) f)
