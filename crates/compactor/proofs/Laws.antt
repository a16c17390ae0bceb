-- Laws on what is written: bytes copied, strings, records and cells one after the other.
-- Assumes nothing.
use Prim.Native.Nat.{ℕ, zero, suc, ◌+◌, ◌*◌, ◌/◌, ◌%◌, ◌≤◌, ◌<◌}
use native.Mathlib.Omega.{arith}
use native.Mathlib.Numerals.{add-one}
use mathlib.Core.Path.{◌≡◌, refl, sym, ap, ap₂, ◌∙◌}
use mathlib.Core.Bool.{Bool, true, false}
use mathlib.Core.List.{List, [], ◌∷◌, ◌++◌, map, append_assoc, append-nil}
use lib.ListN.{length, take, drop, get_or, length-append, take-append-drop}
use lib.Seq.{take-suc, get_or-drop, drop-drop}
use Rattle.value.specs.Meaning.{bytes_at}
use Rattle.sheet.specs.Bytes.{byte, word, bytes}
use Rattle.sheet.specs.Cell.{cell_from, tag_of}
use Rattle.sheet_laws.specs.Plan.{Bytes}
use Rattle.sheet_laws.specs.Bytes.{word_next}
use Rattle.compact.specs.Strings.{joined}
use Rattle.compact.specs.Slots.{Slot, number, reference, references, redirect, record_slots, cell_slots, in_each, slot_bytes}
use Rattle.compact.proofs.Blocks.{slot_bytes_append, length_slot_bytes, map_append}
use Rattle.layout.specs.Layout.{IsCell}
use Rattle.layout.specs.declared.Cell as Code
use Rattle.encode.specs.Encode.{written}
use Rattle.encode.proofs.Written.{written_none, chain, length_bytes}
use Rattle.gather.specs.Gather.{stretch, held, Inside}
use Rattle.gather.proofs.Laws.{length_stretch}
use Rattle.gather.specs.declared.Kept.{Kept}
use Rattle.gather.proofs.Strings.{nothing}
use Rattle.text_references.specs.Asks.{asks_a, asks_b, if_refers, slot_of, Fields}
use Rattle.text_references.specs.declared.Slot as Field
use Rattle.text_references.specs.declared.Slot.TheVariants as Variants
use Rattle.text_references.proofs.Laws.{references_append, in_each_last, cell_slots_are, fields_from}
use Rattle.compactor.specs.Compactor.{fill}

-- ---- strings

joined_last : (ks : List (List ℕ)) (t : List ℕ) → joined (ks ++ (t ∷ [])) ≡ joined ks ++ t
joined_last [] t = append-nil t
joined_last (k ∷ ks) t = ap (λ (l : List ℕ). k ++ l) (joined_last ks t) ∙ sym (append_assoc k (joined ks) t)

joined_append : (ks ls : List (List ℕ)) → joined (ks ++ ls) ≡ joined ks ++ joined ls
joined_append [] ls = refl
joined_append (k ∷ ks) ls = ap (λ (l : List ℕ). k ++ l) (joined_append ks ls) ∙ sym (append_assoc k (joined ks) (joined ls))

held_last : (s : List ℕ) (ks : List Kept) (j : ℕ) → j < length ks → held s (take (j + 1) ks) ≡ held s (take j ks) ++ (bytes_at s (get_or ks j nothing).reference ∷ [])
held_last s ks j h =
    ap (λ (k : ℕ). held s (take k ks)) (add-one j) ∙ ap (held s) (take-suc ks j nothing h)
    ∙ map_append (λ (k : Kept). bytes_at s k.reference) (take j ks) (get_or ks j nothing ∷ [])

next_joined : (s : List ℕ) (ks : List Kept) (j : ℕ) → j < length ks → joined (held s (take (j + 1) ks)) ≡ joined (held s (take j ks)) ++ bytes_at s (get_or ks j nothing).reference
next_joined s ks j h = ap joined (held_last s ks j h) ∙ joined_last (held s (take j ks)) (bytes_at s (get_or ks j nothing).reference)

-- Room for the next string.
pub text_room : (s : List ℕ) (ks : List Kept) (j : ℕ) → j < length ks → Inside s (get_or ks j nothing).reference
    → length (joined (held s (take j ks))) + (get_or ks j nothing).reference / 65536 ≤ length (joined (held s ks))
text_room s ks j l i =
    let r = (get_or ks j nothing).reference in
    let split : joined (held s ks) ≡ joined (held s (take (j + 1) ks)) ++ joined (held s (drop (j + 1) ks)) =
    ap (λ (x : List Kept). joined (held s x)) (sym (take-append-drop (j + 1) ks))
    ∙ ap joined (map_append (λ (k : Kept). bytes_at s k.reference) (take (j + 1) ks) (drop (j + 1) ks)) ∙ joined_append (held s (take (j + 1) ks)) (held s (drop (j + 1) ks)) in
    omega (
      arith,
      ap length split,
      length-append (joined (held s (take (j + 1) ks))) (joined (held s (drop (j + 1) ks))),
      ap length (next_joined s ks j l),
      length-append (joined (held s (take j ks))) (bytes_at s r),
      length_stretch s (r % 65536) (r / 65536) i.within,
    )

pub text_on : (s : List ℕ) (ks : List Kept) (d₀ d d' : List ℕ) (j to r : ℕ) → j < length ks → Inside s (get_or ks j nothing).reference
    → to ≡ length (joined (held s (take j ks))) → d ≡ written d₀ 0 (joined (held s (take j ks)))
    → (r ≡ to + (get_or ks j nothing).reference / 65536) × (d' ≡ written d to (bytes_at s (get_or ks j nothing).reference))
    → (r ≡ length (joined (held s (take (j + 1) ks)))) × (d' ≡ written d₀ 0 (joined (held s (take (j + 1) ks))))
text_on s ks d₀ d d' j to r l i e w x =
    let v = (get_or ks j nothing).reference in
    let t = bytes_at s v in
    let k = next_joined s ks j l in (
      omega (arith, x.0, e, ap length k, length-append (joined (held s (take j ks))) t, length_stretch s (v % 65536) (v / 65536) i.within),
      chain d₀ 0 (joined (held s (take j ks))) t (omega arith) (e ∙ omega arith) w x.1 ∙ ap (written d₀ 0) (sym k),
    )

-- ---- words

three_words : (s : List ℕ) → Bytes s → (q : ℕ) → q + 12 ≤ length s → stretch s q 12 ≡ bytes (word s q) ++ (bytes (word s (q + 4)) ++ bytes (word s (q + 8)))
unfolding bytes
three_words s b q h =
    ap (take 12) (word_next s b q (q + 4) refl (omega arith)
    ∙ ap (λ (l : List ℕ). bytes (word s q) ++ l) (word_next s b (q + 4) (q + 8) (omega arith) (omega arith)
    ∙ ap (λ (l : List ℕ). bytes (word s (q + 4)) ++ l) (word_next s b (q + 8) (q + 12) (omega arith) (omega arith))))

pub one_word : (s : List ℕ) → Bytes s → (q : ℕ) → q + 4 ≤ length s → stretch s q 4 ≡ bytes (word s q)
unfolding bytes
one_word s b q h = ap (take 4) (word_next s b q (q + 4) refl h)

pub record_put : (s : List ℕ) → Bytes s → (p w at : ℕ) (d d₁ d₂ : List ℕ) {a r : ℕ} → p + 16 ≤ length s → at + 16 ≤ length d
    → (a ≡ at + 4) × (d₁ ≡ written d at (bytes w)) → (r ≡ a + 12) × (d₂ ≡ written d₁ a (stretch s (p + 4) 12))
    → (r ≡ at + 16) × (d₂ ≡ written d at (slot_bytes (fill (record_slots s p) (w ∷ []))))
unfolding slot_bytes
record_put s b p w at d d₁ d₂ {a = a} h room x y =
    let p8 : p + 4 + 4 ≡ p + 8 = omega arith in
    let p12 : p + 4 + 8 ≡ p + 12 = omega arith in
    let e : stretch s (p + 4) 12 ≡ bytes (word s (p + 4)) ++ (bytes (word s (p + 8)) ++ (bytes (word s (p + 12)) ++ [])) =
    three_words s b (p + 4) (omega arith) ∙ ap₂ (λ (i j : ℕ). bytes (word s (p + 4)) ++ (bytes (word s i) ++ bytes (word s j))) p8 p12
    ∙ ap (λ (l : List ℕ). bytes (word s (p + 4)) ++ (bytes (word s (p + 8)) ++ l)) (sym (append-nil (bytes (word s (p + 12))))) in
    (omega (arith, x.0, y.0), chain d at {m = a} (bytes w) (stretch s (p + 4) 12) (omega arith) (omega (arith, x.0, length_bytes w)) x.1 y.1 ∙ ap (λ (l : List ℕ). written d at (bytes w ++ l)) e)

-- ---- filling

pub fill_append : (xs ys : List Slot) (fs : List ℕ) → fill (xs ++ ys) fs ≡ fill xs fs ++ fill ys (drop (length (references xs)) fs)
fill_append [] ys fs = refl
fill_append (number v ∷ xs) ys fs = ap (λ (l : List Slot). number v ∷ l) (fill_append xs ys fs)
fill_append (reference r ∷ xs) ys fs =
    ap (λ (l : List Slot). reference (get_or fs 0 0) ∷ l) (fill_append xs ys (drop 1 fs) ∙ ap (λ (l : List ℕ). fill xs (drop 1 fs) ++ fill ys l) (drop-drop (length (references xs)) 1 fs ∙ (let e : 1 + length (references xs) ≡ suc (length (references xs)) = omega arith in ap (λ (k : ℕ). drop k fs) e)))

-- References replaced by what a function makes of each: the words with their references put through it.
pub fill_redirect : (f : ℕ → ℕ) (xs : List Slot) (rest : List ℕ) → fill xs (map f (references xs) ++ rest) ≡ map (redirect f) xs
fill_redirect f [] rest = refl
fill_redirect f (number v ∷ xs) rest = ap (λ (l : List Slot). number v ∷ l) (fill_redirect f xs rest)
fill_redirect f (reference r ∷ xs) rest = ap (λ (l : List Slot). reference (f r) ∷ l) (fill_redirect f xs rest)

pub length_fill : (xs : List Slot) (fs : List ℕ) → length (fill xs fs) ≡ length xs
length_fill [] fs = refl
length_fill (number v ∷ xs) fs = ap suc (length_fill xs fs)
length_fill (reference r ∷ xs) fs = ap suc (length_fill xs (drop 1 fs))

-- one piece of filled words behind others
pub filled_then : (d : List ℕ) (at m : ℕ) (xs ys : List Slot) (fs : List ℕ) {d₁ d₂ : List ℕ} → at ≤ length d → m ≡ at + length xs * 4 → d₁ ≡ written d at (slot_bytes (fill xs fs))
    → d₂ ≡ written d₁ m (slot_bytes (fill ys (drop (length (references xs)) fs))) → d₂ ≡ written d at (slot_bytes (fill (xs ++ ys) fs))
filled_then d at m xs ys fs h e p q =
    let l : length (slot_bytes (fill xs fs)) ≡ length xs * 4 = length_slot_bytes (fill xs fs) ∙ ap (λ (k : ℕ). k * 4) (length_fill xs fs) in
    chain d at {m = m} (slot_bytes (fill xs fs)) (slot_bytes (fill ys (drop (length (references xs)) fs))) h (omega (arith, e, l)) p q
    ∙ ap (written d at) (sym (slot_bytes_append (fill xs fs) (fill ys (drop (length (references xs)) fs))) ∙ ap slot_bytes (sym (fill_append xs ys fs)))

record_references : (s : List ℕ) (at n : ℕ) → length (references (in_each (record_slots s) at n)) ≡ n
record_references s at zero = refl
record_references s at (suc n) = ap suc (record_references s (at + 16) n)

length_records : (s : List ℕ) (at n : ℕ) → length (in_each (record_slots s) at n) ≡ n * 4
length_records s at zero = refl
length_records s at (suc n) = omega (arith, length_records s (at + 16) n)

pub records_start : (s fresh d : List ℕ) (from at : ℕ) → d ≡ written d at (slot_bytes (fill (in_each (record_slots s) from 0) fresh))
unfolding slot_bytes
records_start s fresh d from at = written_none d at

pub cells_start : (s fresh d : List ℕ) (from at : ℕ) → d ≡ written d at (slot_bytes (fill (in_each (cell_slots s) from 0) fresh))
unfolding slot_bytes
cells_start s fresh d from at = written_none d at

pub records_on : (s fresh d₀ d d' : List ℕ) (from at i to : ℕ) {r : ℕ} → at ≤ length d₀ → to ≡ at + i * 16 → d ≡ written d₀ at (slot_bytes (fill (in_each (record_slots s) from i) fresh))
    → (r ≡ to + 16) × (d' ≡ written d to (slot_bytes (fill (record_slots s (from + i * 16)) (get_or fresh i 0 ∷ []))))
    → d' ≡ written d₀ at (slot_bytes (fill (in_each (record_slots s) from (i + 1)) fresh))
records_on s fresh d₀ d d' from at i to h te w x =
    let xs = in_each (record_slots s) from i in
    let q = from + i * 16 in
    let n = record_references s from i in
    let z : i ≡ i + 0 = omega arith in
    let g : get_or fresh i 0 ≡ get_or (drop (length (references xs)) fresh) 0 0 = ap (λ (k : ℕ). get_or fresh k 0) z ∙ sym (get_or-drop i fresh 0 0) ∙ ap (λ (k : ℕ). get_or (drop k fresh) 0 0) (sym n) in
    let same : fill (record_slots s q) (get_or fresh i 0 ∷ []) ≡ fill (record_slots s q) (drop (length (references xs)) fresh) =
    ap (λ (v : ℕ). reference v ∷ number (word s (q + 4)) ∷ number (word s (q + 8)) ∷ number (word s (q + 12)) ∷ []) g in
    filled_then d₀ at to xs (record_slots s q) fresh h (omega (arith, te, length_records s from i)) w (x.1 ∙ ap (λ (l : List Slot). written d to (slot_bytes l)) same)
    ∙ ap (λ (l : List Slot). written d₀ at (slot_bytes (fill l fresh))) (sym (in_each_last (record_slots s) from i))

-- ---- a field, a cell

field_reference : (d d₁ fresh : List ℕ) (v j at : ℕ) → d₁ ≡ written d at (bytes (get_or fresh j 0)) → d₁ ≡ written d at (slot_bytes (fill (if_refers true v) (drop j fresh)))
unfolding slot_bytes
field_reference d d₁ fresh v j at e =
    let z : j ≡ j + 0 = omega arith in
    e ∙ ap (written d at) (ap bytes (ap (λ (k : ℕ). get_or fresh k 0) z ∙ sym (get_or-drop j fresh 0 0)) ∙ sym (append-nil (bytes (get_or (drop j fresh) 0 0))))

field_number : (d d₁ fresh : List ℕ) (v j at : ℕ) → d₁ ≡ written d at (bytes v) → d₁ ≡ written d at (slot_bytes (fill (if_refers false v) (drop j fresh)))
unfolding slot_bytes
field_number d d₁ fresh v j at e = e ∙ ap (written d at) (sym (append-nil (bytes v)))

-- A cell's four words, filled, in turn.
pub cell_put : (s : List ℕ) → Bytes s → (p : ℕ) (k : Code.Cell) (fresh d d₁ d₂ d₃ d₄ : List ℕ) (j at : ℕ) {x i m y : ℕ} {a b : Field.Slot} → IsCell (cell_from s p) k
    → Fields k a b → p + 16 ≤ length s → at + 16 ≤ length d
    → (x ≡ at + 4) × (d₁ ≡ written d at (stretch s p 4))
    → (i ≡ j + length (references (slot_of a ∷ []))) × (d₂ ≡ written d₁ x (slot_bytes (fill (slot_of a ∷ []) (drop j fresh))))
    → (m ≡ i + length (references (slot_of b ∷ []))) × (d₃ ≡ written d₂ (x + 4) (slot_bytes (fill (slot_of b ∷ []) (drop i fresh))))
    → (y ≡ x + 8 + 4) × (d₄ ≡ written d₃ (x + 8) (stretch s (p + 12) 4))
    → (m ≡ j + length (references (cell_slots s p))) × (d₄ ≡ written d at (slot_bytes (fill (cell_slots s p) (drop j fresh))))
unfolding slot_bytes
cell_put s bs p k fresh d d₁ d₂ d₃ d₄ j at {x = x} {i = i} {m = m} {a = a} {b = b} c f h room q0 q1 q2 q3 =
    let (fa, fb) = fields_from s p k c f in
    let first = number (word s p) ∷ [] in
    let ra = slot_of a ∷ [] in
    let rb = slot_of b ∷ [] in
    let last = number (word s (p + 12)) ∷ [] in
    let fs = drop j fresh in
    let na = length (references ra) in
    let nb = length (references rb) in
    let all : cell_slots s p ≡ ((first ++ ra) ++ rb) ++ last =
    cell_slots_are s p ∙ ap₂ (λ (u v : List Slot). number (word s p) ∷ (u ++ (v ++ last))) (sym fa) (sym fb) in
    let w0 : d₁ ≡ written d at (slot_bytes (fill first fs)) = q0.1 ∙ ap (written d at) (one_word s bs p (omega arith) ∙ sym (append-nil (bytes (word s p)))) in
    let w1 : d₂ ≡ written d at (slot_bytes (fill (first ++ ra) fs)) = filled_then d at x first ra fs (omega arith) (omega (arith, q0.0)) w0 q1.1 in
    let e1 : drop i fresh ≡ drop (length (references (first ++ ra))) fs = ap (λ (n : ℕ). drop n fresh) q1.0 ∙ sym (drop-drop na j fresh) in
    let w2 : d₃ ≡ written d at (slot_bytes (fill ((first ++ ra) ++ rb) fs)) =
    filled_then d at (x + 4) (first ++ ra) rb fs (omega arith) (omega (arith, q0.0)) w1 (q2.1 ∙ ap (λ (l : List ℕ). written d₂ (x + 4) (slot_bytes (fill rb l))) e1) in
    let w3 : d₄ ≡ written d at (slot_bytes (fill (((first ++ ra) ++ rb) ++ last) fs)) =
    filled_then d at (x + 8) ((first ++ ra) ++ rb) last fs (omega arith) (omega (arith, q0.0)) w2
    (q3.1 ∙ ap (written d₃ (x + 8)) (one_word s bs (p + 12) (omega arith) ∙ sym (append-nil (bytes (word s (p + 12)))))) in
    let n : length (references (((first ++ ra) ++ rb) ++ last)) ≡ na + nb =
    ap length (references_append ((first ++ ra) ++ rb) last ∙ append-nil (references ((first ++ ra) ++ rb)) ∙ references_append (first ++ ra) rb) ∙ length-append (references ra) (references rb) in
    (omega (arith, q1.0, q2.0, n, ap (λ (l : List Slot). length (references l)) all), w3 ∙ ap (λ (l : List Slot). written d at (slot_bytes (fill l fs))) (sym all))

-- A cell has at most two references.
pub field_few : (t : Bool) (v : ℕ) → length (references (if_refers t v)) ≤ 1
field_few true v = omega arith
field_few false v = omega arith

pub cell_few : (s : List ℕ) (p : ℕ) → length (references (cell_slots s p)) ≤ 2
cell_few s p =
    let ra = if_refers (asks_a (tag_of (byte s p)) (byte s (p + 1))) (word s (p + 4)) in
    let rb = if_refers (asks_b (tag_of (byte s p)) (byte s (p + 1))) (word s (p + 8)) in
    let last = number (word s (p + 12)) ∷ [] in
    let n : length (references (cell_slots s p)) ≡ length (references ra) + length (references rb) =
    ap (λ (l : List Slot). length (references l)) (cell_slots_are s p) ∙ ap length (references_append ra (rb ++ last)) ∙ length-append (references ra) (references (rb ++ last))
    ∙ ap (λ (l : List ℕ). length (references ra) + length l) (references_append rb last ∙ append-nil (references rb)) in
    omega (arith, n, field_few (asks_a (tag_of (byte s p)) (byte s (p + 1))) (word s (p + 4)), field_few (asks_b (tag_of (byte s p)) (byte s (p + 1))) (word s (p + 8)))

cell_four : (s : List ℕ) (p : ℕ) → length (cell_slots s p) ≡ 4
cell_four s p = ap length (cell_slots_are s p)

pub length_cells : (s : List ℕ) (at n : ℕ) → length (in_each (cell_slots s) at n) ≡ n * 4
length_cells s at zero = refl
length_cells s at (suc n) = length-append (cell_slots s at) (in_each (cell_slots s) (at + 16) n) ∙ omega (arith, cell_four s at, length_cells s (at + 16) n)

pub cells_on : (s fresh d₀ d d' : List ℕ) (from at i first j : ℕ) {r : ℕ} → at ≤ length d₀
    → j ≡ first + length (references (in_each (cell_slots s) from i)) → d ≡ written d₀ at (slot_bytes (fill (in_each (cell_slots s) from i) (drop first fresh)))
    → (r ≡ j + length (references (cell_slots s (from + i * 16)))) × (d' ≡ written d (at + i * 16) (slot_bytes (fill (cell_slots s (from + i * 16)) (drop j fresh))))
    → (r ≡ first + length (references (in_each (cell_slots s) from (i + 1)))) × (d' ≡ written d₀ at (slot_bytes (fill (in_each (cell_slots s) from (i + 1)) (drop first fresh))))
cells_on s fresh d₀ d d' from at i first j h n w x =
    let xs = in_each (cell_slots s) from i in
    let q = from + i * 16 in
    let e : drop j fresh ≡ drop (length (references xs)) (drop first fresh) = ap (λ (k : ℕ). drop k fresh) n ∙ sym (drop-drop (length (references xs)) first fresh) in
    let last = in_each_last (cell_slots s) from i in
    let size : length (references (in_each (cell_slots s) from (i + 1))) ≡ length (references xs) + length (references (cell_slots s q)) =
    ap (λ (l : List Slot). length (references l)) last ∙ ap length (references_append xs (cell_slots s q)) ∙ length-append (references xs) (references (cell_slots s q)) in (
      omega (arith, x.0, n, size),
      filled_then d₀ at (at + i * 16) xs (cell_slots s q) (drop first fresh) h (omega (arith, length_cells s from i)) w (x.1 ∙ ap (λ (l : List ℕ). written d (at + i * 16) (slot_bytes (fill (cell_slots s q) l))) e)
          ∙ ap (λ (l : List Slot). written d₀ at (slot_bytes (fill l (drop first fresh)))) (sym last),
    )

-- One field, by what it holds.
pub put_reference : (d d₁ fresh : List ℕ) (r j at : ℕ) → d₁ ≡ written d at (bytes (get_or fresh j 0)) → d₁ ≡ written d at (slot_bytes (fill (reference r ∷ []) (drop j fresh)))
put_reference d d₁ fresh r j at w = field_reference d d₁ fresh r j at w

pub put_number : (d d₁ fresh : List ℕ) (v j at : ℕ) → d₁ ≡ written d at (bytes v) → d₁ ≡ written d at (slot_bytes (fill (number v ∷ []) (drop j fresh)))
put_number d d₁ fresh v j at w = field_number d d₁ fresh v j at w

pub slot_few : (a : Field.Slot) → length (references (slot_of a ∷ [])) ≤ 1
slot_few (Variants.Number v) = omega arith
slot_few (Variants.Reference r) = omega arith
