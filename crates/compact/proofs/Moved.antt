-- The compacted sheet, read: its parts, its records and its cells are those of the sheet handed in, with the references moved.
use Prim.Native.Nat.{ℕ, zero, suc, ◌+◌, ◌-◌, ◌*◌, ◌/◌, ◌%◌, ◌≤◌, ◌<◌}
use Rattle.std.proofs.Math.Nat.{mul-div_cancel_left}
use native.Mathlib.Omega.{arith}
use Rattle.std.proofs.Common.{le-leb, ◌∙◌}
use Rattle.std.specs.Prelude.{◌≡◌, Bool, true, false, ◌||◌, cond, leb, drop}
use Rattle.std.proofs.Math.Path.{refl, sym, ap, ap₂, subst}
use mathlib.Core.List.{List, [], ◌∷◌, ◌++◌, map, append_assoc}
use Rattle.std.proofs.Math.ListN.{length, take, length-append, length-map}
use Rattle.std.proofs.Math.Seq.{take_at}
use Rattle.value.specs.Meaning.{bytes_at, offset, text_length}
use Rattle.sql.specs.Answer.{done}
use Rattle.sql.specs.Plan.{Node}
use Rattle.sheet.specs.Bytes.{byte, half, word, bytes}
use Rattle.sheet.specs.Parts.{tables_at, columns_at, cells_at, edition, said_length, table_count, column_count, cell_count, inside}
use Rattle.sheet.specs.Cell.{Cell, cell_from, Field, unused, any, bit, table, text, small, Tag, unknown, not_carried, carried, tag_of}
use Rattle.sheet.specs.Check.{plan}
use Rattle.sheet.specs.Check as Check
use Rattle.sheet_laws.specs.Fits.{All, Word}
use Rattle.sheet_laws.specs.Content.{low_part, high_part}
use Rattle.sheet_laws.specs.Layout.{Parts}
use Rattle.sheet_laws.specs.Plan.{Bytes}
use Rattle.sheet_laws.proofs.Plan.{word_bound, parts_of}
use Rattle.sheet_laws.specs.Accepted.{accepted}
use Rattle.sheet_laws.specs.Bytes.{digits, word_after}
use Rattle.compact.specs.Strings.{kept, joined, empty, among, offset_in, reference_to}
use Rattle.compact.proofs.StringLaws.{Has, keep_has, offset_inside, offset_stands}
use Rattle.compact.specs.Slots.{Slot, number, reference, field_slot, field_slots, cell_slots, record_slots, in_each, slots, references, value, redirect, slot_bytes}
use Rattle.compact.specs.Compact.{strings, kept_strings, kept_text, moved, trailer_with, compacted}
use Rattle.compact.proofs.Cells.{Refers, moved_by, moved_slots}
use Rattle.compact.proofs.Blocks.{Around, around_left, around_right, around_map, around_at, around_bytes, Four, length_in_each, in_each_around, length_slot_bytes, all_part, in_each_mapped, map_append, FourWords, four_words, Copied, copied_in, copied_word, copied_half}

-- ---- a reference to a string that is kept

-- It refers to the string, lies inside the text, and is a number of 4 bytes.
pub record Stands (ks : List (List ℕ)) (t : List ℕ) : Type 0 where
  pub same : bytes_at (joined ks) (reference_to ks t) ≡ t
  pub within : inside (length (joined ks)) (reference_to ks t) ≡ true
  pub small : Word (reference_to ks t)

pub stands : (ks : List (List ℕ)) (t : List ℕ) → length (joined ks) ≤ 8192 → Has ks t → Stands ks t
stands ks [] short has = record { same = refl; within = le-leb 0 (length (joined ks)) (omega arith); small = omega arith }
stands ks (x ∷ xs) short has =
    let t = x ∷ xs in
    let o = offset_in ks t in
    let n = length t in
    let i = offset_inside ks t has in
    let low : (o + 65536 * n) % 65536 ≡ o = low_part 65536 o n (omega arith) in
    let high : (o + 65536 * n) / 65536 ≡ n = high_part 65536 o n (omega arith) in
    record {
      same = ap₂ (λ (a b : ℕ). take a (drop b (joined ks))) high low ∙ offset_stands ks t has;
      within = le-leb ((o + 65536 * n) % 65536 + (o + 65536 * n) / 65536) (length (joined ks)) (omega (arith, low, high, i));
      small = omega arith;
    }

-- a property of all strings referred to, as one of all words
refers_all : (P : List ℕ → Type 0) (g : ℕ → List ℕ) (xs : List Slot) → All P (map g (references xs)) → All (Refers (λ r. P (g r))) xs
refers_all P g [] a = tt
refers_all P g (number v ∷ xs) a = (tt, refers_all P g xs a)
refers_all P g (reference r ∷ xs) a = (a.0, refers_all P g xs a.1)

pub refers_map : (P R : ℕ → Type 0) → ((r : ℕ) → P r → R r) → (xs : List Slot) → All (Refers P) xs → All (Refers R) xs
refers_map P R h [] a = tt
refers_map P R h (number v ∷ xs) a = (tt, refers_map P R h xs a.1)
refers_map P R h (reference r ∷ xs) a = (h r a.0, refers_map P R h xs a.1)

four_record : (s : List ℕ) → Four (record_slots s)
four_record s p = refl

four_cell : (s : List ℕ) → Four (cell_slots s)
unfolding cell_slots
four_cell s p = go (tag_of (byte s p))
  where
    go : (t : Tag) → length (number (word s p) ∷ field_slots (cell_from s p) t) ≡ 4
    go unknown = refl
    go not_carried = refl
    go (carried flags x y z) = refl

module _ (s : List ℕ) (b : Bytes s) (p : Parts s) (short : length (kept_text s) ≤ 8192) where
  abbrev pub new_text : List ℕ
  new_text = kept_text s

  abbrev pub f : ℕ → ℕ
  f = moved s

  -- the new sheet
  abbrev pub d : List ℕ
  d = compacted s

  -- ---- references

  pub record Moves (r : ℕ) : Type 0 where
    pub same : bytes_at new_text (f r) ≡ bytes_at (Check.text s) r
    pub within : inside (length new_text) (f r) ≡ true
    pub small : Word (f r)

  pub all_move : All (Refers Moves) (slots s)
  unfolding moved kept_text kept_strings strings
  all_move =
      refers_map (λ r. Has (kept_strings s) (bytes_at (Check.text s) r)) Moves
      (λ r has. let t = stands (kept_strings s) (bytes_at (Check.text s) r) short has in record { same = t.same; within = t.within; small = t.small }) (slots s)
      (refers_all (Has (kept_strings s)) (bytes_at (Check.text s)) (slots s) (keep_has [] (strings s)))

  -- ---- where records and cells stand

  pub table_around : (i : ℕ) → i < table_count s → Around (slots s) (record_slots s (tables_at s + i * 16)) (i * 4)
  unfolding slots
  table_around i h =
      around_left (in_each (record_slots s) (columns_at s) (column_count s) ++ in_each (cell_slots s) (cells_at s) (cell_count s))
      (in_each_around (record_slots s) (four_record s) (tables_at s) (table_count s) i h)

  pub column_around : (i : ℕ) → i < column_count s → Around (slots s) (record_slots s (columns_at s + i * 16)) (table_count s * 4 + i * 4)
  unfolding slots
  column_around i h =
      let front = in_each (record_slots s) (tables_at s) (table_count s) in
      around_at (ap (λ (n : ℕ). n + i * 4) (length_in_each (record_slots s) (four_record s) (tables_at s) (table_count s)))
      (around_right front (around_left (in_each (cell_slots s) (cells_at s) (cell_count s)) (in_each_around (record_slots s) (four_record s) (columns_at s) (column_count s) i h)))

  pub cell_around : (i : ℕ) → i < cell_count s → Around (slots s) (cell_slots s (cells_at s + i * 16)) (table_count s * 4 + (column_count s * 4 + i * 4))
  unfolding slots
  cell_around i h =
      let front = in_each (record_slots s) (tables_at s) (table_count s) in
      let middle = in_each (record_slots s) (columns_at s) (column_count s) in
      around_at (ap₂ (λ (m n : ℕ). m + (n + i * 4)) (length_in_each (record_slots s) (four_record s) (tables_at s) (table_count s)) (length_in_each (record_slots s) (four_record s) (columns_at s) (column_count s)))
      (around_right front (around_right middle (in_each_around (cell_slots s) (four_cell s) (cells_at s) (cell_count s) i h)))

  length_slots : length (slots s) ≡ table_count s * 4 + (column_count s * 4 + cell_count s * 4)
  unfolding slots
  length_slots =
      let front = in_each (record_slots s) (tables_at s) (table_count s) in
      let middle = in_each (record_slots s) (columns_at s) (column_count s) in
      let last = in_each (cell_slots s) (cells_at s) (cell_count s) in
      omega (
        arith,
        length-append front (middle ++ last),
        length-append middle last,
        length_in_each (record_slots s) (four_record s) (tables_at s) (table_count s),
        length_in_each (record_slots s) (four_record s) (columns_at s) (column_count s),
        length_in_each (cell_slots s) (four_cell s) (cells_at s) (cell_count s),
      )

  -- ---- all of it but the trailer, and the trailer

  body : List ℕ
  body = slot_bytes (map (redirect f) (slots s))

  length_body : length body ≡ table_count s * 16 + column_count s * 16 + cell_count s * 16
  unfolding body
  length_body = omega (arith, length_slot_bytes (map (redirect f) (slots s)), length-map (slots s) (redirect f), length_slots)

  ends : List ℕ
  ends = trailer_with (length new_text) (table_count s) (column_count s) (cell_count s) (edition s)

  length_ends : length ends ≡ 20
  unfolding ends trailer_with bytes
  length_ends = refl

  d_is : d ≡ (new_text ++ body) ++ ends
  unfolding compacted body ends
  d_is = sym (append_assoc new_text (slot_bytes (map (redirect f) (slots s))) (trailer_with (length new_text) (table_count s) (column_count s) (cell_count s) (edition s)))

  length_front : length (new_text ++ body) ≡ length new_text + table_count s * 16 + column_count s * 16 + cell_count s * 16
  length_front = length-append new_text body ∙ omega (arith, length_body)

  pub length_d : length d ≡ length new_text + table_count s * 16 + column_count s * 16 + cell_count s * 16 + 20
  length_d = ap length d_is ∙ length-append (new_text ++ body) ends ∙ omega (arith, length_front, length_ends)

  ends_word : (i v q : ℕ) → q + 20 ≡ length d + i → word ends i ≡ v → word d q ≡ v
  ends_word i v q e h = ap (λ (l : List ℕ). word l q) d_is ∙ word_after (new_text ++ body) ends q i (omega (arith, length_front, length_d)) ∙ h

  pub tables_at_d : tables_at d ≡ length new_text
  unfolding ends trailer_with word bytes
  tables_at_d = ends_word 0 (length new_text) (length d - 20) (omega (arith, length_d)) (digits (length new_text) (omega arith))

  pub columns_at_d : columns_at d ≡ length new_text + table_count s * 16
  unfolding ends trailer_with word bytes
  columns_at_d = ends_word 4 (length new_text + table_count s * 16) (length d - 16) (omega (arith, length_d)) (digits (length new_text + table_count s * 16) (omega arith))

  pub cells_at_d : cells_at d ≡ length new_text + table_count s * 16 + column_count s * 16
  unfolding ends trailer_with word bytes
  cells_at_d =
      ends_word 8 (length new_text + table_count s * 16 + column_count s * 16) (length d - 12) (omega (arith, length_d))
      (digits (length new_text + table_count s * 16 + column_count s * 16) (omega arith))

  pub edition_d : edition d ≡ edition s
  unfolding ends trailer_with word bytes
  edition_d = ends_word 12 (edition s) (length d - 8) (omega (arith, length_d)) (digits (edition s) (omega (arith, p.edition_small)))

  pub said_d : said_length d ≡ length d
  unfolding ends trailer_with word bytes
  said_d =
      ends_word 16 (length new_text + table_count s * 16 + column_count s * 16 + cell_count s * 16 + 20) (length d - 4) (omega (arith, length_d))
      (digits (length new_text + table_count s * 16 + column_count s * 16 + cell_count s * 16 + 20) (omega arith)) ∙ sym length_d

  pub table_count_d : table_count d ≡ table_count s
  table_count_d =
      let e : columns_at d - tables_at d ≡ 16 * table_count s = omega (arith, tables_at_d, columns_at_d) in
      ap (λ (n : ℕ). n / 16) e ∙ mul-div_cancel_left (table_count s) (omega arith)

  pub column_count_d : column_count d ≡ column_count s
  column_count_d =
      let e : cells_at d - columns_at d ≡ 16 * column_count s = omega (arith, cells_at_d, columns_at_d) in
      ap (λ (n : ℕ). n / 16) e ∙ mul-div_cancel_left (column_count s) (omega arith)

  pub cell_count_d : cell_count d ≡ cell_count s
  cell_count_d =
      let e : length d - 20 - cells_at d ≡ 16 * cell_count s = omega (arith, cells_at_d, length_d) in
      ap (λ (n : ℕ). n / 16) e ∙ mul-div_cancel_left (cell_count s) (omega arith)

  pub text_d : Check.text d ≡ new_text
  unfolding compacted
  text_d = ap (λ (n : ℕ). take n d) tables_at_d ∙ take_at new_text (body_and_ends) (length new_text) refl
    where
      body_and_ends : List ℕ
      body_and_ends = slot_bytes (map (redirect f) (slots s)) ++ trailer_with (length new_text) (table_count s) (column_count s) (cell_count s) (edition s)

  -- ---- records and cells of the new sheet

  in_sheet : {part : List Slot} {k : ℕ} → Around (slots s) part k → Around d (slot_bytes (map (redirect f) part)) (length new_text + k * 4)
  unfolding compacted
  in_sheet a = around_right new_text (around_left (trailer_with (length new_text) (table_count s) (column_count s) (cell_count s) (edition s)) (around_bytes (around_map (redirect f) a)))

  -- A record at byte i of d is the one at byte q of s with its name moved.
  pub record RecordAt (i q : ℕ) : Type 0 where
    pub name : word d i ≡ f (word s q)
    pub second : Copied d (i + 4) s (q + 4)
    pub third : Copied d (i + 8) s (q + 8)
    pub fourth : Copied d (i + 12) s (q + 12)

  record_at : (i q : ℕ) → Around d (slot_bytes (map (redirect f) (record_slots s q))) i → All (Refers Moves) (record_slots s q) → RecordAt i q
  record_at i q a m =
      let x0 = reference (f (word s q)) in
      let x1 = number (word s (q + 4)) in
      let x2 = number (word s (q + 8)) in
      let x3 = number (word s (q + 12)) in
      let w = four_words d i x0 x1 x2 x3 a m.0.small (word_bound s b (q + 4)) (word_bound s b (q + 8)) (word_bound s b (q + 12)) in
      record {
        name = w.first;
        second = copied_in s b (q + 4) d i (x0 ∷ []) (x2 ∷ x3 ∷ []) a;
        third = copied_in s b (q + 8) d i (x0 ∷ x1 ∷ []) (x3 ∷ []) a;
        fourth = copied_in s b (q + 12) d i (x0 ∷ x1 ∷ x2 ∷ []) [] a;
      }

  same_cell : (c e : Cell) → c.tag ≡ e.tag → c.flag ≡ e.flag → c.origin ≡ e.origin → c.a ≡ e.a → c.b ≡ e.b → c.c ≡ e.c → c ≡ e
  same_cell c e p q r s t u =
      let z : ◌≡◌ {A = Cell} (record { tag = c.tag; flag = c.flag; origin = c.origin; a = c.a; b = c.b; c = c.c })
      (record { tag = e.tag; flag = e.flag; origin = e.origin; a = e.a; b = e.b; c = e.c }) = cc in
      z

  word_redirected : (x : Slot) → Word (value x) → Refers Moves x → Word (value (redirect f x))
  word_redirected (number v) w m = w
  word_redirected (reference r) w m = m.small

  -- A cell at byte i of d is the one at byte q of s with its references moved.
  pub record CellAt (i q : ℕ) : Type 0 where
    pub head : word d i ≡ word s q
    pub tag_is : byte d i ≡ byte s q
    pub is : cell_from d i ≡ moved_by f (tag_of (byte s q)) (cell_from s q)

  field_word : (flag : ℕ) (x : Field) (v : ℕ) → Word v → Refers Moves (field_slot flag x v) → Word (value (redirect f (field_slot flag x v)))
  field_word flag unused v w m = w
  field_word flag any v w m = w
  field_word flag bit v w m = w
  field_word flag table v w m = w
  field_word flag (small k) v w m = w
  field_word flag (text k) v w m = go (leb k flag) m
    where
      go : (t : Bool) → Refers Moves (cond t (reference v) (number v)) → Word (value (redirect f (cond t (reference v) (number v))))
      go true m = m.small
      go false m = w

  cell_at : (i q : ℕ) → Around d (slot_bytes (map (redirect f) (cell_slots s q))) i → All (Refers Moves) (cell_slots s q) → CellAt i q
  unfolding cell_slots
  cell_at i q a m =
      let c = copied_in s b q d i [] (map (redirect f) (field_slots k (tag_of (byte s q)))) a in
      let z : i + 0 * 4 ≡ i = omega arith in
      let c0 : Copied d i s q = subst (λ (j : ℕ). Copied d j s q) z c in
      record { head = copied_word c0; tag_is = c0.byte_0; is = go (tag_of (byte s q)) m.1 a c0 }
    where
      k : Cell
      k = cell_from s q

      fields : (x y z : Slot) → Word (value (redirect f x)) → Word (value (redirect f y)) → Word (value (redirect f z))
          → Around d (slot_bytes (map (redirect f) (number (word s q) ∷ x ∷ y ∷ z ∷ []))) i → Copied d i s q
          → cell_from d i ≡ record { tag = k.tag; flag = k.flag; origin = k.origin; a = value (redirect f x); b = value (redirect f y); c = value (redirect f z) }
      fields x y z wx wy wz a c0 =
          let w = four_words d i (number (word s q)) (redirect f x) (redirect f y) (redirect f z) a (word_bound s b q) wx wy wz in
          same_cell (cell_from d i) (record { tag = k.tag; flag = k.flag; origin = k.origin; a = value (redirect f x); b = value (redirect f y); c = value (redirect f z) })
          c0.byte_0 c0.byte_1 (copied_half c0) w.second w.third w.fourth

      go : (t : Tag) → All (Refers Moves) (field_slots k t) → Around d (slot_bytes (map (redirect f) (number (word s q) ∷ field_slots k t))) i → Copied d i s q
          → cell_from d i ≡ moved_by f t k
      go unknown m a c0 = fields (number k.a) (number k.b) (number k.c) (word_bound s b (q + 4)) (word_bound s b (q + 8)) (word_bound s b (q + 12)) a c0
      go not_carried m a c0 = fields (number k.a) (number k.b) (number k.c) (word_bound s b (q + 4)) (word_bound s b (q + 8)) (word_bound s b (q + 12)) a c0
      go (carried flags x y z) m a c0 =
          fields (field_slot k.flag x k.a) (field_slot k.flag y k.b) (field_slot k.flag z k.c)
          (field_word k.flag x k.a (word_bound s b (q + 4)) m.0) (field_word k.flag y k.b (word_bound s b (q + 8)) m.1.0)
          (field_word k.flag z k.c (word_bound s b (q + 12)) m.1.1.0) a c0

  -- by their numbers
  pub table_moved : (i : ℕ) → i < table_count s → RecordAt (length new_text + i * 16) (tables_at s + i * 16)
  table_moved i h =
      let a = table_around i h in
      record_at (length new_text + i * 16) (tables_at s + i * 16) (around_at (omega arith) (in_sheet a)) (all_part (Refers Moves) a all_move)

  pub column_moved : (i : ℕ) → i < column_count s → RecordAt (length new_text + table_count s * 16 + i * 16) (columns_at s + i * 16)
  column_moved i h =
      let a = column_around i h in
      record_at (length new_text + table_count s * 16 + i * 16) (columns_at s + i * 16) (around_at (omega arith) (in_sheet a)) (all_part (Refers Moves) a all_move)

  pub cell_moved : (i : ℕ) → i < cell_count s → CellAt (length new_text + table_count s * 16 + column_count s * 16 + i * 16) (cells_at s + i * 16)
  cell_moved i h =
      let a = cell_around i h in
      cell_at (length new_text + table_count s * 16 + column_count s * 16 + i * 16) (cells_at s + i * 16) (around_at (omega arith) (in_sheet a)) (all_part (Refers Moves) a all_move)

  -- ---- the words of the new sheet

  record_slots_moved : (i q : ℕ) → RecordAt i q → record_slots d i ≡ map (redirect f) (record_slots s q)
  record_slots_moved i q r =
      let n = r.name in
      let x = copied_word r.second in
      let y = copied_word r.third in
      let z = copied_word r.fourth in
      cc

  cell_slots_moved : (i q : ℕ) → CellAt i q → cell_slots d i ≡ map (redirect f) (cell_slots s q)
  unfolding cell_slots
  cell_slots_moved i q c =
      let t = tag_of (byte s q) in
      let k = cell_from s q in
      let e : field_slots (cell_from d i) (tag_of (byte d i)) ≡ map (redirect f) (field_slots k t) =
      ap₂ (λ (m : Cell) (u : ℕ). field_slots m (tag_of u)) c.is c.tag_is ∙ moved_slots f t k in
      ap₂ (λ (v : ℕ) (l : List Slot). number v ∷ l) c.head e

  -- They are those of the sheet handed in, with its references moved.
  pub slots_d : slots d ≡ map (redirect f) (slots s)
  unfolding slots
  slots_d =
      let t = length new_text in
      let u = redirect f in
      let tables : in_each (record_slots d) (tables_at d) (table_count d) ≡ map u (in_each (record_slots s) (tables_at s) (table_count s)) =
      ap₂ (in_each (record_slots d)) tables_at_d table_count_d
      ∙ in_each_mapped u (record_slots s) (record_slots d) (tables_at s) t (table_count s) (λ i h. record_slots_moved (t + i * 16) (tables_at s + i * 16) (table_moved i h)) in
      let columns : in_each (record_slots d) (columns_at d) (column_count d) ≡ map u (in_each (record_slots s) (columns_at s) (column_count s)) =
      ap₂ (in_each (record_slots d)) columns_at_d column_count_d
      ∙ in_each_mapped u (record_slots s) (record_slots d) (columns_at s) (t + table_count s * 16) (column_count s)
      (λ i h. record_slots_moved (t + table_count s * 16 + i * 16) (columns_at s + i * 16) (column_moved i h)) in
      let cells : in_each (cell_slots d) (cells_at d) (cell_count d) ≡ map u (in_each (cell_slots s) (cells_at s) (cell_count s)) =
      ap₂ (in_each (cell_slots d)) cells_at_d cell_count_d
      ∙ in_each_mapped u (cell_slots s) (cell_slots d) (cells_at s) (t + table_count s * 16 + column_count s * 16) (cell_count s)
      (λ i h. cell_slots_moved (t + table_count s * 16 + column_count s * 16 + i * 16) (cells_at s + i * 16) (cell_moved i h)) in
      ap₂ ◌++◌ tables (ap₂ ◌++◌ columns cells)
      ∙ ap (λ (l : List Slot). map u (in_each (record_slots s) (tables_at s) (table_count s)) ++ l)
      (sym (map_append u (in_each (record_slots s) (columns_at s) (column_count s)) (in_each (cell_slots s) (cells_at s) (cell_count s))))
      ∙ sym (map_append u (in_each (record_slots s) (tables_at s) (table_count s))
      (in_each (record_slots s) (columns_at s) (column_count s) ++ in_each (cell_slots s) (cells_at s) (cell_count s)))
