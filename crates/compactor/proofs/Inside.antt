-- The references of an accepted sheet lie inside its text.
-- Assumes nothing.
use Prim.Native.Nat.{ℕ, zero, suc, ◌+◌, ◌-◌, ◌*◌, ◌/◌, ◌%◌, ◌≤◌, ◌<◌}
use native.Mathlib.Omega.{arith}
use borrow.Author.Tests.{le-ltb, leb-true}
use mathlib.Core.Path.{◌≡◌, sym, ap, ◌∙◌, subst}
use mathlib.Core.Bool.{Bool, true, false, cond}
use mathlib.Core.List.{List, [], ◌∷◌, ◌++◌}
use mathlib.Core.Option.{none}
use lib.Dec.{leb, ltb, eqb}
use lib.ListN.{length, take, drop, length-drop, take-append-drop}
use lib.Seq.{drop-append-le, take-append-le, length-take-le}
use Rattle.value.specs.Meaning.{bytes_at}
use Rattle.sql.specs.Answer.{done}
use Rattle.sql.specs.Plan.{Node}
use Rattle.sheet.specs.Bytes.{byte}
use Rattle.sheet.specs.Parts.{tables_at, columns_at, cells_at, table_count, column_count, cell_count, columns_before, column_name, inside, table_ok, column_ok, record_ok, bad_record}
use Rattle.sheet.specs.Cell.{Cell, cell_from, cell, Field, unused, any, bit, table, text, small, Tag, unknown, not_carried, carried, tag_of, field_ok, fields_ok, float_ok, cell_ok, origins, bad_cell}
use Rattle.sheet.specs.Check as Check
use Rattle.sheet.specs.Check.{plan}
use Rattle.sheet_laws.specs.Fits.{All, Word}
use Rattle.sheet_laws.specs.Content.{and_left, and_right}
use Rattle.sheet_laws.specs.Layout.{none_failing, table_facts}
use Rattle.sheet_laws.specs.Plan.{Bytes}
use Rattle.sheet_laws.proofs.Plan.{word_bound}
use Rattle.sheet_laws.specs.Accepted.{accepted}
use Rattle.sound.specs.Lists.{all_append}
use Rattle.compact.specs.Slots.{Slot, number, reference, references, field_slot, field_slots, record_slots, cell_slots, in_each, slots}
use Rattle.compact.proofs.Cells.{Refers}
use Rattle.gather.specs.Gather.{Inside}

-- A reference that lies inside the text, and is a number of 4 bytes.
pub record InText (s : List ℕ) (r : ℕ) : Type 0 where
  pub within : inside (tables_at s) r ≡ true
  pub small : Word r

all_in_each : (P : Slot → Type 0) (g : ℕ → List Slot) (at n : ℕ) → ((i : ℕ) → i < n → All P (g (at + i * 16))) → All P (in_each g at n)
all_in_each P g at zero h = tt
all_in_each P g at (suc n) h =
    let e : at + 0 * 16 ≡ at = omega arith in
    all_append P (g at) (in_each g (at + 16) n) (subst (λ (p : ℕ). All P (g p)) e (h 0 (omega arith)))
    (all_in_each P g (at + 16) n (λ i l. let f : at + suc i * 16 ≡ at + 16 + i * 16 = omega arith in subst (λ (p : ℕ). All P (g p)) f (h (suc i) (omega arith))))

column_inside : (s : List ℕ) → bad_record s ≡ none → (j : ℕ) → j < column_count s → inside (tables_at s) (column_name s j) ≡ true
unfolding bad_record column_ok
column_inside s h j b =
    let i = table_count s + j in
    let r : record_ok s i ≡ true = none_failing (record_ok s) 0 (table_count s + column_count s) h i (omega arith) (omega arith) in
    let e : i - table_count s ≡ j = omega arith in
    let c : column_ok s j ≡ true =
    ap (column_ok s) (sym e) ∙ sym (ap (λ (b : Bool). cond b (table_ok s i) (column_ok s (i - table_count s))) (le-ltb i (table_count s) (omega arith))) ∙ r in
    let c1 = and_right (ltb j (columns_before s (table_count s))) _ c in
    and_left (inside (tables_at s) (column_name s j)) _ c1

module _ (s : List ℕ) (b : Bytes s) where
  field_inside : (tables flag : ℕ) (x : Field) (v : ℕ) → Word v → field_ok (tables_at s) tables flag x v ≡ true → Refers (InText s) (field_slot flag x v)
  field_inside tables flag unused v w h = tt
  field_inside tables flag any v w h = tt
  field_inside tables flag bit v w h = tt
  field_inside tables flag table v w h = tt
  field_inside tables flag (small k) v w h = tt
  field_inside tables flag (text k) v w h = go (leb k flag) h
    where
      go : (t : Bool) → cond t (inside (tables_at s) v) (eqb v 0) ≡ true → Refers (InText s) (cond t (reference v) (number v))
      go true h = record { within = h; small = w }
      go false h = tt

  fields_inside : (origins tables : ℕ) (k : Cell) → Word k.a → Word k.b → Word k.c → (t : Tag) → fields_ok origins (tables_at s) tables k t ≡ true → All (Refers (InText s)) (field_slots k t)
  fields_inside origins tables k p q r unknown h = (tt, (tt, (tt, tt)))
  fields_inside origins tables k p q r not_carried h = (tt, (tt, (tt, tt)))
  fields_inside origins tables k p q r (carried flags x y z) h =
      let h1 = and_right (ltb k.flag flags) _ h in
      let h2 = and_right (ltb k.origin origins) _ h1 in
      let h3 = and_right (field_ok (tables_at s) tables k.flag x k.a) _ h2 in (
        field_inside tables k.flag x k.a p (and_left (field_ok (tables_at s) tables k.flag x k.a) _ h2),
        (
          field_inside tables k.flag y k.b q (and_left (field_ok (tables_at s) tables k.flag y k.b) _ h3),
          (field_inside tables k.flag z k.c r (and_right (field_ok (tables_at s) tables k.flag y k.b) _ h3), tt),
        ),
      )

  cell_inside : (i : ℕ) → cell_ok (origins s) (tables_at s) (table_count s) (cell s i) ≡ true → All (Refers (InText s)) (cell_slots s (cells_at s + i * 16))
  unfolding cell cell_ok cell_slots
  cell_inside i h =
      let p = cells_at s + i * 16 in
      let k = cell_from s p in (
        tt,
        fields_inside (origins s) (table_count s) k (word_bound s b (p + 4)) (word_bound s b (p + 8)) (word_bound s b (p + 12)) (tag_of (byte s p))
            (and_left (fields_ok (origins s) (tables_at s) (table_count s) k (tag_of (byte s p))) (float_ok k) h),
      )

  pub slots_inside : (n : Node) → plan s ≡ done n → All (Refers (InText s)) (slots s)
  unfolding slots bad_cell
  slots_inside n h =
      let a = accepted s n h in
      let tables = all_in_each (Refers (InText s)) (record_slots s) (tables_at s) (table_count s)
      (λ i l. (record { within = (table_facts s a.records_are i l).named; small = word_bound s b (tables_at s + i * 16) }, (tt, (tt, (tt, tt))))) in
      let columns = all_in_each (Refers (InText s)) (record_slots s) (columns_at s) (column_count s)
      (λ i l. (record { within = column_inside s a.records_are i l; small = word_bound s b (columns_at s + i * 16) }, (tt, (tt, (tt, tt))))) in
      let cells = all_in_each (Refers (InText s)) (cell_slots s) (cells_at s) (cell_count s)
      (λ i l. cell_inside i (none_failing (λ j. cell_ok (origins s) (tables_at s) (table_count s) (cell s j)) 0 (cell_count s) a.cells_are i (omega arith) (omega arith))) in
      all_append (Refers (InText s)) (in_each (record_slots s) (tables_at s) (table_count s))
      (in_each (record_slots s) (columns_at s) (column_count s) ++ in_each (cell_slots s) (cells_at s) (cell_count s)) tables
      (all_append (Refers (InText s)) (in_each (record_slots s) (columns_at s) (column_count s)) (in_each (cell_slots s) (cells_at s) (cell_count s)) columns cells)

-- a property of every word's reference, as one of the references
refers_list : (P : ℕ → Type 0) (xs : List Slot) → All (Refers P) xs → All P (references xs)
refers_list P [] a = tt
refers_list P (number v ∷ xs) a = refers_list P xs a.1
refers_list P (reference r ∷ xs) a = (a.0, refers_list P xs a.1)

pub references_inside : (s : List ℕ) → Bytes s → (n : Node) → plan s ≡ done n → All (InText s) (references (slots s))
references_inside s b n h = refers_list (InText s) (slots s) (slots_inside s b n h)

-- So they refer to bytes of the sheet, and to the same in its text.
all_map : {A : Type 0} (P Q : A → Type 0) → ((x : A) → P x → Q x) → (xs : List A) → All P xs → All Q xs
all_map P Q f [] a = tt
all_map P Q f (x ∷ xs) a = (f x a.0, all_map P Q f xs a.1)

pub inside_sheet : (s : List ℕ) (rs : List ℕ) → tables_at s ≤ length s → All (InText s) rs → All (Inside s) rs
inside_sheet s rs h a =
    all_map (InText s) (Inside s) (λ r t. record { within = omega (arith, leb-true (r % 65536 + r / 65536) (tables_at s) t.within); small = t.small }) rs a

take_front : (n k : ℕ) (xs ys : List ℕ) → n + k ≤ length xs → take n (drop k (xs ++ ys)) ≡ take n (drop k xs)
take_front n k xs ys h = ap (take n) (drop-append-le k xs ys (omega arith)) ∙ take-append-le n (drop k xs) ys (omega (arith, length-drop k xs))

pub same_bytes : (s : List ℕ) (r : ℕ) → tables_at s ≤ length s → InText s r → bytes_at s r ≡ bytes_at (Check.text s) r
same_bytes s r h t =
    let i = leb-true (r % 65536 + r / 65536) (tables_at s) t.within in
    let l = length-take-le (tables_at s) s h in
    sym (ap (λ (x : List ℕ). bytes_at x r) (lib_split s (tables_at s))) ∙ take_front (r / 65536) (r % 65536) (Check.text s) (drop (tables_at s) s) (omega (arith, l))
  where
    lib_split : (s : List ℕ) (n : ℕ) → take n s ++ drop n s ≡ s
    lib_split s n = take-append-drop n s
