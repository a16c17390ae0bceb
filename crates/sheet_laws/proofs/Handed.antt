-- A plan that a sheet can hold, written with that sheet's text and records, is accepted again.
use Rattle.std.specs.Prelude.{ℕ, zero, suc, ◌+◌, ◌-◌, ◌*◌, ◌/◌, ◌%◌, ◌≤◌, ◌<◌, ◌≡◌, Bool, true, false, ◌||◌, cond, leb, ltb}
use Rattle.std.proofs.Math.Nat.{mul-mod_right, mul-div_cancel_left}
use native.Mathlib.Omega.{arith}
use Rattle.std.proofs.Common.{ltb-true, ltb-false, eqb-true, le-leb, eq-eqb, ◌∙◌}
use Rattle.std.proofs.lemmas.Bool.{eqb-false}
use Rattle.std.proofs.Math.Path.{refl, sym, ap, subst}
use mathlib.Core.List.{List, [], ◌∷◌, ◌++◌, map, append_assoc}
use Rattle.std.proofs.Math.Option.{none}
use Rattle.std.proofs.Math.Dec.{eqb}
use Rattle.std.proofs.Math.ListN.{length, take, length-append, get_or-append}
use Rattle.std.proofs.Math.Seq.{length-take-le, take_at, take-append-le, take-take, get_or-take}
use Rattle.sql.specs.Answer.{done}
use Rattle.sql.specs.Schema.{Schema}
use Rattle.sql.specs.Plan.{Leaf, scan, lookup, nothing, values, Node, leaf, over, join, leaf_size, node_size, columns, up_to}
use Rattle.sheet.specs.Bytes.{byte, half, word}
use Rattle.sheet.specs.Parts.{tables_at, columns_at, cells_at, edition, said_length, length_ok, edition_ok, records_ok, parts_ok, table_count, column_count, cell_count, record_at, table_name, first_column, columns_of, columns_before, table_ok, column_name, column_ok, record_ok, bad_record}
use Rattle.sheet.specs.Cell.{Cell, cell_from, cell, cell_ok, origins, bad_cell}
use Rattle.sheet.specs.Content.{marked}
use Rattle.sheet.specs.Cells.{cells}
use Rattle.sheet.specs.Tree.{read}
use Rattle.sheet.specs.Scope.{outside}
use Rattle.sheet.specs.Check.{text, table, column, schema, cells_of, plan, check}
use Rattle.sheet.specs.Write.{cell_bytes, cells_bytes, trailer, sheet_with, write}
use Rattle.sheet_laws.specs.Size.{node_length}
use Rattle.sheet_laws.specs.Fits.{All, Exact}
use Rattle.sheet_laws.specs.Content.{Words, and_true, ok_marked}
use Rattle.sheet_laws.specs.Reading.{Good}
use Rattle.sheet_laws.proofs.Complete.{cells_good, complete}
use Rattle.sheet_laws.proofs.Counts.{exact, all_map}
use Rattle.sheet_laws.specs.Accepted.{accepted, accepting}
use Rattle.sheet_laws.specs.Layout.{Parts, none_failing, all_passing, table_facts, tables_good}
use Rattle.sheet_laws.proofs.Plan.{text_length, parts_of}
use Rattle.sheet_laws.specs.Bytes.{digits, word_after, cell_written, length_cell_bytes}
use Rattle.sheet_laws.specs.Handed.{CanHold}

length_cells_bytes : (ks : List Cell) → length (cells_bytes ks) ≡ 16 * length ks
unfolding cells_bytes
length_cells_bytes [] = refl
length_cells_bytes (k ∷ ks) = simp length-append (omega (arith, length_cell_bytes k, length_cells_bytes ks))

-- The cells written behind xs are read there.
cells_written : (c : ℕ) (xs : List ℕ) (ks : List Cell) (ys : List ℕ) (i : ℕ) → length xs ≡ record_at c i → All Words ks
    → map (λ j. cell_from (xs ++ (cells_bytes ks ++ ys)) (record_at c j)) (up_to i (length ks)) ≡ ks
unfolding cells_bytes
cells_written c xs [] ys i e w = refl
cells_written c xs (k ∷ ks) ys i e w =
    let l : (cell_bytes k ++ cells_bytes ks) ++ ys ≡ cell_bytes k ++ (cells_bytes ks ++ ys) = append_assoc (cell_bytes k) (cells_bytes ks) ys in
    let r : xs ++ (cell_bytes k ++ (cells_bytes ks ++ ys)) ≡ (xs ++ cell_bytes k) ++ (cells_bytes ks ++ ys) = sym (append_assoc xs (cell_bytes k) (cells_bytes ks ++ ys)) in
    let n : length (xs ++ cell_bytes k) ≡ record_at c (suc i) = length-append xs (cell_bytes k) ∙ omega (arith, length_cell_bytes k) in
    ap (λ (z : List ℕ). map (λ j. cell_from (xs ++ z) (record_at c j)) (up_to i (suc (length ks)))) l
    ∙ (ap (λ (d : Cell). d ∷ map (λ j. cell_from (xs ++ (cell_bytes k ++ (cells_bytes ks ++ ys))) (record_at c j)) (up_to (suc i) (length ks)))
    (cell_written xs k (cells_bytes ks ++ ys) (record_at c i) (sym e) w.0)
    ∙ ap (λ (ds : List Cell). k ∷ ds)
    (ap (λ (z : List ℕ). map (λ j. cell_from z (record_at c j)) (up_to (suc i) (length ks))) r
    ∙ cells_written c (xs ++ cell_bytes k) ks ys (suc i) n w.1))

all_at : {A : Type 0} (P : A → Type 0) (f : ℕ → A) (i k : ℕ) → All P (map f (up_to i k)) → (j : ℕ) → i ≤ j → j < i + k → P (f j)
all_at P f i zero h j a b = absurd (omega arith)
all_at P f i (suc k) h j a b = go (eqb i j) refl (λ q. all_at P f (suc i) k h.1 j q (omega arith))
  where
    go : (t : Bool) → eqb i j ≡ t → (suc i ≤ j → P (f j)) → P (f j)
    go true e r = subst (λ (l : ℕ). P (f l)) (eqb-true i j e) h.0
    go false e r = r (omega (arith, eqb-false i j e))

map_same : {A : Type 0} (f g : ℕ → A) (i k : ℕ) → ((j : ℕ) → i ≤ j → j < i + k → f j ≡ g j) → map f (up_to i k) ≡ map g (up_to i k)
map_same f g i zero h = refl
map_same f g i (suc k) h = cc (h i (omega arith) (omega arith), map_same f g (suc i) k (λ j p q. h j (omega arith) (omega arith)))

-- whole records, in range
records_true : (from upto few many k : ℕ) → upto ≡ from + 16 * k → few ≤ k → k ≤ many → records_ok from upto few many ≡ true
records_true from upto few many k e l m =
    let d : upto - from ≡ 16 * k = omega arith in
    let z : (upto - from) % 16 ≡ 0 = ap (λ (n : ℕ). n % 16) d ∙ mul-mod_right 16 k in
    and_true (leb from upto) _ (le-leb from upto (omega arith))
    (and_true (eqb ((upto - from) % 16) 0) _ (eq-eqb ((upto - from) % 16) 0 z)
    (and_true (leb (few * 16) (upto - from)) _ (le-leb (few * 16) (upto - from) (omega arith)) (le-leb (upto - from) (many * 16) (omega arith))))

-- Cells that can stand in the place of a sheet's own.
record Replaces (s : List ℕ) (ks : List Cell) : Type 0 where
  parts_are : Parts s
  some_cells : 1 ≤ length ks
  few_cells : length ks ≤ 2048
  words : All Words ks

module _ (s : List ℕ) (ks : List Cell) (r : Replaces s ks) where
  -- the sheet that is written
  abbrev w : List ℕ
  w = sheet_with s ks

  -- all of it but the trailer, and the trailer
  front : List ℕ
  front = take (cells_at s) s ++ cells_bytes ks

  length_front : length front ≡ cells_at s + 16 * length ks
  unfolding front
  length_front = length-append (take (cells_at s) s) (cells_bytes ks) ∙ omega (arith, length-take-le (cells_at s) s (omega arith), length_cells_bytes ks)

  ends : List ℕ
  ends = trailer s (cells_at s + 16 * length ks + 20)

  length_ends : length ends ≡ 20
  unfolding ends trailer
  length_ends = refl

  w_is : w ≡ front ++ ends
  unfolding sheet_with front ends
  w_is = sym (append_assoc (take (cells_at s) s) (cells_bytes ks) (trailer s (cells_at s + 16 * length ks + 20)))

  length_w : length w ≡ cells_at s + 16 * length ks + 20
  length_w = ap length w_is ∙ length-append front ends ∙ omega (arith, length_front, length_ends)

  -- a word of the trailer, i bytes from its start
  ends_word : (i v q : ℕ) → q ≡ cells_at s + 16 * length ks + i → word ends i ≡ v → word w q ≡ v
  ends_word i v q e h = ap (λ (l : List ℕ). word l q) w_is ∙ word_after front ends q i (omega (arith, length_front)) ∙ h

  same_tables_at : tables_at w ≡ tables_at s
  unfolding ends trailer word
  same_tables_at = ends_word 0 (tables_at s) (length w - 20) (omega (arith, length_w)) (digits (tables_at s) (omega arith))

  same_columns_at : columns_at w ≡ columns_at s
  unfolding ends trailer word
  same_columns_at = ends_word 4 (columns_at s) (length w - 16) (omega (arith, length_w)) (digits (columns_at s) (omega arith))

  same_cells_at : cells_at w ≡ cells_at s
  unfolding ends trailer word
  same_cells_at = ends_word 8 (cells_at s) (length w - 12) (omega (arith, length_w)) (digits (cells_at s) (omega arith))

  same_edition : edition w ≡ edition s
  unfolding ends trailer word
  same_edition = ends_word 12 (edition s) (length w - 8) (omega (arith, length_w)) (digits (edition s) (omega (arith, r.parts_are.edition_small)))

  said_w : said_length w ≡ length w
  unfolding ends trailer word
  said_w = ends_word 16 (cells_at s + 16 * length ks + 20) (length w - 4) (omega (arith, length_w)) (digits (cells_at s + 16 * length ks + 20) (omega arith)) ∙ sym length_w

  -- ---- the parts

  length_ok_w : length_ok w ≡ true
  unfolding length_ok
  length_ok_w =
      and_true (leb 20 (length w)) _ (le-leb 20 (length w) (omega (arith, length_w)))
      (and_true (leb (length w) 45332) _ (le-leb (length w) 45332 (omega (arith, length_w))) (eq-eqb (said_length w) (length w) said_w))

  edition_ok_w : edition_ok w ≡ true
  unfolding edition_ok
  edition_ok_w = ap (λ (e : ℕ). eqb e 1 || eqb e 2) same_edition ∙ r.parts_are.edition_known

  parts_ok_w : parts_ok w ≡ true
  unfolding parts_ok
  parts_ok_w =
      and_true (leb (tables_at w) 8192) _ (le-leb (tables_at w) 8192 (omega (arith, same_tables_at)))
      (and_true (records_ok (tables_at w) (columns_at w) 0 16) _
      (records_true (tables_at w) (columns_at w) 0 16 (table_count s) (omega (arith, same_tables_at, same_columns_at)) (omega arith) r.parts_are.tables_few)
      (and_true (records_ok (columns_at w) (cells_at w) 0 256) _
      (records_true (columns_at w) (cells_at w) 0 256 (column_count s) (omega (arith, same_columns_at, same_cells_at)) (omega arith) r.parts_are.columns_few)
      (records_true (cells_at w) (length w - 20) 1 2048 (length ks) (omega (arith, same_cells_at, length_w)) r.some_cells r.few_cells)))

  same_table_count : table_count w ≡ table_count s
  same_table_count = cc (same_tables_at, same_columns_at)

  same_column_count : column_count w ≡ column_count s
  same_column_count = cc (same_columns_at, same_cells_at)

  cell_count_w : cell_count w ≡ length ks
  cell_count_w =
      let d : length w - 20 - cells_at w ≡ 16 * length ks = omega (arith, same_cells_at, length_w) in
      ap (λ (n : ℕ). n / 16) d ∙ mul-div_cancel_left (length ks) (omega arith)

  -- ---- text and records are copied

  same_byte : (i : ℕ) → i < cells_at s → byte w i ≡ byte s i
  unfolding sheet_with
  same_byte i h =
      get_or-append (take (cells_at s) s) (cells_bytes ks ++ trailer s (cells_at s + 16 * length ks + 20)) 0 i (omega (arith, length-take-le (cells_at s) s (omega arith)))
      ∙ get_or-take (cells_at s) s i 0 h

  same_half : (i : ℕ) → i + 2 ≤ cells_at s → half w i ≡ half s i
  unfolding half
  same_half i h = cc (same_byte i (omega arith), same_byte (i + 1) (omega arith))

  same_word : (i : ℕ) → i + 4 ≤ cells_at s → word w i ≡ word s i
  unfolding word
  same_word i h = cc (same_byte i (omega arith), same_byte (i + 1) (omega arith), same_byte (i + 2) (omega arith), same_byte (i + 3) (omega arith))

  same_text : text w ≡ text s
  unfolding sheet_with
  same_text =
      ap (λ (n : ℕ). take n w) same_tables_at
      ∙ take-append-le (tables_at s) (take (cells_at s) s) (cells_bytes ks ++ trailer s (cells_at s + 16 * length ks + 20)) (omega (arith, length-take-le (cells_at s) s (omega arith)))
      ∙ take-take (tables_at s) (cells_at s) s (omega arith)

  -- a word of a table record, and of a column record, `off` bytes from its start
  table_word : (i off : ℕ) → i < table_count s → off + 4 ≤ 16 → word w (record_at (tables_at w) i + off) ≡ word s (record_at (tables_at s) i + off)
  table_word i off h o = ap (λ (t : ℕ). word w (record_at t i + off)) same_tables_at ∙ same_word (record_at (tables_at s) i + off) (omega arith)

  same_table_name : (i : ℕ) → i < table_count s → table_name w i ≡ table_name s i
  same_table_name i h = ap (λ (t : ℕ). word w (record_at t i)) same_tables_at ∙ same_word (record_at (tables_at s) i) (omega arith)

  same_before : (i : ℕ) → i ≤ table_count s → columns_before w i ≡ columns_before s i
  same_before zero h = refl
  same_before (suc i) h = cc (table_word i 4 (omega arith) (omega arith), table_word i 8 (omega arith) (omega arith))

  same_table_ok : (i : ℕ) → i < table_count s → table_ok w i ≡ table_ok s i
  unfolding table_ok
  same_table_ok i h =
      cc (same_tables_at, same_table_name i h, table_word i 4 h (omega arith), table_word i 8 h (omega arith), table_word i 12 h (omega arith), same_before i (omega arith), same_column_count)

  column_word : (i off : ℕ) → i < column_count s → off + 4 ≤ 16 → word w (record_at (columns_at w) i + off) ≡ word s (record_at (columns_at s) i + off)
  column_word i off h o = ap (λ (t : ℕ). word w (record_at t i + off)) same_columns_at ∙ same_word (record_at (columns_at s) i + off) (omega arith)

  same_column_name : (i : ℕ) → i < column_count s → column_name w i ≡ column_name s i
  same_column_name i h = ap (λ (t : ℕ). word w (record_at t i)) same_columns_at ∙ same_word (record_at (columns_at s) i) (omega arith)

  column_byte : (i off : ℕ) → i < column_count s → off < 16 → byte w (record_at (columns_at w) i + off) ≡ byte s (record_at (columns_at s) i + off)
  column_byte i off h o = ap (λ (t : ℕ). byte w (record_at t i + off)) same_columns_at ∙ same_byte (record_at (columns_at s) i + off) (omega arith)

  same_zeros : (i : ℕ) → i < column_count s → half w (record_at (columns_at w) i + 6) ≡ half s (record_at (columns_at s) i + 6)
  same_zeros i h = ap (λ (t : ℕ). half w (record_at t i + 6)) same_columns_at ∙ same_half (record_at (columns_at s) i + 6) (omega arith)

  same_column_ok : (i : ℕ) → i < column_count s → column_ok w i ≡ column_ok s i
  unfolding column_ok
  same_column_ok i h =
      let before : columns_before w (table_count w) ≡ columns_before s (table_count s) = ap (columns_before w) same_table_count ∙ same_before (table_count s) (omega arith) in
      cc (
        before,
        same_tables_at,
        same_column_name i h,
        column_byte i 4 h (omega arith),
        column_byte i 5 h (omega arith),
        same_zeros i h,
        column_word i 8 h (omega arith),
        column_word i 12 h (omega arith),
      )

  same_record_ok : (i : ℕ) → i < table_count s + column_count s → record_ok w i ≡ record_ok s i
  same_record_ok i h =
      ap (λ (n : ℕ). cond (ltb i n) (table_ok w i) (column_ok w (i - n))) same_table_count ∙ go (ltb i (table_count s)) refl
    where
      go : (b : Bool) → ltb i (table_count s) ≡ b → cond b (table_ok w i) (column_ok w (i - table_count s)) ≡ cond b (table_ok s i) (column_ok s (i - table_count s))
      go true e = same_table_ok i (ltb-true i (table_count s) e)
      go false e = same_column_ok (i - table_count s) (omega (arith, ltb-false i (table_count s) e))

  bad_record_w : bad_record s ≡ none → bad_record w ≡ none
  unfolding bad_record
  bad_record_w h =
      all_passing (record_ok w) 0 (table_count w + column_count w)
      (λ j a b.
      let c : j < 0 + (table_count s + column_count s) = omega (arith, same_table_count, same_column_count) in
      same_record_ok j (omega arith) ∙ none_failing (record_ok s) 0 (table_count s + column_count s) h j a c)

  same_column : (i : ℕ) → i < column_count s → column w i ≡ column s i
  same_column i h = cc (same_column_name i h, column_byte i 4 h (omega arith), column_byte i 5 h (omega arith))

  same_table : bad_record s ≡ none → (i : ℕ) → i < table_count s → table w i ≡ table s i
  same_table ok i h =
      let f = table_facts s ok i h in
      let range : up_to (first_column w i) (columns_of w i) ≡ up_to (first_column s i) (columns_of s i) = cc (table_word i 4 h (omega arith), table_word i 8 h (omega arith)) in
      let cs : map (column w) (up_to (first_column w i) (columns_of w i)) ≡ map (column s) (up_to (first_column s i) (columns_of s i)) =
      ap (map (column w)) range ∙ map_same (column w) (column s) (first_column s i) (columns_of s i) (λ j a b. same_column j (omega (arith, f.in_range))) in
      cc (same_table_name i h, table_word i 12 h (omega arith), cs)

  same_schema : bad_record s ≡ none → schema w ≡ schema s
  unfolding schema
  same_schema ok =
      ap (λ (n : ℕ). map (table w) (up_to 0 n)) same_table_count ∙ map_same (table w) (table s) 0 (table_count s) (λ j a b. same_table ok j (omega arith))

  cells_of_w : cells_of w ≡ ks
  unfolding cells_of cell sheet_with
  cells_of_w =
      let start : length (take (cells_at s) s) ≡ record_at (cells_at s) 0 = length-take-le (cells_at s) s (omega arith) ∙ omega arith in
      ap (λ (n : ℕ). map (λ i. cell_from w (record_at (cells_at w) i)) (up_to 0 n)) cell_count_w
      ∙ ap (λ (c : ℕ). map (λ i. cell_from w (record_at c i)) (up_to 0 (length ks))) same_cells_at
      ∙ cells_written (cells_at s) (take (cells_at s) s) ks (trailer s (cells_at s + 16 * length ks + 20)) 0 start r.words

  same_origins : origins w ≡ origins s
  same_origins = ap (λ (e : ℕ). cond (eqb e 1) 1 65536) same_edition

  bad_cell_w : All (λ k. cell_ok (origins s) (tables_at s) (table_count s) k ≡ true) ks → bad_cell w ≡ none
  unfolding bad_cell cells_of
  bad_cell_w h =
      let all : All (λ k. cell_ok (origins w) (tables_at w) (table_count w) k ≡ true) (map (cell w) (up_to 0 (cell_count w))) =
      subst (λ (cs : List Cell). All (λ k. cell_ok (origins w) (tables_at w) (table_count w) k ≡ true) cs) (sym cells_of_w)
      (subst (λ (o : ℕ). All (λ k. cell_ok o (tables_at w) (table_count w) k ≡ true) ks) (sym same_origins)
      (subst (λ (t : ℕ). All (λ k. cell_ok (origins s) t (table_count w) k ≡ true) ks) (sym same_tables_at)
      (subst (λ (t : ℕ). All (λ k. cell_ok (origins s) (tables_at s) t k ≡ true) ks) (sym same_table_count) h))) in
      all_passing (λ i. cell_ok (origins w) (tables_at w) (table_count w) (cell w i)) 0 (cell_count w)
      (λ j a b. all_at (λ k. cell_ok (origins w) (tables_at w) (table_count w) k ≡ true) (cell w) 0 (cell_count w) all j a b)

  -- Other cells are then written as they would be from s.
  written_over : (ls : List Cell) → sheet_with w ls ≡ sheet_with s ls
  unfolding sheet_with trailer
  written_over ls =
      let same_front : take (cells_at w) w ≡ take (cells_at s) s =
      ap (λ (n : ℕ). take n w) same_cells_at
      ∙ take_at (take (cells_at s) s) (cells_bytes ks ++ trailer s (cells_at s + 16 * length ks + 20)) (cells_at s) (length-take-le (cells_at s) s (omega arith)) in
      cc (same_front, same_tables_at, same_columns_at, same_cells_at, same_edition)

pub node_size_positive : (m : Node) → 1 ≤ node_size m
node_size_positive (leaf og l) = leaf_positive l
  where
    leaf_positive : (l : Leaf) → 1 ≤ leaf_size l
    leaf_positive (scan t al f) = omega arith
    leaf_positive (lookup a t al vs) = omega arith
    leaf_positive (nothing ls) = omega arith
    leaf_positive (values rs) = omega arith
node_size_positive (over og o m) = omega (arith, node_size_positive m)
node_size_positive (join og outer j l r) = omega (arith, node_size_positive l)

-- Cells that pass their test but for their origins, and whose origins the sheet has.
all_ok : (origins bytes tables : ℕ) (ks : List Cell) → All (Good bytes tables) ks → All (λ k. k.origin < origins) ks → All (λ k. cell_ok origins bytes tables k ≡ true) ks
all_ok origins bytes tables [] g o = tt
all_ok origins bytes tables (k ∷ ks) g o =
    (ok_marked 1 origins bytes tables k.origin (marked 0 k) o.0 g.0.ok, all_ok origins bytes tables ks g.1 o.1)

module _ (s : List ℕ) (n : Node) (h : plan s ≡ done n) (m : Node) (c : CanHold s m) where
  -- It is exact, so its cells can stand in the sheet.
  held_exact : Exact (text s) (table_count s) m
  held_exact =
      let a = accepted s n h in
      exact (schema s) (λ t. (tables_good s (parts_of a) a.records_are t).narrow) (text s) (length (text s)) (table_count s) m 0 c.fits c.in_scope c.room

  held_good : All (Good (length (text s)) (table_count s)) (cells m)
  held_good =
      let p = parts_of (accepted s n h) in
      cells_good (text s) (table_count s) (omega (arith, text_length s p)) (omega arith) m held_exact

  held_cells : Replaces s (cells m)
  held_cells =
      record {
        parts_are = parts_of (accepted s n h);
        some_cells = omega (arith, node_length m, node_size_positive m);
        few_cells = omega (arith, node_length m, c.room);
        words = all_map (Good (length (text s)) (table_count s)) Words (λ k g. g.words) (cells m) held_good;
      }

  -- Its text and its schema are those of the sheet, and its cells those of the plan.
  pub written_text : text (write s m) ≡ text s
  unfolding write
  written_text = same_text s (cells m) held_cells

  pub written_schema : schema (write s m) ≡ schema s
  unfolding write
  written_schema = same_schema s (cells m) held_cells (accepted s n h).records_are

  pub written_cells : cells_of (write s m) ≡ cells m
  unfolding write
  written_cells = cells_of_w s (cells m) held_cells

  -- What is handed out is accepted, as the plan that was written.
  pub written_plan : plan (write s m) ≡ done m
  unfolding write
  written_plan =
      let a = accepted s n h in
      let p = parts_of a in
      let ok : All (λ k. cell_ok (origins s) (tables_at s) (table_count s) k ≡ true) (cells m) =
      subst (λ (t : ℕ). All (λ k. cell_ok (origins s) t (table_count s) k ≡ true) (cells m)) (text_length s p)
      (all_ok (origins s) (length (text s)) (table_count s) (cells m) held_good c.origins_are) in
      accepting (record {
        length_is = length_ok_w s (cells m) held_cells;
        edition_is = edition_ok_w s (cells m) held_cells;
        parts_are = parts_ok_w s (cells m) held_cells;
        records_are = bad_record_w s (cells m) held_cells a.records_are;
        cells_are = bad_cell_w s (cells m) held_cells ok;
        reads = ap (λ (t : List ℕ). read t 0 (cells_of (write s m)) []) written_text ∙ ap (λ (ks : List Cell). read (text s) 0 ks []) written_cells
            ∙ complete (text s) (table_count s) (omega (arith, text_length s p)) (omega arith) m held_exact 0;
        scope_is = ap (λ (t : Schema). outside t 0 m) written_schema ∙ c.in_scope;
        targets_are = c.targets;
      })

  pub written_check : check (write s m) ≡ record { number = 0; place = 0; length = 0; cells = node_size m; columns = columns (schema s) m }
  unfolding check write
  written_check =
      let e : cell_count (write s m) ≡ node_size m = cell_count_w s (cells m) held_cells ∙ node_length m in
      rw (written_plan, e, written_schema)

  pub written_length : length (write s m) ≡ cells_at s + 16 * node_size m + 20
  unfolding write
  written_length = length_w s (cells m) held_cells ∙ ap (λ (k : ℕ). cells_at s + 16 * k + 20) (node_length m)

  -- A plan is written from it as from the first sheet.
  pub written_again : (k : Node) → write (write s m) k ≡ write s k
  unfolding write
  written_again k = written_over s (cells m) held_cells (cells k)
