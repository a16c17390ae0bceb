-- Two sheets whose parts stand at the same places and whose bytes before the cells are the same have the same text and records, and the same schema.
use Rattle.std.specs.Prelude.{ℕ, zero, suc, ◌+◌, ◌-◌, ◌≤◌, ◌<◌, ◌≡◌, refl, Bool, true, false, cond, ltb, length, take}
use Rattle.std.proofs.Common.{arith, ltb-true, ltb-false, sym, ◌∙◌, length-take-le, ext_get_or, get_or-take}
use Rattle.std.proofs.Math.Path.{ap}
use mathlib.Core.List.{List, map}
use Rattle.std.proofs.Math.Option.{Option, none, some}
use Rattle.sql.specs.Plan.{up_to}
use Rattle.sheet.specs.Bytes.{byte, half, word}
use Rattle.sheet.specs.Parts.{tables_at, columns_at, cells_at, table_count, column_count, record_at, table_name, first_column, columns_of, columns_before, table_ok, column_name, column_ok, record_ok, first_failing, bad_record}
use Rattle.sheet.specs.Check.{text, table, column, schema}
use Rattle.sheet_laws.specs.Layout.{Parts, table_facts}

-- walks with the same answers at each place
pub walks_alike : (u v : ℕ → Bool) (i k : ℕ) → ((j : ℕ) → i ≤ j → j < i + k → u j ≡ v j) → first_failing u i k ≡ first_failing v i k
unfolding first_failing
walks_alike u v i zero h = refl
walks_alike u v i (suc k) h =
    ap (λ (b : Bool). elim b [ true ↦ first_failing u (suc i) k | false ↦ some i ]) (h i (omega arith) (omega arith))
    ∙ ap (λ (o : Option ℕ). elim (v i) [ true ↦ o | false ↦ some i ]) (walks_alike u v (suc i) k (λ j p q. h j (omega arith) (omega arith)))

pub map_alike : {A : Type 0} (f g : ℕ → A) (i k : ℕ) → ((j : ℕ) → i ≤ j → j < i + k → f j ≡ g j) → map f (up_to i k) ≡ map g (up_to i k)
map_alike f g i zero h = refl
map_alike f g i (suc k) h = cc (h i (omega arith) (omega arith), map_alike f g (suc i) k (λ j p q. h j (omega arith) (omega arith)))

take_alike : (n : ℕ) (s d : List ℕ) → n ≤ length s → length d ≡ length s → ((i : ℕ) → i < n → byte d i ≡ byte s i) → take n d ≡ take n s
take_alike n s d l e h =
    let a : length (take n d) ≡ n = length-take-le n d (omega arith) in
    let b : length (take n s) ≡ n = length-take-le n s l in
    ext_get_or 0 (take n d) (take n s) (a ∙ sym b)
    (λ i k. get_or-take n d i 0 (omega arith) ∙ (h i (omega arith) ∙ sym (get_or-take n s i 0 (omega arith))))

module _ (s d : List ℕ) (p : Parts s) (same_length : length d ≡ length s) (same_tables_at : tables_at d ≡ tables_at s) (same_columns_at : columns_at d ≡ columns_at s)
    (same_cells_at : cells_at d ≡ cells_at s) (same_byte : (i : ℕ) → i < cells_at s → byte d i ≡ byte s i) where
  pub same_front : take (cells_at d) d ≡ take (cells_at s) s
  same_front = ap (λ (n : ℕ). take n d) same_cells_at ∙ take_alike (cells_at s) s d (omega (arith, p.cells)) same_length same_byte

  pub same_text : text d ≡ text s
  same_text = ap (λ (n : ℕ). take n d) same_tables_at ∙ take_alike (tables_at s) s d (omega (arith, p.cells)) same_length (λ i h. same_byte i (omega arith))

  pub same_table_count : table_count d ≡ table_count s
  same_table_count = cc (same_tables_at, same_columns_at)

  pub same_column_count : column_count d ≡ column_count s
  same_column_count = cc (same_columns_at, same_cells_at)

  same_half : (i : ℕ) → i + 2 ≤ cells_at s → half d i ≡ half s i
  unfolding half
  same_half i h = cc (same_byte i (omega arith), same_byte (i + 1) (omega arith))

  same_word : (i : ℕ) → i + 4 ≤ cells_at s → word d i ≡ word s i
  unfolding word
  same_word i h = cc (same_byte i (omega arith), same_byte (i + 1) (omega arith), same_byte (i + 2) (omega arith), same_byte (i + 3) (omega arith))

  -- ---- tables

  table_word : (i off : ℕ) → i < table_count s → off + 4 ≤ 16 → word d (record_at (tables_at d) i + off) ≡ word s (record_at (tables_at s) i + off)
  table_word i off h o = ap (λ (t : ℕ). word d (record_at t i + off)) same_tables_at ∙ same_word (record_at (tables_at s) i + off) (omega arith)

  same_table_name : (i : ℕ) → i < table_count s → table_name d i ≡ table_name s i
  same_table_name i h = ap (λ (t : ℕ). word d (record_at t i)) same_tables_at ∙ same_word (record_at (tables_at s) i) (omega arith)

  same_before : (i : ℕ) → i ≤ table_count s → columns_before d i ≡ columns_before s i
  same_before zero h = refl
  same_before (suc i) h = cc (table_word i 4 (omega arith) (omega arith), table_word i 8 (omega arith) (omega arith))

  same_table_ok : (i : ℕ) → i < table_count s → table_ok d i ≡ table_ok s i
  unfolding table_ok
  same_table_ok i h =
      cc (same_tables_at, same_table_name i h, table_word i 4 h (omega arith), table_word i 8 h (omega arith), table_word i 12 h (omega arith), same_before i (omega arith), same_column_count)

  -- ---- columns

  column_word : (i off : ℕ) → i < column_count s → off + 4 ≤ 16 → word d (record_at (columns_at d) i + off) ≡ word s (record_at (columns_at s) i + off)
  column_word i off h o = ap (λ (t : ℕ). word d (record_at t i + off)) same_columns_at ∙ same_word (record_at (columns_at s) i + off) (omega arith)

  same_column_name : (i : ℕ) → i < column_count s → column_name d i ≡ column_name s i
  same_column_name i h = ap (λ (t : ℕ). word d (record_at t i)) same_columns_at ∙ same_word (record_at (columns_at s) i) (omega arith)

  column_byte : (i off : ℕ) → i < column_count s → off < 16 → byte d (record_at (columns_at d) i + off) ≡ byte s (record_at (columns_at s) i + off)
  column_byte i off h o = ap (λ (t : ℕ). byte d (record_at t i + off)) same_columns_at ∙ same_byte (record_at (columns_at s) i + off) (omega arith)

  same_zeros : (i : ℕ) → i < column_count s → half d (record_at (columns_at d) i + 6) ≡ half s (record_at (columns_at s) i + 6)
  same_zeros i h = ap (λ (t : ℕ). half d (record_at t i + 6)) same_columns_at ∙ same_half (record_at (columns_at s) i + 6) (omega arith)

  same_column_ok : (i : ℕ) → i < column_count s → column_ok d i ≡ column_ok s i
  unfolding column_ok
  same_column_ok i h =
      let before : columns_before d (table_count d) ≡ columns_before s (table_count s) = ap (columns_before d) same_table_count ∙ same_before (table_count s) (omega arith) in
      cc (
        before,
        same_tables_at,
        same_column_name i h,
        column_byte i 4 h (omega arith),
        column_byte i 5 h (omega arith),
        same_zeros i h,
        column_word i 8 h (omega arith),
        column_word i 12 h (omega arith),
      )

  -- ---- the walk over the records, and the schema

  same_record_ok : (i : ℕ) → i < table_count s + column_count s → record_ok d i ≡ record_ok s i
  same_record_ok i h =
      ap (λ (n : ℕ). cond (ltb i n) (table_ok d i) (column_ok d (i - n))) same_table_count ∙ go (ltb i (table_count s)) refl
    where
      go : (b : Bool) → ltb i (table_count s) ≡ b → cond b (table_ok d i) (column_ok d (i - table_count s)) ≡ cond b (table_ok s i) (column_ok s (i - table_count s))
      go true e = same_table_ok i (ltb-true i (table_count s) e)
      go false e = same_column_ok (i - table_count s) (omega (arith, ltb-false i (table_count s) e))

  pub same_bad_record : bad_record d ≡ bad_record s
  unfolding bad_record
  same_bad_record =
      let count : table_count d + column_count d ≡ table_count s + column_count s = cc (same_table_count, same_column_count) in
      ap (first_failing (record_ok d) 0) count
      ∙ walks_alike (record_ok d) (record_ok s) 0 (table_count s + column_count s) (λ j a b. same_record_ok j (omega arith))

  same_column : (i : ℕ) → i < column_count s → column d i ≡ column s i
  same_column i h = cc (same_column_name i h, column_byte i 4 h (omega arith), column_byte i 5 h (omega arith))

  same_table : bad_record s ≡ none → (i : ℕ) → i < table_count s → table d i ≡ table s i
  same_table ok i h =
      let f = table_facts s ok i h in
      let range : up_to (first_column d i) (columns_of d i) ≡ up_to (first_column s i) (columns_of s i) = cc (table_word i 4 h (omega arith), table_word i 8 h (omega arith)) in
      let cs : map (column d) (up_to (first_column d i) (columns_of d i)) ≡ map (column s) (up_to (first_column s i) (columns_of s i)) =
      ap (map (column d)) range ∙ map_alike (column d) (column s) (first_column s i) (columns_of s i) (λ j a b. same_column j (omega (arith, f.in_range))) in
      cc (same_table_name i h, table_word i 12 h (omega arith), cs)

  pub same_schema : bad_record s ≡ none → schema d ≡ schema s
  unfolding schema
  same_schema ok =
      ap (λ (n : ℕ). map (table d) (up_to 0 n)) same_table_count ∙ map_alike (table d) (table s) 0 (table_count s) (λ j a b. same_table ok j (omega arith))
