-- What the checks say of a sheet that passes them, for who reads it afterwards; and of a place that they name.
use Prim.Native.Nat.{ℕ, ◌+◌, ◌-◌, ◌≤◌, ◌<◌}
use native.Mathlib.Omega.{arith}
use mathlib.Core.Path.{◌≡◌, sym, ap, ◌∙◌}
use mathlib.Core.Bool.{Bool, true, cond}
use mathlib.Core.List.{List}
use mathlib.Core.Option.{none, some}
use lib.Dec.{leb, ltb, eqb}
use borrow.Author.Tests.{lt-ltb, le-ltb, leb-true, ltb-true, eqb-true}
use Rattle.value.specs.Meaning.{offset, text_length}
use Rattle.sheet.specs.Bytes.{byte, half, word}
use Rattle.sheet.specs.Parts.{tables_at, table_count, column_count, cell_count, inside, table_name, first_column, columns_of, key_of, columns_before, table_ok, column_name, kind_of, index_mark, column_ok, record_ok, bad_record}
use Rattle.sheet.specs.Cell.{origins, Cell, cell, tag_of, fields_ok, float_ok, cell_ok, bad_cell}
use Rattle.layout.proofs.Failing.{none_fails, one_fails}
use Rattle.layout.proofs.Laws.{and_left, and_right}
use Rattle.layout.proofs.Cells.{cell_test}

-- ---- numbers: of bytes below 256, as those of a slice are

module _ (s : List ℕ) (bytes : (i : ℕ) → byte s i < 256) (i : ℕ) where
  pub half_small : half s i < 65536
  unfolding half
  half_small = omega (arith, bytes i, bytes (i + 1))

  pub word_small : word s i < 4294967296
  unfolding word
  word_small = omega (arith, bytes i, bytes (i + 1), bytes (i + 2), bytes (i + 3))

-- ---- records

-- Table i has its name inside the text, and its range of columns, with its key in it, among the column records.
pub record KnownTable (s : List ℕ) (i : ℕ) : Type 0 where
  pub name : offset (table_name s i) + text_length (table_name s i) ≤ tables_at s
  pub starts : first_column s i ≡ columns_before s i
  pub some_column : 1 ≤ columns_of s i
  pub within : first_column s i + columns_of s i ≤ column_count s
  pub key : key_of s i < columns_of s i

-- Column i has its name inside the text, a kind and an index mark.
pub record KnownColumn (s : List ℕ) (i : ℕ) : Type 0 where
  pub in_range : i < columns_before s (table_count s)
  pub name : offset (column_name s i) + text_length (column_name s i) ≤ tables_at s
  pub kind : kind_of s i < 4
  pub index : index_mark s i < 2

module _ (s : List ℕ) where
  pub table_known : (i : ℕ) → table_ok s i ≡ true → KnownTable s i
  unfolding table_ok
  table_known i e =
      let f = and_right (inside (tables_at s) (table_name s i)) _ e in
      let g = and_right (eqb (first_column s i) (columns_before s i)) _ f in
      let h = and_right (leb 1 (columns_of s i)) _ g in
      record {
        name = leb-true _ _ (and_left (inside (tables_at s) (table_name s i)) _ e);
        starts = eqb-true _ _ (and_left (eqb (first_column s i) (columns_before s i)) _ f);
        some_column = leb-true _ _ (and_left (leb 1 (columns_of s i)) _ g);
        within = leb-true _ _ (and_left (leb (first_column s i + columns_of s i) (column_count s)) _ h);
        key = ltb-true _ _ (and_right (leb (first_column s i + columns_of s i) (column_count s)) _ h);
      }

  pub column_known : (i : ℕ) → column_ok s i ≡ true → KnownColumn s i
  unfolding column_ok
  column_known i e =
      let f = and_right (ltb i (columns_before s (table_count s))) _ e in
      let g = and_right (inside (tables_at s) (column_name s i)) _ f in
      let h = and_right (ltb (kind_of s i) 4) _ g in
      record {
        in_range = ltb-true _ _ (and_left (ltb i (columns_before s (table_count s))) _ e);
        name = leb-true _ _ (and_left (inside (tables_at s) (column_name s i)) _ f);
        kind = ltb-true _ _ (and_left (ltb (kind_of s i) 4) _ g);
        index = ltb-true _ _ (and_left (ltb (index_mark s i) 2) _ h);
      }

  module _ (e : bad_record s ≡ none) where
    records_pass : (i : ℕ) → i < table_count s + column_count s → record_ok s i ≡ true
    unfolding bad_record
    records_pass i h = none_fails (record_ok s) 0 (table_count s + column_count s) e i (omega arith) (omega arith)

    pub tables_pass : (i : ℕ) → i < table_count s → table_ok s i ≡ true
    tables_pass i h =
        sym (ap (λ (b : Bool). cond b (table_ok s i) (column_ok s (i - table_count s))) (lt-ltb i (table_count s) h)) ∙ records_pass i (omega arith)

    pub columns_pass : (i : ℕ) → i < column_count s → column_ok s i ≡ true
    columns_pass i h =
        let n : table_count s + i - table_count s ≡ i = omega arith in
        sym
        (ap (λ (b : Bool). cond b (table_ok s (table_count s + i)) (column_ok s (table_count s + i - table_count s)))
        (le-ltb (table_count s + i) (table_count s) (omega arith))
        ∙ ap (column_ok s) n)
        ∙ records_pass (table_count s + i) (omega arith)

  -- ---- cells

  pub cells_pass : bad_cell s ≡ none → (i : ℕ) → i < cell_count s → cell_ok (origins s) (tables_at s) (table_count s) (cell s i) ≡ true
  unfolding bad_cell
  cells_pass e i h = none_fails (cell_test s) 0 (cell_count s) e i (omega arith) (omega arith)

  pub bad_cell_within : {i : ℕ} → bad_cell s ≡ some i → i < cell_count s
  unfolding bad_cell
  bad_cell_within e = let f = one_fails (cell_test s) 0 (cell_count s) e in omega (arith, f.below)

-- A cell that passes has what its tag allows in its fields; a Float is no NaN but the one.
pub fields_pass : (origins bytes tables : ℕ) (k : Cell) → cell_ok origins bytes tables k ≡ true → fields_ok origins bytes tables k (tag_of k.tag) ≡ true
unfolding cell_ok
fields_pass origins bytes tables k e = and_left (fields_ok origins bytes tables k (tag_of k.tag)) _ e

pub float_pass : (origins bytes tables : ℕ) (k : Cell) → cell_ok origins bytes tables k ≡ true → float_ok k ≡ true
unfolding cell_ok
float_pass origins bytes tables k e = and_right (fields_ok origins bytes tables k (tag_of k.tag)) _ e
