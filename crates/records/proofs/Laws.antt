-- What is read of the records, by the schema that they say.
-- Assumes nothing.
use Prim.Native.Nat.{ℕ, zero, suc, ◌+◌, ◌*◌, ◌≤◌, ◌<◌}
use native.Mathlib.Omega.{arith}
use native.Mathlib.Decide.{dec_lt}
use borrow.Author.Tests.{lt-ltb, le-ltb}
use mathlib.Core.Bool.{Bool, cond}
use mathlib.Core.Path.{◌≡◌, refl, sym, ap, ◌∙◌}
use mathlib.Core.List.{List, map}
use lib.ListN.{length, get_or, get_or-eq_default}
use Rattle.sql.specs.Schema.{Table, Schema, no_column, no_table, table_of, column_of}
use Rattle.sql.specs.Plan.{up_to}
use Rattle.sheet.specs.Bytes.{word}
use Rattle.records.specs.Records.{record_count, field, first_column, table_width, primary_key, column_in, table_in, schema_in, Records, Tables}

-- ---- what a function gives of each number of a range

module _ {A : Type 0} (f : ℕ → A) where
  pub length_range : (k n : ℕ) → length (map f (up_to k n)) ≡ n
  length_range k zero = refl
  length_range k (suc n) = ap suc (length_range (suc k) n)

  pub getD_range : (d : A) (k n i : ℕ) → i < n → get_or (map f (up_to k n)) i d ≡ f (k + i)
  getD_range d k zero i h = absurd (omega arith)
  getD_range d k (suc n) zero h = let e : k ≡ k + 0 = omega arith in ap f e
  getD_range d k (suc n) (suc i) h = let e : suc k + i ≡ k + suc i = omega arith in getD_range d (suc k) n i (omega arith) ∙ ap f e

-- ---- a field

pub field_there : (k : ℕ) (records : List ℕ) (i : ℕ) → i < record_count records → field k records i ≡ word records (i * 16 + k)
unfolding field
field_there k records i h = ap (λ (b : Bool). cond b (word records (i * 16 + k)) 0) (lt-ltb i (record_count records) h)

pub field_none : (k : ℕ) (records : List ℕ) (i : ℕ) → record_count records ≤ i → field k records i ≡ 0
unfolding field
field_none k records i h = ap (λ (b : Bool). cond b (word records (i * 16 + k)) 0) (le-ltb i (record_count records) h)

-- A record that says a number is there.
pub field_some : (k : ℕ) (records : List ℕ) (i : ℕ) → 0 < field k records i → i < record_count records
field_some k records i h = go (dec_lt i (record_count records))
  where
    go : Dec (i < record_count records) → i < record_count records
    go (yes j) = j
    go (no j) = absurd (omega (arith, field_none k records i (omega arith)))

-- ---- tables and columns

module _ {schema : Schema} {tables columns : List ℕ} (g : Records tables columns schema) (t : ℕ) where
  -- The record of a table says it, also of a table that there isn't.
  pub table_said : table_of schema t ≡ table_in tables columns t
  unfolding schema_in
  table_said = ap (λ (l : Schema). get_or l t no_table) g.say ∙ go (dec_lt t (record_count tables))
    where
      go : Dec (t < record_count tables) → get_or (map (table_in tables columns) (up_to 0 (record_count tables))) t no_table ≡ table_in tables columns t
      go (yes h) = let e : 0 + t ≡ t = omega arith in getD_range (table_in tables columns) no_table 0 (record_count tables) t h ∙ ap (table_in tables columns) e
      go (no h) =
          let k : record_count tables ≤ t = omega arith in
          get_or-eq_default (map (table_in tables columns) (up_to 0 (record_count tables))) no_table (omega (arith, length_range (table_in tables columns) 0 (record_count tables)))
          ∙ rw (field_none 0 tables t k, field_none 4 tables t k, field_none 8 tables t k, field_none 12 tables t k)

  pub key_said : primary_key tables t ≡ (table_of schema t).primary_key
  key_said = ap (λ (u : Table). u.primary_key) (sym table_said)

  pub width_said : table_width tables t ≡ length (table_of schema t).columns
  width_said = sym (ap (λ (u : Table). length u.columns) table_said ∙ length_range (column_in columns) (first_column tables t) (table_width tables t))

  -- column i of a table that has it
  pub column_said : (i : ℕ) → i < table_width tables t → column_of schema t i ≡ column_in columns (first_column tables t + i)
  column_said i h =
      ap (λ (u : Table). get_or u.columns i no_column) table_said ∙ getD_range (column_in columns) no_column (first_column tables t) (table_width tables t) i h

  pub column_none : (i : ℕ) → table_width tables t ≤ i → column_of schema t i ≡ no_column
  column_none i h = get_or-eq_default (table_of schema t).columns no_column (omega (arith, width_said))

-- The table records alone.
pub tables_said : {schema : Schema} {tables columns : List ℕ} → Records tables columns schema → Tables tables schema
tables_said g = record { width = width_said g; few = λ t. omega (arith, g.inside t, g.few) }
