-- What the passes are lent: the table and column records of a sheet say its schema (crate records).
-- Assumes nothing.
use Prim.Native.Nat.{ℕ, zero, suc, ◌+◌, ◌-◌, ◌*◌, ◌≤◌, ◌<◌}
use native.Mathlib.Omega.{arith}
use native.Mathlib.Decide.{dec_lt}
use mathlib.Core.Path.{◌≡◌, refl, sym, ap, ◌∙◌}
use mathlib.Core.List.{List, ◌∷◌, map}
use lib.ListN.{length, take, drop, length-take, length-drop}
use lib.Seq.{get_or-take, get_or-drop}
use Rattle.sql.specs.Schema.{Column}
use Rattle.sql.specs.Plan.{up_to}
use Rattle.sheet.specs.Bytes.{byte, word}
use Rattle.sheet.specs.Parts.{tables_at, columns_at, cells_at, table_count, column_count, record_at, columns_of, table_name, key_of, column_name}
use Rattle.sheet.specs.Parts as Parts
use Rattle.sheet.specs.Check.{column, table, schema}
use Rattle.layout.proofs.Laws.{laid}
use Rattle.records.specs.Records.{record_count, field, first_column, table_width, primary_key, column_in, table_in, schema_in, Records}
use Rattle.records.proofs.Laws.{field_there, field_none}
use Rattle.schema.specs.Schema.{Recorded, table_records, column_records}
use Rattle.schema.proofs.Laws.{known}

-- Two functions that agree on a range.
map_within : {A : Type 0} (f g : ℕ → A) (k n : ℕ) → ((i : ℕ) → i < k + n → f i ≡ g i) → map f (up_to k n) ≡ map g (up_to k n)
map_within f g k zero h = refl
map_within {A} f g k (suc n) h =
    ap (λ (x : A). x ∷ map f (up_to (suc k) n)) (h k (omega arith)) ∙ ap (λ (l : List A). g k ∷ l) (map_within f g (suc k) n (λ i z. h i (omega arith)))

-- A byte, and a word, of the n bytes from a place on.
byte_from : (s : List ℕ) (from n i m : ℕ) → m ≡ from + i → i < n → byte (take n (drop from s)) i ≡ byte s m
byte_from s from n i m e h = get_or-take n (drop from s) i 0 h ∙ (get_or-drop from s i 0 ∙ ap (byte s) (sym e))

word_from : (s : List ℕ) (from n i m : ℕ) → m ≡ from + i → i + 4 ≤ n → word (take n (drop from s)) i ≡ word s m
unfolding word
word_from s from n i m e h =
    rw (
      byte_from s from n i m (omega arith) (omega arith),
      byte_from s from n (i + 1) (m + 1) (omega arith) (omega arith),
      byte_from s from n (i + 2) (m + 2) (omega arith) (omega arith),
      byte_from s from n (i + 3) (m + 3) (omega arith) (omega arith),
    )

module _ (s : List ℕ) (r : Recorded s) where
  tables_long : length (table_records s) ≡ 16 * table_count s
  tables_long =
      let l = laid r.whole in
      let h = l.tables_end in
      let j = l.columns_end in
      let k = l.cells_end in
      simp (length-take, length-drop) (omega arith)

  columns_long : length (column_records s) ≡ 16 * column_count s
  columns_long =
      let l = laid r.whole in
      let h = l.columns_end in
      let k = l.cells_end in
      simp (length-take, length-drop) (omega arith)

  -- ---- a record

  field_is : (k t n : ℕ) → k ≤ 12 → t < table_count s → n ≡ record_at (tables_at s) t + k → field k (table_records s) t ≡ word s n
  field_is k t n i h e =
      let l = (laid r.whole).tables_end in
      field_there k (table_records s) t (omega (arith, tables_long)) ∙ word_from s (tables_at s) (columns_at s - tables_at s) (t * 16 + k) n (omega arith) (omega arith)

  column_is : (i : ℕ) → i < column_count s → column s i ≡ column_in (column_records s) i
  column_is i h =
      let l = (laid r.whole).columns_end in
      let bytes = cells_at s - columns_at s in
      rw (
        word_from s (columns_at s) bytes (i * 16) (record_at (columns_at s) i) refl (omega arith),
        byte_from s (columns_at s) bytes (i * 16 + 4) (record_at (columns_at s) i + 4) (omega arith) (omega arith),
        byte_from s (columns_at s) bytes (i * 16 + 5) (record_at (columns_at s) i + 5) (omega arith) (omega arith),
      )

  module _ (t : ℕ) (h : t < table_count s) where
    first_is : first_column (table_records s) t ≡ Parts.first_column s t
    first_is = field_is 4 t _ (omega arith) h refl

    width_is : table_width (table_records s) t ≡ columns_of s t
    width_is = field_is 8 t _ (omega arith) h refl

    key_is : primary_key (table_records s) t ≡ key_of s t
    key_is = field_is 12 t _ (omega arith) h refl

    table_is : table s t ≡ table_in (table_records s) (column_records s) t
    table_is =
        rw (field_is 0 t (record_at (tables_at s) t) (omega arith) h (omega arith), first_is, width_is, key_is)
        (ap (λ (l : List Column). record { name = table_name s t; primary_key = key_of s t; columns = l })
        (map_within (column s) (column_in (column_records s)) (Parts.first_column s t) (columns_of s t) (λ i k. column_is i (omega (arith, (known s r t h).within)))))

  -- ---- all of them

  pub records_said : Records (table_records s) (column_records s) (schema s)
  unfolding schema schema_in
  records_said =
      let e : table_count s ≡ record_count (table_records s) = omega (arith, tables_long) in
      record {
        say =
            map_within (table s) (table_in (table_records s) (column_records s)) 0 (table_count s) (λ t h. table_is t (omega arith))
            ∙ ap (λ (n : ℕ). map (table_in (table_records s) (column_records s)) (up_to 0 n)) e;
        inside = λ t. inside t (dec_lt t (table_count s));
        key_inside = λ t h. let i : t < table_count s = omega arith in omega (arith, key_is t i, width_is t i, (known s r t i).key);
        few = omega (arith, columns_long, (laid r.whole).columns_few);
      }
    where
      inside : (t : ℕ) → Dec (t < table_count s) → 16 * (first_column (table_records s) t + table_width (table_records s) t) ≤ length (column_records s)
      inside t (yes h) = omega (arith, first_is t h, width_is t h, (known s r t h).within, columns_long)
      inside t (no h) =
          let k : record_count (table_records s) ≤ t = omega (arith, tables_long) in
          omega (arith, field_none 4 (table_records s) t k, field_none 8 (table_records s) t k)
