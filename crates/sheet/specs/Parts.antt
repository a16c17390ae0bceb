-- Document 01, "The sheet": a sheet is text, table records, column records, cells and a trailer of 20 bytes, each part where the trailer says.
-- Here: the parts, the records, and refusals 2 to 5. Each test says true of what is as it should be.
use Rattle.std.specs.Prelude.{ℕ, zero, suc, ◌+◌, ◌-◌, ◌*◌, ◌/◌, ◌%◌, Bool, true, false, ◌&&◌, ◌||◌, cond, List, leb, ltb, eqb, length}
use Rattle.std.proofs.Math.Option.{Option, none, some}
use Rattle.value.specs.Meaning.{offset, text_length}
use Rattle.sheet.specs.Bytes.{byte, half, word}

-- ---- the trailer, read from the sheet's end

abbrev pub tables_at : List ℕ → ℕ
tables_at s = word s (length s - 20)

abbrev pub columns_at : List ℕ → ℕ
columns_at s = word s (length s - 16)

abbrev pub cells_at : List ℕ → ℕ
cells_at s = word s (length s - 12)

abbrev pub edition : List ℕ → ℕ
edition s = word s (length s - 8)

abbrev pub said_length : List ℕ → ℕ
said_length s = word s (length s - 4)

-- Refusal 2: 20 to 45,332 bytes, and the last word is the length.
unfoldable pub length_ok : List ℕ → Bool
length_ok s = leb 20 (length s) && (leb (length s) 45332 && eqb (said_length s) (length s))

-- Refusal 3.
unfoldable pub edition_ok : List ℕ → Bool
edition_ok s = eqb (edition s) 1 || eqb (edition s) 2

-- From a byte up to another there are whole records of 16 bytes, at least `few` and at most `many`.
abbrev pub records_ok : ℕ → ℕ → ℕ → ℕ → Bool
records_ok from upto few many =
    leb from upto && (eqb ((upto - from) % 16) 0 && (leb (few * 16) (upto - from) && leb (upto - from) (many * 16)))

-- Refusal 4: the parts stand in order, are whole and within their limits, and there is a cell.
unfoldable pub parts_ok : List ℕ → Bool
parts_ok s =
    leb (tables_at s) 8192
    && (records_ok (tables_at s) (columns_at s) 0 16 && (records_ok (columns_at s) (cells_at s) 0 256 && records_ok (cells_at s) (length s - 20) 1 2048))

abbrev pub table_count : List ℕ → ℕ
table_count s = (columns_at s - tables_at s) / 16

abbrev pub column_count : List ℕ → ℕ
column_count s = (cells_at s - columns_at s) / 16

abbrev pub cell_count : List ℕ → ℕ
cell_count s = (length s - 20 - cells_at s) / 16

-- ---- text references: offset + 65,536 × length

-- A reference lies inside a text of so many bytes. An empty one may stand at the very end.
abbrev pub inside : ℕ → ℕ → Bool
inside text r = leb (offset r + text_length r) text

-- ---- records

-- where the record i of those that start at byte `from` starts
abbrev pub record_at : ℕ → ℕ → ℕ
record_at from i = from + i * 16

abbrev pub table_name : List ℕ → ℕ → ℕ
table_name s i = word s (record_at (tables_at s) i)

abbrev pub first_column : List ℕ → ℕ → ℕ
first_column s i = word s (record_at (tables_at s) i + 4)

abbrev pub columns_of : List ℕ → ℕ → ℕ
columns_of s i = word s (record_at (tables_at s) i + 8)

abbrev pub key_of : List ℕ → ℕ → ℕ
key_of s i = word s (record_at (tables_at s) i + 12)

-- The number of columns that the first i tables have, if their ranges follow each other.
abbrev pub columns_before : List ℕ → ℕ → ℕ
columns_before s zero = 0
columns_before s (suc i) = first_column s i + columns_of s i

-- A table's range of columns starts where the one before ended, has a column at least, and stays within the column records; its key is one of them.
unfoldable pub table_ok : List ℕ → ℕ → Bool
table_ok s i =
    inside (tables_at s) (table_name s i)
    && (eqb (first_column s i) (columns_before s i)
    && (leb 1 (columns_of s i) && (leb (first_column s i + columns_of s i) (column_count s) && ltb (key_of s i) (columns_of s i))))

abbrev pub column_name : List ℕ → ℕ → ℕ
column_name s i = word s (record_at (columns_at s) i)

abbrev pub kind_of : List ℕ → ℕ → ℕ
kind_of s i = byte s (record_at (columns_at s) i + 4)

abbrev pub index_mark : List ℕ → ℕ → ℕ
index_mark s i = byte s (record_at (columns_at s) i + 5)

-- A column is in some table's range; its name lies inside the text, its kind is 0 to 3, its index mark 0 or 1, and ten zeros follow.
unfoldable pub column_ok : List ℕ → ℕ → Bool
column_ok s i =
    ltb i (columns_before s (table_count s))
    && (inside (tables_at s) (column_name s i)
    && (ltb (kind_of s i) 4
    && (ltb (index_mark s i) 2
    && (eqb (half s (record_at (columns_at s) i + 6)) 0
    && (eqb (word s (record_at (columns_at s) i + 8)) 0 && eqb (word s (record_at (columns_at s) i + 12)) 0)))))

-- The records, tables counted first.
abbrev pub record_ok : List ℕ → ℕ → Bool
record_ok s i = cond (ltb i (table_count s)) (table_ok s i) (column_ok s (i - table_count s))

-- The first of the k numbers from i on that fails a test.
unfoldable pub first_failing : (ℕ → Bool) → ℕ → ℕ → Option ℕ
first_failing ok i zero = none
first_failing ok i (suc k) = elim (ok i) [ true ↦ first_failing ok (suc i) k | false ↦ some i ]

-- Refusal 5: the lowest record that breaks its layout.
unfoldable pub bad_record : List ℕ → Option ℕ
unfolding first_failing
bad_record s = first_failing (record_ok s) 0 (table_count s + column_count s)
