-- What the code holds of a sheet, set beside the definitions of crate `sheet`.
use Rattle.std.specs.Prelude.{ℕ, ◌+◌, ◌*◌, ◌≤◌, ◌<◌, ◌≡◌, Bool, true, ◌&&◌, List, ltb, eqb, length, Option as CodeOption, Some, None}
use Rattle.std.proofs.Math.Option.{Option, none, some}
use Rattle.sheet.specs.Parts.{length_ok, parts_ok, tables_at, columns_at, cells_at, table_count, column_count, cell_count, table_name, first_column, columns_of, key_of, column_name, kind_of, index_mark, inside, record_ok, first_failing}
use Rattle.sheet.specs.Bytes.{byte, half, word}
use Rattle.sheet.specs.Cell as Sheet
use Rattle.layout.specs.declared.Parts.{Parts}
use Rattle.layout.specs.declared.Cell.{Cell}
use Rattle.layout.specs.declared.Column.{Column}
use Rattle.layout.specs.declared.Table.{Table}

-- r is the number n, and n is below a bound: 256 for a byte, 2^16 for a half, 2^32 for a word.
pub record Number (bound n r : ℕ) : Type 0 where
  pub is : r ≡ n
  pub small : r < bound

-- What refusals 2 and 4 leave: the length is right, and the parts stand in order.
pub record Whole (s : List ℕ) : Type 0 where
  pub length_is : length_ok s ≡ true
  pub parts_are : parts_ok s ≡ true

-- The numbers of the parts of a sheet.
abbrev pub parts_of : List ℕ → Parts
parts_of s =
    record {
      tables = record { at = tables_at s; count = table_count s };
      columns = record { at = columns_at s; count = column_count s };
      cells = record { at = cells_at s; count = cell_count s };
    }

-- p has the numbers of the parts of s. The parts follow each other, the trailer follows the cells, and no part is over its limit.
pub record Laid (s : List ℕ) (p : Parts) : Type 0 where
  pub is : p ≡ parts_of s
  pub text_few : p.tables.at ≤ 8192
  pub tables_few : p.tables.count ≤ 16
  pub columns_few : p.columns.count ≤ 256
  pub cells_few : p.cells.count ≤ 2048
  pub cells_some : 1 ≤ p.cells.count
  pub tables_end : p.tables.at + p.tables.count * 16 ≡ p.columns.at
  pub columns_end : p.columns.at + p.columns.count * 16 ≡ p.cells.at
  pub cells_end : p.cells.at + p.cells.count * 16 + 20 ≡ length s

-- The table record that starts at byte i, and the record of table i.
abbrev pub table_from : List ℕ → ℕ → Table
table_from s i = record { name = word s i; first = word s (i + 4); count = word s (i + 8); key = word s (i + 12) }

abbrev pub table_at : List ℕ → ℕ → Table
table_at s i = record { name = table_name s i; first = first_column s i; count = columns_of s i; key = key_of s i }

-- t is the table record x, and its fields are words.
pub record IsTable (x t : Table) : Type 0 where
  pub is : t ≡ x
  pub name_small : t.name < 4294967296
  pub first_small : t.first < 4294967296
  pub count_small : t.count < 4294967296
  pub key_small : t.key < 4294967296

-- The column record that starts at byte i, and the record of column i.
abbrev pub column_from : List ℕ → ℕ → Column
column_from s i = record { name = word s i; kind = byte s (i + 4); index = byte s (i + 5) }

abbrev pub column_at : List ℕ → ℕ → Column
column_at s i = record { name = column_name s i; kind = kind_of s i; index = index_mark s i }

-- k is the column record x, and its fields are a word and bytes.
pub record IsColumn (x k : Column) : Type 0 where
  pub is : k ≡ x
  pub name_small : k.name < 4294967296
  pub kind_small : k.kind < 256
  pub index_small : k.index < 256

-- What `column_ok` asks of the column record that starts at byte i, but that it is in some table's range; the text has so many bytes.
abbrev pub column_fields_ok : (s : List ℕ) (i text : ℕ) → Bool
column_fields_ok s i text =
    inside text (word s i)
    && (ltb (byte s (i + 4)) 4 && (ltb (byte s (i + 5)) 2 && (eqb (half s (i + 6)) 0 && (eqb (word s (i + 8)) 0 && eqb (word s (i + 12)) 0))))

-- The lowest record behind the tables that breaks its layout, by its number among the records, tables counted first.
abbrev pub bad_column : List ℕ → Option ℕ
bad_column s = first_failing (record_ok s) (table_count s) (column_count s)

-- A cell of the code, as the definitions have it.
abbrev pub as_cell : Cell → Sheet.Cell
as_cell k = record { tag = k.tag; flag = k.flag; origin = k.origin; a = k.a; b = k.b; c = k.c }

-- k is the cell x, and its fields are bytes, a half and words.
pub record IsCell (x : Sheet.Cell) (k : Cell) : Type 0 where
  pub is : as_cell k ≡ x
  pub tag_small : k.tag < 256
  pub flag_small : k.flag < 256
  pub origin_small : k.origin < 65536
  pub a_small : k.a < 4294967296
  pub b_small : k.b < 4294967296
  pub c_small : k.c < 4294967296

-- The code's answer of a search, as the definitions have it.
abbrev pub found : CodeOption ℕ → Option ℕ
found (Some i) = some i
found None = none
