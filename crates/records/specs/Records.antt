-- What the code is lent of a schema: its tables and columns as a sheet has them, in records of 16 bytes each (crate sheet, Parts.antt).
use Rattle.std.specs.Prelude.{ℕ, ◌+◌, ◌*◌, ◌/◌, ◌≤◌, ◌<◌, cond, ◌≡◌, List, map, ltb, eqb, length, get_or}
use Rattle.sql.specs.Schema.{Boolean, Column, Table, Schema, table_of}
use Rattle.sql.specs.Plan.{up_to}
use Rattle.sheet.specs.Bytes.{byte, word}
use Rattle.sheet.specs.Check.{kinds}

-- the number of records
abbrev pub record_count : List ℕ → ℕ
record_count records = length records / 16

-- the word at byte k of record i, or 0 if there is no such record
unfoldable pub field : (k : ℕ) (records : List ℕ) (i : ℕ) → ℕ
field k records i = cond (ltb i (record_count records)) (word records (i * 16 + k)) 0

-- ---- the record of table t: its name, its first column among the columns of all tables, its number of columns, and its key, which counts among these

abbrev pub table_name : List ℕ → ℕ → ℕ
table_name = field 0

abbrev pub first_column : List ℕ → ℕ → ℕ
first_column = field 4

abbrev pub table_width : List ℕ → ℕ → ℕ
table_width = field 8

abbrev pub primary_key : List ℕ → ℕ → ℕ
primary_key = field 12

-- ---- the schema that the records say

abbrev pub column_in : List ℕ → ℕ → Column
column_in columns i =
    record {
      name = word columns (i * 16);
      kind = get_or kinds (byte columns (i * 16 + 4)) Boolean;
      index = eqb (byte columns (i * 16 + 5)) 1;
    }

abbrev pub table_in : (tables columns : List ℕ) → ℕ → Table
table_in tables columns t =
    record {
      name = table_name tables t;
      primary_key = primary_key tables t;
      columns = map (column_in columns) (up_to (first_column tables t) (table_width tables t));
    }

unfoldable pub schema_in : (tables columns : List ℕ) → Schema
schema_in tables columns = map (table_in tables columns) (up_to 0 (record_count tables))

-- The records say the schema. A table's columns have records, its key is one of them, and a sheet has at most 256 columns.
pub record Records (tables columns : List ℕ) (schema : Schema) : Type 0 where
  pub say : schema ≡ schema_in tables columns
  pub inside : (t : ℕ) → 16 * (first_column tables t + table_width tables t) ≤ length columns
  pub key_inside : (t : ℕ) → t < record_count tables → primary_key tables t < table_width tables t
  pub few : length columns ≤ 4096

pub record RecordsAt (tables columns : List ℕ) : Type 0 where
  pub schema : Schema
  pub given : Records tables columns schema

-- What the table records alone say of the schema: the number of columns of each table, of which a sheet has at most 256.
pub record Tables (tables : List ℕ) (schema : Schema) : Type 0 where
  pub width : (t : ℕ) → table_width tables t ≡ length (table_of schema t).columns
  pub few : (t : ℕ) → table_width tables t ≤ 256
