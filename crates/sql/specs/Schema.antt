-- schema.rs: the tables that a plan's scans and lookups read. A name is a text reference.
use Rattle.std.specs.Prelude.{ℕ, Bool, false, List, [], length, get_or}

-- the Rust's DataType
pub data Kind : Type 0 where
  Boolean Integer Float String : Kind

pub record Column : Type 0 where
  pub name : ℕ
  pub kind : Kind
  pub index : Bool

pub record Table : Type 0 where
  pub name : ℕ
  pub primary_key : ℕ
  pub columns : List Column

-- Tables by number.
abbrev pub Schema : Type 0
Schema = List Table

-- A table or column that there isn't; a plan in scope names none.
abbrev pub no_column : Column
no_column = record { name = 0; kind = Boolean; index = false }

abbrev pub no_table : Table
no_table = record { name = 0; primary_key = 0; columns = [] }

abbrev pub table_of : Schema → ℕ → Table
table_of schema table = get_or schema table no_table

abbrev pub column_of : Schema → ℕ → ℕ → Column
column_of schema table c = get_or (table_of schema table).columns c no_column
