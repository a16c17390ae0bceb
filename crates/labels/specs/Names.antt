-- The contracts that speak of the names of tables and columns, by the records that the code is lent (crate records): `records` are
-- those of the tables.
use Rattle.std.specs.Prelude.{ℕ, Bool, true, false, ◌≡◌, List, Option}
use Rattle.sql.specs.Schema.{Schema, column_of}
use Rattle.sql.specs.Plan.{Node, table_label, column_label}
use Rattle.words.specs.Place.{NodeHere}
use Rattle.records.specs.Records.{Records}
use Rattle.labels.specs.declared.Label.{Label}
use Rattle.labels.specs.Labels.{label, alias_of}

-- the alias's text if there is an alias, otherwise the table's name
abbrev pub qualifier_text : Bool → List ℕ → List ℕ → List ℕ
qualifier_text true alias name = alias
qualifier_text false alias name = name

-- ---- contracts

abbrev pub ColumnName : (records columns : List ℕ) (t i r : ℕ) → Type 0
ColumnName records columns t i r = (schema : Schema) → Records records columns schema → r ≡ (column_of schema t i).name

abbrev pub TableLabel : (records columns : List ℕ) (t : ℕ) (alias : Option ℕ) (i : ℕ) → Label → Type 0
TableLabel records columns t alias i r = (schema : Schema) → Records records columns schema → label r ≡ table_label schema t (alias_of alias) i

-- r is the label of column i of the node there.
abbrev pub ColumnLabel : (records columns s : List ℕ) (lo hi i : ℕ) → Label → Type 0
ColumnLabel records columns s lo hi i r =
    (schema : Schema) (p : Node) → Records records columns schema → NodeHere s lo hi p → label r ≡ column_label schema p i
