-- A table with two columns, as its records say it.
use Rattle.std.specs.Prelude.{ℕ, true, false, ◌≡◌, refl, List, [], ◌∷◌}
use Rattle.sql.specs.Schema.{Integer, String}
use Rattle.sheet.specs.Bytes.{word}
use Rattle.records.specs.Records.{field, table_width, schema_in}

-- named by the text reference 131072, its columns from 0 on, 2 of them, the second its key
tables : List ℕ
tables = 0 ∷ 0 ∷ 2 ∷ 0 ∷ 0 ∷ 0 ∷ 0 ∷ 0 ∷ 2 ∷ 0 ∷ 0 ∷ 0 ∷ 1 ∷ 0 ∷ 0 ∷ 0 ∷ []

-- an Integer with an index, and a String
columns : List ℕ
columns =
    7 ∷ 0 ∷ 1 ∷ 0 ∷ 1 ∷ 1 ∷ 0 ∷ 0 ∷ 0 ∷ 0 ∷ 0 ∷ 0 ∷ 0 ∷ 0 ∷ 0 ∷ 0
    ∷ 8 ∷ 0 ∷ 1 ∷ 0 ∷ 3 ∷ 0 ∷ 0 ∷ 0 ∷ 0 ∷ 0 ∷ 0 ∷ 0 ∷ 0 ∷ 0 ∷ 0 ∷ 0 ∷ []

says_table : schema_in tables columns ≡
    record {
      name = 131072;
      primary_key = 1;
      columns = record { name = 65543; kind = Integer; index = true } ∷ record { name = 65544; kind = String; index = false } ∷ [];
    } ∷ []
unfolding tables columns schema_in field word
says_table = refl

-- a second table, which there isn't
says_none : table_width tables 1 ≡ 0
unfolding tables field word
says_none = refl
