-- What the functions over a sheet's records are given, and what they hand out.
use Rattle.std.specs.Prelude.{ℕ, ◌-◌, ◌≡◌, List, take, drop, ◌<◌, Result, MatchResult}
use Rattle.std.proofs.Math.Option.{none}
use Rattle.sql.specs.Schema as Sql
use Rattle.sheet.specs.Parts.{tables_at, columns_at, cells_at, bad_record}
use Rattle.layout.specs.Layout.{Whole}
use Rattle.schema.specs.declared.Kind.{Kind}
use Rattle.schema.specs.declared.Kind.TheVariants.{Boolean, Integer, Float, String}
use Rattle.schema.specs.declared.UnknownKind.{UnknownKind}

-- What refusals 2, 4 and 5 leave: the parts stand in order, and each record is as it should be.
pub record Recorded (s : List ℕ) : Type 0 where
  pub whole : Whole s
  pub records_are : bad_record s ≡ none

-- The table records of a sheet, which stand before the column records.
abbrev pub table_records : List ℕ → List ℕ
table_records s = take (columns_at s - tables_at s) (drop (tables_at s) s)

-- The column records of a sheet, which stand before the cells.
abbrev pub column_records : List ℕ → List ℕ
column_records s = take (cells_at s - columns_at s) (drop (columns_at s) s)

-- A kind as the definitions have it, and as a sheet does.
abbrev pub as_kind : Kind → Sql.Kind
as_kind Boolean = Sql.Boolean
as_kind Integer = Sql.Integer
as_kind Float = Sql.Float
as_kind String = Sql.String

abbrev pub number : Kind → ℕ
number Boolean = 0
number Integer = 1
number Float = 2
number String = 3

-- The result is the kind that has this number, or an error with a number that no kind has.
abbrev pub Decodes : ℕ → Result Kind UnknownKind → Type 0
Decodes n r = MatchResult r (λ kind. number kind ≡ n) (λ e. (e.0 ≡ n) × (3 < n))
