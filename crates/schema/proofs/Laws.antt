-- Laws on the records of a sheet: what its checks leave of them.
-- Assumes nothing.
use Prim.Native.Nat.{ℕ, ◌<◌}
use mathlib.Core.Path.{◌≡◌, refl, ap, ◌∙◌}
use mathlib.Core.List.{List}
use lib.ListN.{get_or}
use Rattle.sql.specs.Schema.{table_of, no_table}
use Rattle.sql.specs.Schema as Sql
use Rattle.sql.specs.Answer.{done}
use Rattle.sql.specs.Plan.{Node}
use Rattle.sheet.specs.Parts.{table_count, column_count, kind_of}
use Rattle.sheet.specs.Check.{kinds, column, plan}
use Rattle.sheet_laws.specs.Accepted.{accepted}
use Rattle.layout.proofs.Known.{KnownTable, table_known, column_known, tables_pass, columns_pass}
use Rattle.schema.specs.declared.Kind.{Kind}
use Rattle.schema.specs.declared.Kind.TheVariants.{Boolean, Integer, Float, String}
use Rattle.schema.specs.Schema.{Recorded, as_kind, number}

-- An accepted sheet has its records in order.
pub recorded : (s : List ℕ) (n : Node) → plan s ≡ done n → Recorded s
recorded s n h = let a = accepted s n h in record { whole = record { length_is = a.length_is; parts_are = a.parts_are }; records_are = a.records_are }

-- ---- kinds

pub kind_is : (s : List ℕ) (i : ℕ) (k : Kind) → number k ≡ kind_of s i → (number k ≡ kind_of s i) × (as_kind k ≡ (column s i).kind)
kind_is s i k e = (e, named k ∙ ap (λ (n : ℕ). get_or kinds n Sql.Boolean) e)
  where
    named : (k : Kind) → as_kind k ≡ get_or kinds (number k) Sql.Boolean
    named Boolean = refl
    named Integer = refl
    named Float = refl
    named String = refl

pub kind_few : {s : List ℕ} {i : ℕ} → Recorded s → i < column_count s → kind_of s i < 4
kind_few {s} {i} r h = (column_known s i (columns_pass s r.records_are i h)).kind

-- ---- tables

pub known : (s : List ℕ) → Recorded s → (t : ℕ) → t < table_count s → KnownTable s t
known s r t h = table_known s t (tables_pass s r.records_are t h)
