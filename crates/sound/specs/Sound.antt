-- What the checks ask of a plan, apart from its size, said without places: all that a cell says can be written, every column is in scope, and no two
-- Targets of one Remap have the same number. Checks.antt shows that it is what the checks ask.
use Rattle.std.specs.Prelude.{ℕ, ◌+◌, ◌^◌, ◌<◌, ◌≡◌, List, [], length}
use Rattle.std.proofs.Math.Option.{none}
use Rattle.value.specs.Value.{Value}
use Rattle.sql.specs.Schema.{Schema, table_of, column_of}
use Rattle.sql.specs.Expression.{Marked, Expression}
use Rattle.sql.specs.Plan.{Access, by_key, by_index, Leaf, scan, lookup, nothing, values, limit, offset, order, projection, remap, aggregate, Over, filter, other, Join, nested_loop, hash, Node, leaf, over, join, values_columns, columns}
use Rattle.sheet.specs.Scope.{table_columns, repeated}
use Rattle.sheet_laws.specs.Fits.{All, Optional, Reference, ValueFits, LabelFits, TableFits}
use Rattle.sound.specs.Expressions.{MadeOf}

-- `text` and `tables` are a sheet's text and its number of tables, `schema` what its records say.
module _ (schema : Schema) (text : List ℕ) (tables : ℕ) where
  -- a constant that can be written
  abbrev pub Fitting : Value → Type 0
  Fitting = ValueFits text (length text)

  -- an expression over a source with n columns
  abbrev pub Within : ℕ → Expression → Type 0
  Within n e = MadeOf Fitting (λ c. c < n) e

  -- a row of a Values with n columns
  abbrev pub RowOf : ℕ → Marked (List Expression) → Type 0
  RowOf n row = All (Within 0) row.0 × (length row.0 ≡ n)

  abbrev pub AccessWithin : ℕ → Access → Type 0
  AccessWithin n by_key = Unit {0}
  AccessWithin n (by_index c) = c < n

  abbrev pub SoundLeaf : Leaf → Type 0
  SoundLeaf (scan table alias predicate) = Optional (Within (table_columns schema table)) predicate × TableFits (length text) tables table alias
  SoundLeaf (lookup access table alias constants) =
      All (λ v. Fitting v.0) constants × (TableFits (length text) tables table alias × AccessWithin (table_columns schema table) access)
  SoundLeaf (nothing labels) = All (λ l. LabelFits (length text) l.0) labels
  SoundLeaf (values rows) = All (RowOf (values_columns rows)) rows

  -- of a node over a source with n columns
  abbrev pub SoundOver : ℕ → Over → Type 0
  SoundOver n (filter predicate) = Within n predicate
  SoundOver n (other (limit amount)) = amount < 2 ^ 64
  SoundOver n (other (offset amount)) = amount < 2 ^ 64
  SoundOver n (other (order key)) = All (λ k. Within n k.0) key
  SoundOver n (other (projection items)) = All (λ i. Within n i.0 × LabelFits (length text) i.1) items
  SoundOver n (other (remap targets)) = All (λ t. Optional (λ c. c < 256) t.0) targets × ((length targets ≡ n) × (repeated [] 0 targets ≡ none))
  SoundOver n (other (aggregate group_by aggregates)) = All (Within n) group_by × All (λ g. Within n g.1 × (g.0 < 5)) aggregates

  -- of a join of sources with so many columns
  abbrev pub SoundJoin : (left right : ℕ) → Join → Type 0
  SoundJoin left right (nested_loop predicate) = Optional (Within (left + right)) predicate
  SoundJoin left right (hash i j) = (i < left) × (j < right)

  abbrev pub Sound : Node → Type 0
  Sound (leaf og l) = SoundLeaf l
  Sound (over og o source) = Sound source × SoundOver (columns schema source) o
  Sound (join og outer j left right) = Sound left × (Sound right × SoundJoin (columns schema left) (columns schema right) j)

  -- A plan that is sound and has n columns.
  abbrev pub Emits : ℕ → Node → Type 0
  Emits n node = Sound node × (columns schema node ≡ n)

-- The names of tables and columns lie inside a text of so many bytes.
abbrev pub Named : Schema → ℕ → Type 0
Named schema bytes = (table c : ℕ) → Reference bytes (table_of schema table).name × Reference bytes (column_of schema table c).name
