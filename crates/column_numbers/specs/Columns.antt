-- Rewrites of column numbers, as the code names them, and what they ask of an expression.
use Rattle.std.specs.Prelude.{ℕ, ◌+◌, ◌-◌, ◌<◌, ◌≡◌, cond, List, [], ◌∷◌, ◌++◌, map, eqb, ltb}
use Rattle.sql.specs.Expression.{Expression, constant, column, unary, binary}
use Rattle.cells.specs.declared.Cell.{Cell}
use Rattle.cells.specs.Cells.{Part}
use Rattle.words.specs.Place.{ExpressionHere}
use Rattle.column_numbers.specs.declared.SourceColumn.{SourceColumn}
use Rattle.column_numbers.specs.declared.SourceColumn.TheVariants.{Left, Right}
use Rattle.column_numbers.specs.declared.Change.{Change}
use Rattle.column_numbers.specs.declared.Change.TheVariants.{Down, Up, Replace}
use Rattle.column_numbers.specs.Flat.{flat}
use Rattle.sheet.specs.Tags

-- Column c of a joined row, in its own source, if the left source has n columns.
abbrev pub source_of : ℕ → ℕ → SourceColumn
source_of c n = cond (ltb c n) (Left (record { 0 = c })) (Right (record { 0 = c - n }))

-- what a column number becomes
abbrev pub changed : Change → ℕ → ℕ
changed (Down n) c = c - n
changed (Up n) c = n + c
changed (Replace from to) c = cond (eqb c from) to c

-- The new number fits a word.
abbrev pub Room : Change → ℕ → Type 0
Room (Down n) c = Unit
Room (Up n) c = n + c < 4294967296
Room (Replace from to) c = Unit

-- a Column's cell has tag 6 and its number in a
abbrev pub changed_cell : Change → Cell → Cell
changed_cell k c = cond (eqb c.tag Tags.column) (record { origin = c.origin; tag = c.tag; flag = c.flag; a = changed k c.a; b = c.b; c = c.c }) c

-- the cell with its size, which stays
abbrev pub changed_sized : Change → Cell × ℕ → Cell × ℕ
changed_sized k c = (changed_cell k c.0, c.1)

-- The columns among these cells can be rewritten.
abbrev pub EachCell : Change → List (Cell × ℕ) → Type 0
EachCell k [] = Unit
EachCell k (c ∷ cs) = (c.0.tag ≡ Tags.column → Room k c.0.a) × EachCell k cs

-- Some such cells stand in d from word at up to n.
pub record CellsAt (k : Change) (d : List ℕ) (at n : ℕ) : Type 0 where
  pub cells : List (Cell × ℕ)
  pub part : Part d at n (flat cells)
  pub room : EachCell k cells

-- The cells that stand in d from at up to n, whatever they are, are rewritten in d'.
abbrev pub Rewrites : Change → List ℕ → ℕ → ℕ → List ℕ → Type 0
Rewrites k d at n d' = (cs : List (Cell × ℕ)) (p : Part d at n (flat cs)) → d' ≡ p.before ++ (flat (map (changed_sized k) cs) ++ p.after)

-- P holds of each column of an expression.
abbrev pub EachColumn : (ℕ → Type 0) → Expression → Type 0
EachColumn P (constant og v) = Unit
EachColumn P (column og c) = P c
EachColumn P (unary og o x) = EachColumn P x
EachColumn P (binary og o l r) = EachColumn P l × EachColumn P r

-- Some expression stands in s from word lo up to hi, and its columns can be rewritten.
pub record Changeable (k : Change) (s : List ℕ) (lo hi : ℕ) : Type 0 where
  pub e : Expression
  pub here : ExpressionHere s lo hi e
  pub room : EachColumn (Room k) e

-- Some expression stands there, whose columns fit a word after they are moved up by n.
pub record SmallAt (n : ℕ) (s : List ℕ) (lo hi : ℕ) : Type 0 where
  pub e : Expression
  pub here : ExpressionHere s lo hi e
  pub small : EachColumn (λ c. n + c < 4294967296) e
