-- What the code's constants and operators stand for. A contract speaks of every constant, or operator, that a cell says.
use Rattle.std.specs.Prelude.{ℕ, ◌<◌, ◌≡◌, List, length, Result}
use Rattle.value.specs.Value as Defined
use Rattle.value.specs.Meaning.{meaning, outcome_of}
use Rattle.value.specs.declared.Value.{Value}
use Rattle.value.specs.declared.Error.{Error}
use Rattle.sql.specs.Expression.{Unary, Binary, evaluate_unary, evaluate_binary}
use Rattle.sheet.specs.Content.{low, high, unary_tag, binary_tag, constant_cell}
use Rattle.sheet_laws.specs.Fits.{ValueFits}
use Rattle.cells.specs.declared.Cell.{Cell}
use Rattle.words.specs.Words.{cell}

-- the cell with an origin and a number of 64 bits
abbrev pub of_halves : (og tag bits : ℕ) → Cell
of_halves og tag bits = record { origin = og; tag = tag; flag = 0; a = low bits; b = high bits; c = 0 }

-- k is the cell of a constant that a sheet with some text may hold. A text has at most 8,192 bytes; less than 65,536 is what text references need.
pub record ConstantCell (k : Cell) : Type 0 where
  pub text : List ℕ
  pub short : length text < 65536
  pub og : ℕ
  pub v : Defined.Value
  pub fits : ValueFits text (length text) v
  pub is : k ≡ cell og (constant_cell v)

-- r is the constant whose cell k is, of those that a sheet with any text may hold.
abbrev pub Reads : Cell → Value → Type 0
Reads k r = (text : List ℕ) (og : ℕ) (v : Defined.Value) → ValueFits text (length text) v → k ≡ cell og (constant_cell v) → meaning text r ≡ v

-- o is the tag of an operator with one operand, with two.
pub record UnaryTag (o : ℕ) : Type 0 where
  pub p : Unary
  pub is : unary_tag p ≡ o

pub record BinaryTag (o : ℕ) : Type 0 where
  pub p : Binary
  pub is : binary_tag p ≡ o

-- r is what the operator with tag o gives.
abbrev pub EvaluatesUnary : ℕ → Value → Result Value Error → Type 0
EvaluatesUnary o v r = (text : List ℕ) (p : Unary) → unary_tag p ≡ o → outcome_of text r ≡ evaluate_unary p (meaning text v)

abbrev pub EvaluatesBinary : List ℕ → ℕ → Value → Value → Result Value Error → Type 0
EvaluatesBinary text o v w r = (p : Binary) → binary_tag p ≡ o → outcome_of text r ≡ evaluate_binary p (meaning text v) (meaning text w)
