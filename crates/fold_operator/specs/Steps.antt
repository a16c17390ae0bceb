-- What the steps at one operator do, once its operands are folded.
use Rattle.std.specs.Prelude.{ℕ, ◌+◌, ◌≤◌, ◌<◌, ◌≡◌, Bool, true, false, ◌&&◌, List, eqb, length, Result}
use Rattle.value.specs.Value.{ok}
use Rattle.value.specs.Meaning.{outcome_of}
use Rattle.value.specs.declared.Error.{Error}
use Rattle.value.specs.declared.Value.{Value}
use Rattle.sql.specs.Expression.{origin, Unary, Binary, logical, Equal, function, Expression, constant, unary, binary, bind}
use Rattle.sql.specs.Answer.{at_place}
use Rattle.sql.specs.Optimizer.{Operand, deciding, neutral, undetermined, operand, fold, simplify}
use Rattle.sheet.specs.Content.{unary_tag, binary_tag}
use Rattle.cells.specs.declared.Cell.{Cell}
use Rattle.cells.specs.Cells.{cell_words}
use Rattle.cells.specs.Room.{Short}
use Rattle.words.specs.Words.{cell, root, expression_words}
use Rattle.words.specs.Place.{ExpressionHere}
use Rattle.evaluate.specs.Evaluate.{UnaryTag, BinaryTag}
use Rattle.fold_operator.specs.Left.{Folded, Settled, SettledAt, Appended, Leaves}

-- ---- operands of And and Or

-- the cell of the Boolean that is written as b
abbrev pub boolean_cell : Cell → ℕ → Bool
boolean_cell k b = eqb k.tag 2 && eqb k.a b

-- what an operand does to an operator; only And and Or have operands that do something
abbrev pub operand_of : Binary → Expression → Operand
operand_of (logical o) e = operand o e
operand_of Equal e = undetermined
operand_of (function f) e = undetermined

abbrev pub is_deciding : Operand → Bool
is_deciding deciding = true
is_deciding neutral = false
is_deciding undetermined = false

abbrev pub is_neutral : Operand → Bool
is_neutral deciding = false
is_neutral neutral = true
is_neutral undetermined = false

-- o is the tag of an operator with two operands, and k the cell of an expression.
pub record OperandOf (o : ℕ) (k : Cell) : Type 0 where
  pub operator : BinaryTag o
  pub e : Expression
  pub is : k ≡ cell (origin e) (root e)

-- of the operator with tag o and the operand with cell k
abbrev pub Deciding : ℕ → Cell → Bool → Type 0
Deciding o k r = (p : Binary) (e : Expression) → binary_tag p ≡ o → k ≡ cell (origin e) (root e) → r ≡ is_deciding (operand_of p e)

abbrev pub Neutral : ℕ → Cell → Bool → Type 0
Neutral o k r = (p : Binary) (e : Expression) → binary_tag p ≡ o → k ≡ cell (origin e) (root e) → r ≡ is_neutral (operand_of p e)

-- ---- an operator over its operands

-- The operator with tag o has one operand; what that folds to stands in d from `at` up to n, with room for the operator's cell. A text has at most 8,192
-- bytes; less than 65,536 is what text references need.
pub record UnaryAt (d : List ℕ) (at n o : ℕ) : Type 0 where
  pub text : List ℕ
  pub short : length text < 65536
  pub operator : UnaryTag o
  pub operand : SettledAt text d at n
  pub few : Short d
  pub room : n + cell_words ≤ length d

-- The operator with tag o has two operands; expressions stand in their places, in d from `at` up to m and on to n.
pub record OperandsAt (d : List ℕ) (at m n o : ℕ) : Type 0 where
  pub operator : BinaryTag o
  pub x : Expression
  pub y : Expression
  pub left : ExpressionHere d at m x
  pub right : ExpressionHere d m n y

-- They are what the operands fold to, the left one isn't neutral, and there is room for the operator's cell.
pub record BinaryAt (text d : List ℕ) (at m n o : ℕ) : Type 0 where
  pub short : length text < 65536
  pub operands : OperandsAt d at m n o
  pub left_settled : Settled text operands.x
  pub right_settled : Settled text operands.y
  pub not_neutral : is_neutral (operand_of operands.operator.p operands.x) ≡ false
  pub few : Short d
  pub room : n + cell_words ≤ length d

-- What some expression folds to stands in d from `at` up to n.
pub record OperandAt (d : List ℕ) (at n : ℕ) : Type 0 where
  pub text : List ℕ
  pub operand : SettledAt text d at n
  pub few : Short d

-- the value of an operator with origin og, or the refusal for its error
abbrev pub Writes : List ℕ → ℕ → Result Value Error → (place og : ℕ) → Folded → List ℕ → Type 0
Writes d at r place og answer d' =
    (text : List ℕ) → Short d → at + cell_words ≤ length d → Leaves d at (at_place place (bind (outcome_of text r) (λ v. ok (constant og v)))) answer d'

abbrev pub FoldsUnary : List ℕ → (at n o place og : ℕ) → Folded → List ℕ → Type 0
FoldsUnary d at n o place og answer d' =
    (text : List ℕ) (p : Unary) (y : Expression) → unary_tag p ≡ o → ExpressionHere d at n y → Settled text y
    → Leaves d at (fold place (unary og p y)) answer d'

-- The left operand isn't neutral: where it is, the right one alone is written.
abbrev pub Simplifies : List ℕ → (at m n o og r : ℕ) → List ℕ → Type 0
Simplifies d at m n o og r d' =
    (p : Binary) (x y : Expression) → binary_tag p ≡ o → ExpressionHere d at m x → ExpressionHere d m n y → is_neutral (operand_of p x) ≡ false → Short d → n + cell_words ≤ length d
    → Appended d at (expression_words (simplify (binary og p x y))) r d'

abbrev pub FoldsBinary : (text d : List ℕ) → (at m n o place og : ℕ) → Folded → List ℕ → Type 0
FoldsBinary text d at m n o place og answer d' =
    (p : Binary) (x y : Expression) → binary_tag p ≡ o → ExpressionHere d at m x → ExpressionHere d m n y → Settled text x → Settled text y
    → is_neutral (operand_of p x) ≡ false → Leaves d at (fold place (binary og p x y)) answer d'

-- The left operand is neutral, and isn't in d.
abbrev pub FoldsNeutral : List ℕ → (at n place og : ℕ) → Folded → List ℕ → Type 0
FoldsNeutral d at n place og answer d' =
    (text : List ℕ) (p : Binary) (x y : Expression) → is_neutral (operand_of p x) ≡ true → ExpressionHere d at n y → Settled text y
    → Leaves d at (fold place (binary og p x y)) answer d'
