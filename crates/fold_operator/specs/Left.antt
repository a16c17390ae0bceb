-- What an expression folds to, and what is left of it in the slice that is written.
use Rattle.std.specs.Prelude.{ℕ, ◌+◌, ◌≤◌, ◌≡◌, true, List, ◌++◌, length, take, Result, Ok, Err}
use Rattle.sql.specs.Expression.{Expression, contains_column}
use Rattle.sql.specs.Answer.{Answer, done, refused}
use Rattle.sheet.specs.Content.{cell_of}
use Rattle.sheet_laws.specs.Fits.{ValueFits}
use Rattle.sound.specs.Expressions.{MadeOf}
use Rattle.words.specs.Words.{root, expression_words}
use Rattle.words.specs.Place.{ExpressionHere}
use Rattle.fold_operator.specs.declared.Failure.{Failure}
use Rattle.value.specs.Value.{number}
use Rattle.value.specs.Meaning.{error}
use Rattle.sheet.specs.Tags

-- The expression's constants are ones that a sheet with this text may hold.
abbrev pub ConstantsFit : List ℕ → Expression → Type 0
ConstantsFit text e = MadeOf (ValueFits text (length text)) (λ c. Unit {0}) e

-- What an expression folds to: a constant, or an expression that has a Column.
pub record Settled (text : List ℕ) (y : Expression) : Type 0 where
  pub column_left : Tags.column ≤ (cell_of (root y)).tag → contains_column (λ c. true) y ≡ true
  pub fits : ConstantsFit text y

-- What some expression folds to stands in d from `at` up to n.
pub record SettledAt (text d : List ℕ) (at n : ℕ) : Type 0 where
  pub y : Expression
  pub here : ExpressionHere d at n y
  pub settled : Settled text y

-- w is appended to the first `at` words of d, which makes n words.
pub record Appended (d : List ℕ) (at : ℕ) (w : List ℕ) (n : ℕ) (d' : List ℕ) : Type 0 where
  pub ends : n ≡ at + length w
  pub kept : take n d' ≡ take at d ++ w

-- Where what is folded ends, or why it can't be.
abbrev pub Folded : Type 0
Folded = Result ℕ Failure

-- The number of the refusal that a failure gives.
abbrev pub number_of : Failure → ℕ
number_of why = number (error why.error)

-- The words of what is done, appended, and where they end; or the refusal's number and place.
abbrev pub Left : List ℕ → ℕ → Answer Expression → Folded → List ℕ → Type 0
Left d at (done y) (Ok n) d' = Appended d at (expression_words y) n d'
Left d at (done y) (Err why) d' = ⊥
Left d at (refused number place) (Ok n) d' = ⊥
Left d at (refused number place) (Err why) d' = (number_of why ≡ number) × (why.place ≡ place)

-- That is what an answer leaves.
pub record Leaves (d : List ℕ) (at : ℕ) (answer : Answer Expression) (r : Folded) (d' : List ℕ) : Type 0 where
  pub left : Left d at answer r d'
