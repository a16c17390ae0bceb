-- What folding an expression in its working form does. A contract speaks of every expression that stands there.
use Rattle.std.specs.Prelude.{ℕ, ◌+◌, ◌-◌, ◌*◌, ◌≤◌, ◌<◌, ◌≡◌, List, length}
use Rattle.sql.specs.Expression.{Binary, Expression, binary, size}
use Rattle.sql.specs.Answer.{◌>>=◌}
use Rattle.sql.specs.Optimizer.{fold, fold_expression}
use Rattle.cells.specs.Cells.{cell_words, tag_at, start_at}
use Rattle.cells.specs.Room.{Short}
use Rattle.words.specs.Place.{ExpressionHere}
use Rattle.fold_operator.specs.Left.{Folded, ConstantsFit, Settled, SettledAt, Leaves}
use Rattle.sheet.specs.Tags

-- e stands in s from word lo up to hi, and its constants fit.
pub record Foldable (text s : List ℕ) (lo hi : ℕ) (e : Expression) : Type 0 where
  pub here : ExpressionHere s lo hi e
  pub fits : ConstantsFit text e

-- Some expression stands there so. A text has at most 8,192 bytes; less than 65,536 is what text references need.
pub record FoldableAt (text s : List ℕ) (lo hi : ℕ) : Type 0 where
  pub e : Expression
  pub foldable : Foldable text s lo hi e
  pub short : length text < 65536

-- r cells of seven words stand from word lo up to hi.
abbrev pub Counts : ℕ → ℕ → ℕ → Type 0
Counts lo hi r = (n : ℕ) → hi ≡ lo + cell_words * n → r ≡ n

-- fold_expression of the expression from lo up to hi, whose first cell has the number `first` in the given sheet
abbrev pub Folds : List ℕ → ℕ → List ℕ → ℕ → ℕ → List ℕ → ℕ → Folded → List ℕ → Type 0
Folds text first s lo hi d at r d' = (e : Expression) → Foldable text s lo hi e → Leaves d at (fold_expression first e) r d'

-- ---- between the two operands of an operator

-- The operator's cell ends before hi, its right operand starts at mid, and what its left one folds to stands in d from `at` up to m, with room for the rest.
pub record RightAt (text s : List ℕ) (lo hi : ℕ) (d : List ℕ) (at first mid m : ℕ) : Type 0 where
  pub operator : FoldableAt text s lo hi
  pub low_tag : Tags.binary ≤ tag_at s hi
  pub high_tag : tag_at s hi < Tags.unary
  pub starts : mid ≡ start_at s (hi - cell_words)
  pub left : SettledAt text d at m
  pub room : m + (hi - mid) ≤ length d
  pub few : Short d
  pub numbered : first ≤ lo

abbrev pub FoldsRight : List ℕ → List ℕ → ℕ → ℕ → List ℕ → ℕ → ℕ → ℕ → ℕ → Folded → List ℕ → Type 0
FoldsRight text s lo hi d at first mid m answer d' =
    (og : ℕ) (o : Binary) (l r x : Expression) → Foldable text s lo hi (binary og o l r) → ExpressionHere d at m x → Settled text x
    → Leaves d at (fold_expression (first + size l) r >>= λ y. fold (first + (size l + size r)) (binary og o x y)) answer d'
