-- What an expression folds to is a constant or has a Column, and its constants fit.
use Prim.Native.Nat.{ℕ, ◌+◌}
use native.Mathlib.Omega.{arith}
use mathlib.Core.Path.{◌≡◌, refl}
use mathlib.Core.Bool.{Bool, true, false}
use mathlib.Core.List.{List, []}
use lib.ListN.{length}
use Rattle.value.specs.Value.{Value, ok}
use Rattle.sql.specs.Expression.{origin, Logical, logical, Equal, function, Expression, constant, column, unary, binary, size, bind, evaluate, contains_column}
use Rattle.sql.specs.Answer.{◌>>=◌}
use Rattle.sql.specs.Optimizer.{Operand, deciding, neutral, undetermined, operand, simplify_logical, simplify, fold_by, fold, fold_expression}
use Rattle.sheet_laws.specs.Fits.{ValueFits}
use Rattle.sound.specs.Answers.{valued_bind, Answered, answered_then, answered_place}
use Rattle.sound.specs.Values.{evaluate_fits}
use Rattle.words.proofs.Expressions.{constant_tag}
use Rattle.fold_operator.specs.Left.{ConstantsFit, Settled}

module _ (text : List ℕ) where
  pub constant_settled : (og : ℕ) (v : Value) → ValueFits text (length text) v → Settled text (constant og v)
  constant_settled og v f = record { column_left = λ h. absurd (omega (arith, constant_tag v)); fits = f }

  -- both operands are settled, and a Column is left
  logical_settled : (og : ℕ) (o : Logical) (a b : Operand) (l r : Expression) → contains_column (λ c. true) (binary og (logical o) l r) ≡ true → Settled text l → Settled text r
      → Settled text (simplify_logical og o a b l r)
  logical_settled og o deciding b l r h x y = constant_settled og _ tt
  logical_settled og o neutral deciding l r h x y = constant_settled og _ tt
  logical_settled og o neutral neutral l r h x y = y
  logical_settled og o neutral undetermined l r h x y = y
  logical_settled og o undetermined deciding l r h x y = constant_settled og _ tt
  logical_settled og o undetermined neutral l r h x y = x
  logical_settled og o undetermined undetermined l r h x y = record { column_left = λ _. h; fits = (x.fits, y.fits) }

  abbrev OperandsSettled : Expression → Type 0
  OperandsSettled (constant og v) = Settled text (constant og v)
  OperandsSettled (column og c) = Unit {0}
  OperandsSettled (unary og o x) = Settled text x
  OperandsSettled (binary og o l r) = Settled text l × Settled text r

  operands_fit : (e : Expression) → OperandsSettled e → ConstantsFit text e
  operands_fit (constant og v) s = s.fits
  operands_fit (column og c) s = tt
  operands_fit (unary og o x) s = s.fits
  operands_fit (binary og o l r) s = (s.0.fits, s.1.fits)

  simplified : (e : Expression) → contains_column (λ c. true) e ≡ true → OperandsSettled e → Settled text (simplify e)
  simplified (constant og v) h s = s
  simplified (column og c) h s = record { column_left = λ _. refl; fits = tt }
  simplified (unary og o x) h s = record { column_left = λ _. h; fits = s.fits }
  simplified (binary og (logical o) l r) h s = logical_settled og o (operand o l) (operand o r) l r h s.0 s.1
  simplified (binary og Equal l r) h s = record { column_left = λ _. h; fits = (s.0.fits, s.1.fits) }
  simplified (binary og (function f) l r) h s = record { column_left = λ _. h; fits = (s.0.fits, s.1.fits) }

  folded_by : (b : Bool) (place : ℕ) (e : Expression) → contains_column (λ c. true) e ≡ b → OperandsSettled e → Answered (Settled text) (fold_by b place e)
  folded_by true place e h s = simplified e h s
  folded_by false place e h s =
      answered_place (Settled text) place (bind (evaluate [] e) (λ v. ok (constant (origin e) v)))
      (valued_bind (ValueFits text (length text)) (Settled text) (evaluate [] e) (λ v. ok (constant (origin e) v))
      (evaluate_fits text (length text) (λ c. Unit {0}) e (operands_fit e s)) (constant_settled (origin e)))

  folded : (place : ℕ) (e : Expression) → OperandsSettled e → Answered (Settled text) (fold place e)
  folded place e s = folded_by (contains_column (λ c. true) e) place e refl s

  pub expression_settled : (first : ℕ) (e : Expression) → ConstantsFit text e → Answered (Settled text) (fold_expression first e)
  expression_settled first (constant og v) f = folded first (constant og v) (constant_settled og v f)
  expression_settled first (column og c) f = folded first (column og c) tt
  expression_settled first (unary og o x) f =
      answered_then (Settled text) (Settled text) (fold_expression first x) (λ y. fold (first + size x) (unary og o y)) (expression_settled first x f)
      (λ y s. folded (first + size x) (unary og o y) s)
  expression_settled first (binary og o l r) f =
      answered_then (Settled text) (Settled text) (fold_expression first l)
      (λ x. fold_expression (first + size l) r >>= λ y. fold (first + (size l + size r)) (binary og o x y)) (expression_settled first l f.0)
      (λ x s. answered_then (Settled text) (Settled text) (fold_expression (first + size l) r) (λ y. fold (first + (size l + size r)) (binary og o x y))
      (expression_settled (first + size l) r f.1) (λ y t. folded (first + (size l + size r)) (binary og o x y) (s, t)))
