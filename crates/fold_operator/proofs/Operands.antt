-- What an operand of And or Or is by its cell, and what simplify makes of it.
use Prim.Native.Nat.{ℕ}
use native.Mathlib.Omega.{arith}
use borrow.Author.Tests.{ne_eqb}
use mathlib.Core.Path.{◌≡◌, refl, sym, ap, ◌∙◌}
use mathlib.Core.Bool.{Bool, true, false, ◌&&◌, ◌||◌}
use lib.Dec.{eqb}
use Rattle.value.specs.Value.{Truth, False, Unknown, True, Datum, integer, float, string, truth, datum}
use Rattle.sql.specs.Expression.{origin, Logical, And, Or, Unary, Binary, logical, Equal, function, Expression, constant, column, unary, binary, contains_column}
use Rattle.sql.specs.Answer.{done, refused}
use Rattle.sql.specs.Optimizer.{Operand, deciding, neutral, undetermined, operand, decided, simplify_logical, simplify, fold_by, fold}
use Rattle.sheet.specs.Content.{binary_tag, constant_cell}
use Rattle.cells.specs.declared.Cell.{Cell}
use Rattle.words.specs.Words.{cell, root}
use Rattle.words.proofs.Expressions.{tag, unary_range, binary_range, by_and, by_or}
use Rattle.fold_operator.specs.Steps.{boolean_cell, operand_of, is_deciding, is_neutral}

pub clash : {A : Type 0} → false ≡ true → A
clash h = absurd (let z : ◌≡◌ {A = ℕ} 0 1 = cc in omega arith)

-- ---- by the cell

-- a test that is true of one Boolean at most, whose number is b
module _ (f : Expression → Bool) (b : ℕ) (on_false : (og : ℕ) → eqb 0 b ≡ f (constant og (truth False))) (on_true : (og : ℕ) → eqb 1 b ≡ f (constant og (truth True)))
    (on_null : (og : ℕ) → f (constant og (truth Unknown)) ≡ false) (on_datum : (og : ℕ) (g : Datum) → f (constant og (datum g)) ≡ false) (on_column : (og i : ℕ) → f (column og i) ≡ false)
    (on_unary : (og : ℕ) (o : Unary) (x : Expression) → f (unary og o x) ≡ false) (on_binary : (og : ℕ) (o : Binary) (l r : Expression) → f (binary og o l r) ≡ false) where
  boolean_test : (e : Expression) → boolean_cell (cell (origin e) (root e)) b ≡ f e
  unfolding cell
  boolean_test (constant og (truth False)) = on_false og
  boolean_test (constant og (truth Unknown)) = sym (on_null og)
  boolean_test (constant og (truth True)) = on_true og
  boolean_test (constant og (datum (integer n))) = sym (on_datum og (integer n))
  boolean_test (constant og (datum (float n))) = sym (on_datum og (float n))
  boolean_test (constant og (datum (string r s))) = sym (on_datum og (string r s))
  boolean_test (column og i) = sym (on_column og i)
  boolean_test (unary og o x) = ap (λ (t : Bool). t && eqb 0 b) (ne_eqb (tag (root (unary og o x))) 2 (λ z. omega (arith, unary_range o))) ∙ sym (on_unary og o x)
  boolean_test (binary og o l r) = ap (λ (t : Bool). t && eqb 0 b) (ne_eqb (tag (root (binary og o l r))) 2 (λ z. omega (arith, (binary_range o).0))) ∙ sym (on_binary og o l r)

module _ (e : Expression) {k : Cell} (q : k ≡ cell (origin e) (root e)) where
  pub and_deciding : (p : Binary) → binary_tag p ≡ 10 → boolean_cell k 0 ≡ is_deciding (operand_of p e)
  and_deciding = by_and (λ p. boolean_cell k 0 ≡ is_deciding (operand_of p e))
      (rw q (boolean_test (λ x. is_deciding (operand And x)) 0 (λ og. refl) (λ og. refl) (λ og. refl) (λ og g. refl) (λ og i. refl) (λ og o x. refl) (λ og o l r. refl) e))

  pub or_deciding : (p : Binary) → binary_tag p ≡ 11 → boolean_cell k 1 ≡ is_deciding (operand_of p e)
  or_deciding = by_or (λ p. boolean_cell k 1 ≡ is_deciding (operand_of p e))
      (rw q (boolean_test (λ x. is_deciding (operand Or x)) 1 (λ og. refl) (λ og. refl) (λ og. refl) (λ og g. refl) (λ og i. refl) (λ og o x. refl) (λ og o l r. refl) e))

  pub and_neutral : (p : Binary) → binary_tag p ≡ 10 → boolean_cell k 1 ≡ is_neutral (operand_of p e)
  and_neutral = by_and (λ p. boolean_cell k 1 ≡ is_neutral (operand_of p e))
      (rw q (boolean_test (λ x. is_neutral (operand And x)) 1 (λ og. refl) (λ og. refl) (λ og. refl) (λ og g. refl) (λ og i. refl) (λ og o x. refl) (λ og o l r. refl) e))

  pub or_neutral : (p : Binary) → binary_tag p ≡ 11 → boolean_cell k 0 ≡ is_neutral (operand_of p e)
  or_neutral = by_or (λ p. boolean_cell k 0 ≡ is_neutral (operand_of p e))
      (rw q (boolean_test (λ x. is_neutral (operand Or x)) 0 (λ og. refl) (λ og. refl) (λ og. refl) (λ og g. refl) (λ og i. refl) (λ og o x. refl) (λ og o l r. refl) e))

pub not_logical : (p : Binary) (e : Expression) → (binary_tag p ≡ 10 → ⊥) → (binary_tag p ≡ 11 → ⊥) → operand_of p e ≡ undetermined
not_logical (logical And) e g h = absurd (g refl)
not_logical (logical Or) e g h = absurd (h refl)
not_logical Equal e g h = refl
not_logical (function f) e g h = refl

-- ---- simplify

-- what And or Or becomes where an operand decides
abbrev pub decision : Binary → Truth
decision (logical o) = decided o
decision Equal = Unknown
decision (function f) = Unknown

-- An operand that decides is the constant that the operator becomes, with an origin of its own.
decider : (o : Logical) (e : Expression) → is_deciding (operand o e) ≡ true → root e ≡ constant_cell (truth (decided o))
decider And (constant og (truth False)) h = refl
decider And (constant og (truth Unknown)) h = clash h
decider And (constant og (truth True)) h = clash h
decider Or (constant og (truth False)) h = clash h
decider Or (constant og (truth Unknown)) h = clash h
decider Or (constant og (truth True)) h = refl
decider o (constant og (datum g)) h = clash h
decider o (column og c) h = clash h
decider o (unary og p x) h = clash h
decider o (binary og p l r) h = clash h

pub deciding_root : (p : Binary) (e : Expression) → is_deciding (operand_of p e) ≡ true → root e ≡ constant_cell (truth (decision p))
deciding_root (logical o) e h = decider o e h
deciding_root Equal e h = clash h
deciding_root (function f) e h = clash h

-- What has a Column doesn't decide.
undecided : (o : Logical) (e : Expression) → contains_column (λ c. true) e ≡ true → is_deciding (operand o e) ≡ false
undecided o (constant og v) h = clash h
undecided o (column og c) h = refl
undecided o (unary og p x) h = refl
undecided o (binary og p l r) h = refl

module _ (og : ℕ) (o : Logical) (x y : Expression) where
  by_left : (a b : Operand) → is_deciding a ≡ true → simplify_logical og o a b x y ≡ constant og (truth (decided o))
  by_left deciding b h = refl
  by_left neutral b h = clash h
  by_left undetermined b h = clash h

  by_right : (a b : Operand) → is_deciding a ≡ false → is_neutral a ≡ false → is_deciding b ≡ true → simplify_logical og o a b x y ≡ constant og (truth (decided o))
  by_right deciding b g k h = clash (sym g)
  by_right neutral b g k h = clash (sym k)
  by_right undetermined deciding g k h = refl
  by_right undetermined neutral g k h = clash h
  by_right undetermined undetermined g k h = clash h

  without_right : (a b : Operand) → is_deciding a ≡ false → is_neutral a ≡ false → is_neutral b ≡ true → simplify_logical og o a b x y ≡ x
  without_right deciding b g k h = clash (sym g)
  without_right neutral b g k h = clash (sym k)
  without_right undetermined deciding g k h = clash h
  without_right undetermined neutral g k h = refl
  without_right undetermined undetermined g k h = clash h

  by_neither : (a b : Operand) → is_deciding a ≡ false → is_neutral a ≡ false → is_deciding b ≡ false → is_neutral b ≡ false → simplify_logical og o a b x y ≡ binary og (logical o) x y
  by_neither deciding b g k h i = clash (sym g)
  by_neither neutral b g k h i = clash (sym k)
  by_neither undetermined deciding g k h i = clash (sym h)
  by_neither undetermined neutral g k h i = clash (sym i)
  by_neither undetermined undetermined g k h i = refl

  -- a neutral left operand leaves the right one, if that doesn't decide
  without_left : (a b : Operand) → is_neutral a ≡ true → is_deciding b ≡ false → simplify_logical og o a b x y ≡ y
  without_left deciding b h k = clash h
  without_left neutral deciding h k = clash (sym k)
  without_left neutral neutral h k = refl
  without_left neutral undetermined h k = refl
  without_left undetermined b h k = clash h

module _ (og : ℕ) where
  pub left_decides : (p : Binary) (x y : Expression) → is_deciding (operand_of p x) ≡ true → simplify (binary og p x y) ≡ constant og (truth (decision p))
  left_decides (logical o) x y h = by_left og o x y (operand o x) (operand o y) h
  left_decides Equal x y h = clash h
  left_decides (function f) x y h = clash h

  pub right_decides : (p : Binary) (x y : Expression) → is_deciding (operand_of p x) ≡ false → is_neutral (operand_of p x) ≡ false → is_deciding (operand_of p y) ≡ true
      → simplify (binary og p x y) ≡ constant og (truth (decision p))
  right_decides (logical o) x y g k h = by_right og o x y (operand o x) (operand o y) g k h
  right_decides Equal x y g k h = clash h
  right_decides (function f) x y g k h = clash h

  pub right_is_neutral : (p : Binary) (x y : Expression) → is_deciding (operand_of p x) ≡ false → is_neutral (operand_of p x) ≡ false → is_neutral (operand_of p y) ≡ true
      → simplify (binary og p x y) ≡ x
  right_is_neutral (logical o) x y g k h = without_right og o x y (operand o x) (operand o y) g k h
  right_is_neutral Equal x y g k h = clash h
  right_is_neutral (function f) x y g k h = clash h

  pub neither : (p : Binary) (x y : Expression) → is_deciding (operand_of p x) ≡ false → is_neutral (operand_of p x) ≡ false → is_deciding (operand_of p y) ≡ false
      → is_neutral (operand_of p y) ≡ false → simplify (binary og p x y) ≡ binary og p x y
  neither (logical o) x y g k h i = by_neither og o x y (operand o x) (operand o y) g k h i
  neither Equal x y g k h i = refl
  neither (function f) x y g k h i = refl

-- ---- a neutral left operand

pub neutral_simplified : (og : ℕ) (p : Binary) (x y : Expression) → is_neutral (operand_of p x) ≡ true → contains_column (λ c. true) y ≡ true → simplify (binary og p x y) ≡ y
neutral_simplified og (logical o) x y h k = without_left og o x y (operand o x) (operand o y) h (undecided o y k)
neutral_simplified og Equal x y h k = clash h
neutral_simplified og (function f) x y h k = clash h

module _ (P : Binary → Expression → Type 0) (on_and : (og : ℕ) → P (logical And) (constant og (truth True))) (on_or : (og : ℕ) → P (logical Or) (constant og (truth False))) where
  pub by_neutral : (p : Binary) (x : Expression) → is_neutral (operand_of p x) ≡ true → P p x
  by_neutral (logical And) (constant og (truth False)) h = clash h
  by_neutral (logical And) (constant og (truth Unknown)) h = clash h
  by_neutral (logical And) (constant og (truth True)) h = on_and og
  by_neutral (logical Or) (constant og (truth False)) h = on_or og
  by_neutral (logical Or) (constant og (truth Unknown)) h = clash h
  by_neutral (logical Or) (constant og (truth True)) h = clash h
  by_neutral (logical o) (constant og (datum g)) h = clash h
  by_neutral (logical o) (column og c) h = clash h
  by_neutral (logical o) (unary og q x) h = clash h
  by_neutral (logical o) (binary og q l r) h = clash h
  by_neutral Equal x h = clash h
  by_neutral (function f) x h = clash h

module _ (place og own : ℕ) where
  -- without a Column the operator is evaluated: the constant has the operator's origin, not its own
  pub neutral_truth : (t : Truth) (p : Binary) (x : Expression) → is_neutral (operand_of p x) ≡ true
      → fold place (binary og p x (constant own (truth t))) ≡ done (constant og (truth t))
  neutral_truth t = by_neutral (λ p x. fold place (binary og p x (constant own (truth t))) ≡ done (constant og (truth t))) (λ _. refl) (λ _. refl)

  pub neutral_datum : (g : Datum) (p : Binary) (x : Expression) → is_neutral (operand_of p x) ≡ true
      → fold place (binary og p x (constant own (datum g))) ≡ refused 13 place
  neutral_datum g = by_neutral (λ p x. fold place (binary og p x (constant own (datum g))) ≡ refused 13 place) (λ _. refl) (λ _. refl)

-- ---- fold where a Column is left, and where none is

module _ (place og : ℕ) where
  pub fold_unary_kept : (p : Unary) (y : Expression) → contains_column (λ c. true) y ≡ true → fold place (unary og p y) ≡ done (unary og p y)
  fold_unary_kept p y h = ap (λ (b : Bool). fold_by b place (unary og p y)) h

  fold_kept : (p : Binary) (x y : Expression) → (contains_column (λ c. true) x || contains_column (λ c. true) y) ≡ true
      → fold place (binary og p x y) ≡ done (simplify (binary og p x y))
  fold_kept p x y h = ap (λ (b : Bool). fold_by b place (binary og p x y)) h

  pub fold_left_kept : (p : Binary) (x y : Expression) → contains_column (λ c. true) x ≡ true → fold place (binary og p x y) ≡ done (simplify (binary og p x y))
  fold_left_kept p x y h = fold_kept p x y (ap (λ (b : Bool). b || contains_column (λ c. true) y) h)

  pub fold_right_kept : (p : Binary) (x y : Expression) → contains_column (λ c. true) y ≡ true → fold place (binary og p x y) ≡ done (simplify (binary og p x y))
  fold_right_kept p x y h = fold_kept p x y (go (contains_column (λ c. true) x) (contains_column (λ c. true) y) h)
    where
      go : (a b : Bool) → b ≡ true → (a || b) ≡ true
      go true b k = refl
      go false b k = k
