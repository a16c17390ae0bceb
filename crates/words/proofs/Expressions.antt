-- Laws on where expressions stand, and on which expression a tag tells of.
use Prim.Native.Nat.{ℕ, ◌+◌, ◌-◌, ◌≤◌, ◌<◌}
use native.Mathlib.Omega.{arith}
use mathlib.Core.Path.{◌≡◌, refl, sym, ap, ◌∙◌, subst}
use mathlib.Core.List.{List, ◌++◌}
use lib.ListN.{length}
use Rattle.value.specs.Value.{False, Unknown, True, integer, float, string, Value, truth, datum}
use Rattle.sql.specs.Expression.{origin, And, Or, IsNull, IsNaN, Identity, Negate, SquareRoot, GreaterThan, LessThan, Add, Divide, Subtract, Multiply, Unary, Not, function, Binary, logical, Equal, Expression, constant, column, unary, binary}
use Rattle.sheet.specs.Content.{Content, cell_of, constant_cell, unary_cell, binary_cell, unary_tag, binary_tag}
use Rattle.cells.specs.declared.Cell.{Cell}
use Rattle.cells.specs.Cells.{cell_words, sized, cell_at, tag_at, origin_at, start_at, Part, Sized}
use Rattle.cells.proofs.Laws.{part_left, part_right, body_part, cell_in, tag_is, start_is, has_size, seam}
use Rattle.cells.proofs.Laws as cells
use Rattle.words.specs.Words.{cell, root, expression_words, operand_words}
use Rattle.words.specs.Place.{ExpressionHere, ExpressionAt}

abbrev pub tag : Content → ℕ
tag k = (cell_of k).tag

pub tag_cell : (og : ℕ) (k : Content) → (cell og k).tag ≡ tag k
unfolding cell
tag_cell og k = refl

pub shape : (e : Expression) → expression_words e ≡ sized (operand_words e) (cell (origin e) (root e))
unfolding expression_words
shape (constant og v) = refl
shape (column og i) = refl
shape (unary og o x) = refl
shape (binary og o l r) = refl

-- ---- what a root's tag tells

pub constant_tag : (v : Value) → tag (constant_cell v) < 6
constant_tag (truth False) = omega arith
constant_tag (truth Unknown) = omega arith
constant_tag (truth True) = omega arith
constant_tag (datum (integer n)) = omega arith
constant_tag (datum (float b)) = omega arith
constant_tag (datum (string r s)) = omega arith

pub unary_range : (o : Unary) → 30 ≤ unary_tag o
unary_range Not = omega arith
unary_range (function IsNull) = omega arith
unary_range (function IsNaN) = omega arith
unary_range (function Identity) = omega arith
unary_range (function Negate) = omega arith
unary_range (function SquareRoot) = omega arith

pub binary_range : (o : Binary) → (10 ≤ binary_tag o) × (binary_tag o < 30)
binary_range (logical And) = (omega arith, omega arith)
binary_range (logical Or) = (omega arith, omega arith)
binary_range Equal = (omega arith, omega arith)
binary_range (function GreaterThan) = (omega arith, omega arith)
binary_range (function LessThan) = (omega arith, omega arith)
binary_range (function Add) = (omega arith, omega arith)
binary_range (function Divide) = (omega arith, omega arith)
binary_range (function Subtract) = (omega arith, omega arith)
binary_range (function Multiply) = (omega arith, omega arith)

-- An expression by the range that its root's tag lies in.
module _ (P : Expression → Type 0) where
  pub by_constant : ((og : ℕ) (v : Value) → P (constant og v)) → (e : Expression) → tag (root e) < 6 → P e
  by_constant f (constant og v) h = f og v
  by_constant f (column og i) h = absurd (omega arith)
  by_constant f (unary og o x) h = absurd (omega (arith, unary_range o))
  by_constant f (binary og o l r) h = absurd (omega (arith, (binary_range o).0))

  pub by_column : ((og i : ℕ) → P (column og i)) → (e : Expression) → tag (root e) ≡ 6 → P e
  by_column f (constant og v) h = absurd (omega (arith, constant_tag v))
  by_column f (column og i) h = f og i
  by_column f (unary og o x) h = absurd (omega (arith, unary_range o))
  by_column f (binary og o l r) h = absurd (omega (arith, (binary_range o).0))

  pub by_leaf : ((og : ℕ) (v : Value) → P (constant og v)) → ((og i : ℕ) → P (column og i)) → (e : Expression) → tag (root e) < 10 → P e
  by_leaf f g (constant og v) h = f og v
  by_leaf f g (column og i) h = g og i
  by_leaf f g (unary og o x) h = absurd (omega (arith, unary_range o))
  by_leaf f g (binary og o l r) h = absurd (omega (arith, (binary_range o).0))

  pub by_unary : ((og : ℕ) (o : Unary) (x : Expression) → P (unary og o x)) → (e : Expression) → 30 ≤ tag (root e) → P e
  by_unary f (constant og v) h = absurd (omega (arith, constant_tag v))
  by_unary f (column og i) h = absurd (omega arith)
  by_unary f (unary og o x) h = f og o x
  by_unary f (binary og o l r) h = absurd (omega (arith, (binary_range o).1))

  pub by_binary : ((og : ℕ) (o : Binary) (l r : Expression) → P (binary og o l r)) → (e : Expression) → 10 ≤ tag (root e) → tag (root e) < 30 → P e
  by_binary f (constant og v) h k = absurd (omega (arith, constant_tag v))
  by_binary f (column og i) h k = absurd (omega arith)
  by_binary f (unary og o x) h k = absurd (omega (arith, unary_range o))
  by_binary f (binary og o l r) h k = f og o l r

-- An operator by its tag.
module _ (P : Unary → Type 0) where
  pub by_not : P Not → (o : Unary) → unary_tag o ≡ 30 → P o
  by_not f Not h = f
  by_not f (function IsNull) h = absurd (omega arith)
  by_not f (function IsNaN) h = absurd (omega arith)
  by_not f (function Identity) h = absurd (omega arith)
  by_not f (function Negate) h = absurd (omega arith)
  by_not f (function SquareRoot) h = absurd (omega arith)

module _ (P : Binary → Type 0) where
  pub by_and : P (logical And) → (o : Binary) → binary_tag o ≡ 10 → P o
  by_and f (logical And) h = f
  by_and f (logical Or) h = absurd (omega arith)
  by_and f Equal h = absurd (omega arith)
  by_and f (function GreaterThan) h = absurd (omega arith)
  by_and f (function LessThan) h = absurd (omega arith)
  by_and f (function Add) h = absurd (omega arith)
  by_and f (function Divide) h = absurd (omega arith)
  by_and f (function Subtract) h = absurd (omega arith)
  by_and f (function Multiply) h = absurd (omega arith)

  pub by_or : P (logical Or) → (o : Binary) → binary_tag o ≡ 11 → P o
  by_or f (logical And) h = absurd (omega arith)
  by_or f (logical Or) h = f
  by_or f Equal h = absurd (omega arith)
  by_or f (function GreaterThan) h = absurd (omega arith)
  by_or f (function LessThan) h = absurd (omega arith)
  by_or f (function Add) h = absurd (omega arith)
  by_or f (function Divide) h = absurd (omega arith)
  by_or f (function Subtract) h = absurd (omega arith)
  by_or f (function Multiply) h = absurd (omega arith)

  pub by_equal : P Equal → (o : Binary) → binary_tag o ≡ 12 → P o
  by_equal f (logical And) h = absurd (omega arith)
  by_equal f (logical Or) h = absurd (omega arith)
  by_equal f Equal h = f
  by_equal f (function GreaterThan) h = absurd (omega arith)
  by_equal f (function LessThan) h = absurd (omega arith)
  by_equal f (function Add) h = absurd (omega arith)
  by_equal f (function Divide) h = absurd (omega arith)
  by_equal f (function Subtract) h = absurd (omega arith)
  by_equal f (function Multiply) h = absurd (omega arith)

-- ---- where an expression stands

module _ {s : List ℕ} {lo hi : ℕ} (e : Expression) (u : ExpressionHere s lo hi e) where
  pub sized_part : Part s lo hi (sized (operand_words e) (cell (origin e) (root e)))
  sized_part = rw (shape e) at u.part

  pub root_is : cell_at s hi ≡ cell (origin e) (root e)
  root_is = cells.cell_is (operand_words e) (cell (origin e) (root e)) sized_part

  pub root_tag : tag_at s hi ≡ tag (root e)
  root_tag = tag_is (operand_words e) (cell (origin e) (root e)) sized_part ∙ tag_cell (origin e) (root e)

  pub root_origin : origin_at s hi ≡ origin e
  unfolding cell
  root_origin = ap (λ (x : Cell). x.origin) root_is

  pub here_in : (lo + cell_words ≤ hi) × (hi ≤ length s)
  here_in = cell_in (operand_words e) (cell (origin e) (root e)) sized_part

  pub here_size : Sized s hi
  here_size = has_size (operand_words e) (cell (origin e) (root e)) sized_part

  pub here_start : start_at s hi ≡ lo
  here_start = start_is (operand_words e) (cell (origin e) (root e)) sized_part

module _ {s : List ℕ} {lo hi : ℕ} where
  pub at_in : ExpressionAt s lo hi → (lo + cell_words ≤ hi) × (hi ≤ length s)
  at_in t = here_in t.e t.here

  pub at_size : ExpressionAt s lo hi → Sized s hi
  at_size t = here_size t.e t.here

  pub at_start : ExpressionAt s lo hi → start_at s hi ≡ lo
  at_start t = here_start t.e t.here

  pub here_operand : (og : ℕ) (o : Unary) (x : Expression) → ExpressionHere s lo hi (unary og o x) → ExpressionHere s lo (hi - cell_words) x
  unfolding expression_words
  here_operand og o x u = record { part = body_part (expression_words x) (cell og (unary_cell o)) u.part }

  module _ {mid : ℕ} (st : mid ≡ start_at s (hi - cell_words)) (og : ℕ) (o : Binary) (l r : Expression) (u : ExpressionHere s lo hi (binary og o l r)) where
    both : Part s lo (hi - cell_words) (expression_words l ++ expression_words r)
    unfolding expression_words
    both = body_part (expression_words l ++ expression_words r) (cell og (binary_cell o)) u.part

    right_raw : ExpressionHere s (lo + length (expression_words l)) (hi - cell_words) r
    right_raw = record { part = part_right (expression_words l) (expression_words r) both }

    mid_is : lo + length (expression_words l) ≡ mid
    mid_is = sym (here_start r right_raw) ∙ sym st

    pub here_left : ExpressionHere s lo mid l
    here_left = rw (← mid_is) (record { part = part_left (expression_words l) (expression_words r) both })

    pub here_right : ExpressionHere s mid (hi - cell_words) r
    here_right = subst (λ (n : ℕ). ExpressionHere s n (hi - cell_words) r) mid_is right_raw

  -- the operands, by the range of the tag
  pub at_operand : 30 ≤ tag_at s hi → ExpressionAt s lo hi → ExpressionAt s lo (hi - cell_words)
  at_operand h t = by_unary (λ e. ExpressionHere s lo hi e → ExpressionAt s lo (hi - cell_words)) (λ og o x u. record { e = x; here = here_operand og o x u })
      t.e (omega (arith, root_tag t.e t.here)) t.here

  module _ (h : 10 ≤ tag_at s hi) (k : tag_at s hi < 30) where
    pub at_last : ExpressionAt s lo hi → Sized s (hi - cell_words)
    at_last t = by_binary (λ e. ExpressionHere s lo hi e → Sized s (hi - cell_words)) (λ og o l r u. here_size r (here_right refl og o l r u))
        t.e (omega (arith, root_tag t.e t.here)) (omega (arith, root_tag t.e t.here)) t.here

    module _ {mid : ℕ} (st : mid ≡ start_at s (hi - cell_words)) where
      pub at_left : ExpressionAt s lo hi → ExpressionAt s lo mid
      at_left t = by_binary (λ e. ExpressionHere s lo hi e → ExpressionAt s lo mid) (λ og o l r u. record { e = l; here = here_left st og o l r u })
          t.e (omega (arith, root_tag t.e t.here)) (omega (arith, root_tag t.e t.here)) t.here

      pub at_right : ExpressionAt s lo hi → ExpressionAt s mid (hi - cell_words)
      at_right t = by_binary (λ e. ExpressionHere s lo hi e → ExpressionAt s mid (hi - cell_words)) (λ og o l r u. record { e = r; here = here_right st og o l r u })
          t.e (omega (arith, root_tag t.e t.here)) (omega (arith, root_tag t.e t.here)) t.here
