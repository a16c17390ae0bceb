-- What an expression looks up or sets equal, from its cells and what its operands look up.
use Prim.Native.Nat.{ℕ, ◌-◌, ◌≤◌, ◌<◌}
use native.Mathlib.Omega.{arith}
use borrow.Author.Tests.{eq-eqb, ne_eqb, lt-ltb, le-ltb}
use mathlib.Core.Option.{none}
use mathlib.Core.Path.{◌≡◌, refl, sym, ap, ap₂, ◌∙◌}
use mathlib.Core.List.{List}
use Rattle.sql.specs.Expression.{origin, And, Or, IsNull, IsNaN, Identity, Negate, SquareRoot, Unary, Not, function, logical, Equal, Expression, constant, column, unary, binary, is_column, is_equal_lookup, same_column, is_column_lookup}
use Rattle.sql.specs.Optimizer.{ordered, equijoin}
use Rattle.sheet.specs.Content.{constant_cell, column_cell, unary_cell, binary_cell, unary_tag}
use Rattle.cells.specs.declared.Cell.{Cell}
use Rattle.cells.specs.Cells.{cell_words, cell_at, tag_at, start_at}
use Rattle.words.specs.Words.{cell, root}
use Rattle.words.specs.Place.{ExpressionHere}
use Rattle.words.proofs.Expressions.{tag, tag_cell, constant_tag, unary_range, binary_range, by_unary, by_binary, by_or, by_equal, root_is, root_tag, here_operand, here_left, here_right}
use Rattle.std.specs.Prelude as code
use Rattle.std.specs.Prelude.{Some, None}
use Rattle.column_numbers.specs.declared.JoinedColumn.{JoinedColumn}
use Rattle.column_lookup.specs.Lookup.{found, pair, column_in, equal_cells, LooksUp, SetsEqual}

-- ---- of cells

no_column : (k : Cell) → (k.tag ≡ 6 → ⊥) → column_in k ≡ None
no_column k h = simp (ne_eqb _ _ h)

constant_first : (k j : Cell) → k.tag < 6 → equal_cells k j ≡ column_in j
constant_first k j h = simp (lt-ltb _ _ h)

column_first : (k j : Cell) → k.tag ≡ 6 → j.tag < 6 → equal_cells k j ≡ Some k.a
column_first k j h g = simp (le-ltb k.tag 6 (omega arith), eq-eqb _ _ h, lt-ltb _ _ g)

no_constant : (k j : Cell) → k.tag ≡ 6 → 6 ≤ j.tag → equal_cells k j ≡ None
no_constant k j h g = simp (le-ltb k.tag 6 (omega arith), eq-eqb _ _ h, le-ltb j.tag 6 g)

neither : (k j : Cell) → 6 < k.tag → equal_cells k j ≡ None
neither k j h = simp (le-ltb k.tag 6 (omega arith), ne_eqb k.tag 6 (λ z. omega arith))

root_column : (e : Expression) → found (column_in (cell (origin e) (root e))) ≡ is_column e
unfolding cell
root_column (constant og v) = ap found (no_column (cell og (constant_cell v)) (λ z. omega (arith, constant_tag v, tag_cell og (constant_cell v))))
root_column (column og i) = refl
root_column (unary og o x) = ap found (no_column (cell og (unary_cell o)) (λ z. omega (arith, unary_range o, tag_cell og (unary_cell o))))
root_column (binary og o l r) = ap found (no_column (cell og (binary_cell o)) (λ z. omega (arith, (binary_range o).0, tag_cell og (binary_cell o))))

root_equal : (l r : Expression) → found (equal_cells (cell (origin l) (root l)) (cell (origin r) (root r))) ≡ is_equal_lookup l r
unfolding cell
root_equal (constant og v) r = ap found (constant_first (cell og (constant_cell v)) (cell (origin r) (root r)) (omega (arith, constant_tag v, tag_cell og (constant_cell v)))) ∙ root_column r
root_equal (column og i) (constant og' v) = ap found (column_first (cell og (column_cell i)) (cell og' (constant_cell v)) refl (omega (arith, constant_tag v, tag_cell og' (constant_cell v))))
root_equal (column og i) (column og' j) = refl
root_equal (column og i) (unary og' o x) = ap found (no_constant (cell og (column_cell i)) (cell og' (unary_cell o)) refl (omega (arith, unary_range o, tag_cell og' (unary_cell o))))
root_equal (column og i) (binary og' o x y) = ap found (no_constant (cell og (column_cell i)) (cell og' (binary_cell o)) refl (omega (arith, (binary_range o).0, tag_cell og' (binary_cell o))))
root_equal (unary og o x) r = ap found (neither (cell og (unary_cell o)) (cell (origin r) (root r)) (omega (arith, unary_range o, tag_cell og (unary_cell o))))
root_equal (binary og o x y) r = ap found (neither (cell og (binary_cell o)) (cell (origin r) (root r)) (omega (arith, (binary_range o).0, tag_cell og (binary_cell o))))

-- ---- by the tag

is_test : (og : ℕ) (o : Unary) (x : Expression) → 31 ≤ unary_tag o → unary_tag o ≤ 32 → is_column_lookup (unary og o x) ≡ is_column x
is_test og Not x h k = absurd (omega arith)
is_test og (function IsNull) x h k = refl
is_test og (function IsNaN) x h k = refl
is_test og (function Identity) x h k = absurd (omega arith)
is_test og (function Negate) x h k = absurd (omega arith)
is_test og (function SquareRoot) x h k = absurd (omega arith)

no_lookup : (e : Expression) → (tag (root e) ≡ 11 → ⊥) → (tag (root e) ≡ 12 → ⊥) → tag (root e) < 31 → is_column_lookup e ≡ none
no_lookup (constant og v) f g h = refl
no_lookup (column og i) f g h = refl
no_lookup (unary og Not x) f g h = refl
no_lookup (unary og (function IsNull) x) f g h = absurd (omega arith)
no_lookup (unary og (function IsNaN) x) f g h = absurd (omega arith)
no_lookup (unary og (function Identity) x) f g h = refl
no_lookup (unary og (function Negate) x) f g h = refl
no_lookup (unary og (function SquareRoot) x) f g h = refl
no_lookup (binary og (logical And) l r) f g h = refl
no_lookup (binary og (logical Or) l r) f g h = absurd (f refl)
no_lookup (binary og Equal l r) f g h = absurd (g refl)
no_lookup (binary og (function p) l r) f g h = refl

no_is_test : (e : Expression) → 32 < tag (root e) → is_column_lookup e ≡ none
no_is_test (constant og v) h = refl
no_is_test (column og i) h = refl
no_is_test (unary og Not x) h = refl
no_is_test (unary og (function IsNull) x) h = absurd (omega arith)
no_is_test (unary og (function IsNaN) x) h = absurd (omega arith)
no_is_test (unary og (function Identity) x) h = refl
no_is_test (unary og (function Negate) x) h = refl
no_is_test (unary og (function SquareRoot) x) h = refl
no_is_test (binary og o l r) h = absurd (omega (arith, (binary_range o).1))

no_equal : (e : Expression) → (tag (root e) ≡ 12 → ⊥) → equijoin e ≡ none
no_equal (constant og v) h = refl
no_equal (column og i) h = refl
no_equal (unary og o x) h = refl
no_equal (binary og (logical o) l r) h = refl
no_equal (binary og Equal l r) h = absurd (h refl)
no_equal (binary og (function f) l r) h = refl

-- ---- the functions' answers

module _ {s : List ℕ} {lo hi : ℕ} where
  module _ {mid : ℕ} (st : mid ≡ start_at s (hi - cell_words)) where
    pub looks_or : tag_at s hi ≡ 11 → (a b q : code.Option ℕ) → LooksUp s lo mid a → LooksUp s mid (hi - cell_words) b → found q ≡ same_column (found a) (found b) → LooksUp s lo hi q
    looks_or h a b q f g w e u = by_binary (λ e. ExpressionHere s lo hi e → tag (root e) ≡ 11 → found q ≡ is_column_lookup e)
        (λ og o l r t k. by_or (λ p. found q ≡ is_column_lookup (binary og p l r)) (w ∙ ap₂ same_column (f l (here_left st og o l r t)) (g r (here_right st og o l r t))) o k)
        e (omega (arith, root_tag e u)) (omega (arith, root_tag e u)) u (sym (root_tag e u) ∙ h)

    module _ (h : tag_at s hi ≡ 12) {c j : Cell} (at_c : c ≡ cell_at s mid) (at_j : j ≡ cell_at s (hi - cell_words)) where
      pub looks_equal : {q : code.Option ℕ} → q ≡ equal_cells c j → LooksUp s lo hi q
      looks_equal {q} w e u = by_binary (λ e. ExpressionHere s lo hi e → tag (root e) ≡ 12 → found q ≡ is_column_lookup e)
          (λ og o l r t k. by_equal (λ p. found q ≡ is_column_lookup (binary og p l r))
          (ap found (w ∙ ap₂ equal_cells (at_c ∙ root_is l (here_left st og o l r t)) (at_j ∙ root_is r (here_right st og o l r t))) ∙ root_equal l r) o k)
          e (omega (arith, root_tag e u)) (omega (arith, root_tag e u)) u (sym (root_tag e u) ∙ h)

      pub sets_equal : {x y : code.Option ℕ} → x ≡ column_in c → y ≡ column_in j → (q : code.Option (JoinedColumn × JoinedColumn)) → pair q ≡ ordered (found x) (found y) → SetsEqual s lo hi q
      sets_equal {x} {y} in_c in_j q w e u = by_binary (λ e. ExpressionHere s lo hi e → tag (root e) ≡ 12 → pair q ≡ equijoin e)
          (λ og o l r t k. by_equal (λ p. pair q ≡ equijoin (binary og p l r))
          (w ∙ ap₂ ordered
          (ap found (in_c ∙ ap column_in (at_c ∙ root_is l (here_left st og o l r t))) ∙ root_column l)
          (ap found (in_j ∙ ap column_in (at_j ∙ root_is r (here_right st og o l r t))) ∙ root_column r)) o k)
          e (omega (arith, root_tag e u)) (omega (arith, root_tag e u)) u (sym (root_tag e u) ∙ h)

  pub looks_is : 31 ≤ tag_at s hi → tag_at s hi ≤ 32 → {c : Cell} → c ≡ cell_at s (hi - cell_words) → {q : code.Option ℕ} → q ≡ column_in c → LooksUp s lo hi q
  looks_is h k {c} at_c {q} w e u = by_unary (λ e. ExpressionHere s lo hi e → 31 ≤ tag (root e) → tag (root e) ≤ 32 → found q ≡ is_column_lookup e)
      (λ og o x t h₁ k₁. ap found (w ∙ ap column_in (at_c ∙ root_is x (here_operand og o x t))) ∙ (root_column x ∙ sym (is_test og o x h₁ k₁)))
      e (omega (arith, root_tag e u)) u (omega (arith, root_tag e u)) (omega (arith, root_tag e u))

  pub looks_none : (tag_at s hi ≡ 11 → ⊥) → (tag_at s hi ≡ 12 → ⊥) → tag_at s hi < 31 → LooksUp s lo hi None
  looks_none f g h e u = sym (no_lookup e (λ z. f (root_tag e u ∙ z)) (λ z. g (root_tag e u ∙ z)) (omega (arith, root_tag e u)))

  pub looks_other : 32 < tag_at s hi → LooksUp s lo hi None
  looks_other h e u = sym (no_is_test e (omega (arith, root_tag e u)))

  pub sets_none : (tag_at s hi ≡ 12 → ⊥) → SetsEqual s lo hi None
  sets_none h e u = sym (no_equal e (λ z. h (root_tag e u ∙ z)))
