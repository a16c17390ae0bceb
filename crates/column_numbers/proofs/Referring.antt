-- What an expression refers to, from what its cells do.
use Prim.Native.Nat.{ℕ}
use native.Mathlib.Omega.{arith}
use mathlib.Core.Bool.{Bool, ◌||◌, ◌&&◌, or-false}
use mathlib.Core.Path.{◌≡◌, refl, ap₂, ◌∙◌}
use mathlib.Core.List.{List}
use lib.ListN.{get_or}
use lib.Dec.{eqb}
use borrow.Author.Tests.{ne_eqb}
use Rattle.sql.specs.Expression.{Expression, constant, column, unary, binary, contains_column}
use Rattle.sheet.specs.Content.{constant_cell, unary_tag, binary_tag}
use Rattle.words.specs.Words.{cell}
use Rattle.words.proofs.Expressions.{tag, constant_tag, unary_range, binary_range}
use Rattle.words.proofs.EachCell.{holds}

-- the test of a cell's words: it is a Column, and its number passes
abbrev pub is_column : (ℕ → Bool) → List ℕ → Bool
is_column test k = eqb (get_or k 1 0) 6 && test (get_or k 3 0)

pub some_column : (test : ℕ → Bool) (e : Expression) → holds (is_column test) e ≡ contains_column test e
unfolding cell
some_column test (constant og v) = simp (ne_eqb (tag (constant_cell v)) 6 (λ z. omega (arith, constant_tag v)))
some_column test (column og i) = refl
some_column test (unary og o x) = simp (ne_eqb (unary_tag o) 6 (λ z. omega (arith, unary_range o))) (or-false _ ∙ some_column test x)
some_column test (binary og o l r) =
    simp (ne_eqb (binary_tag o) 6 (λ z. omega (arith, (binary_range o).0)))
    (ap₂ (λ (a b : Bool). a || b) (some_column test l) (or-false _ ∙ some_column test r))
