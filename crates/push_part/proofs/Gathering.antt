-- Some of an expression's conjuncts, joined by And, are no longer than the expression: there is room for them in a slice that is as long as the expression's.
-- The last of the expression's words is its length, so that fits a word.
use Prim.Native.Nat.{ℕ, suc, ◌+◌, ◌-◌, ◌≤◌, ◌<◌}
use native.Mathlib.Omega.{arith}
use mathlib.Core.Bool.{Bool, true, false, not}
use mathlib.Core.Path.{◌≡◌, refl, subst}
use mathlib.Core.List.{List, [], ◌∷◌, ◌++◌, map}
use lib.ListN.{length, get_or}
use Rattle.sql.specs.Expression.{And, Or, logical, Equal, function, Expression, constant, column, unary, binary, and, size, ands, and_all, and_vec, shift_column_down}
use Rattle.sql.specs.Optimizer.{ref_left, ref_right, cons_if, keep, for_left, for_right}
use Rattle.words.specs.Words.{expression_words, optional_words}
use Rattle.words.specs.Place.{ExpressionHere}
use Rattle.words.proofs.Expressions.{here_size, here_start}
use Rattle.words.proofs.Sizes.{expression_long}
use Rattle.cells.specs.Room.{Wrote}
use Rattle.cells.proofs.Laws.{part_in}
use Rattle.conjuncts.specs.Conjuncts.{AppendsEach, OptionalHere}
use Rattle.conjuncts.proofs.Lists.{map_shift_none}
use Rattle.conjuncts.proofs.Appending.{appends_vec, written_conjuncts}

-- the cells of conjuncts, with one more for each
abbrev cells : List Expression → ℕ
cells [] = 0
cells (x ∷ xs) = suc (size x) + cells xs

all_cells : (new : ℕ) (x : Expression) (xs : List Expression) → suc (size (and_all new x xs)) ≡ suc (size x) + cells xs
all_cells new x [] = omega arith
all_cells new x (y ∷ ys) = omega (arith, all_cells new (and new x y) ys)

append_cells : (xs ys : List Expression) → cells (xs ++ ys) ≡ cells xs + cells ys
append_cells [] ys = omega arith
append_cells (x ∷ xs) ys = omega (arith, append_cells xs ys)

ands_cells : (e : Expression) → cells (ands e) ≡ suc (size e)
ands_cells (constant og v) = refl
ands_cells (column og i) = refl
ands_cells (unary og o x) = omega arith
ands_cells (binary og (logical And) l r) = omega (arith, append_cells (ands l) (ands r), ands_cells l, ands_cells r)
ands_cells (binary og (logical Or) l r) = omega arith
ands_cells (binary og Equal l r) = omega arith
ands_cells (binary og (function f) l r) = omega arith

keep_cells : (t : Expression → Bool) (xs : List Expression) → cells (keep t xs) ≤ cells xs
keep_cells t [] = omega arith
keep_cells t (x ∷ xs) = step (t x) (keep_cells t xs)
  where
    step : (b : Bool) → cells (keep t xs) ≤ cells xs → cells (cons_if b x (keep t xs)) ≤ suc (size x) + cells xs
    step true h = omega arith
    step false h = omega arith

kept_long : (new : ℕ) (t : Expression → Bool) (e : Expression) → length (optional_words (and_vec new (keep t (ands e)))) ≤ length (expression_words e)
kept_long new t e = go (keep t (ands e)) (keep_cells t (ands e))
  where
    go : (xs : List Expression) → cells xs ≤ cells (ands e) → length (optional_words (and_vec new xs)) ≤ length (expression_words e)
    go [] h = omega arith
    go (x ∷ xs) h = omega (arith, all_cells new x xs, ands_cells e, expression_long (and_all new x xs), expression_long e)

module _ {s : List ℕ} {end : ℕ} {g : List ℕ} {m : ℕ} {g₁ : List ℕ} (l : length g ≡ length s) (short : get_or s (end - 1) 0 < 4294967296) where
  gathered : (new : ℕ) (t : Expression → Bool) (e : Expression) → ExpressionHere s 0 end e → Wrote g 0 (optional_words (and_vec new (keep t (ands e)))) m g₁
      → OptionalHere g₁ 0 m (and_vec new (keep t (ands e)))
  gathered new t e u w =
      written_conjuncts (and_vec new (keep t (ands e))) w
      (let k = kept_long new t e in let (i, j) = part_in u.part in let z = u.part.high in w.room (omega (arith, k, z, (here_size e u).long, here_start e u, short)) (omega arith))

  pub left_gathered : (new n : ℕ) → AppendsEach new (λ e. for_left n (ands e)) s 0 end g 0 0 m g₁ → (e : Expression) → ExpressionHere s 0 end e
      → OptionalHere g₁ 0 m (and_vec new (for_left n (ands e)))
  left_gathered new n f e u = gathered new (λ x. not (ref_right n x)) e u (appends_vec new (for_left n (ands e)) (f e u))

  pub right_gathered : (new n : ℕ) → AppendsEach new (λ e. map (shift_column_down 0) (for_right n (ands e))) s 0 end g 0 0 m g₁ → (e : Expression) → ExpressionHere s 0 end e
      → OptionalHere g₁ 0 m (and_vec new (for_right n (ands e)))
  right_gathered new n f e u =
      gathered new (λ x. not (ref_left n x)) e u
      (subst (λ (xs : List Expression). Wrote g 0 (optional_words (and_vec new xs)) m g₁) (map_shift_none (for_right n (ands e)))
      (appends_vec new (map (shift_column_down 0) (for_right n (ands e))) (f e u)))
