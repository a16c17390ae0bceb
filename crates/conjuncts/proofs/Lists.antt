-- Laws on lists of conjuncts, without words.
use Prim.Native.Nat.{ℕ}
use native.Mathlib.Omega.{arith}
use mathlib.Core.Bool.{Bool, true, false}
use mathlib.Core.Option.{Option, none, some}
use mathlib.Core.Path.{◌≡◌, refl, sym, ap, ap₂, ◌∙◌}
use mathlib.Core.List.{List, [], ◌∷◌, ◌++◌, map, append_assoc}
use Rattle.sql.specs.Expression.{And, Or, Binary, logical, Equal, function, Expression, constant, column, unary, binary, and, ands, and_all, and_vec, shift_column_down}
use Rattle.sql.specs.Optimizer.{ref_left, ref_right, cons_if, keep, flat_map}
use Rattle.sheet.specs.Content.{binary_tag}
use Rattle.words.specs.Words.{root}
use Rattle.words.proofs.Expressions.{tag, by_and}
use Rattle.conjuncts.specs.declared.Destination.{Destination}
use Rattle.conjuncts.specs.declared.Destination.TheVariants.{Left, Right, Join}
use Rattle.conjuncts.specs.Conjuncts.{and_then, and_onto, for_destination, goes, chosen}

-- ---- and_vec, one conjunct after the other

pub onto_append : (new : ℕ) (acc : Option Expression) (xs ys : List Expression) → and_onto new acc (xs ++ ys) ≡ and_onto new (and_onto new acc xs) ys
onto_append new acc [] ys = refl
onto_append new acc (x ∷ xs) ys = onto_append new (and_then new acc x) xs ys

onto_some : (new : ℕ) (a : Expression) (xs : List Expression) → and_onto new (some a) xs ≡ some (and_all new a xs)
onto_some new a [] = refl
onto_some new a (x ∷ xs) = onto_some new (and new a x) xs

pub onto_none : (new : ℕ) (xs : List Expression) → and_onto new none xs ≡ and_vec new xs
onto_none new [] = refl
onto_none new (x ∷ xs) = onto_some new x xs

pub onto_vec : (new : ℕ) (xs ys : List Expression) → and_onto new (and_vec new xs) ys ≡ and_vec new (xs ++ ys)
onto_vec new xs ys = sym (ap (λ (a : Option Expression). and_onto new a ys) (onto_none new xs)) ∙ (sym (onto_append new none xs ys) ∙ onto_none new (xs ++ ys))

-- ---- the Ands at the top

pub ands_and : (og : ℕ) (o : Binary) (l r : Expression) → binary_tag o ≡ 10 → ands (binary og o l r) ≡ ands l ++ ands r
ands_and og o l r = by_and (λ p. ands (binary og p l r) ≡ ands l ++ ands r) refl o

pub ands_one : (e : Expression) → (tag (root e) ≡ 10 → ⊥) → ands e ≡ e ∷ []
ands_one (constant og v) h = refl
ands_one (column og i) h = refl
ands_one (unary og o x) h = refl
ands_one (binary og (logical And) l r) h = absurd (h refl)
ands_one (binary og (logical Or) l r) h = refl
ands_one (binary og Equal l r) h = refl
ands_one (binary og (function f) l r) h = refl

-- ---- keep and flat_map

pub flat_append : {A B : Type 0} (f : A → List B) (xs ys : List A) → flat_map f (xs ++ ys) ≡ flat_map f xs ++ flat_map f ys
flat_append f [] ys = refl
flat_append f (x ∷ xs) ys = ap (λ l. f x ++ l) (flat_append f xs ys) ∙ sym (append_assoc (f x) (flat_map f xs) (flat_map f ys))

flat_keep : (t : Expression → Bool) (f : Expression → Expression) (es : List Expression) → flat_map (λ e. cons_if (t e) (f e) []) es ≡ map f (keep t es)
flat_keep t f [] = refl
flat_keep t f (x ∷ xs) = step (t x) (keep t xs) (flat_keep t f xs)
  where
    step : (b : Bool) {ys : List Expression} (zs : List Expression) → ys ≡ map f zs → cons_if b (f x) [] ++ ys ≡ map f (cons_if b x zs)
    step true zs h = ap (λ l. f x ∷ l) h
    step false zs h = h

pub shift_none : (e : Expression) → shift_column_down 0 e ≡ e
shift_none (constant og v) = refl
shift_none (column og c) = ap (column og) (omega arith)
shift_none (unary og o x) = ap (unary og o) (shift_none x)
shift_none (binary og o l r) = ap₂ (binary og o) (shift_none l) (shift_none r)

pub map_shift_none : (es : List Expression) → map (shift_column_down 0) es ≡ es
map_shift_none [] = refl
map_shift_none (e ∷ es) = ap₂ (λ x xs. x ∷ xs) (shift_none e) (map_shift_none es)

-- ---- the conjuncts that go somewhere

module _ (n : ℕ) where
  test : Destination → Expression → Bool
  test to e = goes to (ref_left n e) (ref_right n e)

  kept : (to : Destination) (es : List Expression) → keep (test to) es ≡ for_destination to n es
  unfolding test
  kept Left es = refl
  kept Right es = refl
  kept Join es = refl

  -- one law for the three destinations
  pub chosen_all : (to : Destination) (shift : ℕ) (es : List Expression) → flat_map (chosen to n shift) es ≡ map (shift_column_down shift) (for_destination to n es)
  unfolding test
  chosen_all to shift es = flat_keep (test to) (shift_column_down shift) es ∙ ap (map (shift_column_down shift)) (kept to es)

  pub chosen_unmoved : (to : Destination) (es : List Expression) → flat_map (chosen to n 0) es ≡ for_destination to n es
  chosen_unmoved to es = chosen_all to 0 es ∙ map_shift_none (for_destination to n es)
