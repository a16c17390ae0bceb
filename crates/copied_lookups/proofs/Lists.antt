-- What is copied and pushed, as lists of conjuncts.
use Prim.Native.Nat.{ℕ}
use mathlib.Core.Bool.{Bool, true, false, not, ◌&&◌, cond}
use mathlib.Core.Option.{Option, none, some}
use mathlib.Core.Path.{◌≡◌, refl, sym, ap, ap₂, ◌∙◌}
use mathlib.Core.List.{List, [], ◌∷◌, ◌++◌, map, append_assoc}
use Rattle.sql.specs.Expression.{And, Or, logical, Equal, function, Expression, constant, column, unary, binary, and, ands, and_all, and_vec, shift_column_down}
use Rattle.sql.specs.Optimizer.{ref_left, ref_right, cons_if, keep, for_left, for_right, for_both, equijoin, last_lookup, copied, copy_up, copy_down, flat_map, push_left, push_right, map_optional}
use Rattle.copied_lookups.specs.declared.Source.TheVariants.{Left, Right}
use Rattle.copied_lookups.specs.Copies.{conjuncts_of, optional_copies, copies}
use Rattle.copied_lookups.proofs.Lookups.{moved_copy, stays}

-- ---- and_vec of conjuncts has these conjuncts

Singles : List Expression → Type 0
Singles [] = Unit
Singles (x ∷ xs) = (ands x ≡ x ∷ []) × Singles xs

singles_append : (xs ys : List Expression) → Singles xs → Singles ys → Singles (xs ++ ys)
unfolding Singles
singles_append [] ys f g = g
singles_append (x ∷ xs) ys f g = (f.0, singles_append xs ys f.1 g)

singles_ands : (e : Expression) → Singles (ands e)
unfolding Singles
singles_ands (constant og v) = (refl, tt)
singles_ands (column og i) = (refl, tt)
singles_ands (unary og o x) = (refl, tt)
singles_ands (binary og (logical And) l r) = singles_append (ands l) (ands r) (singles_ands l) (singles_ands r)
singles_ands (binary og (logical Or) l r) = (refl, tt)
singles_ands (binary og Equal l r) = (refl, tt)
singles_ands (binary og (function f) l r) = (refl, tt)

singles_keep : (t : Expression → Bool) (xs : List Expression) → Singles xs → Singles (keep t xs)
unfolding Singles
singles_keep t [] f = tt
singles_keep t (x ∷ xs) f = step (t x) (singles_keep t xs f.1)
  where
    step : (b : Bool) → Singles (keep t xs) → Singles (cons_if b x (keep t xs))
    step true g = (f.0, g)
    step false g = g

flat_singles : (xs : List Expression) → Singles xs → flat_map ands xs ≡ xs
unfolding Singles
flat_singles [] f = refl
flat_singles (x ∷ xs) f = ap₂ (λ (a b : List Expression). a ++ b) f.0 (flat_singles xs f.1)

ands_all : (new : ℕ) (a : Expression) (xs : List Expression) → ands (and_all new a xs) ≡ ands a ++ flat_map ands xs
ands_all new a [] = sym (append_nothing (ands a))
  where
    append_nothing : (l : List Expression) → l ++ [] ≡ l
    append_nothing [] = refl
    append_nothing (x ∷ l) = ap (λ m. x ∷ m) (append_nothing l)
ands_all new a (x ∷ xs) = ands_all new (and new a x) xs ∙ append_assoc (ands a) (ands x) (flat_map ands xs)

conjuncts_back : (new : ℕ) (xs : List Expression) → Singles xs → conjuncts_of (and_vec new xs) ≡ xs
unfolding Singles
conjuncts_back new [] f = refl
conjuncts_back new (x ∷ xs) f = ands_all new x xs ∙ ap₂ (λ (a b : List Expression). a ++ b) f.0 (flat_singles xs f.1)

pub kept_back : (new : ℕ) (t : Expression → Bool) (e : Expression) → conjuncts_of (and_vec new (keep t (ands e))) ≡ keep t (ands e)
kept_back new t e = conjuncts_back new (keep t (ands e)) (singles_keep t (ands e) (singles_ands e))

-- ---- moving the columns of conjuncts

pub map_append : {A B : Type 0} (f : A → B) (xs ys : List A) → map f (xs ++ ys) ≡ map f xs ++ map f ys
map_append f [] ys = refl
map_append f (x ∷ xs) ys = ap (λ l. f x ∷ l) (map_append f xs ys)

map_flat : {A B C : Type 0} (f : B → C) (g : A → List B) (xs : List A) → map f (flat_map g xs) ≡ flat_map (λ x. map f (g x)) xs
map_flat f g [] = refl
map_flat f g (x ∷ xs) = map_append f (g x) (flat_map g xs) ∙ ap (λ l. map f (g x) ++ l) (map_flat f g xs)

moved_all : (new n : ℕ) (a : Expression) (xs : List Expression) → shift_column_down n (and_all new a xs) ≡ and_all new (shift_column_down n a) (map (shift_column_down n) xs)
moved_all new n a [] = refl
moved_all new n a (x ∷ xs) = moved_all new n (and new a x) xs

pub moved_vec : (new n : ℕ) (xs : List Expression) → map_optional (shift_column_down n) (and_vec new xs) ≡ and_vec new (map (shift_column_down n) xs)
moved_vec new n [] = refl
moved_vec new n (x ∷ xs) = ap some (moved_all new n x xs)

-- ---- the copies of all equijoins that stay

flat_same : {A B : Type 0} (f g : A → List B) → ((x : A) → f x ≡ g x) → (xs : List A) → flat_map f xs ≡ flat_map g xs
flat_same f g h [] = refl
flat_same f g h (x ∷ xs) = ap₂ (λ a b. a ++ b) (h x) (flat_same f g h xs)

flat_if : (t : Expression → Bool) (f : Expression → List Expression) (es : List Expression) → flat_map (λ e. cond (t e) (f e) []) es ≡ flat_map f (keep t es)
flat_if t f [] = refl
flat_if t f (x ∷ xs) = step (t x) (flat_if t f xs)
  where
    step : (b : Bool) → flat_map (λ e. cond (t e) (f e) []) xs ≡ flat_map f (keep t xs)
        → cond b (f x) [] ++ flat_map (λ e. cond (t e) (f e) []) xs ≡ flat_map f (cons_if b x (keep t xs))
    step true h = ap (λ l. f x ++ l) h
    step false h = h

none_either : (b : Bool) → ◌≡◌ {A = List Expression} [] (cond b [] [])
none_either true = refl
none_either false = refl

module _ (n shift : ℕ) (lookups : List Expression) where
  own_down : Expression → Bool
  own_down e = ref_left n e && ref_right n e

  down_here : (e : Expression) → copies Left n shift lookups e ≡ cond (own_down e) (copy_down lookups (equijoin e)) []
  unfolding own_down
  down_here e = by_pair (equijoin e) refl
    where
      by_pair : (o : Option (ℕ × ℕ)) → equijoin e ≡ o → optional_copies Left n shift lookups o ≡ cond (ref_left n e && ref_right n e) (copy_down lookups o) []
      by_pair none q = none_either (ref_left n e && ref_right n e)
      by_pair (some p) q = ap (λ (b : Bool). cond b (copied p.1 p.0 (last_lookup p.1 lookups)) []) (sym (stays n e p q))

  up_here : (e : Expression) → copies Right n shift lookups e ≡ cond (own_down e) (map (shift_column_down shift) (copy_up lookups (equijoin e))) []
  unfolding own_down
  up_here e = by_pair (equijoin e) refl
    where
      by_pair : (o : Option (ℕ × ℕ)) → equijoin e ≡ o
          → optional_copies Right n shift lookups o ≡ cond (ref_left n e && ref_right n e) (map (shift_column_down shift) (copy_up lookups o)) []
      by_pair none q = none_either (ref_left n e && ref_right n e)
      by_pair (some p) q =
          ap₂ (λ (b : Bool) (l : List Expression). cond b l []) (sym (stays n e p q)) (sym (moved_copy shift p.0 p.1 lookups))

  pub copies_down : (es : List Expression) → flat_map (copies Left n shift lookups) es ≡ flat_map (λ e. copy_down lookups (equijoin e)) (for_both n es)
  unfolding own_down
  copies_down es = flat_same (copies Left n shift lookups) (λ e. cond (own_down e) (copy_down lookups (equijoin e)) []) down_here es
      ∙ flat_if own_down (λ e. copy_down lookups (equijoin e)) es

  pub copies_up : (es : List Expression) → flat_map (copies Right n shift lookups) es ≡ map (shift_column_down shift) (flat_map (λ e. copy_up lookups (equijoin e)) (for_both n es))
  unfolding own_down
  copies_up es = flat_same (copies Right n shift lookups) (λ e. cond (own_down e) (map (shift_column_down shift) (copy_up lookups (equijoin e))) []) up_here es
      ∙ (flat_if own_down (λ e. map (shift_column_down shift) (copy_up lookups (equijoin e))) es
      ∙ sym (map_flat (shift_column_down shift) (λ e. copy_up lookups (equijoin e)) (for_both n es)))

-- ---- all that is pushed

pub pushed_left : (new n : ℕ) (e : Expression) → for_left n (ands e) ++ flat_map (copies Left n 0 (conjuncts_of (and_vec new (for_right n (ands e))))) (ands e) ≡ push_left n (ands e)
pushed_left new n e = ap (λ l. for_left n (ands e) ++ l)
    (ap (λ ls. flat_map (copies Left n 0 ls) (ands e)) (kept_back new (λ x. not (ref_left n x)) e) ∙ copies_down n 0 (for_right n (ands e)) (ands e))

pub pushed_right : (new n shift : ℕ) (e : Expression)
    → map (shift_column_down shift) (for_right n (ands e)) ++ flat_map (copies Right n shift (conjuncts_of (and_vec new (for_left n (ands e))))) (ands e) ≡ map (shift_column_down shift) (push_right n (ands e))
pushed_right new n shift e = ap (λ l. map (shift_column_down shift) (for_right n (ands e)) ++ l)
    (ap (λ ls. flat_map (copies Right n shift ls) (ands e)) (kept_back new (λ x. not (ref_right n x)) e) ∙ copies_up n shift (for_left n (ands e)) (ands e))
    ∙ sym (map_append (shift_column_down shift) (for_right n (ands e)) (flat_map (λ x. copy_up (for_left n (ands e)) (equijoin x)) (for_both n (ands e))))
