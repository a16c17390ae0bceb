-- What is pushed into the right source refers to no column of the left one, so what comes back from it is what was moved (crate literal, up-down).
use Prim.Native.Nat.{ℕ}
use mathlib.Core.Bool.{Bool, true, false, not, ◌&&◌, ◌||◌, cond}
use mathlib.Core.Option.{Option, none, some}
use mathlib.Core.Path.{◌≡◌, refl, sym, ap, ap₂, ◌∙◌, subst}
use mathlib.Core.List.{List, [], ◌∷◌, ◌++◌}
use lib.Dec.{eqb, ltb}
use Rattle.sql.specs.Expression.{And, Or, IsNull, IsNaN, Identity, Negate, SquareRoot, Not, function, logical, Equal, Expression, constant, column, unary, binary, and, and_all, and_vec, contains_column, map_columns, is_column, is_column_lookup}
use Rattle.sql.specs.Optimizer.{ref_left, ref_right, cons_if, for_left, for_right, for_both, equijoin, last_lookup, copied, copy_up, flat_map, push_right}
use Rattle.copied_lookups.proofs.Lookups.{no_some, no_true, column_is, same_both, eqb_same, last_is, stays}

-- ---- the columns of a rewritten lookup

or_same : (b : Bool) → (b || b) ≡ b
or_same true = refl
or_same false = refl

or_false : (b : Bool) → (b || false) ≡ b
or_false true = refl
or_false false = refl

module _ (t : ℕ → Bool) (f : ℕ → ℕ) (c : ℕ) where
  column_has : (x : Expression) → is_column x ≡ some c → contains_column t (map_columns f x) ≡ t (f c)
  column_has x h = subst (λ (y : Expression). contains_column t (map_columns f y) ≡ t (f c)) (sym (column_is x c h)) refl

  lookup_has : (e : Expression) → is_column_lookup e ≡ some c → contains_column t (map_columns f e) ≡ t (f c)
  lookup_has (constant og v) h = no_some h
  lookup_has (column og i) h = no_some h
  lookup_has (unary og Not x) h = no_some h
  lookup_has (unary og (function IsNull) x) h = column_has x h
  lookup_has (unary og (function IsNaN) x) h = column_has x h
  lookup_has (unary og (function Identity) x) h = no_some h
  lookup_has (unary og (function Negate) x) h = no_some h
  lookup_has (unary og (function SquareRoot) x) h = no_some h
  lookup_has (binary og (logical And) l r) h = no_some h
  lookup_has (binary og (logical Or) l r) h =
      let (a, b) = same_both (is_column_lookup l) (is_column_lookup r) c h in ap₂ (λ (i j : Bool). i || j) (lookup_has l a) (lookup_has r b) ∙ or_same (t (f c))
  lookup_has (binary og Equal (constant og' v) r) h = column_has r h
  lookup_has (binary og Equal (column og' i) (constant og'' v)) h = or_false (t (f i)) ∙ column_has (column og' i) h
  lookup_has (binary og Equal (column og' i) (column og'' j)) h = no_some h
  lookup_has (binary og Equal (column og' i) (unary og'' o x)) h = no_some h
  lookup_has (binary og Equal (column og' i) (binary og'' o x y)) h = no_some h
  lookup_has (binary og Equal (unary og' o x) r) h = no_some h
  lookup_has (binary og Equal (binary og' o x y) r) h = no_some h
  lookup_has (binary og (function p) l r) h = no_some h

-- ---- lists of conjuncts without a column of the left source

module _ (n : ℕ) where
  NoLeft : List Expression → Type 0
  NoLeft [] = Unit
  NoLeft (x ∷ xs) = (ref_left n x ≡ false) × NoLeft xs

  no_left_append : (xs ys : List Expression) → NoLeft xs → NoLeft ys → NoLeft (xs ++ ys)
  unfolding NoLeft
  no_left_append [] ys f g = g
  no_left_append (x ∷ xs) ys f g = (f.0, no_left_append xs ys f.1 g)

  no_left_kept : (es : List Expression) → NoLeft (for_right n es)
  unfolding NoLeft
  no_left_kept [] = tt
  no_left_kept (x ∷ xs) = test (ref_left n x) refl (no_left_kept xs)
    where
      test : (b : Bool) → ref_left n x ≡ b → NoLeft (for_right n xs) → NoLeft (cons_if (not b) x (for_right n xs))
      test true q g = g
      test false q g = (q, g)

  not_true : (b : Bool) → not b ≡ true → b ≡ false
  not_true true h = no_true h
  not_true false h = refl

  and_second : (a b : Bool) → (a && b) ≡ true → b ≡ true
  and_second true b h = h
  and_second false b h = no_true h

  -- the copies of an equijoin that stays
  no_left_copy : (lookups : List Expression) (e : Expression) → (ref_left n e && ref_right n e) ≡ true → NoLeft (copy_up lookups (equijoin e))
  unfolding NoLeft
  no_left_copy lookups e h = by_pair (equijoin e) refl
    where
      by_last : (p : ℕ × ℕ) → ltb p.1 n ≡ false → (o : Option Expression) → last_lookup p.0 lookups ≡ o → NoLeft (copied p.0 p.1 o)
      by_last p k none q = tt
      by_last p k (some x) q = (
        lookup_has (λ c. ltb c n) (λ i. cond (eqb i p.0) p.1 i) p.0 x (last_is p.0 lookups x q)
            ∙ (ap (λ (b : Bool). ltb (cond b p.1 p.0) n) (eqb_same p.0) ∙ k),
        tt,
      )

      by_pair : (o : Option (ℕ × ℕ)) → equijoin e ≡ o → NoLeft (copy_up lookups o)
      by_pair none q = tt
      by_pair (some p) q =
          by_last p (not_true (ltb p.1 n) (and_second (ltb p.0 n) (not (ltb p.1 n)) (sym (stays n e p q) ∙ h))) (last_lookup p.0 lookups) refl

  no_left_copies : (lookups es : List Expression) → NoLeft (flat_map (λ e. copy_up lookups (equijoin e)) (for_both n es))
  unfolding NoLeft
  no_left_copies lookups [] = tt
  no_left_copies lookups (x ∷ xs) = test (ref_left n x && ref_right n x) refl (no_left_copies lookups xs)
    where
      test : (b : Bool) → (ref_left n x && ref_right n x) ≡ b → NoLeft (flat_map (λ e. copy_up lookups (equijoin e)) (for_both n xs))
          → NoLeft (flat_map (λ e. copy_up lookups (equijoin e)) (cons_if b x (for_both n xs)))
      test true q g = no_left_append (copy_up lookups (equijoin x)) (flat_map (λ e. copy_up lookups (equijoin e)) (for_both n xs)) (no_left_copy lookups x q) g
      test false q g = g

  no_left_all : (new : ℕ) (a : Expression) (xs : List Expression) → ref_left n a ≡ false → NoLeft xs → ref_left n (and_all new a xs) ≡ false
  unfolding NoLeft
  no_left_all new a [] h f = h
  no_left_all new a (x ∷ xs) h f = no_left_all new (and new a x) xs (ap₂ (λ (i j : Bool). i || j) h f.0) f.1

  no_left_vec : (new : ℕ) (xs : List Expression) → NoLeft xs → (p : Expression) → and_vec new xs ≡ some p → ref_left n p ≡ false
  unfolding NoLeft
  no_left_vec new [] f p q = no_some q
  no_left_vec new (x ∷ xs) f p q = let z : and_all new x xs ≡ p = cc in subst (λ (y : Expression). ref_left n y ≡ false) z (no_left_all new x xs f.0 f.1)

  pub right_refers : (new : ℕ) (es : List Expression) (p : Expression) → and_vec new (push_right n es) ≡ some p → ref_left n p ≡ false
  right_refers new es p q = no_left_vec new (push_right n es)
      (no_left_append (for_right n es) (flat_map (λ e. copy_up (for_left n es) (equijoin e)) (for_both n es)) (no_left_kept es) (no_left_copies (for_left n es) es)) p q
