-- What is pushed to the right source has no column of the left one, so that `shift_column` wraps none.
use Prim.Native.Nat.{ℕ}
use mathlib.Core.Path.{◌≡◌, refl, sym, ap, ap₂, ◌∙◌, subst}
use mathlib.Core.Bool.{Bool, true, false, not, ◌&&◌, ◌||◌, cond}
use mathlib.Core.List.{List, [], ◌∷◌, ◌++◌}
use mathlib.Core.Option.{Option, none, some}
use native.Mathlib.Omega.{arith}
use lib.Dec.{eqb, ltb}
use borrow.Author.Tests.{ltb-true, ltb-false, le-ltb, eq-eqb, eqb-true}
use Rattle.sql.specs.Expression.{And, Or, IsNull, IsNaN, Identity, Negate, SquareRoot, Not, logical, Equal, function, Expression, constant, column, unary, binary, and, contains_column, map_columns, and_all, and_vec, is_column, is_column_lookup}
use Rattle.sql.specs.Optimizer.{ref_left, ref_right, cons_if, for_left, for_right, for_both, equijoin, is_number, is_lookup_of, or_else, last_lookup, copied, copy_up, flat_map, push_right}
use Rattle.literal.proofs.Expression.{no_number, same_column_both}

-- ---- a lookup has one column alone

module _ (test : ℕ → Bool) (f : ℕ → ℕ) (c : ℕ) where
  column_has : (x : Expression) → is_column x ≡ some c → contains_column test (map_columns f x) ≡ test (f c)
  column_has (constant og v) h = no_number h
  column_has (column og d) h = let e : d ≡ c = cc in ap (λ z. test (f z)) e
  column_has (unary og o x) h = no_number h
  column_has (binary og o l r) h = no_number h

  or_same : (b : Bool) → (b || b) ≡ b
  or_same true = refl
  or_same false = refl

  or_false : (b : Bool) → (b || false) ≡ b
  or_false true = refl
  or_false false = refl

  lookup_has : (e : Expression) → is_column_lookup e ≡ some c → contains_column test (map_columns f e) ≡ test (f c)
  lookup_has (constant og v) h = no_number h
  lookup_has (column og i) h = no_number h
  lookup_has (unary og Not x) h = no_number h
  lookup_has (unary og (function IsNull) x) h = column_has x h
  lookup_has (unary og (function IsNaN) x) h = column_has x h
  lookup_has (unary og (function Identity) x) h = no_number h
  lookup_has (unary og (function Negate) x) h = no_number h
  lookup_has (unary og (function SquareRoot) x) h = no_number h
  lookup_has (binary og (logical And) l r) h = no_number h
  lookup_has (binary og (logical Or) l r) h =
      let b = same_column_both (is_column_lookup l) (is_column_lookup r) c h in ap₂ ◌||◌ (lookup_has l b.0) (lookup_has r b.1) ∙ or_same (test (f c))
  lookup_has (binary og Equal (constant o v) r) h = column_has r h
  lookup_has (binary og Equal (column o i) (constant k v)) h = or_false (test (f i)) ∙ column_has (column o i) h
  lookup_has (binary og Equal (column o i) (column k j)) h = no_number h
  lookup_has (binary og Equal (column o i) (unary k g x)) h = no_number h
  lookup_has (binary og Equal (column o i) (binary k g x y)) h = no_number h
  lookup_has (binary og Equal (unary o g x) r) h = no_number h
  lookup_has (binary og Equal (binary o g x y) r) h = no_number h
  lookup_has (binary og (function g) l r) h = no_number h

no_expression : {A : Type 0} {e : Expression} → ◌≡◌ {A = Option Expression} none (some e) → A
no_expression h = absurd (let y : ◌≡◌ {A = ℕ} 0 1 = cc in omega arith)

no_true : {A : Type 0} → false ≡ true → A
no_true h = absurd (let y : ◌≡◌ {A = ℕ} 0 1 = cc in omega arith)

number_is : (c : ℕ) (o : Option ℕ) → is_number c o ≡ true → o ≡ some c
number_is c none h = no_true h
number_is c (some d) h = ap some (eqb-true d c h)

last_is : (c : ℕ) (es : List Expression) (x : Expression) → last_lookup c es ≡ some x → is_column_lookup x ≡ some c
last_is c [] x h = no_expression h
last_is c (e ∷ es) x h = go (last_lookup c es) (last_is c es) (is_lookup_of c e) refl h
  where
    go : (o : Option Expression) → ((x : Expression) → o ≡ some x → is_column_lookup x ≡ some c) → (t : Bool) → is_lookup_of c e ≡ t
        → or_else o (cond t (some e) none) ≡ some x → is_column_lookup x ≡ some c
    go none later true k i = let z : e ≡ x = cc in subst (λ (y : Expression). is_column_lookup y ≡ some c) z (number_is c (is_column_lookup e) k)
    go none later false k i = no_expression i
    go (some y) later t k i = later x i

-- ---- the higher column of an equijoin that stays is the right source's

higher : (a b n : ℕ) (s x y : Bool) → ltb b a ≡ s → ltb a n ≡ x → ltb b n ≡ y → ((x || y) && (not x || not y)) ≡ true → ltb (cond {A = ℕ × ℕ} s (b, a) (a, b)).1 n ≡ false
higher a b n true true true h k l i = no_true i
higher a b n true true false h k l i = let p = ltb-true b a h in let q = ltb-false b n l in le-ltb a n (omega arith)
higher a b n true false y h k l i = k
higher a b n false true true h k l i = no_true i
higher a b n false false true h k l i = let p = ltb-false b a h in let q = ltb-false a n k in le-ltb b n (omega arith)
higher a b n false x false h k l i = l

no_pair : {A : Type 0} {p : ℕ × ℕ} → ◌≡◌ {A = Option (ℕ × ℕ)} none (some p) → A
no_pair h = absurd (let y : ◌≡◌ {A = ℕ} 0 1 = cc in omega arith)

right_column : (n : ℕ) (e : Expression) (p : ℕ × ℕ) → equijoin e ≡ some p → (ref_left n e && ref_right n e) ≡ true → ltb p.1 n ≡ false
right_column n (constant og v) p h i = no_pair h
right_column n (column og c) p h i = no_pair h
right_column n (unary og o x) p h i = no_pair h
right_column n (binary og (logical o) l r) p h i = no_pair h
right_column n (binary og Equal (constant o v) r) p h i = no_pair h
right_column n (binary og Equal (column o a) (constant k v)) p h i = no_pair h
right_column n (binary og Equal (column o a) (column k b)) p h i =
    let z : cond (ltb b a) (b, a) (a, b) ≡ p = cc in
    ap (λ (q : ℕ × ℕ). ltb q.1 n) (sym z) ∙ higher a b n (ltb b a) (ltb a n) (ltb b n) refl refl refl i
right_column n (binary og Equal (column o a) (unary k g x)) p h i = no_pair h
right_column n (binary og Equal (column o a) (binary k g x y)) p h i = no_pair h
right_column n (binary og Equal (unary o g x) r) p h i = no_pair h
right_column n (binary og Equal (binary o g x y) r) p h i = no_pair h
right_column n (binary og (function f) l r) p h i = no_pair h

-- ---- lists

module _ (n : ℕ) where
  abbrev any_left : List Expression → Bool
  any_left [] = false
  any_left (x ∷ xs) = ref_left n x || any_left xs

  append_left : (xs ys : List Expression) → any_left xs ≡ false → any_left ys ≡ false → any_left (xs ++ ys) ≡ false
  append_left [] ys h i = i
  append_left (x ∷ xs) ys h i = go (ref_left n x) h (append_left xs ys)
    where
      go : (b : Bool) → (b || any_left xs) ≡ false → (any_left xs ≡ false → any_left ys ≡ false → any_left (xs ++ ys) ≡ false) → (b || any_left (xs ++ ys)) ≡ false
      go true h later = h
      go false h later = later h i

  kept_left : (es : List Expression) → any_left (for_right n es) ≡ false
  kept_left [] = refl
  kept_left (e ∷ es) = go (ref_left n e) refl (kept_left es)
    where
      go : (b : Bool) → ref_left n e ≡ b → any_left (for_right n es) ≡ false → any_left (cons_if (not b) e (for_right n es)) ≡ false
      go true h later = later
      go false h later = ap₂ ◌||◌ h later

  copied_left : (lookups : List Expression) (e : Expression) → (ref_left n e && ref_right n e) ≡ true → any_left (copy_up lookups (equijoin e)) ≡ false
  copied_left lookups e h = by_pair (equijoin e) refl
    where
      by_last : (p : ℕ × ℕ) → ltb p.1 n ≡ false → (o : Option Expression) → last_lookup p.0 lookups ≡ o → any_left (copied p.0 p.1 o) ≡ false
      by_last p k none q = refl
      by_last p k (some x) q =
          ap (λ z. z || false)
          (lookup_has (λ c. ltb c n) (λ i. cond (eqb i p.0) p.1 i) p.0 x (last_is p.0 lookups x q)
          ∙ (ap (λ (b : Bool). ltb (cond b p.1 p.0) n) (eq-eqb p.0 p.0 refl) ∙ k))

      by_pair : (o : Option (ℕ × ℕ)) → equijoin e ≡ o → any_left (copy_up lookups o) ≡ false
      by_pair none q = refl
      by_pair (some p) q = by_last p (right_column n e p q h) (last_lookup p.0 lookups) refl

  copies_left : (lookups es : List Expression) → any_left (flat_map (λ e. copy_up lookups (equijoin e)) (for_both n es)) ≡ false
  copies_left lookups [] = refl
  copies_left lookups (e ∷ es) = go (ref_left n e && ref_right n e) refl (copies_left lookups es)
    where
      go : (b : Bool) → (ref_left n e && ref_right n e) ≡ b → any_left (flat_map (λ e. copy_up lookups (equijoin e)) (for_both n es)) ≡ false
          → any_left (flat_map (λ e. copy_up lookups (equijoin e)) (cons_if b e (for_both n es))) ≡ false
      go true h later = append_left (copy_up lookups (equijoin e)) (flat_map (λ e. copy_up lookups (equijoin e)) (for_both n es)) (copied_left lookups e h) later
      go false h later = later

  all_left : (new : ℕ) (a : Expression) (xs : List Expression) → ref_left n a ≡ false → any_left xs ≡ false → ref_left n (and_all new a xs) ≡ false
  all_left new a [] h i = h
  all_left new a (x ∷ xs) h i = go (ref_left n x) refl i (all_left new (and new a x) xs)
    where
      go : (b : Bool) → ref_left n x ≡ b → (b || any_left xs) ≡ false → (ref_left n (and new a x) ≡ false → any_left xs ≡ false → ref_left n (and_all new (and new a x) xs) ≡ false)
          → ref_left n (and_all new (and new a x) xs) ≡ false
      go true k i later = no_true (sym i)
      go false k i later = later (ap₂ ◌||◌ h k) i

  pub right_refers : (new : ℕ) (cnf : List Expression) (p : Expression) → and_vec new (push_right n cnf) ≡ some p → contains_column (λ c. ltb c n) p ≡ false
  right_refers new cnf p h =
      go (push_right n cnf) h
      (append_left (for_right n cnf) (flat_map (λ e. copy_up (for_left n cnf) (equijoin e)) (for_both n cnf)) (kept_left cnf) (copies_left (for_left n cnf) cnf))
    where
      go : (xs : List Expression) → and_vec new xs ≡ some p → any_left xs ≡ false → contains_column (λ c. ltb c n) p ≡ false
      go [] i k = no_expression i
      go (x ∷ xs) i k = let z : and_all new x xs ≡ p = cc in subst (λ (y : Expression). ref_left n y ≡ false) z (first (ref_left n x) refl k)
        where
          first : (b : Bool) → ref_left n x ≡ b → (b || any_left xs) ≡ false → ref_left n (and_all new x xs) ≡ false
          first true q i = no_true (sym i)
          first false q i = all_left new x xs q i
