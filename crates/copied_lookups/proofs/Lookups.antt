-- Laws on lookups and equijoins, without words: a lookup has one column alone, and an equijoin that stays with the join has one of each source.
use Prim.Native.Nat.{ℕ, ◌-◌, ◌≤◌, ◌<◌}
use native.Mathlib.Omega.{arith}
use borrow.Author.Tests.{eq-eqb, lt-ltb, le-ltb}
use mathlib.Core.Logic.{⊎_elim}
use mathlib.Core.Bool.{Bool, true, false, not, ◌&&◌, ◌||◌, cond}
use mathlib.Core.Option.{Option, none, some}
use mathlib.Core.Path.{◌≡◌, refl, sym, ap, ap₂, ◌∙◌, subst}
use mathlib.Core.List.{List, [], ◌∷◌, map}
use lib.Dec.{T, eqb, ltb, eqb→eq}
use Rattle.sql.specs.Expression.{origin, And, Or, IsNull, IsNaN, Identity, Negate, SquareRoot, Not, function, logical, Equal, Expression, constant, column, unary, binary, map_columns, replace_column, shift_column_down, is_column, same_column, is_column_lookup}
use Rattle.sql.specs.Optimizer.{ref_left, ref_right, equijoin, is_number, is_lookup_of, or_else, last_lookup, copied}
use Rattle.cells.proofs.Laws.{lt_or_ge}

pub no_some : {A B : Type 0} {a : A} → none ≡ some a → B
no_some h = absurd (let z : ◌≡◌ {A = ℕ} 0 1 = cc in omega arith)

pub no_true : {B : Type 0} → false ≡ true → B
no_true h = absurd (let z : ◌≡◌ {A = ℕ} 0 1 = cc in omega arith)

-- ---- what is known of a lookup

pub column_is : (x : Expression) (c : ℕ) → is_column x ≡ some c → x ≡ column (origin x) c
column_is (constant og v) c h = no_some h
column_is (column og i) c h = let k : i ≡ c = cc in ap (column og) k
column_is (unary og o x) c h = no_some h
column_is (binary og o l r) c h = no_some h

pub same_both : (o p : Option ℕ) (c : ℕ) → same_column o p ≡ some c → (o ≡ some c) × (p ≡ some c)
same_both none p c h = no_some h
same_both (some a) none c h = no_some h
same_both (some a) (some b) c h = test (eqb a b) refl h
  where
    test : (t : Bool) → eqb a b ≡ t → cond t (some a) none ≡ some c → (◌≡◌ {A = Option ℕ} (some a) (some c)) × (◌≡◌ {A = Option ℕ} (some b) (some c))
    test true q k = let e : a ≡ b = eqb→eq a b (subst T (sym q) tt) in (k, cc)
    test false q k = no_some k

-- two rewrites that agree at the column of a lookup agree
module _ (f g : ℕ → ℕ) (c : ℕ) (same : f c ≡ g c) where
  column_same : (x : Expression) → is_column x ≡ some c → map_columns f x ≡ map_columns g x
  column_same x h = subst (λ (y : Expression). map_columns f y ≡ map_columns g y) (sym (column_is x c h)) (ap (column (origin x)) same)

  pub lookup_same : (e : Expression) → is_column_lookup e ≡ some c → map_columns f e ≡ map_columns g e
  lookup_same (constant og v) h = no_some h
  lookup_same (column og i) h = no_some h
  lookup_same (unary og Not x) h = no_some h
  lookup_same (unary og (function IsNull) x) h = ap (unary og (function IsNull)) (column_same x h)
  lookup_same (unary og (function IsNaN) x) h = ap (unary og (function IsNaN)) (column_same x h)
  lookup_same (unary og (function Identity) x) h = no_some h
  lookup_same (unary og (function Negate) x) h = no_some h
  lookup_same (unary og (function SquareRoot) x) h = no_some h
  lookup_same (binary og (logical And) l r) h = no_some h
  lookup_same (binary og (logical Or) l r) h =
      let (a, b) = same_both (is_column_lookup l) (is_column_lookup r) c h in ap₂ (binary og (logical Or)) (lookup_same l a) (lookup_same r b)
  lookup_same (binary og Equal (constant og' v) r) h = ap (binary og Equal (constant og' v)) (column_same r h)
  lookup_same (binary og Equal (column og' i) (constant og'' v)) h = ap (λ x. binary og Equal x (constant og'' v)) (column_same (column og' i) h)
  lookup_same (binary og Equal (column og' i) (column og'' j)) h = no_some h
  lookup_same (binary og Equal (column og' i) (unary og'' o x)) h = no_some h
  lookup_same (binary og Equal (column og' i) (binary og'' o x y)) h = no_some h
  lookup_same (binary og Equal (unary og' o x) r) h = no_some h
  lookup_same (binary og Equal (binary og' o x y) r) h = no_some h
  lookup_same (binary og (function p) l r) h = no_some h

map_twice : (f g : ℕ → ℕ) (e : Expression) → map_columns f (map_columns g e) ≡ map_columns (λ c. f (g c)) e
map_twice f g (constant og v) = refl
map_twice f g (column og c) = refl
map_twice f g (unary og o x) = ap (unary og o) (map_twice f g x)
map_twice f g (binary og o l r) = ap₂ (binary og o) (map_twice f g l) (map_twice f g r)

pub eqb_same : (c : ℕ) → eqb c c ≡ true
eqb_same c = eq-eqb c c refl

-- a lookup that is copied to another column, and then moved, was copied to the moved column
moved_lookup : (n c to : ℕ) (e : Expression) → is_column_lookup e ≡ some c → shift_column_down n (replace_column c to e) ≡ replace_column c (to - n) e
moved_lookup n c to e h =
    map_twice (λ i. i - n) (λ i. cond (eqb i c) to i) e
    ∙ lookup_same (λ i. cond (eqb i c) to i - n) (λ i. cond (eqb i c) (to - n) i) c
    (ap (λ (t : Bool). cond t to c - n) (eqb_same c) ∙ sym (ap (λ (t : Bool). cond t (to - n) c) (eqb_same c))) e h

-- ---- what is known of the last lookup

number_is : (c : ℕ) (o : Option ℕ) → is_number c o ≡ true → o ≡ some c
number_is c none h = no_true h
number_is c (some d) h = ap some (eqb→eq d c (subst T (sym h) tt))

pub last_is : (c : ℕ) (es : List Expression) (x : Expression) → last_lookup c es ≡ some x → is_column_lookup x ≡ some c
last_is c [] x h = no_some h
last_is c (e ∷ es) x h = later (last_lookup c es) refl (last_is c es x) h
  where
    here : (t : Bool) → is_lookup_of c e ≡ t → cond t (some e) none ≡ some x → is_column_lookup x ≡ some c
    here true q k = let z : e ≡ x = cc in subst (λ (y : Expression). is_column_lookup y ≡ some c) z (number_is c (is_column_lookup e) q)
    here false q k = no_some k

    later : (o : Option Expression) → last_lookup c es ≡ o → (last_lookup c es ≡ some x → is_column_lookup x ≡ some c) → or_else o (cond (is_lookup_of c e) (some e) none) ≡ some x → is_column_lookup x ≡ some c
    later none q f k = here (is_lookup_of c e) refl k
    later (some y) q f k = f (q ∙ k)

pub moved_copy : (n c to : ℕ) (es : List Expression) → map (shift_column_down n) (copied c to (last_lookup c es)) ≡ copied c (to - n) (last_lookup c es)
moved_copy n c to es = by_last (last_lookup c es) refl
  where
    by_last : (o : Option Expression) → last_lookup c es ≡ o → map (shift_column_down n) (copied c to o) ≡ copied c (to - n) o
    by_last none q = refl
    by_last (some x) q = ap (λ y. y ∷ []) (moved_lookup n c to x (last_is c es x q))

-- ---- an equijoin of two columns, the lower one first, has a column of each source exactly if the lower one is the left's and the higher one the right's

each_side : (a b : Bool) → (a ≡ true → b ≡ true) → ((a || b) && (not a || not b)) ≡ (b && not a)
each_side true true h = refl
each_side true false h = no_true (h refl)
each_side false true h = refl
each_side false false h = refl

swapped_side : (a b : Bool) → (b ≡ true → a ≡ true) → ((a || b) && (not a || not b)) ≡ (a && not b)
swapped_side true true h = refl
swapped_side true false h = refl
swapped_side false true h = no_true (h refl)
swapped_side false false h = refl

below_too : (i j n : ℕ) → i ≤ j → ltb j n ≡ true → ltb i n ≡ true
below_too i j n h k = ⊎_elim
    (λ (z : j < n). lt-ltb i n (omega arith))
    (λ (z : n ≤ j). no_true (sym (le-ltb j n z) ∙ k))
    (lt_or_ge j n)

pub stays : (n : ℕ) (e : Expression) (p : ℕ × ℕ) → equijoin e ≡ some p → (ref_left n e && ref_right n e) ≡ (ltb p.0 n && not (ltb p.1 n))
stays n (constant og v) p h = no_some h
stays n (column og i) p h = no_some h
stays n (unary og o x) p h = no_some h
stays n (binary og (logical o) l r) p h = no_some h
stays n (binary og Equal (constant og' v) r) p h = no_some h
stays n (binary og Equal (column og' i) (constant og'' v)) p h = no_some h
stays n (binary og Equal (column og' i) (column og'' j)) p h = ⊎_elim
    (λ (z : j < i).
    let q : ◌≡◌ {A = ℕ × ℕ} (j, i) p = let b = lt-ltb j i z in let w : ◌≡◌ {A = Option (ℕ × ℕ)} (some (cond true (j, i) (i, j))) (some p) = subst (λ (t : Bool). some (cond t (j, i) (i, j)) ≡ some p) b h in cc in
    subst (λ (p : ℕ × ℕ). ((ltb i n || ltb j n) && (not (ltb i n) || not (ltb j n))) ≡ (ltb p.0 n && not (ltb p.1 n))) q
    (each_side (ltb i n) (ltb j n) (below_too j i n (omega arith))))
    (λ (z : i ≤ j).
    let q : ◌≡◌ {A = ℕ × ℕ} (i, j) p = let b = le-ltb j i z in let w : ◌≡◌ {A = Option (ℕ × ℕ)} (some (cond false (j, i) (i, j))) (some p) = subst (λ (t : Bool). some (cond t (j, i) (i, j)) ≡ some p) b h in cc in
    subst (λ (p : ℕ × ℕ). ((ltb i n || ltb j n) && (not (ltb i n) || not (ltb j n))) ≡ (ltb p.0 n && not (ltb p.1 n))) q
    (swapped_side (ltb i n) (ltb j n) (below_too i j n z)))
    (lt_or_ge j i)
stays n (binary og Equal (column og' i) (unary og'' o x)) p h = no_some h
stays n (binary og Equal (column og' i) (binary og'' o x y)) p h = no_some h
stays n (binary og Equal (unary og' o x) r) p h = no_some h
stays n (binary og Equal (binary og' o x y) r) p h = no_some h
stays n (binary og (function f) l r) p h = no_some h
