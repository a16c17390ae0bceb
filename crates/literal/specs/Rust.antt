-- The words of the Rust that the other files here are written in. They transcribe optimizer.rs, what it calls in plan.rs, expression.rs and value.rs, and what calls it
-- (Plan::optimize), one file for each, function by function, under the Rust's names (with - for _) and the numbers of its lines (docs/src), a function before what uses it.
--
-- How it is written down:
--   match       arms in the Rust's order, `(pattern ⇒ λ (what it binds). value) else (next arm) else last`; a pattern is a function to Option, named with a ?. A function
--               that calls itself on a part has its outermost match as clauses, since only so can the checker see that it ends: a clause for each operator or node, and
--               the Rust's last arm as a clause for each that is left
--   Result, ?   Run and >>=, with a panic as a third outcome
--   Vec         a list, with push at the end
--   HashMap     what was put in, in order, with the last one found
--   &mut        the value before and the value after
--   numbers     usize and i64 as whole numbers, with overflow checks on: what has no 64 bits panics where the Rust's text leaves it to the checks. A String as its bytes
--   closures    functions
--   recursion   over what a rewrite made of a tree: by a number that bounds its depth. At zero it panics, so that a theorem which says that there is no panic says too
--               that the number is high enough
-- Trees carry an origin first in each cell, which the Rust hasn't: a pattern binds it first, and each cell that is built says whose it gets. So the passes are over the
-- same trees as crate sql's, and the theorems are plain equations.
use Rattle.std.specs.Prelude.{ℕ, zero, suc, max, Bool, true, false, ◌&&◌, cond, List, [], ◌∷◌, ◌++◌, eqb}
use Rattle.std.proofs.Math.Option.{Option, none, some}
use Rattle.value.specs.Value.{Error}

-- ---- Result and ?

pub data Run (A : Type 0) : Type 0 where
  Ok : A → Run A
  Err : Error → Run A
  Panic : Run A

infixl 10 ◌>>=◌
abbrev pub ◌>>=◌ : {A B : Type 0} → Run A → (A → Run B) → Run B
Ok a >>= f = f a
Err e >>= f = Err e
Panic >>= f = Panic

-- Result::unwrap
abbrev pub unwrap : {A : Type 0} → Run A → Run A
unwrap (Ok a) = Ok a
unwrap (Err e) = Panic
unwrap Panic = Panic

-- Option::expect, and an index into a Vec
abbrev pub expect : {A : Type 0} → Option A → Run A
expect none = Panic
expect (some a) = Ok a

-- assert_eq! of two numbers
abbrev pub assert_eq : {A : Type 0} → ℕ → ℕ → Run A → Run A
assert_eq a b r = cond (eqb a b) r Panic

-- ---- match

-- pattern => value
infixr 6 ◌⇒◌
abbrev pub ◌⇒◌ : {A R : Type 0} → Option A → (A → R) → Option R
none ⇒ f = none
some a ⇒ f = some (f a)

-- (pattern, pattern)
infixr 8 ◌&◌
abbrev pub ◌&◌ : {A B : Type 0} → Option A → Option B → Option (A × B)
none & q = none
some a & none = none
some a & some b = some (a, b)

-- pattern | pattern
infixr 7 ◌∣◌
abbrev pub ◌∣◌ : {A : Type 0} → Option A → Option A → Option A
none ∣ q = q
some a ∣ q = some a

-- pattern if guard, and Option::filter
infixl 7 ◌if◌
abbrev pub ◌if◌ : {A : Type 0} → Option A → (A → Bool) → Option A
none if test = none
some a if test = cond (test a) (some a) none

-- the next arm
infixr 5 ◌else◌
abbrev pub ◌else◌ : {R : Type 0} → Option R → R → R
none else r = r
some a else r = a

-- matches!
abbrev pub matches : {A : Type 0} → Option A → Bool
matches none = false
matches (some a) = true

-- ---- Option

abbrev pub and_then : {A B : Type 0} → Option A → (A → Option B) → Option B
and_then none f = none
and_then (some a) f = f a

abbrev pub unwrap_or : {A : Type 0} → A → Option A → A
unwrap_or a none = a
unwrap_or a (some b) = b

-- ---- Vec and iterators

abbrev pub push : {A : Type 0} → List A → A → List A
push xs x = xs ++ (x ∷ [])

abbrev pub get : {A : Type 0} → List A → ℕ → Option A
get [] i = none
get (x ∷ xs) zero = some x
get (x ∷ xs) (suc i) = get xs i

abbrev pub first : {A : Type 0} → List A → Option A
first [] = none
first (x ∷ xs) = some x

-- the last one, and what stands before it
abbrev pub put_first : {A : Type 0} → A → Option (A × List A) → A × List A
put_first x none = (x, [])
put_first x (some p) = (p.0, x ∷ p.1)

abbrev pub pop : {A : Type 0} → List A → Option (A × List A)
pop [] = none
pop (x ∷ xs) = some (put_first x (pop xs))

-- vec![x; n]
abbrev pub replicate : {A : Type 0} → ℕ → A → List A
replicate zero x = []
replicate (suc n) x = x ∷ replicate n x

-- v[i] = x, where there is such a place
abbrev pub set_at : {A : Type 0} → List A → ℕ → A → List A
set_at [] i x = []
set_at (y ∷ ys) zero x = x ∷ ys
set_at (y ∷ ys) (suc i) x = y ∷ set_at ys i x

-- Vec::remove: the one at a place, and the others; it panics where there is none
abbrev pub remove : {A : Type 0} → List A → ℕ → Run (A × List A)
remove [] i = Panic
remove (x ∷ xs) zero = Ok (x, xs)
remove (x ∷ xs) (suc i) = remove xs i >>= λ p. Ok (p.0, x ∷ p.1)

abbrev pub is_empty : {A : Type 0} → List A → Bool
is_empty [] = true
is_empty (x ∷ xs) = false

-- enumerate, from a number on
abbrev pub enumerate : {A : Type 0} → ℕ → List A → List (ℕ × A)
enumerate i [] = []
enumerate i (x ∷ xs) = (i, x) ∷ enumerate (suc i) xs

abbrev pub cons_some : {A : Type 0} → Option A → List A → List A
cons_some none xs = xs
cons_some (some x) xs = x ∷ xs

abbrev pub filter_map : {A B : Type 0} → (A → Option B) → List A → List B
filter_map f [] = []
filter_map f (x ∷ xs) = cons_some (f x) (filter_map f xs)

-- flatten of Options
abbrev pub flatten : {A : Type 0} → List (Option A) → List A
flatten = filter_map (λ x. x)

-- find_map, with a closure that may panic
abbrev pub try_find_map : {A B : Type 0} → (A → Run (Option B)) → List A → Run (Option B)
try_find_map f [] = Ok none
try_find_map f (x ∷ xs) = f x >>= λ o. (o ⇒ λ y. Ok (some y)) else try_find_map f xs

abbrev pub position : {A : Type 0} → (A → Bool) → List A → Option ℕ
position test [] = none
position test (x ∷ xs) = cond (test x) (some 0) (position test xs ⇒ λ i. suc i)

abbrev pub all : {A : Type 0} → (A → Bool) → List A → Bool
all test [] = true
all test (x ∷ xs) = test x && all test xs

-- Iterator::max of numbers
abbrev pub max_with : ℕ → Option ℕ → ℕ
max_with n none = n
max_with n (some m) = max n m

abbrev pub maximum : List ℕ → Option ℕ
maximum [] = none
maximum (n ∷ ns) = some (max_with n (maximum ns))

-- for x in xs, with what the loop writes to
abbrev pub for_each : {S A : Type 0} → (S → A → S) → S → List A → S
for_each body s [] = s
for_each body s (x ∷ xs) = for_each body (body s x) xs

-- the same of a body with ? or a panic, and try_fold
abbrev pub try_fold : {S A : Type 0} → (S → A → Run S) → S → List A → Run S
try_fold body s [] = Ok s
try_fold body s (x ∷ xs) = body s x >>= λ t. try_fold body t xs

-- map(..).try_collect()?
abbrev pub try_collect : {A B : Type 0} → (A → Run B) → List A → Run (List B)
try_collect f [] = Ok []
try_collect f (x ∷ xs) = do
  y ← f x
  ys ← try_collect f xs
  Ok (y ∷ ys)

-- ---- HashMap, whose keys are numbers: the pairs in the order in which they were put in

abbrev pub look_up : {A : Type 0} → ℕ → List (ℕ × A) → Option A
look_up key [] = none
look_up key (pair ∷ map) = look_up key map ∣ cond (eqb pair.0 key) (some pair.1) none
