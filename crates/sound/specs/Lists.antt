-- What is true of each entry of a list, or of an option, stays true where the lists are put together, thinned or rewritten.
use Rattle.std.specs.Prelude.{ℕ, zero, suc, ◌<◌, ◌≡◌, refl, Bool, true, false, ◌||◌, List, [], ◌∷◌, ◌++◌, map, length, get_or}
use Rattle.std.proofs.Common.{arith}
use Rattle.std.proofs.Math.Option.{Option, none, some}
use Rattle.sql.specs.Optimizer.{cons_if, keep, flat_map, map_optional, or_else}
use Rattle.sheet_laws.specs.Fits.{All, Optional}

-- ---- tests and options

pub or_false : (a b : Bool) → (a || b) ≡ false → (a ≡ false) × (b ≡ false)
or_false true b h = absurd (let z : ◌≡◌ {A = ℕ} 0 1 = cc in omega arith)
or_false false b h = (refl, h)

pub none_some : {A : Type 0} {B : Type 0} {a : A} → ◌≡◌ {A = Option A} none (some a) → B
none_some h = absurd (let z : ◌≡◌ {A = ℕ} 0 1 = cc in omega arith)

pub some_same : {A : Type 0} {a b : A} → ◌≡◌ {A = Option A} (some a) (some b) → a ≡ b
some_same h = cc

-- ---- lists

pub all_append : {A : Type 0} (P : A → Type 0) (xs ys : List A) → All P xs → All P ys → All P (xs ++ ys)
all_append P [] ys p q = q
all_append P (x ∷ xs) ys p q = (p.0, all_append P xs ys p.1 q)

pub all_both : {A : Type 0} (Q R : A → Type 0) (xs : List A) → All Q xs → All R xs → All (λ x. Q x × R x) xs
all_both Q R [] q r = tt
all_both Q R (x ∷ xs) q r = ((q.0, r.0), all_both Q R xs q.1 r.1)

pub keep_of : {A : Type 0} (test : A → Bool) (Q R : A → Type 0) → ((x : A) → Q x → test x ≡ true → R x) → (xs : List A) → All Q xs → All R (keep test xs)
keep_of test Q R h [] q = tt
keep_of {A} test Q R h (x ∷ xs) q = go (test x) refl (keep_of test Q R h xs q.1)
  where
    go : (b : Bool) → test x ≡ b → All R (keep test xs) → All R (cons_if b x (keep test xs))
    go true e r = (h x q.0 e, r)
    go false e r = r

pub flat_map_of : {A B : Type 0} (f : A → List B) (Q : A → Type 0) (R : B → Type 0) → ((x : A) → Q x → All R (f x)) → (xs : List A) → All Q xs → All R (flat_map f xs)
flat_map_of f Q R h [] q = tt
flat_map_of f Q R h (x ∷ xs) q = all_append R (f x) (flat_map f xs) (h x q.0) (flat_map_of f Q R h xs q.1)

pub map_of : {A B : Type 0} (f : A → B) (Q : A → Type 0) (R : B → Type 0) → ((x : A) → Q x → R (f x)) → (xs : List A) → All Q xs → All R (map f xs)
map_of f Q R h [] q = tt
map_of f Q R h (x ∷ xs) q = (h x q.0, map_of f Q R h xs q.1)

pub optional_map : {A B : Type 0} (f : A → B) (Q : A → Type 0) (R : B → Type 0) → ((x : A) → Q x → R (f x)) → (o : Option A) → Optional Q o → Optional R (map_optional f o)
optional_map f Q R h none q = tt
optional_map f Q R h (some x) q = h x q

pub or_else_of : {A : Type 0} (Q : A → Type 0) (a b : Option A) → Optional Q a → Optional Q b → Optional Q (or_else a b)
or_else_of Q none b x y = y
or_else_of Q (some a) b x y = x

pub all_mapped : {A B : Type 0} (f : A → B) (R : B → Type 0) → ((x : A) → R (f x)) → (xs : List A) → All R (map f xs)
all_mapped f R h [] = tt
all_mapped f R h (x ∷ xs) = (h x, all_mapped f R h xs)

pub get_d_of : {A : Type 0} (Q : A → Type 0) (xs : List A) (i : ℕ) (d : A) → All Q xs → Q d → Q (get_or xs i d)
get_d_of Q [] i d q h = h
get_d_of Q (x ∷ xs) zero d q h = q.0
get_d_of Q (x ∷ xs) (suc i) d q h = get_d_of Q xs i d q.1 h

-- where the list has such an entry
pub getD_within : {A : Type 0} (Q : A → Type 0) (xs : List A) (i : ℕ) (d : A) → All Q xs → i < length xs → Q (get_or xs i d)
getD_within Q [] i d q h = absurd (omega arith)
getD_within Q (x ∷ xs) zero d q h = q.0
getD_within Q (x ∷ xs) (suc i) d q h = getD_within Q xs i d q.1 (omega arith)
