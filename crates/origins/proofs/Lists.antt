-- Functions on lists, options and answers, put before and after one that is applied to each part.
use Rattle.std.specs.Prelude.{Bool, true, false, cond, List, [], ◌∷◌, ◌++◌, map, ◌≡◌, refl}
use Rattle.std.proofs.Math.Option.{Option, none, some}
use Rattle.std.proofs.Common.{ap, ap₂, ◌∙◌}
use Rattle.sql.specs.Answer.{Answer, done, refused, ◌>>=◌}
use Rattle.sql.specs.Optimizer.{map_optional, cons_if, keep, flat_map}
use Rattle.origins.specs.Origins.{map_answer}

module _ {A B : Type 0} (u : A → B) where
  pub map_append : (xs ys : List A) → map u xs ++ map u ys ≡ map u (xs ++ ys)
  map_append [] ys = refl
  map_append (x ∷ xs) ys = ap (λ z. u x ∷ z) (map_append xs ys)

  pub cond_map : (b : Bool) (x y : A) → cond b (u x) (u y) ≡ u (cond b x y)
  cond_map true x y = refl
  cond_map false x y = refl

module _ {A : Type 0} (u f : A → A) (k : (x : A) → f (u x) ≡ u (f x)) where
  pub map_swap : (xs : List A) → map f (map u xs) ≡ map u (map f xs)
  map_swap [] = refl
  map_swap (x ∷ xs) = ap₂ (λ y ys. y ∷ ys) (k x) (map_swap xs)

  pub optional_swap : (o : Option A) → map_optional f (map_optional u o) ≡ map_optional u (map_optional f o)
  optional_swap none = refl
  optional_swap (some x) = ap some (k x)

cons_if_map : {A : Type 0} (u : A → A) (b : Bool) (x : A) (xs : List A) → cons_if b (u x) (map u xs) ≡ map u (cons_if b x xs)
cons_if_map u true x xs = refl
cons_if_map u false x xs = refl

pub keep_map : {A : Type 0} (u : A → A) (test : A → Bool) → ((x : A) → test (u x) ≡ test x) → (xs : List A) → keep test (map u xs) ≡ map u (keep test xs)
keep_map u test k [] = refl
keep_map u test k (x ∷ xs) = ap₂ (λ b ys. cons_if b (u x) ys) (k x) (keep_map u test k xs) ∙ cons_if_map u (test x) x (keep test xs)

pub flat_map_map : {A B : Type 0} (u : A → A) (v : B → B) (f g : A → List B) → ((x : A) → g (u x) ≡ map v (f x)) → (xs : List A) → flat_map g (map u xs) ≡ map v (flat_map f xs)
flat_map_map u v f g k [] = refl
flat_map_map u v f g k (x ∷ xs) = ap₂ (λ ys zs. ys ++ zs) (k x) (flat_map_map u v f g k xs) ∙ map_append v (f x) (flat_map f xs)

-- to go on from an answer
pub then_map : {A B : Type 0} (u : A → A) (v : B → B) (f g : A → Answer B) (r s : Answer A)
    → s ≡ map_answer u r → ((a : A) → g (u a) ≡ map_answer v (f a)) → (s >>= g) ≡ map_answer v (r >>= f)
then_map u v f g r s e k = ap (λ z. z >>= g) e ∙ go r
  where
    go : (r : Answer _) → (map_answer u r >>= g) ≡ map_answer v (r >>= f)
    go (done a) = k a
    go (refused number place) = refl
