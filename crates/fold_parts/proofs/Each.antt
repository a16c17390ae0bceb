-- Laws on parts that are folded one by one, and on their words.
use Prim.Native.Nat.{ℕ, suc, ◌+◌, ◌*◌}
use native.Mathlib.Omega.{arith}
use mathlib.Core.Path.{◌≡◌, refl, sym, ap, ◌∙◌}
use mathlib.Core.List.{List, [], ◌∷◌, ◌++◌, map, append_assoc, append-nil}
use lib.ListN.{length, length-append}
use Rattle.cells.specs.Cells.{cell_words}
use Rattle.sql.specs.Plan.{sum}
use Rattle.sql.specs.Answer.{Answer, done, refused, ◌>>=◌}
use Rattle.sql.specs.Optimizer.{fold_each}
use Rattle.sheet_laws.specs.Fits.{All}
use Rattle.sound.specs.Answers.{Answered, answered_then}
use Rattle.words.specs.Words.{all_words}
use Rattle.fold_parts.proofs.Leaves.{bind_twice, bind_same}

-- ---- the last of a list

pub record LastOf {A : Type 0} (xs : List A) : Type 0 where
  pub those : List A
  pub last : A
  pub is : xs ≡ those ++ (last ∷ [])

pub last_of : {A : Type 0} (x : A) (xs : List A) → LastOf (x ∷ xs)
last_of x [] = record { those = []; last = x; is = refl }
last_of {A} x (y ∷ ys) = let l = last_of y ys in record { those = x ∷ l.those; last = l.last; is = ap (λ (zs : List A). x ∷ zs) l.is }

module _ {A : Type 0} (P : A → Type 0) where
  pub all_those : (xs : List A) (x : A) → All P (xs ++ (x ∷ [])) → All P xs
  all_those [] x h = tt
  all_those (y ∷ ys) x h = (h.0, all_those ys x h.1)

  pub all_last : (xs : List A) (x : A) → All P (xs ++ (x ∷ [])) → P x
  all_last [] x h = h.0
  all_last (y ∷ ys) x h = all_last ys x h.1

-- ---- words

module _ {A : Type 0} (f : A → List ℕ) where
  pub words_last : (xs : List A) (x : A) → all_words f (xs ++ (x ∷ [])) ≡ all_words f xs ++ f x
  words_last [] x = append-nil (f x)
  words_last (y ∷ ys) x = ap (λ (w : List ℕ). f y ++ w) (words_last ys x) ∙ sym (append_assoc (f y) (all_words f ys) (f x))

  pub words_long : (g : A → ℕ) → ((x : A) → length (f x) ≡ cell_words * g x) → (xs : List A) → length (all_words f xs) ≡ cell_words * sum g xs
  words_long g h [] = refl
  words_long g h (x ∷ xs) = omega (arith, length-append (f x) (all_words f xs), h x, words_long g h xs)

pub words_of_map : {A B : Type 0} (f : A → List ℕ) (g : B → List ℕ) (k : A → B) → ((x : A) → g (k x) ≡ f x) → (xs : List A) → all_words g (map k xs) ≡ all_words f xs
words_of_map f g k h [] = refl
words_of_map f g k h (x ∷ xs) = ap (λ (w : List ℕ). w ++ all_words g (map k xs)) (h x) ∙ ap (λ (w : List ℕ). f x ++ w) (words_of_map f g k h xs)

-- ---- folding

module _ {A : Type 0} (f : ℕ → A → Answer A) (cells : A → ℕ) where
  -- as many as before
  pub each_count : (xs : List A) (first : ℕ) → Answered (λ ys. length ys ≡ length xs) (fold_each f cells first xs)
  each_count [] first = refl
  each_count (x ∷ xs) first =
      answered_then (λ y. Unit {0}) (λ ys. length ys ≡ suc (length xs)) (f first x) (λ y. fold_each f cells (first + cells x) xs >>= λ ys. done (y ∷ ys)) (any (f first x))
      (λ y t. answered_then (λ ys. length ys ≡ length xs) (λ ys. length ys ≡ suc (length xs)) (fold_each f cells (first + cells x) xs) (λ ys. done (y ∷ ys))
      (each_count xs (first + cells x)) (λ ys e. ap suc e))
    where
      any : (a : Answer A) → Answered (λ y. Unit {0}) a
      any (done y) = tt
      any (refused i p) = tt

  -- those before the last one, and it
  pub each_last : (xs : List A) (x : A) (first : ℕ)
      → fold_each f cells first (xs ++ (x ∷ [])) ≡ (fold_each f cells first xs >>= λ ys. f (first + sum cells xs) x >>= λ y. done (ys ++ (y ∷ [])))
  each_last [] x first = let e : first ≡ first + 0 = omega arith in ap (λ (n : ℕ). f n x >>= λ y. done (y ∷ [])) e
  each_last (z ∷ zs) x first =
      bind_same (f first z) (λ b. fold_each f cells (first + cells z) (zs ++ (x ∷ [])) >>= λ ys. done (b ∷ ys))
      (λ b. (fold_each f cells (first + cells z) zs >>= λ ys. done (b ∷ ys)) >>= λ ys. f (first + (cells z + sum cells zs)) x >>= λ y. done (ys ++ (y ∷ [])))
      (λ b. ap (λ (a : Answer (List A)). a >>= λ ys. done (b ∷ ys)) (each_last zs x (first + cells z))
      ∙ (step b (fold_each f cells (first + cells z) zs)
      ∙ ap (λ (n : ℕ). (fold_each f cells (first + cells z) zs >>= λ ys. done (b ∷ ys)) >>= λ ys. f n x >>= λ y. done (ys ++ (y ∷ []))) (omega arith)))
      ∙ sym (bind_twice (f first z) (λ b. fold_each f cells (first + cells z) zs >>= λ ys. done (b ∷ ys)) (λ ys. f (first + (cells z + sum cells zs)) x >>= λ y. done (ys ++ (y ∷ []))))
    where
      number : ℕ
      number = first + cells z + sum cells zs

      inner : (b : A) (ys : List A) (a : Answer A) → ((a >>= λ y. done (ys ++ (y ∷ []))) >>= λ us. done (b ∷ us)) ≡ (a >>= λ y. done (b ∷ (ys ++ (y ∷ []))))
      inner b ys (done y) = refl
      inner b ys (refused i p) = refl

      step : (b : A) (a : Answer (List A))
          → ((a >>= λ ys. f (first + cells z + sum cells zs) x >>= λ y. done (ys ++ (y ∷ []))) >>= λ us. done (b ∷ us))
          ≡ ((a >>= λ ys. done (b ∷ ys)) >>= λ ys. f (first + cells z + sum cells zs) x >>= λ y. done (ys ++ (y ∷ [])))
      step b (done ys) = inner b ys (f (first + cells z + sum cells zs) x)
      step b (refused i p) = refl

-- of parts that are made of others, one by one
pub each_made : {A B : Type 0} (f : ℕ → A → Answer A) (cells : A → ℕ) (g : ℕ → B → Answer B) (count : B → ℕ) (k : A → B)
    → ((first : ℕ) (x : A) → g first (k x) ≡ (f first x >>= λ y. done (k y))) → ((x : A) → count (k x) ≡ cells x)
    → (xs : List A) (first : ℕ) → fold_each g count first (map k xs) ≡ (fold_each f cells first xs >>= λ ys. done (map k ys))
each_made f cells g count k h c [] first = refl
each_made {A} {B} f cells g count k h c (x ∷ xs) first =
    ap (λ (a : Answer B). a >>= λ y. fold_each g count (first + count (k x)) (map k xs) >>= λ ys. done (y ∷ ys)) (h first x)
    ∙ (step (f first x) (ap (λ (n : ℕ). fold_each g count (first + n) (map k xs)) (c x) ∙ each_made f cells g count k h c xs (first + cells x)))
  where
    inner : (y : A) (a : Answer (List A)) → ((a >>= λ ys. done (map k ys)) >>= λ ys. done (k y ∷ ys)) ≡ ((a >>= λ ys. done (y ∷ ys)) >>= λ ys. done (map k ys))
    inner y (done ys) = refl
    inner y (refused i p) = refl

    step : (a : Answer A) → fold_each g count (first + count (k x)) (map k xs) ≡ (fold_each f cells (first + cells x) xs >>= λ ys. done (map k ys))
        → ((a >>= λ y. done (k y)) >>= λ y. fold_each g count (first + count (k x)) (map k xs) >>= λ ys. done (y ∷ ys))
        ≡ ((a >>= λ y. fold_each f cells (first + cells x) xs >>= λ ys. done (y ∷ ys)) >>= λ ys. done (map k ys))
    step (done y) e = ap (λ (b : Answer (List B)). b >>= λ ys. done (k y ∷ ys)) e ∙ inner y (fold_each f cells (first + cells x) xs)
    step (refused i p) e = refl
