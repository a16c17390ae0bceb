-- Laws on a list of labels, one for each number from 0.
use Prim.Native.Nat.{ℕ, zero, suc, ◌+◌, ◌<◌}
use native.Mathlib.Omega.{arith}
use mathlib.Core.Path.{◌≡◌, refl, sym, ap, ◌∙◌}
use mathlib.Core.List.{List, [], ◌∷◌, ◌++◌, map, append_assoc}
use lib.ListN.{length, get_or, take, drop, set, length-append}
use Rattle.sql.specs.Plan.{up_to}
use Rattle.words.specs.Words.{all_words}

pub all_append : {A : Type 0} (f : A → List ℕ) (xs ys : List A) → all_words f (xs ++ ys) ≡ all_words f xs ++ all_words f ys
all_append f [] ys = refl
all_append f (x ∷ xs) ys =
    ap (λ (l : List ℕ). f x ++ l) (all_append f xs ys) ∙ sym (append_assoc (f x) (all_words f xs) (all_words f ys))

-- a word written over another, in a list that starts with known words
pub set_in : (d u w : List ℕ) (n x y : ℕ) → take n d ≡ u ++ (x ∷ w) → take n (set d (length u) y) ≡ u ++ (y ∷ w)
set_in d u w zero x y e = absurd (let h = ap length e in let k = length-append u (x ∷ w) in omega arith)
set_in [] u w (suc n) x y e = absurd (let h = ap length e in let k = length-append u (x ∷ w) in omega arith)
set_in (a ∷ d) [] w (suc n) x y e = ap (λ (l : List ℕ). y ∷ drop 1 l) e
set_in (a ∷ d) (b ∷ u) w (suc n) x y e =
    ap (λ (l : List ℕ). get_or l 0 0 ∷ take n (set d (length u) y)) e ∙ ap (λ (l : List ℕ). b ∷ l) (set_in d u w n x y (ap (drop 1) e))

-- two runs of numbers on which two functions agree
pub map_alike : {A : Type 0} (f g : ℕ → A) (n from to : ℕ) → ((k : ℕ) → k < n → f (from + k) ≡ g (to + k)) → map f (up_to from n) ≡ map g (up_to to n)
map_alike f g zero from to h = refl
map_alike {A} f g (suc n) from to h =
    let e : from + 0 ≡ from = omega arith in
    let e' : to + 0 ≡ to = omega arith in
    let x : f from ≡ g to = ap f (sym e) ∙ h 0 (omega arith) ∙ ap g e' in
    let rest = map_alike f g n (suc from) (suc to) (λ k z.
    let i : suc from + k ≡ from + suc k = omega arith in
    let j : to + suc k ≡ suc to + k = omega arith in
    ap f i ∙ h (suc k) (omega arith) ∙ ap g j) in
    ap (λ (a : A). a ∷ map f (up_to (suc from) n)) x ∙ ap (λ (l : List A). g to ∷ l) rest

module _ {A : Type 0} where
  pub map_split : (f : ℕ → A) (n m from : ℕ) → map f (up_to from (n + m)) ≡ map f (up_to from n) ++ map f (up_to (from + n) m)
  map_split f zero m from =
      let e : from ≡ from + 0 = omega arith in
      let g : zero + m ≡ m = omega arith in
      ap (λ (n : ℕ). map f (up_to from n)) g ∙ ap (λ (n : ℕ). map f (up_to n m)) e
  map_split f (suc n) m from =
      let e : suc from + n ≡ from + suc n = omega arith in
      let g : suc n + m ≡ suc (n + m) = omega arith in
      ap (λ (i : ℕ). map f (up_to from i)) g
      ∙ ap (λ (l : List A). f from ∷ l) (map_split f n m (suc from) ∙ ap (λ (i : ℕ). map f (up_to (suc from) n) ++ map f (up_to i m)) e)

  pub map_next : (f : ℕ → A) (n : ℕ) → map f (up_to 0 (n + 1)) ≡ map f (up_to 0 n) ++ (f n ∷ [])
  map_next f n = let e : 0 + n ≡ n = omega arith in map_split f n 1 0 ∙ ap (λ (i : ℕ). map f (up_to 0 n) ++ (f i ∷ [])) e

  -- a list by its elements
  pub map_elements : {B : Type 0} (f : A → B) (xs : List A) (a : A) → map (λ i. f (get_or xs i a)) (up_to 0 (length xs)) ≡ map f xs
  map_elements f [] a = refl
  map_elements {B} f (x ∷ xs) a =
      ap (λ (l : List B). f x ∷ l) (map_alike (λ i. f (get_or (x ∷ xs) i a)) (λ i. f (get_or xs i a)) (length xs) 1 0 (λ k z.
      let e : 1 + k ≡ suc k = omega arith in
      let g : k ≡ 0 + k = omega arith in
      ap (λ (i : ℕ). f (get_or (x ∷ xs) i a)) e ∙ ap (λ (i : ℕ). f (get_or xs i a)) g) ∙ map_elements f xs a)
