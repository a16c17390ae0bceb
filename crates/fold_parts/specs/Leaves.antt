-- What an answer leaves in the slice that is written, for answers of any kind whose words are known.
use Rattle.std.specs.Prelude.{ℕ, ◌≤◌, ◌≡◌, List, Ok, Err}
use Rattle.sql.specs.Answer.{Answer, done, refused}
use Rattle.fold_operator.specs.Left.{Appended, Folded, number_of}

-- The words of what is done, appended, and where they end; or the refusal's number and place.
abbrev pub Left : {A : Type 0} → (A → List ℕ) → List ℕ → ℕ → Answer A → Folded → List ℕ → Type 0
Left f d at (done y) (Ok n) d' = Appended d at (f y) n d'
Left f d at (done y) (Err why) d' = ⊥
Left f d at (refused number place) (Ok n) d' = ⊥
Left f d at (refused number place) (Err why) d' = (number_of why ≡ number) × (why.place ≡ place)

pub record Leaves {A : Type 0} (f : A → List ℕ) (d : List ℕ) (at : ℕ) (answer : Answer A) (r : Folded) (d' : List ℕ) : Type 0 where
  pub left : Left f d at answer r d'

-- What is done ends at n or before.
abbrev pub Bounded : ℕ → Folded → Type 0
Bounded n (Ok m) = m ≤ n
Bounded n (Err why) = Unit {0}

pub record UpTo (n : ℕ) (r : Folded) : Type 0 where
  pub ends : Bounded n r
