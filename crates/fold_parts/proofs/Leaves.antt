-- Laws on what answers leave.
use Rattle.std.specs.Prelude.{Ok, Err}
use Prim.Native.Nat.{ℕ, ◌≤◌}
use native.Mathlib.Omega.{arith}
use mathlib.Core.Path.{◌≡◌, refl, sym, ap, ◌∙◌, subst}
use mathlib.Core.List.{List, [], ◌++◌, append_assoc, append-nil}
use lib.ListN.{take, length-append}
use Rattle.sql.specs.Answer.{Answer, done, refused, ◌>>=◌}
use Rattle.sound.specs.Answers.{Answered}
use Rattle.fold_operator.specs.declared.Failure.{Failure}
use Rattle.fold_operator.specs.Left.{Appended, Folded}
use Rattle.fold_parts.specs.Leaves.{Left, Leaves, Bounded, UpTo}

-- ---- what is appended

pub appended_none : (d : List ℕ) (at : ℕ) → Appended d at [] at d
appended_none d at = record { ends = omega arith; kept = sym (append-nil (take at d)) }

-- one piece, and one more after it
pub appended_then : {d : List ℕ} {at : ℕ} {v w : List ℕ} {m n : ℕ} {d₁ d₂ : List ℕ} → Appended d at v m d₁ → Appended d₁ m w n d₂ → Appended d at (v ++ w) n d₂
appended_then {d} {at} {v} {w} a b = record {
  ends = omega (arith, a.ends, b.ends, length-append v w);
  kept = b.kept ∙ (ap (λ (l : List ℕ). l ++ w) a.kept ∙ append_assoc (take at d) v w);
}

pub appended_as : {d : List ℕ} {at : ℕ} {v w : List ℕ} {n : ℕ} {d' : List ℕ} → v ≡ w → Appended d at v n d' → Appended d at w n d'
appended_as {d} {at} {n = n} {d' = d'} e a = subst (λ (l : List ℕ). Appended d at l n d') e a

-- ---- answers

pub answer_as : {d : List ℕ} {at : ℕ} {A : Type 0} {f : A → List ℕ} {a b : Answer A} {r : Folded} {d' : List ℕ} → a ≡ b → Leaves f d at a r d' → Leaves f d at b r d'
answer_as {d} {at} {A} {f} {r = r} {d' = d'} e h = subst (λ (x : Answer A). Leaves f d at x r d') e h

pub said_as : {d : List ℕ} {at : ℕ} {A : Type 0} {f : A → List ℕ} {a : Answer A} {r q : Folded} {d' : List ℕ} → r ≡ q → Leaves f d at a r d' → Leaves f d at a q d'
said_as {d} {at} {A} {f} {a} {d' = d'} e h = subst (λ (x : Folded). Leaves f d at a x d') e h

pub up_to_as : {n : ℕ} {r q : Folded} → r ≡ q → UpTo n r → UpTo n q
up_to_as {n} e h = subst (λ (x : Folded). UpTo n x) e h

pub up_to_more : {n m : ℕ} {r : Folded} → n ≤ m → UpTo n r → UpTo m r
up_to_more {n} {m} {r} h k = record { ends = go r k.ends }
  where
    go : (r : Folded) → Bounded n r → Bounded m r
    go (Ok i) k = omega arith
    go (Err why) k = tt

-- A refusal is handed on.
pub refused_on : {A B : Type 0} {f : A → List ℕ} {g : B → List ℕ} {d₁ d : List ℕ} {at₁ at : ℕ} {why : Failure} {d₂ d' : List ℕ} (a : Answer A) (k : A → Answer B)
    → Leaves f d₁ at₁ a (Err why) d₂ → Leaves g d at (a >>= k) (Err why) d'
refused_on (done y) k h = absurd h.left
refused_on (refused i p) k h = record { left = h.left }

-- What is done is gone on with.
pub done_on : {A B : Type 0} {f : A → List ℕ} {g : B → List ℕ} {d₁ d : List ℕ} {at₁ at m : ℕ} {r : Folded} {d₂ d' : List ℕ} (a : Answer A) (k : A → Answer B)
    → Leaves f d₁ at₁ a (Ok m) d₂ → ((y : A) → a ≡ done y → Appended d₁ at₁ (f y) m d₂ → Leaves g d at (k y) r d')
    → Leaves g d at (a >>= k) r d'
done_on (done y) k h l = l y refl h.left
done_on (refused j p) k h l = absurd h.left

-- The same answer with something made of what is done, whose words are the same.
pub made_into : {A B : Type 0} {f : A → List ℕ} {g : B → List ℕ} {d : List ℕ} {at : ℕ} {r : Folded} {d' : List ℕ} (a : Answer A) (k : A → B)
    → ((y : A) → f y ≡ g (k y)) → Leaves f d at a r d' → Leaves g d at (a >>= λ y. done (k y)) r d'
made_into {A} {B} {f} {g} {d} {at} {r} {d'} a k e h = record { left = go a r h.left }
  where
    go : (a : Answer A) (r : Folded) → Left f d at a r d' → Left g d at (a >>= λ y. done (k y)) r d'
    go (done y) (Ok n) h = appended_as (e y) h
    go (done y) (Err why) h = h
    go (refused i q) (Ok n) h = h
    go (refused i q) (Err why) h = h

-- and back
pub made_of : {A B : Type 0} {f : A → List ℕ} {g : B → List ℕ} {d : List ℕ} {at : ℕ} {r : Folded} {d' : List ℕ} (a : Answer A) (k : A → B)
    → ((y : A) → g (k y) ≡ f y) → Leaves g d at (a >>= λ y. done (k y)) r d' → Leaves f d at a r d'
made_of {A} {B} {f} {g} {d} {at} {r} {d'} a k e h = record { left = go a r h.left }
  where
    go : (a : Answer A) (r : Folded) → Left g d at (a >>= λ y. done (k y)) r d' → Left f d at a r d'
    go (done y) (Ok n) h = appended_as (e y) h
    go (done y) (Err why) h = h
    go (refused i q) (Ok n) h = h
    go (refused i q) (Err why) h = h

-- one more behind what is there
pub one_behind : {A B : Type 0} {f : A → List ℕ} {g : B → List ℕ} {d : List ℕ} {at : ℕ} {w : List ℕ} {m : ℕ} {d₁ : List ℕ} {r : Folded} {d₂ : List ℕ} (a : Answer A) (k : A → B)
    → ((y : A) → w ++ f y ≡ g (k y)) → Appended d at w m d₁ → Leaves f d₁ m a r d₂ → Leaves g d at (a >>= λ y. done (k y)) r d₂
one_behind {A} {B} {f} {g} {d} {at} {w} {m} {d₁} {r} {d₂} a k e b h = record { left = go a r h.left }
  where
    go : (a : Answer A) (r : Folded) → Left f d₁ m a r d₂ → Left g d at (a >>= λ y. done (k y)) r d₂
    go (done y) (Ok n) h = appended_as (e y) (appended_then b h)
    go (done y) (Err why) h = h
    go (refused i q) (Ok n) h = h
    go (refused i q) (Err why) h = h

-- ---- answers that are equal

pub bind_done : {A : Type 0} (a : Answer A) → (a >>= λ y. done y) ≡ a
bind_done (done y) = refl
bind_done (refused i p) = refl

pub bind_twice : {A B C : Type 0} (a : Answer A) (f : A → Answer B) (g : B → Answer C) → ((a >>= f) >>= g) ≡ (a >>= λ y. f y >>= g)
bind_twice (done y) f g = refl
bind_twice (refused i p) f g = refl

pub bind_same : {A B : Type 0} (a : Answer A) (f g : A → Answer B) → ((y : A) → f y ≡ g y) → (a >>= f) ≡ (a >>= g)
bind_same (done y) f g e = e y
bind_same (refused i p) f g e = refl

-- where something is known of what is done
pub bind_known : {A B : Type 0} (P : A → Type 0) (a : Answer A) (f g : A → Answer B) → Answered P a → ((y : A) → P y → f y ≡ g y) → (a >>= f) ≡ (a >>= g)
bind_known P (done y) f g h e = e y h
bind_known P (refused i p) f g h e = refl
