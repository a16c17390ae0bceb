-- What is true of a result where there is one.
use Rattle.std.specs.Prelude.{ℕ, ◌≡◌}
use Rattle.std.proofs.Common.{subst}
use Rattle.value.specs.Value.{Result, ok, err}
use Rattle.sql.specs.Expression.{bind}
use Rattle.sql.specs.Answer.{Answer, done, refused, ◌>>=◌, at_place}

-- of a value, if there is no error
abbrev pub Valued : {A : Type 0} → (A → Type 0) → Result A → Type 0
Valued P (ok a) = P a
Valued P (err e) = Unit {0}

pub valued_bind : {A B : Type 0} (P : A → Type 0) (Q : B → Type 0) (r : Result A) (f : A → Result B)
    → Valued P r → ((a : A) → P a → Valued Q (f a)) → Valued Q (bind r f)
valued_bind P Q (ok a) f h k = k a h
valued_bind P Q (err e) f h k = tt

-- of what is done, if nothing is refused
abbrev pub Answered : {A : Type 0} → (A → Type 0) → Answer A → Type 0
Answered P (done a) = P a
Answered P (refused number place) = Unit {0}

pub answered_then : {A B : Type 0} (P : A → Type 0) (Q : B → Type 0) (r : Answer A) (f : A → Answer B)
    → Answered P r → ((a : A) → P a → Answered Q (f a)) → Answered Q (r >>= f)
answered_then P Q (done a) f h k = k a h
answered_then P Q (refused number place) f h k = tt

pub answered_place : {A : Type 0} (P : A → Type 0) (place : ℕ) (r : Result A) → Valued P r → Answered P (at_place place r)
answered_place P place (ok a) h = h
answered_place P place (err e) h = tt

pub answer_is : {A : Type 0} (P : A → Type 0) (r : Answer A) (a : A) → Answered P r → r ≡ done a → P a
answer_is P r a h e = subst (Answered P) e h
