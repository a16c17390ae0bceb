-- What an operation answers.
use Rattle.std.specs.Prelude.{ℕ}
use Rattle.value.specs.Value.{Error, number, Result, ok, err}

-- done, or refused with document 01's number and place
pub data Answer (A : Type 0) : Type 0 where
  done : A → Answer A
  refused : (number place : ℕ) → Answer A

infixl 10 ◌>>=◌
-- goes on with what is done, hands a refusal on; `do` blocks are read with it
abbrev pub ◌>>=◌ : {A B : Type 0} → Answer A → (A → Answer B) → Answer B
done a >>= f = f a
refused number place >>= f = refused number place

-- A value, or the refusal for its error (11 to 13) at this place.
abbrev pub at_place : {A : Type 0} → ℕ → Result A → Answer A
at_place place (ok a) = done a
at_place place (err e) = refused (number e) place
