-- What is done came of what was done before.
use Rattle.std.specs.Prelude.{ℕ, ◌≡◌, refl}
use Rattle.std.proofs.Common.{arith}
use Rattle.sql.specs.Answer.{Answer, done, refused, ◌>>=◌}

pub not_done : {A B : Type 0} {number place : ℕ} {a : A} → ◌≡◌ {A = Answer A} (refused number place) (done a) → B
not_done h = absurd (let y : ◌≡◌ {A = ℕ} 0 1 = cc in omega arith)

pub done_same : {A : Type 0} {a b : A} → ◌≡◌ {A = Answer A} (done a) (done b) → a ≡ b
done_same h = cc

pub record After {A B : Type 0} (r : Answer A) (f : A → Answer B) (b : B) : Type 0 where
  pub of : A
  pub first : r ≡ done of
  pub second : f of ≡ done b

pub after : {A B : Type 0} (r : Answer A) (f : A → Answer B) (b : B) → (r >>= f) ≡ done b → After r f b
after (done a) f b h = record { of = a; first = refl; second = h }
after (refused number place) f b h = not_done h
