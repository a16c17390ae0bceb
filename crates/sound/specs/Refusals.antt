-- By which numbers an answer may be refused.
use Prim.Native.Nat.{ℕ, ◌≤◌}
use Rattle.std.specs.Prelude.{◌≡◌}
use Rattle.sql.specs.Answer.{Answer, done, refused}

-- If there is a refusal, its number is one of these.
abbrev pub RefusedBy : {A : Type 0} → (ℕ → Type 0) → Answer A → Type 0
RefusedBy N (done a) = Unit {0}
RefusedBy N (refused number place) = N number

-- from the one number to the other
abbrev pub FromTo : (least most : ℕ) → ℕ → Type 0
FromTo least most k = (least ≤ k) × (k ≤ most)

-- `check`
abbrev pub C : ℕ → Type 0
C = FromTo 2 10

-- ConstantFolding
abbrev pub F : ℕ → Type 0
F = FromTo 11 13

-- room
abbrev pub R : ℕ → Type 0
R k = k ≡ 14
