-- Which sources of a join an expression refers to: the Rust's ref_left and ref_right.
use Rattle.std.specs.Prelude.{ℕ, Bool, ◌≡◌, List}
use Rattle.sql.specs.Expression.{Expression}
use Rattle.sql.specs.Optimizer.{ref_left, ref_right}
use Rattle.words.specs.Place.{ExpressionHere}

-- of the expression from lo up to hi, if the left source has n columns
abbrev pub RefersLeft : ℕ → List ℕ → ℕ → ℕ → Bool → Type 0
RefersLeft n s lo hi b = (e : Expression) → ExpressionHere s lo hi e → b ≡ ref_left n e

abbrev pub RefersRight : ℕ → List ℕ → ℕ → ℕ → Bool → Type 0
RefersRight n s lo hi b = (e : Expression) → ExpressionHere s lo hi e → b ≡ ref_right n e
