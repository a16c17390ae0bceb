-- The slices that FilterPushdown works in: the plan's, and three for what is written on the way.
use Rattle.std.specs.Prelude.{ℕ, ◌≡◌, List, length}

-- Each has as many words as the plan's: seven for each cell that there is room for.
pub record Buffers (x y z w : List ℕ) : Type 0 where
  pub first : length y ≡ length x
  pub second : length z ≡ length x
  pub third : length w ≡ length x
