-- A law on `up_to`, by which antt computes what holds of a whole range.
use Rattle.std.specs.Prelude.{ℕ, zero, suc, ◌+◌, ◌≤◌, ◌<◌, ◌≡◌, List, map, get_or, drop}
use Rattle.std.proofs.Common.{arith, sym, ap, ◌∙◌}
use Rattle.std.proofs.Math.Decide.{dec_lt}
use Rattle.sql.specs.Plan.{up_to}

-- Two functions agree on a number of a range, if they do on the list of all its numbers.
pub same_in : {A : Type 0} (f g : ℕ → A) (from n : ℕ) → map f (up_to from n) ≡ map g (up_to from n) → (i : ℕ) → from ≤ i → i < from + n → f i ≡ g i
same_in f g from zero e i h j = absurd (omega arith)
same_in f g from (suc n) e i h j = go (dec_lt from i) (same_in f g (suc from) n (ap (drop 1) e) i)
  where
    go : Dec (from < i) → (suc from ≤ i → i < suc from + n → f i ≡ g i) → f i ≡ g i
    go (yes z) later = later z (omega arith)
    go (no z) later = let k : i ≡ from = omega arith in ap f k ∙ ap (λ (l : List _). get_or l 0 (g from)) e ∙ sym (ap g k)
