-- What the listing program prints of the bytes handed in: the lines of the sheet that all five passes hand out, or the refusal's line.
use Rattle.std.specs.Prelude.{ℕ, zero, suc, ◌≤◌, ◌≡◌, List, length, take, replicate}
use Rattle.sheet.specs.Operations.{Outcome, all_five}
use Rattle.sheet.specs.Listing.{listing, refusal_line}
use Rattle.sound.specs.Operations.{sheet_of}

-- The lines of an outcome, by the number that was returned.
abbrev pub lines_by : ℕ → Outcome → List ℕ
lines_by zero o = listing (sheet_of o) o.numbers.columns
lines_by (suc n) o = refusal_line (suc n) o.numbers.place

abbrev pub lines : Outcome → List ℕ
lines o = lines_by o.numbers.number o

-- An output that has room for every sheet. What stands in it doesn't matter (proofs/Handed.antt).
abbrev pub blank : List ℕ
blank = replicate 45332 0

unfoldable pub listed : List ℕ → List ℕ
unfolding all_five listing
listed s = lines (all_five s blank)

-- The lines stand in the first r bytes of the output. `counted` follows from `within`; both are stated, so that a program that lends those bytes needs no
-- proof of its own.
pub record Lines (s : List ℕ) (r : ℕ) (out' : List ℕ) : Type 0 where
  pub within : r ≤ length out'
  pub counted : length (take r out') ≡ r
  pub are : take r out' ≡ listed s
