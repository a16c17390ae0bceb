-- What the listing program prints ends in right totals, or is a refusal's line alone (document 02, W-210), for every list of bytes handed in.
use Rattle.std.specs.Prelude.{ℕ, ◌≤◌, ◌≡◌, List}
use Rattle.sheet.specs.Operations.{all_five}
use Rattle.sheet.specs.Listing.{refusal_line}
use Rattle.sheet_laws.specs.Plan.{Bytes}
use Rattle.listing.specs.ReadBack.{TotalsRight}
use Rattle.list_plan.specs.Listed.{blank, listed}

pub record Printed (s : List ℕ) : Type 0 where
  -- a plan's lines, whose totals are right
  pub of_a_plan : (all_five s blank).numbers.number ≡ 0 → TotalsRight (listed s)
  -- a refusal's line, and nothing else
  pub of_a_refusal : 1 ≤ (all_five s blank).numbers.number → listed s ≡ refusal_line (all_five s blank).numbers.number (all_five s blank).numbers.place

abbrev pub Prints : Type 0
Prints = (s : List ℕ) → Bytes s → Printed s
