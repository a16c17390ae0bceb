-- What the code's inner functions are given, and what they return.
use Rattle.std.specs.Prelude.{ℕ, ◌≤◌, ◌≡◌, true, List, length, Result, Ok, Err}
use Rattle.sheet.specs.Parts.{edition_ok}
use Rattle.layout.specs.Layout.{Whole}
use Rattle.convert.specs.Convert.{other_edition}
use Rattle.sheet.specs.Check.{Numbers}
use Rattle.sheet.specs.Operations.{Outcome}
use Rattle.checker.specs.declared.Counts.{Counts}
use Rattle.checker.specs.declared.refusals.Refusal.{Refusal}
use Rattle.checker.specs.Refusals.{refusal_of}

-- s is a whole sheet of an edition, the target is the other, and the output has room.
pub record Carryable (s : List ℕ) (target : ℕ) (out : List ℕ) : Type 0 where
  pub whole : Whole s
  pub known : edition_ok s ≡ true
  pub other : other_edition s target ≡ true
  pub room : length s ≤ length out

-- What the inner function returns, in numbers, and what the output holds then. A sheet that is carried over stays as long as it was.
abbrev pub counted : (long : ℕ) → Result Counts Refusal → Numbers
counted long (Ok c) = record { number = 0; place = 0; length = long; cells = c.cells; columns = c.columns }
counted long (Err r) = refusal_of r

abbrev pub returned : (long : ℕ) → Result Counts Refusal → List ℕ → Outcome
returned long r out = record { numbers = counted long r; output = out }
