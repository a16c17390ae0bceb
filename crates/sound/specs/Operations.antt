-- The operations `one pass` and `all five`, bytes to bytes: whatever sheet they hand out, `check` accepts it, with the cells and the columns that were
-- answered; it is as long as was answered, and has the text, the records and the number of columns of the sheet handed in.
use Rattle.std.specs.Prelude.{ℕ, ◌≡◌, List}
use Rattle.std.proofs.Math.ListN.{length, take}
use Rattle.sheet.specs.Check.{text, schema, check}
use Rattle.sheet.specs.Operations.{Outcome}
use Rattle.sound.specs.HandedOut.{success}

-- The sheet in the output, from its first byte on, as long as was answered.
abbrev pub sheet_of : Outcome → List ℕ
sheet_of o = take o.numbers.length o.output

-- Of the sheet handed in and what an operation has returned and put out.
pub record SoundOutcome (s : List ℕ) (o : Outcome) : Type 0 where
  pub checks : check (sheet_of o) ≡ success o.numbers.cells o.numbers.columns
  pub long : length (sheet_of o) ≡ o.numbers.length
  pub same_columns : o.numbers.columns ≡ (check s).columns
  pub same_text : text (sheet_of o) ≡ text s
  pub same_schema : schema (sheet_of o) ≡ schema s
