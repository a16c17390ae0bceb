-- The laws of `convert`, for every list of bytes and every output. Document 02, W-209: "Upward then downward returns the same bytes; downward then upward does so
-- exactly when each origin was its cell number." And what a sheet so carried is. Proved in proofs/Proved.antt.
use Rattle.std.specs.Prelude.{ℕ, ◌≤◌, ◌<◌, ◌≡◌, List, ◌++◌, length, drop}
use Rattle.sql.specs.Answer.{done}
use Rattle.sql.specs.Plan.{Node}
use Rattle.sheet.specs.Parts.{edition, cell_count}
use Rattle.sheet.specs.Cell.{cell}
use Rattle.sheet.specs.Check.{plan, check}
use Rattle.sheet.specs.Operations.{Outcome}
use Rattle.sheet_laws.specs.Plan.{Bytes}
use Rattle.sound.specs.Operations.{sheet_of, SoundOutcome}
use Rattle.editions.specs.Law.{zeroed}
use Rattle.convert.specs.Convert.{origin_in, convert}

-- Each origin is its cell's number.
abbrev pub OwnNumbers : List ℕ → Type 0
OwnNumbers s = (i : ℕ) → i < cell_count s → (cell s i).origin ≡ i

-- What was answered 0 upward is answered 0 downward, with the same counts, wherever there is room for it, and the sheet is the one that was handed in.
abbrev pub UpThenDown : Type 0
UpThenDown =
    (s : List ℕ) → Bytes s → (out out' : List ℕ) → (convert s 2 out).numbers.number ≡ 0 → length s ≤ length out'
    → convert (sheet_of (convert s 2 out)) 1 out' ≡ record { numbers = (convert s 2 out).numbers; output = s ++ drop (length s) out' }

-- Of a sheet of edition 2 and what downward and then upward give.
pub record Back (s : List ℕ) (down up : Outcome) : Type 0 where
  pub answered : up.numbers ≡ down.numbers
  pub same_if : OwnNumbers s → sheet_of up ≡ s
  pub only_if : sheet_of up ≡ s → OwnNumbers s

abbrev pub DownThenUp : Type 0
DownThenUp =
    (s : List ℕ) → Bytes s → (out out' : List ℕ) → (convert s 1 out).numbers.number ≡ 0 → length s ≤ length out'
    → Back s (convert s 1 out) (convert (sheet_of (convert s 1 out)) 2 out')

-- Two sheets stand for the same plan, but for its origins.
pub record SamePlan (s d : List ℕ) : Type 0 where
  pub of : Node
  pub is : Node
  pub stands_for : plan s ≡ done of
  pub now_stands_for : plan d ≡ done is
  pub same : zeroed is ≡ zeroed of

-- Of a sheet, a target and a success: the sheet put out passes the check, with the counts answered, which are those of the sheet handed in; it is of the target
-- edition, has the same text and records, stands for the same plan, and its origins are as the request says.
pub record Carried (s : List ℕ) (target : ℕ) (o : Outcome) : Type 0 where
  pub sound : SoundOutcome s o
  pub same_check : check (sheet_of o) ≡ check s
  pub same_length : o.numbers.length ≡ length s
  pub edition_is : edition (sheet_of o) ≡ target
  pub same_plan : SamePlan s (sheet_of o)
  pub origins_are : (i : ℕ) → i < cell_count s → (cell (sheet_of o) i).origin ≡ origin_in target i

abbrev pub Carries : Type 0
Carries = (s : List ℕ) → Bytes s → (target : ℕ) (out : List ℕ) → (convert s target out).numbers.number ≡ 0 → Carried s target (convert s target out)
