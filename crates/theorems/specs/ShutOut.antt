-- Document 01: "Shut out by point 2: refusing all sheets (P1 and every acceptable one); one fixed sheet for all; the input handed back (point 3 alone would let
-- it by); five passes' work in pass 1 and four idle ones, as each pass is compared alone; invented cell or column counts, which are those of the output's
-- tree." Here it is stated that none of these programs, nor one that spoils the output behind the sheet, is the operation `one pass` or `all five` of the second
-- promise (Theorems.antt, whose names are used). But for `Settled`, what is asked of a program is asked only where a sheet is to be handed out. So it may answer
-- as it should wherever there is a refusal: check's, folding's, for room, or because the output is too short. Each statement is proved in
-- proofs/ShutOut.antt, under its name in small letters.
use Rattle.std.specs.Prelude.{ℕ, ◌≤◌, List, ◌++◌, ◌≡◌, length, drop}
use Rattle.sql.specs.Plan.{Node, columns, node_size}
use Rattle.sql.specs.Answer.{done, ◌>>=◌}
use Rattle.sql.specs.Optimizer.{pass, optimize}
use Rattle.sheet.specs.Check.{schema, plan}
use Rattle.sheet.specs.Write.{write}
use Rattle.sheet.specs.Operations.{Outcome, one_pass, all_five}
use Rattle.sheet.specs.Examples.{P1}
use Rattle.sheet_laws.specs.Plan.{Bytes}
use Rattle.sound.specs.Operations.{sheet_of}
use Rattle.theorems.specs.Sizes
use Rattle.theorems.specs.Theorems.{with_room, needed, IsOnePass, IsAllFive}

-- from the sheet, the number of the pass and the output to an outcome; all five have no number
abbrev pub Program : Type 0
Program = List ℕ → ℕ → List ℕ → Outcome

abbrev pub ProgramOfFive : Type 0
ProgramOfFive = List ℕ → List ℕ → Outcome

-- It isn't the operation `one pass`.
abbrev pub ShutOut : Program → Type 0
ShutOut program = IsOnePass program → ⊥

-- It isn't the operation `all five`.
abbrev pub ShutOutFive : ProgramOfFive → Type 0
ShutOutFive program = IsAllFive program → ⊥

-- Document 01: "Each operation's contract settles number, place, counts and every output byte, refusals included." A program that meets the second promise
-- answers all bytes, for every number of a pass and with every output, as the definition does. So one that differs from that anywhere is shut out.
abbrev pub Settled : Type 0
Settled =
    ((program : Program) → IsOnePass program → (s : List ℕ) → Bytes s → (k : ℕ) (out : List ℕ) → program s k out ≡ one_pass s k out)
    × ((program : ProgramOfFive) → IsAllFive program → (s : List ℕ) → Bytes s → (out : List ℕ) → program s out ≡ all_five s out)

-- ======== Where a sheet is to be handed out.

-- The second promise's answer for the sheet s and pass k is the plan m, no refusal, and m's sheet fits in the output.
pub record Answerable (s : List ℕ) (k : ℕ) (out : List ℕ) (m : Node) : Type 0 where
  pub bytes : Bytes s
  pub from_1 : 1 ≤ k
  pub to_5 : k ≤ 5
  pub gives : (plan s >>= λ (n : Node). with_room (Sizes.pass (schema s) k n) (pass (schema s) k n)) ≡ done m
  pub fits : needed s m ≤ length out

-- The same of all five.
pub record AnswerableFive (s out : List ℕ) (m : Node) : Type 0 where
  pub bytes : Bytes s
  pub gives : (plan s >>= λ (n : Node). with_room (Sizes.optimize (schema s) n) (optimize (schema s) n)) ≡ done m
  pub fits : needed s m ≤ length out

-- P1 is such a sheet, in each pass and in all five, with every output of P1's 148 bytes or more. So the statements below are of something.
abbrev pub P1Answerable : Type 0
P1Answerable =
    ((k : ℕ) → 1 ≤ k → k ≤ 5 → (out : List ℕ) → 148 ≤ length out → (m : Node) × Answerable P1 k out m)
    × ((out : List ℕ) → 148 ≤ length out → (m : Node) × AnswerableFive P1 out m)

-- ======== Faults at one answerable input.

-- What must be so of the outcome o, where the sheet of the plan m is to be handed out. A program for which it isn't, if only for one sheet in one pass with one
-- output, is shut out, and so is a program of all five.
abbrev pub ShutOutUnless : (right : (s out : List ℕ) → Node → Outcome → Type 0) → Type 0
ShutOutUnless right =
    ((program : Program) (s : List ℕ) (k : ℕ) (out : List ℕ) (m : Node) → Answerable s k out m → (right s out m (program s k out) → ⊥) → ShutOut program)
    × ((program : ProgramOfFive) (s out : List ℕ) (m : Node) → AnswerableFive s out m → (right s out m (program s out) → ⊥) → ShutOutFive program)

-- Refusing, by whatever number and place.
abbrev pub Refusing : Type 0
Refusing = ShutOutUnless (λ s out m o. o.numbers.number ≡ 0)

-- Handing out another sheet than m's.
abbrev pub OtherSheet : Type 0
OtherSheet = ShutOutUnless (λ s out m o. sheet_of o ≡ write s m)

-- "Invented cell or column counts, which are those of the output's tree": any others, whatever is right besides.
abbrev pub InventedCells : Type 0
InventedCells = ShutOutUnless (λ s out m o. o.numbers.cells ≡ node_size m)

abbrev pub InventedColumns : Type 0
InventedColumns = ShutOutUnless (λ s out m o. o.numbers.columns ≡ columns (schema s) m)

-- Spoiling the output's bytes behind the sheet that is handed out: writing over them, moving them, cutting them off or adding to them.
abbrev pub SpoiledRest : Type 0
SpoiledRest = ShutOutUnless (λ s out m o. o.output ≡ sheet_of o ++ drop o.numbers.length out)

-- ======== What a program always does.

-- A program that does so at all answerable inputs of one pass, whichever that is and whatever its other passes do, is shut out, and so is a program of all five.
abbrev pub ShutOutIfAlways : (habit : (s out : List ℕ) → Outcome → Type 0) → Type 0
ShutOutIfAlways habit =
    ((program : Program) (k : ℕ) → 1 ≤ k → k ≤ 5 → ((s out : List ℕ) (m : Node) → Answerable s k out m → habit s out (program s k out)) → ShutOut program)
    × ((program : ProgramOfFive) → ((s out : List ℕ) (m : Node) → AnswerableFive s out m → habit s out (program s out)) → ShutOutFive program)

-- "Refusing all sheets (P1 and every acceptable one)", by whatever numbers and places. By `Refusing` it is enough to refuse P1.
abbrev pub RefusingAll : Type 0
RefusingAll = ShutOutIfAlways (λ s out o. o.numbers.number ≡ 0 → ⊥)

-- "One fixed sheet for all", or one for each output.
abbrev pub FixedSheet : Type 0
FixedSheet = (fixed : List ℕ → List ℕ) → ShutOutIfAlways (λ s out o. sheet_of o ≡ fixed out)

-- One fixed plan for all, with the text and the records of the sheet handed in, or with any others.
abbrev pub FixedPlan : Type 0
FixedPlan = (fixed : List ℕ → Node) → ShutOutIfAlways (λ s out o. plan (sheet_of o) ≡ done (fixed out))

-- "The input handed back (point 3 alone would let it by)."
abbrev pub HandedBack : Type 0
HandedBack = ShutOutIfAlways (λ s out o. sheet_of o ≡ s)

-- "Four idle ones, as each pass is compared alone": one of the five that leaves every plan as it was is enough.
abbrev pub Idle : Type 0
Idle = ShutOutIfAlways (λ s out o. plan (sheet_of o) ≡ plan s)

-- "Five passes' work in pass 1", or in any other one: it hands out the sheet that all five give, where they give one.
abbrev pub AllInOne : Type 0
AllInOne =
    (program : Program) (k : ℕ) → 1 ≤ k → k ≤ 5
    → ((s out : List ℕ) (m five : Node) → Answerable s k out m → AnswerableFive s out five → sheet_of (program s k out) ≡ sheet_of (all_five s out))
    → ShutOut program
