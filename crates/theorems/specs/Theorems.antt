-- What is promised of the three operations, in document 01's words. The exported functions equal the definitions that are used here (crate sheet):
-- plan_check returns `check s`, plan_pass `one_pass s k out`, plan_optimize `all_five s out`. Each statement is proved in proofs/Proofs.antt, under its name
-- in small letters. Which wrong programs they refuse: ShutOut.antt.
--
-- s               the bytes handed in; Bytes s says that each is below 256
-- k               the number of the pass asked for
-- out             what the output holds before
-- numbers         what is returned: number (0, or the refusal's), place, length, cells, columns
-- o               an outcome: the numbers, and what the output holds then
-- sheet_of o      the sheet that was handed out: the output's first bytes, as many as the length returned
-- plan s          done n if check accepts s, as the plan n; refused number place if it doesn't
-- plan s >>= f    f of that plan, or check's refusal
-- success c d     check's answer to an accepted sheet: number, place and length 0, c cells and d columns
-- refusal n p     number n, place p, and 0 for length, cells and columns
-- refuse out n p  the same, with the output as it was
use Rattle.std.specs.Prelude.{ℕ, suc, ◌+◌, ◌*◌, ◌-◌, ◌≤◌, ◌<◌, true, cond, List, [], ◌∷◌, ◌++◌, ◌⊎◌, ◌≡◌, leb, length, take, drop, get_or}
use Rattle.sql.specs.Schema.{Schema}
use Rattle.sql.specs.Expression.{Row}
use Rattle.sql.specs.Plan.{Node, columns, node_size}
use Rattle.sql.specs.Answer.{Answer, done, refused, ◌>>=◌}
use Rattle.sql.specs.Optimizer.{ConstantFolding, pass, optimize}
use Rattle.sql.specs.Room.{max_cells}
use Rattle.literal.specs.Law.{PassLiteral, FiveLiteral}
use Rattle.sheet.specs.Parts.{cells_at, table_count, column_count, cell_count}
use Rattle.sheet.specs.Check.{Numbers, refusal, text, schema, plan, check}
use Rattle.sheet.specs.Write.{write}
use Rattle.sheet.specs.Operations.{Outcome, refuse, one_pass, all_five}
use Rattle.sheet_laws.specs.Plan.{Bytes}
use Rattle.rows.specs.Database.{Database}
use Rattle.rows.specs.Equalities.{all}
use Rattle.same_rows.specs.SameRows.{Premises}
use Rattle.sound.specs.HandedOut.{success}
use Rattle.sound.specs.Operations.{sheet_of}
use Rattle.theorems.specs.Sizes

-- ======== 1. Every list of bytes meets success or one refusal, and whatever is handed out passes check with the same counts.

-- How many places a refusal from 2 to 10 can have: 2 to 4 have place 0 alone, 5 has the records, tables counted first, 6, 7, 9 and 10 have the cells, and 8
-- the cells and the cell count.
abbrev pub places : List ℕ → (number : ℕ) → ℕ
places s number =
    let records = table_count s + column_count s in
    let cells = cell_count s in
    get_or (1 ∷ 1 ∷ 1 ∷ records ∷ cells ∷ cells ∷ suc cells ∷ cells ∷ cells ∷ []) (number - 2) 0

-- Check accepts a sheet, with the counts of the plan that it stands for, or refuses it.
pub data Checked (s : List ℕ) (numbers : Numbers) : Type 0 where
  is_accepted : (n : Node) → plan s ≡ done n → numbers ≡ success (node_size n) (columns (schema s) n) → Checked s numbers
  is_refused : (number place : ℕ) → plan s ≡ refused number place → numbers ≡ refusal number place → 2 ≤ number → number ≤ 10 → place < places s number
      → Checked s numbers

-- A success that hands out a sheet. Number and place are 0, and check accepts the sheet with the cells and columns that were answered, the columns those of
-- the sheet handed in. Text and records are those of the sheet handed in, and all up to the first cell is copied from it. The sheet is as long as was
-- answered, it fits in the output, and the output's bytes after it stay.
pub record Success (s out : List ℕ) (o : Outcome) : Type 0 where
  pub number_0 : o.numbers.number ≡ 0
  pub place_0 : o.numbers.place ≡ 0
  pub passes_check : check (sheet_of o) ≡ success o.numbers.cells o.numbers.columns
  pub same_columns : o.numbers.columns ≡ (check s).columns
  pub same_text : text (sheet_of o) ≡ text s
  pub same_schema : schema (sheet_of o) ≡ schema s
  pub copied : take (cells_at s) (sheet_of o) ≡ take (cells_at s) s
  pub bytes : Bytes (sheet_of o)
  pub as_long : length (sheet_of o) ≡ o.numbers.length
  pub fits : o.numbers.length ≤ length out
  pub rest_stays : o.output ≡ sheet_of o ++ drop o.numbers.length out

-- A sheet is handed out, or there is a refusal and the output is as it was.
pub data Answered (s out : List ℕ) (o : Outcome) : Type 0 where
  is_success : Success s out o → Answered s out o
  is_refusal : (number place : ℕ) → 2 ≤ number → number ≤ 15 → o ≡ refuse out number place → Answered s out o

-- Check gives success or a refusal from 2 to 10.
abbrev pub CheckAnswers : Type 0
CheckAnswers = (s : List ℕ) → Bytes s → Checked s (check s)

-- One pass hands out such a sheet or gives a refusal from 2 to 15, if its number is 1 to 5.
abbrev pub OnePassAnswers : Type 0
OnePassAnswers = (s : List ℕ) → Bytes s → (k : ℕ) → 1 ≤ k → k ≤ 5 → (out : List ℕ) → Answered s out (one_pass s k out)

-- Any other number gets refusal 1, whatever the bytes are.
abbrev pub NoSuchPass : Type 0
NoSuchPass = (s : List ℕ) (k : ℕ) (out : List ℕ) → (k < 1) ⊎ (5 < k) → one_pass s k out ≡ refuse out 1 0

-- All five hand out such a sheet or give a refusal from 2 to 15.
abbrev pub AllFiveAnswers : Type 0
AllFiveAnswers = (s : List ℕ) → Bytes s → (out : List ℕ) → Answered s out (all_five s out)

-- ======== 2. Each pass, and all five, give what the Rust's optimizers give.

-- Room: r, unless one of these sizes is over 2,048 cells. Then it is refusal 14, with place 0.
abbrev pub with_room : (sizes : List ℕ) → Answer Node → Answer Node
with_room sizes r = cond (all (λ (cells : ℕ). leb cells max_cells) sizes) r (refused 14 0)

-- the bytes of the sheet that is handed out for the plan m: text and records, the cells, the trailer
abbrev pub needed : List ℕ → Node → ℕ
needed s m = cells_at s + 16 * node_size m + 20

-- The sheet handed out stands for the plan m, its bytes are what m is written as (crate sheet, Write.antt), the output's bytes after it stay, and its length
-- and counts are returned.
pub record HandsOut (s out : List ℕ) (m : Node) (o : Outcome) : Type 0 where
  pub stands_for : plan (sheet_of o) ≡ done m
  pub is_written : sheet_of o ≡ write s m
  pub rest_stays : o.output ≡ write s m ++ drop (needed s m) out
  pub returned : o.numbers ≡ record { number = 0; place = 0; length = needed s m; cells = node_size m; columns = columns (schema s) m }

-- The whole answer: a refusal is handed on, with the output as it was; a plan is handed out if the output is long enough, and otherwise it is refusal 15,
-- with the bytes needed for its place and the output as it was.
abbrev pub Gives : (s out : List ℕ) → Answer Node → Outcome → Type 0
Gives s out (refused number place) o = o ≡ refuse out number place
Gives s out (done m) o = (needed s m ≤ length out → HandsOut s out m o) × (length out < needed s m → o ≡ refuse out 15 (needed s m))

-- An operation is the Rust's passes: for each of the five, and every sheet and output, it gives check's refusal if there is one; then 14 if and only if one of
-- the sizes that come up in the pass (Sizes.antt) is over 2,048 cells; then the Rust's answer. `pass` is one optimizer of optimizer.rs by its number, as defined
-- in crate sql, which the Rust's text gives (IsTheRust, below). It knows no limit of room, and only pass 1, ConstantFolding, refuses (11 to 13). Any other number
-- than the five is refused by 1, whatever the bytes are.
pub record IsOnePass (operation : List ℕ → ℕ → List ℕ → Outcome) : Type 0 where
  pub gives :
      (s : List ℕ) → Bytes s → (k : ℕ) → 1 ≤ k → k ≤ 5 → (out : List ℕ)
      → Gives s out (plan s >>= λ (n : Node). with_room (Sizes.pass (schema s) k n) (pass (schema s) k n)) (operation s k out)
  pub no_other : (s : List ℕ) (k : ℕ) (out : List ℕ) → (k < 1) ⊎ (5 < k) → operation s k out ≡ refuse out 1 0

-- The same of all five, `Plan::optimize` in plan.rs. Where ConstantFolding refuses, there are no sizes but those of its visits before.
abbrev pub IsAllFive : (List ℕ → List ℕ → Outcome) → Type 0
IsAllFive operation =
    (s : List ℕ) → Bytes s → (out : List ℕ)
    → Gives s out (plan s >>= λ (n : Node). with_room (Sizes.optimize (schema s) n) (optimize (schema s) n)) (operation s out)

-- The operations are that. So a sheet that check refuses gets its number and place from every pass; 11 to 13 come from ConstantFolding alone; and with the bytes
-- that 15 asks for, the sheet is handed out.
abbrev pub OnePassGives : Type 0
OnePassGives = IsOnePass one_pass

abbrev pub AllFiveGives : Type 0
AllFiveGives = IsAllFive all_five

-- ConstantFolding refuses by 11 to 13, and the place is a cell of the plan.
abbrev pub FoldingRefuses : Type 0
FoldingRefuses =
    (n : Node) (number place : ℕ) → ConstantFolding 0 n ≡ refused number place → (11 ≤ number) × (number ≤ 13) × (place < node_size n)

-- After each step of ConstantFolding, or of HashJoin, the plan has no more cells than the plan that the pass was given. No plan that a sheet stands for has over
-- 2,048. So passes 1 and 4 never give 14, and where ConstantFolding refuses, its refusal is the answer.
abbrev pub NeverLarger : Type 0
NeverLarger =
    (tables : Schema) (n : Node) → all (λ (cells : ℕ). leb cells (node_size n)) (Sizes.pass tables 1 n ++ Sizes.pass tables 4 n) ≡ true

-- The bound on FilterPushdown's recursion, the plan's cells, cuts off no size that counts: with a higher one, some size is over a number of cells if and only if
-- one is with this.
abbrev pub BoundEnough : Type 0
BoundEnough =
    (tables : Schema) (k room : ℕ) (n : Node) → node_size n ≤ k
    → all (λ (cells : ℕ). leb cells room) (Sizes.push_filters_from tables k 0 n) ≡ all (λ (cells : ℕ). leb cells room) (Sizes.pass tables 2 n)

-- `pass` and `optimize` are the Rust's: crate literal has its text, function by function, and its Law.antt says what is the same, with document 01's departures.
abbrev pub IsTheRust : Type 0
IsTheRust = PassLiteral × FiveLiteral

-- ======== 3. The passes change no row, from bytes to rows.

-- Sheet 0 is handed in, and sheet k + 1 is what pass k + 1 hands out for sheet k, into an output that isn't too short for it: 15 is
-- no step's refusal.
pub record PassesInTurn (sheet : ℕ → List ℕ) : Type 0 where
  pub bytes : Bytes (sheet 0)
  pub outputs : ℕ → List ℕ
  pub long_enough : (k : ℕ) → k < 5 → (one_pass (sheet k) (suc k) (outputs k)).numbers.number ≡ 15 → ⊥
  pub next : (k : ℕ) → k < 5 → sheet (suc k) ≡ sheet_of (one_pass (sheet k) (suc k) (outputs k))

-- Five calls of one pass. A database is any tables as wide as the sheet declares them, with values of any kind, any rule for Order and any function for Aggregate.
-- Under document 01's premises (crate same_rows, SameRows.antt) on the sheet's plan and the plans after each pass, the six sheets stand for these plans, and have
-- equally many columns and the same rows, to the bit.
abbrev pub SameRowsInTurn : Type 0
SameRowsInTurn =
    (sheet : ℕ → List ℕ) (plans : ℕ → Node) (database : Database) (rows : ℕ → List Row)
    → PassesInTurn sheet → plan (sheet 0) ≡ done (plans 0) → database.schema ≡ schema (sheet 0) → Premises database plans rows
    → (k : ℕ) → k ≤ 5 → (plan (sheet k) ≡ done (plans k)) × ((check (sheet k)).columns ≡ (check (sheet 0)).columns) × (rows k ≡ rows 0)

-- One call of all five, into an output that isn't too short. The sheet handed out stands for plan 5; it and all six plans have as many columns as check answers to
-- the sheet handed in, and all six have the same rows.
abbrev pub SameRowsAllFive : Type 0
SameRowsAllFive =
    (s out : List ℕ) (plans : ℕ → Node) (database : Database) (rows : ℕ → List Row)
    → Bytes s → ((all_five s out).numbers.number ≡ 15 → ⊥) → plan s ≡ done (plans 0) → database.schema ≡ schema s → Premises database plans rows
    → (plan (sheet_of (all_five s out)) ≡ done (plans 5)) × ((check (sheet_of (all_five s out))).columns ≡ (check s).columns)
    × ((k : ℕ) → k ≤ 5 → (columns (schema s) (plans k) ≡ (check s).columns) × (rows k ≡ rows 0))
