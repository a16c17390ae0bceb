-- What an operation hands out: the outcome of the code beside that of the definitions (crate sheet, Operations).
use Rattle.std.specs.Prelude.{ℕ, ◌≤◌, ◌≡◌, List, leb, length, take, Result, Ok, Err}
use Rattle.sql.specs.Plan.{Node, columns}
use Rattle.sql.specs.Answer.{Answer, done, refused}
use Rattle.sheet.specs.Parts.{table_count}
use Rattle.sheet.specs.Cell.{origins}
use Rattle.sheet.specs.Check.{text, schema, plan}
use Rattle.sheet.specs.Write.{write}
use Rattle.sheet.specs.Operations.{written, hand_out}
use Rattle.sheet_laws.specs.Fits.{OriginsBelow}
use Rattle.words.specs.Words.{node_words}
use Rattle.kept.specs.Kept.{Kept}
use Rattle.checker.specs.Checker.{outcome}
use Rattle.checker.specs.declared.Answer as Code
use Rattle.cells.specs.Room.{most_words}
use Rattle.passes.specs.declared.Refused.{Refused}
use Rattle.passes.specs.Passes.{Passed, number_of, place_of}
use Rattle.hand_out.specs.declared.NumberedRefusal.{NumberedRefusal}

-- m can take the place of a sheet's plan.
abbrev pub Fit : List ℕ → Node → Node → Type 0
Fit s node m = Kept (schema s) (text s) (table_count s) node m

-- The first n words of x are a plan that can take the place of that of s.
pub record WrittenIn (s x : List ℕ) (n : ℕ) (node m : Node) : Type 0 where
  pub is : plan s ≡ done node
  pub fit : Fit s node m
  pub words_are : take n x ≡ node_words m
  pub inside : n ≤ length x

pub record WrittenAt (s x : List ℕ) (n : ℕ) : Type 0 where
  pub node : Node
  pub m : Node
  pub there : WrittenIn s x n node m
  pub origins_are : OriginsBelow (origins s) m
  pub short : length x ≤ most_words

abbrev pub Writes : (s x : List ℕ) (n count : ℕ) (out : List ℕ) → Code.Answer → List ℕ → Type 0
Writes s x n count out a out' =
    (node m : Node) → WrittenIn s x n node m → count ≡ columns (schema s) node
    → outcome a out' ≡ written s out m (write s m) (leb (length (write s m)) (length out))

-- s stands for some plan, which has so many columns.
pub record Counted (s : List ℕ) (count : ℕ) : Type 0 where
  pub node : Node
  pub is : plan s ≡ done node
  pub wide : count ≡ columns (schema s) node

-- What is handed out: where the plan that a run leaves ends, or a refusal, whatever its number and place.
abbrev pub Ran : Type 0
Ran = Result ℕ NumberedRefusal

-- The refusal of a pass by its number and place, and what a run has left with its refusal so.
abbrev pub numbered_refusal : Refused → NumberedRefusal
numbered_refusal why = record { number = number_of why; place = place_of why }

abbrev pub numbered : Passed → Ran
numbered (Ok n) = Ok n
numbered (Err why) = Err (numbered_refusal why)

-- The plan of a done answer is the first n words of x, and is fit; or the refusal's number and place are given back.
abbrev pub Left : (Node → Type 0) → List ℕ → Answer Node → Ran → Type 0
Left Fit x (done m) (Ok n) = (n ≤ length x) × ((take n x ≡ node_words m) × Fit m)
Left Fit x (done m) (Err why) = ⊥
Left Fit x (refused number place) (Ok n) = ⊥
Left Fit x (refused number place) (Err why) = (why.number ≡ number) × (why.place ≡ place)

pub record Leaves (Fit : Node → Type 0) (x : List ℕ) (answer : Answer Node) (r : Ran) : Type 0 where
  pub is : Left Fit x answer r

-- s stands for some plan, and a run on it has left an answer in x and r.
pub record AnsweredAt (s x : List ℕ) (r : Ran) : Type 0 where
  pub node : Node
  pub is : plan s ≡ done node
  pub answer : Answer Node
  pub leaves : Leaves (Fit s node) x answer r
  pub origins_are : (m : Node) → answer ≡ done m → OriginsBelow (origins s) m
  pub short : length x ≤ most_words

abbrev pub HandsOut : (s x : List ℕ) → Ran → (count : ℕ) (out : List ℕ) → Code.Answer → List ℕ → Type 0
HandsOut s x r count out a out' =
    (node : Node) (answer : Answer Node) → plan s ≡ done node → Leaves (Fit s node) x answer r → count ≡ columns (schema s) node
    → outcome a out' ≡ hand_out s out answer
