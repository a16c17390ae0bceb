-- One pass, and the five in turn, on plans in their working form: what is asked for, and what is left.
use Rattle.std.specs.Prelude.{ℕ, ◌*◌, ◌≤◌, ◌<◌, ◌≡◌, List, length, take, Result, Ok, Err}
use Rattle.sql.specs.Schema.{Schema}
use Rattle.sql.specs.Plan.{Node}
use Rattle.sql.specs.Answer.{Answer, done, refused}
use Rattle.words.specs.Words.{node_words}
use Rattle.sound.specs.Sound.{Named}
use Rattle.cells.specs.Room.{most_words}
use Rattle.records.specs.Records.{Records}
use Rattle.kept.specs.Kept.{Kept}
use Rattle.fold_operator.specs.Left as Folding
use Rattle.passes.specs.declared.Refused.{Refused}
use Rattle.passes.specs.declared.Refused.TheVariants.{NoRoom, Failed}
use Rattle.cells.specs.Cells.{cell_words}

-- What the code is lent of a schema: its records. Its names lie in the text.
pub record Lent (tables columns : List ℕ) (schema : Schema) (text : List ℕ) : Type 0 where
  pub records : Records tables columns schema
  pub named : Named schema (length text)

-- The sound plan p is the first t words of x, which has room for `room` cells.
pub record PlanIn (schema : Schema) (text : List ℕ) (tables : ℕ) (x : List ℕ) (t room : ℕ) (p : Node) : Type 0 where
  pub fit : Kept schema text tables p p
  pub words_are : take t x ≡ node_words p
  pub inside : t ≤ length x
  pub all : length x ≡ cell_words * room

-- Some such plan of a schema that is lent: `Given schema text` says what of the schema and the text. Columns and words can be counted without overflow.
pub record PlanAt (Given : Schema → List ℕ → Type 0) (x : List ℕ) (t : ℕ) : Type 0 where
  pub schema : Schema
  pub text : List ℕ
  pub tables : ℕ
  pub room : ℕ
  pub p : Node
  pub given : Given schema text
  pub plan : PlanIn schema text tables x t room p
  pub short : length x ≤ most_words

-- The slices that a pass works in have the same length.
pub record Alike (x y z w : List ℕ) : Type 0 where
  pub second : length y ≡ length x
  pub third : length z ≡ length x
  pub fourth : length w ≡ length x

-- What a pass gives: where the plan that it leaves ends, or why it refuses.
abbrev pub Passed : Type 0
Passed = Result ℕ Refused

-- The number of the refusal, and its place.
abbrev pub number_of : Refused → ℕ
number_of NoRoom = 14
number_of (Failed why) = Folding.number_of why

abbrev pub place_of : Refused → ℕ
place_of NoRoom = 0
place_of (Failed why) = why.place

-- The plan of a done answer is the first n words of d, and is fit; or the refusal's number and place are given back.
abbrev pub Left : (Node → Type 0) → List ℕ → Answer Node → Passed → Type 0
Left Fit d (done q) (Ok n) = (n ≤ length d) × ((take n d ≡ node_words q) × Fit q)
Left Fit d (done q) (Err why) = ⊥
Left Fit d (refused number place) (Ok n) = ⊥
Left Fit d (refused number place) (Err why) = (number_of why ≡ number) × (place_of why ≡ place)

pub record Leaves (Fit : Node → Type 0) (d : List ℕ) (answer : Answer Node) (r : Passed) : Type 0 where
  pub is : Left Fit d answer r

-- f of the plan in x is left in d, or refused. f is a function of the room, the schema and the plan.
abbrev pub Runs : (Schema → List ℕ → Type 0) → (ℕ → Schema → Node → Answer Node) → (x : List ℕ) (t : ℕ) → List ℕ → Passed → Type 0
Runs Given f x t d r =
    (schema : Schema) (text : List ℕ) (tables room : ℕ) (p : Node) → Given schema text → PlanIn schema text tables x t room p
    → Leaves (Kept schema text tables p) d (f room schema p) r

-- r is what stands in the first n words of d, or refusal 14 if n is past its end.
abbrev pub Ends : List ℕ → ℕ → Passed → Type 0
Ends d n (Ok m) = (n ≤ length d) × (m ≡ n)
Ends d n (Err why) = (length d < n) × ((number_of why ≡ 14) × (place_of why ≡ 0))

-- ---- what a pass is lent, where that is not the schema's records alone

-- The text is that of the plan, and short, as text references need.
abbrev pub ForFolding : List ℕ → Schema → List ℕ → Type 0
ForFolding t schema text = (text ≡ t) × (length t < 65536)

abbrev pub ForAll : (t tables columns : List ℕ) → Schema → List ℕ → Type 0
ForAll t tables columns schema text = ForFolding t schema text × Lent tables columns schema text
