-- What folding a plan does.
use Rattle.std.specs.Prelude.{ℕ, ◌≤◌, ◌<◌, ◌≡◌, List, length, take, Ok, Err}
use Rattle.sql.specs.Schema.{Schema}
use Rattle.sql.specs.Plan.{Node}
use Rattle.sql.specs.Answer.{Answer, done, refused}
use Rattle.sql.specs.Optimizer.{ConstantFolding}
use Rattle.words.specs.Words.{node_words}
use Rattle.words.specs.Place.{NodeHere}
use Rattle.kept.specs.Kept.{Kept}
use Rattle.fold_operator.specs.Left.{Folded, number_of}

-- Some sound plan is the first t words of x. A text has at most 8,192 bytes; less than 65,536 is what text references need.
pub record PlanAt (text x : List ℕ) (t : ℕ) : Type 0 where
  pub schema : Schema
  pub tables : ℕ
  pub p : Node
  pub here : NodeHere x 0 t p
  pub kept : Kept schema text tables p p
  pub short : length text < 65536

-- q is the first n words of y, no more than t, and can take the place of p.
pub record PlanDone (schema : Schema) (text : List ℕ) (tables : ℕ) (p q : Node) (t n : ℕ) (y : List ℕ) : Type 0 where
  pub within : n ≤ t
  pub inside : n ≤ length y
  pub words : take n y ≡ node_words q
  pub kept : Kept schema text tables p q

module _ (schema : Schema) (text : List ℕ) (tables : ℕ) (p : Node) (t : ℕ) where
  abbrev pub Left : Answer Node → Folded → List ℕ → Type 0
  Left (done q) (Ok n) y = PlanDone schema text tables p q t n y
  Left (done q) (Err why) y = ⊥
  Left (refused number place) (Ok n) y = ⊥
  Left (refused number place) (Err why) y = (number_of why ≡ number) × (why.place ≡ place)

-- That is what ConstantFolding of the plan leaves in y, and answers.
pub record PlanFolded (schema : Schema) (text : List ℕ) (tables : ℕ) (p : Node) (t : ℕ) (r : Folded) (y : List ℕ) : Type 0 where
  pub left : Left schema text tables p t (ConstantFolding 0 p) r y

abbrev pub FoldsPlan : List ℕ → List ℕ → ℕ → Folded → List ℕ → Type 0
FoldsPlan text x t r y =
    (schema : Schema) (tables : ℕ) (p : Node) → NodeHere x 0 t p → Kept schema text tables p p → PlanFolded schema text tables p t r y
