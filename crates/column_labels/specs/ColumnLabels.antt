-- The contract of a function that writes the labels of all columns of a node.
use Rattle.std.specs.Prelude.{ℕ, List, map}
use Rattle.sql.specs.Schema.{Schema}
use Rattle.sql.specs.Expression.{Marked}
use Rattle.sql.specs.Plan.{Label, Node, column_labels}
use Rattle.cells.specs.Cells.{Part}
use Rattle.cells.specs.Room.{Wrote}
use Rattle.words.specs.Words.{all_words, label_words}
use Rattle.words.specs.Place.{NodeHere}
use Rattle.records.specs.Records.{Records}

-- labels with an origin
abbrev pub marked : ℕ → List Label → List (Marked Label)
marked new ls = map (λ (l : Label). (l, new)) ls

-- labels without their origins
abbrev pub bare : List (Marked Label) → List Label
bare ls = map (λ (l : Marked Label). l.0) ls

-- Labels stand from lo up to hi.
pub record LabelsUp (s : List ℕ) (lo hi : ℕ) : Type 0 where
  pub labels : List (Marked Label)
  pub part : Part s lo hi (all_words label_words labels)

-- The labels from lo up to hi, all with the origin `new`, are appended to the first `at` words of d, or have no room.
abbrev pub Marks : (new : ℕ) (s : List ℕ) (lo hi : ℕ) (d : List ℕ) (at n : ℕ) → List ℕ → Type 0
Marks new s lo hi d at n d' =
    (ls : List (Marked Label)) → Part s lo hi (all_words label_words ls) → Wrote d at (all_words label_words (marked new (bare ls))) n d'

-- The labels of the node from lo up to hi, all with the origin `new`, are appended to the first `at` words of d, or have no room.
abbrev pub WritesLabels : (new : ℕ) (records columns s : List ℕ) (lo hi : ℕ) (d : List ℕ) (at n : ℕ) → List ℕ → Type 0
WritesLabels new records columns s lo hi d at n d' =
    (schema : Schema) (p : Node) → Records records columns schema → NodeHere s lo hi p
    → Wrote d at (all_words label_words (marked new (column_labels schema p))) n d'
