-- Subtrees that stand one after the other, as the parts of a node do.
use Rattle.std.specs.Prelude.{ℕ, zero, suc, ◌<◌, ◌≡◌, List, [], ◌++◌, length}
use Rattle.cells.specs.declared.Cell.{Cell}
use Rattle.cells.specs.Cells.{sized, start_at, Part}
use Rattle.sheet.specs.Tags

-- w is the words of n trees, one after the other.
pub data Trees : ℕ → List ℕ → Type 0 where
  none : Trees zero []
  one_more : {n : ℕ} {w : List ℕ} → Trees n w → (children : List ℕ) (k : Cell) → Trees (suc n) (w ++ sized children k)

-- Some n trees stand in s, the last of which ends before word hi.
pub record TreesAt (s : List ℕ) (n hi : ℕ) : Type 0 where
  pub lo : ℕ
  pub w : List ℕ
  pub trees : Trees n w
  pub part : Part s lo hi w

-- The same of trees of which each whose tag is below 10 is one cell: a constant or a column. So are the parts of every node.
pub data Parts : ℕ → List ℕ → Type 0 where
  no_part : Parts zero []
  one_part_more : {n : ℕ} {w : List ℕ} → Parts n w → (children : List ℕ) (k : Cell) → (k.tag < Tags.binary → length children ≡ 0)
      → Parts (suc n) (w ++ sized children k)

pub record PartsAt (s : List ℕ) (n hi : ℕ) : Type 0 where
  pub lo : ℕ
  pub w : List ℕ
  pub parts : Parts n w
  pub part : Part s lo hi w

-- where the last n trees start that end before word hi
unfoldable pub trees_start : List ℕ → ℕ → ℕ → ℕ
trees_start s zero hi = hi
trees_start s (suc n) hi = trees_start s n (start_at s hi)
