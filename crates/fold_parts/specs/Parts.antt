-- The parts of a node that ConstantFolding visits, as trees of one kind, and what folding them does.
use Rattle.std.specs.Prelude.{ℕ, ◌+◌, ◌-◌, ◌*◌, ◌≤◌, ◌<◌, ◌≡◌, List, length}
use Rattle.sql.specs.Expression.{Expression, size}
use Rattle.sql.specs.Plan.{row_size}
use Rattle.sql.specs.Answer.{Answer, done, ◌>>=◌}
use Rattle.sql.specs.Optimizer.{fold_expression, fold_each}
use Rattle.sheet.specs.Content.{Content, cell_of}
use Rattle.sheet_laws.specs.Fits.{All}
use Rattle.cells.specs.Cells.{cell_words, sized, Part}
use Rattle.words.specs.Words.{cell, all_words, expression_words}
use Rattle.fold_operator.specs.Left.{Folded, ConstantsFit}
use Rattle.fold_parts.specs.Leaves.{Leaves, UpTo}
use Rattle.sheet.specs.Tags

-- an expression alone, or expressions under a cell with an origin: that of an Item, a Key or a Row
pub data OwnPart : Type 0 where
  alone : Expression → OwnPart
  under : (og : ℕ) (es : List Expression) (k : Content) → OwnPart

abbrev pub part_words : OwnPart → List ℕ
part_words (alone e) = expression_words e
part_words (under og es k) = sized (all_words expression_words es) (cell og k)

abbrev pub part_size : OwnPart → ℕ
part_size (alone e) = size e
part_size (under og es k) = row_size (es, og)

abbrev pub fold_own_part : ℕ → OwnPart → Answer OwnPart
fold_own_part first (alone e) = do
  x ← fold_expression first e
  done (alone x)
fold_own_part first (under og es k) = do
  xs ← fold_each fold_expression size first es
  done (under og xs k)

abbrev pub fold_own_parts : ℕ → List OwnPart → Answer (List OwnPart)
fold_own_parts first ps = fold_each fold_own_part part_size first ps

-- The constants fit, and the tag of a cell over expressions is not one of an expression.
abbrev pub PartFits : List ℕ → OwnPart → Type 0
PartFits text (alone e) = ConstantsFit text e
PartFits text (under og es k) = All (ConstantsFit text) es × (Tags.parts ≤ (cell_of k).tag)

-- ---- contracts

-- r is the number of the cell that starts at this word.
abbrev pub Numbers : ℕ → ℕ → Type 0
Numbers at r = (n : ℕ) → at ≡ cell_words * n → r ≡ n

-- The parts stand in s from word lo up to hi, and fit.
pub record PartsHere (text s : List ℕ) (lo hi : ℕ) (ps : List OwnPart) : Type 0 where
  pub stand : Part s lo hi (all_words part_words ps)
  pub fit : All (PartFits text) ps

-- Some parts stand there so, from a cell on. A text has at most 8,192 bytes; less than 65,536 is what text references need.
pub record PartsAt (text s : List ℕ) (lo hi : ℕ) : Type 0 where
  pub ps : List OwnPart
  pub here : PartsHere text s lo hi ps
  pub first : ℕ
  pub numbered : lo ≡ cell_words * first
  pub short : length text < 65536

-- The answer of folding them; what is done is not longer than they are.
pub record FoldsParts (text s : List ℕ) (lo hi : ℕ) (d : List ℕ) (at : ℕ) (r : Folded) (d' : List ℕ) : Type 0 where
  pub leaves : (first : ℕ) (ps : List OwnPart) → lo ≡ cell_words * first → PartsHere text s lo hi ps → Leaves (all_words part_words) d at (fold_own_parts first ps) r d'
  pub within : UpTo (at + (hi - lo)) r

-- the same of one part
pub record PartHere (text s : List ℕ) (lo hi : ℕ) (p : OwnPart) : Type 0 where
  pub stand : Part s lo hi (part_words p)
  pub fit : PartFits text p

pub record PartAt (text s : List ℕ) (lo hi : ℕ) : Type 0 where
  pub p : OwnPart
  pub here : PartHere text s lo hi p
  pub first : ℕ
  pub numbered : lo ≡ cell_words * first
  pub short : length text < 65536

pub record FoldsPart (text s : List ℕ) (lo hi : ℕ) (d : List ℕ) (at : ℕ) (r : Folded) (d' : List ℕ) : Type 0 where
  pub leaves : (first : ℕ) (p : OwnPart) → lo ≡ cell_words * first → PartHere text s lo hi p → Leaves part_words d at (fold_own_part first p) r d'
  pub within : UpTo (at + (hi - lo)) r
