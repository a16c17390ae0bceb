-- What `encode` is given and what it writes.
use Rattle.std.specs.Prelude.{ℕ, ◌+◌, ◌*◌, ◌≤◌, ◌<◌, ◌≡◌, List, [], ◌∷◌, ◌++◌, length, take, drop}
use Rattle.sql.specs.Plan.{Node}
use Rattle.sheet.specs.Bytes.{bytes}
use Rattle.sheet.specs.Parts.{table_count}
use Rattle.sheet.specs.Cell as Sheet
use Rattle.sheet.specs.Check.{text}
use Rattle.sheet.specs.Write.{write}
use Rattle.sheet_laws.specs.Fits.{All, Fits, OriginsBelow}
use Rattle.layout.specs.Layout.{Whole}
use Rattle.cells.specs.declared.Cell.{Cell}
use Rattle.words.specs.Words.{node_words}
use Rattle.words.specs.Place.{NodeHere}
use Rattle.cells.specs.Cells.{cell_words}

-- d with w from byte `at` on
abbrev pub written : (d : List ℕ) (at : ℕ) (w : List ℕ) → List ℕ
written d at w = take at d ++ (w ++ drop (at + length w) d)

-- a cell of the working form as one of a sheet
abbrev pub as_cell : Cell → Sheet.Cell
as_cell k = record { tag = k.tag; flag = k.flag; origin = k.origin; a = k.a; b = k.b; c = k.c }

-- The cells that words say, seven words a cell: the last, its size, is not in a sheet.
unfoldable pub cells_in : List ℕ → List Sheet.Cell
cells_in (o ∷ t ∷ f ∷ a ∷ b ∷ c ∷ n ∷ w) = record { tag = t; flag = f; origin = o; a = a; b = b; c = c } ∷ cells_in w
cells_in [] = []
cells_in (o ∷ []) = []
cells_in (o ∷ t ∷ []) = []
cells_in (o ∷ t ∷ f ∷ []) = []
cells_in (o ∷ t ∷ f ∷ a ∷ []) = []
cells_in (o ∷ t ∷ f ∷ a ∷ b ∷ []) = []
cells_in (o ∷ t ∷ f ∷ a ∷ b ∷ c ∷ []) = []

-- a cell whose tag and flag are bytes, and whose origin is a number of 2 bytes
pub record Small (k : Sheet.Cell) : Type 0 where
  pub tag : k.tag < 256
  pub flag : k.flag < 256
  pub origin : k.origin < 65536

-- The first n words of x are cells that can stand in a sheet, and d has room for them from byte `at` on.
pub record CellsAt (x : List ℕ) (n : ℕ) (d : List ℕ) (at : ℕ) : Type 0 where
  pub inside : n ≤ length x
  pub whole : n ≡ cell_words * length (cells_in (take n x))
  pub small : All Small (cells_in (take n x))
  pub room : at + 16 * length (cells_in (take n x)) ≤ length d

-- the trailer of a sheet of this edition and so many bytes, whose parts start at these
abbrev pub trailer_at : (tables columns cells edition total : ℕ) → List ℕ
trailer_at tables columns cells edition total = bytes tables ++ (bytes columns ++ (bytes cells ++ (bytes edition ++ bytes total)))

-- ---- contracts

-- Some plan has n words.
pub record PlanLong (n : ℕ) : Type 0 where
  pub node : Node
  pub long : length (node_words node) ≡ n

-- r is the number of bytes of the sheet that any plan of n words is written as.
abbrev pub Lengths : (s : List ℕ) (n r : ℕ) → Type 0
Lengths s n r = (m : Node) → length (node_words m) ≡ n → r ≡ length (write s m)

-- Some plan that can stand in a sheet like s is what the first n words of x say, and d is long enough for that sheet.
pub record Encodable (s x : List ℕ) (n : ℕ) (d : List ℕ) : Type 0 where
  pub whole : Whole s
  pub node : Node
  pub here : NodeHere x 0 n node
  pub fits : Fits (text s) (table_count s) node
  pub origins_are : OriginsBelow (Sheet.origins s) node
  pub room : length (write s node) ≤ length d

-- The first r bytes of d' are the sheet that the plan is written as, and those after it are as in d.
abbrev pub Encodes : (s x : List ℕ) (n : ℕ) (d : List ℕ) (r : ℕ) → List ℕ → Type 0
Encodes s x n d r d' = (m : Node) → NodeHere x 0 n m → (r ≡ length (write s m)) × (d' ≡ write s m ++ drop (length (write s m)) d)
