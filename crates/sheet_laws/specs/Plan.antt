-- A sheet as a list of bytes, and the plan that it stands for.
use Rattle.std.specs.Prelude.{ℕ, ◌<◌, ◌≡◌, List}
use Rattle.sql.specs.Plan.{Node}
use Rattle.sheet.specs.Bytes.{byte}
use Rattle.sheet.specs.Parts.{table_count}
use Rattle.sheet.specs.Cells.{cells}
use Rattle.sheet.specs.Check.{text, cells_of}
use Rattle.sheet_laws.specs.Fits.{Exact}

-- A list of bytes, as a slice of them is.
abbrev pub Bytes : List ℕ → Type 0
Bytes s = (i : ℕ) → byte s i < 256

-- A sheet stands for a plan: its cells are that plan's, the sheet can hold it, and it can hold no other with those cells.
pub record StandsFor (s : List ℕ) (n : Node) : Type 0 where
  pub cells_are : cells_of s ≡ cells n
  pub holds : Exact (text s) (table_count s) n
  pub only : (m : Node) → Exact (text s) (table_count s) m → cells m ≡ cells_of s → m ≡ n
