-- The sheet that a plan is written as: text and records copied from the sheet handed in, then the plan's cells and a trailer.
use Rattle.std.specs.Prelude.{ℕ, ◌+◌, ◌*◌, ◌/◌, ◌%◌, List, [], ◌∷◌, ◌++◌, length, take}
use Rattle.sql.specs.Plan.{Node}
use Rattle.sheet.specs.Bytes.{bytes}
use Rattle.sheet.specs.Parts.{edition, tables_at, columns_at, cells_at}
use Rattle.sheet.specs.Cell.{Cell}
use Rattle.sheet.specs.Cells.{cells}

-- the 16 bytes of a cell
unfoldable pub cell_bytes : Cell → List ℕ
unfolding bytes
cell_bytes k = k.tag ∷ k.flag ∷ k.origin % 256 ∷ k.origin / 256 ∷ (bytes k.a ++ (bytes k.b ++ bytes k.c))

unfoldable pub cells_bytes : List Cell → List ℕ
unfolding cell_bytes
cells_bytes [] = []
cells_bytes (k ∷ ks) = cell_bytes k ++ cells_bytes ks

unfoldable pub trailer : List ℕ → ℕ → List ℕ
unfolding bytes
trailer s total = bytes (tables_at s) ++ (bytes (columns_at s) ++ (bytes (cells_at s) ++ (bytes (edition s) ++ bytes total)))

-- the sheet with the text and the records of s and these cells
unfoldable pub sheet_with : List ℕ → List Cell → List ℕ
unfolding cells_bytes trailer
sheet_with s ks = take (cells_at s) s ++ (cells_bytes ks ++ trailer s (cells_at s + 16 * length ks + 20))

unfoldable pub write : List ℕ → Node → List ℕ
unfolding cells sheet_with
write s node = sheet_with s (cells node)
