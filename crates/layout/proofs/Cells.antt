-- Laws on what a cell's layout allows.
use Prim.Native.Nat.{ℕ, zero, suc, ◌+◌, ◌*◌, ◌%◌, ◌≤◌, ◌<◌}
use native.Mathlib.Omega.{arith}
use mathlib.Core.Path.{◌≡◌, refl, sym, ap, ◌∙◌}
use mathlib.Core.Bool.{Bool}
use mathlib.Core.List.{List, [], ◌∷◌, map}
use mathlib.Core.Option.{Option}
use lib.Dec.{ltb}
use lib.Ieee as Ieee
use lib.Ieee.Bits.{nan_bits_above}
use lib.ListN.{length, get_or}
use Rattle.sql.specs.Plan.{up_to}
use Rattle.sql.specs.Ranges.{same_in}
use Rattle.sheet.specs.Parts.{first_failing, table_count, tables_at}
use Rattle.sheet.specs.Cell.{Field, Tag, table, text, unknown, not_carried, carried, tags, tag_of, field_ok, fields_ok, wide, float_ok, cell_ok, bad_cell, bad_number, origins}
use Rattle.sheet.specs.Cell as Sheet
use Rattle.layout.specs.declared.Cell.{Cell}
use Rattle.layout.specs.declared.Parts.{Parts}
use Rattle.layout.specs.Layout.{Laid, IsCell, as_cell}
use Rattle.layout.proofs.Laws.{text_is, tables_are, cells_are, cell_there}

-- ---- rows

-- What the definition says of each tag in a range.
pub row_in : (x : Tag) (from n : ℕ) → map tag_of (up_to from n) ≡ map (λ t. x) (up_to from n) → (t : ℕ) → from ≤ t → t < from + n → x ≡ tag_of t
row_in x from n e t h j = sym (same_in tag_of (λ t. x) from n e t h j)

-- of one tag
pub row_as : (x : Tag) (n : ℕ) → x ≡ tag_of n → (t : ℕ) → t ≡ n → x ≡ tag_of t
row_as x n e t h = e ∙ ap tag_of (sym h)

past : (l : List Tag) (t : ℕ) → length l ≤ t → unknown ≡ get_or l t unknown
past [] t h = refl
past (x ∷ l) zero h = absurd (omega arith)
past (x ∷ l) (suc t) h = past l t (omega arith)

pub row_past : (t : ℕ) → 64 ≤ t → unknown ≡ tag_of t
unfolding tag_of
row_past t h = past tags t h

-- ---- Floats

-- With the sign's bit taken off, a NaN is above the infinity.
pub nan_above : (a b : ℕ) → Ieee.nan_bits Ieee.binary64 (wide a b) ≡ ltb 9218868437227405312 ((a + 4294967296 * b) % 9223372036854775808)
nan_above a b = nan_bits_above Ieee.binary64 (wide a b)

-- ---- the walk

-- The test of cell i, as `bad_cell` has it.
abbrev pub cell_test : List ℕ → ℕ → Bool
cell_test s i = cell_ok (origins s) (tables_at s) (table_count s) (Sheet.cell s i)

module _ {s : List ℕ} {p : Parts} (g : Laid s p) where
  pub tested : {k : Cell} (i : ℕ) {few : ℕ} {r b : Bool} → few ≡ origins s → IsCell (Sheet.cell_from s (p.cells.at + i * 16)) k
      → r ≡ cell_ok few p.tables.at p.tables.count (as_cell k)
      → r ≡ b
      → cell_test s i ≡ b
  tested {k} i {few} {r} {b} o h e f = let q = (cell_there i g h).is in let m : r ≡ cell_test s i = cc (text_is g, tables_are g) in sym m ∙ f

  pub cells_walked : {o : Option ℕ} → o ≡ first_failing (cell_test s) 0 p.cells.count → o ≡ bad_cell s
  unfolding bad_cell
  cells_walked e = e ∙ ap (first_failing (cell_test s) 0) (cells_are g)
