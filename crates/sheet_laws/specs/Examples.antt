-- Small sheets and what `check` says of them, by computing. A cell is written as document 01 lists it: tag, flag, a, b, c.
use Rattle.std.specs.Prelude.{ℕ, ◌+◌, ◌*◌, ◌≡◌, refl, List, [], ◌∷◌, ◌++◌, map, length}
use Rattle.sheet.specs.Bytes.{bytes, word, half}
use Rattle.sheet.specs.Parts.{length_ok, edition_ok, parts_ok, table_ok, column_ok, bad_record}
use Rattle.sheet.specs.Cell.{Cell, cell, cell_ok, bad_cell}
use Rattle.sheet.specs.Tree.{read}
use Rattle.sheet.specs.Check.{Numbers, check, refusal}
use Rattle.sheet.specs.Write.{cells_bytes}
use Rattle.sheet_laws.specs.Content.{laid}

-- the sheet of a text, table records, column records and cells
sheet : (text tables columns : List ℕ) → List Cell → List ℕ
sheet text tables columns ks =
    text ++ (tables ++ (columns ++ (cells_bytes ks
    ++ (bytes (length text) ++ (bytes (length text + length tables) ++ (bytes (length text + length tables + length columns)
    ++ (bytes 1 ++ bytes (length text + length tables + length columns + 16 * length ks + 20))))))))

success : (cells columns : ℕ) → Numbers
success cells columns = record { number = 0; place = 0; length = 0; cells = cells; columns = columns }

pub examples : List (List ℕ × Numbers)
examples =
    -- P1 before its passes: Filter(Values(Row(1)), And(true, Not(false)))
    (
      sheet [] [] [] (laid 0 3 0 1 0 0 ∷ laid 0 45 0 1 0 0 ∷ laid 0 63 0 1 0 0 ∷ laid 0 2 0 1 0 0 ∷ laid 0 2 0 0 0 0 ∷ laid 0 30 0 0 0 0 ∷ laid 0 10 0 0 0 0 ∷ laid 0 51 0 0 0 0 ∷ []),
      success 8 1,
    )
    -- a Scan with the filter #0 = 5, of a table `t` with one column `k`
    ∷ (
      sheet (116 ∷ 107 ∷ []) (bytes 65536 ++ (bytes 0 ++ (bytes 1 ++ bytes 0))) (bytes 65537 ++ (1 ∷ 1 ∷ 0 ∷ 0 ∷ (bytes 0 ++ bytes 0)))
          (laid 0 6 0 0 0 0 ∷ laid 0 3 0 5 0 0 ∷ laid 0 12 0 0 0 0 ∷ laid 0 62 1 0 0 0 ∷ []),
      success 4 1,
    )
    -- A Row of two expressions where there is one lacks a child.
    ∷ (sheet [] [] [] (laid 0 3 0 1 0 0 ∷ laid 0 45 0 2 0 0 ∷ laid 0 63 0 1 0 0 ∷ []), refusal 8 1)
    -- A Column in Values is out of scope.
    ∷ (sheet [] [] [] (laid 0 6 0 0 0 0 ∷ laid 0 45 0 1 0 0 ∷ laid 0 63 0 1 0 0 ∷ []), refusal 9 0)
    -- The second of two equal Targets in one Remap is refused.
    ∷ (sheet [] [] [] (laid 0 3 0 1 0 0 ∷ laid 0 3 0 2 0 0 ∷ laid 0 45 0 2 0 0 ∷ laid 0 63 0 1 0 0 ∷ laid 0 43 1 7 0 0 ∷ laid 0 43 1 7 0 0 ∷ laid 0 61 0 2 0 0 ∷ []), refusal 10 5)
    ∷ []

pub examples_checked : map (λ e. check e.0) examples ≡ map (λ e. e.1) examples
unfolding examples sheet success check word half cells_bytes length_ok edition_ok parts_ok bad_record table_ok column_ok bad_cell cell_ok cell read
examples_checked = refl
