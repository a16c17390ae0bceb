-- Small sheets carried to the other edition, and each refusal, worked out. A cell is written as document 01 lists it, its origin first: origin, tag, flag, a, b, c.
use Rattle.std.specs.Prelude.{ℕ, ◌≡◌, refl, List, [], ◌∷◌, ◌++◌, map, replicate}
use Rattle.sheet.specs.Bytes.{bytes, word, half}
use Rattle.sheet.specs.Parts.{length_ok, edition_ok, parts_ok, bad_record}
use Rattle.sheet.specs.Cell.{cell, cell_ok, bad_cell}
use Rattle.sheet.specs.Tree.{read}
use Rattle.sheet.specs.Check.{check}
use Rattle.sheet.specs.Write.{cells_bytes}
use Rattle.sheet.specs.Operations.{Outcome, refuse}
use Rattle.sheet_laws.specs.Content.{laid}
use Rattle.editions.specs.Editions.{in_edition}
use Rattle.convert.specs.Convert.{convert}

-- Values(Row(1)) in an edition, with these origins and no text or tables: 68 bytes
abbrev one_row : (e x y z : ℕ) → List ℕ
one_row e x y z =
    cells_bytes (laid x 3 0 1 0 0 ∷ laid y 45 0 1 0 0 ∷ laid z 63 0 1 0 0 ∷ [])
    ++ (bytes 0 ++ (bytes 0 ++ (bytes 0 ++ (bytes e ++ bytes 68))))

-- an output of 70 bytes, one of 68, the sheet's length, and one of 67
abbrev large : List ℕ
large = replicate 70 255

abbrev exact : List ℕ
exact = replicate 68 255

abbrev short : List ℕ
short = replicate 67 255

-- The answer to a sheet of 3 cells and a column that is carried over.
abbrev carried_as : List ℕ → Outcome
carried_as out = record { numbers = record { number = 0; place = 0; length = 68; cells = 3; columns = 1 }; output = out }

-- a sheet, a target, an output, and what comes of them
abbrev pub Example : Type 0
Example = List ℕ × (ℕ × (List ℕ × Outcome))

pub examples : List Example
examples =
    -- Upward, origins are the cell numbers. The two bytes behind the sheet stay.
    (one_row 1 0 0 0, (2, (large, carried_as (one_row 2 0 1 2 ++ (255 ∷ 255 ∷ [])))))
    -- Downward, they become zero, whatever they were.
    ∷ (one_row 2 0 1 2, (1, (large, carried_as (one_row 1 0 0 0 ++ (255 ∷ 255 ∷ [])))))
    ∷ (one_row 2 65535 256 7, (1, (exact, carried_as (one_row 1 0 0 0))))
    -- 21: neither edition, or the sheet's own
    ∷ (one_row 1 0 0 0, (0, (large, refuse large 21 0)))
    ∷ (one_row 1 0 0 0, (1, (large, refuse large 21 0)))
    ∷ (one_row 1 0 0 0, (3, (large, refuse large 21 0)))
    ∷ (one_row 1 0 0 0, (257, (large, refuse large 21 0)))
    ∷ (one_row 2 5 5 5, (2, (large, refuse large 21 0)))
    -- 21 comes before 15, and what check refuses before 21
    ∷ (one_row 1 0 0 0, (1, (short, refuse short 21 0)))
    ∷ (one_row 3 0 0 0, (3, (large, refuse large 3 0)))
    ∷ (one_row 1 0 1 2, (1, (large, refuse large 6 1)))
    -- 15: an output of one byte less than the sheet has, and one without a byte
    ∷ (one_row 1 0 0 0, (2, (short, refuse short 15 68)))
    ∷ (one_row 2 0 1 2, (1, ([], refuse [] 15 68)))
    -- no sheet at all
    ∷ ([], (2, (large, refuse large 2 0)))
    ∷ []

pub examples_converted : map (λ (e : Example). convert e.0 e.1.0 e.1.1.0) examples ≡ map (λ (e : Example). e.1.1.1) examples
unfolding examples convert check in_edition word half bytes cells_bytes length_ok edition_ok parts_ok bad_record bad_cell cell_ok cell read
examples_converted = refl
