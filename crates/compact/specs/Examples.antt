-- Small sheets compacted, worked out. Text is written in ASCII's numbers.
use Rattle.std.specs.Prelude.{ℕ, ◌+◌, ◌*◌, ◌≡◌, refl, List, [], ◌∷◌, ◌++◌, length, replicate}
use Rattle.sheet.specs.Bytes.{bytes, word, half}
use Rattle.sheet.specs.Parts.{length_ok, edition_ok, parts_ok, table_ok, column_ok, bad_record}
use Rattle.sheet.specs.Cell.{Cell, cell, cell_ok, bad_cell}
use Rattle.sheet.specs.Tree.{read}
use Rattle.sheet.specs.Write.{cells_bytes}
use Rattle.sheet.specs.Operations.{Outcome, refuse}
use Rattle.sheet_laws.specs.Content.{laid}
use Rattle.compact.specs.Strings.{kept, joined, offset_in, reference_to}
use Rattle.compact.specs.Compact.{trailer_with, compact}

-- ---- strings: ab, c, the empty one, ab again, abc

abbrev some_strings : List (List ℕ)
some_strings = (97 ∷ 98 ∷ []) ∷ (99 ∷ []) ∷ [] ∷ (97 ∷ 98 ∷ []) ∷ (97 ∷ 98 ∷ 99 ∷ []) ∷ []

some_kept : kept some_strings ≡ (97 ∷ 98 ∷ []) ∷ (99 ∷ []) ∷ (97 ∷ 98 ∷ 99 ∷ []) ∷ []
some_kept = refl

some_text : joined (kept some_strings) ≡ 97 ∷ 98 ∷ 99 ∷ 97 ∷ 98 ∷ 99 ∷ []
some_text = refl

third_at_3 : reference_to (kept some_strings) (97 ∷ 98 ∷ 99 ∷ []) ≡ 3 + 65536 * 3
third_at_3 = refl

-- ---- a sheet

-- the reference to n bytes at an offset
abbrev to : (offset n : ℕ) → ℕ
to o n = o + 65536 * n

-- A sheet of edition 2 with a text, one table of one column, by the references to their names, and cells.
abbrev sheet : (text : List ℕ) (table column : ℕ) → List Cell → List ℕ
sheet t table column ks =
    t ++ (bytes table ++ (bytes 0 ++ (bytes 1 ++ (bytes 0 ++ (bytes column ++ (bytes 1 ++ (bytes 0 ++ (bytes 0
    ++ (cells_bytes ks ++ trailer_with (length t) 1 1 (length ks) 2)))))))))

-- Table ab with column c. Nothing of two labels: the first unqualified ab; the second abc, qualified by an empty string that stands at the text's end.
-- Nobody refers to the z in front.
given : List ℕ
given = sheet (122 ∷ 97 ∷ 98 ∷ 99 ∷ 97 ∷ 98 ∷ []) (to 1 2) (to 3 1) (laid 7 40 1 (to 4 2) 0 0 ∷ laid 8 40 2 (to 6 0) (to 1 3) 0 ∷ laid 9 57 0 2 0 0 ∷ [])

-- The second ab is the first's, and abc has its own three bytes; the empty string refers to offset 0.
result : List ℕ
result = sheet (97 ∷ 98 ∷ 99 ∷ 97 ∷ 98 ∷ 99 ∷ []) (to 0 2) (to 2 1) (laid 7 40 1 (to 0 2) 0 0 ∷ laid 8 40 2 0 (to 3 3) 0 ∷ laid 9 57 0 2 0 0 ∷ [])

given_compacted : compact given (replicate 108 255)
    ≡ record { numbers = record { number = 0; place = 0; length = 106; cells = 3; columns = 2 }; output = result ++ (255 ∷ 255 ∷ []) }
unfolding given result compact cells_bytes bytes word half length_ok edition_ok parts_ok table_ok column_ok bad_record bad_cell cell_ok cell read
given_compacted = refl

-- once more: the same bytes
result_compacted : compact result (replicate 108 255)
    ≡ record { numbers = record { number = 0; place = 0; length = 106; cells = 3; columns = 2 }; output = result ++ (255 ∷ 255 ∷ []) }
unfolding result compact cells_bytes bytes word half length_ok edition_ok parts_ok table_ok column_ok bad_record bad_cell cell_ok cell read
result_compacted = refl

-- one byte too few in the output
no_room : compact given (replicate 105 255) ≡ refuse (replicate 105 255) 15 106
unfolding given compact cells_bytes bytes word half length_ok edition_ok parts_ok table_ok column_ok bad_record bad_cell cell_ok cell read
no_room = refl

-- ---- a longer text: two strings that overlap don't in the result

-- Table aa with column aaa, both in a text of three bytes. Scan of the table, with the alias a.
overlapping : List ℕ
overlapping = sheet (97 ∷ 97 ∷ 97 ∷ []) (to 1 2) (to 0 3) (laid 0 62 2 0 (to 2 1) 0 ∷ [])

apart : List ℕ
apart = sheet (97 ∷ 97 ∷ 97 ∷ 97 ∷ 97 ∷ 97 ∷ []) (to 0 2) (to 2 3) (laid 0 62 2 0 (to 5 1) 0 ∷ [])

overlapping_compacted : compact overlapping (replicate 74 255)
    ≡ record { numbers = record { number = 0; place = 0; length = 74; cells = 1; columns = 1 }; output = apart }
unfolding overlapping apart compact cells_bytes bytes word half length_ok edition_ok parts_ok table_ok column_ok bad_record bad_cell cell_ok cell read
overlapping_compacted = refl

-- a refusal of check
too_short : compact (1 ∷ 2 ∷ []) (7 ∷ []) ≡ refuse (7 ∷ []) 2 0
unfolding compact length_ok word
too_short = refl

-- ---- 8,192 bytes are kept, and no more

-- Table and column with names of so many a's, in one text of 4,097. A plan without rows.
abbrev long_names : (table column : ℕ) → List ℕ
long_names m n = sheet (replicate 4097 97) (to 0 m) (to 0 n) (laid 0 57 0 0 0 0 ∷ [])

-- 14 comes before 15
too_long : compact (long_names 4097 4096) [] ≡ refuse [] 14 0
unfolding compact cells_bytes bytes word half length_ok edition_ok parts_ok table_ok column_ok bad_record bad_cell cell_ok cell read
too_long = refl

just_enough : compact (long_names 4097 4095) [] ≡ refuse [] 15 8260
unfolding compact cells_bytes bytes word half length_ok edition_ok parts_ok table_ok column_ok bad_record bad_cell cell_ok cell read
just_enough = refl
