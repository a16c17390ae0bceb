-- Document 02, W-212: the operation that drops text nobody refers to, as a total function of the bytes handed in and of the output buffer.
use Rattle.std.specs.Prelude.{ℕ, ◌+◌, ◌*◌, Bool, true, false, cond, List, [], ◌∷◌, ◌++◌, map, leb, length}
use Rattle.value.specs.Meaning.{bytes_at}
use Rattle.sql.specs.Answer.{Answer, done, refused}
use Rattle.sql.specs.Plan.{Node}
use Rattle.sheet.specs.Bytes.{bytes}
use Rattle.sheet.specs.Parts.{table_count, column_count, cell_count, edition}
use Rattle.sheet.specs.Check.{text, plan}
use Rattle.sheet.specs.Operations.{Outcome, refuse, written}
use Rattle.compact.specs.Strings.{kept, joined, reference_to}
use Rattle.compact.specs.Slots.{slots, references, redirect, slot_bytes}

-- the strings that records and cells refer to, in order of reference
unfoldable pub strings : List ℕ → List (List ℕ)
unfolding slots
strings s = map (bytes_at (text s)) (references (slots s))

-- each different one once
unfoldable pub kept_strings : List ℕ → List (List ℕ)
unfolding strings
kept_strings s = kept (strings s)

-- the new text
unfoldable pub kept_text : List ℕ → List ℕ
unfolding kept_strings
kept_text s = joined (kept_strings s)

-- what a reference becomes
unfoldable pub moved : List ℕ → ℕ → ℕ
unfolding kept_strings
moved s r = reference_to (kept_strings s) (bytes_at (text s) r)

-- the trailer of a sheet with so many bytes of text, and so many tables, columns and cells
unfoldable pub trailer_with : (text tables columns cells edition : ℕ) → List ℕ
unfolding bytes
trailer_with t tables columns cells e =
    bytes t ++ (bytes (t + tables * 16) ++ (bytes (t + tables * 16 + columns * 16) ++ (bytes e ++ bytes (t + tables * 16 + columns * 16 + cells * 16 + 20))))

-- The new sheet: the text that is kept, records and cells with their references moved, and a trailer. All else stays as it was.
unfoldable pub compacted : List ℕ → List ℕ
unfolding kept_text moved slots slot_bytes trailer_with
compacted s =
    kept_text s
    ++ (slot_bytes (map (redirect (moved s)) (slots s)) ++ trailer_with (length (kept_text s)) (table_count s) (column_count s) (cell_count s) (edition s))

-- Refusal 14 if the text kept has over 8,192 bytes, and then 15 if the output is too short, with the bytes needed.
abbrev pub handed_out : (s out : List ℕ) → Answer Node → Outcome
unfolding kept_text compacted
handed_out s out (refused number place) = refuse out number place
handed_out s out (done node) =
    cond (leb (length (kept_text s)) 8192) (written s out node (compacted s) (leb (length (compacted s)) (length out))) (refuse out 14 0)

-- The operation. Refusals 2 to 10 are those of check.
unfoldable pub compact : (s out : List ℕ) → Outcome
unfolding plan kept_text compacted
compact s out = handed_out s out (plan s)
