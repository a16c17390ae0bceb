-- What stands behind a sheet's text, word by word: table records, column records and cells are four words of 4 bytes each. A word is a reference to text or
-- a number that says something else. This is the one place that says which words are references, and in which order they come.
use Rattle.std.specs.Prelude.{ℕ, zero, suc, ◌+◌, Bool, true, false, cond, List, [], ◌∷◌, ◌++◌, leb}
use Rattle.sheet.specs.Bytes.{byte, word, bytes}
use Rattle.sheet.specs.Parts.{tables_at, columns_at, cells_at, table_count, column_count, cell_count}
use Rattle.sheet.specs.Cell.{Cell, cell_from, Field, unused, any, bit, table, text, small, Tag, unknown, not_carried, carried, tag_of}

pub data Slot : Type 0 where
  number reference : ℕ → Slot

-- A field of a cell is a reference where its layout asks for one: `text k` with a flag of at least k.
abbrev pub field_slot : (flag : ℕ) → Field → ℕ → Slot
field_slot flag unused v = number v
field_slot flag any v = number v
field_slot flag bit v = number v
field_slot flag table v = number v
field_slot flag (text k) v = cond (leb k flag) (reference v) (number v)
field_slot flag (small k) v = number v

-- the fields a, b, c of a cell
abbrev pub field_slots : Cell → Tag → List Slot
field_slots k unknown = number k.a ∷ number k.b ∷ number k.c ∷ []
field_slots k not_carried = number k.a ∷ number k.b ∷ number k.c ∷ []
field_slots k (carried flags a b c) = field_slot k.flag a k.a ∷ field_slot k.flag b k.b ∷ field_slot k.flag c k.c ∷ []

-- the cell that starts at byte i: tag, flag and origin are its first word
unfoldable pub cell_slots : List ℕ → ℕ → List Slot
unfolding tag_of
cell_slots s i = number (word s i) ∷ field_slots (cell_from s i) (tag_of (byte s i))

-- the table or column record that starts at byte i: its name is its first word
abbrev pub record_slots : List ℕ → ℕ → List Slot
record_slots s i = reference (word s i) ∷ number (word s (i + 4)) ∷ number (word s (i + 8)) ∷ number (word s (i + 12)) ∷ []

-- n records or cells of 16 bytes, the first at byte `at`
abbrev pub in_each : (ℕ → List Slot) → (at n : ℕ) → List Slot
in_each f at zero = []
in_each f at (suc n) = f at ++ in_each f (at + 16) n

-- All of them: table records, column records, cells.
unfoldable pub slots : List ℕ → List Slot
unfolding cell_slots
slots s =
    in_each (record_slots s) (tables_at s) (table_count s)
    ++ (in_each (record_slots s) (columns_at s) (column_count s) ++ in_each (cell_slots s) (cells_at s) (cell_count s))

-- the references, in order
abbrev pub references : List Slot → List ℕ
references [] = []
references (number v ∷ xs) = references xs
references (reference r ∷ xs) = r ∷ references xs

-- the number that stands there
abbrev pub value : Slot → ℕ
value (number v) = v
value (reference r) = r

-- a word whose reference, if it is one, is put through a function
abbrev pub redirect : (ℕ → ℕ) → Slot → Slot
redirect f (number v) = number v
redirect f (reference r) = reference (f r)

-- as bytes
unfoldable pub slot_bytes : List Slot → List ℕ
unfolding bytes
slot_bytes [] = []
slot_bytes (x ∷ xs) = bytes (value x) ++ slot_bytes xs
