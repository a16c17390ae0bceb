-- Small sheets of both editions, worked out: what all five passes hand out, and the same taken down; and what `check` says of the two editions.
-- A cell is written as document 01 lists it, its origin first: origin, tag, flag, a, b, c.
use Rattle.std.specs.Prelude.{ℕ, ◌+◌, ◌*◌, ◌≡◌, refl, List, [], ◌∷◌, ◌++◌, map, length, replicate}
use Rattle.value.specs.Meaning.{integer_bits, integer_of_bits}
use Rattle.sql.specs.Room
use Rattle.sql.specs.Optimizer
use Rattle.sheet.specs.Bytes.{bytes, word, half}
use Rattle.sheet.specs.Parts.{length_ok, edition_ok, parts_ok, bad_record}
use Rattle.sheet.specs.Cell.{Cell, cell, cell_ok, bad_cell}
use Rattle.sheet.specs.Tree.{read}
use Rattle.sheet.specs.Check.{Numbers, check, refusal}
use Rattle.sheet.specs.Write.{cells_bytes}
use Rattle.sheet.specs.Operations.{Outcome, all_five}
use Rattle.sheet_laws.specs.Content.{laid}
use Rattle.sound.specs.HandedOut.{success}
use Rattle.editions.specs.Editions.{in_edition, down, down_outcome}

-- the sheet of an edition with these cells and no text or tables
abbrev sheet : (e : ℕ) → List Cell → List ℕ
sheet e ks = cells_bytes ks ++ (bytes 0 ++ (bytes 0 ++ (bytes 0 ++ (bytes e ++ bytes (16 * length ks + 20)))))

-- a sheet of so many cells put out, and two bytes behind it
abbrev put_out : (e cells : ℕ) → List Cell → Outcome
put_out e cells ks =
    record { numbers = record { number = 0; place = 0; length = 16 * cells + 20; cells = cells; columns = 1 }; output = sheet e ks ++ (255 ∷ 255 ∷ []) }

-- ---- document 01's P1: Filter(Values(Row(1)), And(true, Not(false)))

P1 : List ℕ
P1 =
    sheet 2 (laid 1000 3 0 1 0 0 ∷ laid 1001 45 0 1 0 0 ∷ laid 1002 63 0 1 0 0 ∷ laid 1003 2 0 1 0 0 ∷ laid 1004 2 0 0 0 0 ∷ laid 1005 30 0 0 0 0 ∷ laid 1006 10 0 0 0 0 ∷ laid 1007 51 0 0 0 0 ∷ [])

P1Down : down P1
    ≡ sheet 1 (laid 0 3 0 1 0 0 ∷ laid 0 45 0 1 0 0 ∷ laid 0 63 0 1 0 0 ∷ laid 0 2 0 1 0 0 ∷ laid 0 2 0 0 0 0 ∷ laid 0 30 0 0 0 0 ∷ laid 0 10 0 0 0 0 ∷ laid 0 51 0 0 0 0 ∷ [])
unfolding P1 in_edition cells_bytes bytes word
P1Down = refl

-- In edition 2 the cells that stay keep their origins.
P1HandedOut : all_five P1 (replicate 70 255) ≡ put_out 2 3 (laid 1000 3 0 1 0 0 ∷ laid 1001 45 0 1 0 0 ∷ laid 1002 63 0 1 0 0 ∷ [])
unfolding P1 all_five half word bytes cells_bytes length_ok edition_ok parts_ok bad_record bad_cell cell_ok cell read Room.FilterPushdown Room.push_filters_from Room.maybe_push_filter Room.maybe_push_join Optimizer.maybe_push_join Room.IndexLookup Room.index_lookup Optimizer.index_lookup Room.ShortCircuit Room.short_circuit integer_of_bits integer_bits
P1HandedOut = refl

P1DownHandedOut : all_five (down P1) (replicate 70 255) ≡ put_out 1 3 (laid 0 3 0 1 0 0 ∷ laid 0 45 0 1 0 0 ∷ laid 0 63 0 1 0 0 ∷ [])
unfolding P1 in_edition all_five half word bytes cells_bytes length_ok edition_ok parts_ok bad_record bad_cell cell_ok cell read Room.FilterPushdown Room.push_filters_from Room.maybe_push_filter Room.maybe_push_join Optimizer.maybe_push_join Room.IndexLookup Room.index_lookup Optimizer.index_lookup Room.ShortCircuit Room.short_circuit integer_of_bits integer_bits
P1DownHandedOut = refl

-- the first, taken down
P1OutputDown : down_outcome (all_five P1 (replicate 70 255)) ≡ put_out 1 3 (laid 0 3 0 1 0 0 ∷ laid 0 45 0 1 0 0 ∷ laid 0 63 0 1 0 0 ∷ [])
unfolding P1 in_edition all_five half word bytes cells_bytes length_ok edition_ok parts_ok bad_record bad_cell cell_ok cell read Room.FilterPushdown Room.push_filters_from Room.maybe_push_filter Room.maybe_push_join Optimizer.maybe_push_join Room.IndexLookup Room.index_lookup Optimizer.index_lookup Room.ShortCircuit Room.short_circuit integer_of_bits integer_bits
P1OutputDown = refl

-- ---- two Filters that are merged: Filter(Filter(Values(Row(1)), Is Null(#0)), Is NaN(#0)), each cell's origin its number

merged : List ℕ
merged =
    sheet 2 (laid 0 3 0 1 0 0 ∷ laid 1 45 0 1 0 0 ∷ laid 2 63 0 1 0 0 ∷ laid 3 6 0 0 0 0 ∷ laid 4 31 0 0 0 0 ∷ laid 5 51 0 0 0 0 ∷ laid 6 6 0 0 0 0 ∷ laid 7 32 0 0 0 0 ∷ laid 8 51 0 0 0 0 ∷ [])

-- The new And has the origin of the upper Filter, 8, and stands under the lower one, 5.
merged_handed_out : all_five merged (replicate 166 255)
    ≡ put_out 2 9 (laid 0 3 0 1 0 0 ∷ laid 1 45 0 1 0 0 ∷ laid 2 63 0 1 0 0 ∷ laid 6 6 0 0 0 0 ∷ laid 7 32 0 0 0 0 ∷ laid 3 6 0 0 0 0 ∷ laid 4 31 0 0 0 0 ∷ laid 8 10 0 0 0 0 ∷ laid 5 51 0 0 0 0 ∷ [])
unfolding merged all_five half word bytes cells_bytes length_ok edition_ok parts_ok bad_record bad_cell cell_ok cell read Room.FilterPushdown Room.push_filters_from Room.maybe_push_filter Room.maybe_push_join Optimizer.maybe_push_join Room.IndexLookup Room.index_lookup Optimizer.index_lookup Room.ShortCircuit Room.short_circuit integer_of_bits integer_bits
merged_handed_out = refl

merged_down_handed_out : all_five (down merged) (replicate 166 255)
    ≡ put_out 1 9 (laid 0 3 0 1 0 0 ∷ laid 0 45 0 1 0 0 ∷ laid 0 63 0 1 0 0 ∷ laid 0 6 0 0 0 0 ∷ laid 0 32 0 0 0 0 ∷ laid 0 6 0 0 0 0 ∷ laid 0 31 0 0 0 0 ∷ laid 0 10 0 0 0 0 ∷ laid 0 51 0 0 0 0 ∷ [])
unfolding merged in_edition all_five half word bytes cells_bytes length_ok edition_ok parts_ok bad_record bad_cell cell_ok cell read Room.FilterPushdown Room.push_filters_from Room.maybe_push_filter Room.maybe_push_join Optimizer.maybe_push_join Room.IndexLookup Room.index_lookup Optimizer.index_lookup Room.ShortCircuit Room.short_circuit integer_of_bits integer_bits
merged_down_handed_out = refl

-- ---- the editions, as `check` sees them: Values(Row(1)) with the origin of its Row as given

abbrev one_row : (e og : ℕ) → List ℕ
one_row e og = sheet e (laid 0 3 0 1 0 0 ∷ laid og 45 0 1 0 0 ∷ laid 0 63 0 1 0 0 ∷ [])

pub examples : List (List ℕ × Numbers)
examples =
    (one_row 1 0, success 3 1)
    ∷ (one_row 2 0, success 3 1)
    -- In edition 1 an origin is refused, of which one byte or the other is not 0; in edition 2 it may be any.
    ∷ (one_row 1 1, refusal 6 1)
    ∷ (one_row 1 256, refusal 6 1)
    ∷ (one_row 2 1, success 3 1)
    ∷ (one_row 2 65535, success 3 1)
    -- neither edition
    ∷ (one_row 0 0, refusal 3 0)
    ∷ (one_row 3 0, refusal 3 0)
    -- the edition is a word of four bytes
    ∷ (one_row 257 0, refusal 3 0)
    -- Taken down, these are accepted: the law asks for the edition word 2, and has to.
    ∷ (down (one_row 1 256), success 3 1)
    ∷ (down (one_row 3 0), success 3 1)
    ∷ []

pub examples_checked : map (λ e. check e.0) examples ≡ map (λ e. e.1) examples
unfolding examples in_edition check word half bytes cells_bytes length_ok edition_ok parts_ok bad_record bad_cell cell_ok cell read
examples_checked = refl
