-- Small sheets, worked out: what all five passes hand out for that of document 01's P1, and a listing. (What the program prints of P1: crate list_plan.)
use Rattle.std.specs.Prelude.{ℕ, true, false, List, [], ◌∷◌, ◌≡◌, refl, replicate}
use Rattle.value.specs.Meaning.{integer_bits, integer_of_bits}
use Rattle.sql.specs.Room
use Rattle.sql.specs.Optimizer
use Rattle.sheet.specs.Bytes.{half, word, bytes}
use Rattle.sheet.specs.Parts.{length_ok, edition_ok, parts_ok, bad_record}
use Rattle.sheet.specs.Cell.{cell, cell_ok, bad_cell}
use Rattle.sheet.specs.Tree.{read}
use Rattle.sheet.specs.Operations.{Outcome, all_five}
use Rattle.sheet.specs.Listing.{listing, is_expression, is_part, is_node}

-- Filter(Values(Row(1)), And(true, Not(false))), no text or tables: 148 bytes
abbrev pub P1 : List ℕ
P1 =
    3 ∷ 0 ∷ 0 ∷ 0 ∷ 1 ∷ 0 ∷ 0 ∷ 0 ∷ 0 ∷ 0 ∷ 0 ∷ 0 ∷ 0 ∷ 0 ∷ 0 ∷ 0 ∷ 45 ∷ 0 ∷ 0 ∷ 0 ∷ 1 ∷ 0 ∷ 0 ∷ 0 ∷ 0 ∷ 0 ∷ 0 ∷ 0 ∷ 0 ∷ 0 ∷ 0 ∷ 0 ∷ 63 ∷
    0 ∷ 0 ∷ 0 ∷ 1 ∷ 0 ∷ 0 ∷ 0 ∷ 0 ∷ 0 ∷ 0 ∷ 0 ∷ 0 ∷ 0 ∷ 0 ∷ 0 ∷ 2 ∷ 0 ∷ 0 ∷ 0 ∷ 1 ∷ 0 ∷ 0 ∷ 0 ∷ 0 ∷ 0 ∷ 0 ∷ 0 ∷ 0 ∷ 0 ∷ 0 ∷ 0 ∷ 2 ∷ 0 ∷ 0 ∷
    0 ∷ 0 ∷ 0 ∷ 0 ∷ 0 ∷ 0 ∷ 0 ∷ 0 ∷ 0 ∷ 0 ∷ 0 ∷ 0 ∷ 0 ∷ 30 ∷ 0 ∷ 0 ∷ 0 ∷ 0 ∷ 0 ∷ 0 ∷ 0 ∷ 0 ∷ 0 ∷ 0 ∷ 0 ∷ 0 ∷ 0 ∷ 0 ∷ 0 ∷ 10 ∷ 0 ∷ 0 ∷ 0 ∷
    0 ∷ 0 ∷ 0 ∷ 0 ∷ 0 ∷ 0 ∷ 0 ∷ 0 ∷ 0 ∷ 0 ∷ 0 ∷ 0 ∷ 51 ∷ 0 ∷ 0 ∷ 0 ∷ 0 ∷ 0 ∷ 0 ∷ 0 ∷ 0 ∷ 0 ∷ 0 ∷ 0 ∷ 0 ∷ 0 ∷ 0 ∷ 0 ∷ 0 ∷ 0 ∷ 0 ∷ 0 ∷ 0 ∷
    0 ∷ 0 ∷ 0 ∷ 0 ∷ 0 ∷ 0 ∷ 0 ∷ 1 ∷ 0 ∷ 0 ∷ 0 ∷ 148 ∷ 0 ∷ 0 ∷ 0 ∷ []

-- Values(Row(1)) in 68 bytes, and the two of the output that stood behind them
abbrev P1Output : List ℕ
P1Output =
    3 ∷ 0 ∷ 0 ∷ 0 ∷ 1 ∷ 0 ∷ 0 ∷ 0 ∷ 0 ∷ 0 ∷ 0 ∷ 0 ∷ 0 ∷ 0 ∷ 0 ∷ 0 ∷ 45 ∷ 0 ∷ 0 ∷ 0 ∷ 1 ∷ 0 ∷ 0 ∷ 0 ∷ 0 ∷ 0 ∷ 0 ∷ 0 ∷ 0 ∷ 0 ∷ 0 ∷ 0 ∷ 63 ∷
    0 ∷ 0 ∷ 0 ∷ 1 ∷ 0 ∷ 0 ∷ 0 ∷ 0 ∷ 0 ∷ 0 ∷ 0 ∷ 0 ∷ 0 ∷ 0 ∷ 0 ∷ 0 ∷ 0 ∷ 0 ∷ 0 ∷ 0 ∷ 0 ∷ 0 ∷ 0 ∷ 0 ∷ 0 ∷ 0 ∷ 0 ∷ 1 ∷ 0 ∷ 0 ∷ 0 ∷ 68 ∷ 0 ∷
    0 ∷ 0 ∷ 255 ∷ 255 ∷ []

P1HandedOut : all_five P1 (replicate 70 255)
    ≡ record { numbers = record { number = 0; place = 0; length = 68; cells = 3; columns = 1 }; output = P1Output }
unfolding all_five half word bytes length_ok edition_ok parts_ok bad_record bad_cell cell_ok cell read Room.FilterPushdown Room.push_filters_from Room.maybe_push_filter Room.maybe_push_join Optimizer.maybe_push_join Room.IndexLookup Room.index_lookup Optimizer.index_lookup Room.ShortCircuit Room.short_circuit integer_of_bits integer_bits
P1HandedOut = refl

-- Nothing(Label), the label empty text, unqualified: 52 bytes
abbrev labelled_nothing : List ℕ
labelled_nothing =
    40 ∷ 1 ∷ 0 ∷ 0 ∷ 0 ∷ 0 ∷ 0 ∷ 0 ∷ 0 ∷ 0 ∷ 0 ∷ 0 ∷ 0 ∷ 0 ∷ 0 ∷ 0 ∷ 57 ∷ 0 ∷ 0 ∷ 0 ∷ 1 ∷ 0 ∷ 0 ∷ 0 ∷ 0 ∷ 0 ∷ 0 ∷ 0 ∷ 0 ∷ 0 ∷ 0 ∷ 0 ∷ 0 ∷
    0 ∷ 0 ∷ 0 ∷ 0 ∷ 0 ∷ 0 ∷ 0 ∷ 0 ∷ 0 ∷ 0 ∷ 0 ∷ 1 ∷ 0 ∷ 0 ∷ 0 ∷ 52 ∷ 0 ∷ 0 ∷ 0 ∷ []

-- cells 2 bytes 52 columns 1
-- 0 40 1 0 0 0
-- 1 57 0 1 0 0
-- kinds 0 1 1 total 2
nothing_listed : listing labelled_nothing 1
    ≡ (99 ∷ 101 ∷ 108 ∷ 108 ∷ 115 ∷ 32 ∷ 50 ∷ 32 ∷ 98 ∷ 121 ∷ 116 ∷ 101 ∷ 115 ∷ 32 ∷ 53 ∷ 50 ∷ 32 ∷ 99 ∷ 111 ∷ 108 ∷ 117 ∷ 109 ∷ 110 ∷ 115 ∷
    32 ∷ 49 ∷ 10 ∷ 48 ∷ 32 ∷ 52 ∷ 48 ∷ 32 ∷ 49 ∷ 32 ∷ 48 ∷ 32 ∷ 48 ∷ 32 ∷ 48 ∷ 10 ∷ 49 ∷ 32 ∷ 53 ∷ 55 ∷ 32 ∷ 48 ∷ 32 ∷ 49 ∷ 32 ∷ 48 ∷ 32 ∷ 48 ∷ 10 ∷
    107 ∷ 105 ∷ 110 ∷ 100 ∷ 115 ∷ 32 ∷ 48 ∷ 32 ∷ 49 ∷ 32 ∷ 49 ∷ 32 ∷ 116 ∷ 111 ∷ 116 ∷ 97 ∷ 108 ∷ 32 ∷ 50 ∷ 10 ∷ [])
unfolding listing half word cell
nothing_listed = refl

-- The tags on either side of a border: expressions below 40, parts 40 to 49, nodes from 50 on.
kinds_at_borders : (is_expression 39 ≡ true) × (is_expression 40 ≡ false) × (is_part 39 ≡ false) × (is_part 40 ≡ true)
    × (is_part 49 ≡ true) × (is_part 50 ≡ false) × (is_node 49 ≡ false) × (is_node 50 ≡ true)
kinds_at_borders = (refl, refl, refl, refl, refl, refl, refl, refl)
