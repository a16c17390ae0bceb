-- Rate formulas: what `check` says of sheets with Subtract, Multiply and SquareRoot, and what the five passes make of plans with them. By computing.
use Rattle.std.specs.Prelude.{ℕ, ◌+◌, ◌*◌, ◌-◌, ◌^◌, ◌≡◌, refl, List, [], ◌∷◌, ◌++◌, map, ℤ, pos, negsuc, length}
use Rattle.std.proofs.Math.Option.{none, some}
use Rattle.std.specs.Float.Ieee as Ieee
use Rattle.ieee754.specs.Ieee754 as Ieee754
use Rattle.value.specs.Value.{datum, integer, float}
use Rattle.value.specs.Arithmetic.{checked, subtract_integers, multiply_integers}
use Rattle.sql.specs.Expression.{Expression, constant, unary, binary, function, Subtract, Multiply, SquareRoot, into_cnf, into_cnf_vec}
use Rattle.sql.specs.Plan.{by_key, scan, lookup, filter, Node, leaf, over}
use Rattle.sql.specs.Answer.{Answer, done, refused}
use Rattle.sql.specs.Optimizer
use Rattle.sql.specs.Room
use Rattle.sql.specs.Room.{max_cells}
use Rattle.sql.specs.Samples.{keyed, scanned, one_row, number, equals, plus, A}
use Rattle.sheet.specs.Bytes.{bytes, word, half}
use Rattle.sheet.specs.Parts.{length_ok, edition_ok, parts_ok, table_ok, column_ok, bad_record}
use Rattle.sheet.specs.Cell.{Cell, cell, cell_ok, bad_cell}
use Rattle.sheet.specs.Tree.{read}
use Rattle.sheet.specs.Check.{Numbers, check, refusal}
use Rattle.sheet.specs.Write.{cells_bytes}
use Rattle.sheet_laws.specs.Content.{laid}

-- ---- sheets

-- the sheet of these cells alone
sheet : List Cell → List ℕ
sheet ks = cells_bytes ks ++ (bytes 0 ++ (bytes 0 ++ (bytes 0 ++ (bytes 1 ++ bytes (16 * length ks + 20)))))

-- a cell of this tag, all else 0; and a Row and Values over one expression
abbrev of_tag : ℕ → Cell
of_tag t = laid 0 t 0 0 0 0

abbrev number_cell : ℕ → Cell
number_cell n = laid 0 3 0 n 0 0

abbrev one_value : List Cell
one_value = laid 0 45 0 1 0 0 ∷ laid 0 63 0 1 0 0 ∷ []

success : (cells columns : ℕ) → Numbers
success cells columns = record { number = 0; place = 0; length = 0; cells = cells; columns = columns }

sheets : List (List ℕ × Numbers)
sheets =
    -- the root of 7 − 2 × 3
    (sheet (number_cell 7 ∷ number_cell 2 ∷ number_cell 3 ∷ of_tag 18 ∷ of_tag 17 ∷ of_tag 36 ∷ one_value), success 8 1)
    -- a field that isn't 0, and operands that are missing
    ∷ (sheet (number_cell 7 ∷ number_cell 2 ∷ laid 0 18 0 1 0 0 ∷ one_value), refusal 6 2)
    ∷ (sheet (number_cell 7 ∷ laid 0 36 1 0 0 0 ∷ one_value), refusal 6 1)
    ∷ (sheet (number_cell 7 ∷ of_tag 17 ∷ one_value), refusal 8 1)
    ∷ (sheet (of_tag 36 ∷ one_value), refusal 8 0)
    -- Exponentiate, Remainder, Like and Factorial are refused as before
    ∷ (sheet (number_cell 7 ∷ number_cell 2 ∷ of_tag 19 ∷ one_value), refusal 7 2)
    ∷ (sheet (number_cell 7 ∷ number_cell 2 ∷ of_tag 20 ∷ one_value), refusal 7 2)
    ∷ (sheet (number_cell 7 ∷ number_cell 2 ∷ of_tag 21 ∷ one_value), refusal 7 2)
    ∷ (sheet (number_cell 7 ∷ of_tag 35 ∷ one_value), refusal 7 1)
    ∷ []

sheets_checked : map (λ e. check e.0) sheets ≡ map (λ e. e.1) sheets
unfolding sheets sheet success check word half cells_bytes length_ok edition_ok parts_ok bad_record table_ok column_ok bad_cell cell_ok cell read
sheets_checked = refl

-- ---- plans

abbrev whole : ℤ → Expression
whole i = constant 0 (datum (integer i))

abbrev smallest : ℤ
smallest = negsuc (2 ^ 63 - 1)

abbrev minus : Expression → Expression → Expression
minus = binary 0 (function Subtract)

abbrev times : Expression → Expression → Expression
times = binary 0 (function Multiply)

abbrev root : Expression → Expression
root = unary 0 (function SquareRoot)

abbrev given : Expression → Node
given e = one_row (e ∷ [])

abbrev where_so : Expression → Node
where_so p = over 0 (filter p) scanned

-- a plan and what the five passes answer
plans : List (Node × Answer Node)
plans =
    -- 7 − 2 is folded, so that the key is looked up; #0 − 2 isn't, and stays a filter
    (where_so (equals A (minus (number 7) (number 2))), done (leaf 0 (lookup by_key 0 none ((datum (integer (pos 5)), 0) ∷ []))))
    ∷ (where_so (equals (minus A (number 2)) (number 5)), done (leaf 0 (scan 0 none (some (equals (minus A (number 2)) (number 5))))))
    -- the root of 2 × 1
    ∷ (given (root (times (number 2) (number 1))), done (given (constant 0 (datum (float 0x3FF6A09E667F3BCD)))))
    -- −1 − MIN is the largest Integer, 0 − MIN is none; 3037000499² is an Integer, 3037000500² and MIN × −1 are none. The place is the operator's.
    ∷ (given (minus (whole (negsuc 0)) (whole smallest)), done (given (whole (pos (2 ^ 63 - 1)))))
    ∷ (given (minus (number 0) (whole smallest)), refused 11 2)
    ∷ (given (times (number 3037000499) (number 3037000499)), done (given (number 9223372030926249001)))
    ∷ (given (plus (number 1) (times (number 3037000500) (number 3037000500))), refused 11 3)
    ∷ (given (times (whole smallest) (whole (negsuc 0))), refused 11 2)
    -- an Integer below zero has no root
    ∷ (given (plus (number 1) (root (whole (negsuc 0)))), refused 13 2)
    ∷ []

plans_answered : map (λ e. Room.optimize max_cells keyed e.0) plans ≡ map (λ e. e.1) plans
unfolding plans into_cnf into_cnf_vec Optimizer.maybe_push_join Optimizer.index_lookup Room.maybe_push_join Room.maybe_push_filter Room.push_filters_from Room.FilterPushdown Room.index_lookup Room.IndexLookup Room.short_circuit Room.ShortCircuit checked subtract_integers multiply_integers Ieee.of_int Ieee.to_bits Ieee754.read Ieee754.units Ieee754.root_bits
plans_answered = refl
