-- Small readings, worked out.
use Rattle.std.specs.Prelude.{ℕ, zero, suc, ◌+◌, Bool, true, false, ◌≡◌, refl, List, [], ◌∷◌, ◌++◌, map, reverse, pos, length}
use Rattle.std.proofs.Common.{ap₂, ◌∙◌, length-append}
use Rattle.std.proofs.Math.Option.{none, some}
use Rattle.std.proofs.lemmas.List.{length-map}
use Rattle.std.specs.Float.Ieee
use Rattle.value.specs.Value.{True, False, Value, truth, datum, integer, float, string, null, Result, ok, err, mismatch}
use Rattle.value.specs.Comparison.{compare_integers, compare_floats, compare_bytes}
use Rattle.sql.specs.Schema.{Schema, Integer, table_of}
use Rattle.sql.specs.Expression.{Expression, constant, column, unary, binary, Not, Equal, function, Identity, Negate, Row}
use Rattle.sql.specs.Plan.{unlabelled, by_key, by_index, scan, lookup, nothing, values, limit, offset, order, projection, remap, aggregate, filter, other, nested_loop, hash, Node, leaf, over, join, up_to}
use Rattle.sql.specs.Samples.{number, equals, A, B}
use Rattle.rows.specs.Database.{Wide, no_rows, and_row, Database}
use Rattle.rows.specs.Reading.{read}

-- One table of two columns, the first its key: Null, a NaN of another pattern than the sheet's, and a String.
abbrev two_columns : Schema
two_columns = record { name = 0; primary_key = 0; columns = record { name = 0; kind = Integer; index = false } ∷ record { name = 0; kind = Integer; index = true } ∷ [] } ∷ []

abbrev int : ℕ → Value
int n = datum (integer (pos n))

abbrev odd_nan : Value
odd_nan = datum (float 0xfff8000000000001)

abbrev text : Value
text = datum (string 65536 (120 ∷ []))

abbrev first : Row
first = int 1 ∷ null ∷ []

abbrev second : Row
second = int 2 ∷ odd_nan ∷ []

abbrev third : Row
third = int 3 ∷ text ∷ []

abbrev three_rows : ℕ → List Row
three_rows zero = first ∷ second ∷ third ∷ []
three_rows (suc n) = []

abbrev three_wide : (t : ℕ) → Wide (length (table_of two_columns t).columns) (three_rows t)
three_wide zero = and_row refl (and_row refl (and_row refl no_rows))
three_wide (suc n) = no_rows

-- of all its cells
abbrev origin_sum : Expression → ℕ
origin_sum (constant og v) = og
origin_sum (column og c) = og
origin_sum (unary og o x) = og + origin_sum x
origin_sum (binary og o l r) = og + (origin_sum l + origin_sum r)

-- An Aggregate's function that looks for origins, as deep as they stand: one row, of what it finds.
abbrev seen : ℕ × Expression → Value
seen agg = int (agg.0 + origin_sum agg.1)

abbrev seen_group : Expression → Value
seen_group e = int (origin_sum e)

abbrev one_row_seen : List Expression → List (ℕ × Expression) → List Row → List Row
one_row_seen group_by aggregates rows = (map seen aggregates ++ map seen_group group_by) ∷ []

abbrev one_row_wide : (group_by : List Expression) (aggregates : List (ℕ × Expression)) (rows : List Row)
    → Wide (length aggregates + length group_by) (one_row_seen group_by aggregates rows)
one_row_wide group_by aggregates rows =
    and_row (length-append (map seen aggregates) (map seen_group group_by) ∙ ap₂ ◌+◌ (length-map aggregates seen) (length-map group_by seen_group)) no_rows

-- Order turns the rows round.
abbrev sample : Database
sample = record {
  schema = two_columns;
  table_rows = three_rows;
  table_wide = three_wide;
  arrangement = λ directions keys. reverse (up_to 0 (length keys));
  aggregated = one_row_seen;
  aggregated_wide = one_row_wide;
}

abbrev all_rows : Node
all_rows = leaf 0 (scan 0 none none)

abbrev some_numbers : Node
some_numbers = leaf 0 (values ((number 3 ∷ [], 0) ∷ (number 1 ∷ [], 0) ∷ []))

abbrev equals_of_11 : Expression
equals_of_11 = binary 11 Equal (column 12 0) (unary 13 (function Negate) (constant 14 (int 1)))

abbrev readings : List (Result (List Row) × Result (List Row))
readings =
    -- Null and false are dropped: NaN is not equal to itself
    (read sample (over 0 (filter (equals B B)) all_rows), ok (third ∷ []))
    -- a predicate of another kind fails
    ∷ (read sample (over 0 (filter A) all_rows), err mismatch)
    -- table order, each row once
    ∷ (read sample (leaf 0 (lookup by_key 0 none ((int 2, 0) ∷ (int 1, 0) ∷ (int 2, 0) ∷ []))), ok (first ∷ second ∷ []))
    -- Null looks up Null, and NaN every NaN; no kind makes a lookup fail
    ∷ (read sample (leaf 0 (lookup (by_index 1) 0 none ((null, 0) ∷ []))), ok (first ∷ []))
    ∷ (read sample (leaf 0 (lookup (by_index 1) 0 none ((datum (float 0x7ff8000000000000), 0) ∷ []))), ok (second ∷ []))
    ∷ (read sample (leaf 0 (lookup (by_index 1) 0 none ((int 5, 0) ∷ []))), ok [])
    -- left row by left row; the right column counts in the right source
    ∷ (read sample (join 0 false (hash 0 0) all_rows some_numbers), ok ((int 1 ∷ null ∷ int 1 ∷ []) ∷ (int 3 ∷ text ∷ int 3 ∷ []) ∷ []))
    ∷ (
      read sample (join 0 false (nested_loop none) some_numbers (leaf 0 (values ((number 8 ∷ [], 0) ∷ (number 9 ∷ [], 0) ∷ [])))),
      ok ((int 3 ∷ int 8 ∷ []) ∷ (int 3 ∷ int 9 ∷ []) ∷ (int 1 ∷ int 8 ∷ []) ∷ (int 1 ∷ int 9 ∷ []) ∷ []),
    )
    -- a Remap has Null where no Target points
    ∷ (read sample (over 0 (other (remap ((some 2, 0) ∷ (none, 0) ∷ []))) all_rows), ok ((null ∷ null ∷ int 1 ∷ []) ∷ (null ∷ null ∷ int 2 ∷ []) ∷ (null ∷ null ∷ int 3 ∷ []) ∷ []))
    -- Identity hands a NaN back with its pattern
    ∷ (read sample (over 0 (other (projection ((unary 0 (function Identity) B, unlabelled, 0) ∷ []))) (over 0 (filter (equals A (number 2))) all_rows)), ok ((odd_nan ∷ []) ∷ []))
    ∷ (read sample (over 0 (other (limit 2)) (over 0 (other (offset 1)) all_rows)), ok (second ∷ third ∷ []))
    ∷ (read sample (over 0 (other (order ((A, true, 0) ∷ []))) all_rows), ok (third ∷ second ∷ first ∷ []))
    ∷ (read sample (leaf 0 (nothing ((unlabelled, 0) ∷ []))), ok [])
    -- origins are not rows: an Aggregate's function finds the functions' numbers, 4 and 5 here, and no origin
    ∷ (
      read sample (over 6 (other (aggregate (equals_of_11 ∷ column 7 0 ∷ []) ((4, unary 8 Not (column 9 1), 10) ∷ (5, constant 15 null, 16) ∷ []))) all_rows),
      ok ((int 4 ∷ int 5 ∷ int 0 ∷ int 0 ∷ []) ∷ []),
    )
    ∷ []

pub all_readings : map (λ (r : Result (List Row) × Result (List Row)). r.0) readings ≡ map (λ (r : Result (List Row) × Result (List Row)). r.1) readings
unfolding compare_integers compare_floats compare_bytes Ieee.is_nan Ieee.eq Ieee.lt Ieee.of_int Ieee.round Ieee.of_bits Ieee.to_bits
all_readings = refl
