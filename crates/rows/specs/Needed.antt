-- Each premise of point 3 on the readings is needed: where it doesn't hold, two of the six plans can read different rows.
use Rattle.std.specs.Prelude.{ℕ, zero, suc, Bool, true, false, ◌≡◌, refl, List, [], ◌∷◌, pos, length}
use Rattle.std.proofs.Math.Option.{none, some}
use Rattle.std.specs.Float.Ieee
use Rattle.value.specs.Value.{datum, integer, float, null, boolean, ok, err, mismatch}
use Rattle.value.specs.Comparison.{compare_integers, compare_floats}
use Rattle.sql.specs.Schema.{Schema, Integer, table_of}
use Rattle.sql.specs.Expression.{Expression, constant, Row, and, into_cnf, into_cnf_vec}
use Rattle.sql.specs.Plan.{scan, nested_loop, Node, leaf, join}
use Rattle.sql.specs.Optimizer.{maybe_push_join, maybe_push_filter, push_filters_from, FilterPushdown, index_lookup, IndexLookup}
use Rattle.rows.specs.Database.{Wide, no_rows, and_row, Database}
use Rattle.rows.specs.Reading.{read}
use Rattle.rows.specs.Equalities.{equalities, of_one_kind, all}
use Rattle.sql.specs.Samples.{A, B, number, equals}

-- Two tables of one column, their key: in the first a Float 2 ^ 53 (4340000000000000 is that), in the second an Integer one above.
abbrev one_column : Schema
one_column = record { name = 0; primary_key = 0; columns = record { name = 0; kind = Integer; index = false } ∷ [] } ∷ record { name = 0; primary_key = 0; columns = record { name = 0; kind = Integer; index = false } ∷ [] } ∷ []

abbrev two_rows : ℕ → List Row
two_rows zero = (datum (float 0x4340000000000000) ∷ []) ∷ []
two_rows (suc zero) = (datum (integer (pos 9007199254740993)) ∷ []) ∷ []
two_rows (suc (suc n)) = []

abbrev two_wide : (t : ℕ) → Wide (length (table_of one_column t).columns) (two_rows t)
two_wide zero = and_row refl no_rows
two_wide (suc zero) = and_row refl no_rows
two_wide (suc (suc n)) = no_rows

abbrev aggregate_nothing : List Expression → List (ℕ × Expression) → List Row → List Row
aggregate_nothing group_by aggregates rows = []

abbrev numbers : Database
numbers = record {
  schema = one_column;
  table_rows = two_rows;
  table_wide = two_wide;
  arrangement = λ directions keys. [];
  aggregated = aggregate_nothing;
  aggregated_wide = λ group_by aggregates rows. no_rows;
}

-- ---- An equality of two columns that comes out true compares values of one kind.

-- #0 = 2 ^ 53 AND #0 = #1: the copied constant is compared with the Integer exactly, and the row is gone.
abbrev kinds : Node
kinds = join 0 false (nested_loop (some (and 0 (equals A (number 9007199254740992)) (equals A B)))) (leaf 0 (scan 0 none none)) (leaf 0 (scan 1 none none))

pub kinds_before : read numbers kinds ≡ ok ((datum (float 0x4340000000000000) ∷ datum (integer (pos 9007199254740993)) ∷ []) ∷ [])
unfolding compare_floats Ieee.eq Ieee.lt Ieee.of_int Ieee.round Ieee.of_bits
kinds_before = refl

pub kinds_after : read numbers (FilterPushdown one_column kinds) ≡ ok []
unfolding into_cnf into_cnf_vec maybe_push_join maybe_push_filter push_filters_from FilterPushdown compare_integers compare_floats Ieee.eq Ieee.lt Ieee.of_int Ieee.round Ieee.of_bits
kinds_after = refl

pub kinds_differ : all of_one_kind (equalities numbers kinds) ≡ false
unfolding compare_floats Ieee.eq Ieee.lt Ieee.of_int Ieee.round Ieee.of_bits
kinds_differ = refl

-- ---- No join is outer.

abbrev outer : Node
outer = join 0 true (nested_loop (some (equals A (number 1)))) (leaf 0 (scan 0 none none)) (leaf 0 (scan 1 none none))

pub outer_before : read numbers outer ≡ ok ((datum (float 0x4340000000000000) ∷ null ∷ []) ∷ [])
unfolding compare_floats Ieee.eq Ieee.lt Ieee.of_int Ieee.round Ieee.of_bits
outer_before = refl

pub outer_after : read numbers (FilterPushdown one_column outer) ≡ ok []
unfolding into_cnf into_cnf_vec maybe_push_join maybe_push_filter push_filters_from FilterPushdown compare_integers compare_floats Ieee.eq Ieee.lt Ieee.of_int Ieee.round Ieee.of_bits
outer_after = refl

-- ---- None of the six plans meets a failing expression.

-- #0 = true fails at a number; the lookup that it becomes never fails.
abbrev fails : Node
fails = leaf 0 (scan 0 none (some (equals A (constant 0 (boolean true)))))

pub fails_before : read numbers fails ≡ err mismatch
fails_before = refl

pub fails_after : read numbers (IndexLookup one_column fails) ≡ ok []
unfolding into_cnf into_cnf_vec index_lookup IndexLookup Ieee.is_nan Ieee.of_bits
fails_after = refl
