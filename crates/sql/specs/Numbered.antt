-- Where origins go: plans and expressions in which each cell's origin is its number in a sheet (operands and sources stand before their cell), and what the
-- passes make of them. Document 02's sentence on origins, a rule at a time, and document 01's worked plans.
use Rattle.std.specs.Prelude.{ℕ, false, true, List, [], ◌∷◌, map, ◌≡◌, refl, pos}
use Rattle.std.proofs.Math.Option.{Option, none, some}
use Rattle.std.specs.Float.Ieee as Ieee
use Rattle.value.specs.Value.{Value, True, False, truth, datum, integer, float, the_nan, null}
use Rattle.value.specs.Comparison.{compare_integers, compare_floats}
use Rattle.value.specs.Arithmetic.{checked, add_integers}
use Rattle.sql.specs.Schema.{Schema, Integer}
use Rattle.sql.specs.Expression.{Expression, constant, column, unary, binary, function, IsNull, IsNaN, Identity, Equal, LessThan, Add, Divide, and, or, not, into_nnf, into_cnf, into_cnf_vec}
use Rattle.sql.specs.Plan.{unlabelled, qualified, by_key, by_index, scan, lookup, nothing, values, limit, offset, order, projection, aggregate, filter, other, nested_loop, hash, Node, leaf, over, join}
use Rattle.sql.specs.Answer.{Answer, done}
use Rattle.sql.specs.Optimizer
use Rattle.sql.specs.Room
use Rattle.sql.specs.Room.{max_cells}
use Rattle.sql.specs.Samples.{keyed}

-- ---- short names; the origin stands first

abbrev A : ℕ → Expression
A og = column og 0

abbrev B : ℕ → Expression
B og = column og 1

abbrev C : ℕ → Expression
C og = column og 2

abbrev D : ℕ → Expression
D og = column og 3

abbrev number : ℕ → Value
number n = datum (integer (pos n))

abbrev one : ℕ → Expression
one og = constant og (number 1)

abbrev two : ℕ → Expression
two og = constant og (number 2)

abbrev five : ℕ → Expression
five og = constant og (number 5)

abbrev six : ℕ → Expression
six og = constant og (number 6)

abbrev yes : ℕ → Expression
yes og = constant og (truth True)

abbrev no : ℕ → Expression
no og = constant og (truth False)

abbrev equals : ℕ → Expression → Expression → Expression
equals og = binary og Equal

abbrev plus : ℕ → Expression → Expression → Expression
plus og = binary og (function Add)

abbrev less : ℕ → Expression → Expression → Expression
less og = binary og (function LessThan)

abbrev is_null : ℕ → Expression → Expression
is_null og = unary og (function IsNull)

abbrev table : ℕ → Node
table og = leaf og (scan 0 none none)

abbrev table_with : ℕ → Expression → Node
table_with og predicate = leaf og (scan 0 none (some predicate))

abbrev where_so : ℕ → Expression → Node → Node
where_so og predicate = over og (filter predicate)

abbrev joined : ℕ → Option Expression → Node → Node → Node
joined og predicate = join og false (nested_loop predicate)

-- Values of one row: the origin of the node, that of the Row, and its expressions
abbrev one_row : ℕ → ℕ → List Expression → Node
one_row og row es = leaf og (values ((es, row) ∷ []))

-- one table, whose first column is its key and whose second has an index
abbrev indexed : Schema
indexed =
    record {
      name = 7;
      primary_key = 0;
      columns = record { name = 8; kind = Integer; index = false } ∷ record { name = 9; kind = Integer; index = true } ∷ [];
    }
    ∷ []

-- Limit over Order over a join of an Offset and an Aggregate, each over a Scan
abbrev kept : Node
kept =
    over 11 (other (limit 9))
    (over 10 (other (order ((A 8, true, 9) ∷ [])))
    (joined 7 none (over 1 (other (offset 1)) (table 0)) (over 6 (other (aggregate (A 3 ∷ []) ((1, A 4, 5) ∷ []))) (table 2))))

pub data Shown : Type 0 where
  expression : Expression → Shown
  conjuncts : List Expression → Shown
  pushed : Option Node → Shown
  plan : Answer Node → Shown

-- a plan after one pass by its number, and after all five; tables have one column, the key, or are `indexed`
abbrev after : ℕ → Node → Shown
after k node = plan (Room.pass max_cells keyed k node)

abbrev after_five : Node → Shown
after_five node = plan (Room.optimize max_cells keyed node)

abbrev after_lookup : Node → Shown
after_lookup node = plan (Room.pass max_cells indexed 3 node)

abbrev becomes : Node → Shown
becomes node = plan (done node)

-- ---- each with its answer

abbrev pub numbered : List (Shown × Shown)
numbered =
    -- ======== A moved or copied cell keeps its origin.
    -- a column moved to the right source's row
    (
      after 2 (joined 5 (some (equals 4 (B 2) (five 3))) (table 0) (table 1)),
      becomes (joined 5 none (table 0) (table_with 1 (equals 4 (A 2) (five 3)))),
    )
    ∷ (after 2 (joined 4 (some (is_null 3 (B 2))) (table 0) (table 1)), becomes (joined 4 none (table 0) (table_with 1 (is_null 3 (A 2)))))
    -- a lookup copied to the other column of an equality, and moved
    ∷ (
      after 2 (joined 9 (some (and 8 (equals 4 (A 2) (five 3)) (equals 7 (A 5) (B 6)))) (table 0) (table 1)),
      becomes (joined 9 (some (equals 7 (A 5) (B 6))) (table_with 0 (equals 4 (A 2) (five 3))) (table_with 1 (equals 4 (A 2) (five 3)))),
    )
    -- a conjunct that goes to both sides
    ∷ (after 2 (joined 3 (some (yes 2)) (table 0) (table 1)), becomes (joined 3 none (table_with 0 (yes 2)) (table_with 1 (yes 2))))
    -- And(true, x) and Or(x, false)
    ∷ (after 1 (where_so 4 (and 3 (yes 1) (A 2)) (table 0)), becomes (where_so 4 (A 2) (table 0)))
    ∷ (after 1 (where_so 4 (or 3 (A 1) (no 2)) (table 0)), becomes (where_so 4 (A 1) (table 0)))
    -- operators that aren't folded
    ∷ (
      after 1 (where_so 7 (and 6 (less 3 (A 1) (five 2)) (is_null 5 (A 4))) (table 0)),
      becomes (where_so 7 (and 6 (less 3 (A 1) (five 2)) (is_null 5 (A 4))) (table 0)),
    )
    -- Not(Not(x))
    ∷ (expression (into_nnf (not 4 (not 3 (or 2 (A 0) (B 1))))), expression (or 2 (A 0) (B 1)))
    ∷ (expression (into_nnf (not 3 (not 2 (is_null 1 (A 0))))), expression (is_null 1 (A 0)))
    -- what into_nnf and into_cnf don't rewrite, under an And and under an Or
    ∷ (
      expression (into_cnf (and 9 (equals 2 (A 0) (five 1)) (and 8 (less 5 (A 3) (B 4)) (is_null 7 (A 6))))),
      expression (and 9 (equals 2 (A 0) (five 1)) (and 8 (less 5 (A 3) (B 4)) (is_null 7 (A 6)))),
    )
    ∷ (
      expression (into_cnf (or 9 (equals 2 (A 0) (five 1)) (or 8 (less 5 (A 3) (B 4)) (is_null 7 (A 6))))),
      expression (or 9 (equals 2 (A 0) (five 1)) (or 8 (less 5 (A 3) (B 4)) (is_null 7 (A 6)))),
    )
    -- a filter kept as it was, where no lookup is found
    ∷ (after 3 (table_with 5 (or 4 (and 2 (A 0) (A 1)) (A 3))), becomes (table_with 5 (or 4 (and 2 (A 0) (A 1)) (A 3))))
    -- a Scan and a join that lose a predicate
    ∷ (after 5 (table_with 1 (yes 0)), becomes (table 1))
    ∷ (after 5 (joined 3 (some (yes 2)) (table 0) (table 1)), becomes (joined 3 none (table 0) (table 1)))
    -- nodes and parts that no pass rewrites
    ∷ (after_five kept, becomes kept)
    -- ======== A constant folded has the origin of the top cell.
    -- without columns
    ∷ (after 1 (one_row 6 5 (plus 4 (plus 2 (one 0) (two 1)) (two 3) ∷ [])), becomes (one_row 6 5 (five 4 ∷ [])))
    ∷ (after 1 (one_row 3 2 (unary 1 (function Identity) (five 0) ∷ [])), becomes (one_row 3 2 (five 1 ∷ [])))
    -- in a part, which keeps its own
    ∷ (
      after 1 (over 5 (other (projection ((plus 3 (one 1) (one 2), unlabelled, 4) ∷ []))) (table 0)),
      becomes (over 5 (other (projection ((two 3, unlabelled, 4) ∷ []))) (table 0)),
    )
    -- with columns
    ∷ (after 1 (where_so 4 (and 3 (no 1) (A 2)) (table 0)), becomes (where_so 4 (no 3) (table 0)))
    ∷ (after 1 (where_so 4 (or 3 (A 1) (yes 2)) (table 0)), becomes (where_so 4 (yes 3) (table 0)))
    -- a constant that is none folded
    ∷ (after 1 (where_so 4 (equals 3 (A 1) (five 2)) (table 0)), becomes (where_so 4 (equals 3 (A 1) (five 2)) (table 0)))
    -- ======== into_nnf: Not(And(x, y)) becomes an Or of two Nots, all with the Not's origin, and so on through these Nots.
    ∷ (
      expression (into_nnf (not 6 (and 5 (or 2 (A 0) (B 1)) (not 4 (C 3))))),
      expression (or 6 (and 6 (not 6 (A 0)) (not 6 (B 1))) (C 3)),
    )
    ∷ (expression (into_nnf (not 6 (or 5 (A 0) (not 4 (and 3 (B 1) (C 2)))))), expression (and 6 (not 6 (A 0)) (and 3 (B 1) (C 2))))
    -- the Nots are new, what stands under them is moved
    ∷ (
      expression (into_nnf (not 12 (and 11 (and 5 (equals 2 (A 0) (five 1)) (is_null 4 (A 3))) (and 10 (less 8 (A 6) (B 7)) (yes 9))))),
      expression (or 12 (or 12 (not 12 (equals 2 (A 0) (five 1))) (not 12 (is_null 4 (A 3)))) (or 12 (not 12 (less 8 (A 6) (B 7))) (not 12 (yes 9)))),
    )
    -- ======== into_cnf: the Ands and Ors that an Or is spread into have its origin.
    ∷ (
      expression (into_cnf (or 6 (and 2 (A 0) (B 1)) (and 5 (C 3) (D 4)))),
      expression (and 6 (and 6 (or 6 (A 0) (C 3)) (or 6 (A 0) (D 4))) (and 6 (or 6 (B 1) (C 3)) (or 6 (B 1) (D 4)))),
    )
    -- of a Not, with the Not's
    ∷ (expression (into_cnf (not 5 (and 4 (or 2 (A 0) (B 1)) (C 3)))), expression (and 5 (or 5 (not 5 (A 0)) (not 5 (C 3))) (or 5 (not 5 (B 1)) (not 5 (C 3)))))
    -- ======== A Filter merged: the And has its origin, not that of what it is merged into.
    ∷ (
      after 2 (where_so 5 (A 4) (where_so 3 (A 2) (over 1 (other (limit 9)) (table 0)))),
      becomes (where_so 3 (and 5 (A 4) (A 2)) (over 1 (other (limit 9)) (table 0))),
    )
    ∷ (after 2 (where_so 3 (A 2) (table_with 1 (A 0))), becomes (table_with 1 (and 3 (A 2) (A 0))))
    -- each of a run its own
    ∷ (after 2 (where_so 5 (A 4) (where_so 3 (A 2) (table_with 1 (A 0)))), becomes (table_with 1 (and 3 (and 5 (A 4) (A 2)) (A 0))))
    -- where there is no predicate yet, the Filter's is moved
    ∷ (after 2 (where_so 4 (and 3 (A 1) (A 2)) (table 0)), becomes (table_with 0 (and 3 (A 1) (A 2))))
    -- in a join, before it is split
    ∷ (
      pushed (Optimizer.push_into 5 (A 4) (joined 3 (some (B 2)) (table 0) (table 1))),
      pushed (some (joined 3 (some (and 5 (A 4) (B 2))) (table 0) (table 1))),
    )
    -- ======== A join split: the Ands that are put together, on either side, in the join and in a source, have its origin.
    ∷ (
      after 2
          (joined 19 (some (and 18 (and 10 (and 4 (A 2) (A 3)) (and 9 (B 5) (or 8 (B 6) (B 7)))) (and 17 (or 13 (A 11) (B 12)) (or 16 (B 14) (A 15))))) (table 0) (table 1)),
      becomes
          (joined 19 (some (and 19 (or 13 (A 11) (B 12)) (or 16 (B 14) (A 15))))
          (table_with 0 (and 19 (A 2) (A 3))) (table_with 1 (and 19 (A 5) (or 8 (A 6) (A 7))))),
    )
    -- what comes back alone is moved, from either side
    ∷ (
      after 2 (joined 7 (some (A 6)) (one_row 2 1 (one 0 ∷ [])) (one_row 5 4 (two 3 ∷ []))),
      becomes (joined 7 (some (A 6)) (one_row 2 1 (one 0 ∷ [])) (one_row 5 4 (two 3 ∷ []))),
    )
    ∷ (
      after 2 (joined 9 (some (equals 8 (B 6) (five 7))) (one_row 2 1 (one 0 ∷ [])) (one_row 5 4 (two 3 ∷ []))),
      becomes (joined 9 (some (equals 8 (B 6) (five 7))) (one_row 2 1 (one 0 ∷ [])) (one_row 5 4 (two 3 ∷ []))),
    )
    -- what comes back as an And, the same And too, was put together by the split
    ∷ (
      after 2 (joined 9 (some (and 8 (A 6) (A 7))) (one_row 2 1 (one 0 ∷ [])) (one_row 5 4 (two 3 ∷ []))),
      becomes (joined 9 (some (and 9 (A 6) (A 7))) (one_row 2 1 (one 0 ∷ [])) (one_row 5 4 (two 3 ∷ []))),
    )
    -- and so was its And with what stays
    ∷ (
      after 2 (joined 11 (some (and 10 (B 6) (or 9 (A 7) (B 8)))) (one_row 2 1 (one 0 ∷ [])) (one_row 5 4 (two 3 ∷ []))),
      becomes (joined 11 (some (and 11 (or 9 (A 7) (B 8)) (B 6))) (one_row 2 1 (one 0 ∷ [])) (one_row 5 4 (two 3 ∷ []))),
    )
    -- in a source: a Scan, and a Filter
    ∷ (
      after 2 (joined 9 (some (and 8 (A 6) (B 7))) (table_with 1 (A 0)) (where_so 5 (A 4) (over 3 (other (limit 9)) (table 2)))),
      becomes (joined 9 none (table_with 1 (and 9 (A 6) (A 0))) (where_so 5 (and 9 (A 7) (A 4)) (over 3 (other (limit 9)) (table 2)))),
    )
    -- but in a source that is a join, that one's, which is split in turn; and where a Filter is merged into a join, that join's
    ∷ (
      after 2 (joined 10 (some (or 9 (A 7) (B 8))) (joined 5 (some (or 4 (B 2) (A 3))) (table 0) (table 1)) (table 6)),
      becomes (joined 10 none (joined 5 (some (and 5 (or 9 (A 7) (B 8)) (or 4 (B 2) (A 3)))) (table 0) (table 1)) (table 6)),
    )
    ∷ (
      after 2 (where_so 9 (or 8 (A 6) (B 7)) (joined 5 (some (or 4 (B 2) (A 3))) (table 0) (table 1))),
      becomes (joined 5 (some (and 5 (or 8 (A 6) (B 7)) (or 4 (B 2) (A 3)))) (table 0) (table 1)),
    )
    -- ======== A Scan that becomes a lookup: the lookup, the Filter over it and its Ands have the Scan's origin.
    ∷ (
      after_lookup (table_with 7 (and 6 (equals 2 (A 0) (five 1)) (and 5 (B 3) (A 4)))),
      becomes (where_so 7 (and 7 (B 3) (A 4)) (leaf 7 (lookup by_key 0 none ((number 5, 1) ∷ [])))),
    )
    ∷ (
      after_lookup (table_with 5 (and 4 (A 0) (equals 3 (five 1) (B 2)))),
      becomes (where_so 5 (A 0) (leaf 5 (lookup (by_index 1) 0 none ((number 5, 1) ∷ [])))),
    )
    -- between what an Or is spread into, which has the Or's
    ∷ (
      after_lookup (table_with 9 (and 8 (equals 2 (A 0) (five 1)) (or 7 (and 5 (A 3) (B 4)) (B 6)))),
      becomes (where_so 9 (and 9 (or 7 (A 3) (B 6)) (or 7 (B 4) (B 6))) (leaf 9 (lookup by_key 0 none ((number 5, 1) ∷ [])))),
    )
    -- A lookup constant of Equal is moved, those of Is Null and Is NaN have the origin of these.
    ∷ (
      after 3 (table_with 9 (or 8 (equals 2 (A 0) (five 1)) (or 7 (is_null 4 (A 3)) (unary 6 (function IsNaN) (A 5))))),
      becomes (leaf 9 (lookup by_key 0 none ((number 5, 1) ∷ (null, 4) ∷ (datum (float the_nan), 6) ∷ []))),
    )
    -- ======== A HashJoin has the join's.
    ∷ (after 4 (joined 5 (some (equals 4 (A 2) (B 3))) (table 0) (table 1)), becomes (join 5 false (hash 0 0) (table 0) (table 1)))
    -- ======== An emptied node: the Nothing and each of its Labels have its origin.
    ∷ (after 5 (table_with 1 (no 0)), becomes (leaf 1 (nothing ((qualified 7 8, 1) ∷ []))))
    ∷ (after 5 (over 1 (other (limit 0)) (table 0)), becomes (leaf 1 (nothing ((qualified 7 8, 1) ∷ []))))
    ∷ (after 5 (joined 3 (some (no 2)) (table 0) (table 1)), becomes (leaf 3 (nothing ((qualified 7 8, 3) ∷ (qualified 7 8, 3) ∷ []))))
    -- each node above it that is emptied in turn, its own
    ∷ (
      after 5 (over 4 (other (order ((A 2, true, 3) ∷ []))) (table_with 1 (no 0))),
      becomes (leaf 4 (nothing ((qualified 7 8, 4) ∷ []))),
    )
    -- a Nothing under a Filter that is removed is moved
    ∷ (after 5 (where_so 3 (yes 2) (leaf 1 (nothing ((qualified 7 8, 0) ∷ [])))), becomes (leaf 1 (nothing ((qualified 7 8, 0) ∷ []))))
    -- ======== Document 01's worked plans
    -- P1, after pass 1 and after all five
    ∷ (after 1 (where_so 7 (and 6 (yes 3) (not 5 (no 4))) (one_row 2 1 (one 0 ∷ []))), becomes (where_so 7 (yes 6) (one_row 2 1 (one 0 ∷ []))))
    ∷ (after_five (where_so 7 (and 6 (yes 3) (not 5 (no 4))) (one_row 2 1 (one 0 ∷ []))), becomes (one_row 2 1 (one 0 ∷ [])))
    -- P2: 9223372036854775806 + 1 folds
    ∷ (
      after_five (one_row 4 3 (plus 2 (constant 0 (number 9223372036854775806)) (constant 1 (number 1)) ∷ [])),
      becomes (one_row 4 3 (constant 2 (number 9223372036854775807) ∷ [])),
    )
    -- P3: 1 / 0.0 is +infinity
    ∷ (
      after_five (one_row 4 3 (binary 2 (function Divide) (one 0) (constant 1 (datum (float 0))) ∷ [])),
      becomes (one_row 4 3 (constant 2 (datum (float 0x7ff0000000000000)) ∷ [])),
    )
    -- P4: 9007199254740993 = 9007199254740992.0 is true
    ∷ (
      after_five (one_row 4 3 (equals 2 (constant 0 (number 9007199254740993)) (constant 1 (datum (float 0x4340000000000000))) ∷ [])),
      becomes (one_row 4 3 (yes 2 ∷ [])),
    )
    -- P5
    ∷ (expression (into_nnf (not 5 (not 4 (not 3 (and 2 (A 0) (B 1)))))), expression (not 3 (and 2 (A 0) (B 1))))
    -- P6: the inner Or spreads with its own
    ∷ (
      conjuncts (into_cnf_vec (or 6 (or 4 (and 2 (A 0) (B 1)) (C 3)) (D 5))),
      conjuncts (or 6 (and 4 (or 4 (A 0) (C 3)) (or 4 (B 1) (C 3))) (D 5) ∷ []),
    )
    -- P7
    ∷ (
      after 2 (where_so 11 (equals 10 (A 8) (five 9)) (joined 7 (some (equals 6 (A 4) (B 5))) (one_row 2 1 (one 0 ∷ [])) (table 3))),
      becomes
          (joined 7 (some (and 7 (equals 6 (A 4) (B 5)) (equals 10 (A 8) (five 9))))
          (one_row 2 1 (one 0 ∷ [])) (table_with 3 (and 7 (equals 10 (A 8) (five 9)) (equals 10 (A 8) (five 9))))),
    )
    -- P8
    ∷ (
      after_five (joined 13 (some (and 12 (and 8 (equals 4 (A 2) (five 3)) (equals 7 (A 5) (six 6))) (equals 11 (A 9) (B 10)))) (table 0) (table 1)),
      becomes
          (join 13 false (hash 0 0)
          (where_so 0 (equals 7 (A 5) (six 6)) (leaf 0 (lookup by_key 0 none ((number 5, 3) ∷ []))))
          (leaf 1 (lookup by_key 0 none ((number 6, 6) ∷ [])))),
    )
    -- P9
    ∷ (after_five (table_with 3 (equals 2 (A 0) (constant 1 null))), becomes (leaf 3 (nothing ((qualified 7 8, 3) ∷ []))))
    -- P10
    ∷ (
      after_five (joined 11 (some (equals 10 (A 8) (B 9))) (one_row 3 2 (one 0 ∷ two 1 ∷ [])) (one_row 7 6 (one 4 ∷ two 5 ∷ []))),
      becomes (joined 11 (some (equals 10 (A 8) (B 9))) (one_row 3 2 (one 0 ∷ two 1 ∷ [])) (one_row 7 6 (one 4 ∷ two 5 ∷ []))),
    )
    ∷ []

pub all_numbered : map (λ (w : Shown × Shown). w.0) numbered ≡ map (λ (w : Shown × Shown). w.1) numbered
unfolding into_cnf into_cnf_vec Optimizer.maybe_push_join Optimizer.index_lookup Room.maybe_push_join Room.maybe_push_filter Room.push_filters_from Room.FilterPushdown Room.index_lookup Room.IndexLookup Room.short_circuit Room.ShortCircuit compare_integers compare_floats checked add_integers Ieee.eq Ieee.lt Ieee.div Ieee.of_int Ieee.round Ieee.of_bits Ieee.to_bits
all_numbered = refl
