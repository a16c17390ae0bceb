-- Document 01's worked plans that are marked with a star, P1 to P10: a single list, with one proof over the list.
use Rattle.std.specs.Prelude.{ℕ, false, List, [], ◌∷◌, map, ◌≡◌, refl, pos}
use Rattle.std.proofs.Math.Option.{none, some}
use Rattle.std.specs.Float.Ieee
use Rattle.value.specs.Value.{True, Value, truth, datum, integer, null, Result, ok}
use Rattle.value.specs.Meaning.{integer_bits, integer_of_bits}
use Rattle.value.specs.Comparison.{compare_integers, compare_floats}
use Rattle.value.specs.Arithmetic.{checked, add_integers, divide_integers}
use Rattle.sql.specs.Expression.{Expression, constant, and, or, not, evaluate, into_nnf, into_cnf, into_cnf_vec}
use Rattle.sql.specs.Plan.{qualified, by_key, scan, lookup, nothing, filter, nested_loop, hash, Node, leaf, over, join}
use Rattle.sql.specs.Answer.{Answer, done, refused}
use Rattle.sql.specs.Optimizer
use Rattle.sql.specs.Room
use Rattle.sql.specs.Room.{max_cells}
use Rattle.sql.specs.Samples.{keyed, scanned, one_row, number, double, equals, plus, divided_by, A, B, C, D}
use Rattle.sheet.specs.Bytes.{half, word, bytes}
use Rattle.sheet.specs.Parts.{length_ok, edition_ok, parts_ok, bad_record}
use Rattle.sheet.specs.Cell.{cell, cell_ok, bad_cell}
use Rattle.sheet.specs.Tree.{read}
use Rattle.sheet.specs.Examples as Sheets
use Rattle.list_plan.specs.Listed.{listed}

-- What document 01 speaks of: the lines that the listing program prints, a plan or a refusal with its place, an expression's value, an expression, the
-- conjuncts of one.
pub data Shown : Type 0 where
  lines : List ℕ → Shown
  plan : Answer Node → Shown
  value : Result Value → Shown
  expression : Expression → Shown
  conjuncts : List Expression → Shown

-- One of the ten, which may ask for two answers: what the definitions give, and what document 01 says.
pub record Worked : Type 0 where
  pub given : List Shown
  pub said : List Shown

-- A plan after one pass by its number, and after all five, with document 01's room. A Scan's table has one column, its key.
abbrev pub after_pass : ℕ → Node → Shown
after_pass k node = plan (Room.pass max_cells keyed k node)

abbrev pub after_five : Node → Shown
after_five node = plan (Room.optimize max_cells keyed node)

-- cells 3 bytes 68 columns 1
-- 0 3 0 1 0 0
-- 1 45 0 1 0 0
-- 2 63 0 1 0 0
-- kinds 1 1 1 total 3
abbrev pub P1 : Worked
P1 = record {
  given = lines (listed Sheets.P1) ∷ [];
  said =
      lines
      (99 ∷ 101 ∷ 108 ∷ 108 ∷ 115 ∷ 32 ∷ 51 ∷ 32 ∷ 98 ∷ 121 ∷ 116 ∷ 101 ∷ 115 ∷ 32 ∷ 54 ∷ 56 ∷ 32 ∷ 99 ∷ 111 ∷ 108 ∷ 117 ∷ 109 ∷ 110 ∷ 115 ∷ 32 ∷ 49 ∷ 10
      ∷ 48 ∷ 32 ∷ 51 ∷ 32 ∷ 48 ∷ 32 ∷ 49 ∷ 32 ∷ 48 ∷ 32 ∷ 48 ∷ 10
      ∷ 49 ∷ 32 ∷ 52 ∷ 53 ∷ 32 ∷ 48 ∷ 32 ∷ 49 ∷ 32 ∷ 48 ∷ 32 ∷ 48 ∷ 10
      ∷ 50 ∷ 32 ∷ 54 ∷ 51 ∷ 32 ∷ 48 ∷ 32 ∷ 49 ∷ 32 ∷ 48 ∷ 32 ∷ 48 ∷ 10
      ∷ 107 ∷ 105 ∷ 110 ∷ 100 ∷ 115 ∷ 32 ∷ 49 ∷ 32 ∷ 49 ∷ 32 ∷ 49 ∷ 32 ∷ 116 ∷ 111 ∷ 116 ∷ 97 ∷ 108 ∷ 32 ∷ 51 ∷ 10 ∷ [])
      ∷ [];
}

-- The place of a refusal is the operator, cell 2 behind its operands.
abbrev pub P2 : Worked
P2 = record {
  given =
      after_five (one_row (plus (number 9223372036854775807) (number 1) ∷ []))
      ∷ after_five (one_row (plus (number 9223372036854775806) (number 1) ∷ []))
      ∷ [];
  said = plan (refused 11 2) ∷ plan (done (one_row (number 9223372036854775807 ∷ []))) ∷ [];
}

-- 7FF0000000000000 is +infinity
abbrev pub P3 : Worked
P3 = record {
  given =
      after_five (one_row (divided_by (number 1) (number 0) ∷ []))
      ∷ after_five (one_row (divided_by (number 1) (double 0) ∷ []))
      ∷ [];
  said = plan (refused 12 2) ∷ plan (done (one_row (double 0x7ff0000000000000 ∷ []))) ∷ [];
}

-- 4340000000000000 is 9007199254740992.0
abbrev pub P4 : Worked
P4 = record {
  given = value (evaluate [] (equals (number 9007199254740993) (double 0x4340000000000000))) ∷ [];
  said = value (ok (truth True)) ∷ [];
}

abbrev pub P5 : Worked
P5 = record {
  given = expression (into_nnf (not 0 (not 0 (not 0 (and 0 A B))))) ∷ [];
  said = expression (not 0 (and 0 A B)) ∷ [];
}

abbrev pub P6 : Worked
P6 = record {
  given = conjuncts (into_cnf_vec (or 0 (or 0 (and 0 A B) C) D)) ∷ [];
  said = conjuncts (or 0 (and 0 (or 0 A C) (or 0 B C)) D ∷ []) ∷ [];
}

abbrev P7Join : Expression → Node → Node
P7Join predicate right = join 0 false (nested_loop (some predicate)) (one_row (number 1 ∷ [])) right

abbrev pub P7 : Worked
P7 = record {
  given = after_pass 2 (over 0 (filter (equals A (number 5))) (P7Join (equals A B) scanned)) ∷ [];
  said =
      plan (done (P7Join (and 0 (equals A B) (equals A (number 5))) (leaf 0 (scan 0 none (some (and 0 (equals A (number 5)) (equals A (number 5))))))))
      ∷ [];
}

abbrev looked_up : ℕ → Node
looked_up n = leaf 0 (lookup by_key 0 none ((datum (integer (pos n)), 0) ∷ []))

abbrev pub P8 : Worked
P8 = record {
  given = after_five (join 0 false (nested_loop (some (and 0 (and 0 (equals A (number 5)) (equals A (number 6))) (equals A B)))) scanned scanned) ∷ [];
  said = plan (done (join 0 false (hash 0 0) (over 0 (filter (equals A (number 6))) (looked_up 5)) (looked_up 6))) ∷ [];
}

-- The Nothing has a label for each column of the Scan.
abbrev pub P9 : Worked
P9 = record {
  given = after_five (leaf 0 (scan 0 none (some (equals A (constant 0 null))))) ∷ [];
  said = plan (done (leaf 0 (nothing ((qualified 7 8, 0) ∷ [])))) ∷ [];
}

abbrev P10Join : Node
P10Join = join 0 false (nested_loop (some (equals A B))) (one_row (number 1 ∷ number 2 ∷ [])) (one_row (number 1 ∷ number 2 ∷ []))

abbrev pub P10 : Worked
P10 = record { given = after_five P10Join ∷ []; said = plan (done P10Join) ∷ [] }

abbrev pub worked_plans : List Worked
worked_plans = P1 ∷ P2 ∷ P3 ∷ P4 ∷ P5 ∷ P6 ∷ P7 ∷ P8 ∷ P9 ∷ P10 ∷ []

pub all_worked : map (λ (w : Worked). w.given) worked_plans ≡ map (λ (w : Worked). w.said) worked_plans
unfolding listed half word bytes length_ok edition_ok parts_ok bad_record bad_cell cell_ok cell read integer_of_bits integer_bits into_cnf into_cnf_vec Optimizer.maybe_push_join Optimizer.index_lookup Room.maybe_push_join Room.maybe_push_filter Room.push_filters_from Room.FilterPushdown Room.index_lookup Room.IndexLookup Room.short_circuit Room.ShortCircuit compare_integers compare_floats checked add_integers divide_integers Ieee.eq Ieee.lt Ieee.div Ieee.of_int Ieee.round Ieee.of_bits Ieee.to_bits
all_worked = refl
