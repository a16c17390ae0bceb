-- Plans and expressions beside document 01's worked ones (crate list_plan), for what those leave open, and others of their sort; and the limit of size.
use Rattle.std.specs.Prelude.{ℕ, zero, suc, false, ◌≡◌, refl, List, [], ◌∷◌, map, pos}
use Rattle.std.proofs.Math.Option.{none, some}
use Rattle.std.specs.Int.Signed.{lt_z}
use Rattle.value.specs.Value.{True, False, truth, datum, integer, null}
use Rattle.value.specs.Comparison.{compare_integers}
use Rattle.value.specs.Arithmetic.{checked, add_integers}
use Rattle.sql.specs.Schema.{Column, Schema, Integer}
use Rattle.sql.specs.Expression.{Expression, constant, column, and, or, not, into_nnf, into_cnf, into_cnf_vec}
use Rattle.sql.specs.Plan.{unlabelled, qualified, by_key, by_index, scan, lookup, nothing, values, limit, aggregate, filter, other, nested_loop, hash, Node, leaf, over, join, node_size}
use Rattle.sql.specs.Answer.{Answer, done, refused}
use Rattle.sql.specs.Optimizer
use Rattle.sql.specs.Room
use Rattle.sql.specs.Room.{max_cells}
use Rattle.sql.specs.Samples.{keyed, scanned, one_row, number, equals, plus, A, B, C, D}

-- ---- normal forms

-- each with its answer
abbrev pub further_forms : List (Expression × Expression)
further_forms =
    -- into_nnf goes on below what two Nots have left, and so does not turn the third one round
    (into_nnf (not 0 (not 0 (not 0 (or 0 A B)))), not 0 (or 0 A B))
    -- into_cnf has passed the upper Or when the lower one becomes an And
    ∷ (into_cnf (or 0 D (or 0 C (and 0 A B))), or 0 D (and 0 (or 0 C A) (or 0 C B)))
    ∷ []

pub all_forms : map (λ (w : Expression × Expression). w.0) further_forms ≡ map (λ (w : Expression × Expression). w.1) further_forms
unfolding into_cnf
all_forms = refl

-- ---- plans

abbrev true_constant : Expression
true_constant = constant 0 (truth True)

-- refused by 11, and by 13
abbrev overflowing : Expression
overflowing = plus (number 9223372036854775807) (number 1)

abbrev mistyped : Expression
mistyped = plus (number 1) true_constant

abbrev two_values : Expression → Node
two_values predicate = join 0 false (nested_loop (some predicate)) (one_row (number 1 ∷ [])) (one_row (number 2 ∷ []))

abbrev filtered : Expression → Node
filtered predicate = leaf 0 (scan 0 none (some predicate))

abbrev wide_left : Node
wide_left = join 0 false (nested_loop (some (equals A B))) (one_row (number 1 ∷ number 2 ∷ [])) scanned

abbrev after_pass : ℕ → Node → Answer Node
after_pass = Room.pass max_cells keyed

-- each with its answer
abbrev pub further_plans : List (Answer Node × Answer Node)
further_plans =
    -- a part that the right source doesn't take comes back with its columns moved up again
    (after_pass 2 (two_values (equals B (number 5))), done (two_values (equals B (number 5))))
    -- a conjunct without columns goes to both sides, and comes back from both
    ∷ (after_pass 2 (two_values true_constant), done (two_values (and 0 true_constant true_constant)))
    -- what is copied to the left is the last lookup on the right
    ∷ (
      after_pass 2 (join 0 false (nested_loop (some (and 0 (and 0 (equals B (number 5)) (equals A B)) (equals B (number 6))))) scanned scanned),
      done (join 0 false (nested_loop (some (equals A B))) (filtered (equals A (number 6))) (filtered (and 0 (equals A (number 5)) (equals A (number 6))))),
    )
    -- And with Null is not folded
    ∷ (after_pass 1 (over 0 (filter (and 0 (constant 0 null) A)) scanned), done (over 0 (filter (and 0 (constant 0 null) A)) scanned))
    -- the place of a refusal is the operator whose operands have become constants: cell 5, not 3
    ∷ (after_pass 1 (over 0 (filter (and 0 (and 0 A (constant 0 (truth False))) (number 5))) scanned), refused 13 5)
    -- a node's own expressions are folded before its source's
    ∷ (after_pass 1 (over 0 (filter overflowing) (one_row (mistyped ∷ []))), refused 11 7)
    -- a join's before its left source's, and these before its right one's
    ∷ (after_pass 1 (join 0 false (nested_loop (some overflowing)) (one_row (mistyped ∷ [])) (one_row (overflowing ∷ []))), refused 11 12)
    ∷ (after_pass 1 (join 0 false (nested_loop (some true_constant)) (one_row (mistyped ∷ [])) (one_row (overflowing ∷ []))), refused 13 2)
    ∷ (after_pass 1 (join 0 false (nested_loop (some true_constant)) (one_row (number 1 ∷ [])) (one_row (overflowing ∷ []))), refused 11 5)
    -- an Aggregate over a Nothing stays; so does a Limit above 0, and a Limit of 0 doesn't
    ∷ (after_pass 5 (over 0 (other (aggregate [] ((1, A, 0) ∷ []))) (leaf 0 (nothing ((unlabelled, 0) ∷ [])))), done (over 0 (other (aggregate [] ((1, A, 0) ∷ []))) (leaf 0 (nothing ((unlabelled, 0) ∷ [])))))
    ∷ (after_pass 5 (over 0 (other (limit 1)) (leaf 0 (nothing []))), done (over 0 (other (limit 1)) (leaf 0 (nothing []))))
    ∷ (after_pass 5 (over 0 (other (limit 0)) scanned), done (leaf 0 (nothing ((qualified 7 8, 0) ∷ []))))
    -- an Or of lookups of one column is one lookup, to which = NULL adds no value
    ∷ (
      after_pass 3 (filtered (or 0 (equals A (number 1)) (or 0 (equals A (constant 0 null)) (equals (number 2) A)))),
      done (leaf 0 (lookup by_key 0 none ((datum (integer (pos 1)), 0) ∷ (datum (integer (pos 2)), 0) ∷ []))),
    )
    -- of two lookups the first is taken
    ∷ (
      after_pass 3 (filtered (and 0 (equals A (number 1)) (equals A (number 2)))),
      done (over 0 (filter (equals A (number 2))) (leaf 0 (lookup by_key 0 none ((datum (integer (pos 1)), 0) ∷ [])))),
    )
    -- where nothing is found, the filter stays as it was
    ∷ (after_pass 3 (filtered (or 0 (and 0 A B) A)), done (filtered (or 0 (and 0 A B) A)))
    -- two columns of the left source make no HashJoin
    ∷ (after_pass 4 wide_left, done wide_left)
    ∷ []

pub all_further : map (λ (w : Answer Node × Answer Node). w.0) further_plans ≡ map (λ (w : Answer Node × Answer Node). w.1) further_plans
unfolding into_cnf into_cnf_vec Optimizer.maybe_push_join Optimizer.index_lookup Room.maybe_push_join Room.maybe_push_filter Room.push_filters_from Room.FilterPushdown Room.index_lookup Room.IndexLookup Room.short_circuit Room.ShortCircuit checked add_integers
all_further = refl

-- ---- the limit of size

-- The number of cells of a plan after pass 2, or the refusal's number and place.
pub data Cells : Type 0 where
  cells : ℕ → Cells
  refusal : (number place : ℕ) → Cells

abbrev pub cells_of : Answer Node → Cells
cells_of (done node) = cells (node_size node)
cells_of (refused number place) = refusal number place

-- n Filters of true over a join of two Values: n + 1 splits, and each doubles what comes back.
abbrev pub filters : ℕ → Node
filters zero = join 0 false (nested_loop none) (one_row (number 1 ∷ [])) (one_row (number 2 ∷ []))
filters (suc n) = over 0 (filter true_constant) (filters n)

abbrev pub pushed_cells : ℕ → Cells
pushed_cells n = cells_of (Room.pass max_cells keyed 2 (filters n))

pub splits_grow : map pushed_cells (1 ∷ 2 ∷ 3 ∷ 4 ∷ 5 ∷ 6 ∷ 7 ∷ [])
    ≡ (cells 14 ∷ cells 38 ∷ cells 102 ∷ cells 262 ∷ cells 646 ∷ cells 1542 ∷ refusal 14 0 ∷ [])
unfolding into_cnf into_cnf_vec Optimizer.maybe_push_join Room.maybe_push_join Room.maybe_push_filter Room.push_filters_from Room.FilterPushdown
splits_grow = refl

-- The whole plan counts, as it is at that moment: where both sources of this join, one after the other, become a Nothing with three Labels, the plan
-- has nine cells, though in the end the join is a Nothing of seven.
abbrev pub three_columns : Schema
three_columns =
    let c : Column = record { name = 8; kind = Integer; index = false } in
    record { name = 7; primary_key = 0; columns = c ∷ c ∷ c ∷ [] } ∷ []

abbrev pub emptied_join : Node
emptied_join = join 0 false (nested_loop none) (over 0 (other (limit 0)) scanned) (over 0 (other (limit 0)) scanned)

abbrev pub emptied_cells : ℕ → Cells
emptied_cells room = cells_of (Room.pass room three_columns 5 emptied_join)

pub whole_plan_counts : map emptied_cells (8 ∷ 9 ∷ []) ≡ (refusal 14 0 ∷ cells 7 ∷ [])
unfolding Room.short_circuit Room.ShortCircuit
whole_plan_counts = refl
