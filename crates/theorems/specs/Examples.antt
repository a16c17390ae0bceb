-- The sizes of Sizes.antt, worked out for two plans.
use Rattle.std.specs.Prelude.{false, ◌≡◌, refl, [], ◌∷◌, ◌++◌}
use Rattle.std.proofs.Math.Option.{none, some}
use Rattle.value.specs.Value.{True, truth}
use Rattle.value.specs.Arithmetic.{checked, add_integers}
use Rattle.sql.specs.Expression.{Expression, constant, and, into_cnf, into_cnf_vec}
use Rattle.sql.specs.Plan.{scan, limit, filter, other, nested_loop, Node, leaf, over, join}
use Rattle.sql.specs.Optimizer
use Rattle.sql.specs.Samples.{keyed, scanned, one_row, number, equals, plus, A, B}
use Rattle.theorems.specs.Sizes

abbrev always : Expression
always = constant 0 (truth True)

-- 22 cells: a Limit (1) over a NestedLoopJoin (6, with its predicate) of a Filter (4) over a Scan (1), and of a Scan (10)
abbrev visited : Node
visited =
    over 0 (other (limit 5))
    (join 0 false (nested_loop (some (and 0 (equals A B) always))) (over 0 (filter (and 0 always always)) scanned)
    (leaf 0 (scan 0 none (some (and 0 (and 0 (equals A (number 1)) (equals A (number 2))) always)))))

in_each_pass : Sizes.optimize keyed visited
    ≡ (22 ∷ 20 ∷ 18 ∷ 18 ∷ 16 ∷ [])  -- the Limit; the join and the Filter, which fold an And with true; its Scan; the right Scan, which folds one too
    ++ ((16 ∷ 3 ∷ 3 ∷ 16 ∷ [])  -- the Limit; two normal forms, and the join, which is split and stays
    ++ ((15 ∷ 15 ∷ 15 ∷ 15 ∷ [])  -- the Filter is merged, and the join rule tried twice; the right Scan
    ++ ((15 ∷ 15 ∷ 1 ∷ 1 ∷ 15 ∷ [])  -- the Limit; the join; two normal forms, and the left Scan, which stays
    ++ ((7 ∷ 7 ∷ 13 ∷ 13 ∷ [])  -- two normal forms, and the right Scan, which becomes a Filter over a lookup; the lookup
    ++ ((13 ∷ 10 ∷ 10 ∷ 10 ∷ 10 ∷ [])  -- the Limit; the join, which becomes a HashJoin; the Scan; the Filter; the lookup
    ++ (9 ∷ 9 ∷ 9 ∷ 9 ∷ 9 ∷ []))))))  -- the Scan, which loses its filter; the lookup; the Filter; the join; the Limit
unfolding into_cnf into_cnf_vec Sizes.maybe_push_filter Sizes.push_filters_from Optimizer.maybe_push_join Optimizer.maybe_push_filter Optimizer.push_filters_from Optimizer.FilterPushdown Optimizer.index_lookup Optimizer.IndexLookup
in_each_pass = refl

-- The left source's visit is refused, by 13: the size after the join's visit is the only one.
up_to_a_refusal : Sizes.optimize keyed (join 0 false (nested_loop (some (and 0 always always))) (one_row (plus (number 1) always ∷ [])) (one_row (number 1 ∷ []))) ≡ (10 ∷ [])
unfolding checked add_integers
up_to_a_refusal = refl
