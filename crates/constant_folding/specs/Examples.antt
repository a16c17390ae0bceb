-- Which of several refusals a node gets.
use Rattle.std.specs.Prelude.{false, ◌≡◌, refl, [], ◌∷◌}
use Rattle.std.proofs.Math.Option.{some}
use Rattle.value.specs.Value.{True, truth}
use Rattle.value.specs.Arithmetic.{checked, add_integers}
use Rattle.sql.specs.Expression.{Expression, constant}
use Rattle.sql.specs.Plan.{Node, filter, over, nested_loop, join}
use Rattle.sql.specs.Answer.{refused}
use Rattle.sql.specs.Optimizer.{ConstantFolding}
use Rattle.sql.specs.Samples.{one_row, number, plus}
use Rattle.constant_folding.specs.Nodes.{node_refusal}

-- refused by 11
abbrev overflowing : Expression
overflowing = plus (number 9223372036854775807) (number 1)

-- five cells, refused by 13 at the third
abbrev mistyped : Node
mistyped = one_row (plus (number 1) (constant 0 (truth True)) ∷ [])

-- Its own parts are refused too, and come first.
own_first : node_refusal 5 (over 0 (filter overflowing) mistyped) 13 2 ≡ (11, 7)
unfolding checked add_integers
own_first = refl

-- They fold, and the source's refusal is the node's.
source_refused : node_refusal 5 (over 0 (filter (plus (number 1) (number 1))) mistyped) 13 2 ≡ (13, 2)
unfolding checked add_integers
source_refused = refl

-- a join of which the right source and the predicate are refused
right_and_own : (node_refusal 8 (join 0 false (nested_loop (some overflowing)) (one_row (number 1 ∷ [])) mistyped) 13 5 ≡ (11, 10))
    × (ConstantFolding 0 (join 0 false (nested_loop (some overflowing)) (one_row (number 1 ∷ [])) mistyped) ≡ refused 11 10)
unfolding checked add_integers
right_and_own = (refl, refl)
