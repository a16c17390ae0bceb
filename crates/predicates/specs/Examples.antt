-- Plans of which the definitions are computed.
use Rattle.std.specs.Prelude.{true, false, ◌≡◌, refl, [], ◌∷◌}
use Rattle.std.proofs.Math.Option.{none, some}
use Rattle.sql.specs.Expression.{Expression, column}
use Rattle.sql.specs.Plan.{unlabelled, scan, values, limit, projection, filter, other, nested_loop, hash, Node, leaf, over, join}
use Rattle.sheet.specs.Cells.{expression_cells, leaf_cells, other_cells, over_cells, join_cells, cells}
use Rattle.predicates.specs.Predicates.{has_predicate, any_cell, predicated}

-- a Scan, and one with an alias and a filter
abbrev plain : Node
plain = leaf 1 (scan 0 none none)

abbrev filtered : Node
filtered = leaf 2 (scan 0 (some 5) (some (column 3 0)))

abbrev predicate : Expression
predicate = column 4 0

-- Each of the three is a predicate.
one_of_each : (has_predicate filtered ≡ true)
    × ((has_predicate (over 5 (other (limit 1)) (over 6 (filter predicate) plain)) ≡ true)
    × (has_predicate (join 7 false (hash 0 0) plain (join 8 true (nested_loop (some predicate)) plain plain)) ≡ true))
one_of_each = (refl, (refl, refl))

-- Expressions elsewhere, an alias, and an outer join without a predicate are none.
abbrev free : Node
free =
    over 9 (other (projection ((predicate, unlabelled, 14) ∷ [])))
    (join 10 true (nested_loop none) (leaf 11 (scan 0 (some 5) none)) (join 12 true (hash 0 0) plain (leaf 13 (values ((predicate ∷ [], 15) ∷ [])))))

none_at_all : (has_predicate free ≡ false) × (any_cell predicated (cells free) ≡ false)
unfolding cells leaf_cells other_cells over_cells join_cells expression_cells
none_at_all = (refl, refl)
