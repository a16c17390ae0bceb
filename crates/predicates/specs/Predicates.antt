-- Which plans have a predicate, how their cells tell, and the contract of the function that asks.
use Rattle.std.specs.Prelude.{ℕ, ◌%◌, Bool, true, false, ◌&&◌, ◌||◌, ◌≡◌, List, [], ◌∷◌, eqb}
use Rattle.sql.specs.Plan.{Leaf, Over, filter, other, Join, nested_loop, hash, Node, leaf, over, join}
use Rattle.sql.specs.Room.{scan_filter}
use Rattle.sheet.specs.Tags
use Rattle.sheet.specs.Cell.{Cell}
use Rattle.sheet.specs.Cells.{present}
use Rattle.words.specs.Place.{NodeHere}

-- ---- plans

abbrev pub leaf_has_filter : Leaf → Bool
leaf_has_filter l = present (scan_filter l)

abbrev pub is_filter : Over → Bool
is_filter (filter predicate) = true
is_filter (other o) = false

abbrev pub join_has_predicate : Join → Bool
join_has_predicate (nested_loop predicate) = present predicate
join_has_predicate (hash left_column right_column) = false

-- a Filter, a Scan with a filter, or a join with a predicate
abbrev pub has_predicate : Node → Bool
has_predicate (leaf og l) = leaf_has_filter l
has_predicate (over og o source) = has_predicate source || is_filter o
has_predicate (join og outer j left right) = has_predicate left || (has_predicate right || join_has_predicate j)

-- ---- cells

abbrev pub any_cell : (Cell → Bool) → List Cell → Bool
any_cell test [] = false
any_cell test (c ∷ cs) = test c || any_cell test cs

-- A Filter's cell, or that of a NestedLoopJoin or a Scan with bit 0 of the flag, which says that it has a predicate.
abbrev pub says_predicate : (tag flag : ℕ) → Bool
says_predicate tag flag = eqb tag Tags.filter || ((eqb tag Tags.nested_loop_join || eqb tag Tags.scan) && eqb (flag % 2) 1)

abbrev pub predicated : Cell → Bool
predicated c = says_predicate c.tag c.flag

-- ---- contract

abbrev pub HasPredicate : List ℕ → ℕ → Bool → Type 0
HasPredicate x n r = (p : Node) → NodeHere x 0 n p → r ≡ has_predicate p
