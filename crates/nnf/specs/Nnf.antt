-- What the code's helper for Not(And(l, r)) and Not(Or(l, r)) writes.
use Rattle.std.specs.Prelude.{ℕ, Bool, true, false, eqb}
use Rattle.sql.specs.Expression.{Logical, And, Or, logical, Expression, constant, column, unary, binary, into_nnf_not}
use Rattle.sheet.specs.Tags

-- And or Or, by its tag
abbrev pub by_tag : Bool → Logical
by_tag true = And
by_tag false = Or

-- both operands negated, under that operator
abbrev pub negated : (tag origin : ℕ) → Expression → Expression
negated t new (constant og v) = constant og v
negated t new (column og i) = column og i
negated t new (unary og o x) = unary og o x
negated t new (binary og o l r) = binary new (logical (by_tag (eqb t Tags.and))) (into_nnf_not new l) (into_nnf_not new r)
