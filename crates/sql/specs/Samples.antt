-- A schema, and short names for small plans and expressions, which examples are written in.
use Rattle.std.specs.Prelude.{ℕ, false, List, [], ◌∷◌, pos}
use Rattle.std.proofs.Math.Option.{none}
use Rattle.value.specs.Value.{datum, integer, float}
use Rattle.sql.specs.Schema.{Schema, Integer}
use Rattle.sql.specs.Expression.{Expression, constant, column, binary, Equal, function, Add, Divide}
use Rattle.sql.specs.Plan.{scan, values, Node, leaf}

-- One table, named by text 7, with one column, named by text 8, which is its key.
abbrev pub keyed : Schema
keyed = record { name = 7; primary_key = 0; columns = record { name = 8; kind = Integer; index = false } ∷ [] } ∷ []

abbrev pub scanned : Node
scanned = leaf 0 (scan 0 none none)

abbrev pub one_row : List Expression → Node
one_row row = leaf 0 (values ((row, 0) ∷ []))

abbrev pub number : ℕ → Expression
number n = constant 0 (datum (integer (pos n)))

abbrev pub double : ℕ → Expression
double bits = constant 0 (datum (float bits))

abbrev pub equals : Expression → Expression → Expression
equals = binary 0 Equal

abbrev pub plus : Expression → Expression → Expression
plus = binary 0 (function Add)

abbrev pub divided_by : Expression → Expression → Expression
divided_by = binary 0 (function Divide)

abbrev pub A : Expression
A = column 0 0

abbrev pub B : Expression
B = column 0 1

abbrev pub C : Expression
C = column 0 2

abbrev pub D : Expression
D = column 0 3
