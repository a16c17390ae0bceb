-- What the code's findings stand for.
use Rattle.std.specs.Prelude.{Option, Some, None}
use Rattle.std.specs.declared.cmp.Ordering.{Ordering}
use Rattle.value.specs.Comparison as Defined
use Rattle.comparison.specs.declared.Finding.{Finding}

abbrev pub finding : Finding → Defined.Finding
finding Finding.Less = Defined.Less
finding Finding.Equal = Defined.Equal
finding Finding.Greater = Defined.Greater
finding Finding.Unordered = Defined.Unordered
finding Finding.NotComparable = Defined.NotComparable

-- A comparison finds nothing where one of the values is Null.
abbrev pub comparison : Option Finding → Defined.Comparison
comparison None = Defined.Null
comparison (Some f) = Defined.Found (finding f)

-- what the library's order of two values finds
abbrev pub ordered : Ordering → Defined.Finding
ordered Ordering.Less = Defined.Less
ordered Ordering.Equal = Defined.Equal
ordered Ordering.Greater = Defined.Greater
