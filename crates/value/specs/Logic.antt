-- expression.rs, evaluate: And, Or and Not. The truth tables are those of ISO/IEC 9075-2 (boolean value expression); Tables.antt states them whole.
use Rattle.value.specs.Value.{Truth, False, Unknown, True, Value, truth, datum, Result, ok, err, mismatch}

abbrev pub not : Truth → Truth
not False = True
not Unknown = Unknown
not True = False

abbrev pub and : Truth → Truth → Truth
and False y = False
and True y = y
and Unknown False = False
and Unknown Unknown = Unknown
and Unknown True = Unknown

abbrev pub or : Truth → Truth → Truth
or True y = True
or False y = y
or Unknown False = Unknown
or Unknown Unknown = Unknown
or Unknown True = True

-- NOT of a value. Its operand must be a Boolean or Null.
abbrev pub logical_not : Value → Result Value
logical_not (truth a) = ok (truth (not a))
logical_not (datum f) = err mismatch

-- AND or OR, whichever `table` is, of two values. Both operands must be Booleans or Null: also of false AND 1 the Rust says that it can't.
abbrev pub logical : (Truth → Truth → Truth) → Value → Value → Result Value
logical table (truth a) (truth b) = ok (truth (table a b))
logical table (truth a) (datum g) = err mismatch
logical table (datum f) w = err mismatch

abbrev pub logical_and : Value → Value → Result Value
logical_and = logical and

abbrev pub logical_or : Value → Value → Result Value
logical_or = logical or
