-- expression.rs, evaluate: Is Null and Is NaN; value.rs: is_undefined.
use Rattle.std.specs.Prelude.{Bool, true, false}
use Rattle.std.specs.Float.Ieee as Ieee
use Rattle.value.specs.Value.{Truth, False, Unknown, True, Datum, integer, float, string, Value, truth, datum, null, boolean, Result, ok, err, mismatch}
use Rattle.value.specs.Comparison.{number_of}

abbrev pub is_unknown : Truth → Bool
is_unknown False = false
is_unknown Unknown = true
is_unknown True = false

abbrev pub is_nan_datum : Datum → Bool
is_nan_datum (integer a) = false
is_nan_datum (float a) = Ieee.is_nan (number_of a)
is_nan_datum (string r t) = false

-- Is Null is true for Null alone; it has a value at every operand.
abbrev pub is_null : Value → Result Value
is_null (truth a) = ok (boolean (is_unknown a))
is_null (datum f) = ok (boolean false)

-- Is NaN asks for a Float or Null.
abbrev pub is_nan : Value → Result Value
is_nan (truth False) = err mismatch
is_nan (truth Unknown) = ok null
is_nan (truth True) = err mismatch
is_nan (datum (integer a)) = err mismatch
is_nan (datum (float a)) = ok (boolean (Ieee.is_nan (number_of a)))
is_nan (datum (string r t)) = err mismatch

-- Null or NaN
abbrev pub is_undefined : Value → Bool
is_undefined (truth a) = is_unknown a
is_undefined (datum f) = is_nan_datum f
