-- What the code's values and answers stand for. Contracts say that what a outcome_of stands for equals the definition at what the arguments stand for.
use Rattle.std.specs.Prelude.{ℕ, ◌-◌, ◌/◌, ◌%◌, List, Bool, true, false, cond, ltb, ℤ, pos, negsuc, take, drop, Result, Ok, Err}
use Rattle.std.specs.Float.Ieee as Ieee
use Rattle.std.specs.Float.{binary64}
use Rattle.value.specs.Value as Defined
use Rattle.value.specs.Value.{Truth, integer, float, string, datum, null, boolean, ok, err, overflow, division_by_zero, mismatch}
use Rattle.value.specs.Logic.{and, or}
use Rattle.value.specs.declared.Value.{Value}
use Rattle.value.specs.declared.Error.{Error}

-- ---- text references: offset + 65,536 × length

abbrev pub offset : ℕ → ℕ
offset reference = reference % 65536

abbrev pub text_length : ℕ → ℕ
text_length reference = reference / 65536

-- the bytes of a text that a reference refers to
abbrev pub bytes_at : List ℕ → ℕ → List ℕ
bytes_at text reference = take (text_length reference) (drop (offset reference) text)

-- ---- values and answers

-- A Float's pattern is `to_bits`, at a NaN the one pattern 7FF8000000000000. A String is a reference into `text`.
abbrev pub meaning : List ℕ → Value → Defined.Value
meaning text Value.Null = null
meaning text (Value.Boolean b) = boolean b
meaning text (Value.Integer i) = datum (integer i)
meaning text (Value.Float x) = datum (float (Ieee.to_bits binary64 x))
meaning text (Value.String r) = datum (string r (bytes_at text r))

abbrev pub error : Error → Defined.Error
error Error.Overflow = overflow
error Error.DivisionByZero = division_by_zero
error Error.Mismatch = mismatch

abbrev pub outcome_of : List ℕ → Result Value Error → Defined.Result Defined.Value
outcome_of text (Ok v) = ok (meaning text v)
outcome_of text (Err e) = err (error e)

-- ---- the 64 bits of an Integer, in two's complement

unfoldable pub integer_bits : ℤ → ℕ
integer_bits (pos n) = n
integer_bits (negsuc n) = 18446744073709551615 - n

unfoldable pub integer_of_bits : ℕ → ℤ
integer_of_bits n = cond (ltb n 9223372036854775808) (pos n) (negsuc (18446744073709551615 - n))

-- ---- logic

-- the operator that a false side decides, and the one that a true side decides
abbrev pub table_of : Bool → Truth → Truth → Truth
table_of false = and
table_of true = or
