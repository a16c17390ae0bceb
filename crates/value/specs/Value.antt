-- value.rs: the values of expressions.
use Rattle.std.specs.Prelude.{ℕ, Bool, true, false, List, ℤ}

-- The truth values of ISO/IEC 9075. Null stands in a truth value's place as Unknown.
pub data Truth : Type 0 where
  False Unknown True : Truth

-- What is neither Null nor a Boolean. A float is its 64-bit pattern, so that a NaN keeps its bits. A string is the text reference that a sheet
-- writes for it, and the bytes that this refers to: strings are compared by their bytes, and written back by their reference.
pub data Datum : Type 0 where
  integer : ℤ → Datum
  float : ℕ → Datum
  string : ℕ → List ℕ → Datum

-- the pattern of the one NaN that operators write and that a sheet may hold
abbrev pub the_nan : ℕ
the_nan = 0x7FF8000000000000

-- The Rust's Value: Null and Boolean(b) are the three truth values.
pub data Value : Type 0 where
  truth : Truth → Value
  datum : Datum → Value

abbrev pub null : Value
null = truth Unknown

abbrev pub ofBool : Bool → Truth
ofBool true = True
ofBool false = False

abbrev pub boolean : Bool → Value
boolean b = truth (ofBool b)

-- Why an operator has no value. `number` is document 01's.
pub data Error : Type 0 where
  overflow division_by_zero mismatch : Error

abbrev pub number : Error → ℕ
number overflow = 11
number division_by_zero = 12
number mismatch = 13

-- The Rust's Result.
pub data Result (A : Type 0) : Type 0 where
  ok : A → Result A
  err : Error → Result A
