-- What an operator with two operands makes of them, by what the code's closures give of two Integers and of two Floats; and the largest magnitude of a product.
use Rattle.std.specs.Prelude.{ℤ, Float, ◌≡◌, FitsSigned, Result, Ok, Err, ℕ, pos, negsuc}
use Rattle.std.specs.Int.{w64}
use Rattle.value.specs.Value as Defined
use Rattle.value.specs.Value.{datum, integer, ok, err}
use Rattle.value.specs.Meaning.{error}
use Rattle.value.specs.Arithmetic.{arithmetic}
use Rattle.value.specs.declared.Error.{Error}

-- what an Integer, or an error in its place, stands for
abbrev pub answered : Result ℤ Error → Defined.Result Defined.Value
answered (Ok i) = ok (datum (integer i))
answered (Err e) = err (error e)

-- `gives` says what the code may give of two Integers: it is what `whole` is.
abbrev pub OfIntegers : (ℤ → ℤ → Result ℤ Error → Type 0) → (ℤ → ℤ → Defined.Result Defined.Value) → Type 0
OfIntegers gives whole = (a b : ℤ) (r : Result ℤ Error) → FitsSigned w64 a → FitsSigned w64 b → gives a b r → answered r ≡ whole a b

-- the same of two Floats
abbrev pub OfFloats : (Float → Float → Float → Type 0) → (Float → Float → Float) → Type 0
OfFloats gives double = (x y r : Float) → gives x y r → r ≡ double x y

-- r is what the operator gives of two values, whichever operations the code gives on two Integers and on two Floats.
abbrev pub Operates : (ℤ → ℤ → Result ℤ Error → Type 0) → (Float → Float → Float → Type 0) → Defined.Value → Defined.Value → Defined.Result Defined.Value → Type 0
Operates integers floats lhs rhs r =
    (whole : ℤ → ℤ → Defined.Result Defined.Value) (double : Float → Float → Float)
    → OfIntegers integers whole → OfFloats floats double → r ≡ arithmetic whole double lhs rhs

-- The largest magnitude of a 64-bit product of two Integers with these signs: the smallest Integer's is one larger than the largest one's.
abbrev pub largest_magnitude : ℤ → ℤ → ℕ
largest_magnitude (pos a) (pos b) = 0x7FFFFFFFFFFFFFFF
largest_magnitude (pos a) (negsuc b) = 0x8000000000000000
largest_magnitude (negsuc a) (pos b) = 0x8000000000000000
largest_magnitude (negsuc a) (negsuc b) = 0x7FFFFFFFFFFFFFFF
