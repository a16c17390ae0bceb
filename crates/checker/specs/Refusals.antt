-- The causes of refusals, and what docs/FORMAT.md's table says of each: the number that is answered, and the place.
use Rattle.std.specs.Prelude.{ℕ}
use Rattle.sheet.specs.Check.{Numbers, refusal}
use Rattle.checker.specs.declared.refusals.Refusal.{Refusal}
use Rattle.checker.specs.declared.refusals.Refusal.TheVariants.{Pass, Length, Edition, Parts, Record, Cell, NotCarried, NotOnePlan, OutOfScope, RepeatedTarget, Overflow, DivisionByZero, Mismatch, NoRoom, OutputTooShort, OtherEdition}

abbrev pub number_of : Refusal → ℕ
number_of Pass = 1
number_of Length = 2
number_of Edition = 3
number_of Parts = 4
number_of (Record i) = 5
number_of (Cell i) = 6
number_of (NotCarried i) = 7
number_of (NotOnePlan i) = 8
number_of (OutOfScope i) = 9
number_of (RepeatedTarget i) = 10
number_of (Overflow i) = 11
number_of (DivisionByZero i) = 12
number_of (Mismatch i) = 13
number_of NoRoom = 14
number_of (OutputTooShort needed) = 15
number_of OtherEdition = 21

-- 0 where the cause has no place
abbrev pub place_of : Refusal → ℕ
place_of Pass = 0
place_of Length = 0
place_of Edition = 0
place_of Parts = 0
place_of (Record i) = i
place_of (Cell i) = i
place_of (NotCarried i) = i
place_of (NotOnePlan i) = i
place_of (OutOfScope i) = i
place_of (RepeatedTarget i) = i
place_of (Overflow i) = i
place_of (DivisionByZero i) = i
place_of (Mismatch i) = i
place_of NoRoom = 0
place_of (OutputTooShort needed) = needed
place_of OtherEdition = 0

-- The answer in numbers.
abbrev pub refusal_of : Refusal → Numbers
refusal_of r = refusal (number_of r) (place_of r)
