-- value.rs, transcribed (Rust.antt says how).
use Rattle.std.specs.Prelude.{ℕ, ◌^◌, Bool, true, false, not, ◌&&◌, ◌||◌, cond, List, [], ◌∷◌, ltb, eqb, ℤ, pos, negsuc, ◌+ℤ◌, ◌-ℤ◌, ◌*ℤ◌}
use Rattle.std.specs.Bool.{beq}
use Rattle.std.proofs.Math.Option.{Option, none, some}
use Rattle.std.specs.Int.Signed.{mag, quot_z}
use Rattle.std.specs.Float.Ieee as Ieee
use Rattle.std.specs.Float.{binary64}
use Rattle.value.specs.Value.{False, Unknown, True, integer, float, string, Value, truth, datum, null, boolean, overflow, division_by_zero, mismatch}
use Rattle.sql.specs.Schema.{Column, no_column}
use Rattle.literal.specs.Rust.{Run, Ok, Err, Panic, ◌⇒◌, ◌&◌, ◌∣◌, ◌if◌, ◌else◌}

-- ---- The places at which the definitions do something else than the Rust: two of document 01's departures, and a case that no plan in scope has. `toydb` is the Rust, but for
-- the pattern of a NaN that is built, which document 01 fixes and `Float` below has in both. (Room, 14, and a short output, 15, are not the passes' own.)

pub record Departures : Type 0 where
  -- an Integer's quotient or negative that has no 64 bits
  pub overflowed : Run Value
  -- whether hash_join acts, of the left source's columns and the two columns, the lower one first
  pub one_on_each_side : ℕ → ℕ → ℕ → Bool
  -- a column that the table hasn't. No plan that a sheet stands for has one (refusal 9); the definitions give it no name and no index.
  pub no_such_column : Run Column

abbrev pub toydb : Departures
toydb = record { overflowed = Panic; one_on_each_side = λ n l r. true; no_such_column = Panic }

abbrev pub document_01 : Departures
document_01 = record { overflowed = Err overflow; one_on_each_side = λ n l r. ltb l n && not (ltb r n); no_such_column = Ok no_column }

-- ---- the Rust's own numbers and strings

abbrev pub in_i64 : ℤ → Option ℤ
in_i64 i = cond (ltb (mag i) (2 ^ 63)) (some i) none

abbrev pub i64_eq : ℤ → ℤ → Bool
i64_eq (pos a) (pos b) = eqb a b
i64_eq (pos a) (negsuc b) = false
i64_eq (negsuc a) (pos b) = false
i64_eq (negsuc a) (negsuc b) = eqb a b

abbrev pub f64 : Type 0
f64 = Ieee.Float

abbrev pub as_f64 : ℤ → f64
as_f64 i = Ieee.of_int binary64 i

abbrev pub bytes_eq : List ℕ → List ℕ → Bool
bytes_eq [] [] = true
bytes_eq [] (y ∷ ys) = false
bytes_eq (x ∷ xs) [] = false
bytes_eq (x ∷ xs) (y ∷ ys) = eqb x y && bytes_eq xs ys

abbrev pub bytes_lt : List ℕ → List ℕ → Bool
bytes_lt [] [] = false
bytes_lt [] (y ∷ ys) = true
bytes_lt (x ∷ xs) [] = false
bytes_lt (x ∷ xs) (y ∷ ys) = ltb x y || (eqb x y && bytes_lt xs ys)

-- ---- 42: enum Value, as patterns and as what is built

abbrev pub Null? : Value → Option Value
Null? (truth False) = none
Null? (truth Unknown) = some null
Null? (truth True) = none
Null? (datum d) = none

abbrev pub Boolean? : Value → Option Bool
Boolean? (truth False) = some false
Boolean? (truth Unknown) = none
Boolean? (truth True) = some true
Boolean? (datum d) = none

abbrev pub Integer? : Value → Option ℤ
Integer? (truth t) = none
Integer? (datum (integer i)) = some i
Integer? (datum (float f)) = none
Integer? (datum (string r t)) = none

abbrev pub Float? : Value → Option f64
Float? (truth t) = none
Float? (datum (integer i)) = none
Float? (datum (float f)) = some (Ieee.of_bits binary64 f)
Float? (datum (string r t)) = none

abbrev pub String? : Value → Option (List ℕ)
String? (truth t) = none
String? (datum (integer i)) = none
String? (datum (float f)) = none
String? (datum (string r t)) = some t

-- a value that fits one of these patterns, whole
abbrev pub number? : Value → Option Value
number? v = (Integer? v ⇒ λ i. v) ∣ (Float? v ⇒ λ f. v)

abbrev pub Boolean : Bool → Value
Boolean = boolean

abbrev pub Integer : ℤ → Value
Integer i = datum (integer i)

-- A departure of document 01: a NaN that is built has the one pattern 7FF8000000000000.
abbrev pub Float : f64 → Value
Float x = datum (float (Ieee.to_bits binary64 x))

-- ---- 93: fn eq

abbrev pub eq : Value → Value → Bool
eq self other =
    (Boolean? self & Boolean? other ⇒ λ (a, b). beq a b)
    else (Integer? self & Integer? other ⇒ λ (a, b). i64_eq a b)
    else (Integer? self & Float? other ⇒ λ (a, b). Ieee.eq (as_f64 a) b)
    else (Float? self & Integer? other ⇒ λ (a, b). Ieee.eq a (as_f64 b))
    else (Float? self & Float? other ⇒ λ (a, b). Ieee.eq a b || (Ieee.is_nan a && Ieee.is_nan b))
    else (String? self & String? other ⇒ λ (a, b). bytes_eq a b)
    else (Null? self & Null? other ⇒ λ p. true)
    else false

-- ---- 177: fn is_undefined

abbrev pub is_undefined : Value → Bool
is_undefined self =
    (Null? self ⇒ λ n. true)
    else (Float? self if Ieee.is_nan ⇒ λ f. true)
    else false

-- the i64 that an operation gives, or what happens where it has no 64 bits
abbrev pub IntegerOr : Run Value → ℤ → Run Value
IntegerOr overflow_is i = (in_i64 i ⇒ λ j. Ok (Integer j)) else overflow_is

-- ---- 186: fn checked_add

abbrev pub checked_add : Value → Value → Run Value
checked_add self other =
    (Integer? self & Integer? other ⇒ λ (lhs, rhs). IntegerOr (Err overflow) (lhs +ℤ rhs))
    else (Integer? self & Float? other ⇒ λ (lhs, rhs). Ok (Float (Ieee.add binary64 (as_f64 lhs) rhs)))
    else (Float? self & Integer? other ⇒ λ (lhs, rhs). Ok (Float (Ieee.add binary64 lhs (as_f64 rhs))))
    else (Float? self & Float? other ⇒ λ (lhs, rhs). Ok (Float (Ieee.add binary64 lhs rhs)))
    else (Null? self & (number? other ∣ Null? other) ⇒ λ p. Ok null)
    else (number? self & Null? other ⇒ λ p. Ok null)
    else Err mismatch

-- ---- 204: fn checked_div

-- `lhs / rhs` panics where the quotient has no 64 bits, unless document 01 departs.
abbrev pub checked_div : Departures → Value → Value → Run Value
checked_div departures self other =
    (Integer? self & (Integer? other if i64_eq (pos 0)) ⇒ λ p. Err division_by_zero)
    else (Integer? self & Integer? other ⇒ λ (lhs, rhs). IntegerOr departures.overflowed (quot_z lhs rhs))
    else (Integer? self & Float? other ⇒ λ (lhs, rhs). Ok (Float (Ieee.div binary64 (as_f64 lhs) rhs)))
    else (Float? self & Integer? other ⇒ λ (lhs, rhs). Ok (Float (Ieee.div binary64 lhs (as_f64 rhs))))
    else (Float? self & Float? other ⇒ λ (lhs, rhs). Ok (Float (Ieee.div binary64 lhs rhs)))
    else (Null? self & (number? other ∣ Null? other) ⇒ λ p. Ok null)
    else (number? self & Null? other ⇒ λ p. Ok null)
    else Err mismatch

-- ---- 220: fn checked_mul

abbrev pub checked_mul : Value → Value → Run Value
checked_mul self other =
    (Integer? self & Integer? other ⇒ λ (lhs, rhs). IntegerOr (Err overflow) (lhs *ℤ rhs))
    else (Integer? self & Float? other ⇒ λ (lhs, rhs). Ok (Float (Ieee.mul binary64 (as_f64 lhs) rhs)))
    else (Float? self & Integer? other ⇒ λ (lhs, rhs). Ok (Float (Ieee.mul binary64 lhs (as_f64 rhs))))
    else (Float? self & Float? other ⇒ λ (lhs, rhs). Ok (Float (Ieee.mul binary64 lhs rhs)))
    else (Null? self & (number? other ∣ Null? other) ⇒ λ p. Ok null)
    else (number? self & Null? other ⇒ λ p. Ok null)
    else Err mismatch

-- ---- 280: fn checked_sub

abbrev pub checked_sub : Value → Value → Run Value
checked_sub self other =
    (Integer? self & Integer? other ⇒ λ (lhs, rhs). IntegerOr (Err overflow) (lhs -ℤ rhs))
    else (Integer? self & Float? other ⇒ λ (lhs, rhs). Ok (Float (Ieee.sub binary64 (as_f64 lhs) rhs)))
    else (Float? self & Integer? other ⇒ λ (lhs, rhs). Ok (Float (Ieee.sub binary64 lhs (as_f64 rhs))))
    else (Float? self & Float? other ⇒ λ (lhs, rhs). Ok (Float (Ieee.sub binary64 lhs rhs)))
    else (Null? self & (number? other ∣ Null? other) ⇒ λ p. Ok null)
    else (number? self & Null? other ⇒ λ p. Ok null)
    else Err mismatch
