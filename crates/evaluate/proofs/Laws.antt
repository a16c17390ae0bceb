-- What a constant's cell says, and which operator a tag tells of.
use Prim.Native.Nat.{ℕ, ◌+◌, ◌/◌, ◌%◌, ◌^◌, ◌<◌}
use native.Mathlib.Omega.{arith}
use native.Mathlib.Nat.{mod-eq_of_lt, div-eq_of_lt, mod-lt, mod-add-div}
use borrow.Author.Tests.{eqb-true, ne_eqb, leb-true}
use mathlib.Core.Path.{◌≡◌, refl, sym, ap, ◌∙◌, subst}
use mathlib.Core.Bool.{Bool, true, false, not, ◌||◌, cond}
use mathlib.Core.List.{List}
use lib.Dec.{T, eqb}
use lib.IntN.{ℤ}
use lib.ListN.{length}
use mir.Val.{bool_byte}
use lib.Ieee as Ieee
use lib.Ieee.{binary64}
use lib.Ieee.Bits.{to_bits-of_bits, nan_bits_is}
use Rattle.value.specs.Value.{False, Unknown, True, integer, float, string, Value, truth, datum, null, boolean, the_nan}
use Rattle.value.specs.Meaning.{bytes_at, integer_bits, integer_of_bits}
use Rattle.sql.specs.Expression.{And, Or, IsNull, IsNaN, Identity, Negate, SquareRoot, GreaterThan, LessThan, Add, Divide, Subtract, Multiply, Unary, Not, function, Binary, logical, Equal, evaluate_unary, evaluate_binary}
use Rattle.sheet.specs.Cell.{wide}
use Rattle.sheet.specs.Content.{unary_tag, binary_tag, constant_cell}
use Rattle.sheet_laws.specs.Fits.{ValueFits}
use Rattle.sheet_laws.specs.Exact.{integer_kept, bits_bound, wide_halves, low_word, high_word}
use Rattle.cells.specs.declared.Cell.{Cell}
use Rattle.words.specs.Words.{cell}
use Rattle.evaluate.specs.Evaluate.{of_halves, ConstantCell}

-- ---- from a cell to its constant

the_one : Ieee.to_bits binary64 (Ieee.of_bits binary64 the_nan) ≡ the_nan
unfolding Ieee.of_bits Ieee.to_bits
the_one = refl

-- A pattern of 64 bits is kept by reading and writing it, if it is no NaN but the one.
pattern_kept : (b : ℕ) → b < 2 ^ 64 → (not (Ieee.nan_bits binary64 b) || eqb b the_nan) ≡ true → Ieee.to_bits binary64 (Ieee.of_bits binary64 b) ≡ b
pattern_kept b f h = go (Ieee.nan_bits binary64 b) refl h
  where
    go : (t : Bool) → Ieee.nan_bits binary64 b ≡ t → (not t || eqb b the_nan) ≡ true → Ieee.to_bits binary64 (Ieee.of_bits binary64 b) ≡ b
    go false e k = to_bits-of_bits binary64 b f (subst (λ x. T (not x)) (sym e ∙ nan_bits_is binary64 b) tt)
    go true e k = let z : b ≡ the_nan = eqb-true b the_nan k in rw z the_one

-- the constant of a cell with tag t and numbers a and b
abbrev pub value_said : List ℕ → ℕ → ℕ → ℕ → Value
value_said text t a b =
    cond (eqb t 1) null
    (cond (eqb t 2) (boolean (eqb a 1))
    (cond (eqb t 3) (datum (integer (integer_of_bits (wide a b))))
    (cond (eqb t 4) (datum (float (Ieee.to_bits binary64 (Ieee.of_bits binary64 (wide a b))))) (datum (string a (bytes_at text a))))))

pub value_same : (text : List ℕ) (og : ℕ) (v : Value) → ValueFits text (length text) v
    → value_said text (cell og (constant_cell v)).tag (cell og (constant_cell v)).a (cell og (constant_cell v)).b ≡ v
unfolding cell
value_same text og (truth False) f = refl
value_same text og (truth Unknown) f = refl
value_same text og (truth True) f = refl
value_same text og (datum (integer n)) f = ap (λ (i : ℤ). datum (integer i)) (ap integer_of_bits (wide_halves (integer_bits n)) ∙ integer_kept n f)
value_same text og (datum (float b)) f = ap (λ (n : ℕ). datum (float n)) (ap (λ (n : ℕ). Ieee.to_bits binary64 (Ieee.of_bits binary64 n)) (wide_halves b) ∙ pattern_kept b f.0 f.1)
value_same text og (datum (string r s)) f = ap (λ (l : List ℕ). datum (string r l)) (sym f.1)

module _ {k : Cell} (text : List ℕ) (og : ℕ) (v : Value) (f : ValueFits text (length text) v) (e : k ≡ cell og (constant_cell v)) where
  pub said : value_said text k.tag k.a k.b ≡ v
  said = rw e (value_same text og v f)

  -- by its tag
  pub said_at : (t : ℕ) → k.tag ≡ t → value_said text t k.a k.b ≡ v
  said_at t h = ap (λ (n : ℕ). value_said text n k.a k.b) (sym h) ∙ said

  pub said_else : (k.tag ≡ 1 → ⊥) → (k.tag ≡ 2 → ⊥) → (k.tag ≡ 3 → ⊥) → (k.tag ≡ 4 → ⊥) → datum (string k.a (bytes_at text k.a)) ≡ v
  said_else g h i j = simp (ne_eqb k.tag 1 g, ne_eqb k.tag 2 h, ne_eqb k.tag 3 i, ne_eqb k.tag 4 j) at said

-- The numbers of a constant's cell have 32 bits.
abbrev pub Halves : Cell → Type 0
Halves k = (k.a < 4294967296) × (k.b < 4294967296)

constant_halves : (text : List ℕ) → length text < 65536 → (og : ℕ) (v : Value) → ValueFits text (length text) v → Halves (cell og (constant_cell v))
unfolding cell
constant_halves text h og (truth False) f = (omega arith, omega arith)
constant_halves text h og (truth Unknown) f = (omega arith, omega arith)
constant_halves text h og (truth True) f = (omega arith, omega arith)
constant_halves text h og (datum (integer n)) f = (low_word (integer_bits n), high_word (integer_bits n) (bits_bound n f))
constant_halves text h og (datum (float b)) f = (low_word b, high_word b f.0)
constant_halves text h og (datum (string r s)) f =
    (omega (arith, leb-true (r % 65536 + r / 65536) (length text) f.0, mod-add-div r 65536, mod-lt r {m = 65536} (omega arith)), omega arith)

pub halves : {k : Cell} → ConstantCell k → Halves k
halves t = subst Halves (sym t.is) (constant_halves t.text t.short t.og t.v t.fits)

-- ---- from a constant to its cell

pub null_cell : (og : ℕ) → of_halves og 1 0 ≡ cell og (constant_cell null)
unfolding cell
null_cell og = refl

pub boolean_cell : (og : ℕ) (b : Bool) → of_halves og 2 (bool_byte b) ≡ cell og (constant_cell (boolean b))
unfolding cell
boolean_cell og true = refl
boolean_cell og false = refl

pub integer_cell : (og : ℕ) (i : ℤ) → of_halves og 3 (integer_bits i) ≡ cell og (constant_cell (datum (integer i)))
unfolding cell
integer_cell og i = refl

pub float_cell : (og b : ℕ) → of_halves og 4 b ≡ cell og (constant_cell (datum (float b)))
unfolding cell
float_cell og b = refl

pub string_cell : (og r : ℕ) (s : List ℕ) → r < 4294967296 → of_halves og 5 r ≡ cell og (constant_cell (datum (string r s)))
unfolding cell
string_cell og r s h = rw (mod-eq_of_lt h, div-eq_of_lt h)

-- ---- operators

abbrev unary_of : ℕ → Unary
unary_of t =
    cond (eqb t 30) Not
    (cond (eqb t 31) (function IsNull) (cond (eqb t 32) (function IsNaN) (cond (eqb t 33) (function Identity) (cond (eqb t 36) (function SquareRoot) (function Negate)))))

unary_same : (p : Unary) → unary_of (unary_tag p) ≡ p
unary_same Not = refl
unary_same (function IsNull) = refl
unary_same (function IsNaN) = refl
unary_same (function Identity) = refl
unary_same (function Negate) = refl
unary_same (function SquareRoot) = refl

abbrev binary_of : ℕ → Binary
binary_of t =
    cond (eqb t 10) (logical And)
    (cond (eqb t 11) (logical Or)
    (cond (eqb t 12) Equal
    (cond (eqb t 13) (function GreaterThan) (cond (eqb t 14) (function LessThan) (cond (eqb t 15) (function Add)
    (cond (eqb t 17) (function Subtract) (cond (eqb t 18) (function Multiply) (function Divide))))))))

binary_same : (p : Binary) → binary_of (binary_tag p) ≡ p
binary_same (logical And) = refl
binary_same (logical Or) = refl
binary_same Equal = refl
binary_same (function GreaterThan) = refl
binary_same (function LessThan) = refl
binary_same (function Add) = refl
binary_same (function Divide) = refl
binary_same (function Subtract) = refl
binary_same (function Multiply) = refl

module _ {o : ℕ} (p : Unary) (e : unary_tag p ≡ o) where
  is_unary : unary_of o ≡ p
  is_unary = ap unary_of (sym e) ∙ unary_same p

  pub unary_at : (t : ℕ) → o ≡ t → (v : Value) → evaluate_unary (unary_of t) v ≡ evaluate_unary p v
  unary_at t h v = ap (λ (q : Unary). evaluate_unary q v) (ap unary_of (sym h) ∙ is_unary)

  pub unary_else : (o ≡ 30 → ⊥) → (o ≡ 31 → ⊥) → (o ≡ 32 → ⊥) → (o ≡ 33 → ⊥) → (o ≡ 36 → ⊥) → (v : Value) → evaluate_unary (function Negate) v ≡ evaluate_unary p v
  unary_else g h i j k v = ap (λ (q : Unary). evaluate_unary q v) (simp (ne_eqb o 30 g, ne_eqb o 31 h, ne_eqb o 32 i, ne_eqb o 33 j, ne_eqb o 36 k) at is_unary)

module _ {o : ℕ} (p : Binary) (e : binary_tag p ≡ o) where
  is_binary : binary_of o ≡ p
  is_binary = ap binary_of (sym e) ∙ binary_same p

  pub binary_at : (t : ℕ) → o ≡ t → (v w : Value) → evaluate_binary (binary_of t) v w ≡ evaluate_binary p v w
  binary_at t h v w = ap (λ (q : Binary). evaluate_binary q v w) (ap binary_of (sym h) ∙ is_binary)

  pub binary_else : (o ≡ 10 → ⊥) → (o ≡ 11 → ⊥) → (o ≡ 12 → ⊥) → (o ≡ 13 → ⊥) → (o ≡ 14 → ⊥) → (o ≡ 15 → ⊥) → (o ≡ 17 → ⊥) → (o ≡ 18 → ⊥)
      → (v w : Value) → evaluate_binary (function Divide) v w ≡ evaluate_binary p v w
  binary_else g h i j k l m n v w =
      ap (λ (q : Binary). evaluate_binary q v w) (simp (ne_eqb o 10 g, ne_eqb o 11 h, ne_eqb o 12 i, ne_eqb o 13 j, ne_eqb o 14 k, ne_eqb o 15 l, ne_eqb o 17 m, ne_eqb o 18 n) at is_binary)
