-- Content that is exact: its cell passes the test, and says that content.
use Prim.Native.Nat.{ℕ, ◌+◌, ◌-◌, ◌*◌, ◌/◌, ◌%◌, ◌^◌, ◌<◌}
use Rattle.std.proofs.Common.{mod-lt, div-lt_iff_lt-mul, arith, leb-true, lt-ltb, le-ltb, sym, ◌∙◌}
use Rattle.std.proofs.Math.Nat.{mod-add-div}
use Rattle.std.specs.Prelude.{◌≡◌, ◌||◌, ltb, ℤ, pos, negsuc}
use Rattle.std.proofs.Math.Path.{refl, ap}
use Rattle.std.proofs.Math.Bool.{true, false, not}
use mathlib.Core.List.{List}
use Rattle.std.proofs.Math.Option.{none, some}
use Rattle.std.proofs.Math.Dec.{eqb}
use Rattle.std.specs.Float.Ieee as Ieee
use Rattle.std.specs.Int.Signed.{mag}
use Rattle.value.specs.Value.{True, False, Unknown, integer, float, string, truth, datum, the_nan}
use Rattle.value.specs.Meaning.{integer_bits, integer_of_bits}
use Rattle.sql.specs.Expression.{And, Or, IsNull, IsNaN, Identity, Negate, SquareRoot, GreaterThan, LessThan, Add, Divide, Subtract, Multiply, Not, function, logical, Equal}
use Rattle.sql.specs.Plan.{unlabelled, unqualified, qualified}
use Rattle.sheet.specs.Cell.{tag_of, cell_ok, wide}
use Rattle.sheet.specs.Content.{Content, low, high, content_of, cell_of, marked, constant_cell, column_cell, unary_cell, binary_cell, label_cell, item_cell, key_cell, target_cell, agg_cell, row_cell, aggregate_cell, filter_cell, hash_join_cell, index_lookup_cell, key_lookup_cell, limit_cell, offset_cell, nested_loop_join_cell, nothing_cell, order_cell, projection_cell, remap_cell, scan_cell, values_cell}
use Rattle.sheet_laws.specs.Fits.{Word, Reference, ExactCell}
use Rattle.sheet_laws.specs.Content.{Words, low_part, high_part}
use Rattle.sheet_laws.specs.Reading.{Good}

pub integer_kept : (n : ℤ) → mag n < 2 ^ 63 → integer_of_bits (integer_bits n) ≡ n
unfolding integer_of_bits integer_bits
integer_kept (pos n) h = rw (lt-ltb n 9223372036854775808 h)
integer_kept (negsuc n) h =
    let l : ltb (18446744073709551615 - n) 9223372036854775808 ≡ false = le-ltb (18446744073709551615 - n) 9223372036854775808 (omega arith) in
    let e : 18446744073709551615 - (18446744073709551615 - n) ≡ n = omega arith in
    rw l (ap negsuc e)

pub bits_bound : (n : ℤ) → mag n < 2 ^ 63 → integer_bits n < 2 ^ 64
unfolding integer_bits
bits_bound (pos n) h = omega arith
bits_bound (negsuc n) h = omega arith

pub wide_halves : (n : ℕ) → wide (low n) (high n) ≡ n
wide_halves n = mod-add-div n 4294967296

pub low_word : (n : ℕ) → Word (low n)
low_word n = mod-lt n (omega arith)

pub high_word : (n : ℕ) → n < 2 ^ 64 → Word (high n)
high_word n h = (div-lt_iff_lt-mul {k = 4294967296} {x = n} {y = 4294967296} (omega arith)).1 h

-- an IndexLookup's column and count, in one number and back
joined : {i n : ℕ} → (i < 2 ^ 16) × (n < 2 ^ 16) → Word (i + 65536 * n)
joined h = omega arith

column_and_count : {i n : ℕ} → (i < 2 ^ 16) × (n < 2 ^ 16) → ◌≡◌ {A = ℕ × ℕ} ((i + 65536 * n) % 65536, (i + 65536 * n) / 65536) (i, n)
column_and_count {i} {n} h = cc (low_part 65536 i n h.0, high_part 65536 i n h.0)

-- A cell passes the test and says its content.
pub record Faithful (text : List ℕ) (bytes tables : ℕ) (k : Content) : Type 0 where
  pub is : (og : ℕ) → content_of text (marked og (cell_of k)) ≡ some k
  pub good : Good bytes tables (cell_of k)

module _ (text : List ℕ) (bytes tables : ℕ) (short : bytes < 65536) (few : tables < 65536) where
  reference_word : (r : ℕ) → Reference bytes r → Word r
  reference_word r h =
      omega (arith, leb-true (r % 65536 + r / 65536) bytes h, mod-add-div r 65536, mod-lt r {m = 65536} (omega arith))

  table_word : (t : ℕ) → t < tables → Word t
  table_word t h = omega arith

  -- with no numbers
  nothing_said : {t f : ℕ} → Words (record { tag = t; flag = f; origin = 0; a = 0; b = 0; c = 0 })
  nothing_said = record { a_word = omega arith; b_word = omega arith; c_word = omega arith }

  a_said : {t f a : ℕ} → Word a → Words (record { tag = t; flag = f; origin = 0; a = a; b = 0; c = 0 })
  a_said h = record { a_word = h; b_word = omega arith; c_word = omega arith }

  b_said : {t f a b : ℕ} → Word a → Word b → Words (record { tag = t; flag = f; origin = 0; a = a; b = b; c = 0 })
  b_said h l = record { a_word = h; b_word = l; c_word = omega arith }

  c_said : {t f a b c : ℕ} → Word a → Word b → Word c → Words (record { tag = t; flag = f; origin = 0; a = a; b = b; c = c })
  c_said h l m = record { a_word = h; b_word = l; c_word = m }

  faith : {k : Content} → ((og : ℕ) → content_of text (marked og (cell_of k)) ≡ some k) → Words (cell_of k) → cell_ok 1 bytes tables (marked 0 (cell_of k)) ≡ true → Faithful text bytes tables k
  faith p w q = record { is = p; good = record { words = w; ok = q } }

  pub faithful : (k : Content) → ExactCell text bytes tables k → Faithful text bytes tables k
  unfolding content_of cell_ok tag_of
  faithful (constant_cell (truth False)) x = faith (λ og. refl) nothing_said refl
  faithful (constant_cell (truth True)) x = faith (λ og. refl) (a_said (omega arith)) refl
  faithful (constant_cell (truth Unknown)) x = faith (λ og. refl) nothing_said refl
  faithful (constant_cell (datum (integer n))) x =
      record {
        is = λ og. ap (λ (z : ℤ). some (constant_cell (datum (integer z)))) (ap integer_of_bits (wide_halves (integer_bits n)) ∙ integer_kept n x.0);
        good = record { words = b_said (low_word (integer_bits n)) (high_word (integer_bits n) (bits_bound n x.0)); ok = refl };
      }
  faithful (constant_cell (datum (float b))) x =
      record {
        is = λ og. ap (λ (n : ℕ). some (constant_cell (datum (float n)))) (wide_halves b);
        good = record {
          words = b_said (low_word b) (high_word b x.0.0);
          ok = ap (λ (n : ℕ). not (Ieee.nan_bits Ieee.binary64 n) || eqb n the_nan) (wide_halves b) ∙ x.0.1;
        };
      }
  faithful (constant_cell (datum (string r s))) x =
      record {
        is = λ og. ap (λ (l : List ℕ). some (constant_cell (datum (string r l)))) (sym x.0.1);
        good = record { words = a_said (reference_word r x.0.0); ok = rw x.0.0 };
      }
  faithful (column_cell i) x = faith (λ og. refl) (a_said x.1) refl
  faithful (unary_cell Not) x = faith (λ og. refl) nothing_said refl
  faithful (unary_cell (function IsNull)) x = faith (λ og. refl) nothing_said refl
  faithful (unary_cell (function IsNaN)) x = faith (λ og. refl) nothing_said refl
  faithful (unary_cell (function Identity)) x = faith (λ og. refl) nothing_said refl
  faithful (unary_cell (function Negate)) x = faith (λ og. refl) nothing_said refl
  faithful (unary_cell (function SquareRoot)) x = faith (λ og. refl) nothing_said refl
  faithful (binary_cell (logical And)) x = faith (λ og. refl) nothing_said refl
  faithful (binary_cell (logical Or)) x = faith (λ og. refl) nothing_said refl
  faithful (binary_cell Equal) x = faith (λ og. refl) nothing_said refl
  faithful (binary_cell (function GreaterThan)) x = faith (λ og. refl) nothing_said refl
  faithful (binary_cell (function LessThan)) x = faith (λ og. refl) nothing_said refl
  faithful (binary_cell (function Add)) x = faith (λ og. refl) nothing_said refl
  faithful (binary_cell (function Divide)) x = faith (λ og. refl) nothing_said refl
  faithful (binary_cell (function Subtract)) x = faith (λ og. refl) nothing_said refl
  faithful (binary_cell (function Multiply)) x = faith (λ og. refl) nothing_said refl
  faithful (label_cell unlabelled) x = faith (λ og. refl) nothing_said refl
  faithful (label_cell (unqualified n)) x = faith (λ og. refl) (a_said (reference_word n x.0)) (rw x.0)
  faithful (label_cell (qualified q n)) x =
      faith (λ og. refl) (b_said (reference_word q x.0.0) (reference_word n x.0.1)) (rw (x.0.0, x.0.1))
  faithful (item_cell unlabelled) x = faith (λ og. refl) nothing_said refl
  faithful (item_cell (unqualified n)) x = faith (λ og. refl) (a_said (reference_word n x.0)) (rw x.0)
  faithful (item_cell (qualified q n)) x =
      faith (λ og. refl) (b_said (reference_word q x.0.0) (reference_word n x.0.1)) (rw (x.0.0, x.0.1))
  faithful (key_cell false) x = faith (λ og. refl) nothing_said refl
  faithful (key_cell true) x = faith (λ og. refl) nothing_said refl
  faithful (target_cell none) x = faith (λ og. refl) nothing_said refl
  faithful (target_cell (some i)) x =
      faith (λ og. refl) (a_said (omega (arith, x.0))) (rw (lt-ltb i 256 x.0))
  faithful (agg_cell f) x = faith (λ og. refl) nothing_said (rw (lt-ltb f 5 x.0))
  faithful (row_cell n) x = faith (λ og. refl) (a_said x.1) refl
  faithful (aggregate_cell n m) x = faith (λ og. refl) (b_said x.1.0 x.1.1) refl
  faithful filter_cell x = faith (λ og. refl) nothing_said refl
  faithful (hash_join_cell false l r) x = faith (λ og. refl) (b_said x.1.0 x.1.1) refl
  faithful (hash_join_cell true l r) x = faith (λ og. refl) (b_said x.1.0 x.1.1) refl
  faithful (index_lookup_cell t none i n) x =
      faith (λ og. ap (λ (p : ℕ × ℕ). some (index_lookup_cell t none p.0 p.1)) (column_and_count x.1))
      (c_said (table_word t x.0.0) (omega arith) (joined x.1)) (rw (lt-ltb t tables x.0.0))
  faithful (index_lookup_cell t (some r) i n) x =
      faith (λ og. ap (λ (p : ℕ × ℕ). some (index_lookup_cell t (some r) p.0 p.1)) (column_and_count x.1))
      (c_said (table_word t x.0.0) (reference_word r x.0.1) (joined x.1)) (rw (lt-ltb t tables x.0.0, x.0.1))
  faithful (key_lookup_cell t none n) x =
      faith (λ og. refl) (c_said (table_word t x.0.0) (omega arith) x.1) (rw (lt-ltb t tables x.0.0))
  faithful (key_lookup_cell t (some r) n) x =
      faith (λ og. refl) (c_said (table_word t x.0.0) (reference_word r x.0.1) x.1) (rw (lt-ltb t tables x.0.0, x.0.1))
  faithful (limit_cell n) x =
      faith (λ og. ap (λ (m : ℕ). some (limit_cell m)) (wide_halves n)) (b_said (low_word n) (high_word n x.0)) refl
  faithful (offset_cell n) x =
      faith (λ og. ap (λ (m : ℕ). some (offset_cell m)) (wide_halves n)) (b_said (low_word n) (high_word n x.0)) refl
  faithful (nested_loop_join_cell false false) x = faith (λ og. refl) nothing_said refl
  faithful (nested_loop_join_cell false true) x = faith (λ og. refl) nothing_said refl
  faithful (nested_loop_join_cell true false) x = faith (λ og. refl) nothing_said refl
  faithful (nested_loop_join_cell true true) x = faith (λ og. refl) nothing_said refl
  faithful (nothing_cell n) x = faith (λ og. refl) (a_said x.1) refl
  faithful (order_cell n) x = faith (λ og. refl) (a_said x.1) refl
  faithful (projection_cell n) x = faith (λ og. refl) (a_said x.1) refl
  faithful (remap_cell n) x = faith (λ og. refl) (a_said x.1) refl
  faithful (scan_cell false t none) x = faith (λ og. refl) (a_said (table_word t x.0.0)) (rw (lt-ltb t tables x.0.0))
  faithful (scan_cell true t none) x = faith (λ og. refl) (a_said (table_word t x.0.0)) (rw (lt-ltb t tables x.0.0))
  faithful (scan_cell false t (some r)) x =
      faith (λ og. refl) (b_said (table_word t x.0.0) (reference_word r x.0.1)) (rw (lt-ltb t tables x.0.0, x.0.1))
  faithful (scan_cell true t (some r)) x =
      faith (λ og. refl) (b_said (table_word t x.0.0) (reference_word r x.0.1)) (rw (lt-ltb t tables x.0.0, x.0.1))
  faithful (values_cell n) x = faith (λ og. refl) (a_said x.1) refl
