-- Laws that the proofs of the functions share.
use Prim.Native.Nat.{ℕ, ◌%◌, ◌<◌, ◌≤◌}
use mathlib.Core.Path.{◌≡◌, refl, sym, ap, ◌∙◌, subst}
use mathlib.Core.Bool.{true, false, not}
use native.Mathlib.Omega.{arith}
use lib.Dec.{T}
use lib.IntN.{ℤ}
use lib.Ieee as Ieee
use lib.Ieee.{nan, inf, fin, up, down, binary64}
use lib.Ieee.Bits.{of_bits-to_bits, nan_bits_is, nan_bits_above}
use lib.Signed.{mag}
use mir.Val.{of_z, to_z}
use mir.Syntax.{w64}
use mir.ValLaws.{to_z-of_z}
use borrow.Author.Tests.{lt-ltb, le-ltb}

pub false≢true : false ≡ true → ⊥
false≢true h = let z : ◌≡◌ {A = ℕ} 0 1 = cc in omega arith

-- A Float is the number that its pattern stands for.
pub kept : (x : Ieee.Float) → Ieee.fits binary64 x ≡ true → Ieee.of_bits binary64 (Ieee.to_bits binary64 x) ≡ x
kept x h = of_bits-to_bits binary64 x (subst T (sym h) tt)

-- the code's test for NaN
pub nan_test : (x : Ieee.Float) → Ieee.fits binary64 x ≡ true → Ieee.is_nan x ≡ Ieee.is_nan (Ieee.of_bits binary64 (Ieee.to_bits binary64 x))
nan_test x h = ap Ieee.is_nan (sym (kept x h))

pub is_nan : (x : Ieee.Float) → Ieee.is_nan x ≡ true → x ≡ nan
unfolding Ieee.is_nan
is_nan nan h = refl
is_nan (inf s) h = absurd (false≢true h)
is_nan (fin s m e) h = absurd (false≢true h)

-- the code's test of a pattern for NaN: without its sign it is above infinity's
pub nan_pattern : (bits : ℕ) → 0x7FF0000000000000 < bits % 0x8000000000000000 → Ieee.is_nan (Ieee.of_bits binary64 bits) ≡ true
nan_pattern bits h = sym (nan_bits_is binary64 bits) ∙ (nan_bits_above binary64 bits ∙ lt-ltb 0x7FF0000000000000 (bits % 0x8000000000000000) h)

pub number_pattern : (bits : ℕ) → bits % 0x8000000000000000 ≤ 0x7FF0000000000000 → T (not (Ieee.nan_bits binary64 bits))
number_pattern bits h = subst (λ b. T (not b)) (sym (nan_bits_above binary64 bits ∙ le-ltb 0x7FF0000000000000 (bits % 0x8000000000000000) h)) tt

-- ---- integers

-- a 64-bit integer is the one that its bits stand for
pub read_back : (i : ℤ) → mag i < 9223372036854775808 → to_z w64 (of_z w64 i) ≡ i
read_back i h = to_z-of_z w64 i (record { sfits = h })
