-- The program logic's conversion of an integer to a double gives the nearest double, and so does the pattern that `nearest_bits` makes. Assumes nothing.
use mathlib.Core.Path.{◌≡◌, sym, ap, ◌∙◌, subst}
use mathlib.Core.Bool.{Bool, true, false, not}
use Prim.Native.Nat.{ℕ, suc, ◌+◌, ◌*◌, ◌%◌, ◌^◌, ◌≤◌}
use native.Mathlib.Nat.{le_refl}
use native.Mathlib.Omega.{arith}
use lib.Dec.{T}
use lib.IntN.{ℤ, pos, negsuc, nat_abs}
use lib.Signed.{non_neg}
use borrow.Author.Tests.{le-ltb}
use lib.Ieee.{Float, binary64, of_int, to_bits, of_bits, nan_bits}
use lib.Ieee.Fits.{of_int-fits}
use lib.Ieee.Bits.{of_bits-to_bits, nan_bits_above}
use Rattle.ieee754.specs.Ieee754.{infinity, one, with_sign, without_sign, Rounded, Is, of_integer}
use Rattle.ieee754.specs.Converted.{Converted}
use Rattle.ieee754.proofs.Nearest.{rounded_unique}
use Rattle.ieee754.proofs.Rounding.{round_nearest}

pub integer : (i : ℤ) → Is (of_integer i) (to_bits binary64 (of_int binary64 i))
unfolding of_int
integer (pos n) = round_nearest n 1 (le_refl 1) false
integer (negsuc n) = round_nearest (suc n) 1 (le_refl 1) true

-- a rounded result is no NaN
pub rounded_no_nan : (s : Bool) (n d b : ℕ) → Rounded s n d b → T (not (nan_bits binary64 b))
rounded_no_nan s n d b r =
    subst (λ (t : Bool). T (not t))
    (sym (nan_bits_above binary64 b ∙ le-ltb infinity (without_sign b) (subst (λ (x : ℕ). x % 2 ^ 63 ≤ infinity) (sym r.signed) (under s r.pattern r.nearest.in_range))))
    tt
  where
    low : (p : ℕ) → p ≤ infinity → p % 2 ^ 63 ≤ infinity
    low p h = omega arith

    high : (p : ℕ) → p ≤ infinity → (2 ^ 63 + p) % 2 ^ 63 ≤ infinity
    high p h = omega arith

    under : (s : Bool) (p : ℕ) → p ≤ infinity → with_sign s p % 2 ^ 63 ≤ infinity
    under false p h = low p h
    under true p h = high p h

-- the pattern that is asked for is that of the library's float
pub converted : (i : ℤ) (b : ℕ) → Is (of_integer i) b → Converted i (of_bits binary64 b)
converted i b r =
    let e : b ≡ to_bits binary64 (of_int binary64 i) = rounded_unique (not (non_neg i)) (nat_abs i * one) 1 b (to_bits binary64 (of_int binary64 i)) (le_refl 1) r (integer i) in
    let f : of_bits binary64 b ≡ of_int binary64 i = ap (of_bits binary64) e ∙ of_bits-to_bits binary64 (of_int binary64 i) (of_int-fits binary64 i) in
    record { nearest = subst (λ (x : Float). Is (of_integer i) (to_bits binary64 x)) (sym f) (integer i); of_int = f }
