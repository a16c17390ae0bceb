-- What the library's checked operations on two Integers give is what the definitions give; and which products fit, by the code's division.
use Prim.Native.Nat.{zero, suc, ◌<◌, ℕ, ◌*◌, ◌/◌, ◌≤◌}
use mathlib.Core.Logic.{◌↔◌}
use mathlib.Core.Path.{◌≡◌, refl, sym, ap, ◌∙◌, subst}
use mathlib.Core.Bool.{Bool, true, false, cond}
use native.Mathlib.Omega.{arith}
use native.Mathlib.Nat.{le-div_iff_mul-le, mul_comm, zero-mul}
use lib.Dec.{ltb}
use lib.IntN.{ℤ, pos, negsuc, neg_ℤ, nat_abs, ◌*ℤ◌}
use lib.Signed.{mag, lt_z, quot_z}
use mir.Syntax.{w64}
use mir.Val.{SFits, of_z}
use borrow.Author.Tests.{ltb-true, lt-ltb}
use Rattle.std.specs.Prelude.{Option, Some, None, SomeIff}
use Rattle.std.specs.Option.{ok_or}
use Rattle.value.specs.Value.{datum, integer, ok, err, overflow, division_by_zero}
use Rattle.value.specs.Arithmetic.{checked, multiply_integers, divide_integers}
use Rattle.value.specs.declared.Error.TheVariants.{Overflow}
use Rattle.arithmetic.specs.Operands.{answered, largest_magnitude}
use Rattle.value.proofs.Laws.{false≢true}

pub fits : (i : ℤ) → SFits w64 i → ok (datum (integer i)) ≡ checked i
unfolding checked
fits i h = sym (ap (λ b. cond b (ok (datum (integer i))) (err overflow)) (lt-ltb (mag i) 9223372036854775808 h.sfits))

pub overflows : (i : ℤ) → (SFits w64 i → ⊥) → err overflow ≡ checked i
unfolding checked
overflows i h = sym (ap (λ b. cond b (ok (datum (integer i))) (err overflow)) (never (ltb (mag i) 9223372036854775808) refl))
  where
    never : (b : Bool) → ltb (mag i) 9223372036854775808 ≡ b → ltb (mag i) 9223372036854775808 ≡ false
    never true e = absurd (h (record { sfits = ltb-true (mag i) 9223372036854775808 e }))
    never false e = e

-- of a sum, a difference or an opposite, i
pub checked_is : (i : ℤ) (o : Option ℤ) → SomeIff o (SFits w64 i) i → answered (ok_or o Overflow) ≡ checked i
checked_is i None h = overflows i h
checked_is i (Some x) h = ap (λ z. ok (datum (integer z))) h.1 ∙ fits i h.0

-- of a quotient, once the divisor is known not to be 0
quotient_of : (i : ℤ) (o : Option ℤ) (P : Type 0) → SomeIff o (P × SFits w64 i) i → P → answered (ok_or o Overflow) ≡ checked i
quotient_of i None P h p = overflows i (λ f. h (p, f))
quotient_of i (Some x) P h p = checked_is i (Some x) (h.0.1, h.1)

pub quotient_is : (a b : ℤ) (o : Option ℤ) → SomeIff o ((0 < of_z w64 b) × SFits w64 (quot_z a b)) (quot_z a b) → 0 < of_z w64 b → answered (ok_or o Overflow) ≡ divide_integers a b
unfolding divide_integers
quotient_is a (pos zero) o h n = absurd (omega arith)
quotient_is a (pos (suc b)) o h n = quotient_of (quot_z a (pos (suc b))) o (0 < suc b) h n
quotient_is a (negsuc b) o h n = quotient_of (quot_z a (negsuc b)) o (0 < of_z w64 (negsuc b)) h n

pub by_zero : (a b : ℤ) → SFits w64 b → of_z w64 b ≡ 0 → err division_by_zero ≡ divide_integers a b
unfolding divide_integers
by_zero a (pos zero) f h = refl
by_zero a (pos (suc n)) f h = absurd (omega arith)
by_zero a (negsuc n) f h = let l : n < 9223372036854775808 = f.sfits in absurd (omega arith)

-- ---- which products fit

negative_magnitude : (k : ℕ) → (mag (neg_ℤ (pos k)) < 9223372036854775808) ↔ (k ≤ 9223372036854775808)
negative_magnitude zero = (λ h. omega arith, λ h. omega arith)
negative_magnitude (suc k) = (λ h. omega arith, λ h. omega arith)

positive_magnitude : (k : ℕ) → (mag (pos k) < 9223372036854775808) ↔ (k ≤ 9223372036854775807)
positive_magnitude k = (λ h. omega arith, λ h. omega arith)

-- A product has 64 bits exactly where the product of the magnitudes is at most what its sign allows.
pub product_fits : (a b : ℤ) → (mag (a *ℤ b) < 9223372036854775808) ↔ (nat_abs a * nat_abs b ≤ largest_magnitude a b)
product_fits (pos a) (pos b) = positive_magnitude (a * b)
product_fits (pos a) (negsuc b) = negative_magnitude (a * suc b)
product_fits (negsuc a) (pos b) = negative_magnitude (suc a * b)
product_fits (negsuc a) (negsuc b) = positive_magnitude (suc a * suc b)

-- as the code tests it: l is that largest magnitude, x and y are the factors'
module _ (a b : ℤ) (l x y : ℕ) (large : l ≡ largest_magnitude a b) (left : x ≡ nat_abs a) (right : y ≡ nat_abs b) (nonzero : x ≡ 0 → ⊥) where
  divides : (y ≤ l / x) ↔ (y * x ≤ l)
  divides = le-div_iff_mul-le {k = x} {x = y} {y = l} (above x nonzero)
    where
      above : (n : ℕ) → (n ≡ 0 → ⊥) → 0 < n
      above n h = omega arith

  magnitudes : y * x ≡ nat_abs a * nat_abs b
  magnitudes = ap (λ n. n * x) right ∙ ap (λ n. nat_abs b * n) left ∙ mul_comm (nat_abs b) (nat_abs a)

  pub divided_fits : y ≤ l / x → SFits w64 (a *ℤ b)
  divided_fits h = record { sfits = (product_fits a b).1 (subst (λ n. n ≤ largest_magnitude a b) magnitudes (subst (λ n. y * x ≤ n) large (divides.0 h))) }

  pub divided_overflows : l / x < y → err overflow ≡ multiply_integers a b
  unfolding multiply_integers
  divided_overflows h = overflows (a *ℤ b) never
    where
      never : SFits w64 (a *ℤ b) → ⊥
      never f =
          let m = divides.1 (subst (λ n. y * x ≤ n) (sym large) (subst (λ n. n ≤ largest_magnitude a b) (sym magnitudes) ((product_fits a b).0 f.sfits))) in
          omega arith

pub product_is : (a b : ℤ) → SFits w64 (a *ℤ b) → ok (datum (integer (a *ℤ b))) ≡ multiply_integers a b
unfolding multiply_integers
product_is a b h = fits (a *ℤ b) h

pub zero_product : (a b : ℤ) → nat_abs a ≡ 0 → ok (datum (integer (pos 0))) ≡ multiply_integers a b
unfolding multiply_integers
zero_product (pos n) (pos m) h = fits (pos 0) (record { sfits = omega arith }) ∙ ap (λ k. checked (pos k)) (sym (ap (λ k. k * m) h ∙ zero-mul m))
zero_product (pos n) (negsuc m) h = fits (pos 0) (record { sfits = omega arith }) ∙ ap (λ k. checked (neg_ℤ (pos k))) (sym (ap (λ k. k * suc m) h ∙ zero-mul (suc m)))
zero_product (negsuc n) b h = absurd (omega arith)

-- ---- signs, by the code's test

pub below : (a : ℤ) → lt_z a (pos 0) ≡ true → (n : ℕ) × (a ≡ negsuc n)
below (pos n) h = let l = ltb-true n 0 h in absurd (omega arith)
below (negsuc n) h = (n, refl)

pub not_below : (a : ℤ) → lt_z a (pos 0) ≡ false → (n : ℕ) × (a ≡ pos n)
not_below (pos n) h = (n, refl)
not_below (negsuc n) h = absurd (false≢true (sym h))
