-- A signed integer's sign and magnitude: the machine reads a signed number back from its bits at each step. Assumes nothing.
use mathlib.Core.Path.{◌≡◌, refl, sym, ap, ◌∙◌, subst}
use mathlib.Core.Bool.{Bool, true, false, not, true≢false}
use Prim.Native.Nat.{ℕ, ◌*◌}
use lib.Dec.{leb-suc-zero}
use lib.IntN.{ℤ, pos, negsuc, nat_abs}
use lib.Signed.{non_neg, lt_z}
use mir.Syntax.{w64}
use mir.Val.{SFits, of_z, to_z}
use mir.ValLaws.{to_z-of_z}
use Rattle.ieee754.specs.Ieee754.{one, Nearest, with_sign, Is, of_integer}

-- ---- what the test i < 0 says

is_negative : (i : ℤ) → lt_z i (pos 0) ≡ true → non_neg i ≡ false
is_negative (pos a) h = absurd (true≢false (sym h ∙ leb-suc-zero a))
is_negative (negsuc a) h = refl

not_negative : (i : ℤ) → lt_z i (pos 0) ≡ false → non_neg i ≡ true
not_negative (pos a) h = refl
not_negative (negsuc a) h = absurd (true≢false h)

-- ---- an i64
module _ (i : ℤ) (fits : SFits w64 i) where
  -- i as it is read back
  abbrev pub seen : ℤ
  seen = to_z w64 (of_z w64 i)

  seen_is : seen ≡ i
  seen_is = to_z-of_z w64 i fits

  pub below_zero : lt_z seen (pos 0) ≡ true → non_neg i ≡ false
  below_zero h = is_negative i (subst (λ (x : ℤ). lt_z x (pos 0) ≡ true) seen_is h)

  pub from_zero : lt_z seen (pos 0) ≡ false → non_neg i ≡ true
  from_zero h = not_negative i (subst (λ (x : ℤ). lt_z x (pos 0) ≡ false) seen_is h)

  pub cast_is : nat_abs seen ≡ nat_abs i
  cast_is = ap nat_abs seen_is

-- ---- the sign before the nearest pattern of the magnitude

pub signed_pattern : (i : ℤ) (s : Bool) (n p : ℕ) → not (non_neg i) ≡ s → n ≡ nat_abs i → Nearest (n * one) 1 p → Is (of_integer i) (with_sign s p)
signed_pattern i s n p h e a = record { pattern = p; nearest = subst (λ (x : ℕ). Nearest (x * one) 1 p) e a; signed = ap (λ (t : Bool). with_sign t p) (sym h) }
