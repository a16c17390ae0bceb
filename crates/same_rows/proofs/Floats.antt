-- Doubles that are equal compare alike with every third.
use Rattle.std.specs.Prelude.{ℕ, zero, suc, ◌+◌, ◌*◌, ◌<◌, ◌≤◌, Bool, true, false, not, ◌&&◌, ◌||◌, ◌≡◌, refl, eqb, Float}
use Rattle.std.specs.Bool.{beq}
use Rattle.std.proofs.Math.Bool.{or-true}
use Rattle.std.proofs.Common.{sym, ap, ap₂, ◌∙◌, mul_right_comm, zero-mul}
use Rattle.std.proofs.Math.Nat.{eq_of_mul-eq-mul_right}
use Rattle.std.specs.Float.Ieee.Fits.{down_pos}
use Rattle.std.specs.Float.Ieee
use Rattle.std.specs.Float.{nan, inf, fin}
use Rattle.std.specs.Float.Ieee.{up, down, level, is_nan}
use Rattle.same_rows.proofs.Booleans.{false≢true, and_left, and_right, iff, eqb_eq, eqb_self}

-- X / a ≡ Y / b and X / a ≡ Z / g give Y / b ≡ Z / g
cross : (X Y Z a b g : ℕ) → 0 < a → X * b ≡ Y * a → X * g ≡ Z * a → Y * g ≡ Z * b
cross X Y Z a b g p h k = eq_of_mul-eq-mul_right a p (Y * g) (Z * b)
    (mul_right_comm Y g a ∙ (ap (λ z. z * g) (sym h) ∙ (mul_right_comm X b g ∙ (ap (λ z. z * b) k ∙ mul_right_comm Z a b))))

to_eqb : (m n : ℕ) → m ≡ n → eqb m n ≡ true
to_eqb m n h = rw h (eqb_self n)

beq_eq : (s t : Bool) → beq s t ≡ true → s ≡ t
beq_eq true true h = refl
beq_eq true false h = false≢true h
beq_eq false true h = false≢true h
beq_eq false false h = refl

level_left : (s t q : Bool) (X Y Z a b g : ℕ) → 0 < a → 0 < b → level s (X * b) t (Y * a) ≡ true → level s (X * g) q (Z * a) ≡ level t (Y * g) q (Z * b)
level_left s t q X Y Z a b g pa pb h = ap₂ ◌&&◌ same_eq (signs (beq s t) refl)
  where
    xy : X * b ≡ Y * a
    xy = eqb_eq (X * b) (Y * a) (and_left (eqb (X * b) (Y * a)) (beq s t || eqb (X * b) 0) h)

    same_eq : eqb (X * g) (Z * a) ≡ eqb (Y * g) (Z * b)
    same_eq = iff (eqb (X * g) (Z * a)) (eqb (Y * g) (Z * b))
        (λ k. to_eqb (Y * g) (Z * b) (cross X Y Z a b g pa xy (eqb_eq (X * g) (Z * a) k)))
        (λ k. to_eqb (X * g) (Z * a) (cross Y X Z b a g pb (sym xy) (eqb_eq (Y * g) (Z * b) k)))

    same_zero : eqb (X * g) 0 ≡ eqb (Y * g) 0
    same_zero = iff (eqb (X * g) 0) (eqb (Y * g) 0)
        (λ k. to_eqb (Y * g) 0 (cross X Y 0 a b g pa xy (eqb_eq (X * g) 0 k ∙ sym (zero-mul a)) ∙ zero-mul b))
        (λ k. to_eqb (X * g) 0 (cross Y X 0 b a g pb (sym xy) (eqb_eq (Y * g) 0 k ∙ sym (zero-mul b)) ∙ zero-mul a))

    signs : (u : Bool) → beq s t ≡ u → (beq s q || eqb (X * g) 0) ≡ (beq t q || eqb (Y * g) 0)
    signs true k = ap₂ (λ x y. beq x q || y) (beq_eq s t k) same_zero
    signs false k =
        let z : eqb (X * b) 0 ≡ true = rw k at (and_right (eqb (X * b) (Y * a)) (beq s t || eqb (X * b) 0) h) in
        let x : X ≡ 0 = eq_of_mul-eq-mul_right b pb X 0 (eqb_eq (X * b) 0 z ∙ sym (zero-mul b)) in
        let f : eqb (X * g) 0 ≡ true = to_eqb (X * g) 0 (ap (λ y. y * g) x ∙ zero-mul g) in
        ap (λ y. beq s q || y) f ∙ (or-true (beq s q) ∙ sym (ap (λ y. beq t q || y) (sym same_zero ∙ f) ∙ or-true (beq t q)))

pub eq_left : (x y z : Float) → Ieee.eq x y ≡ true → Ieee.eq x z ≡ Ieee.eq y z
unfolding Ieee.eq
eq_left nan y z h = false≢true h
eq_left (inf s) nan z h = false≢true h
eq_left (inf s) (inf t) z h = ap (λ u. Ieee.eq (inf u) z) (beq_eq s t h)
eq_left (inf s) (fin t n d) z h = false≢true h
eq_left (fin s m e) nan z h = false≢true h
eq_left (fin s m e) (inf t) z h = false≢true h
eq_left (fin s m e) (fin t n d) nan h = refl
eq_left (fin s m e) (fin t n d) (inf q) h = refl
eq_left (fin s m e) (fin t n d) (fin q k c) h = level_left s t q (m * up e) (n * up d) (k * up c) (down e) (down d) (down c) (down_pos e) (down_pos d) h

pub eq_nan : (x y : Float) → Ieee.eq x y ≡ true → is_nan x ≡ is_nan y
unfolding Ieee.eq is_nan
eq_nan nan y h = false≢true h
eq_nan (inf s) nan h = false≢true h
eq_nan (inf s) (inf t) h = refl
eq_nan (inf s) (fin t n d) h = refl
eq_nan (fin s m e) nan h = false≢true h
eq_nan (fin s m e) (inf t) h = refl
eq_nan (fin s m e) (fin t n d) h = refl

pub nan_unequal : (x y : Float) → is_nan x ≡ true → Ieee.eq x y ≡ false
unfolding Ieee.eq is_nan
nan_unequal nan y h = refl
nan_unequal (inf s) y h = false≢true h
nan_unequal (fin s m e) y h = false≢true h
