-- Facts on tests.
use Rattle.std.specs.Prelude.{ℕ, ◌≤◌, ◌<◌, Bool, true, false, not, ◌&&◌, ◌||◌, ◌≡◌, refl, T, eqb, ltb}
use Rattle.std.proofs.Common.{sym, ap, ◌∙◌, subst, arith, eqb→eq, ltb→lt, nltb→le}
use Rattle.std.proofs.Math.Dec.{eqb_refl}

pub false≢true : {A : Type 0} → false ≡ true → A
false≢true h = absurd (let y : ◌≡◌ {A = ℕ} 0 1 = cc in omega arith)

pub and_left : (a b : Bool) → (a && b) ≡ true → a ≡ true
and_left true b h = refl
and_left false b h = h

pub and_right : (a b : Bool) → (a && b) ≡ true → b ≡ true
and_right true b h = h
and_right false b h = false≢true h

pub or_left : (a b : Bool) → (a || b) ≡ false → a ≡ false
or_left true b h = h
or_left false b h = refl

pub or_right : (a b : Bool) → (a || b) ≡ false → b ≡ false
or_right true b h = false≢true (sym h)
or_right false b h = h

pub not_true : (a : Bool) → not a ≡ true → a ≡ false
not_true true h = false≢true h
not_true false h = refl

-- two tests that imply one another
pub iff : (a b : Bool) → (a ≡ true → b ≡ true) → (b ≡ true → a ≡ true) → a ≡ b
iff true b f g = sym (f refl)
iff false true f g = g refl
iff false false f g = refl

pub T_true : (b : Bool) → T b → b ≡ true
T_true true h = refl
T_true false h = absurd h

pub eqb_eq : (m n : ℕ) → eqb m n ≡ true → m ≡ n
eqb_eq m n h = eqb→eq m n (subst T (sym h) tt)

pub eqb_self : (n : ℕ) → eqb n n ≡ true
eqb_self n = T_true (eqb n n) (eqb_refl n)

pub lt_is : (m n : ℕ) → ltb m n ≡ true → m < n
lt_is m n h = ltb→lt m n (subst T (sym h) tt)

pub ge_is : (m n : ℕ) → ltb m n ≡ false → n ≤ m
ge_is m n h = nltb→le m n (subst (λ (t : Bool). T (not t)) (sym h) tt)
