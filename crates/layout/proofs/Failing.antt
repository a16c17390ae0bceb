-- Laws on `first_failing`, for a loop that tests one number after the other, and for who uses its answer.
use Prim.Native.Nat.{ℕ, zero, suc, ◌+◌, ◌-◌, ◌≤◌, ◌<◌}
use native.Mathlib.Omega.{arith}
use native.Mathlib.Numerals.{add-one}
use native.Mathlib.Nat.{eq-or-lt_of_le}
use mathlib.Core.Logic.{⊎_elim}
use mathlib.Core.Path.{◌≡◌, refl, sym, ap, ◌∙◌, subst}
use mathlib.Core.Bool.{Bool, true, false}
use mathlib.Core.Option.{Option, none, some}
use Rattle.sheet.specs.Parts.{first_failing}

taken : (b : Bool) (x y : Option ℕ) → b ≡ true → elim b [ true ↦ x | false ↦ y ] ≡ x
taken true x y e = refl
taken false x y e = let z : ◌≡◌ {A = ℕ} 0 1 = cc in absurd (omega arith)

left : (b : Bool) (x y : Option ℕ) → b ≡ false → elim b [ true ↦ x | false ↦ y ] ≡ y
left true x y e = let z : ◌≡◌ {A = ℕ} 0 1 = cc in absurd (omega arith)
left false x y e = refl

module _ (ok : ℕ → Bool) where
  passes : (i k : ℕ) → ok i ≡ true → first_failing ok i (suc k) ≡ first_failing ok (suc i) k
  unfolding first_failing
  passes i k e = taken (ok i) (first_failing ok (suc i) k) (some i) e

  fails_here : (i k : ℕ) → ok i ≡ false → first_failing ok i (suc k) ≡ some i
  unfolding first_failing
  fails_here i k e = left (ok i) (first_failing ok (suc i) k) (some i) e

  -- None of the numbers passed so far fails: what those from i on answer, up to n, is the answer to all.
  pub record Goes (all : Option ℕ) (n i : ℕ) : Type 0 where
    pub within : i ≤ n
    pub rest : all ≡ first_failing ok i (n - i)

  -- Of the numbers below n, none below i fails.
  abbrev pub Passed : ℕ → ℕ → Type 0
  Passed n i = Goes (first_failing ok 0 n) n i

  -- Nothing is passed yet: k numbers from i on.
  pub goes_from : (i k : ℕ) → Goes (first_failing ok i k) (i + k) i
  goes_from i k = record { within = omega arith; rest = let e : k ≡ i + k - i = omega arith in ap (first_failing ok i) e }

  pub passed_none : (n : ℕ) → Passed n 0
  passed_none n = record { within = omega arith; rest = let e : n ≡ n - 0 = omega arith in ap (first_failing ok 0) e }

  module _ {all : Option ℕ} {n i : ℕ} (g : Goes all n i) where
    pub passed_more : i < n → ok i ≡ true → Goes all n (i + 1)
    passed_more h e =
        let f : n - i ≡ suc (n - (i + 1)) = omega arith in
        record {
          within = omega arith;
          rest = g.rest ∙ ap (first_failing ok i) f ∙ passes i (n - (i + 1)) e ∙ ap (λ (j : ℕ). first_failing ok j (n - (i + 1))) (sym (add-one i));
        }

    pub passed_but : i < n → ok i ≡ false → some i ≡ all
    passed_but h e =
        let f : n - i ≡ suc (n - (i + 1)) = omega arith in
        sym (g.rest ∙ ap (first_failing ok i) f ∙ fails_here i (n - (i + 1)) e)

    pub passed_all : n ≤ i → none ≡ all
    unfolding first_failing
    passed_all h =
        let f : n - i ≡ 0 = omega arith in
        sym (g.rest ∙ ap (first_failing ok i) f)

    -- what is left is k numbers from j on
    pub passed_to : (j k : ℕ) → i ≡ j → n ≡ j + k → first_failing ok j k ≡ all
    passed_to j k e f =
        let h : n - i ≡ k = omega arith in
        sym (g.rest ∙ cc)

  -- What an answer says: every number passes, or the one found is in the range and fails.
  pub none_fails : (i k : ℕ) → first_failing ok i k ≡ none → (j : ℕ) → i ≤ j → j < i + k → ok j ≡ true
  unfolding first_failing
  none_fails i zero e j l h = absurd (omega arith)
  none_fails i (suc k) e j l h = go (ok i) refl (λ t p. none_fails (suc i) k (sym (passes i k t) ∙ e) j p (omega arith))
    where
      go : (b : Bool) → ok i ≡ b → (ok i ≡ true → i < j → ok j ≡ true) → ok j ≡ true
      go true t later = ⊎_elim (λ p. subst (λ (n : ℕ). ok n ≡ true) p t) (λ p. later t p) (eq-or-lt_of_le l)
      go false t later = let z = sym (fails_here i k t) ∙ e in let y : ◌≡◌ {A = ℕ} 0 1 = cc in absurd (omega arith)

  pub record Fails (i k j : ℕ) : Type 0 where
    pub from : i ≤ j
    pub below : j < i + k
    pub fails : ok j ≡ false

  pub one_fails : (i k : ℕ) {j : ℕ} → first_failing ok i k ≡ some j → Fails i k j
  unfolding first_failing
  one_fails i zero {j} e = let y : ◌≡◌ {A = ℕ} 0 1 = cc in absurd (omega arith)
  one_fails i (suc k) {j} e = go (ok i) refl (λ t. one_fails (suc i) k (sym (passes i k t) ∙ e))
    where
      go : (b : Bool) → ok i ≡ b → (ok i ≡ true → Fails (suc i) k j) → Fails i (suc k) j
      go true t later =
          let r = later t in
          record { from = omega (arith, r.from); below = omega (arith, r.below); fails = r.fails }
      go false t later =
          let z : some i ≡ some j = sym (fails_here i k t) ∙ e in
          let p : i ≡ j = cc in
          record { from = omega arith; below = omega arith; fails = subst (λ (n : ℕ). ok n ≡ false) p t }
