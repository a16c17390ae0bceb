-- What a success of `convert` says, and what it is where nothing refuses.
use Rattle.std.specs.Prelude.{ℕ, ◌≤◌, ◌≡◌, refl, Bool, true, false, not, ◌&&◌, ◌||◌, cond, List, leb, eqb, length}
use Rattle.std.proofs.Common.{arith, eqb-true, eq-eqb, le-leb, sym, ap, ◌∙◌}
use Rattle.std.proofs.lemmas.Bool.{eqb-false, not-true}
use Rattle.sql.specs.Answer.{Answer, done, refused}
use Rattle.sql.specs.Plan.{Node}
use Rattle.sheet.specs.Parts.{edition, edition_ok}
use Rattle.sheet.specs.Check.{plan, checked, check}
use Rattle.sheet.specs.Operations.{refuse}
use Rattle.sheet_laws.specs.Content.{and_left, and_right}
use Rattle.sound.specs.Refusals.{RefusedBy, FromTo}
use Rattle.sound.proofs.Refusals.{plan_refused}
use Rattle.convert.specs.Convert.{other_edition, put_out, convert}

-- A sheet that `check` accepts stands for a plan.
pub stands_for : (s : List ℕ) → (check s).number ≡ 0 → (n : Node) × (plan s ≡ done n)
unfolding check
stands_for s = go (plan s) refl (plan_refused s)
  where
    go : (r : Answer Node) → plan s ≡ r → RefusedBy (FromTo 2 10) r → (checked s r).number ≡ 0 → (n : Node) × (plan s ≡ done n)
    go (done n) h x z = (n, h)
    go (refused number place) h x z = absurd (omega (arith, x.0))

-- ---- editions

either : {A : Type 0} (a b : Bool) → (a || b) ≡ true → (a ≡ true → A) → (b ≡ true → A) → A
either true b h left right = left refl
either false b h left right = right h

-- A target that is not refused is the one edition, and the sheet is of the other.
pub sides : {A : Type 0} (s : List ℕ) (target : ℕ) → edition_ok s ≡ true → other_edition s target ≡ true
    → (target ≡ 1 → edition s ≡ 2 → A) → (target ≡ 2 → edition s ≡ 1 → A) → A
unfolding edition_ok
sides s target known other down up =
    let apart = eqb-false target (edition s) (not-true (eqb target (edition s)) (and_left (not (eqb target (edition s))) (eqb target 1 || eqb target 2) other)) in
    either (eqb target 1) (eqb target 2) (and_right (not (eqb target (edition s))) (eqb target 1 || eqb target 2) other)
    (λ t. let is = eqb-true target 1 t in
    either (eqb (edition s) 1) (eqb (edition s) 2) known (λ e. absurd (apart (is ∙ sym (eqb-true (edition s) 1 e)))) (λ e. down is (eqb-true (edition s) 2 e)))
    (λ t. let is = eqb-true target 2 t in
    either (eqb (edition s) 1) (eqb (edition s) 2) known (λ e. up is (eqb-true (edition s) 1 e)) (λ e. absurd (apart (is ∙ sym (eqb-true (edition s) 2 e)))))

-- Of a sheet of the one edition, the other is a target.
pub other_than : (s : List ℕ) (target e : ℕ) → edition s ≡ e → (not (eqb target e) && (eqb target 1 || eqb target 2)) ≡ true → other_edition s target ≡ true
other_than s target e is h = ap (λ (k : ℕ). not (eqb target k) && (eqb target 1 || eqb target 2)) is ∙ h

-- ---- the operation

pub record Success (s : List ℕ) (target : ℕ) (out : List ℕ) : Type 0 where
  pub accepted : (check s).number ≡ 0
  pub other : other_edition s target ≡ true
  pub is : convert s target out ≡ put_out s target out (check s) true

module _ (s : List ℕ) (target : ℕ) (out : List ℕ) where
  -- by what each test says
  pub by_tests : (a b c : Bool) → eqb (check s).number 0 ≡ a → other_edition s target ≡ b → leb (length s) (length out) ≡ c
      → convert s target out ≡ cond a (cond b (put_out s target out (check s) c) (refuse out 21 0)) (record { numbers = check s; output = out })
  unfolding convert
  by_tests a b c p q r = cc

  pub converts : (check s).number ≡ 0 → other_edition s target ≡ true → length s ≤ length out → convert s target out ≡ put_out s target out (check s) true
  converts a o h = by_tests true true true (eq-eqb (check s).number 0 a) o (le-leb (length s) (length out) h)

  pub succeeded : (convert s target out).numbers.number ≡ 0 → Success s target out
  succeeded z = go (eqb (check s).number 0) (other_edition s target) (leb (length s) (length out)) refl refl refl
    where
      go : (a b c : Bool) → eqb (check s).number 0 ≡ a → other_edition s target ≡ b → leb (length s) (length out) ≡ c → Success s target out
      go true true true p q r = record { accepted = eqb-true (check s).number 0 p; other = q; is = by_tests true true true p q r }
      go true true false p q r = let x = ap (λ o. o.numbers.number) (sym (by_tests true true false p q r)) ∙ z in absurd (omega arith)
      go true false c p q r = let x = ap (λ o. o.numbers.number) (sym (by_tests true false c p q r)) ∙ z in absurd (omega arith)
      go false b c p q r = let x = ap (λ o. o.numbers.number) (sym (by_tests false b c p q r)) ∙ z in absurd (eqb-false (check s).number 0 p x)
