-- From check's answer to the plan that a sheet stands for, or to the refusal.
use Prim.Native.Nat.{ℕ, ◌≤◌, ◌<◌}
use native.Mathlib.Omega.{arith}
use mathlib.Core.Path.{◌≡◌, refl, sym, ap, ◌∙◌}
use mathlib.Core.Bool.{Bool, true, false, ◌&&◌, cond}
use mathlib.Core.List.{List}
use lib.Dec.{leb}
use borrow.Author.Tests.{le-leb, lt-leb}
use Rattle.sql.specs.Plan.{Node, columns, node_size}
use Rattle.sql.specs.Answer.{Answer, done, refused, ◌>>=◌}
use Rattle.sql.specs.Room
use Rattle.sheet.specs.Check.{Numbers, refusal, schema, plan, check, checked}
use Rattle.sheet.specs.Operations.{refuse, hand_out, one_pass, all_five}
use Rattle.sheet_laws.specs.Accepted.{accepted}
use Rattle.sheet_laws.specs.Plan.{Bytes}
use Rattle.sheet_laws.proofs.Plan.{parts_of, plan_size}
use Rattle.sound.specs.Refusals.{RefusedBy, FromTo}
use Rattle.sound.proofs.Refusals.{plan_refused}
use Rattle.checker.specs.Checker.{numbers, outcome}
use Rattle.checker.specs.declared.Answer as Code
use Rattle.hand_out.specs.HandOut.{Counted}
use Rattle.sheet_passes.specs.Rooms.{FitsIn}

outcome_of : (a : Code.Answer) (out : List ℕ) (m : Numbers) → numbers a ≡ m → outcome a out ≡ record { numbers = m; output = out }
outcome_of a out m e = ap (λ (z : Numbers). record { numbers = z; output = out }) e

-- A refusal of check leaves the output as it was.
check_refused : (s out : List ℕ) (a : Code.Answer) → numbers a ≡ check s → 1 ≤ a.number → (f : Node → Answer Node) → outcome a out ≡ hand_out s out (plan s >>= f)
unfolding check
check_refused s out a e h f = go (plan s) e
  where
    go : (r : Answer Node) → numbers a ≡ checked s r → outcome a out ≡ hand_out s out (r >>= f)
    go (done node) g = absurd (omega (arith, h, ap (λ (z : Numbers). z.number) g))
    go (refused number place) g = outcome_of a out (refusal number place) g

-- A success says that s stands for a plan, with its cells and columns.
pub record Stands (s : List ℕ) (a : Code.Answer) : Type 0 where
  pub node : Node
  pub is : plan s ≡ done node
  pub size : a.cells ≡ node_size node
  pub wide : a.columns ≡ columns (schema s) node
  pub few : node_size node ≤ 2048

pub stands : (s : List ℕ) → Bytes s → (a : Code.Answer) → numbers a ≡ check s → a.number ≡ 0 → Stands s a
unfolding check
stands s b a e z = go (plan s) refl e (plan_refused s)
  where
    go : (r : Answer Node) → plan s ≡ r → numbers a ≡ checked s r → RefusedBy (FromTo 2 10) r → Stands s a
    go (done node) p g x =
        record {
          node = node;
          is = p;
          size = ap (λ (m : Numbers). m.cells) g ∙ sym (plan_size s b node p);
          wide = ap (λ (m : Numbers). m.columns) g;
          few = omega (arith, plan_size s b node p, (parts_of (accepted s node p)).cells_few);
        }
    go (refused number place) p g x = absurd (omega (arith, x.0, z, ap (λ (m : Numbers). m.number) g))

pub fits : {s : List ℕ} {a : Code.Answer} → Stands s a → (FitsIn a.cells s × (a.cells ≤ 2048)) × Counted s a.columns
fits t =
    ((record { node = t.node; is = t.is; fits = omega (arith, t.size) }, omega (arith, t.size, t.few)), record { node = t.node; is = t.is; wide = t.wide })

-- ---- one pass

test_false : (k : ℕ) → k < 1 → (leb 1 k && leb k 5) ≡ false
test_false k h = ap (λ (b : Bool). b && leb k 5) (lt-leb 1 k h)

and_false : (b : Bool) → (b && false) ≡ false
and_false true = refl
and_false false = refl

test_over : (k : ℕ) → 5 < k → (leb 1 k && leb k 5) ≡ false
test_over k h = ap (λ (b : Bool). leb 1 k && b) (lt-leb k 5 h) ∙ and_false (leb 1 k)

test_true : (k : ℕ) → 1 ≤ k → k ≤ 5 → (leb 1 k && leb k 5) ≡ true
test_true k h i = ap (λ (b : Bool). b && leb k 5) (le-leb 1 k h) ∙ le-leb k 5 i

module _ (s : List ℕ) (k : ℕ) (out : List ℕ) where
  by_test : (b : Bool) → (leb 1 k && leb k 5) ≡ b
      → one_pass s k out ≡ cond b (hand_out s out (plan s >>= Room.pass Room.max_cells (schema s) k)) (refuse out 1 0)
  unfolding one_pass
  by_test b e = ap (λ (z : Bool). cond z (hand_out s out (plan s >>= Room.pass Room.max_cells (schema s) k)) (refuse out 1 0)) e

  pub no_pass_0 : (a : Code.Answer) → k < 1 → numbers a ≡ refusal 1 0 → outcome a out ≡ one_pass s k out
  no_pass_0 a h e = outcome_of a out (refusal 1 0) e ∙ sym (by_test false (test_false k h))

  pub no_pass_6 : (a : Code.Answer) → 5 < k → numbers a ≡ refusal 1 0 → outcome a out ≡ one_pass s k out
  no_pass_6 a h e = outcome_of a out (refusal 1 0) e ∙ sym (by_test false (test_over k h))

  pub pass_refused : (a : Code.Answer) → 1 ≤ k → k ≤ 5 → numbers a ≡ check s → 1 ≤ a.number → outcome a out ≡ one_pass s k out
  pass_refused a h i e z = check_refused s out a e z (Room.pass Room.max_cells (schema s) k) ∙ sym (by_test true (test_true k h i))

  pub pass_run : (a : Code.Answer) (out' : List ℕ) → 1 ≤ k → k ≤ 5 → (node : Node) → plan s ≡ done node
      → outcome a out' ≡ hand_out s out (Room.pass 2048 (schema s) k node) → outcome a out' ≡ one_pass s k out
  pass_run a out' h i node p e =
      e ∙ ap (λ (r : Answer Node). hand_out s out (r >>= Room.pass Room.max_cells (schema s) k)) (sym p) ∙ sym (by_test true (test_true k h i))

-- ---- all five

pub five_refused : (s out : List ℕ) (a : Code.Answer) → numbers a ≡ check s → 1 ≤ a.number → outcome a out ≡ all_five s out
unfolding all_five
five_refused s out a e z = check_refused s out a e z (Room.optimize Room.max_cells (schema s))

pub five_run : (s out : List ℕ) (a : Code.Answer) (out' : List ℕ) (node : Node) → plan s ≡ done node
    → outcome a out' ≡ hand_out s out (Room.optimize 2048 (schema s) node) → outcome a out' ≡ all_five s out
unfolding all_five
five_run s out a out' node p e = e ∙ ap (λ (r : Answer Node). hand_out s out (r >>= Room.optimize Room.max_cells (schema s))) (sym p)
