-- A small room first: what isn't refused for room is the answer, and what is leaves the output as it was.
use Prim.Native.Nat.{ℕ, ◌*◌, ◌≤◌}
use native.Mathlib.Omega.{arith}
use mathlib.Core.Path.{◌≡◌, refl, sym, ap, ◌∙◌, subst}
use mathlib.Core.Bool.{Bool, true, false}
use mathlib.Core.List.{List}
use lib.Dec.{leb}
use lib.ListN.{length}
use Rattle.sql.specs.Schema.{Schema}
use Rattle.sql.specs.Plan.{Node, columns, node_size}
use Rattle.sql.specs.Answer.{Answer, done, refused}
use Rattle.sheet.specs.Check.{schema, plan}
use Rattle.sheet.specs.Write.{write}
use Rattle.sheet.specs.Operations.{Outcome, written, hand_out}
use Rattle.checker.specs.Checker.{outcome}
use Rattle.checker.specs.declared.Answer as Code
use Rattle.cells.specs.Cells.{cell_words}
use Rattle.cells.specs.Room.{most_words}
use Rattle.passes.specs.Passes.{Alike}
use Rattle.optimizer.specs.Choices.{chosen}
use Rattle.optimizer.specs.Settled.{Settled, pass_settled, optimize_settled}
use Rattle.optimizer.specs.declared.Chosen.{Chosen}
use Rattle.optimizer.specs.declared.Chosen.TheVariants.{One, All}
use Rattle.sheet_passes.specs.SheetPasses.{RunAt, RunsOn}
use Rattle.sheet_passes.specs.Rooms.{FitsIn, RunsIn}

chosen_settled : (c : Chosen) (room more : ℕ) → room ≤ more → (schema : Schema) (n : Node) (r : Answer Node) → chosen c room schema n ≡ r → Settled r → chosen c more schema n ≡ r
chosen_settled (One k) room more h schema n r e s = pass_settled room more h schema k n r e s
chosen_settled All room more h schema n r e s = optimize_settled room more h schema n r e s

pub settles : (room more : ℕ) → room ≤ more → (s : List ℕ) (c : Chosen) (count : ℕ) (out : List ℕ) (a : Code.Answer) (out' : List ℕ) → (a.number ≡ 14 → ⊥)
    → RunsIn room s c count out a out' → RunsIn more s c count out a out'
settles room more h s c count out a out' differs run node is k = go (chosen c room (schema s) node) refl (run node is k)
  where
    go : (r : Answer Node) → chosen c room (schema s) node ≡ r → outcome a out' ≡ hand_out s out r → outcome a out' ≡ hand_out s out (chosen c more (schema s) node)
    go (done m) e o = o ∙ ap (hand_out s out) (sym (chosen_settled c room more h (schema s) node (done m) e tt))
    go (refused number place) e o =
        let z : a.number ≡ number = ap (λ (q : Outcome). q.numbers.number) o in
        o ∙ ap (hand_out s out) (sym (chosen_settled c room more h (schema s) node (refused number place) e (λ f. differs (z ∙ f))))

written_number : (s out : List ℕ) (m : Node) (b : Bool) → (written s out m (write s m) b).numbers.number ≡ 14 → (written s out m (write s m) b).output ≡ out
written_number s out m true h = absurd (omega (arith, h))
written_number s out m false h = absurd (omega (arith, h))

handed_14 : (s out : List ℕ) (r : Answer Node) → (hand_out s out r).numbers.number ≡ 14 → (hand_out s out r).output ≡ out
handed_14 s out (done m) h = written_number s out m (leb (length (write s m)) (length out)) h
handed_14 s out (refused number place) h = refl

-- Refused for room, the output is as it was, and another run answers for it.
pub again : (room more : ℕ) (s : List ℕ) (c : Chosen) (count : ℕ) (out : List ℕ) (a : Code.Answer) (out₁ : List ℕ) (b : Code.Answer) (out₂ : List ℕ) → a.number ≡ 14
    → RunsIn room s c count out a out₁ → RunsIn more s c count out₁ b out₂ → RunsIn more s c count out b out₂
again room more s c count out a out₁ b out₂ z first second node is k =
    let o = first node is k in
    let same : out₁ ≡ out =
    ap (λ (q : Outcome). q.output) o ∙ handed_14 s out (chosen c room (schema s) node) (sym (ap (λ (q : Outcome). q.numbers.number) o) ∙ z) in
    second node is k ∙ ap (λ (l : List ℕ). hand_out s l (chosen c more (schema s) node)) same

-- ---- arrays with this room

pub in_more : {s : List ℕ} {room more : ℕ} → FitsIn room s → room ≤ more → FitsIn more s
in_more f h = record { node = f.node; is = f.is; fits = omega (arith, f.fits) }

pub run_at : {s x y z w : List ℕ} (room : ℕ) → FitsIn room s → length x ≡ cell_words * room → Alike x y z w → length x ≤ most_words → RunAt s x y z w
run_at room f e a h = record { node = f.node; is = f.is; room = room; all = e; fits = f.fits; alike = a; short = h }

pub runs_in : (room : ℕ) (s : List ℕ) (c : Chosen) (count : ℕ) (x out : List ℕ) (a : Code.Answer) (out' : List ℕ) → FitsIn room s → length x ≡ cell_words * room
    → RunsOn s c count x out a out' → RunsIn room s c count out a out'
runs_in room s c count x out a out' f e h node is k =
    let same : node_size node ≡ node_size f.node = ap (λ (r : Answer Node). size_of r) (sym is ∙ f.is) in
    h node room is (omega (arith, same, f.fits)) e k
  where
    size_of : Answer Node → ℕ
    size_of (done m) = node_size m
    size_of (refused number place) = 0
