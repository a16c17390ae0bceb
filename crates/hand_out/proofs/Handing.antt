-- From what the code does to the outcome of the definitions.
use Rattle.std.specs.Prelude.{Ok, Err}
use Prim.Native.Nat.{ℕ, ◌/◌, ◌≤◌, ◌<◌}
use native.Mathlib.Omega.{arith}
use mathlib.Core.Path.{◌≡◌, refl, sym, ap, ◌∙◌, subst}
use mathlib.Core.Bool.{Bool, true, false}
use mathlib.Core.List.{List}
use lib.Dec.{leb}
use lib.ListN.{length}
use lib.Seq.{length-take-le}
use borrow.Author.Tests.{le-leb, lt-leb}
use Rattle.sql.specs.Plan.{Node, columns, node_size}
use Rattle.sql.specs.Answer.{Answer, done, refused}
use Rattle.sheet.specs.Parts.{table_count}
use Rattle.sheet.specs.Check.{Numbers, text, schema, plan}
use Rattle.sheet.specs.Check as Check
use Rattle.sheet.specs.Write.{write}
use Rattle.sheet.specs.Operations.{Outcome, written, hand_out}
use Rattle.sound.specs.Checks.{sound_fits}
use Rattle.layout.specs.Layout.{Whole}
use Rattle.words.specs.Words.{node_words}
use Rattle.words.specs.Place.{NodeHere}
use Rattle.words.proofs.Sizes.{words_long}
use Rattle.stream.proofs.Streams.{top_here}
use Rattle.decode.proofs.Laws.{whole}
use Rattle.encode.specs.Encode.{PlanLong, Lengths, Encodable, Encodes}
use Rattle.checker.specs.Checker.{numbers, outcome}
use Rattle.checker.specs.declared.Answer as Code
use Rattle.cells.specs.Cells.{cell_words}
use Rattle.cells.specs.Room.{most_words}
use Rattle.passes.specs.Passes.{Passed}
use Rattle.passes.specs.Passes as Passes
use Rattle.hand_out.specs.declared.NumberedRefusal.{NumberedRefusal}
use Rattle.hand_out.specs.HandOut.{Fit, WrittenIn, WrittenAt, Writes, Ran, numbered, Left, Leaves, AnsweredAt, HandsOut}

module _ {s x : List ℕ} {n : ℕ} {node m : Node} (w : WrittenIn s x n node m) where
  words_count : length (node_words m) ≡ n
  words_count = ap length (sym w.words_are) ∙ length-take-le n x w.inside

  pub whole_of : Whole s
  whole_of = whole (record { node = node; is = w.is })

  pub here : NodeHere x 0 n m
  here = top_here x n m w.words_are w.inside

  pub needed_is : {r : ℕ} → Lengths s n r → r ≡ length (write s m)
  needed_is l = l m words_count

  size_is : n / cell_words ≡ node_size m
  size_is = omega (arith, words_count, words_long m)

  written_by : (out : List ℕ) (b c : Bool) → b ≡ c → written s out m (write s m) b ≡ written s out m (write s m) c
  written_by out b c e = ap (written s out m (write s m)) e

pub asked_length : {s x : List ℕ} {n : ℕ} → WrittenAt s x n → (Whole s × (n ≤ most_words)) × PlanLong n
asked_length at = ((whole_of at.there, omega (arith, at.there.inside, at.short)), record { node = at.m; long = words_count at.there })

pub encodable : {s x : List ℕ} {n : ℕ} {out : List ℕ} {needed : ℕ} → WrittenAt s x n → Lengths s n needed → needed ≤ length out → Encodable s x n out
encodable {s} {x} {n} {out} at l h =
    record {
      whole = whole_of at.there;
      node = at.m;
      here = here at.there;
      fits = sound_fits (schema s) (text s) (table_count s) at.m at.there.fit.0;
      origins_are = at.origins_are;
      room = omega (arith, h, needed_is at.there l);
    }

-- Refusal 15 leaves the output as it was.
pub too_short : (s x : List ℕ) (n count needed : ℕ) (out : List ℕ) (a : Code.Answer) → Lengths s n needed → length out < needed → numbers a ≡ Check.refusal 15 needed
    → Writes s x n count out a out
too_short s x n count needed out a l h e node m w k =
    ap (λ (z : Numbers). record { numbers = z; output = out }) (e ∙ ap (Check.refusal 15) (needed_is w l))
    ∙ written_by w out false (leb (length (write s m)) (length out)) (sym (lt-leb (length (write s m)) (length out) (omega (arith, h, needed_is w l))))

made : (len cells count : ℕ) → List ℕ → Outcome
made len cells count out = record { numbers = record { number = 0; place = 0; length = len; cells = cells; columns = count }; output = out }

pub long_enough : (s x : List ℕ) (n count needed len : ℕ) (out out' : List ℕ) → Lengths s n needed → needed ≤ length out → Encodes s x n out len out'
    → Writes s x n count out (record { number = 0; place = 0; length = len; cells = n / cell_words; columns = count }) out'
unfolding made
long_enough s x n count needed len out out' l h e node m w k =
    let sheet = write s m in
    let (f, g) = e m (here w) in
    ap (λ (z : ℕ). made z (n / cell_words) count out') f ∙ ap (λ (z : ℕ). made (length sheet) z count out') (size_is w)
    ∙ ap (λ (z : ℕ). made (length sheet) (node_size m) z out') (k ∙ sym w.fit.1) ∙ ap (made (length sheet) (node_size m) (columns (schema s) m)) g
    ∙ written_by w out true (leb (length sheet) (length out)) (sym (le-leb (length sheet) (length out) (omega (arith, h, needed_is w l))))

-- ---- what a run has left

pub left_written : {s x : List ℕ} {n : ℕ} → AnsweredAt s x (Ok n) → WrittenAt s x n
left_written {s} {x} {n} at = go at.answer refl at.leaves.is
  where
    go : (answer : Answer Node) → at.answer ≡ answer → Left (Fit s at.node) x answer (Ok n) → WrittenAt s x n
    go (done m) e h =
        record {
          node = at.node;
          m = m;
          there = record { is = at.is; fit = h.1.1; words_are = h.1.0; inside = h.0 };
          origins_are = at.origins_are m e;
          short = at.short;
        }
    go (refused number place) e h = absurd h

hands_done : (s x : List ℕ) (n count : ℕ) (out out' : List ℕ) (a : Code.Answer) → Writes s x n count out a out' → HandsOut s x (Ok n) count out a out'
hands_done s x n count out out' a w node answer is l k = go answer l.is
  where
    go : (answer : Answer Node) → Left (Fit s node) x answer (Ok n) → outcome a out' ≡ hand_out s out answer
    go (done m) h = w node m (record { is = is; fit = h.1.1; words_are = h.1.0; inside = h.0 }) k
    go (refused number place) h = absurd h

hands_refused : (s x : List ℕ) (why : NumberedRefusal) (count : ℕ) (out : List ℕ) (a : Code.Answer) → numbers a ≡ Check.refusal why.number why.place
    → HandsOut s x (Err why) count out a out
hands_refused s x why count out a e node answer is l k = go answer l.is
  where
    go : (answer : Answer Node) → Left (Fit s node) x answer (Err why) → outcome a out ≡ hand_out s out answer
    go (done m) h = absurd h
    go (refused k' p) h = ap (λ (z : Numbers). record { numbers = z; output = out }) (e ∙ ap (λ (z : ℕ). Check.refusal z why.place) h.0 ∙ ap (Check.refusal k') h.1)

-- the same of an answer that is known to be one of these
pub hands_done_as : (s x : List ℕ) (n count : ℕ) (out out' : List ℕ) (a : Code.Answer) (r : Ran) → r ≡ Ok n → Writes s x n count out a out' → HandsOut s x r count out a out'
hands_done_as s x n count out out' a r e w = subst (λ (z : Ran). HandsOut s x z count out a out') (sym e) (hands_done s x n count out out' a w)

pub hands_refused_as : (s x : List ℕ) (why : NumberedRefusal) (count : ℕ) (out : List ℕ) (a : Code.Answer) (r : Ran) → r ≡ Err why
    → numbers a ≡ Check.refusal why.number why.place → HandsOut s x r count out a out
hands_refused_as s x why count out a r e h = subst (λ (z : Ran). HandsOut s x z count out a out) (sym e) (hands_refused s x why count out a h)

-- ---- with the refusal by number and place

-- What a pass leaves, it leaves so.
pub left_numbered : {Fit : Node → Type 0} {x : List ℕ} {answer : Answer Node} {r : Passed} → Passes.Leaves Fit x answer r → Leaves Fit x answer (numbered r)
left_numbered {Fit} {x} {answer} {r} l = record { is = go answer r l.is }
  where
    go : (answer : Answer Node) (r : Passed) → Passes.Left Fit x answer r → Left Fit x answer (numbered r)
    go (done m) (Ok n) h = h
    go (done m) (Err why) h = h
    go (refused number place) (Ok n) h = h
    go (refused number place) (Err why) h = h
