-- The operations `one pass` and `all five`, bytes to bytes: whatever sheet they hand out, `check` accepts it, with the cells and the columns that were
-- answered; it is as long as was answered, and has the text, the records and the number of columns of the sheet handed in.
use Rattle.std.specs.Prelude.{ℕ, ◌≤◌, ◌≡◌, refl, Bool, ◌&&◌, cond, List, ◌++◌, leb}
use Rattle.std.proofs.Common.{arith, leb-true, ◌∙◌}
use Rattle.std.proofs.Math.Path.{sym, ap}
use Rattle.std.proofs.Math.Bool.{true, false}
use Rattle.std.proofs.Math.ListN.{length, take, drop}
use Rattle.std.proofs.Math.Seq.{take-append_seam}
use Rattle.sql.specs.Plan.{Node, columns, node_size}
use Rattle.sql.specs.Answer.{Answer, done, refused, ◌>>=◌}
use Rattle.sql.specs.Room
use Rattle.sheet.specs.Check.{text, schema, plan, check, checked}
use Rattle.sheet.specs.Write.{write}
use Rattle.sheet.specs.Operations.{refuse, written, hand_out, one_pass, all_five}
use Rattle.sheet_laws.specs.Content.{and_left, and_right}
use Rattle.sheet_laws.specs.Plan.{Bytes}
use Rattle.room.specs.Done.{after}
use Rattle.sound.specs.Refusals.{RefusedBy, FromTo}
use Rattle.sound.proofs.Refusals.{refused_then, refused_weaker, plan_refused, pass_refused, optimize_refused}
use Rattle.sound.specs.HandedOut.{success, HandedOut}
use Rattle.sound.proofs.HandedOut.{pass_handed_out, optimize_handed_out}
use Rattle.sound.specs.Operations.{SoundOutcome}

-- No refusal has number 0.
no_refusal : {A : Type 0} (k : ℕ) → 1 ≤ k → k ≡ 0 → A
no_refusal k p e = absurd (omega arith)

module _ (s out : List ℕ) (f : Node → Answer Node) (sound : (n m : Node) → plan s ≡ done n → f n ≡ done m → HandedOut s n m)
    (refuses : (n : Node) → RefusedBy (FromTo 11 14) (f n)) where
  numbered : RefusedBy (λ k. 1 ≤ k) (plan s >>= f)
  numbered =
      refused_then (λ k. 1 ≤ k) (plan s) f (refused_weaker (FromTo 2 10) (λ k. 1 ≤ k) (λ k h. let (p, q) = h in omega arith) (plan s) (plan_refused s))
      (λ n. refused_weaker (FromTo 11 14) (λ k. 1 ≤ k) (λ k h. let (p, q) = h in omega arith) (f n) (refuses n))

  handed_check : (n m : Node) → HandedOut s n m → check (write s m) ≡ success (node_size m) (columns (schema s) m)
  handed_check n m h = h.checks

  written_sound : (n m : Node) → plan s ≡ done n → HandedOut s n m → (b : Bool) → (written s out m (write s m) b).numbers.number ≡ 0
      → SoundOutcome s (written s out m (write s m) b)
  unfolding check
  written_sound n m p h true z =
      let e : take (length (write s m)) (write s m ++ drop (length (write s m)) out) ≡ write s m = take-append_seam (write s m) (drop (length (write s m)) out) in
      record {
        checks = ap check e ∙ handed_check n m h;
        long = ap length e;
        same_text = ap text e ∙ h.same_text;
        same_schema = ap schema e ∙ h.same_schema;
        same_columns = h.same_columns ∙ sym (ap (λ (r : Answer Node). (checked s r).columns) p);
      }
  written_sound n m p h false z = no_refusal 15 (omega arith) z

  hand_out_sound : (hand_out s out (plan s >>= f)).numbers.number ≡ 0 → SoundOutcome s (hand_out s out (plan s >>= f))
  hand_out_sound = go (plan s >>= f) refl numbered
    where
      go : (r : Answer Node) → (plan s >>= f) ≡ r → RefusedBy (λ k. 1 ≤ k) r → (hand_out s out r).numbers.number ≡ 0 → SoundOutcome s (hand_out s out r)
      go (done m) h x e =
          let a = after (plan s) f m h in
          written_sound a.of m a.first (sound a.of m a.first a.second) (leb (length (write s m)) (length out)) e
      go (refused number place) h x e = no_refusal number x e

-- For every list of bytes, every number of a pass and every output.
pub one_pass_sound : (s : List ℕ) → Bytes s → (k : ℕ) (out : List ℕ) → (one_pass s k out).numbers.number ≡ 0 → SoundOutcome s (one_pass s k out)
unfolding one_pass
one_pass_sound s b k out = go (leb 1 k && leb k 5) refl
  where
    answer : Answer Node
    answer = plan s >>= Room.pass Room.max_cells (schema s) k

    go : (t : Bool) → (leb 1 k && leb k 5) ≡ t → (cond t (hand_out s out answer) (refuse out 1 0)).numbers.number ≡ 0
        → SoundOutcome s (cond t (hand_out s out answer) (refuse out 1 0))
    go true h e =
        hand_out_sound s out (Room.pass Room.max_cells (schema s) k) (λ n m p. pass_handed_out s b n p k m)
        (pass_refused Room.max_cells (schema s) k (leb-true 1 k (and_left (leb 1 k) (leb k 5) h)) (leb-true k 5 (and_right (leb 1 k) (leb k 5) h))) e
    go false h e = no_refusal 1 (omega arith) e

pub all_five_sound : (s : List ℕ) → Bytes s → (out : List ℕ) → (all_five s out).numbers.number ≡ 0 → SoundOutcome s (all_five s out)
unfolding all_five
all_five_sound s b out =
    hand_out_sound s out (Room.optimize Room.max_cells (schema s)) (λ n m p. optimize_handed_out s b n p m) (optimize_refused Room.max_cells (schema s))
