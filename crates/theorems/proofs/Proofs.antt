-- The proofs of Theorems.antt, from what is proved of the definitions: the refusals there are and what is handed out (crate sound), the places (Places.antt),
-- the sizes that room is asked for (Sized.antt), and the row promise on plans (crate same_rows).
use Prim.Native.Nat.{ℕ, zero, suc, ◌+◌, ◌≤◌, ◌<◌}
use native.Mathlib.Omega.{arith}
use borrow.Author.Tests.{leb-true, le-leb, lt-leb}
use mathlib.Core.Path.{◌≡◌, refl, sym, ap, ◌∙◌, subst}
use mathlib.Core.Bool.{Bool, true, false, ◌&&◌, cond}
use mathlib.Core.List.{List, ◌++◌}
use mathlib.Core.Logic.{◌⊎◌, inl, inr}
use lib.Dec.{leb}
use lib.ListN.{length, take, drop}
use lib.Seq.{take-append_seam}
use Rattle.sql.specs.Schema.{Schema}
use Rattle.sql.specs.Plan.{Node, columns, node_size}
use Rattle.sql.specs.Answer.{Answer, done, refused, ◌>>=◌}
use Rattle.sql.specs.Optimizer.{pass, optimize}
use Rattle.sql.specs.Room.{max_cells}
use Rattle.sql.specs.Room
use Rattle.sheet.specs.Parts.{cells_at, cell_count}
use Rattle.sheet.specs.Check.{Numbers, text, schema, plan, checked, check}
use Rattle.sheet.specs.Write.{write}
use Rattle.sheet.specs.Operations.{Outcome, refuse, written, hand_out, one_pass, all_five}
use Rattle.sheet_laws.specs.Plan.{Bytes}
use Rattle.sheet_laws.proofs.Plan.{plan_size}
use Rattle.literal.proofs.Law.{pass_literal, five_literal}
use Rattle.room.specs.Done.{After, after}
use Rattle.same_rows.proofs.Proved.{same_rows}
use Rattle.sound.specs.Refusals.{RefusedBy, FromTo}
use Rattle.sound.proofs.Refusals.{refused_then, refused_weaker, plan_refused, pass_refused, optimize_refused}
use Rattle.sound.specs.HandedOut.{success, HandedOut, plan_room}
use Rattle.sound.proofs.HandedOut.{pass_handed_out, optimize_handed_out}
use Rattle.sound.specs.Operations.{sheet_of}
use Rattle.sound.proofs.Operations.{all_five_sound}
use Rattle.theorems.specs.Sizes
use Rattle.theorems.specs.Theorems.{Checked, is_accepted, is_refused, Success, Answered, is_success, is_refusal, CheckAnswers, OnePassAnswers, NoSuchPass, AllFiveAnswers, with_room, needed, HandsOut, Gives, OnePassGives, AllFiveGives, FoldingRefuses, NeverLarger, BoundEnough, IsTheRust, PassesInTurn, SameRowsInTurn, SameRowsAllFive}
use Rattle.theorems.proofs.Sized.{left_out, folding_fits, bound_sized, hash_fits, pass_sized, optimize_sized}
use Rattle.theorems.proofs.Written.{written_front, written_length, written_bytes}
use Rattle.theorems.proofs.Places.{Placed, plan_placed, Fails, folding_fails}

wrong : {A : Type 0} (k : ℕ) → 1 ≤ k → k ≡ 0 → A
wrong k p e = absurd (omega arith)

-- ======== what f makes of the plan, handed out

module _ (s : List ℕ) (b : Bytes s) (out : List ℕ) (f : Node → Answer Node) (sound : (n m : Node) → plan s ≡ done n → f n ≡ done m → HandedOut s n m)
    (refuses : (n : Node) → RefusedBy (FromTo 11 14) (f n)) where
  numbered : RefusedBy (FromTo 2 14) (plan s >>= f)
  numbered =
      refused_then (FromTo 2 14) (plan s) f
      (refused_weaker (FromTo 2 10) (FromTo 2 14) (λ k h. let (p, q) = h in (p, omega arith)) (plan s) (plan_refused s))
      (λ n. refused_weaker (FromTo 11 14) (FromTo 2 14) (λ k h. let (p, q) = h in (omega arith, q)) (f n) (refuses n))

  -- the plan m, if it is written
  module _ (m : Node) (r : (plan s >>= f) ≡ done m) where
    found : After (plan s) f m
    found = after (plan s) f m r

    handed : HandedOut s found.of m
    handed = sound found.of m found.first found.second

    seam : take (length (write s m)) (write s m ++ drop (length (write s m)) out) ≡ write s m
    seam = take-append_seam (write s m) (drop (length (write s m)) out)

    written_success : length (write s m) ≤ length out → Success s out (written s out m (write s m) true)
    unfolding check
    written_success fits =
        let w = write s m in
        let n = found.of in
        let p = found.first in
        let cells_are : cell_count w ≡ node_size m =
        sym (ap (λ (a : Answer Node). (checked w a).cells) handed.stands_for) ∙ ap (λ (a : Numbers). a.cells) handed.checks in
        record {
          number_0 = refl;
          place_0 = refl;
          passes_check = ap check seam ∙ handed.checks;
          same_columns = handed.same_columns ∙ sym (ap (λ (a : Answer Node). (checked s a).columns) p);
          same_text = ap text seam ∙ handed.same_text;
          same_schema = ap schema seam ∙ handed.same_schema;
          copied = ap (take (cells_at s)) seam ∙ written_front s n p m;
          bytes = subst Bytes (sym seam) (written_bytes s n p m b handed.stands_for cells_are);
          as_long = ap length seam;
          fits = fits;
          rest_stays = ap (λ (l : List ℕ). l ++ drop (length w) out) (sym seam);
        }

    long : length (write s m) ≡ needed s m
    long = written_length s found.of found.first m

    written_gives : Gives s out (done m) (hand_out s out (done m))
    written_gives =
        let w = write s m in (
          λ fits. subst (λ (t : Bool). HandsOut s out m (written s out m w t)) (sym (le-leb (length w) (length out) (omega (arith, long))))
              (record {
                stands_for = ap plan seam ∙ handed.stands_for;
                is_written = seam;
                rest_stays = ap (λ (l : ℕ). w ++ drop l out) long;
                returned = ap (λ (l : ℕ). record { number = 0; place = 0; length = l; cells = node_size m; columns = columns (schema s) m }) long;
              }),
          λ short. ap (written s out m w) (lt-leb (length w) (length out) (omega (arith, long))) ∙ ap (refuse out 15) long,
        )

  answers : Answered s out (hand_out s out (plan s >>= f))
  answers = go (plan s >>= f) refl numbered
    where
      go : (r : Answer Node) → (plan s >>= f) ≡ r → RefusedBy (FromTo 2 14) r → Answered s out (hand_out s out r)
      go (done m) h x = by_length (leb (length (write s m)) (length out)) refl
        where
          by_length : (t : Bool) → leb (length (write s m)) (length out) ≡ t → Answered s out (written s out m (write s m) t)
          by_length true e = is_success (written_success m h (leb-true (length (write s m)) (length out) e))
          by_length false e = is_refusal 15 (length (write s m)) (omega arith) (omega arith) refl
      go (refused number place) h x = let (p, q) = x in is_refusal number place p (omega arith) refl

  gives : Gives s out (plan s >>= f) (hand_out s out (plan s >>= f))
  gives = go (plan s >>= f) refl
    where
      go : (r : Answer Node) → (plan s >>= f) ≡ r → Gives s out r (hand_out s out r)
      go (done m) h = written_gives m h
      go (refused number place) h = refl

  -- the plan of a sheet that was handed out
  record Given : Type 0 where
    node : Node
    given : (plan s >>= f) ≡ done node
    stands_for : plan (sheet_of (hand_out s out (plan s >>= f))) ≡ done node

  handed_out : (hand_out s out (plan s >>= f)).numbers.number ≡ 0 → Given
  handed_out = go (plan s >>= f) refl numbered
    where
      go : (r : Answer Node) → (plan s >>= f) ≡ r → RefusedBy (FromTo 2 14) r → (hand_out s out r).numbers.number ≡ 0 → Given
      go (done m) h x z =
          record {
            node = m;
            given = h;
            stands_for = ap (λ (r : Answer Node). plan (sheet_of (hand_out s out r))) h ∙ by_length (leb (length (write s m)) (length out)) z;
          }
        where
          by_length : (t : Bool) → (written s out m (write s m) t).numbers.number ≡ 0 → plan (sheet_of (written s out m (write s m) t)) ≡ done m
          by_length true e = ap plan (seam m h) ∙ (handed m h).stands_for
          by_length false e = wrong 15 (omega arith) e
      go (refused number place) h x z = let (p, q) = x in wrong number (omega arith) z

-- ======== 1. the operations answer

pub check_answers : CheckAnswers
unfolding check
check_answers s b = go (plan s) refl (plan_placed s b)
  where
    go : (r : Answer Node) → plan s ≡ r → Placed s r → Checked s (checked s r)
    go (done n) h x = is_accepted n h (ap (λ (c : ℕ). success c (columns (schema s) n)) (sym (plan_size s b n h)))
    go (refused number place) h x = is_refused number place h refl x.0 x.1 x.2

abbrev passed : List ℕ → ℕ → Answer Node
passed s k = plan s >>= Room.pass max_cells (schema s) k

-- a pass that there is
pass_is : (s : List ℕ) (k : ℕ) → 1 ≤ k → k ≤ 5 → (out : List ℕ) → one_pass s k out ≡ hand_out s out (passed s k)
unfolding one_pass
pass_is s k low high out =
    let b : (leb 1 k && leb k 5) ≡ true = rw (le-leb 1 k low, le-leb k 5 high) in
    ap (λ (t : Bool). cond t (hand_out s out (passed s k)) (refuse out 1 0)) b

abbrev all_passed : List ℕ → Answer Node
all_passed s = plan s >>= Room.optimize max_cells (schema s)

five_are : (s out : List ℕ) → all_five s out ≡ hand_out s out (all_passed s)
unfolding all_five
five_are s out = refl

pub one_pass_answers : OnePassAnswers
one_pass_answers s b k low high out =
    subst (Answered s out) (sym (pass_is s k low high out))
    (answers s b out (Room.pass max_cells (schema s) k) (λ n m p. pass_handed_out s b n p k m) (pass_refused max_cells (schema s) k low high))

pub all_five_answers : AllFiveAnswers
all_five_answers s b out =
    subst (Answered s out) (sym (five_are s out))
    (answers s b out (Room.optimize max_cells (schema s)) (λ n m p. optimize_handed_out s b n p m) (optimize_refused max_cells (schema s)))

and_false : (t : Bool) → (t && false) ≡ false
and_false true = refl
and_false false = refl

no_pass : (k : ℕ) → (k < 1) ⊎ (5 < k) → (leb 1 k && leb k 5) ≡ false
no_pass k (inl h) = ap (λ (t : Bool). t && leb k 5) (lt-leb 1 k h)
no_pass k (inr h) = ap (λ (t : Bool). leb 1 k && t) (lt-leb k 5 h) ∙ and_false (leb 1 k)

pub no_such_pass : NoSuchPass
unfolding one_pass
no_such_pass s k out h = ap (λ (t : Bool). cond t (hand_out s out (passed s k)) (refuse out 1 0)) (no_pass k h)

-- ======== 2. each pass and all five

same_then : (r : Answer Node) (f g : Node → Answer Node) → ((n : Node) → r ≡ done n → f n ≡ g n) → (r >>= f) ≡ (r >>= g)
same_then (done n) f g h = h n refl
same_then (refused number place) f g h = refl

pass_gives : (s : List ℕ) → Bytes s → (k : ℕ) → 1 ≤ k → k ≤ 5 → (out : List ℕ)
    → Gives s out (plan s >>= λ (n : Node). with_room (Sizes.pass (schema s) k n) (pass (schema s) k n)) (one_pass s k out)
pass_gives s b k low high out =
    let f = Room.pass max_cells (schema s) k in
    let g : Node → Answer Node = λ n. with_room (Sizes.pass (schema s) k n) (pass (schema s) k n) in
    subst (Gives s out (plan s >>= g)) (sym (pass_is s k low high out))
    (subst (λ (r : Answer Node). Gives s out r (hand_out s out (passed s k))) (same_then (plan s) f g (λ n h. pass_sized (schema s) k n (plan_room s b n h)))
    (gives s b out f (λ n m p. pass_handed_out s b n p k m) (pass_refused max_cells (schema s) k low high)))

pub one_pass_gives : OnePassGives
one_pass_gives = record { gives = pass_gives; no_other = no_such_pass }

pub all_five_gives : AllFiveGives
all_five_gives s b out =
    let f = Room.optimize max_cells (schema s) in
    let g : Node → Answer Node = λ n. with_room (Sizes.optimize (schema s) n) (optimize (schema s) n) in
    subst (Gives s out (plan s >>= g)) (sym (five_are s out))
    (subst (λ (r : Answer Node). Gives s out r (hand_out s out (all_passed s))) (same_then (plan s) f g (λ n h. optimize_sized (schema s) n (plan_room s b n h)))
    (gives s b out f (λ n m p. optimize_handed_out s b n p m) (optimize_refused max_cells (schema s))))

pub folding_refuses : FoldingRefuses
folding_refuses n number place e = let x = subst (Fails (0 + node_size n)) e (folding_fails 0 n) in (x.0, x.1, let p = x.2 in omega arith)

pub never_larger : NeverLarger
never_larger tables n =
    left_out (node_size n) tables (Sizes.ConstantFolding 0 0 n) (Sizes.HashJoin tables 0 n) (folding_fits (node_size n) tables 0 0 n (omega arith))
    ∙ hash_fits (node_size n) tables 0 n (omega arith)

pub bound_enough : BoundEnough
bound_enough tables k room n h = bound_sized room tables k 0 n h

pub is_the_rust : IsTheRust
is_the_rust = (pass_literal, five_literal)

-- ======== 3. rows

-- A plan that is handed out, and not refused for a short output, is answered by 0.
handed_number : (s out : List ℕ) (r : Answer Node) (m : Node) → r ≡ done m → ((hand_out s out r).numbers.number ≡ 15 → ⊥) → (hand_out s out r).numbers.number ≡ 0
handed_number s out r m e long =
    let at_done = ap (λ (a : Answer Node). (hand_out s out a).numbers.number) e in
    at_done ∙ go (leb (length (write s m)) (length out)) (λ short. long (at_done ∙ short))
  where
    go : (t : Bool) → ((written s out m (write s m) t).numbers.number ≡ 15 → ⊥) → (written s out m (write s m) t).numbers.number ≡ 0
    go true long = refl
    go false long = absurd (long refl)

-- ---- one pass after the other

-- a pass that is done, of the sheet's plan n
module _ (s : List ℕ) (b : Bytes s) (n m : Node) (stands : plan s ≡ done n) (k : ℕ) (low : 1 ≤ k) (high : k ≤ 5) (is_done : Room.pass max_cells (schema s) k n ≡ done m)
    (out : List ℕ) (long : (one_pass s k out).numbers.number ≡ 15 → ⊥) where
  is_passed : passed s k ≡ done m
  is_passed = ap (λ (a : Answer Node). a >>= Room.pass max_cells (schema s) k) stands ∙ is_done

  pass_success : Success s out (one_pass s k out)
  pass_success = go (one_pass_answers s b k low high out)
    where
      number_0 : (one_pass s k out).numbers.number ≡ 0
      number_0 =
          let by_pass = ap (λ (o : Outcome). o.numbers.number) (pass_is s k low high out) in
          by_pass ∙ handed_number s out (passed s k) m is_passed (λ short. long (by_pass ∙ short))

      go : Answered s out (one_pass s k out) → Success s out (one_pass s k out)
      go (is_success h) = h
      go (is_refusal number place p q e) = wrong number (omega arith) (sym (ap (λ (o : Outcome). o.numbers.number) e) ∙ number_0)

  pass_stands_for : plan (sheet_of (one_pass s k out)) ≡ done m
  pass_stands_for =
      let e = pass_is s k low high out in
      let x = handed_out s b out (Room.pass max_cells (schema s) k) (λ n m p. pass_handed_out s b n p k m) (pass_refused max_cells (schema s) k low high)
      (sym (ap (λ (o : Outcome). o.numbers.number) e) ∙ pass_success.number_0) in
      ap (λ (o : Outcome). plan (sheet_of o)) e ∙ (x.stands_for ∙ (sym x.given ∙ is_passed))

module _ (sheet : ℕ → List ℕ) (plans : ℕ → Node) (h : PassesInTurn sheet) (p : plan (sheet 0) ≡ done (plans 0))
    (steps : (k : ℕ) → k < 5 → Room.pass max_cells (schema (sheet 0)) (suc k) (plans k) ≡ done (plans (suc k))) where
  -- what sheet k keeps of sheet 0
  record Kept (k : ℕ) : Type 0 where
    bytes : Bytes (sheet k)
    stands_for : plan (sheet k) ≡ done (plans k)
    same_schema : schema (sheet k) ≡ schema (sheet 0)
    same_columns : (check (sheet k)).columns ≡ (check (sheet 0)).columns

  kept : (k : ℕ) → k ≤ 5 → Kept k
  kept zero i = record { bytes = h.bytes; stands_for = p; same_schema = refl; same_columns = refl }
  kept (suc k) i =
      let x = kept k (omega arith) in
      let is_done = subst (λ (t : Schema). Room.pass max_cells t (suc k) (plans k) ≡ done (plans (suc k))) (sym x.same_schema) (steps k (omega arith)) in
      let long = h.long_enough k (omega arith) in
      let y = pass_success (sheet k) x.bytes (plans k) (plans (suc k)) x.stands_for (suc k) (omega arith) i is_done (h.outputs k) long in
      let z = pass_stands_for (sheet k) x.bytes (plans k) (plans (suc k)) x.stands_for (suc k) (omega arith) i is_done (h.outputs k) long in
      let next = h.next k (omega arith) in
      record {
        bytes = subst Bytes (sym next) y.bytes;
        stands_for = ap plan next ∙ z;
        same_schema = ap schema next ∙ (y.same_schema ∙ x.same_schema);
        same_columns = ap (λ (l : List ℕ). (check l).columns) next ∙ (ap (λ (n : Numbers). n.columns) y.passes_check ∙ (y.same_columns ∙ x.same_columns));
      }

pub same_rows_in_turn : SameRowsInTurn
same_rows_in_turn sheet plans database rows h p e given k i =
    let steps = subst (λ (t : Schema). (k : ℕ) → k < 5 → Room.pass max_cells t (suc k) (plans k) ≡ done (plans (suc k))) e given.not_refused in
    let x = kept sheet plans h p steps k i in
    (x.stands_for, x.same_columns, (same_rows database plans rows given k i).same_rows)

-- ---- all five at once

-- passes in turn are all five
all_in_turn : (tables : Schema) (plans : ℕ → Node) → ((k : ℕ) → k < 5 → Room.pass max_cells tables (suc k) (plans k) ≡ done (plans (suc k)))
    → Room.optimize max_cells tables (plans 0) ≡ done (plans 5)
all_in_turn tables plans p =
    step from_2 (p 0 (omega arith)) ∙ (step from_3 (p 1 (omega arith)) ∙ (step from_4 (p 2 (omega arith)) ∙ (step from_5 (p 3 (omega arith)) ∙ step done (p 4 (omega arith)))))
  where
    from_5 : Node → Answer Node
    from_5 x = Room.pass max_cells tables 5 x >>= done

    from_4 : Node → Answer Node
    from_4 x = Room.pass max_cells tables 4 x >>= from_5

    from_3 : Node → Answer Node
    from_3 x = Room.pass max_cells tables 3 x >>= from_4

    from_2 : Node → Answer Node
    from_2 x = Room.pass max_cells tables 2 x >>= from_3

    step : (f : Node → Answer Node) {a : Answer Node} {x : Node} → a ≡ done x → (a >>= f) ≡ f x
    step f e = ap (λ (z : Answer Node). z >>= f) e

pub same_rows_all_five : SameRowsAllFive
unfolding check
same_rows_all_five s out plans database rows b long h e given =
    let steps = subst (λ (t : Schema). (k : ℕ) → k < 5 → Room.pass max_cells t (suc k) (plans k) ≡ done (plans (suc k))) e given.not_refused in
    let is_done : all_passed s ≡ done (plans 5) =
    ap (λ (a : Answer Node). a >>= Room.optimize max_cells (schema s)) h ∙ all_in_turn (schema s) plans steps in
    let by_five = ap (λ (o : Outcome). o.numbers.number) (five_are s out) in
    let zero_answered = handed_number s out (all_passed s) (plans 5) is_done (λ short. long (by_five ∙ short)) in
    let x = handed_out s b out (Room.optimize max_cells (schema s)) (λ n m p. optimize_handed_out s b n p m) (optimize_refused max_cells (schema s)) zero_answered in
    let y = all_five_sound s b out (by_five ∙ zero_answered) in (
      ap (λ (o : Outcome). plan (sheet_of o)) (five_are s out) ∙ (x.stands_for ∙ (sym x.given ∙ is_done)),
      ap (λ (n : Numbers). n.columns) y.checks ∙ y.same_columns,
      λ k i.
          let z = same_rows database plans rows given k i in (
            subst (λ (t : Schema). columns t (plans k) ≡ columns t (plans 0)) e z.same_columns ∙ sym (ap (λ (a : Answer Node). (checked s a).columns) h),
            z.same_rows,
          ),
    )
