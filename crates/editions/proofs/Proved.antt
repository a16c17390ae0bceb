-- The proof of Law.antt.
use Rattle.std.specs.Prelude.{ℕ, suc, ◌+◌, ◌*◌, ◌≤◌, ◌≡◌, refl, Bool, true, false, ◌&&◌, cond, List, [], ◌∷◌, ◌++◌, map, leb, drop}
use Rattle.std.proofs.Common.{arith, leb-true, ap₂, ◌∙◌}
use Rattle.std.proofs.Math.Path.{sym, ap}
use Rattle.std.proofs.Math.ListN.{length, take, length-map}
use Rattle.std.proofs.Math.Seq.{take-append_seam, drop-append_seam}
use Rattle.sql.specs.Answer.{Answer, done, refused, ◌>>=◌}
use Rattle.sql.specs.Schema.{Schema}
use Rattle.sql.specs.Plan.{Node, columns, node_size}
use Rattle.sql.specs.Optimizer.{Optimizer}
use Rattle.sql.specs.Room
use Rattle.sheet.specs.Bytes.{bytes, word}
use Rattle.sheet.specs.Parts.{tables_at, columns_at, cells_at, edition}
use Rattle.sheet.specs.Cell.{Cell}
use Rattle.sheet.specs.Cells.{cells}
use Rattle.sheet.specs.Check.{schema, plan}
use Rattle.sheet.specs.Write.{cells_bytes, trailer, sheet_with, write}
use Rattle.sheet.specs.Operations.{refuse, written, hand_out, one_pass, all_five}
use Rattle.sheet_laws.specs.Accepted.{accepted}
use Rattle.sheet_laws.specs.Content.{and_left, and_right}
use Rattle.sheet_laws.specs.Plan.{Bytes}
use Rattle.room.specs.Done.{after}
use Rattle.origins.specs.Origins.{map_answer}
use Rattle.origins.proofs.Proved.{passes_commute, five_commute}
use Rattle.origins.proofs.Unseen.{node_size_unseen, columns_unseen}
use Rattle.sound.specs.Origins.{remarked, cells_mapped}
use Rattle.sound.specs.Refusals.{RefusedBy, FromTo}
use Rattle.sound.proofs.Refusals.{refused_then, refused_weaker, plan_refused, pass_refused, optimize_refused}
use Rattle.sound.specs.HandedOut.{HandedOut}
use Rattle.sound.proofs.HandedOut.{pass_handed_out, optimize_handed_out}
use Rattle.sound.specs.Operations.{sheet_of}
use Rattle.editions.specs.Editions.{in_edition, down, down_outcome}
use Rattle.editions.specs.Law.{zeroed, PlanAlike, CheckedAlike, PassAlike, FiveAlike, PassStays, FiveStays}
use Rattle.editions.proofs.Kept.{same_length}
use Rattle.editions.proofs.Written.{numbered, written_edition, carried}
use Rattle.editions.proofs.Plan.{down_edition, down_tables_at, down_columns_at, down_cells_at, down_front, plan_down, accepted_schema, check_down}

pub plan_alike : PlanAlike
plan_alike s b two = plan_down s b two

pub check_alike : CheckedAlike
check_alike s b two = check_down s b two

-- Nothing to take down.
down_none : down [] ≡ []
unfolding in_edition word
down_none = refl

-- a refusal
refuse_down : (out : List ℕ) (number place : ℕ) → refuse out number place ≡ down_outcome (refuse out number place)
refuse_down out number place = ap (λ (l : List ℕ). record { numbers = (refuse out number place).numbers; output = l ++ out }) (sym down_none)

-- origins all 0
numbered_zero : (i : ℕ) (ks : List Cell) → numbered (λ i. 0) i ks ≡ map (remarked (λ og. 0)) ks
numbered_zero i [] = refl
numbered_zero i (k ∷ ks) = ap (λ l. remarked (λ og. 0) k ∷ l) (numbered_zero (suc i) ks)

-- No refusal has number 0.
no_refusal : {A : Type 0} (k : ℕ) → 1 ≤ k → k ≡ 0 → A
no_refusal k p e = absurd (omega arith)

module _ (s : List ℕ) (b : Bytes s) (out : List ℕ) (f : Optimizer) (hands_out : (n m : Node) → plan s ≡ done n → f n ≡ done m → HandedOut s n m) where
  -- ---- in its own edition

  stays_in : ((n : Node) → RefusedBy (FromTo 11 14) (f n)) → (hand_out s out (plan s >>= f)).numbers.number ≡ 0 → edition (sheet_of (hand_out s out (plan s >>= f))) ≡ edition s
  stays_in refuses = go (plan s >>= f) refl numbers_from_1
    where
      numbers_from_1 : RefusedBy (λ k. 1 ≤ k) (plan s >>= f)
      numbers_from_1 =
          refused_then (λ k. 1 ≤ k) (plan s) f (refused_weaker (FromTo 2 10) (λ k. 1 ≤ k) (λ k h. let (p, q) = h in omega arith) (plan s) (plan_refused s))
          (λ n. refused_weaker (FromTo 11 14) (λ k. 1 ≤ k) (λ k h. let (p, q) = h in omega arith) (f n) (refuses n))

      in_output : (m : Node) → edition (write s m) ≡ edition s → (t : Bool) → (written s out m (write s m) t).numbers.number ≡ 0 → edition (sheet_of (written s out m (write s m) t)) ≡ edition s
      in_output m e true z = ap edition (take-append_seam (write s m) (drop (length (write s m)) out)) ∙ e
      in_output m e false z = no_refusal 15 (omega arith) z

      go : (r : Answer Node) → (plan s >>= f) ≡ r → RefusedBy (λ k. 1 ≤ k) r → (hand_out s out r).numbers.number ≡ 0 → edition (sheet_of (hand_out s out r)) ≡ edition s
      go (done m) h x z =
          let a = after (plan s) f m h in
          let o = hands_out a.of m a.first a.second in
          in_output m (written_edition s a.of a.first m o.stands_for o.checks) (leb (length (write s m)) (length out)) z
      go (refused number place) h x z = no_refusal number x z

  module _ (two : edition s ≡ 2) where
    abbrev d : List ℕ
    d = down s

    -- ---- the sheet written

    write_down : (m : Node) → (plan s >>= f) ≡ done m → write d (zeroed m) ≡ down (write s m)
    unfolding write sheet_with trailer
    write_down m h =
        let r = after (plan s) f m h in
        let n = r.of in
        let a = accepted s n r.first in
        let l = a.length_is in
        let o = hands_out n m r.first r.second in
        let ks : cells (zeroed m) ≡ numbered (λ i. 0) 0 (cells m) = cells_mapped (λ og. 0) m ∙ sym (numbered_zero 0 (cells m)) in
        let k : length (cells (zeroed m)) ≡ length (cells m) = ap length (cells_mapped (λ og. 0) m) ∙ length-map (cells m) (remarked (λ og. 0)) in
        let same : write d (zeroed m)
        ≡ take (cells_at s) s ++ (cells_bytes (numbered (λ i. 0) 0 (cells m))
        ++ (bytes (tables_at s) ++ (bytes (columns_at s) ++ (bytes (cells_at s) ++ (bytes 1 ++ bytes (cells_at s + 16 * length (cells m) + 20)))))) =
        cc (down_front s b two l a.parts_are, ks, k, down_tables_at s b two l, down_columns_at s b two l, down_cells_at s b two l, down_edition s b two l) in
        same ∙ sym (carried s n r.first m o.stands_for o.checks 1 (λ i. 0))

    -- ---- the operation

    written_down : (m : Node) → (plan s >>= f) ≡ done m → (t : Bool) → written d out (zeroed m) (down (write s m)) t ≡ down_outcome (written s out m (write s m) t)
    written_down m h true =
        let r = after (plan s) f m h in
        let w = write s m in
        let x = drop (length w) out in
        let l : length (down w) ≡ length w = same_length 1 (λ i. 0) w in
        let size : node_size (zeroed m) ≡ node_size m = node_size_unseen (λ og. 0) m in
        let wide : columns (schema d) (zeroed m) ≡ columns (schema s) m =
        ap (λ (t : Schema). columns t (zeroed m)) (accepted_schema s b two r.of r.first) ∙ columns_unseen (λ og. 0) (schema s) m in
        let front : take (length w) (w ++ x) ≡ w = take-append_seam w x in
        let back : drop (length w) (w ++ x) ≡ x = drop-append_seam w x in
        cc (l, size, wide, front, back)
    written_down m h false = ap (refuse out 15) (same_length 1 (λ i. 0) (write s m)) ∙ refuse_down out 15 (length (write s m))

    hand_out_down : (r : Answer Node) → (plan s >>= f) ≡ r → hand_out d out (map_answer zeroed r) ≡ down_outcome (hand_out s out r)
    hand_out_down (done m) h =
        let l : length (write d (zeroed m)) ≡ length (write s m) = ap length (write_down m h) ∙ same_length 1 (λ i. 0) (write s m) in
        ap₂ (λ (x : List ℕ) (k : ℕ). written d out (zeroed m) x (leb k (length out))) (write_down m h) l
        ∙ written_down m h (leb (length (write s m)) (length out))
    hand_out_down (refused number place) h = refuse_down out number place

    -- f makes of the plan what g makes of it with its origins set to zero.
    outcome_down : (g : Optimizer) → ((n : Node) → plan s ≡ done n → g (zeroed n) ≡ map_answer zeroed (f n)) → hand_out d out (plan d >>= g) ≡ down_outcome (hand_out s out (plan s >>= f))
    outcome_down g k = ap (hand_out d out) (ap (λ (r : Answer Node). r >>= g) (plan_down s b two) ∙ go (plan s) refl) ∙ hand_out_down (plan s >>= f) refl
      where
        go : (r : Answer Node) → plan s ≡ r → (map_answer zeroed r >>= g) ≡ map_answer zeroed (r >>= f)
        go (done n) h = k n h
        go (refused number place) h = refl

pub pass_alike : PassAlike
unfolding one_pass
pass_alike s b two k out = go (leb 1 k && leb k 5)
  where
    commutes : (n : Node) → plan s ≡ done n → Room.pass Room.max_cells (schema (down s)) k (zeroed n) ≡ map_answer zeroed (Room.pass Room.max_cells (schema s) k n)
    commutes n h =
        ap (λ (t : Schema). Room.pass Room.max_cells t k (zeroed n)) (accepted_schema s b two n h) ∙ passes_commute Room.max_cells (schema s) k (λ og. 0) n

    go : (t : Bool) → cond t (hand_out (down s) out (plan (down s) >>= Room.pass Room.max_cells (schema (down s)) k)) (refuse out 1 0)
        ≡ down_outcome (cond t (hand_out s out (plan s >>= Room.pass Room.max_cells (schema s) k)) (refuse out 1 0))
    go true =
        outcome_down s b out (Room.pass Room.max_cells (schema s) k) (λ n m p. pass_handed_out s b n p k m) two (Room.pass Room.max_cells (schema (down s)) k) commutes
    go false = refuse_down out 1 0

pub five_alike : FiveAlike
unfolding all_five
five_alike s b two out =
    outcome_down s b out (Room.optimize Room.max_cells (schema s)) (λ n m p. optimize_handed_out s b n p m) two (Room.optimize Room.max_cells (schema (down s)))
    (λ n h. ap (λ (t : Schema). Room.optimize Room.max_cells t (zeroed n)) (accepted_schema s b two n h) ∙ five_commute Room.max_cells (schema s) (λ og. 0) n)

pub pass_stays : PassStays
unfolding one_pass
pass_stays s b k out = go (leb 1 k && leb k 5) refl
  where
    answer : Answer Node
    answer = plan s >>= Room.pass Room.max_cells (schema s) k

    go : (t : Bool) → (leb 1 k && leb k 5) ≡ t → (cond t (hand_out s out answer) (refuse out 1 0)).numbers.number ≡ 0
        → edition (sheet_of (cond t (hand_out s out answer) (refuse out 1 0))) ≡ edition s
    go true h z =
        stays_in s b out (Room.pass Room.max_cells (schema s) k) (λ n m p. pass_handed_out s b n p k m)
        (pass_refused Room.max_cells (schema s) k (leb-true 1 k (and_left (leb 1 k) (leb k 5) h)) (leb-true k 5 (and_right (leb 1 k) (leb k 5) h))) z
    go false h z = no_refusal 1 (omega arith) z

pub five_stays : FiveStays
unfolding all_five
five_stays s b out = stays_in s b out (Room.optimize Room.max_cells (schema s)) (λ n m p. optimize_handed_out s b n p m) (optimize_refused Room.max_cells (schema s))
