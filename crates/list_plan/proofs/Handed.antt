-- The sheet that all five passes hand out can be listed, and its lines don't depend on the output that was lent, if that has room for every sheet.
use Prim.Native.Nat.{ℕ, zero, suc, ◌≤◌, ◌<◌}
use native.Mathlib.Omega.{arith}
use borrow.Author.Tests.{leb-true, le-leb}
use mathlib.Core.Logic.{◌⊎◌, inl, inr}
use mathlib.Core.Path.{◌≡◌, refl, sym, ap, ◌∙◌, subst}
use mathlib.Core.Bool.{Bool, ◌&&◌}
use mathlib.Core.List.{List}
use lib.Dec.{leb, eqb}
use lib.ListN.{length, drop, length-replicate}
use lib.Seq.{take_all, take-append_seam, length-take-le}
use Rattle.sql.specs.Plan.{Node, columns}
use Rattle.sql.specs.Answer.{Answer, done, refused, ◌>>=◌}
use Rattle.sql.specs.Room
use Rattle.sheet.specs.Parts.{length_ok, said_length}
use Rattle.sheet.specs.Check.{Numbers, schema, plan, check, checked}
use Rattle.sheet.specs.Write.{write}
use Rattle.sheet.specs.Operations.{Outcome, written, hand_out, all_five}
use Rattle.sheet.specs.Listing.{listing, refusal_line}
use Rattle.sheet_laws.specs.Accepted.{accepted}
use Rattle.sheet_laws.specs.Content.{and_left, and_right}
use Rattle.sheet_laws.specs.Plan.{Bytes}
use Rattle.room.specs.Done.{after}
use Rattle.sound.specs.Refusals.{RefusedBy, FromTo}
use Rattle.sound.proofs.Refusals.{refused_then, refused_weaker, plan_refused, optimize_refused}
use Rattle.sound.proofs.HandedOut.{optimize_handed_out}
use Rattle.sound.specs.Operations.{sheet_of}
use Rattle.sound.proofs.Operations.{all_five_sound}
use Rattle.layout.specs.Layout.{Whole}
use Rattle.cells.specs.Room.{Wrote}
use Rattle.cells.proofs.Laws.{fits_to}
use Rattle.cells.proofs.Laws.{lt_or_ge}
use Rattle.listing.specs.Lines.{Listed}
use Rattle.listing.proofs.Size.{refusal_short}
use Rattle.list_plan.specs.Listed.{lines_by, lines, blank, listed, Lines}

-- ---- a sheet that passes the check is whole

whole_if_checked : (t : List ℕ) → (check t).number ≡ 0 → Whole t
unfolding check
whole_if_checked t = go (plan t) refl (plan_refused t)
  where
    go : (r : Answer Node) → plan t ≡ r → RefusedBy (FromTo 2 10) r → (checked t r).number ≡ 0 → Whole t
    go (done n) h x e = let a = accepted t n h in record { length_is = a.length_is; parts_are = a.parts_are }
    go (refused number place) h x e = let (p, q) = x in absurd (omega arith)

length_bound : (t : List ℕ) → Whole t → length t ≤ 45332
unfolding length_ok
length_bound t w =
    leb-true (length t) 45332
    (and_left (leb (length t) 45332) (eqb (said_length t) (length t))
    (and_right (leb 20 (length t)) (leb (length t) 45332 && eqb (said_length t) (length t)) w.length_is))

module _ (s : List ℕ) (b : Bytes s) (out : List ℕ) (h : (all_five s out).numbers.number ≡ 0) where
  -- The sheet handed out is whole, as the listing asks.
  pub handed_whole : Whole (sheet_of (all_five s out))
  handed_whole = whole_if_checked (sheet_of (all_five s out)) (ap (λ (n : Numbers). n.number) (all_five_sound s b out h).checks)

  -- It ends in the output.
  pub handed_within : (all_five s out).numbers.length ≤ length (all_five s out).output
  handed_within = go (lt_or_ge (length (all_five s out).output) (all_five s out).numbers.length)
    where
      go : (length (all_five s out).output < (all_five s out).numbers.length) ⊎ ((all_five s out).numbers.length ≤ length (all_five s out).output)
          → (all_five s out).numbers.length ≤ length (all_five s out).output
      go (inl p) =
          absurd (
          omega (
            arith,
            (all_five_sound s b out h).long,
            ap length (take_all (all_five s out).numbers.length (all_five s out).output (omega arith)),
          )
          )
      go (inr p) = p

-- ---- the lines don't depend on the output

-- the lines of a plan, or of a refusal
abbrev said : List ℕ → Answer Node → List ℕ
said s (done m) = listing (write s m) (columns (schema s) m)
said s (refused number place) = refusal_line number place

module _ (s : List ℕ) (b : Bytes s) where
  abbrev optimized : Answer Node
  optimized = plan s >>= Room.optimize Room.max_cells (schema s)

  numbered : RefusedBy (λ k. 1 ≤ k) optimized
  numbered =
      refused_then (λ k. 1 ≤ k) (plan s) (Room.optimize Room.max_cells (schema s))
      (refused_weaker (FromTo 2 10) (λ k. 1 ≤ k) (λ k h. let (p, q) = h in omega arith) (plan s) (plan_refused s))
      (λ n. refused_weaker (FromTo 11 14) (λ k. 1 ≤ k) (λ k h. let (p, q) = h in omega arith) (Room.optimize Room.max_cells (schema s) n) (optimize_refused Room.max_cells (schema s) n))

  sheet_bound : (m : Node) → optimized ≡ done m → length (write s m) ≤ 45332
  sheet_bound m h =
      let a = after (plan s) (Room.optimize Room.max_cells (schema s)) m h in
      length_bound (write s m) (whole_if_checked (write s m) (ap (λ (n : Numbers). n.number) (optimize_handed_out s b a.of a.first m a.second).checks))

  lines_said : (out : List ℕ) → 45332 ≤ length out → (r : Answer Node) → optimized ≡ r → RefusedBy (λ k. 1 ≤ k) r → lines (hand_out s out r) ≡ said s r
  lines_said out room (done m) h x =
      let fits : length (write s m) ≤ length out = omega (arith, sheet_bound m h) in
      ap (λ (t : Bool). lines (written s out m (write s m) t)) (le-leb (length (write s m)) (length out) fits)
      ∙ ap (λ (l : List ℕ). listing l (columns (schema s) m)) (take-append_seam (write s m) (drop (length (write s m)) out))
  lines_said out room (refused zero place) h x = absurd (omega arith)
  lines_said out room (refused (suc n) place) h x = refl

  pub lines_any : (out : List ℕ) → 45332 ≤ length out → lines (all_five s out) ≡ listed s
  unfolding listed
  lines_any out room =
      lines_said out room optimized refl numbered
      ∙ sym (lines_said blank (omega (arith, length-replicate {A = ℕ} 45332 0)) optimized refl numbered)

-- ---- what is written for an outcome

pub refused_lines : (n : ℕ) (o : Outcome) → 1 ≤ n → lines_by n o ≡ refusal_line n o.numbers.place
refused_lines zero o h = absurd (omega arith)
refused_lines (suc n) o h = refl

pub found_lines : (n : ℕ) (o : Outcome) → n ≡ 0 → lines_by n o ≡ listing (sheet_of o) o.numbers.columns
found_lines zero o h = refl
found_lines (suc n) o h = absurd (omega arith)

-- lines that are written from the first byte on, with room for them
from_first : {out : List ℕ} {w : List ℕ} {r : ℕ} {out' : List ℕ} (s : List ℕ) → w ≡ listed s → length out' ≡ length out → length w ≤ 94323 → 94323 ≤ length out → Wrote out 0 w r out' → Lines s r out'
from_first {out} {w} {r} {out'} s e k h l a =
    let (n, t) = fits_to a (omega arith) (omega arith) in
    record { within = omega arith; counted = length-take-le r out' (omega arith); are = t ∙ e }

-- o is what all five passes gave for s, into an output with room for every sheet
module _ (s : List ℕ) (b : Bytes s) (sheet : List ℕ) (o : Outcome) (e : o ≡ all_five s sheet) (room : 45332 ≤ length sheet) where
  lines_are : lines o ≡ listed s
  lines_are = ap lines e ∙ lines_any s b sheet room

  number_is : o.numbers.number ≡ 0 → (all_five s sheet).numbers.number ≡ 0
  number_is h = sym (ap (λ (x : Outcome). x.numbers.number) e) ∙ h

  pub outcome_whole : o.numbers.number ≡ 0 → Whole (sheet_of o)
  outcome_whole h = subst (λ (x : Outcome). Whole (sheet_of x)) (sym e) (handed_whole s b sheet (number_is h))

  pub outcome_within : o.numbers.number ≡ 0 → o.numbers.length ≤ length o.output
  outcome_within h = subst (λ (x : Outcome). x.numbers.length ≤ length x.output) (sym e) (handed_within s b sheet (number_is h))

  module _ {out : List ℕ} {r : ℕ} {out' : List ℕ} (same : length out' ≡ length out) (long : 94323 ≤ length out) where
    pub refusal_listed : 1 ≤ o.numbers.number → Wrote out 0 (refusal_line o.numbers.number o.numbers.place) r out' → Lines s r out'
    refusal_listed h a =
        from_first s (sym (refused_lines o.numbers.number o h) ∙ lines_are) same
        (omega (arith, refusal_short o.numbers.number o.numbers.place)) long a

    pub sheet_listed : o.numbers.number ≡ 0 → Listed (sheet_of o) o.numbers.columns out 0 r out' → Lines s r out'
    sheet_listed h a = from_first s (sym (found_lines o.numbers.number o h) ∙ lines_are) same (omega (arith, a.short)) long a.wrote
