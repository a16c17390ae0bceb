-- What stands in a list and what is written to it.
use Prim.Native.Nat.{◌<◌, ℕ, ◌+◌, ◌≤◌}
use native.Mathlib.Omega.{arith}
use mathlib.Core.Path.{◌≡◌, sym, ap, ◌∙◌}
use mathlib.Core.List.{List, ◌++◌, append_assoc}
use lib.ListN.{length, take, drop, length-append, take-append-drop}
use lib.Seq.{take_at, length-take-le}
use Rattle.sql.specs.Plan.{Node}
use Rattle.cells.specs.Cells.{Part}
use Rattle.cells.specs.Room.{Wrote}
use Rattle.cells.proofs.Laws.{part_in, done}
use Rattle.words.specs.Words.{node_words}
use Rattle.words.specs.Place.{NodeHere}

-- What stands there is as if it had just been written.
pub part_wrote : {y : List ℕ} {lo hi : ℕ} {w : List ℕ} → Part y lo hi w → Wrote y lo w hi y
part_wrote {y} {lo} {hi} {w} p =
    let (a, b) = part_in p in
    let e : take lo y ≡ p.before = ap (take lo) p.whole ∙ take_at p.before (w ++ p.after) lo p.low in
    let f : take hi y ≡ p.before ++ w =
    ap (take hi) (p.whole ∙ sym (append_assoc p.before w p.after))
    ∙ take_at (p.before ++ w) p.after hi (omega (arith, length-append p.before w, p.low, p.high)) in
    done (omega (arith, p.high)) (sym p.high) (f ∙ ap (λ (l : List ℕ). l ++ w) (sym e))

-- What was written stands there.
pub wrote_part : {y : List ℕ} {lo r : ℕ} {w y' : List ℕ} → length y' ≡ length y → lo + length w < 4294967296 → lo + length w ≤ length y → Wrote y lo w r y' → Part y' lo r w
wrote_part {y} {lo} {r} {w} {y'} k s h a =
    let (e, t) = a.is (a.room s h) in
    record {
      before = take lo y;
      after = drop r y';
      whole = sym (take-append-drop r y') ∙ ap (λ (l : List ℕ). l ++ drop r y') t ∙ append_assoc (take lo y) w (drop r y');
      low = length-take-le lo y (omega arith);
      high = sym e;
    }

pub here_wrote : {y : List ℕ} {lo hi : ℕ} (p : Node) → NodeHere y lo hi p → Wrote y lo (node_words p) hi y
here_wrote p u = part_wrote u.part

pub wrote_here : {y : List ℕ} {lo r : ℕ} {y' : List ℕ} (p : Node) → length y' ≡ length y → lo + length (node_words p) < 4294967296 → lo + length (node_words p) ≤ length y → Wrote y lo (node_words p) r y'
    → NodeHere y' lo r p
wrote_here p k s h a = record { part = wrote_part k s h a }
