-- What holds of the plan of a sheet that is accepted, and what is lent of its schema.
use Prim.Native.Nat.{ℕ, ◌+◌, ◌*◌, ◌%◌, ◌≤◌, ◌<◌}
use native.Mathlib.Omega.{arith}
use mathlib.Core.Path.{◌≡◌, refl, sym, ap, ◌∙◌, subst}
use mathlib.Core.List.{List, ◌++◌}
use lib.ListN.{length, take}
use Rattle.sql.specs.Plan.{Node, columns, node_size}
use Rattle.sql.specs.Answer.{Answer, done}
use Rattle.sheet.specs.Parts.{table_count}
use Rattle.sheet.specs.Cell.{origins}
use Rattle.sheet.specs.Check.{text, schema, cells_of, plan}
use Rattle.sheet_laws.specs.Accepted.{accepted}
use Rattle.sheet_laws.specs.Plan.{Bytes}
use Rattle.sheet_laws.proofs.Plan.{parts_of, text_length, plan_cells, plan_fits, plan_origins, origins_some}
use Rattle.sheet_laws.specs.Fits.{OriginsBelow}
use Rattle.origins.specs.Origins.{map_node_origins}
use Rattle.origins.proofs.Proved.{passes_keep, five_keep}
use Rattle.sound.specs.Origins.{below_left, left_below}
use Rattle.sound.specs.Sound.{Sound}
use Rattle.sound.specs.HandedOut.{names_inside}
use Rattle.sound.specs.Checks.{passes_sound}
use Rattle.layout.specs.Layout.{Whole}
use Rattle.cells.specs.Cells.{cell_words}
use Rattle.cells.specs.Room.{most_words, Wrote}
use Rattle.cells.proofs.Laws.{fits as room_for}
use Rattle.words.specs.Words.{node_words}
use Rattle.words.proofs.Sizes.{words_long}
use Rattle.kept.specs.Kept.{Kept}
use Rattle.schema.specs.Schema.{table_records, column_records}
use Rattle.schema.proofs.Laws.{recorded}
use Rattle.schema.proofs.Lent.{records_said}
use Rattle.encode.specs.Encode.{cells_in}
use Rattle.encode.proofs.Says.{node_cells}
use Rattle.decode.specs.Decode.{Acceptable, Decodes}
use Rattle.checker.specs.declared.Answer as Code
use Rattle.hand_out.specs.HandOut.{Fit, Ran, numbered, Leaves, AnsweredAt, HandsOut}
use Rattle.hand_out.proofs.Handing.{left_numbered}
use Rattle.optimizer.specs.Choices.{chosen}
use Rattle.optimizer.specs.declared.Chosen.{Chosen}
use Rattle.optimizer.specs.declared.Chosen.TheVariants.{One, All}
use Rattle.passes.specs.Passes.{Lent, PlanIn, PlanAt, Alike, Runs, ForAll, Passed}
use Rattle.sheet_passes.specs.SheetPasses.{RunAt, RunsOn}

module _ (s : List ℕ) (b : Bytes s) (n : Node) (h : plan s ≡ done n) where
  fit : Kept (schema s) (text s) (table_count s) n n
  fit =
      let a = accepted s n h in
      (passes_sound (schema s) (text s) (table_count s) n 0 (plan_fits s b n h) a.scope_is a.targets_are, refl)

  -- What is chosen makes no origin of its own: put through this function, the origins that the sheet has stay as they are, and no others do.
  abbrev remainder : ℕ → ℕ
  remainder og = og % origins s

  chosen_keeps : (c : Chosen) (room : ℕ) (m : Node) → map_node_origins remainder n ≡ n → chosen c room (schema s) n ≡ done m → map_node_origins remainder m ≡ m
  chosen_keeps (One k) room m e q = passes_keep room (schema s) k remainder n m e q
  chosen_keeps All room m e q = five_keep room (schema s) remainder n m e q

  chosen_origins : (c : Chosen) (room : ℕ) (m : Node) → chosen c room (schema s) n ≡ done m → OriginsBelow (origins s) m
  chosen_origins c room m q =
      let some = origins_some s in
      left_below (origins s) some m (chosen_keeps c room m (below_left (origins s) some n (plan_origins s b n h)) q)

  text_short : length (text s) < 65536
  text_short = let p = parts_of (accepted s n h) in omega (arith, text_length s p)

  lent : Lent (table_records s) (column_records s) (schema s) (text s)
  lent = record { records = records_said s (recorded s n h); named = names_inside s b n h }

  -- decoded, the plan is in x
  pub decoded : (x : List ℕ) (t : ℕ) (x' : List ℕ) (room : ℕ) → Decodes s x t x' → length x' ≡ length x → length x ≤ most_words → length x ≡ cell_words * room → node_size n ≤ room
      → PlanIn (schema s) (text s) (table_count s) x' t room n
  decoded x t x' room d same short all fits =
      let long = words_long n in
      let (e, w) = room_for (d n h) (omega (arith, short)) (omega (arith, long, all, fits)) in
      record { fit = fit; words_are = w; inside = omega (arith, e, long, same, all, fits); all = same ∙ all }

  pub given : (t : List ℕ) → t ≡ text s → {tables columns : List ℕ} → tables ≡ table_records s → columns ≡ column_records s
      → ForAll t tables columns (schema s) (text s)
  given t e {tables} {columns} f g = (
    (sym e, omega (arith, ap length e, text_short)),
    subst (λ (l : List ℕ). Lent l columns (schema s) (text s)) (sym f) (subst (λ (l : List ℕ). Lent (table_records s) l (schema s) (text s)) (sym g) lent),
  )

-- What the passes ask for, and what is answered.
module _ (s : List ℕ) (b : Bytes s) {x y z w : List ℕ} (at : RunAt s x y z w) (t : ℕ) (x' : List ℕ) (d : Decodes s x t x') (same : length x' ≡ length x)
    (text' : List ℕ) (e : text' ≡ text s) {tables columns : List ℕ} (f : tables ≡ table_records s) (g : columns ≡ column_records s) where
  pub ready : PlanAt (ForAll text' tables columns) x' t
  ready =
      record {
        schema = schema s;
        text = text s;
        tables = table_count s;
        room = at.room;
        p = at.node;
        given = given s b at.node at.is text' e f g;
        plan = decoded s b at.node at.is x t x' at.room d same at.short at.all at.fits;
        short = omega (arith, at.short, same);
      }

  -- The working form has the sheet's cells.
  pub cells_decoded : cells_in (take t x') ≡ cells_of s
  cells_decoded =
      ap cells_in (decoded s b at.node at.is x t x' at.room d same at.short at.all at.fits).words_are
      ∙ node_cells at.node ∙ sym (plan_cells s b at.node at.is)

  pub still_alike : Alike x' y z w
  still_alike =
      let a = at.alike in
      record { second = omega (arith, a.second, same); third = omega (arith, a.third, same); fourth = omega (arith, a.fourth, same) }

  module _ (c : Chosen) (y' : List ℕ) (long : length y' ≡ length y) (r : Passed) (run : Runs (ForAll text' tables columns) (chosen c) x' t y' r) (q : Ran) (by : q ≡ numbered r) where
    left : (node : Node) (room : ℕ) → plan s ≡ done node → node_size node ≤ room → length x ≡ cell_words * room
        → Leaves (Fit s node) y' (chosen c room (schema s) node) q
    left node room is fits all =
        subst (λ (z : Ran). Leaves (Fit s node) y' (chosen c room (schema s) node) z) (sym by)
        (left_numbered (run (schema s) (text s) (table_count s) room node (given s b node is text' e f g) (decoded s b node is x t x' room d same at.short all fits)))

    pub answered : AnsweredAt s y' q
    answered =
        record {
          node = at.node;
          is = at.is;
          answer = chosen c at.room (schema s) at.node;
          leaves = left at.node at.room at.is at.fits at.all;
          origins_are = chosen_origins s b at.node at.is c at.room;
          short = omega (arith, at.short, at.alike.second, long);
        }

    pub runs_on : (count : ℕ) (out : List ℕ) (a : Code.Answer) (out' : List ℕ) → HandsOut s y' q count out a out' → RunsOn s c count x out a out'
    runs_on count out a out' h node room is fits all k = h node (chosen c room (schema s) node) is (left node room is fits all) k

pub all_whole : {s x y z w : List ℕ} → RunAt s x y z w → Whole s
all_whole {s} at = (recorded s at.node at.is).whole

pub acceptable : {s x y z w : List ℕ} → RunAt s x y z w → Acceptable s
acceptable at = record { node = at.node; is = at.is }
