-- No pass widens a plan. So a plan that is handed on, by a pass alone or after any of the five in turn, has no more columns than a sheet's plan (crate sheet_laws,
-- Widest): at most 256 for each two of its cells, and at most 262,144.
use Rattle.std.specs.Prelude.{ℕ, ◌≤◌, ◌≡◌, refl, List, [], ◌∷◌, map, length}
use Rattle.std.proofs.Common.{◌∙◌, subst}
use Rattle.sql.specs.Schema.{Schema, table_of}
use Rattle.sql.specs.Plan.{Node, columns, node_size}
use Rattle.sql.specs.Answer.{Answer, done}
use Rattle.sql.specs.Optimizer.{in_turn}
use Rattle.sql.specs.Room
use Rattle.sheet.specs.Parts.{table_count}
use Rattle.sheet.specs.Check.{text, schema, plan}
use Rattle.sheet_laws.specs.Accepted.{accepted}
use Rattle.sheet_laws.specs.Counts.{most_columns}
use Rattle.sheet_laws.proofs.Counts.{columns_bound}
use Rattle.sheet_laws.specs.Layout.{tables_good}
use Rattle.sheet_laws.specs.Plan.{Bytes}
use Rattle.sheet_laws.proofs.Plan.{parts_of}
use Rattle.sheet_laws.specs.Widest.{Few}
use Rattle.sheet_laws.proofs.Widest.{few}
use Rattle.room.specs.Done.{done_same, after}
use Rattle.room.specs.Same.{pass_same}
use Rattle.room.specs.Fits.{pass_fits}
use Rattle.sound.specs.Sound.{Sound}
use Rattle.sound.specs.Checks.{sound_fits}
use Rattle.sound.specs.Passes.{PassesChecks, pass_keeps}
use Rattle.sound.specs.HandedOut.{names_inside, plan_checked, plan_room}

-- ======== The statements. Each is proved below, under its name in small letters.

-- passes by their numbers, one after the other
abbrev pub passes : Schema → List ℕ → Node → Answer Node
passes schema numbers = in_turn (map (Room.pass Room.max_cells schema) numbers)

-- Of an accepted sheet's plan n, and of the plan m after these passes, whichever they are: m is as wide as n.
abbrev pub PassedFew : Type 0
PassedFew =
    (s : List ℕ) → Bytes s → (n : Node) → plan s ≡ done n → (numbers : List ℕ) (m : Node) → passes (schema s) numbers n ≡ done m
    → (columns (schema s) m ≡ columns (schema s) n) × Few (node_size m) (columns (schema s) m)

-- All five are such passes, and so are the first few of them.
abbrev pub FiveArePasses : Type 0
FiveArePasses = (schema : Schema) (n : Node) → Room.optimize Room.max_cells schema n ≡ passes schema (1 ∷ 2 ∷ 3 ∷ 4 ∷ 5 ∷ []) n

-- Every sound plan over tables that have at most 256 columns.
abbrev pub SoundFew : Type 0
SoundFew =
    (schema : Schema) → ((t : ℕ) → length (table_of schema t).columns ≤ 256) → (text : List ℕ) (tables : ℕ) (n : Node) → Sound schema text tables n
    → columns schema n ≤ most_columns (node_size n)

-- ======== The proofs.

pub sound_few : SoundFew
sound_few schema narrow text tables n x = columns_bound schema narrow text (length text) tables n (sound_fits schema text tables n x)

pub five_are_passes : FiveArePasses
five_are_passes schema n = refl

pub passed_few : PassedFew
passed_few s b n h numbers m e = go numbers n (plan_checked s b n h) (plan_room s b n h) e
  where
    go : (numbers : List ℕ) (k : Node) → PassesChecks (schema s) (text s) (table_count s) k → node_size k ≤ Room.max_cells → passes (schema s) numbers k ≡ done m
        → (columns (schema s) m ≡ columns (schema s) k) × Few (node_size m) (columns (schema s) m)
    go [] k c r e =
        let a = accepted s n h in
        subst (λ (q : Node). (columns (schema s) q ≡ columns (schema s) k) × Few (node_size q) (columns (schema s) q)) (done_same e)
        (refl, few (node_size k) r (columns_bound (schema s) (λ t. (tables_good s (parts_of a) a.records_are t).narrow) (text s) (length (text s)) (table_count s) k c.fits))
    go (i ∷ numbers) k c r e =
        let a = after (Room.pass Room.max_cells (schema s) i k) (passes (schema s) numbers) m e in
        let x = pass_keeps (schema s) (text s) (table_count s) (names_inside s b n h) i k a.of (pass_same Room.max_cells (schema s) i k a.of a.first) c in
        let y = go numbers a.of x.0 (pass_fits Room.max_cells (schema s) i k a.of a.first r) a.second in
        (y.0 ∙ x.1, y.1)
