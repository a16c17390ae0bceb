-- A cell that keeps its layout has one of the tags, which are from 0 to 63.
use Rattle.std.specs.Prelude.{ℕ, ◌<◌, ◌≡◌, refl, Bool, true, false, List, ltb, get_or}
use Rattle.std.proofs.Common.{arith, ltb-true, ltb-false, sym, ap, ◌∙◌}
use Rattle.std.proofs.Math.ListN.{get_or-eq_default}
use Rattle.sql.specs.Answer.{done}
use Rattle.sql.specs.Plan.{Node}
use Rattle.sheet.specs.Parts.{tables_at, table_count, cell_count}
use Rattle.sheet.specs.Cell.{Cell, cell, unknown, tags, tag_of, fields_ok, cell_ok, origins, bad_cell}
use Rattle.sheet.specs.Check.{plan}
use Rattle.sheet_laws.specs.Content.{and_left}
use Rattle.sheet_laws.specs.Layout.{none_failing}
use Rattle.sheet_laws.specs.Accepted.{accepted}

false_true : {A : Type 0} → false ≡ true → A
false_true h = absurd (let z : ◌≡◌ {A = ℕ} 0 1 = cc in omega arith)

pub tag_small : (origins bytes tables : ℕ) (k : Cell) → fields_ok origins bytes tables k (get_or tags k.tag unknown) ≡ true → k.tag < 64
tag_small origins bytes tables k h = go (ltb k.tag 64) refl
  where
    go : (t : Bool) → ltb k.tag 64 ≡ t → k.tag < 64
    go true e = ltb-true k.tag 64 e
    go false e = false_true (sym (ap (fields_ok origins bytes tables k) (get_or-eq_default tags unknown {n = k.tag} (ltb-false k.tag 64 e))) ∙ h)

-- so each cell of a sheet that is accepted
pub tags_small : (s : List ℕ) (n : Node) → plan s ≡ done n → (i : ℕ) → i < cell_count s → (cell s i).tag < 64
unfolding bad_cell cell_ok tag_of
tags_small s n h i below =
    let ok = none_failing (λ i. cell_ok (origins s) (tables_at s) (table_count s) (cell s i)) 0 (cell_count s) (accepted s n h).cells_are i (omega arith) (omega arith) in
    tag_small (origins s) (tables_at s) (table_count s) (cell s i) (and_left (fields_ok (origins s) (tables_at s) (table_count s) (cell s i) (get_or tags (cell s i).tag unknown)) _ ok)
