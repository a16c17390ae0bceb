-- A sheet of edition 2, and the same taken down to edition 1: they are refused alike, or stand for the same plan but for its origins.
use Rattle.std.specs.Prelude.{ℕ, zero, suc, ◌+◌, ◌≤◌, ◌<◌, ◌≡◌, Bool, ◌&&◌, ◌||◌, cond, ltb, length, take, get_or}
use Rattle.std.proofs.Common.{arith, sym, ap₂, ◌∙◌}
use borrow.Author.Tests.{leb-true, lt-ltb}
use Rattle.std.proofs.Math.Path.{refl, ap}
use Rattle.std.proofs.Math.Bool.{true, false}
use mathlib.Core.List.{List, [], ◌∷◌, map}
use Rattle.std.proofs.Math.Option.{Option, none, some}
use Rattle.std.proofs.Math.Dec.{leb, eqb}
use Rattle.sql.specs.Answer.{Answer, done, refused, ◌>>=◌}
use Rattle.sql.specs.Schema.{Schema}
use Rattle.sql.specs.Plan.{Node, columns, up_to}
use Rattle.sheet.specs.Bytes.{byte, half}
use Rattle.sheet.specs.Parts.{tables_at, columns_at, cells_at, edition, said_length, length_ok, edition_ok, parts_ok, table_count, cell_count, record_at, first_failing, bad_record}
use Rattle.sheet.specs.Cell.{Cell, cell, Tag, unknown, not_carried, carried, tags, tag_of, field_ok, fields_ok, float_ok, origins, cell_ok, bad_cell, bad_number}
use Rattle.sheet.specs.Content.{marked}
use Rattle.sheet.specs.Tree.{read}
use Rattle.sheet.specs.Check.{text, schema, cells_of, test, unfound, cells_checked, one_plan, in_scope, plan, checked, check}
use Rattle.sheet_laws.specs.Content.{and_left}
use Rattle.sheet_laws.specs.Layout.{Parts, parts}
use Rattle.sheet_laws.specs.Plan.{Bytes}
use Rattle.sheet_laws.specs.Accepted.{accepted}
use Rattle.origins.specs.Origins.{map_answer}
use Rattle.origins.proofs.Lists.{then_map}
use Rattle.origins.proofs.Unseen.{columns_unseen}
use Rattle.editions.specs.Editions.{down}
use Rattle.editions.specs.Law.{zeroed}
use Rattle.editions.proofs.Kept.{same_length, same_tables_at, same_columns_at, same_cells_at, same_said, edition_set, front_stays, cell_set}
use Rattle.editions.proofs.Front.{walks_alike, map_alike, same_front, same_text, same_table_count, same_bad_record, same_schema}
use Rattle.editions.proofs.Unseen.{in_scope_unseen}
use Rattle.editions.proofs.Reading.{one_plan_alike}

-- ---- tests in turn

test_alike : {A : Type 0} (u : A → A) (t : Bool) (number : ℕ) (x y : Answer A) → (t ≡ true → x ≡ map_answer u y) → test t number x ≡ map_answer u (test t number y)
test_alike u true number x y k = k refl
test_alike u false number x y k = refl

unfound_alike : {A : Type 0} (u : A → A) (o : Option ℕ) (number : ℕ) (x y : Answer A) → (o ≡ none → x ≡ map_answer u y) → unfound o number x ≡ map_answer u (unfound o number y)
unfound_alike u none number x y k = k refl
unfound_alike u (some place) number x y k = refl

map_after : {A B : Type 0} (u : A → B) (f : ℕ → A) (xs : List ℕ) → map (λ i. u (f i)) xs ≡ map u (map f xs)
map_after u f [] = refl
map_after u f (x ∷ xs) = ap (λ ys. u (f x) ∷ ys) (map_after u f xs)

-- what a walk finds is one of the places walked over
found_inside : (ok : ℕ → Bool) (i k p : ℕ) → first_failing ok i k ≡ some p → p < i + k
unfolding first_failing
found_inside ok i zero p h = absurd (let z : ◌≡◌ {A = ℕ} 0 1 = cc in omega arith)
found_inside ok i (suc k) p h = go (ok i) h (λ q. found_inside ok (suc i) k p q)
  where
    go : (t : Bool) → ◌≡◌ {A = Option ℕ} (elim t [ true ↦ first_failing ok (suc i) k | false ↦ some i ]) (some p) → (first_failing ok (suc i) k ≡ some p → p < suc i + k) → p < i + suc k
    go true e later = omega (arith, later e)
    go false e later = let z : i ≡ p = cc in omega arith

-- ---- a cell

fields_alike : (bytes tables : ℕ) (c : Cell) → c.origin < 65536 → (t : Tag) → fields_ok 1 bytes tables (marked 0 c) t ≡ fields_ok 65536 bytes tables c t
fields_alike bytes tables c h unknown = refl
fields_alike bytes tables c h not_carried = refl
fields_alike bytes tables c h (carried flags x y z) =
    sym (ap (λ (t : Bool). ltb c.flag flags
    && (t && (field_ok bytes tables c.flag x c.a && (field_ok bytes tables c.flag y c.b && field_ok bytes tables c.flag z c.c)))) (lt-ltb c.origin 65536 h))

-- With origin 0 a cell passes its test in edition 1 if and only if it passes it in edition 2 with its own, whatever that is.
cell_alike : (bytes tables : ℕ) (c : Cell) → c.origin < 65536 → cell_ok 1 bytes tables (marked 0 c) ≡ cell_ok 65536 bytes tables c
unfolding cell_ok tag_of
cell_alike bytes tables c h = ap (λ (t : Bool). t && float_ok c) (fields_alike bytes tables c h (get_or tags c.tag unknown))

-- what is left to check behind the edition, behind the parts and behind the records
abbrev from_cells : List ℕ → Answer Node
from_cells s = one_plan (cell_count s) (read (text s) 0 (cells_of s) []) >>= in_scope (schema s)

abbrev from_records : List ℕ → Answer Node
from_records s = unfound (bad_record s) 5 (cells_checked s (bad_cell s) (from_cells s))

abbrev from_parts : List ℕ → Answer Node
from_parts s = test (parts_ok s) 4 (from_records s)

module _ (s : List ℕ) (b : Bytes s) (two : edition s ≡ 2) where
  abbrev d : List ℕ
  d = down s

  pub down_length : length d ≡ length s
  down_length = same_length 1 (λ i. 0) s

  length_alike : length_ok d ≡ length_ok s
  unfolding length_ok
  length_alike = go (leb 20 (length s)) refl
    where
      go : (t : Bool) → leb 20 (length s) ≡ t
          → (leb 20 (length d) && (leb (length d) 45332 && eqb (said_length d) (length d))) ≡ (leb 20 (length s) && (leb (length s) 45332 && eqb (said_length s) (length s)))
      go true e = cc (down_length, same_said 1 (λ i. 0) s (leb-true 20 (length s) e))
      go false e = let x : leb 20 (length d) ≡ false = ap (leb 20) down_length ∙ e in rw (x, e) refl

  edition_known : edition_ok s ≡ true
  unfolding edition_ok
  edition_known = ap (λ (e : ℕ). eqb e 1 || eqb e 2) two

  module _ (l : length_ok s ≡ true) where
    long : 20 ≤ length s
    unfolding length_ok
    long = leb-true 20 (length s) (and_left (leb 20 (length s)) _ l)

    -- Taken down, a sheet is of edition 1.
    pub down_edition : edition d ≡ 1
    down_edition = edition_set 1 (λ i. 0) s long (omega arith)

    down_known : edition_ok d ≡ true
    unfolding edition_ok
    down_known = ap (λ (e : ℕ). eqb e 1 || eqb e 2) down_edition

    pub down_tables_at : tables_at d ≡ tables_at s
    down_tables_at = same_tables_at 1 (λ i. 0) s long

    pub down_columns_at : columns_at d ≡ columns_at s
    down_columns_at = same_columns_at 1 (λ i. 0) s long

    pub down_cells_at : cells_at d ≡ cells_at s
    down_cells_at = same_cells_at 1 (λ i. 0) s long

    parts_alike : parts_ok d ≡ parts_ok s
    unfolding parts_ok
    parts_alike = cc (down_tables_at, down_columns_at, down_cells_at, down_length)

    pub down_count : cell_count d ≡ cell_count s
    down_count = cc (down_length, down_cells_at)

    module _ (k : parts_ok s ≡ true) where
      p : Parts s
      p = parts s l edition_known k

      front : (i : ℕ) → i < cells_at s → byte d i ≡ byte s i
      front i h = front_stays 1 (λ i. 0) s long i h (omega (arith, p.cells))

      pub down_front : take (cells_at d) d ≡ take (cells_at s) s
      down_front = same_front s d p down_length down_tables_at down_columns_at down_cells_at front

      down_text : text d ≡ text s
      down_text = same_text s d p down_length down_tables_at down_columns_at down_cells_at front

      down_table_count : table_count d ≡ table_count s
      down_table_count = same_table_count s d p down_length down_tables_at down_columns_at down_cells_at front

      down_records : bad_record d ≡ bad_record s
      down_records = same_bad_record s d p down_length down_tables_at down_columns_at down_cells_at front

      pub down_schema : bad_record s ≡ none → schema d ≡ schema s
      down_schema = same_schema s d p down_length down_tables_at down_columns_at down_cells_at front

      -- ---- cells

      down_cell : (i : ℕ) → i < cell_count s → cell d i ≡ marked 0 (cell s i)
      down_cell i h = cell_set 1 (λ i. 0) s long i h

      -- Taken down, a sheet has the same cells with origin 0.
      pub down_cells : cells_of d ≡ map (marked 0) (cells_of s)
      unfolding cells_of
      down_cells =
          ap (λ (n : ℕ). map (cell d) (up_to 0 n)) down_count
          ∙ (map_alike (cell d) (λ i. marked 0 (cell s i)) 0 (cell_count s) (λ j x y. down_cell j (omega arith)) ∙ map_after (marked 0) (cell s) (up_to 0 (cell_count s)))

      origin_small : (i : ℕ) → (cell s i).origin < 65536
      unfolding cell half
      origin_small i = let at = record_at (cells_at s) i + 2 in omega (arith, b at, b (at + 1))

      cell_ok_alike : (i : ℕ) → i < cell_count s → cell_ok (origins d) (tables_at d) (table_count d) (cell d i) ≡ cell_ok (origins s) (tables_at s) (table_count s) (cell s i)
      cell_ok_alike i h =
          let one : origins d ≡ 1 = ap (λ (e : ℕ). cond (eqb e 1) 1 65536) down_edition in
          let all : origins s ≡ 65536 = ap (λ (e : ℕ). cond (eqb e 1) 1 65536) two in
          let to : cell_ok (origins d) (tables_at d) (table_count d) (cell d i) ≡ cell_ok 1 (tables_at s) (table_count s) (marked 0 (cell s i)) =
          cc (one, down_tables_at, down_table_count, down_cell i h) in
          to ∙ (cell_alike (tables_at s) (table_count s) (cell s i) (origin_small i) ∙ sym (ap (λ (o : ℕ). cell_ok o (tables_at s) (table_count s) (cell s i)) all))

      down_bad_cell : bad_cell d ≡ bad_cell s
      unfolding bad_cell
      down_bad_cell =
          ap (first_failing (λ i. cell_ok (origins d) (tables_at d) (table_count d) (cell d i)) 0) down_count
          ∙ walks_alike (λ i. cell_ok (origins d) (tables_at d) (table_count d) (cell d i)) (λ i. cell_ok (origins s) (tables_at s) (table_count s) (cell s i)) 0 (cell_count s)
          (λ j x y. cell_ok_alike j (omega arith))

      bad_inside : (q : ℕ) → bad_cell s ≡ some q → q < cell_count s
      unfolding bad_cell
      bad_inside q h = omega (arith, found_inside (λ i. cell_ok (origins s) (tables_at s) (table_count s) (cell s i)) 0 (cell_count s) q h)

      -- refusal 6 or 7 at the same place
      cells_checked_alike : (x y : Answer Node) → (o : Option ℕ) → bad_cell s ≡ o → x ≡ map_answer zeroed y → cells_checked d o x ≡ map_answer zeroed (cells_checked s o y)
      cells_checked_alike x y none e k = k
      cells_checked_alike x y (some q) e k = ap (λ (c : Cell). refused (bad_number (tag_of c.tag)) q) (down_cell q (bad_inside q e))

      cells_step : bad_record s ≡ none → from_cells d ≡ map_answer zeroed (from_cells s)
      cells_step r =
          let same : one_plan (cell_count d) (read (text d) 0 (cells_of d) []) ≡ one_plan (cell_count s) (read (text s) 0 (map (marked 0) (cells_of s)) []) = cc (down_count, down_text, down_cells) in
          then_map zeroed zeroed (in_scope (schema s)) (in_scope (schema d)) (one_plan (cell_count s) (read (text s) 0 (cells_of s) [])) (one_plan (cell_count d) (read (text d) 0 (cells_of d) []))
          (same ∙ one_plan_alike (λ og. 0) (cell_count s) (text s) (cells_of s))
          (λ n. ap (λ (t : Schema). in_scope t (zeroed n)) (down_schema r) ∙ in_scope_unseen (λ og. 0) (schema s) n)

      records_step : from_records d ≡ map_answer zeroed (from_records s)
      records_step =
          ap₂ (λ (x y : Option ℕ). unfound x 5 (cells_checked d y (from_cells d))) down_records down_bad_cell
          ∙ unfound_alike zeroed (bad_record s) 5 (cells_checked d (bad_cell s) (from_cells d)) (cells_checked s (bad_cell s) (from_cells s))
          (λ r. cells_checked_alike (from_cells d) (from_cells s) (bad_cell s) refl (cells_step r))

    parts_step : from_parts d ≡ map_answer zeroed (from_parts s)
    parts_step =
        ap (λ (t : Bool). test t 4 (from_records d)) parts_alike ∙ test_alike zeroed (parts_ok s) 4 (from_records d) (from_records s) (λ k. records_step k)

    edition_step : test (edition_ok d) 3 (from_parts d) ≡ map_answer zeroed (test (edition_ok s) 3 (from_parts s))
    edition_step =
        ap (λ (t : Bool). test t 3 (from_parts d)) (down_known ∙ sym edition_known)
        ∙ test_alike zeroed (edition_ok s) 3 (from_parts d) (from_parts s) (λ k. parts_step)

  -- The plan that the sheet taken down stands for, or its refusal.
  pub plan_down : plan d ≡ map_answer zeroed (plan s)
  unfolding plan
  plan_down =
      ap (λ (t : Bool). test t 2 (test (edition_ok d) 3 (from_parts d))) length_alike
      ∙ test_alike zeroed (length_ok s) 2 (test (edition_ok d) 3 (from_parts d)) (test (edition_ok s) 3 (from_parts s)) (λ l. edition_step l)

  -- what the proof of a success needs
  module _ (n : Node) (h : plan s ≡ done n) where
    pub accepted_schema : schema d ≡ schema s
    accepted_schema = let a = accepted s n h in down_schema a.length_is a.parts_are a.records_are

    checked_alike : checked d (done (zeroed n)) ≡ checked s (done n)
    checked_alike =
        let a = accepted s n h in
        let c : cell_count d ≡ cell_count s = down_count a.length_is in
        let k : columns (schema d) (zeroed n) ≡ columns (schema s) n = ap (λ (t : Schema). columns t (zeroed n)) accepted_schema ∙ columns_unseen (λ og. 0) (schema s) n in
        cc (c, k)

  pub check_down : check d ≡ check s
  unfolding check
  check_down = ap (checked d) plan_down ∙ go (plan s) refl
    where
      go : (r : Answer Node) → plan s ≡ r → checked d (map_answer zeroed r) ≡ checked s r
      go (done n) h = checked_alike n h
      go (refused number place) h = refl
