-- The proof of Law.antt.
use Rattle.std.specs.Prelude.{ℕ, ◌≤◌, ◌<◌, ◌≡◌, refl, Bool, true, false, cond, List, eqb, length, drop}
use Rattle.std.proofs.Common.{arith, sym, ◌∙◌, subst, take_at}
use Rattle.std.proofs.Math.Path.{ap}
use Rattle.sql.specs.Answer.{Answer, done, refused}
use Rattle.sql.specs.Plan.{Node}
use Rattle.sheet.specs.Bytes.{byte}
use Rattle.sheet.specs.Parts.{tables_at, columns_at, cells_at, edition, table_count, cell_count}
use Rattle.sheet.specs.Cell.{Cell, cell, cell_ok, origins, bad_cell}
use Rattle.sheet.specs.Cells.{cells}
use Rattle.sheet.specs.Check.{Numbers, text, schema, plan, checked, check}
use Rattle.sheet.specs.Operations.{Outcome}
use Rattle.sheet_laws.specs.Accepted.{accepted}
use Rattle.sheet_laws.specs.Content.{origin_below}
use Rattle.sheet_laws.proofs.Counts.{all_map}
use Rattle.sheet_laws.specs.Layout.{Parts, none_failing}
use Rattle.sheet_laws.specs.Plan.{Bytes}
use Rattle.sheet_laws.proofs.Plan.{parts_of, plan_origins}
use Rattle.origins.specs.Origins.{map_answer}
use Rattle.sound.specs.HandedOut.{success}
use Rattle.sound.specs.Origins.{node_left}
use Rattle.sound.specs.Operations.{sheet_of}
use Rattle.editions.specs.Editions.{in_edition, down}
use Rattle.editions.specs.Law.{zeroed}
use Rattle.editions.proofs.Kept.{same_length, same_tables_at, same_columns_at, same_cells_at, edition_set, front_stays, cell_set}
use Rattle.editions.proofs.Front.{same_text, same_schema}
use Rattle.editions.proofs.Again.{carried_twice, carried_own}
use Rattle.editions.proofs.Proved.{plan_alike, check_alike}
use Rattle.convert.specs.Convert.{origin_in, carried, other_edition, put_out, convert}
use Rattle.convert.specs.Law.{UpThenDown, DownThenUp, SamePlan, Carried, Carries}
use Rattle.convert.proofs.Accepted.{stands_for, sides, other_than, converts, succeeded}
use Rattle.convert.proofs.Bytes.{carried_bytes}

-- ---- a sheet of edition 1 has no origins but 0, nor has its plan

module _ (s : List ℕ) (b : Bytes s) (n : Node) (h : plan s ≡ done n) where
  whole : Parts s
  whole = parts_of (accepted s n h)

  module _ (one : edition s ≡ 1) where
    one_origin : origins s ≡ 1
    one_origin = ap (λ (e : ℕ). cond (eqb e 1) 1 65536) one

    origin_0 : (j : ℕ) → j < cell_count s → 0 ≡ (cell s j).origin
    unfolding bad_cell
    origin_0 j k =
        let ok = none_failing (λ i. cell_ok (origins s) (tables_at s) (table_count s) (cell s i)) 0 (cell_count s) (accepted s n h).cells_are j (omega arith) (omega arith) in
        omega (arith, origin_below (origins s) (tables_at s) (table_count s) (cell s j) ok, one_origin)

    own_zeroed : zeroed n ≡ n
    own_zeroed =
        node_left (λ og. 0) n (all_map (λ (c : Cell). c.origin < origins s) (λ (c : Cell). 0 ≡ c.origin) (λ c k. omega (arith, one_origin)) (cells n) (plan_origins s b n h))

-- ---- carried to an edition

module _ (s : List ℕ) (b : Bytes s) (n : Node) (h : plan s ≡ done n) where
  p : Parts s
  p = parts_of (accepted s n h)

  module _ (target : ℕ) where
    abbrev d : List ℕ
    d = carried target s

    length_d : length d ≡ length s
    length_d = same_length target (origin_in target) s

    bytes_d : Bytes d
    bytes_d = carried_bytes target (origin_in target) s b (λ j k. go (eqb target 1) j k)
      where
        go : (t : Bool) (j : ℕ) → j < cell_count s → cond t 0 j < 65536
        go true j k = omega arith
        go false j k = omega (arith, p.cells_few)

    edition_d : target ≤ 2 → edition d ≡ target
    edition_d k = edition_set target (origin_in target) s p.long (omega arith)

    origin_d : (i : ℕ) → i < cell_count s → (cell d i).origin ≡ origin_in target i
    origin_d i k = ap (λ (c : Cell). c.origin) (cell_set target (origin_in target) s p.long i k)

    tables_d : tables_at d ≡ tables_at s
    tables_d = same_tables_at target (origin_in target) s p.long

    columns_d : columns_at d ≡ columns_at s
    columns_d = same_columns_at target (origin_in target) s p.long

    cells_d : cells_at d ≡ cells_at s
    cells_d = same_cells_at target (origin_in target) s p.long

    front_d : (i : ℕ) → i < cells_at s → byte d i ≡ byte s i
    front_d i k = front_stays target (origin_in target) s p.long i k (omega (arith, p.cells))

    text_d : text d ≡ text s
    text_d = same_text s d p length_d tables_d columns_d cells_d front_d

    schema_d : schema d ≡ schema s
    schema_d = same_schema s d p length_d tables_d columns_d cells_d front_d (accepted s n h).records_are

  -- upward, and taken down again
  up_down : edition s ≡ 1 → down (carried 2 s) ≡ s
  up_down one =
      carried_twice 1 2 (λ i. 0) (origin_in 2) s p.long
      ∙ (ap (λ (e : ℕ). in_edition e (λ i. 0) s) (sym one) ∙ carried_own s b (λ i. 0) (origin_0 s b n h one))

  -- the answer of check, and the plan
  abbrev Same : List ℕ → Type 0
  Same x = (check x ≡ check s) × SamePlan s x

  same_down : edition s ≡ 2 → Same (down s)
  same_down two =
      let is : plan (down s) ≡ done (zeroed n) = plan_alike s b two ∙ ap (map_answer zeroed) h in (
        check_alike s b two,
        record { of = n; is = zeroed n; stands_for = h; now_stands_for = is; same = own_zeroed (down s) (bytes_d 1) (zeroed n) is (edition_d 1 (omega arith)) },
      )

  same_up : edition s ≡ 1 → Same (carried 2 s)
  same_up one =
      let two = edition_d 2 (omega arith) in (
        sym (check_alike (carried 2 s) (bytes_d 2) two) ∙ ap check (up_down one),
        go (plan (carried 2 s)) refl (sym h ∙ (ap plan (sym (up_down one)) ∙ plan_alike (carried 2 s) (bytes_d 2) two)),
      )
    where
      go : (r : Answer Node) → plan (carried 2 s) ≡ r → done n ≡ map_answer zeroed r → SamePlan s (carried 2 s)
      go (done m) e k =
          let x : n ≡ zeroed m = cc in
          record { of = n; is = m; stands_for = h; now_stands_for = e; same = sym x ∙ sym (own_zeroed s b n h one) }
      go (refused number place) e k = let z : ◌≡◌ {A = ℕ} 0 1 = cc in absurd (omega arith)

  same_there : (target : ℕ) → other_edition s target ≡ true → Same (carried target s)
  same_there target o =
      sides s target p.edition_known o (λ t e. subst (λ (k : ℕ). Same (carried k s)) (sym t) (same_down e)) (λ t e. subst (λ (k : ℕ). Same (carried k s)) (sym t) (same_up e))

  -- a success of check
  counts_are : check s ≡ success (check s).cells (check s).columns
  unfolding check
  counts_are = let e : check s ≡ checked s (done n) = ap (checked s) h in cc

-- ---- the operation

put_sheet : (s : List ℕ) (target : ℕ) (out : List ℕ) (counts : Numbers) → sheet_of (put_out s target out counts true) ≡ carried target s
put_sheet s target out counts = take_at (carried target s) (drop (length s) out) (length s) (same_length target (origin_in target) s)

pub carries : Carries
carries s b target out z =
    let y = succeeded s target out z in
    let (n, h) = stands_for s y.accepted in
    let o = put_out s target out (check s) true in
    let put = put_sheet s target out (check s) in
    let (checks, plan_is) = same_there s b n h target y.other in
    let known : target ≤ 2 = sides s target (parts_of (accepted s n h)).edition_known y.other (λ t e. omega arith) (λ t e. omega arith) in
    let is : Carried s target o =
    record {
      sound = record {
        checks = ap check put ∙ (checks ∙ counts_are s b n h);
        long = ap length put ∙ length_d s b n h target;
        same_columns = refl;
        same_text = ap text put ∙ text_d s b n h target;
        same_schema = ap schema put ∙ schema_d s b n h target;
      };
      same_check = ap check put ∙ checks;
      same_length = refl;
      edition_is = ap edition put ∙ edition_d s b n h target known;
      same_plan = subst (SamePlan s) (sym put) plan_is;
      origins_are = λ i k. ap (λ (x : List ℕ). (cell x i).origin) put ∙ origin_d s b n h target i k;
    } in
    subst (Carried s target) (sym y.is) is

pub up_then_down : UpThenDown
up_then_down s b out out' z room =
    let y = succeeded s 2 out z in
    let (n, h) = stands_for s y.accepted in
    let u = carried 2 s in
    let one : edition s ≡ 1 = sides s 2 (parts_of (accepted s n h)).edition_known y.other (λ t e. absurd (omega arith)) (λ t e. e) in
    let checks = (same_up s b n h one).0 in
    let long = length_d s b n h 2 in
    let first : sheet_of (convert s 2 out) ≡ u = ap sheet_of y.is ∙ put_sheet s 2 out (check s) in
    let second : convert u 1 out' ≡ put_out u 1 out' (check u) true =
    converts u 1 out' (ap (λ (m : Numbers). m.number) checks ∙ y.accepted) (other_than u 1 2 (edition_d s b n h 2 (omega arith)) refl) (omega arith) in
    let back = up_down s b n h one in
    let numbers : (convert s 2 out).numbers ≡ (put_out s 2 out (check s) true).numbers = ap (λ (o : Outcome). o.numbers) y.is in
    ap (λ (x : List ℕ). convert x 1 out') first ∙ (second ∙ cc (checks, long, back, numbers))

pub down_then_up : DownThenUp
down_then_up s b out out' z room =
    let y = succeeded s 1 out z in
    let (n, h) = stands_for s y.accepted in
    let l = (parts_of (accepted s n h)).long in
    let w = down s in
    let two : edition s ≡ 2 = sides s 1 (parts_of (accepted s n h)).edition_known y.other (λ t e. e) (λ t e. absurd (omega arith)) in
    let checks = (same_down s b n h two).0 in
    let long = length_d s b n h 1 in
    let first : sheet_of (convert s 1 out) ≡ w = ap sheet_of y.is ∙ put_sheet s 1 out (check s) in
    let second : convert w 2 out' ≡ put_out w 2 out' (check w) true =
    converts w 2 out' (ap (λ (m : Numbers). m.number) checks ∙ y.accepted) (other_than w 2 1 (edition_d s b n h 1 (omega arith)) refl) (omega arith) in
    let again : convert (sheet_of (convert s 1 out)) 2 out' ≡ put_out w 2 out' (check w) true = ap (λ (x : List ℕ). convert x 2 out') first ∙ second in
    let sheet : sheet_of (convert (sheet_of (convert s 1 out)) 2 out') ≡ carried 2 s =
    ap sheet_of again ∙ (put_sheet w 2 out' (check w) ∙ carried_twice 2 1 (origin_in 2) (λ i. 0) s l) in
    let numbers : (convert s 1 out).numbers ≡ (put_out s 1 out (check s) true).numbers = ap (λ (o : Outcome). o.numbers) y.is in
    let same : (put_out w 2 out' (check w) true).numbers ≡ (convert s 1 out).numbers = cc (checks, long, numbers) in
    record {
      answered = ap (λ (o : Outcome). o.numbers) again ∙ same;
      same_if = λ own. sheet ∙ (ap (λ (e : ℕ). in_edition e (origin_in 2) s) (sym two) ∙ carried_own s b (origin_in 2) (λ j k. sym (own j k)));
      only_if = λ e i k. ap (λ (x : List ℕ). (cell x i).origin) (sym (sym sheet ∙ e)) ∙ origin_d s b n h 2 i k;
    }
