-- The compacted sheet passes check, and stands for the same plan and schema with their references moved.
use Prim.Native.Nat.{ℕ, zero, suc, ◌+◌, ◌-◌, ◌*◌, ◌/◌, ◌%◌, ◌≤◌, ◌<◌}
use Rattle.std.proofs.Math.Nat.{mul-mod_right}
use native.Mathlib.Omega.{arith}
use Rattle.std.proofs.Common.{le-leb, lt-ltb, le-ltb, eq-eqb, ltb-true, ltb-false, ◌∙◌}
use Rattle.std.specs.Prelude.{◌≡◌, refl, Bool, false, ◌&&◌, ◌||◌, cond, leb, ltb, length, get_or}
use Rattle.std.proofs.Math.Path.{sym, ap, ap₂, subst}
use Rattle.std.proofs.Math.Bool.{true}
use mathlib.Core.List.{List, [], ◌∷◌, map}
use Rattle.std.proofs.Math.Option.{none}
use Rattle.std.proofs.Math.Dec.{eqb}
use Rattle.value.specs.Meaning.{bytes_at}
use Rattle.sql.specs.Answer.{done}
use Rattle.sql.specs.Schema.{Column, Table, Schema}
use Rattle.sql.specs.Plan.{Node, up_to}
use Rattle.sql.specs.Optimizer.{map_optional}
use Rattle.sheet.specs.Bytes.{byte, half, word}
use Rattle.sheet.specs.Parts.{tables_at, columns_at, cells_at, edition, said_length, table_count, column_count, cell_count, inside, record_at, length_ok, edition_ok, records_ok, parts_ok, table_name, first_column, columns_of, key_of, columns_before, table_ok, column_name, kind_of, index_mark, column_ok, record_ok, bad_record}
use Rattle.sheet.specs.Cell.{Cell, cell_from, cell, cell_ok, origins, tag_of, bad_cell}
use Rattle.sheet.specs.Content.{content_of}
use Rattle.sheet.specs.Tree.{node_tree, stack, read}
use Rattle.sheet.specs.Scope.{outside}
use Rattle.sheet.specs.Check.{text, column, table, schema, cells_of, plan}
use Rattle.sheet_laws.specs.Fits.{All}
use Rattle.sheet_laws.specs.Content.{and_left, and_right, and_true}
use Rattle.sheet_laws.specs.Layout.{Parts, none_failing, all_passing, table_facts}
use Rattle.sheet_laws.specs.Plan.{Bytes}
use Rattle.sheet_laws.proofs.Plan.{parts_of}
use Rattle.sheet_laws.specs.Accepted.{Accepted, accepted, accepting}
use Rattle.compact.specs.Slots.{Slot, record_slots, cell_slots, field_slots, slots}
use Rattle.compact.specs.Compact.{kept_text, moved, compacted}
use Rattle.compact.specs.References
use Rattle.compact.proofs.Unseen.{in_scope_unseen, targets_unseen}
use Rattle.compact.proofs.Reading.{map_content, AlikeCells, EachAlike, none_left, one_more, node_alike_read, Agreeing, EachAgreeing, none_more, and_one, plans_agree}
use Rattle.compact.proofs.Agree.{says_agree}
use Rattle.compact.proofs.Cells.{Refers, moved_by, moved_cell, moved_says, moved_ok, same_origin}
use Rattle.compact.proofs.Blocks.{all_part, Copied, copied_word, copied_half}
use Rattle.compact.proofs.Moved as Moved

-- whole records, in range
records_true : (from upto few many k : ℕ) → upto ≡ from + 16 * k → few ≤ k → k ≤ many → records_ok from upto few many ≡ true
records_true from upto few many k e l m =
    let d : upto - from ≡ 16 * k = omega arith in
    let z : (upto - from) % 16 ≡ 0 = ap (λ (n : ℕ). n % 16) d ∙ mul-mod_right 16 k in
    and_true (leb from upto) _ (le-leb from upto (omega arith))
    (and_true (eqb ((upto - from) % 16) 0) _ (eq-eqb ((upto - from) % 16) 0 z)
    (and_true (leb (few * 16) (upto - from)) _ (le-leb (few * 16) (upto - from) (omega arith)) (le-leb (upto - from) (many * 16) (omega arith))))

map_alike : {A : Type 0} (f g : ℕ → A) (i k : ℕ) → ((j : ℕ) → i ≤ j → j < i + k → f j ≡ g j) → map f (up_to i k) ≡ map g (up_to i k)
map_alike f g i zero h = refl
map_alike f g i (suc k) h = cc (h i (omega arith) (omega arith), map_alike f g (suc i) k (λ j p q. h j (omega arith) (omega arith)))

map_after : {A B : Type 0} (u : A → B) (f : ℕ → A) (xs : List ℕ) → map (λ i. u (f i)) xs ≡ map u (map f xs)
map_after u f [] = refl
map_after u f (x ∷ xs) = ap (λ ys. u (f x) ∷ ys) (map_after u f xs)

each_alike : (h : ℕ → ℕ) (new old : List ℕ) (u v : ℕ → Cell) (i k : ℕ) → ((j : ℕ) → i ≤ j → j < i + k → AlikeCells h new old (u j) (v j))
    → EachAlike h new old (map u (up_to i k)) (map v (up_to i k))
each_alike h new old u v i zero a = none_left
each_alike h new old u v i (suc k) a = one_more (a i (omega arith) (omega arith)) (each_alike h new old u v (suc i) k (λ j p q. a j (omega arith) (omega arith)))

each_agreeing : (g g' : ℕ → ℕ) (new old : List ℕ) (u v : ℕ → Cell) (i k : ℕ) → ((j : ℕ) → i ≤ j → j < i + k → Agreeing g g' new old (u j) (v j))
    → EachAgreeing g g' new old (map u (up_to i k)) (map v (up_to i k))
each_agreeing g g' new old u v i zero a = none_more
each_agreeing g g' new old u v i (suc k) a = and_one (a i (omega arith) (omega arith)) (each_agreeing g g' new old u v (suc i) k (λ j p q. a j (omega arith) (omega arith)))

module _ (s : List ℕ) (b : Bytes s) (n : Node) (h : plan s ≡ done n) (short : length (kept_text s) ≤ 8192) where
  abbrev pub f : ℕ → ℕ
  f = moved s

  abbrev pub d : List ℕ
  d = compacted s

  a : Accepted s n
  a = accepted s n h

  p : Parts s
  p = parts_of a

  -- ---- the parts

  length_ok_d : length_ok d ≡ true
  unfolding length_ok
  length_ok_d =
      let l = Moved.length_d s b p short in
      and_true (leb 20 (length d)) _ (le-leb 20 (length d) (omega (arith, l)))
      (and_true (leb (length d) 45332) _ (le-leb (length d) 45332 (omega (arith, l, p.tables_few, p.columns_few, p.cells_few)))
      (eq-eqb (said_length d) (length d) (Moved.said_d s b p short)))

  edition_ok_d : edition_ok d ≡ true
  unfolding edition_ok
  edition_ok_d = ap (λ (e : ℕ). eqb e 1 || eqb e 2) (Moved.edition_d s b p short) ∙ p.edition_known

  parts_ok_d : parts_ok d ≡ true
  unfolding parts_ok
  parts_ok_d =
      let t = Moved.tables_at_d s b p short in
      let c = Moved.columns_at_d s b p short in
      let k = Moved.cells_at_d s b p short in
      let l = Moved.length_d s b p short in
      and_true (leb (tables_at d) 8192) _ (le-leb (tables_at d) 8192 (omega arith))
      (and_true (records_ok (tables_at d) (columns_at d) 0 16) _ (records_true (tables_at d) (columns_at d) 0 16 (table_count s) (omega arith) (omega arith) p.tables_few)
      (and_true (records_ok (columns_at d) (cells_at d) 0 256) _ (records_true (columns_at d) (cells_at d) 0 256 (column_count s) (omega arith) (omega arith) p.columns_few)
      (records_true (cells_at d) (length d - 20) 1 2048 (cell_count s) (omega arith) p.cells_some p.cells_few)))

  -- ---- table records

  table_at_d : (i : ℕ) → i < table_count s → Moved.RecordAt s b p short (record_at (tables_at d) i) (record_at (tables_at s) i)
  table_at_d i l =
      subst (λ (t : ℕ). Moved.RecordAt s b p short (t + i * 16) (tables_at s + i * 16)) (sym (Moved.tables_at_d s b p short)) (Moved.table_moved s b p short i l)

  first_d : (i : ℕ) → i < table_count s → first_column d i ≡ first_column s i
  first_d i l = copied_word (table_at_d i l).second

  count_d : (i : ℕ) → i < table_count s → columns_of d i ≡ columns_of s i
  count_d i l = copied_word (table_at_d i l).third

  key_d : (i : ℕ) → i < table_count s → key_of d i ≡ key_of s i
  key_d i l = copied_word (table_at_d i l).fourth

  before_d : (i : ℕ) → i ≤ table_count s → columns_before d i ≡ columns_before s i
  before_d zero l = refl
  before_d (suc i) l = ap₂ ◌+◌ (first_d i (omega arith)) (count_d i (omega arith))

  table_named : (i : ℕ) → i < table_count s → inside (tables_at d) (table_name d i) ≡ true
  table_named i l =
      let m = all_part (Refers (Moved.Moves s b p short)) (Moved.table_around s b p short i l) (Moved.all_move s b p short) in
      ap₂ inside (Moved.tables_at_d s b p short) (table_at_d i l).name ∙ m.0.within

  table_ok_d : (i : ℕ) → i < table_count s → table_ok d i ≡ true
  unfolding table_ok
  table_ok_d i l =
      let t = table_facts s a.records_are i l in
      let x = first_d i l in
      let y = count_d i l in
      let z = key_d i l in
      let w = before_d i (omega arith) in
      let c = Moved.column_count_d s b p short in
      and_true (inside (tables_at d) (table_name d i)) _ (table_named i l)
      (and_true (eqb (first_column d i) (columns_before d i)) _ (eq-eqb (first_column d i) (columns_before d i) (x ∙ (t.first ∙ sym w)))
      (and_true (leb 1 (columns_of d i)) _ (le-leb 1 (columns_of d i) (omega (arith, t.some_columns)))
      (and_true (leb (first_column d i + columns_of d i) (column_count d)) _ (le-leb (first_column d i + columns_of d i) (column_count d) (omega (arith, t.in_range)))
      (lt-ltb (key_of d i) (columns_of d i) (omega (arith, t.key))))))

  -- ---- column records

  column_at_d : (i : ℕ) → i < column_count s → Moved.RecordAt s b p short (record_at (columns_at d) i) (record_at (columns_at s) i)
  column_at_d i l =
      subst (λ (t : ℕ). Moved.RecordAt s b p short (t + i * 16) (columns_at s + i * 16)) (sym (Moved.columns_at_d s b p short)) (Moved.column_moved s b p short i l)

  kind_d : (i : ℕ) → i < column_count s → kind_of d i ≡ kind_of s i
  kind_d i l = (column_at_d i l).second.byte_0

  index_d : (i : ℕ) → i < column_count s → index_mark d i ≡ index_mark s i
  index_d i l =
      let e : record_at (columns_at d) i + 5 ≡ record_at (columns_at d) i + 4 + 1 = omega arith in
      let g : record_at (columns_at s) i + 5 ≡ record_at (columns_at s) i + 4 + 1 = omega arith in
      ap (byte d) e ∙ ((column_at_d i l).second.byte_1 ∙ ap (byte s) (sym g))

  zeros_d : (i : ℕ) → i < column_count s → half d (record_at (columns_at d) i + 6) ≡ half s (record_at (columns_at s) i + 6)
  zeros_d i l =
      let e : record_at (columns_at d) i + 6 ≡ record_at (columns_at d) i + 4 + 2 = omega arith in
      let g : record_at (columns_at s) i + 6 ≡ record_at (columns_at s) i + 4 + 2 = omega arith in
      ap (half d) e ∙ (copied_half (column_at_d i l).second ∙ ap (half s) (sym g))

  column_named_d : (i : ℕ) → i < column_count s → inside (tables_at d) (column_name d i) ≡ true
  column_named_d i l =
      let m = all_part (Refers (Moved.Moves s b p short)) (Moved.column_around s b p short i l) (Moved.all_move s b p short) in
      ap₂ inside (Moved.tables_at_d s b p short) (column_at_d i l).name ∙ m.0.within

  -- what a column record has behind its name
  abbrev marks_ok : List ℕ → ℕ → Bool
  marks_ok t i =
      ltb (kind_of t i) 4
      && (ltb (index_mark t i) 2
      && (eqb (half t (record_at (columns_at t) i + 6)) 0 && (eqb (word t (record_at (columns_at t) i + 8)) 0 && eqb (word t (record_at (columns_at t) i + 12)) 0)))

  marks_d : (i : ℕ) → i < column_count s → marks_ok d i ≡ marks_ok s i
  marks_d i l = cc (kind_d i l, index_d i l, zeros_d i l, copied_word (column_at_d i l).third, copied_word (column_at_d i l).fourth)

  column_ok_d : (i : ℕ) → i < column_count s → column_ok s i ≡ true → column_ok d i ≡ true
  unfolding column_ok
  column_ok_d i l ok =
      let c = and_right (ltb i (columns_before s (table_count s))) _ ok in
      let before : columns_before d (table_count d) ≡ columns_before s (table_count s) = ap (columns_before d) (Moved.table_count_d s b p short) ∙ before_d (table_count s) (omega arith) in
      and_true (ltb i (columns_before d (table_count d))) _ (ap (ltb i) before ∙ and_left (ltb i (columns_before s (table_count s))) _ ok)
      (and_true (inside (tables_at d) (column_name d i)) _ (column_named_d i l) (marks_d i l ∙ and_right (inside (tables_at s) (column_name s i)) (marks_ok s i) c))

  -- ---- the walk over the records

  record_ok_d : (i : ℕ) → i < table_count s + column_count s → record_ok s i ≡ true → record_ok d i ≡ true
  record_ok_d i l ok =
      ap (λ (m : ℕ). cond (ltb i m) (table_ok d i) (column_ok d (i - m))) (Moved.table_count_d s b p short) ∙ go (ltb i (table_count s)) refl ok
    where
      go : (t : Bool) → ltb i (table_count s) ≡ t → cond t (table_ok s i) (column_ok s (i - table_count s)) ≡ true
          → cond t (table_ok d i) (column_ok d (i - table_count s)) ≡ true
      go true e k = table_ok_d i (ltb-true i (table_count s) e)
      go false e k = column_ok_d (i - table_count s) (omega (arith, ltb-false i (table_count s) e)) k

  bad_record_d : bad_record d ≡ none
  unfolding bad_record
  bad_record_d =
      let count : table_count d + column_count d ≡ table_count s + column_count s = ap₂ ◌+◌ (Moved.table_count_d s b p short) (Moved.column_count_d s b p short) in
      all_passing (record_ok d) 0 (table_count d + column_count d)
      (λ j x y. record_ok_d j (omega arith) (none_failing (record_ok s) 0 (table_count s + column_count s) a.records_are j (omega arith) (omega arith)))

  -- ---- the schema

  column_d : (i : ℕ) → i < column_count s → column d i ≡ References.map_column f (column s i)
  column_d i l = cc ((column_at_d i l).name, kind_d i l, index_d i l)

  table_d : (i : ℕ) → i < table_count s → table d i ≡ References.map_table f (table s i)
  table_d i l =
      let t = table_facts s a.records_are i l in
      let range : up_to (first_column d i) (columns_of d i) ≡ up_to (first_column s i) (columns_of s i) = ap₂ up_to (first_d i l) (count_d i l) in
      let cs : map (column d) (up_to (first_column d i) (columns_of d i)) ≡ map (References.map_column f) (map (column s) (up_to (first_column s i) (columns_of s i))) =
      ap (map (column d)) range
      ∙ map_alike (column d) (λ j. References.map_column f (column s j)) (first_column s i) (columns_of s i) (λ j x y. column_d j (omega (arith, t.in_range)))
      ∙ map_after (References.map_column f) (column s) (up_to (first_column s i) (columns_of s i)) in
      cc ((table_at_d i l).name, key_d i l, cs)

  pub schema_d : schema d ≡ References.map_schema f (schema s)
  unfolding schema
  schema_d =
      ap (λ (m : ℕ). map (table d) (up_to 0 m)) (Moved.table_count_d s b p short)
      ∙ map_alike (table d) (λ i. References.map_table f (table s i)) 0 (table_count s) (λ j x y. table_d j (omega arith))
      ∙ map_after (References.map_table f) (table s) (up_to 0 (table_count s))

  -- ---- cells

  cell_at_d : (i : ℕ) → i < cell_count s → Moved.CellAt s b p short (record_at (cells_at d) i) (record_at (cells_at s) i)
  cell_at_d i l =
      subst (λ (t : ℕ). Moved.CellAt s b p short (t + i * 16) (cells_at s + i * 16)) (sym (Moved.cells_at_d s b p short)) (Moved.cell_moved s b p short i l)

  cell_d : (i : ℕ) → i < cell_count s → cell d i ≡ moved_cell f (cell s i)
  unfolding cell moved_cell
  cell_d i l = (cell_at_d i l).is

  cell_refers : (i : ℕ) → i < cell_count s → All (Refers (Moved.Moves s b p short)) (field_slots (cell s i) (tag_of (cell s i).tag))
  unfolding cell cell_slots
  cell_refers i l = (all_part (Refers (Moved.Moves s b p short)) (Moved.cell_around s b p short i l) (Moved.all_move s b p short)).1

  origins_d : origins d ≡ origins s
  origins_d = ap (λ (e : ℕ). cond (eqb e 1) 1 65536) (Moved.edition_d s b p short)

  bad_cell_d : bad_cell d ≡ none
  unfolding bad_cell
  bad_cell_d =
      all_passing (λ i. cell_ok (origins d) (tables_at d) (table_count d) (cell d i)) 0 (cell_count d)
      (λ j x y.
      let c = Moved.cell_count_d s b p short in
      let l : j < cell_count s = omega arith in
      let ok = none_failing (λ i. cell_ok (origins s) (tables_at s) (table_count s) (cell s i)) 0 (cell_count s) a.cells_are j (omega arith) (omega arith) in
      let m = Moved.refers_map (Moved.Moves s b p short) (λ r. inside (length (kept_text s)) (f r) ≡ true) (λ r z. z.within) (field_slots (cell s j) (tag_of (cell s j).tag)) (cell_refers j l) in
      let good : cell_ok (origins s) (length (kept_text s)) (table_count s) (moved_cell f (cell s j)) ≡ true =
      moved_ok f (tables_at s) (length (kept_text s)) (table_count s) (origins s) (cell s j) m ok in
      let o = origins_d in
      let t = Moved.tables_at_d s b p short in
      let q = Moved.table_count_d s b p short in
      let e = cell_d j l in
      rw (o, q, t, e) good)

  origin_moved : (k : Cell) → (moved_cell f k).origin ≡ k.origin
  unfolding moved_cell
  origin_moved k = same_origin f (tag_of k.tag) k

  cell_says : (j : ℕ) → j < cell_count s → content_of (text d) (cell d j) ≡ map_optional (map_content f) (content_of (text s) (cell s j))
  cell_says j l =
      let t = Moved.text_d s b p short in
      let m = Moved.refers_map (Moved.Moves s b p short) (λ r. bytes_at (text d) (f r) ≡ bytes_at (text s) r) (λ r z. ap (λ (u : List ℕ). bytes_at u (f r)) t ∙ z.same)
      (field_slots (cell s j) (tag_of (cell s j).tag)) (cell_refers j l) in
      ap (content_of (text d)) (cell_d j l) ∙ moved_says f (text d) (text s) (cell s j) m

  cell_origin : (j : ℕ) → j < cell_count s → (cell d j).origin ≡ (cell s j).origin
  cell_origin j l = ap (λ (k : Cell). k.origin) (cell_d j l) ∙ origin_moved (cell s j)

  cells_alike : EachAlike f (text d) (text s) (cells_of d) (cells_of s)
  unfolding cells_of
  cells_alike =
      subst (λ (m : ℕ). EachAlike f (text d) (text s) (map (cell d) (up_to 0 m)) (map (cell s) (up_to 0 (cell_count s)))) (sym (Moved.cell_count_d s b p short))
      (each_alike f (text d) (text s) (cell d) (cell s) 0 (cell_count s)
      (λ j x y. record { says = cell_says j (omega arith); origin_is = cell_origin j (omega arith) }))

  -- ---- the plan

  reads_d : read (text d) 0 (cells_of d) [] ≡ stack (node_tree (References.map_node f n) ∷ [])
  reads_d = node_alike_read f (text d) (text s) (cells_of d) (cells_of s) n cells_alike a.reads

  pub plan_d : plan d ≡ done (References.map_node f n)
  plan_d =
      accepting (record {
        length_is = length_ok_d;
        edition_is = edition_ok_d;
        parts_are = parts_ok_d;
        records_are = bad_record_d;
        cells_are = bad_cell_d;
        reads = reads_d;
        scope_is = ap (λ (t : Schema). outside t 0 (References.map_node f n)) schema_d ∙ in_scope_unseen f (schema s) n a.scope_is;
        targets_are = targets_unseen f n a.targets_are;
      })

  -- ---- read by their texts, both are the same

  module _ (g g' : ℕ → ℕ) (agree : (r : ℕ) → bytes_at (kept_text s) (f r) ≡ bytes_at (text s) r → g (f r) ≡ g' r) where
    cells_agree : EachAgreeing g g' (text d) (text s) (cells_of d) (cells_of s)
    unfolding cells_of
    cells_agree =
        subst (λ (m : ℕ). EachAgreeing g g' (text d) (text s) (map (cell d) (up_to 0 m)) (map (cell s) (up_to 0 (cell_count s)))) (sym (Moved.cell_count_d s b p short))
        (each_agreeing g g' (text d) (text s) (cell d) (cell s) 0 (cell_count s)
        (λ j x y.
        let l : j < cell_count s = omega arith in
        let m = Moved.refers_map (Moved.Moves s b p short) (λ r. g (f r) ≡ g' r) (λ r z. agree r z.same) (field_slots (cell s j) (tag_of (cell s j).tag)) (cell_refers j l) in
        record { says = ap (map_optional (map_content g)) (cell_says j l) ∙ says_agree f g g' (text s) (cell s j) m; origin_is = cell_origin j l }))

    pub plan_agrees : References.map_node g (References.map_node f n) ≡ References.map_node g' n
    plan_agrees = plans_agree g g' (text d) (text s) (cells_of d) (cells_of s) (References.map_node f n) n cells_agree reads_d a.reads

    column_agrees : (i : ℕ) → i < column_count s → References.map_column g (References.map_column f (column s i)) ≡ References.map_column g' (column s i)
    column_agrees i l =
        let m = all_part (Refers (Moved.Moves s b p short)) (Moved.column_around s b p short i l) (Moved.all_move s b p short) in
        let e = agree (column_name s i) m.0.same in
        cc

    table_agrees : (i : ℕ) → i < table_count s → References.map_table g (References.map_table f (table s i)) ≡ References.map_table g' (table s i)
    table_agrees i l =
        let m = all_part (Refers (Moved.Moves s b p short)) (Moved.table_around s b p short i l) (Moved.all_move s b p short) in
        let e = agree (table_name s i) m.0.same in
        let t = table_facts s a.records_are i l in
        let range = up_to (first_column s i) (columns_of s i) in
        let cs : map (References.map_column g) (map (References.map_column f) (map (column s) range)) ≡ map (References.map_column g') (map (column s) range) =
        ap (map (References.map_column g)) (sym (map_after (References.map_column f) (column s) range))
        ∙ sym (map_after (References.map_column g) (λ j. References.map_column f (column s j)) range)
        ∙ map_alike (λ j. References.map_column g (References.map_column f (column s j))) (λ j. References.map_column g' (column s j)) (first_column s i) (columns_of s i)
        (λ j x y. column_agrees j (omega (arith, t.in_range)))
        ∙ map_after (References.map_column g') (column s) range in
        cc

    pub schema_agrees : References.map_schema g (References.map_schema f (schema s)) ≡ References.map_schema g' (schema s)
    unfolding schema
    schema_agrees =
        let range = up_to 0 (table_count s) in
        ap (map (References.map_table g)) (sym (map_after (References.map_table f) (table s) range))
        ∙ sym (map_after (References.map_table g) (λ j. References.map_table f (table s j)) range)
        ∙ map_alike (λ j. References.map_table g (References.map_table f (table s j))) (λ j. References.map_table g' (table s j)) 0 (table_count s) (λ j x y. table_agrees j (omega arith))
        ∙ map_after (References.map_table g') (table s) range
