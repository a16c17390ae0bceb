-- Laws on the trailer, the parts and the records of a sheet.
use Prim.Native.Nat.{ℕ, zero, suc, ◌+◌, ◌-◌, ◌*◌, ◌/◌, ◌%◌, ◌≤◌, ◌<◌}
use native.Mathlib.Omega.{arith}
use mathlib.Core.Path.{◌≡◌, refl, sym, ap, ◌∙◌, subst}
use mathlib.Core.Bool.{Bool, true, false, ◌&&◌, cond}
use mathlib.Core.List.{List}
use mathlib.Core.Option.{Option}
use lib.Dec.{leb, ltb, eqb}
use lib.ListN.{length}
use borrow.Author.Tests.{lt-ltb, le-ltb, eq-eqb, leb-true, ltb-true, eqb-true}
use Rattle.sheet.specs.Bytes.{byte, half, word}
use Rattle.sheet.specs.Parts.{length_ok, parts_ok, records_ok, tables_at, columns_at, cells_at, table_count, column_count, cell_count, said_length, inside, columns_before, table_ok, column_ok, record_ok, first_failing, bad_record}
use Rattle.sheet.specs.Cell as Sheet
use Rattle.layout.specs.declared.Cell.{Cell}
use Rattle.layout.specs.declared.Column.{Column}
use Rattle.layout.specs.declared.Parts.{Parts}
use Rattle.layout.specs.declared.Table.{Table}
use Rattle.layout.specs.Layout.{Number, Whole, Laid, IsTable, IsColumn, IsCell, parts_of, table_from, table_at, column_from, column_at, column_fields_ok, bad_column}

-- ---- a conjunction of tests

pub and_left : (p q : Bool) → (p && q) ≡ true → p ≡ true
and_left true q e = refl
and_left false q e = e

pub and_right : (p q : Bool) → (p && q) ≡ true → q ≡ true
and_right true q e = e
and_right false q e = let z : ◌≡◌ {A = ℕ} 0 1 = cc in absurd (omega arith)

both_hold : {p q : Bool} → p ≡ true → q ≡ true → (p && q) ≡ true
both_hold {p} {q} e f = ap (λ (b : Bool). b && q) e ∙ f

-- The code's `&&` groups to the left, the definitions' to the right.
pub and_of_three : (p q r : Bool) → ((p && q) && r) ≡ (p && (q && r))
and_of_three true q r = refl
and_of_three false q r = refl

pub and_of_four : (p q r s : Bool) → (((p && q) && r) && s) ≡ (p && (q && (r && s)))
and_of_four true q r s = and_of_three q r s
and_of_four false q r s = refl

pub and_of_five : (p q r s t : Bool) → ((((p && q) && r) && s) && t) ≡ (p && (q && (r && (s && t))))
and_of_five true q r s t = and_of_four q r s t
and_of_five false q r s t = refl

-- Tests that hold of the same are the same.
same : (p q : Bool) → (p ≡ true → q ≡ true) → (q ≡ true → p ≡ true) → p ≡ q
same true q f g = sym (f refl)
same false true f g = g refl
same false false f g = refl

-- The answer of a function that tests one after the other.
pub fails : {p : Bool} (q : Bool) → p ≡ false → false ≡ (p && q)
fails {p} q e = ap (λ (b : Bool). b && q) (sym e)

pub goes_on : {p : Bool} (q : Bool) {r : Bool} → p ≡ true → r ≡ q → r ≡ (p && q)
goes_on {p} q e h = h ∙ ap (λ (b : Bool). b && q) (sym e)

-- ---- the length and the parts

-- What a right length says.
pub record Length (s : List ℕ) : Type 0 where
  pub least : 20 ≤ length s
  pub most : length s ≤ 45332
  pub said : said_length s ≡ length s

pub length_known : (s : List ℕ) → length_ok s ≡ true → Length s
unfolding length_ok
length_known s e =
    let f = and_right (leb 20 (length s)) _ e in
    record {
      least = leb-true _ _ (and_left (leb 20 (length s)) _ e);
      most = leb-true _ _ (and_left (leb (length s) 45332) _ f);
      said = eqb-true _ _ (and_right (leb (length s) 45332) _ f);
    }

-- What the test of a part says: it is a whole number of records.
pub record Records (from upto few many : ℕ) : Type 0 where
  pub order : from ≤ upto
  pub fills : from + (upto - from) / 16 * 16 ≡ upto
  pub least : few ≤ (upto - from) / 16
  pub most : (upto - from) / 16 ≤ many

pub records_known : (from upto few many : ℕ) → records_ok from upto few many ≡ true → Records from upto few many
records_known from upto few many e =
    let n = upto - from in
    let f = and_right (leb from upto) _ e in
    let g = and_right (eqb (n % 16) 0) _ f in
    let order : from ≤ upto = leb-true _ _ (and_left (leb from upto) _ e) in
    let whole : n % 16 ≡ 0 = eqb-true _ _ (and_left (eqb (n % 16) 0) _ f) in
    let least : few * 16 ≤ n = leb-true _ _ (and_left (leb (few * 16) n) _ g) in
    let most : n ≤ many * 16 = leb-true _ _ (and_right (leb (few * 16) n) _ g) in
    record { order = order; fills = omega arith; least = omega arith; most = omega arith }

module _ {s : List ℕ} (g : Whole s) where
  pub whole_length : Length s
  whole_length = length_known s g.length_is

  pub text_within : tables_at s ≤ 8192
  unfolding parts_ok
  text_within = leb-true _ _ (and_left (leb (tables_at s) 8192) _ g.parts_are)

  records_are : (records_ok (tables_at s) (columns_at s) 0 16 && (records_ok (columns_at s) (cells_at s) 0 256 && records_ok (cells_at s) (length s - 20) 1 2048)) ≡ true
  unfolding parts_ok
  records_are = and_right (leb (tables_at s) 8192) _ g.parts_are

  pub tables_known : Records (tables_at s) (columns_at s) 0 16
  tables_known = records_known _ _ _ _ (and_left (records_ok (tables_at s) (columns_at s) 0 16) _ records_are)

  rest_are : (records_ok (columns_at s) (cells_at s) 0 256 && records_ok (cells_at s) (length s - 20) 1 2048) ≡ true
  rest_are = and_right (records_ok (tables_at s) (columns_at s) 0 16) _ records_are

  pub columns_known : Records (columns_at s) (cells_at s) 0 256
  columns_known = records_known _ _ _ _ (and_left (records_ok (columns_at s) (cells_at s) 0 256) _ rest_are)

  pub cells_known : Records (cells_at s) (length s - 20) 1 2048
  cells_known = records_known _ _ _ _ (and_right (records_ok (columns_at s) (cells_at s) 0 256) _ rest_are)

  pub laid : Laid s (parts_of s)
  laid =
      record {
        is = refl;
        text_few = text_within;
        tables_few = tables_known.most;
        columns_few = columns_known.most;
        cells_few = cells_known.most;
        cells_some = cells_known.least;
        tables_end = tables_known.fills;
        columns_end = columns_known.fills;
        cells_end = let h = cells_known.fills in let l = whole_length.least in omega arith;
      }

-- The numbers that `parts_of` puts together, from the words that it read.
pub laid_is : {s : List ℕ} {x y z : ℕ} → Whole s → x ≡ tables_at s → y ≡ columns_at s → z ≡ cells_at s
    → Laid s (record {
      tables = record { at = x; count = (y - x) / 16 };
      columns = record { at = y; count = (z - y) / 16 };
      cells = record { at = z; count = (length s - 20 - z) / 16 };
    })
laid_is {s} g e f h = subst (λ (p : Parts). Laid s p) (cc) (laid g)

-- ---- records

pub table_reads : (s : List ℕ) (i : ℕ) {x y z w : ℕ}
    → Number 4294967296 (word s i) x
    → Number 4294967296 (word s (i + 4)) y
    → Number 4294967296 (word s (i + 8)) z
    → Number 4294967296 (word s (i + 12)) w
    → IsTable (table_from s i) (record { name = x; first = y; count = z; key = w })
table_reads s i x y z w =
    record { is = cc (x.is, y.is, z.is, w.is); name_small = x.small; first_small = y.small; count_small = z.small; key_small = w.small }

pub column_reads : (s : List ℕ) (i : ℕ) {x y z : ℕ}
    → Number 4294967296 (word s i) x
    → Number 256 (byte s (i + 4)) y
    → Number 256 (byte s (i + 5)) z
    → IsColumn (column_from s i) (record { name = x; kind = y; index = z })
column_reads s i x y z = record { is = cc (x.is, y.is, z.is); name_small = x.small; kind_small = y.small; index_small = z.small }

-- A column's kind, index mark and two zeros are tested as one word.
module _ (s : List ℕ) (i : ℕ) where
  marks_are : word s (i + 4) ≡ byte s (i + 4) + 256 * byte s (i + 5) + 65536 * half s (i + 6)
  unfolding word half
  marks_are =
      let e : i + 4 + 1 ≡ i + 5 = omega arith in
      let f : i + 4 + 2 ≡ i + 6 = omega arith in
      let g : i + 4 + 3 ≡ i + 6 + 1 = omega arith in
      omega (arith, ap (byte s) e, ap (byte s) f, ap (byte s) g)

  marks_tested : byte s (i + 4) < 256 → byte s (i + 5) < 256
      → (ltb (word s (i + 4)) 512 && ltb (word s (i + 4) % 256) 4) ≡ (ltb (byte s (i + 4)) 4 && (ltb (byte s (i + 5)) 2 && eqb (half s (i + 6)) 0))
  marks_tested hk hx =
      let m = word s (i + 4) in
      let k = byte s (i + 4) in
      let x = byte s (i + 5) in
      let are = marks_are in
      same _ _
      (λ e.
      let p = ltb-true m 512 (and_left (ltb m 512) _ e) in
      let q = ltb-true (m % 256) 4 (and_right (ltb m 512) _ e) in
      both_hold (lt-ltb k 4 (omega arith)) (both_hold (lt-ltb x 2 (omega arith)) (eq-eqb (half s (i + 6)) 0 (omega arith))))
      (λ e.
      let p = ltb-true k 4 (and_left (ltb k 4) _ e) in
      let f = and_right (ltb k 4) _ e in
      let q = ltb-true x 2 (and_left (ltb x 2) _ f) in
      let r = eqb-true (half s (i + 6)) 0 (and_right (ltb x 2) _ f) in
      both_hold (lt-ltb m 512 (omega arith)) (lt-ltb (m % 256) 4 (omega arith)))

  pub fields_tested : (text : ℕ) {x m : ℕ} {n : Bool} (a b c : Bool) {d : Bool}
      → byte s (i + 4) < 256
      → byte s (i + 5) < 256
      → m ≡ word s (i + 4)
      → x ≡ word s i
      → n ≡ inside text x
      → a ≡ (n && ltb m 512)
      → b ≡ (a && ltb (m % 256) 4)
      → c ≡ (b && eqb (word s (i + 8)) 0)
      → d ≡ (c && eqb (word s (i + 12)) 0)
      → d ≡ column_fields_ok s i text
  fields_tested text {x} {m} {n} a b c {d} hk hx em ex en ea eb ec ed =
      let k = ltb (byte s (i + 4)) 4 in
      let j = ltb (byte s (i + 5)) 2 in
      let h = eqb (half s (i + 6)) 0 in
      let y = eqb (word s (i + 8)) 0 in
      let z = eqb (word s (i + 12)) 0 in
      let p = ltb m 512 in
      let q = ltb (m % 256) 4 in
      let flat = and_of_five n p q y z in
      let f : (p && q) ≡ (k && (j && h)) = ap (λ (n : ℕ). ltb n 512 && ltb (n % 256) 4) em ∙ marks_tested hk hx in
      let g : (p && (q && (y && z))) ≡ (k && (j && (h && (y && z)))) =
      sym (and_of_three p q (y && z)) ∙ ap (λ (n : Bool). n && (y && z)) f ∙ and_of_three k (j && h) (y && z) ∙ ap (λ (n : Bool). k && n) (and_of_three j h (y && z)) in
      cc

module _ {s : List ℕ} {p : Parts} (g : Laid s p) where
  pub text_is : p.tables.at ≡ tables_at s
  text_is = ap (λ (q : Parts). q.tables.at) g.is

  pub tables_are : p.tables.count ≡ table_count s
  tables_are = ap (λ (q : Parts). q.tables.count) g.is

  pub columns_start : p.columns.at ≡ columns_at s
  columns_start = ap (λ (q : Parts). q.columns.at) g.is

  pub columns_are : p.columns.count ≡ column_count s
  columns_are = ap (λ (q : Parts). q.columns.count) g.is

  pub cells_start : p.cells.at ≡ cells_at s
  cells_start = ap (λ (q : Parts). q.cells.at) g.is

  pub cells_are : p.cells.count ≡ cell_count s
  cells_are = ap (λ (q : Parts). q.cells.count) g.is

  -- Table i stands at i times 16 bytes behind the start of the tables.
  pub table_there : {t : Table} (i : ℕ) → IsTable (table_from s (p.tables.at + i * 16)) t → IsTable (table_at s i) t
  table_there {t} i h = subst (λ (n : ℕ). IsTable (table_from s (n + i * 16)) t) text_is h

  pub columns_before_is : {t : Table} (i : ℕ) → (i ≡ 0 → ⊥) → IsTable (table_from s (p.tables.at + (i - 1) * 16)) t → t.first + t.count ≡ columns_before s i
  columns_before_is zero z h = absurd (z refl)
  columns_before_is {t} (suc i) z h =
      let e : suc i - 1 ≡ i = omega arith in
      ap (λ (x : Table). x.first + x.count) (table_there i (subst (λ (n : ℕ). IsTable (table_from s (p.tables.at + n * 16)) t) e h)).is

  -- Column i stands at i times 16 bytes behind the start of the columns.
  pub column_there : {k : Column} (i : ℕ) → IsColumn (column_from s (p.columns.at + i * 16)) k → IsColumn (column_at s i) k
  column_there {k} i h = subst (λ (n : ℕ). IsColumn (column_from s (n + i * 16)) k) columns_start h

  -- Its number tells its range.
  pub column_out : (i : ℕ) {before : ℕ} → before ≡ columns_before s p.tables.count → before ≤ i → column_ok s i ≡ false
  unfolding column_ok
  column_out i e h = sym (fails _ (le-ltb i (columns_before s (table_count s)) (subst (λ (n : ℕ). n ≤ i) (e ∙ ap (columns_before s) tables_are) h)))

  pub column_in : (i : ℕ) {before : ℕ} {r : Bool} → before ≡ columns_before s p.tables.count → i < before
      → r ≡ column_fields_ok s (p.columns.at + i * 16) p.tables.at → r ≡ column_ok s i
  unfolding column_ok
  column_in i e h f =
      goes_on _ (lt-ltb i (columns_before s (table_count s)) (subst (λ (n : ℕ). i < n) (e ∙ ap (columns_before s) tables_are) h))
      (f ∙ ap (λ (n : ℕ). column_fields_ok s (n + i * 16) p.tables.at) columns_start ∙ ap (λ (n : ℕ). column_fields_ok s (columns_at s + i * 16) n) text_is)

  -- Record i is a table's or, behind the tables, a column's.
  pub record_table : (i : ℕ) {r : Bool} → i < p.tables.count → r ≡ table_ok s i → r ≡ record_ok s i
  record_table i {r} h e =
      e ∙ ap (λ (b : Bool). cond b (table_ok s i) (column_ok s (i - table_count s))) (sym (lt-ltb i (table_count s) (subst (λ (n : ℕ). i < n) tables_are h)))

  pub record_column : (i : ℕ) {r : Bool} → p.tables.count ≤ i → r ≡ column_ok s (i - p.tables.count) → r ≡ record_ok s i
  record_column i {r} h e =
      e ∙ ap (λ (n : ℕ). column_ok s (i - n)) tables_are
      ∙ ap (λ (b : Bool). cond b (table_ok s i) (column_ok s (i - table_count s))) (sym (le-ltb i (table_count s) (subst (λ (n : ℕ). n ≤ i) tables_are h)))

  -- The number of records is the one that `bad_record` walks.
  pub records_walked : {o : Option ℕ} → o ≡ first_failing (record_ok s) 0 (p.tables.count + p.columns.count) → o ≡ bad_record s
  unfolding bad_record
  records_walked e =
      let n : p.tables.count + p.columns.count ≡ table_count s + column_count s = cc (tables_are, columns_are) in
      e ∙ ap (first_failing (record_ok s) 0) n

  -- and that behind the tables is the one that `bad_column` walks
  pub columns_walked : {o : Option ℕ} → o ≡ first_failing (record_ok s) p.tables.count p.columns.count → o ≡ bad_column s
  columns_walked e = e ∙ ap (λ (n : ℕ). first_failing (record_ok s) n p.columns.count) tables_are ∙ ap (first_failing (record_ok s) (table_count s)) columns_are

-- ---- cells

pub cell_holds : (s : List ℕ) (i : ℕ) {x y z a b c : ℕ}
    → Number 256 (byte s i) x
    → Number 256 (byte s (i + 1)) y
    → Number 65536 (half s (i + 2)) z
    → Number 4294967296 (word s (i + 4)) a
    → Number 4294967296 (word s (i + 8)) b
    → Number 4294967296 (word s (i + 12)) c
    → IsCell (Sheet.cell_from s i) (record { tag = x; flag = y; origin = z; a = a; b = b; c = c })
cell_holds s i x y z a b c =
    record {
      is = cc (x.is, y.is, z.is, a.is, b.is, c.is);
      tag_small = x.small;
      flag_small = y.small;
      origin_small = z.small;
      a_small = a.small;
      b_small = b.small;
      c_small = c.small;
    }

-- Cell i stands at i times 16 bytes behind the start of the cells.
pub cell_there : {s : List ℕ} {p : Parts} {k : Cell} (i : ℕ) → Laid s p → IsCell (Sheet.cell_from s (p.cells.at + i * 16)) k → IsCell (Sheet.cell s i) k
unfolding Sheet.cell
cell_there {s} {p} {k} i g h = subst (λ (n : ℕ). IsCell (Sheet.cell_from s (n + i * 16)) k) (cells_start g) h
