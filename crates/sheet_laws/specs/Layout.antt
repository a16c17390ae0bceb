-- Where the parts of an accepted sheet stand, in numbers.
use Rattle.std.specs.Prelude.{ℕ, zero, suc, ◌+◌, ◌-◌, ◌*◌, ◌/◌, ◌%◌, ◌≤◌, ◌<◌, ◌≡◌, refl, ◌||◌, Bool, true, false, cond, List, map, leb, ltb, eqb, length, get_or}
use Rattle.std.proofs.Math.Nat.{div-add-mod}
use Rattle.std.proofs.Common.{arith, ltb-true, leb-true, eqb-true, lt-ltb, le-ltb, le-leb, sym, ap, ◌∙◌}
use Rattle.std.proofs.lemmas.Bool.{eqb-false}
use Rattle.std.proofs.Math.Option.{Option, none, some}
use Rattle.std.proofs.lemmas.List.{length-map}
use Rattle.sql.specs.Schema.{Table, table_of, no_table, no_column}
use Rattle.sql.specs.Plan.{up_to}
use Rattle.sheet.specs.Parts.{tables_at, columns_at, cells_at, edition, said_length, length_ok, edition_ok, records_ok, parts_ok, table_count, column_count, cell_count, inside, table_name, column_name, key_of, columns_before, columns_of, first_column, table_ok, column_ok, record_ok, first_failing, bad_record}
use Rattle.sheet.specs.Check.{table, column, schema}
use Rattle.sheet_laws.specs.Fits.{Reference}
use Rattle.sheet_laws.specs.Content.{and_left, and_right}

pub record Parts (s : List ℕ) : Type 0 where
  pub long : 20 ≤ length s
  pub short : length s ≤ 45332
  pub said : said_length s ≡ length s
  pub edition_known : edition_ok s ≡ true
  pub edition_small : edition s ≤ 2
  pub text_short : tables_at s ≤ 8192
  pub tables : columns_at s ≡ tables_at s + table_count s * 16
  pub tables_few : table_count s ≤ 16
  pub columns : cells_at s ≡ columns_at s + column_count s * 16
  pub columns_few : column_count s ≤ 256
  pub cells : length s ≡ cells_at s + cell_count s * 16 + 20
  pub cells_some : 1 ≤ cell_count s
  pub cells_few : cell_count s ≤ 2048

-- From one byte up to another there are whole records, so many.
record Counted (from upto few many : ℕ) : Type 0 where
  ends : upto ≡ from + (upto - from) / 16 * 16
  least : few ≤ (upto - from) / 16
  most : (upto - from) / 16 ≤ many

counted : (from upto few many : ℕ) → records_ok from upto few many ≡ true → Counted from upto few many
counted from upto few many h =
    let p = leb-true from upto (and_left (leb from upto) _ h) in
    let h1 = and_right (leb from upto) _ h in
    let q = eqb-true ((upto - from) % 16) 0 (and_left (eqb ((upto - from) % 16) 0) _ h1) in
    let h2 = and_right (eqb ((upto - from) % 16) 0) _ h1 in
    let r = leb-true (few * 16) (upto - from) (and_left (leb (few * 16) (upto - from)) _ h2) in
    let t = leb-true (upto - from) (many * 16) (and_right (leb (few * 16) (upto - from)) _ h2) in
    let d = div-add-mod (upto - from) 16 in
    record { ends = omega arith; least = omega arith; most = omega arith }

one_or_two : (e : ℕ) → eqb e 1 || eqb e 2 ≡ true → e ≤ 2
one_or_two e h = go (eqb e 1) refl h
  where
    go : (b : Bool) → eqb e 1 ≡ b → b || eqb e 2 ≡ true → e ≤ 2
    go true q h = omega (arith, eqb-true e 1 q)
    go false q h = omega (arith, eqb-true e 2 h)

pub parts : (s : List ℕ) → length_ok s ≡ true → edition_ok s ≡ true → parts_ok s ≡ true → Parts s
unfolding length_ok edition_ok parts_ok
parts s l e p =
    let l1 = and_right (leb 20 (length s)) _ l in
    let long = leb-true 20 (length s) (and_left (leb 20 (length s)) _ l) in
    let p1 = and_right (leb (tables_at s) 8192) _ p in
    let p2 = and_right (records_ok (tables_at s) (columns_at s) 0 16) _ p1 in
    let t = counted (tables_at s) (columns_at s) 0 16 (and_left (records_ok (tables_at s) (columns_at s) 0 16) _ p1) in
    let c = counted (columns_at s) (cells_at s) 0 256 (and_left (records_ok (columns_at s) (cells_at s) 0 256) _ p2) in
    let k = counted (cells_at s) (length s - 20) 1 2048 (and_right (records_ok (columns_at s) (cells_at s) 0 256) _ p2) in
    record {
      long = long;
      short = leb-true (length s) 45332 (and_left (leb (length s) 45332) _ l1);
      said = eqb-true (said_length s) (length s) (and_right (leb (length s) 45332) _ l1);
      edition_known = e;
      edition_small = one_or_two (edition s) e;
      text_short = leb-true (tables_at s) 8192 (and_left (leb (tables_at s) 8192) _ p);
      tables = t.ends;
      tables_few = t.most;
      columns = c.ends;
      columns_few = c.most;
      cells = omega (arith, long, k.ends);
      cells_some = k.least;
      cells_few = k.most;
    }

-- ---- walks

pub none_failing : (ok : ℕ → Bool) (i k : ℕ) → first_failing ok i k ≡ none → (j : ℕ) → i ≤ j → j < i + k → ok j ≡ true
unfolding first_failing
none_failing ok i zero h j p q = absurd (omega arith)
none_failing ok i (suc k) h j p q = go (ok i) refl (none_failing ok (suc i) k) h
  where
    go : (b : Bool) → ok i ≡ b → (first_failing ok (suc i) k ≡ none → (j : ℕ) → suc i ≤ j → j < suc i + k → ok j ≡ true)
        → ◌≡◌ {A = Option ℕ} (elim b [ true ↦ first_failing ok (suc i) k | false ↦ some i ]) none → ok j ≡ true
    go false e ih h = absurd (let z : ◌≡◌ {A = ℕ} 0 1 = cc in omega arith)
    go true e ih h = at_or_after (eqb i j) refl
      where
        at_or_after : (b : Bool) → eqb i j ≡ b → ok j ≡ true
        at_or_after true d = ap ok (sym (eqb-true i j d)) ∙ e
        at_or_after false d = ih h j (omega (arith, eqb-false i j d)) (omega arith)

pub all_passing : (ok : ℕ → Bool) (i k : ℕ) → ((j : ℕ) → i ≤ j → j < i + k → ok j ≡ true) → first_failing ok i k ≡ none
unfolding first_failing
all_passing ok i zero h = refl
all_passing ok i (suc k) h =
    ap (λ (b : Bool). elim b [ true ↦ first_failing ok (suc i) k | false ↦ some i ]) (h i (omega arith) (omega arith))
    ∙ all_passing ok (suc i) k (λ j p q. h j (omega arith) (omega arith))

pub length_up_to : (i n : ℕ) → length (up_to i n) ≡ n
length_up_to i zero = refl
length_up_to i (suc n) = ap suc (length_up_to (suc i) n)

-- ---- tables and columns

pub record TableFacts (s : List ℕ) (i : ℕ) : Type 0 where
  pub named : inside (tables_at s) (table_name s i) ≡ true
  pub first : first_column s i ≡ columns_before s i
  pub some_columns : 1 ≤ columns_of s i
  pub in_range : first_column s i + columns_of s i ≤ column_count s
  pub key : key_of s i < columns_of s i

pub table_facts : (s : List ℕ) → bad_record s ≡ none → (i : ℕ) → i < table_count s → TableFacts s i
unfolding bad_record table_ok
table_facts s h i b =
    let r : record_ok s i ≡ true = none_failing (record_ok s) 0 (table_count s + column_count s) h i (omega arith) (omega arith) in
    let t : table_ok s i ≡ true = sym (ap (λ (b : Bool). cond b (table_ok s i) (column_ok s (i - table_count s))) (lt-ltb i (table_count s) b)) ∙ r in
    let t1 = and_right (inside (tables_at s) (table_name s i)) _ t in
    let t2 = and_right (eqb (first_column s i) (columns_before s i)) _ t1 in
    let t3 = and_right (leb 1 (columns_of s i)) _ t2 in
    let t4 = and_right (leb (first_column s i + columns_of s i) (column_count s)) _ t3 in
    record {
      named = and_left (inside (tables_at s) (table_name s i)) _ t;
      first = eqb-true (first_column s i) (columns_before s i) (and_left (eqb (first_column s i) (columns_before s i)) _ t1);
      some_columns = leb-true 1 (columns_of s i) (and_left (leb 1 (columns_of s i)) _ t2);
      in_range = leb-true (first_column s i + columns_of s i) (column_count s) (and_left (leb (first_column s i + columns_of s i) (column_count s)) _ t3);
      key = ltb-true (key_of s i) (columns_of s i) t4;
    }

column_named : (s : List ℕ) → bad_record s ≡ none → (j : ℕ) → j < column_count s → inside (tables_at s) (column_name s j) ≡ true
unfolding bad_record column_ok
column_named s h j b =
    let i = table_count s + j in
    let r : record_ok s i ≡ true = none_failing (record_ok s) 0 (table_count s + column_count s) h i (omega arith) (omega arith) in
    let e : i - table_count s ≡ j = omega arith in
    let c : column_ok s j ≡ true =
    ap (column_ok s) (sym e)
    ∙ sym (ap (λ (b : Bool). cond b (table_ok s i) (column_ok s (i - table_count s))) (le-ltb i (table_count s) (omega arith))) ∙ r in
    let c1 = and_right (ltb j (columns_before s (table_count s))) _ c in
    and_left (inside (tables_at s) (column_name s j)) _ c1

-- a property of whatever is looked up in a range
getD_range : {A : Type 0} (Q : A → Type 0) (f : ℕ → A) (d : A) (i n : ℕ) → Q d → ((j : ℕ) → i ≤ j → j < i + n → Q (f j)) → (t : ℕ) → Q (get_or (map f (up_to i n)) t d)
getD_range Q f d i zero q h t = q
getD_range Q f d i (suc n) q h zero = h i (omega arith) (omega arith)
getD_range Q f d i (suc n) q h (suc t) = getD_range Q f d (suc i) n q (λ j a b. h j (omega arith) (omega arith)) t

-- What a plan needs of the tables that it names: few columns, and names inside a text of so many bytes.
pub record TableGood (bytes : ℕ) (t : Table) : Type 0 where
  pub narrow : length t.columns ≤ 256
  pub named : Reference bytes t.name
  pub columns_named : (i : ℕ) → Reference bytes (get_or t.columns i no_column).name

zero_reference : (bytes : ℕ) → Reference bytes 0
zero_reference bytes = le-leb 0 bytes (omega arith)

-- Each table of an accepted sheet is good; so is the one that stands for a table that there isn't.
pub tables_good : (s : List ℕ) → Parts s → bad_record s ≡ none → (t : ℕ) → TableGood (tables_at s) (table_of (schema s) t)
unfolding schema
tables_good s p h =
    getD_range (TableGood (tables_at s)) (table s) no_table 0 (table_count s)
    (record { narrow = omega arith; named = zero_reference (tables_at s); columns_named = λ i. zero_reference (tables_at s) })
    (λ j a b.
    let f = table_facts s h j (omega arith) in
    let l : length (map (column s) (up_to (first_column s j) (columns_of s j))) ≡ columns_of s j =
    length-map (up_to (first_column s j) (columns_of s j)) (column s) ∙ length_up_to (first_column s j) (columns_of s j) in
    record {
      narrow = omega (arith, l, f.in_range);
      named = f.named;
      columns_named = getD_range (λ c. Reference (tables_at s) c.name) (column s) no_column (first_column s j) (columns_of s j) (zero_reference (tables_at s))
          (λ k u v. column_named s h k (omega (arith, f.in_range)));
    })
