-- A cell whose layout is right says one content, and is the cell of that content.
use Rattle.std.specs.Prelude.{ℕ, zero, suc, ◌+◌, ◌-◌, ◌*◌, ◌/◌, ◌%◌, ◌^◌, ◌<◌, ◌≡◌, refl, Bool, true, false, ◌&&◌, cond, List, [], ◌∷◌, leb, ltb, eqb, pos, negsuc, get_or}
use Rattle.std.proofs.Common.{mod-eq_of_lt, mod-lt, div-lt_iff_lt-mul, arith, ltb-true, lt-ltb, eqb-true, ltb-false, sym, ap, ◌∙◌, subst}
use Rattle.std.proofs.Math.Nat.{div-eq_of_lt, add-mul-mod_self_left, add-mul-div_left, mod-add-div}
use Rattle.std.proofs.Math.Option.{Option, none, some}
use Rattle.std.specs.Int.Signed.{mag}
use Rattle.value.specs.Value.{True, False, Unknown, integer, float, string, truth, datum, boolean}
use Rattle.value.specs.Meaning.{integer_bits, integer_of_bits, bytes_at}
use Rattle.sql.specs.Expression.{And, Or, IsNull, IsNaN, Identity, Negate, SquareRoot, GreaterThan, LessThan, Add, Divide, Subtract, Multiply, Not, function, logical, Equal}
use Rattle.sql.specs.Plan.{Label, unlabelled, unqualified, qualified}
use Rattle.sheet.specs.Parts.{inside}
use Rattle.sheet.specs.Cell.{Cell, Field, Tag, unknown, not_carried, carried, unused as unused_field, any as any_field, bit as bit_field, table as table_field, text as text_field, small as small_field, tags, tag_of, field_ok, fields_ok, float_ok, cell_ok, wide}
use Rattle.sheet.specs.Content
use Rattle.sheet.specs.Content.{Content, Reader, marked, readers, low, high, content_of, cell_of, constant_cell, column_cell, unary_cell, binary_cell, label_cell, item_cell, key_cell, target_cell, agg_cell, row_cell, aggregate_cell, filter_cell, hash_join_cell, index_lookup_cell, key_lookup_cell, limit_cell, offset_cell, nested_loop_join_cell, nothing_cell, order_cell, projection_cell, remap_cell, scan_cell, values_cell}
use Rattle.sheet_laws.specs.Fits.{Word, LabelFits, TableFits, ExactCell}

-- The numbers of a cell have 4 bytes.
pub record Words (c : Cell) : Type 0 where
  pub a_word : Word c.a
  pub b_word : Word c.b
  pub c_word : Word c.c

pub and_left : (a b : Bool) → a && b ≡ true → a ≡ true
and_left true b h = refl
and_left false b h = h

pub and_right : (a b : Bool) → a && b ≡ true → b ≡ true
and_right true b h = h
and_right false b h = let z : false ≡ true = h in cc

pub and_true : (a b : Bool) → a ≡ true → b ≡ true → a && b ≡ true
and_true a b p q = rw (p, q)

-- ---- numbers by halves

-- the parts of a number in base d
pub low_part : (d x y : ℕ) → x < d → (x + d * y) % d ≡ x
low_part d x y h = add-mul-mod_self_left x d y ∙ mod-eq_of_lt h

pub high_part : (d x y : ℕ) → x < d → (x + d * y) / d ≡ y
high_part d x y h = let p : 0 < d = omega arith in omega (arith, add-mul-div_left x y p, div-eq_of_lt h)

pub bits_kept : (n : ℕ) → n < 2 ^ 64 → integer_bits (integer_of_bits n) ≡ n
unfolding integer_bits integer_of_bits
bits_kept n h = go (ltb n 9223372036854775808)
  where
    go : (b : Bool) → integer_bits (cond b (pos n) (negsuc (18446744073709551615 - n))) ≡ n
    go true = refl
    go false = omega arith

pub mag_of_bits : (n : ℕ) → n < 2 ^ 64 → mag (integer_of_bits n) < 2 ^ 63
unfolding integer_of_bits
mag_of_bits n h = go (ltb n 9223372036854775808) refl
  where
    go : (b : Bool) → ltb n 9223372036854775808 ≡ b → mag (cond b (pos n) (negsuc (18446744073709551615 - n))) < 2 ^ 63
    go true e = omega (arith, ltb-true n 9223372036854775808 e)
    go false e = omega (arith, ltb-false n 9223372036854775808 e)

pub wide_bound : (a b : ℕ) → Word a → Word b → wide a b < 2 ^ 64
wide_bound a b p q = omega arith

-- ---- one tag

-- a cell from its numbers, its origin first
abbrev pub laid : (og t f a b c : ℕ) → Cell
laid og t f a b c = record { tag = t; flag = f; origin = og; a = a; b = b; c = c }

-- What a reader says of a cell: a content that the cell, its origin aside, is written for.
pub record Says (text : List ℕ) (bytes tables : ℕ) (said : Option Content) (c : Cell) : Type 0 where
  pub content : Content
  pub is : said ≡ some content
  pub back : cell_of content ≡ marked 0 c
  pub exact : ExactCell text bytes tables content

-- what a field that passes its test holds
abbrev Where : Bool → Type 0 → Type 0 → Type 0
Where true A B = A
Where false A B = B

abbrev Holds : (bytes tables flag : ℕ) → Field → ℕ → Type 0
Holds bytes tables flag unused_field v = v ≡ 0
Holds bytes tables flag any_field v = Unit {0}
Holds bytes tables flag bit_field v = v < 2
Holds bytes tables flag table_field v = v < tables
Holds bytes tables flag (text_field k) v = Where (leb k flag) (inside bytes v ≡ true) (v ≡ 0)
Holds bytes tables flag (small_field k) v = Where (leb k flag) (v < 256) (v ≡ 0)

holds : (bytes tables flag : ℕ) (f : Field) (v : ℕ) → field_ok bytes tables flag f v ≡ true → Holds bytes tables flag f v
holds bytes tables flag unused_field v h = eqb-true v 0 h
holds bytes tables flag any_field v h = tt
holds bytes tables flag bit_field v h = ltb-true v 2 h
holds bytes tables flag table_field v h = ltb-true v tables h
holds bytes tables flag (text_field k) v h = go (leb k flag) h
  where
    go : (b : Bool) → cond b (inside bytes v) (eqb v 0) ≡ true → Where b (inside bytes v ≡ true) (v ≡ 0)
    go true h = h
    go false h = eqb-true v 0 h
holds bytes tables flag (small_field k) v h = go (leb k flag) h
  where
    go : (b : Bool) → cond b (ltb v 256) (eqb v 0) ≡ true → Where b (v < 256) (v ≡ 0)
    go true h = ltb-true v 256 h
    go false h = eqb-true v 0 h

record Fields (bytes tables n : ℕ) (fa fb fc : Field) (f a b c : ℕ) : Type 0 where
  flag_ok : f < n
  a_ok : Holds bytes tables f fa a
  b_ok : Holds bytes tables f fb b
  c_ok : Holds bytes tables f fc c
  a_word : Word a
  b_word : Word b
  c_word : Word c

-- A tag's reader understands each cell that passes the tag's test.
abbrev Understands : ℕ → Tag → Reader → Type 0
Understands t unknown reader = Unit {0}
Understands t not_carried reader = Unit {0}
Understands t (carried n fa fb fc) reader =
    (og : ℕ) (text : List ℕ) (bytes tables f a b c : ℕ) → Fields bytes tables n fa fb fc f a b c → float_ok (laid og t f a b c) ≡ true
    → Says text bytes tables (reader text (laid og t f a b c)) (laid og t f a b c)

-- cells without numbers
plain : (t : ℕ) (k : Content) → cell_of k ≡ laid 0 t 0 0 0 0 → ((text : List ℕ) (bytes tables : ℕ) → ExactCell text bytes tables k)
    → Understands t (carried 1 unused_field unused_field unused_field) (λ text c. some k)
plain t k e x og text bytes tables f a b c d g =
    let fe : f ≡ 0 = omega arith in
    record { content = k; is = refl; back = cc; exact = x text bytes tables }

-- cells with a column number or a count in a
counted : (t : ℕ) (k : ℕ → Content) → ((n : ℕ) → cell_of (k n) ≡ laid 0 t 0 n 0 0)
    → ((text : List ℕ) (bytes tables n : ℕ) → Word n → ExactCell text bytes tables (k n))
    → Understands t (carried 1 any_field unused_field unused_field) (λ text c. some (k c.a))
counted t k e x og text bytes tables f a b c d g =
    let fe : f ≡ 0 = omega arith in
    record { content = k a; is = refl; back = cc (e a); exact = x text bytes tables a d.a_word }

boolean_says : Understands 2 (carried 1 bit_field unused_field unused_field) (λ text c. some (constant_cell (boolean (eqb c.a 1))))
boolean_says og text bytes tables f zero b c d g =
    let fe : f ≡ 0 = omega arith in
    record { content = constant_cell (truth False); is = refl; back = cc; exact = (tt, tt) }
boolean_says og text bytes tables f (suc zero) b c d g =
    let fe : f ≡ 0 = omega arith in
    record { content = constant_cell (truth True); is = refl; back = cc; exact = (tt, tt) }
boolean_says og text bytes tables f (suc (suc a)) b c d g = absurd (omega arith)

string_says : Understands 5 (carried 1 (text_field 0) unused_field unused_field) (λ text c. some (constant_cell (datum (string c.a (bytes_at text c.a)))))
string_says og text bytes tables zero a b c d g =
    record { content = constant_cell (datum (string a (bytes_at text a))); is = refl; back = cc; exact = ((d.a_ok, refl), tt) }
string_says og text bytes tables (suc f) a b c d g = absurd (omega (arith, d.flag_ok))

-- numbers of 64 bits: Integer, Float, Limit, Offset
amount_says : (t : ℕ) (k : ℕ → Content) → ((n : ℕ) → n < 2 ^ 64 → cell_of (k n) ≡ laid 0 t 0 (low n) (high n) 0)
    → ((text : List ℕ) (bytes tables f a b c : ℕ) → wide a b < 2 ^ 64 → float_ok (laid 0 t f a b c) ≡ true → ExactCell text bytes tables (k (wide a b)))
    → Understands t (carried 1 any_field any_field unused_field) (λ text c. some (k (Content.amount c)))
amount_says t k e x og text bytes tables f a b c d g =
    let fe : f ≡ 0 = omega arith in
    let h : wide a b < 2 ^ 64 = wide_bound a b d.a_word d.b_word in
    record {
      content = k (wide a b);
      is = refl;
      back = cc (e (wide a b) h, low_part 4294967296 a b d.a_word, high_part 4294967296 a b d.a_word);
      exact = x text bytes tables f a b c h g;
    }

integer_says : Understands 3 (carried 1 any_field any_field unused_field) (λ text c. some (constant_cell (datum (integer (integer_of_bits (Content.amount c))))))
integer_says =
    amount_says 3 (λ n. constant_cell (datum (integer (integer_of_bits n)))) (λ n h. ap (λ (m : ℕ). laid 0 3 0 (low m) (high m) 0) (bits_kept n h))
    (λ text bytes tables f a b c h g. (omega (arith, mag_of_bits (wide a b) h), tt))

labelled_says : (t : ℕ) (k : Label → Content) → ((l : Label) → cell_of (k l) ≡ Content.labelled t l)
    → ((text : List ℕ) (bytes tables : ℕ) (l : Label) → LabelFits bytes l → ExactCell text bytes tables (k l))
    → Understands t (carried 3 (text_field 1) (text_field 2) unused_field) (λ text c. some (k (Content.label_of c)))
labelled_says t k e x og text bytes tables zero a b c d g =
    record { content = k unlabelled; is = refl; back = cc (e unlabelled); exact = x text bytes tables unlabelled tt }
labelled_says t k e x og text bytes tables (suc zero) a b c d g =
    record { content = k (unqualified a); is = refl; back = cc (e (unqualified a)); exact = x text bytes tables (unqualified a) d.a_ok }
labelled_says t k e x og text bytes tables (suc (suc zero)) a b c d g =
    record { content = k (qualified a b); is = refl; back = cc (e (qualified a b)); exact = x text bytes tables (qualified a b) (d.a_ok, d.b_ok) }
labelled_says t k e x og text bytes tables (suc (suc (suc f))) a b c d g = absurd (omega (arith, d.flag_ok))

key_says : Understands 42 (carried 2 unused_field unused_field unused_field) (λ text c. some (key_cell (Content.bit0 c)))
key_says og text bytes tables zero a b c d g = record { content = key_cell false; is = refl; back = cc; exact = (tt, tt) }
key_says og text bytes tables (suc zero) a b c d g = record { content = key_cell true; is = refl; back = cc; exact = (tt, tt) }
key_says og text bytes tables (suc (suc f)) a b c d g = absurd (omega (arith, d.flag_ok))

target_says : Understands 43 (carried 2 (small_field 1) unused_field unused_field) (λ text c. some (target_cell (Content.from_flag 1 c c.a)))
target_says og text bytes tables zero a b c d g = record { content = target_cell none; is = refl; back = cc; exact = (tt, tt) }
target_says og text bytes tables (suc zero) a b c d g = record { content = target_cell (some a); is = refl; back = cc; exact = (omega (arith, d.a_ok), tt) }
target_says og text bytes tables (suc (suc f)) a b c d g = absurd (omega (arith, d.flag_ok))

agg_says : Understands 44 (carried 5 unused_field unused_field unused_field) (λ text c. some (agg_cell c.flag))
agg_says og text bytes tables f a b c d g = record { content = agg_cell f; is = refl; back = cc; exact = (omega (arith, d.flag_ok), tt) }

aggregate_says : Understands 50 (carried 1 any_field any_field unused_field) (λ text c. some (aggregate_cell c.a c.b))
aggregate_says og text bytes tables f a b c d g =
    let fe : f ≡ 0 = omega arith in
    record { content = aggregate_cell a b; is = refl; back = cc; exact = (tt, (d.a_word, d.b_word)) }

hash_join_says : Understands 52 (carried 2 any_field any_field unused_field) (λ text c. some (hash_join_cell (Content.bit0 c) c.a c.b))
hash_join_says og text bytes tables zero a b c d g =
    record { content = hash_join_cell false a b; is = refl; back = cc; exact = (tt, (d.a_word, d.b_word)) }
hash_join_says og text bytes tables (suc zero) a b c d g =
    record { content = hash_join_cell true a b; is = refl; back = cc; exact = (tt, (d.a_word, d.b_word)) }
hash_join_says og text bytes tables (suc (suc f)) a b c d g = absurd (omega (arith, d.flag_ok))

lookup_says : (t : ℕ) (k : ℕ → Option ℕ → ℕ → Content) → ((a : ℕ) (al : Option ℕ) (c : ℕ) → cell_of (k a al c) ≡ Content.lookup_as_cell t a al c)
    → ((text : List ℕ) (bytes tables a : ℕ) (al : Option ℕ) (c : ℕ) → Word c → TableFits bytes tables a al → ExactCell text bytes tables (k a al c))
    → Understands t (carried 2 table_field (text_field 1) any_field) (λ text c. some (k c.a (Content.from_flag 1 c c.b) c.c))
lookup_says t k e x og text bytes tables zero a b c d g =
    record { content = k a none c; is = refl; back = cc (e a none c); exact = x text bytes tables a none c d.c_word (d.a_ok, tt) }
lookup_says t k e x og text bytes tables (suc zero) a b c d g =
    record { content = k a (some b) c; is = refl; back = cc (e a (some b) c); exact = x text bytes tables a (some b) c d.c_word (d.a_ok, d.b_ok) }
lookup_says t k e x og text bytes tables (suc (suc f)) a b c d g = absurd (omega (arith, d.flag_ok))

nested_loop_says : Understands 56 (carried 4 unused_field unused_field unused_field) (λ text c. some (nested_loop_join_cell (Content.bit0 c) (Content.bit1 c)))
nested_loop_says og text bytes tables zero a b c d g =
    record { content = nested_loop_join_cell false false; is = refl; back = cc; exact = (tt, tt) }
nested_loop_says og text bytes tables (suc zero) a b c d g =
    record { content = nested_loop_join_cell true false; is = refl; back = cc; exact = (tt, tt) }
nested_loop_says og text bytes tables (suc (suc zero)) a b c d g =
    record { content = nested_loop_join_cell false true; is = refl; back = cc; exact = (tt, tt) }
nested_loop_says og text bytes tables (suc (suc (suc zero))) a b c d g =
    record { content = nested_loop_join_cell true true; is = refl; back = cc; exact = (tt, tt) }
nested_loop_says og text bytes tables (suc (suc (suc (suc f)))) a b c d g = absurd (omega (arith, d.flag_ok))

scan_says : Understands 62 (carried 4 table_field (text_field 2) unused_field) (λ text c. some (scan_cell (Content.bit0 c) c.a (Content.from_flag 2 c c.b)))
scan_says og text bytes tables zero a b c d g =
    record { content = scan_cell false a none; is = refl; back = cc; exact = ((d.a_ok, tt), tt) }
scan_says og text bytes tables (suc zero) a b c d g =
    record { content = scan_cell true a none; is = refl; back = cc; exact = ((d.a_ok, tt), tt) }
scan_says og text bytes tables (suc (suc zero)) a b c d g =
    record { content = scan_cell false a (some b); is = refl; back = cc; exact = ((d.a_ok, d.b_ok), tt) }
scan_says og text bytes tables (suc (suc (suc zero))) a b c d g =
    record { content = scan_cell true a (some b); is = refl; back = cc; exact = ((d.a_ok, d.b_ok), tt) }
scan_says og text bytes tables (suc (suc (suc (suc f)))) a b c d g = absurd (omega (arith, d.flag_ok))

-- ---- all tags: one proof for each row of the two tables

data Rows : ℕ → List Tag → List Reader → Type 0 where
  end : {t : ℕ} → Rows t [] []
  row : {t : ℕ} {tag : Tag} {reader : Reader} {ts : List Tag} {rs : List Reader} → Understands t tag reader → Rows (suc t) ts rs → Rows t (tag ∷ ts) (reader ∷ rs)

tag_row : {t : ℕ} {ts : List Tag} {rs : List Reader} → Rows t ts rs → (i : ℕ) → Understands (t + i) (get_or ts i unknown) (get_or rs i (λ text c. none))
tag_row end i = tt
tag_row {t} (row {tag = tag} {reader = reader} u r) zero = let e : t ≡ t + 0 = omega arith in subst (λ (s : ℕ). Understands s tag reader) e u
tag_row {t} (row {ts = ts} {rs = rs} u r) (suc i) =
    let e : suc t + i ≡ t + suc i = omega arith in
    subst (λ (s : ℕ). Understands s (get_or ts i unknown) (get_or rs i (λ text c. none))) e (tag_row r i)

abbrev no_exact : (text : List ℕ) (bytes tables : ℕ) → Unit {0} × Unit {0}
no_exact text bytes tables = (tt, tt)

abbrev word_exact : (text : List ℕ) (bytes tables n : ℕ) → Word n → Unit {0} × Word n
word_exact text bytes tables n h = (tt, h)

all_rows : Rows 0 tags readers
all_rows =
    row tt (row (plain 1 (constant_cell (truth Unknown)) refl no_exact) (row boolean_says (row integer_says
    (row (amount_says 4 (λ n. constant_cell (datum (float n))) (λ n h. refl) (λ text bytes tables f a b c h g. ((h, g), tt)))
    (row string_says (row (counted 6 column_cell (λ n. refl) word_exact)
    (row tt (row tt (row tt
    (row (plain 10 (binary_cell (logical And)) refl no_exact) (row (plain 11 (binary_cell (logical Or)) refl no_exact) (row (plain 12 (binary_cell Equal) refl no_exact)
    (row (plain 13 (binary_cell (function GreaterThan)) refl no_exact) (row (plain 14 (binary_cell (function LessThan)) refl no_exact)
    (row (plain 15 (binary_cell (function Add)) refl no_exact) (row (plain 16 (binary_cell (function Divide)) refl no_exact)
    (row (plain 17 (binary_cell (function Subtract)) refl no_exact) (row (plain 18 (binary_cell (function Multiply)) refl no_exact)
    (row tt (row tt (row tt (row tt (row tt (row tt (row tt (row tt (row tt (row tt (row tt
    (row (plain 30 (unary_cell Not) refl no_exact) (row (plain 31 (unary_cell (function IsNull)) refl no_exact)
    (row (plain 32 (unary_cell (function IsNaN)) refl no_exact) (row (plain 33 (unary_cell (function Identity)) refl no_exact)
    (row (plain 34 (unary_cell (function Negate)) refl no_exact)
    (row tt (row (plain 36 (unary_cell (function SquareRoot)) refl no_exact) (row tt (row tt (row tt
    (row (labelled_says 40 label_cell (λ l. refl) (λ text bytes tables l h. (h, tt))) (row (labelled_says 41 item_cell (λ l. refl) (λ text bytes tables l h. (h, tt)))
    (row key_says (row target_says (row agg_says (row (counted 45 row_cell (λ n. refl) word_exact)
    (row tt (row tt (row tt (row tt
    (row aggregate_says (row (plain 51 filter_cell refl no_exact) (row hash_join_says
    (row (lookup_says 53 (λ a al c. index_lookup_cell a al (c % 65536) (c / 65536)) (λ a al c. ap (Content.lookup_as_cell 53 a al) (mod-add-div c 65536))
    (λ text bytes tables a al c w h. (h, (omega (arith, (halves c w).0), (halves c w).1))))
    (row (lookup_says 54 key_lookup_cell (λ a al c. refl) (λ text bytes tables a al c w h. (h, w)))
    (row (amount_says 55 limit_cell (λ n h. refl) (λ text bytes tables f a b c h g. (h, tt)))
    (row nested_loop_says (row (counted 57 nothing_cell (λ n. refl) word_exact)
    (row (amount_says 58 offset_cell (λ n h. refl) (λ text bytes tables f a b c h g. (h, tt)))
    (row (counted 59 order_cell (λ n. refl) word_exact) (row (counted 60 projection_cell (λ n. refl) word_exact) (row (counted 61 remap_cell (λ n. refl) word_exact)
    (row scan_says (row (counted 63 values_cell (λ n. refl) word_exact)
    end)))))))))))))))))))))))))))))))))))))))))))))))))))))))))))))))
  where
    halves : (c : ℕ) → Word c → (c % 65536 < 2 ^ 16) × (c / 65536 < 2 ^ 16)
    halves c w = (mod-lt c (omega arith), (div-lt_iff_lt-mul {k = 65536} {x = c} {y = 65536} (omega arith)).1 w)

impossible : {A : Type 0} → false ≡ true → A
impossible h = absurd (let z : ◌≡◌ {A = ℕ} 0 1 = cc in omega arith)

-- of a cell that passes the test of a tag's fields
understood : (text : List ℕ) (origins bytes tables : ℕ) (c : Cell) (tag : Tag) (reader : Reader) → Understands c.tag tag reader → Words c
    → fields_ok origins bytes tables c tag ≡ true → float_ok c ≡ true → Says text bytes tables (reader text c) c
understood text origins bytes tables c unknown reader u w f g = impossible f
understood text origins bytes tables c not_carried reader u w f g = impossible f
understood text origins bytes tables c (carried n fa fb fc) reader u w f g =
    let zabc : ltb c.origin origins && (fa_ok && (fb_ok && fc_ok)) ≡ true = and_right (ltb c.flag n) _ f in
    let abc : fa_ok && (fb_ok && fc_ok) ≡ true = and_right (ltb c.origin origins) _ zabc in
    let bc : fb_ok && fc_ok ≡ true = and_right fa_ok _ abc in
    u c.origin text bytes tables c.flag c.a c.b c.c
    (record {
      flag_ok = ltb-true c.flag n (and_left (ltb c.flag n) _ f);
      a_ok = holds bytes tables c.flag fa c.a (and_left fa_ok _ abc);
      b_ok = holds bytes tables c.flag fb c.b (and_left fb_ok _ bc);
      c_ok = holds bytes tables c.flag fc c.c (and_right fb_ok _ bc);
      a_word = w.a_word;
      b_word = w.b_word;
      c_word = w.c_word;
    })
    g
  where
    fa_ok : Bool
    fa_ok = field_ok bytes tables c.flag fa c.a

    fb_ok : Bool
    fb_ok = field_ok bytes tables c.flag fb c.b

    fc_ok : Bool
    fc_ok = field_ok bytes tables c.flag fc c.c

-- A cell that passes its test says a content, and is the cell of that content.
pub says : (text : List ℕ) (origins bytes tables : ℕ) (c : Cell) → Words c → cell_ok origins bytes tables c ≡ true → Says text bytes tables (content_of text c) c
unfolding cell_ok tag_of content_of
says text origins bytes tables c w h =
    let tag = get_or tags c.tag unknown in
    let reader : Reader = get_or readers c.tag (λ text c. none) in
    let e : 0 + c.tag ≡ c.tag = omega arith in
    understood text origins bytes tables c tag reader (subst (λ (t : ℕ). Understands t tag reader) e (tag_row all_rows c.tag))
    w (and_left (fields_ok origins bytes tables c tag) (float_ok c) h) (and_right (fields_ok origins bytes tables c tag) (float_ok c) h)

-- ---- origins

-- the origin of a cell that passes the test of a tag's fields
fields_origin : (origins bytes tables : ℕ) (c : Cell) (tag : Tag) → fields_ok origins bytes tables c tag ≡ true → c.origin < origins
fields_origin origins bytes tables c unknown h = impossible h
fields_origin origins bytes tables c not_carried h = impossible h
fields_origin origins bytes tables c (carried n fa fb fc) h =
    ltb-true c.origin origins (and_left (ltb c.origin origins) _ (and_right (ltb c.flag n) _ h))

-- A cell that passes its test has one of the sheet's origins.
pub origin_below : (origins bytes tables : ℕ) (c : Cell) → cell_ok origins bytes tables c ≡ true → c.origin < origins
unfolding cell_ok tag_of
origin_below origins bytes tables c h =
    let tag = get_or tags c.tag unknown in
    fields_origin origins bytes tables c tag (and_left (fields_ok origins bytes tables c tag) (float_ok c) h)

fields_marked : (few many bytes tables og : ℕ) (c : Cell) (tag : Tag) → og < many → fields_ok few bytes tables c tag ≡ true → fields_ok many bytes tables (marked og c) tag ≡ true
fields_marked few many bytes tables og c unknown b h = impossible h
fields_marked few many bytes tables og c not_carried b h = impossible h
fields_marked few many bytes tables og c (carried n fa fb fc) b h =
    and_true (ltb c.flag n) _ (and_left (ltb c.flag n) _ h)
    (and_true (ltb og many) _ (lt-ltb og many b) (and_right (ltb c.origin few) _ (and_right (ltb c.flag n) _ h)))

-- A cell that passes its test passes it with any other origin, in a sheet that has this one.
pub ok_marked : (few many bytes tables og : ℕ) (c : Cell) → og < many → cell_ok few bytes tables c ≡ true → cell_ok many bytes tables (marked og c) ≡ true
unfolding cell_ok tag_of
ok_marked few many bytes tables og c b h =
    let tag = get_or tags c.tag unknown in
    and_true (fields_ok many bytes tables (marked og c) tag) (float_ok c)
    (fields_marked few many bytes tables og c tag b (and_left (fields_ok few bytes tables c tag) (float_ok c) h))
    (and_right (fields_ok few bytes tables c tag) (float_ok c) h)
