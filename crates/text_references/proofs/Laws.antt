-- Which tags refer to text, and the references of records and cells one after the other.
-- Assumes nothing.
use Prim.Native.Nat.{ℕ, zero, suc, ◌+◌, ◌*◌, ◌≤◌, ◌<◌}
use native.Mathlib.Omega.{arith}
use native.Mathlib.Numerals.{add-one}
use borrow.Author.Tests.{eqb-true, eqb-false, ne_eqb, ltb-true, ltb-false}
use mathlib.Core.Path.{◌≡◌, refl, sym, ap, ap₂, ◌∙◌, subst}
use mathlib.Core.Logic.{◌≢◌}
use mathlib.Core.Bool.{Bool, true, false, cond}
use mathlib.Core.List.{List, [], ◌∷◌, ◌++◌, map, append_assoc, append-nil}
use mathlib.Core.Option.{Option, none, some}
use lib.Dec.{leb, ltb, eqb, leb-zero}
use lib.ListN.{length, take, get_or, set, length-append, get_or-map, get_or-eq_default}
use lib.Seq.{take-suc-set}
use Rattle.sql.specs.Plan.{up_to}
use Rattle.sheet.specs.Bytes.{byte, word}
use Rattle.sheet.specs.Parts.{tables_at, columns_at, cells_at, table_count, column_count, cell_count}
use Rattle.sheet.specs.Cell.{Cell, cell_from, Field, unused, any, bit, table, text, small, Tag, unknown, not_carried, carried, tags, tag_of}
use Rattle.compact.specs.Slots.{Slot, number, reference, references, field_slot, field_slots, record_slots, cell_slots, in_each, slots}
use Rattle.layout.specs.Layout.{Laid, IsCell}
use Rattle.layout.specs.declared.Parts.{Parts}
use Rattle.layout.specs.declared.Cell as Code
use Rattle.text_references.specs.Asks.{asks, asks_a, asks_b, asks_c, if_refers, slot_of, Fields, Listed}
use Rattle.text_references.specs.declared.Slot as Field

-- ---- tags

-- the flag from which on a field is a reference
abbrev threshold : Field → Option ℕ
threshold unused = none
threshold any = none
threshold bit = none
threshold table = none
threshold (text k) = some k
threshold (small k) = none

abbrev of_tag : (Field → Field → Field → Option ℕ) → Tag → Option ℕ
of_tag f unknown = none
of_tag f not_carried = none
of_tag f (carried flags a b c) = f a b c

abbrev a_threshold : Tag → Option ℕ
a_threshold = of_tag (λ a b c. threshold a)

abbrev b_threshold : Tag → Option ℕ
b_threshold = of_tag (λ a b c. threshold b)

abbrev c_threshold : Tag → Option ℕ
c_threshold = of_tag (λ a b c. threshold c)

abbrev pub reached : Option ℕ → ℕ → Bool
reached none flag = false
reached (some k) flag = leb k flag

asks_reached : (x : Field) (flag : ℕ) → asks x flag ≡ reached (threshold x) flag
asks_reached unused flag = refl
asks_reached any flag = refl
asks_reached bit flag = refl
asks_reached table flag = refl
asks_reached (text k) flag = refl
asks_reached (small k) flag = refl

a_reached : (t : Tag) (flag : ℕ) → asks_a t flag ≡ reached (a_threshold t) flag
a_reached unknown flag = refl
a_reached not_carried flag = refl
a_reached (carried flags a b c) flag = asks_reached a flag

b_reached : (t : Tag) (flag : ℕ) → asks_b t flag ≡ reached (b_threshold t) flag
b_reached unknown flag = refl
b_reached not_carried flag = refl
b_reached (carried flags a b c) flag = asks_reached b flag

c_reached : (t : Tag) (flag : ℕ) → asks_c t flag ≡ reached (c_threshold t) flag
c_reached unknown flag = refl
c_reached not_carried flag = refl
c_reached (carried flags a b c) flag = asks_reached c flag

-- the same by the tag's number
abbrev pub a_by_number : ℕ → Option ℕ
a_by_number t = cond (eqb t 5) (some 0) (cond (eqb t 40) (some 1) (cond (eqb t 41) (some 1) none))

abbrev pub b_by_number : ℕ → Option ℕ
b_by_number t =
    cond (eqb t 40) (some 2) (cond (eqb t 41) (some 2) (cond (eqb t 53) (some 1) (cond (eqb t 54) (some 1) (cond (eqb t 62) (some 2) none))))

abbrev c_by_number : ℕ → Option ℕ
c_by_number t = none

a_table : map a_threshold tags ≡ map a_by_number (up_to 0 64)
a_table = refl

b_table : map b_threshold tags ≡ map b_by_number (up_to 0 64)
b_table = refl

c_table : map c_threshold tags ≡ map c_by_number (up_to 0 64)
c_table = refl

getD_up_to : {A : Type 0} (f : ℕ → A) (i n t : ℕ) (d : A) → t < n → get_or (map f (up_to i n)) t d ≡ f (i + t)
getD_up_to f i zero t d h = absurd (omega arith)
getD_up_to f i (suc n) zero d h = let e : i ≡ i + 0 = omega arith in ap f e
getD_up_to f i (suc n) (suc t) d h = let e : suc i + t ≡ i + suc t = omega arith in getD_up_to f (suc i) n t d (omega arith) ∙ ap f e

by_number : (g : Tag → Option ℕ) (f : ℕ → Option ℕ) → g unknown ≡ none → map g tags ≡ map f (up_to 0 64) → ((t : ℕ) → 64 ≤ t → f t ≡ none) → (t : ℕ) → g (tag_of t) ≡ f t
unfolding tag_of
by_number g f z e h t = go (ltb t 64) refl
  where
    go : (b : Bool) → ltb t 64 ≡ b → g (get_or tags t unknown) ≡ f t
    go true l =
        sym (get_or-map g tags t unknown) ∙ ap (λ (x : List (Option ℕ)). get_or x t (g unknown)) e ∙ getD_up_to f 0 64 t (g unknown) (ltb-true t 64 l)
        ∙ (let i : 0 + t ≡ t = omega arith in ap f i)
    go false l = ap g (get_or-eq_default tags unknown {n = t} (ltb-false t 64 l)) ∙ (z ∙ sym (h t (ltb-false t 64 l)))

if_not : {A : Type 0} (t k : ℕ) (x y : A) → t ≢ k → cond (eqb t k) x y ≡ y
if_not t k x y ne = ap (λ (b : Bool). cond b x y) (ne_eqb t k ne)

pub a_none : (t : ℕ) → t ≢ 5 → t ≢ 40 → t ≢ 41 → a_by_number t ≡ none
a_none t p q r = if_not t 5 (some 0) (cond (eqb t 40) (some 1) (cond (eqb t 41) (some 1) none)) p ∙ if_not t 40 (some 1) (cond (eqb t 41) (some 1) none) q ∙ if_not t 41 (some 1) none r

pub b_none : (t : ℕ) → t ≢ 40 → t ≢ 41 → t ≢ 53 → t ≢ 54 → t ≢ 62 → b_by_number t ≡ none
b_none t p q r u v =
    if_not t 40 (some 2) (cond (eqb t 41) (some 2) (cond (eqb t 53) (some 1) (cond (eqb t 54) (some 1) (cond (eqb t 62) (some 2) none)))) p
    ∙ if_not t 41 (some 2) (cond (eqb t 53) (some 1) (cond (eqb t 54) (some 1) (cond (eqb t 62) (some 2) none))) q
    ∙ if_not t 53 (some 1) (cond (eqb t 54) (some 1) (cond (eqb t 62) (some 2) none)) r ∙ if_not t 54 (some 1) (cond (eqb t 62) (some 2) none) u ∙ if_not t 62 (some 2) none v

-- a Label or an Item
pub a_label : (t : ℕ) → 40 ≤ t → t < 42 → a_by_number t ≡ some 1
a_label t h k = go (eqb t 40) refl
  where
    go : (b : Bool) → eqb t 40 ≡ b → a_by_number t ≡ some 1
    go true e = ap a_by_number (eqb-true t 40 e)
    go false e = let q : t ≡ 41 = omega (arith, eqb-false t 40 e) in ap a_by_number q

pub b_label : (t : ℕ) → 40 ≤ t → t < 42 → b_by_number t ≡ some 2
b_label t h k = go (eqb t 40) refl
  where
    go : (b : Bool) → eqb t 40 ≡ b → b_by_number t ≡ some 2
    go true e = ap b_by_number (eqb-true t 40 e)
    go false e = let q : t ≡ 41 = omega (arith, eqb-false t 40 e) in ap b_by_number q

-- a lookup
pub b_lookup : (t : ℕ) → 53 ≤ t → t < 55 → b_by_number t ≡ some 1
b_lookup t h k = go (eqb t 53) refl
  where
    go : (b : Bool) → eqb t 53 ≡ b → b_by_number t ≡ some 1
    go true e = ap b_by_number (eqb-true t 53 e)
    go false e = let q : t ≡ 54 = omega (arith, eqb-false t 53 e) in ap b_by_number q

a_is : (t : ℕ) → a_threshold (tag_of t) ≡ a_by_number t
a_is = by_number a_threshold a_by_number refl a_table (λ t h. a_none t (omega arith) (omega arith) (omega arith))

b_is : (t : ℕ) → b_threshold (tag_of t) ≡ b_by_number t
b_is = by_number b_threshold b_by_number refl b_table (λ t h. b_none t (omega arith) (omega arith) (omega arith) (omega arith) (omega arith))

c_is : (t : ℕ) → c_threshold (tag_of t) ≡ none
c_is = by_number c_threshold c_by_number refl c_table (λ t h. refl)

-- A tag's answer, by its number and by what that says.
pub a_asks : (t flag : ℕ) (o : Option ℕ) → a_by_number t ≡ o → reached o flag ≡ asks_a (tag_of t) flag
a_asks t flag o e = sym (a_reached (tag_of t) flag ∙ ap (λ (x : Option ℕ). reached x flag) (a_is t ∙ e))

pub b_asks : (t flag : ℕ) (o : Option ℕ) → b_by_number t ≡ o → reached o flag ≡ asks_b (tag_of t) flag
b_asks t flag o e = sym (b_reached (tag_of t) flag ∙ ap (λ (x : Option ℕ). reached x flag) (b_is t ∙ e))

pub c_never : (t flag : ℕ) → asks_c (tag_of t) flag ≡ false
c_never t flag = c_reached (tag_of t) flag ∙ ap (λ (x : Option ℕ). reached x flag) (c_is t)

pub always : (flag : ℕ) → true ≡ leb 0 flag
always flag = sym (leb-zero flag)

-- ---- a cell's words

field_asks : (flag : ℕ) (x : Field) (v : ℕ) → field_slot flag x v ≡ cond (asks x flag) (reference v) (number v)
field_asks flag unused v = refl
field_asks flag any v = refl
field_asks flag bit v = refl
field_asks flag table v = refl
field_asks flag (text k) v = refl
field_asks flag (small k) v = refl

pub fields_ask : (k : Cell) (t : Tag)
    → field_slots k t ≡ cond (asks_a t k.flag) (reference k.a) (number k.a) ∷ cond (asks_b t k.flag) (reference k.b) (number k.b) ∷ cond (asks_c t k.flag) (reference k.c) (number k.c) ∷ []
fields_ask k unknown = refl
fields_ask k not_carried = refl
fields_ask k (carried flags x y z) =
    let p = field_asks k.flag x k.a in
    let q = field_asks k.flag y k.b in
    let r = field_asks k.flag z k.c in
    cc

-- The cell's words: c is never a reference.
pub cell_slots_are : (s : List ℕ) (i : ℕ)
    → cell_slots s i
    ≡ number (word s i) ∷ (if_refers (asks_a (tag_of (byte s i)) (byte s (i + 1))) (word s (i + 4)) ++ (if_refers (asks_b (tag_of (byte s i)) (byte s (i + 1))) (word s (i + 8)) ++ (number (word s (i + 12)) ∷ [])))
unfolding cell_slots
cell_slots_are s i =
    let k = cell_from s i in
    let t = tag_of (byte s i) in
    let never : cond (asks_c t k.flag) (reference k.c) (number k.c) ≡ number k.c = ap (λ (b : Bool). cond b (reference k.c) (number k.c)) (c_never (byte s i) k.flag) in
    ap (λ (l : List Slot). number (word s i) ∷ l) (fields_ask k t)
    ∙ ap (λ (x : Slot). number (word s i) ∷ cond (asks_a t k.flag) (reference k.a) (number k.a) ∷ cond (asks_b t k.flag) (reference k.b) (number k.b) ∷ x ∷ []) never

-- ---- references one after the other

pub references_append : (xs ys : List Slot) → references (xs ++ ys) ≡ references xs ++ references ys
references_append [] ys = refl
references_append (number v ∷ xs) ys = references_append xs ys
references_append (reference r ∷ xs) ys = ap (λ (l : List ℕ). r ∷ l) (references_append xs ys)

pub listed_none : (refs : List ℕ) (from : ℕ) → Listed [] refs from 0 refs from
listed_none refs from = record { is = sym (append-nil (take from refs)); long = omega arith; few = omega arith }

pub listed_then : {xs ys : List Slot} {refs refs₁ refs₂ : List ℕ} {from i r m k : ℕ} → Listed xs refs from m refs₁ i → Listed ys refs₁ i k refs₂ r → Listed (xs ++ ys) refs from (m + k) refs₂ r
listed_then {xs} {ys} {refs} {refs₁} {refs₂} {from} a b =
    record {
      is = b.is ∙ ap (λ (l : List ℕ). l ++ references ys) a.is ∙ append_assoc (take from refs) (references xs) (references ys)
          ∙ ap (λ (l : List ℕ). take from refs ++ l) (sym (references_append xs ys));
      long = omega (arith, a.long, b.long, ap length (references_append xs ys), length-append (references xs) (references ys));
      few = omega (arith, a.few, b.few);
    }

pub listed_as : {xs ys : List Slot} {refs refs' : List ℕ} {from m k r : ℕ} → references xs ≡ references ys → m ≤ k → Listed xs refs from m refs' r → Listed ys refs from k refs' r
listed_as {xs} {ys} {refs} {refs'} {from} e l a =
    record { is = a.is ∙ ap (λ (x : List ℕ). take from refs ++ x) e; long = a.long ∙ ap (λ (x : List ℕ). from + length x) e; few = omega (arith, a.few) }

pub pushed : (refs : List ℕ) (j v : ℕ) → j + 1 ≤ length refs → Listed (if_refers true v) refs j 1 (set refs j v) (j + 1)
pushed refs j v h =
    record { is = ap (λ (k : ℕ). take k (set refs j v)) (add-one j) ∙ take-suc-set refs j v (omega arith); long = refl; few = omega arith }

pub not_pushed : (refs : List ℕ) (j v : ℕ) → Listed (if_refers false v) refs j 1 refs j
not_pushed refs j v = record { is = sym (append-nil (take j refs)); long = omega arith; few = omega arith }

-- one more record or cell at the end
pub in_each_last : (g : ℕ → List Slot) (at i : ℕ) → in_each g at (i + 1) ≡ in_each g at i ++ g (at + i * 16)
in_each_last g at i = ap (in_each g at) (add-one i) ∙ go at i
  where
    go : (at i : ℕ) → in_each g at (suc i) ≡ in_each g at i ++ g (at + i * 16)
    go at zero = let e : at ≡ at + 0 * 16 = omega arith in append-nil (g at) ∙ ap g e
    go at (suc i) =
        let e : at + 16 + i * 16 ≡ at + suc i * 16 = omega arith in
        ap (λ (l : List Slot). g at ++ l) (go (at + 16) i ∙ ap (λ (p : ℕ). in_each g (at + 16) i ++ g p) e) ∙ sym (append_assoc (g at) (in_each g (at + 16) i) (g (at + suc i * 16)))

pub in_each_join : (g : ℕ → List Slot) (at at' m n : ℕ) → at' ≡ at + m * 16 → in_each g at m ++ in_each g at' n ≡ in_each g at (m + n)
in_each_join g at at' zero n e = let f : at' ≡ at = omega arith in let z : n ≡ 0 + n = omega arith in ap₂ (in_each g) f z
in_each_join g at at' (suc m) n e =
    let z : suc (m + n) ≡ suc m + n = omega arith in
    append_assoc (g at) (in_each g (at + 16) m) (in_each g at' n) ∙ ap (λ (l : List Slot). g at ++ l) (in_each_join g (at + 16) at' m n (omega arith)) ∙ ap (in_each g at) z

pub listed_record : (s refs : List ℕ) (p j v : ℕ) → v ≡ word s p → j + 1 ≤ length refs → Listed (record_slots s p) refs j 1 (set refs j v) (j + 1)
listed_record s refs p j v e h = listed_as (ap (λ (x : ℕ). x ∷ []) e) (omega arith) (pushed refs j v h)

-- What fields a and b of a cell are, by its bytes.
pub fields_from : (s : List ℕ) (p : ℕ) (k : Code.Cell) {a b : Field.Slot} → IsCell (cell_from s p) k → Fields k a b
    → (slot_of a ∷ [] ≡ if_refers (asks_a (tag_of (byte s p)) (byte s (p + 1))) (word s (p + 4))) × (slot_of b ∷ [] ≡ if_refers (asks_b (tag_of (byte s p)) (byte s (p + 1))) (word s (p + 8)))
fields_from s p k c f =
    let is = c.is in
    let tag : k.tag ≡ byte s p = ap (λ (m : Cell). m.tag) is in
    let flag : k.flag ≡ byte s (p + 1) = ap (λ (m : Cell). m.flag) is in
    let va : k.a ≡ word s (p + 4) = ap (λ (m : Cell). m.a) is in
    let vb : k.b ≡ word s (p + 8) = ap (λ (m : Cell). m.b) is in (
      f.a_is ∙ ap₂ if_refers (ap₂ (λ (t g : ℕ). asks_a (tag_of t) g) tag flag) va,
      f.b_is ∙ ap₂ if_refers (ap₂ (λ (t g : ℕ). asks_b (tag_of t) g) tag flag) vb,
    )

pub listed_cell : (s : List ℕ) (p : ℕ) (k : Code.Cell) {refs refs₁ refs₂ : List ℕ} {j i r : ℕ} {a b : Field.Slot} → IsCell (cell_from s p) k → Fields k a b
    → Listed (slot_of a ∷ []) refs j 1 refs₁ i → Listed (slot_of b ∷ []) refs₁ i 1 refs₂ r → Listed (cell_slots s p) refs j 2 refs₂ r
listed_cell s p k {a = a} {b = b} c f x y =
    let (fa, fb) = fields_from s p k c f in
    let first = if_refers (asks_a (tag_of (byte s p)) (byte s (p + 1))) (word s (p + 4)) in
    let second = if_refers (asks_b (tag_of (byte s p)) (byte s (p + 1))) (word s (p + 8)) in
    let e : references ((slot_of a ∷ []) ++ (slot_of b ∷ [])) ≡ references (cell_slots s p) =
    ap₂ (λ (u v : List Slot). references (u ++ v)) fa fb ∙ references_append first second ∙ ap (λ (l : List ℕ). references first ++ l) (sym (append-nil (references second)) ∙ sym (references_append second (number (word s (p + 12)) ∷ [])))
    ∙ sym (references_append first (second ++ (number (word s (p + 12)) ∷ []))) ∙ sym (ap references (cell_slots_are s p)) in
    listed_as e (omega arith) (listed_then x y)

-- all of a sheet
pub listed_all : (s : List ℕ) (p : Parts) {refs refs₁ refs₂ : List ℕ} {i r : ℕ} → Laid s p
    → Listed (in_each (record_slots s) p.tables.at (p.tables.count + p.columns.count)) refs 0 (p.tables.count + p.columns.count) refs₁ i
    → Listed (in_each (cell_slots s) p.cells.at p.cells.count) refs₁ i (p.cells.count * 2) refs₂ r → Listed (slots s) refs 0 4368 refs₂ r
unfolding slots
listed_all s p l a b =
    let e : slots s ≡ in_each (record_slots s) p.tables.at (p.tables.count + p.columns.count) ++ in_each (cell_slots s) p.cells.at p.cells.count =
    (let is = l.is in
    let front : in_each (record_slots s) (tables_at s) (table_count s) ++ in_each (record_slots s) (columns_at s) (column_count s)
    ≡ in_each (record_slots s) (tables_at s) (table_count s + column_count s) =
    in_each_join (record_slots s) (tables_at s) (columns_at s) (table_count s) (column_count s) (sym (subst (λ (q : Parts). q.tables.at + q.tables.count * 16 ≡ q.columns.at) is l.tables_end)) in
    sym (append_assoc (in_each (record_slots s) (tables_at s) (table_count s)) (in_each (record_slots s) (columns_at s) (column_count s)) (in_each (cell_slots s) (cells_at s) (cell_count s)))
    ∙ ap (λ (x : List Slot). x ++ in_each (cell_slots s) (cells_at s) (cell_count s)) front
    ∙ ap (λ (q : Parts). in_each (record_slots s) q.tables.at (q.tables.count + q.columns.count) ++ in_each (cell_slots s) q.cells.at q.cells.count) (sym is)) in
    listed_as (ap references (sym e)) (omega (arith, l.tables_few, l.columns_few, l.cells_few)) (listed_then a b)

-- ---- the loops

pub records_on : (s refs₀ refs : List ℕ) (at i v : ℕ) → Listed (in_each (record_slots s) at i) refs₀ 0 i refs i → v ≡ word s (at + i * 16) → i + 1 ≤ length refs
    → Listed (in_each (record_slots s) at (i + 1)) refs₀ 0 (i + 1) (set refs i v) (i + 1)
records_on s refs₀ refs at i v l e h =
    subst (λ (xs : List Slot). Listed xs refs₀ 0 (i + 1) (set refs i v) (i + 1)) (sym (in_each_last (record_slots s) at i)) (listed_then l (listed_record s refs (at + i * 16) i v e h))

pub cells_on : (s : List ℕ) (at i : ℕ) {refs₀ refs refs' : List ℕ} {from j r : ℕ} → Listed (in_each (cell_slots s) at i) refs₀ from (i * 2) refs j → Listed (cell_slots s (at + i * 16)) refs j 2 refs' r
    → Listed (in_each (cell_slots s) at (i + 1)) refs₀ from ((i + 1) * 2) refs' r
cells_on s at i l x = listed_as (ap references (sym (in_each_last (cell_slots s) at i))) (omega arith) (listed_then l x)

pub listed_to : (g : ℕ → List Slot) (at i n m k : ℕ) {refs refs' : List ℕ} {from r : ℕ} → i ≡ n → m ≤ k → Listed (in_each g at i) refs from m refs' r → Listed (in_each g at n) refs from k refs' r
listed_to g at i n m k e l a = listed_as (ap (λ (j : ℕ). references (in_each g at j)) e) l a
