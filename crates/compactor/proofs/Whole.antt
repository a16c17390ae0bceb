-- The whole operation.
-- Assumes nothing.
use Prim.Native.Nat.{ℕ, zero, suc, ◌+◌, ◌*◌, ◌≤◌, ◌<◌}
use native.Mathlib.Omega.{arith}
use borrow.Author.Tests.{le-leb, lt-leb}
use mathlib.Core.Path.{◌≡◌, refl, sym, ap, ap₂, ◌∙◌, subst}
use mathlib.Core.Bool.{Bool, true, false, cond}
use mathlib.Core.List.{List, [], ◌∷◌, ◌++◌, map, append_assoc}
use lib.Dec.{leb}
use lib.ListN.{length, take, drop, length-append, take-append-drop}
use Rattle.value.specs.Meaning.{bytes_at}
use Rattle.sql.specs.Answer.{Answer, done, refused}
use Rattle.sql.specs.Plan.{Node, columns, node_size}
use Rattle.sheet.specs.Parts.{tables_at, columns_at, cells_at, edition, table_count, column_count, cell_count}
use Rattle.sheet.specs.Check.{Numbers, text, schema, plan, check, checked}
use Rattle.sheet.specs.Operations as Sheet
use Rattle.sheet.specs.Operations.{refuse}
use Rattle.sheet_laws.specs.Fits.{All}
use Rattle.sheet_laws.specs.Plan.{Bytes}
use Rattle.sheet_laws.proofs.Plan.{parts_of, plan_size}
use Rattle.sheet_laws.specs.Accepted.{accepted}
use Rattle.sound.specs.Refusals.{RefusedBy, FromTo}
use Rattle.sound.proofs.Refusals.{plan_refused}
use Rattle.compact.specs.Strings.{kept, joined, reference_to}
use Rattle.compact.specs.Slots.{Slot, references, redirect, record_slots, cell_slots, in_each, slots, slot_bytes}
use Rattle.compact.specs.Compact.{strings, kept_strings, kept_text, moved, trailer_with, compacted, handed_out, compact}
use Rattle.compact.proofs.Blocks.{slot_bytes_append, length_slot_bytes}
use Rattle.compact.proofs.Moved.{length_d}
use Rattle.layout.specs.Layout.{Whole, Laid}
use Rattle.layout.specs.declared.Parts.{Parts}
use Rattle.std.specs.Prelude.{Result, Ok, Err}
use Rattle.checker.specs.Checker.{answered}
use Rattle.checker.specs.Refusals.{number_of, refusal_of}
use Rattle.checker.specs.declared.Counts.{Counts}
use Rattle.checker.specs.declared.refusals.Refusal.{Refusal}
use Rattle.checker.specs.declared.refusals.Refusal.TheVariants as Causes
use Rattle.checker.specs.declared.refusals.Refusal.TheVariants.{NoRoom, OutputTooShort}
use Rattle.encode.specs.Encode.{written, trailer_at}
use Rattle.encode.proofs.Written.{chain}
use Rattle.gather.specs.Gather.{Inside, held, Gathers}
use Rattle.gather.specs.declared.Total.{Total}
use Rattle.gather.specs.declared.Kept.{Kept}
use Rattle.text_references.specs.Asks.{Listed}
use Rattle.text_references.proofs.Laws.{in_each_join}
use Rattle.compactor.specs.Compactor.{fill, Ready, Writes, Counted, Runs, returned}
use Rattle.compactor.proofs.Laws.{fill_append, fill_redirect, length_fill, length_cells}
use Rattle.compactor.proofs.Inside.{InText, references_inside, inside_sheet, same_bytes}

-- ---- the strings are those of the definition

map_same : (f g : ℕ → ℕ) (P : ℕ → Type 0) → ((r : ℕ) → P r → f r ≡ g r) → (rs : List ℕ) → All P rs → map f rs ≡ map g rs
map_same f g P h [] a = refl
map_same f g P h (r ∷ rs) a = ap₂ ◌∷◌ (h r a.0) (map_same f g P h rs a.1)

map_same_lists : (f g : ℕ → List ℕ) (P : ℕ → Type 0) → ((r : ℕ) → P r → f r ≡ g r) → (rs : List ℕ) → All P rs → map f rs ≡ map g rs
map_same_lists f g P h [] a = refl
map_same_lists f g P h (r ∷ rs) a = ap₂ ◌∷◌ (h r a.0) (map_same_lists f g P h rs a.1)

module _ (s : List ℕ) (b : Bytes s) (n : Node) (h : plan s ≡ done n) where
  abbrev rs : List ℕ
  rs = references (slots s)

  in_text : All (InText s) rs
  in_text = references_inside s b n h

  text_fits : tables_at s ≤ length s
  text_fits = let p = parts_of (accepted s n h) in omega (arith, p.tables, p.columns, p.cells)

  pub all_inside : All (Inside s) rs
  all_inside = inside_sheet s rs text_fits in_text

  strings_are : map (bytes_at s) rs ≡ strings s
  unfolding strings
  strings_are = map_same_lists (bytes_at s) (bytes_at (text s)) (InText s) (λ r t. same_bytes s r text_fits t) rs in_text

  pub kept_are : kept (map (bytes_at s) rs) ≡ kept_strings s
  unfolding kept_strings
  kept_are = ap kept strings_are

  pub text_is : joined (kept (map (bytes_at s) rs)) ≡ kept_text s
  unfolding kept_text
  text_is = ap joined kept_are

  pub moved_are : map (λ r. reference_to (kept (map (bytes_at s) rs)) (bytes_at s r)) rs ≡ map (moved s) rs
  unfolding moved
  moved_are =
      map_same (λ r. reference_to (kept (map (bytes_at s) rs)) (bytes_at s r)) (moved s) (InText s)
      (λ r t. ap₂ reference_to kept_are (same_bytes s r text_fits t)) rs in_text

  -- ---- the sheet that is written

  module _ (p : Parts) (l : Laid s p) (bytes n_columns : ℕ) (ks : List Kept) (fresh : List ℕ) (g : Ready s bytes n_columns ks fresh) (short : length (kept_text s) ≤ 8192) where
    abbrev records : ℕ
    records = p.tables.count + p.columns.count

    slots_are : in_each (record_slots s) p.tables.at records ++ in_each (cell_slots s) p.cells.at p.cells.count ≡ slots s
    unfolding slots
    slots_are =
        let is = l.is in
        let front : in_each (record_slots s) (tables_at s) (table_count s) ++ in_each (record_slots s) (columns_at s) (column_count s) ≡ in_each (record_slots s) (tables_at s) (table_count s + column_count s) =
        in_each_join (record_slots s) (tables_at s) (columns_at s) (table_count s) (column_count s) (sym (subst (λ (q : Parts). q.tables.at + q.tables.count * 16 ≡ q.columns.at) is l.tables_end)) in
        ap (λ (q : Parts). in_each (record_slots s) q.tables.at (q.tables.count + q.columns.count) ++ in_each (cell_slots s) q.cells.at q.cells.count) is
        ∙ ap (λ (x : List Slot). x ++ in_each (cell_slots s) (cells_at s) (cell_count s)) (sym front)
        ∙ append_assoc (in_each (record_slots s) (tables_at s) (table_count s)) (in_each (record_slots s) (columns_at s) (column_count s)) (in_each (cell_slots s) (cells_at s) (cell_count s))

    filled : fill (slots s) fresh ≡ map (redirect (moved s)) (slots s)
    filled =
        ap (fill (slots s)) (sym (take-append-drop (length rs) fresh) ∙ ap (λ (x : List ℕ). x ++ drop (length rs) fresh) (g.refers ∙ moved_are)) ∙ fill_redirect (moved s) (slots s) (drop (length rs) fresh)

    counts : (p.tables.count ≡ table_count s) × ((p.columns.count ≡ column_count s) × (p.cells.count ≡ cell_count s))
    counts = (ap (λ (q : Parts). q.tables.count) l.is, (ap (λ (q : Parts). q.columns.count) l.is, ap (λ (q : Parts). q.cells.count) l.is))

    pub needed_is : bytes + records * 16 + p.cells.count * 16 + 20 ≡ length (compacted s)
    needed_is = omega (arith, g.bytes_are, counts, length_d s b (parts_of (accepted s n h)) short)

    record_refs : (at n : ℕ) → length (references (in_each (record_slots s) at n)) ≡ n
    record_refs at zero = refl
    record_refs at (suc n) = ap suc (record_refs (at + 16) n)

    record_slots_long : (at n : ℕ) → length (in_each (record_slots s) at n) ≡ n * 4
    record_slots_long at zero = refl
    record_slots_long at (suc n) = omega (arith, record_slots_long (at + 16) n)

    pub whole_put : (d d₁ d₂ d₃ d₄ : List ℕ) {a c e edition' r : ℕ} → bytes + records * 16 + p.cells.count * 16 + 20 ≤ length d
        → (a ≡ length (joined (held s ks))) × (d₁ ≡ written d 0 (joined (held s ks)))
        → (c ≡ a + records * 16) × (d₂ ≡ written d₁ a (slot_bytes (fill (in_each (record_slots s) p.tables.at records) fresh)))
        → (e ≡ c + p.cells.count * 16) × (d₃ ≡ written d₂ c (slot_bytes (fill (in_each (cell_slots s) p.cells.at p.cells.count) (drop records fresh))))
        → edition' ≡ edition s
        → (r ≡ e + 20) × (d₄ ≡ written d₃ e (trailer_at a (a + p.tables.count * 16) c edition' (e + 20)))
        → d₄ ≡ compacted s ++ drop (length (compacted s)) d
    unfolding compacted trailer_with
    whole_put d d₁ d₂ d₃ d₄ {a = a} {c = c} {e = e} {edition' = ed} room w0 w1 w2 ee w3 =
        let x = joined (held s ks) in
        let be = g.bytes_are in
        let xe : x ≡ kept_text s = ap joined g.strings ∙ text_is in
        let r = in_each (record_slots s) p.tables.at records in
        let k = in_each (cell_slots s) p.cells.at p.cells.count in
        let sr = slot_bytes (fill r fresh) in
        let sk = slot_bytes (fill k (drop records fresh)) in
        let lr : length sr ≡ records * 16 = length_slot_bytes (fill r fresh) ∙ omega (arith, length_fill r fresh, record_slots_long p.tables.at records) in
        let lk : length sk ≡ p.cells.count * 16 = length_slot_bytes (fill k (drop records fresh)) ∙ omega (arith, length_fill k (drop records fresh), length_cells s p.cells.at p.cells.count) in
        let t = trailer_at a (a + p.tables.count * 16) c ed (e + 20) in
        let n1 = length-append x sr in
        let n2 = length-append (x ++ sr) sk in
        let y1 : d₂ ≡ written d 0 (x ++ sr) = chain d 0 {m = a} x sr (omega arith) (w0.0 ∙ omega arith) w0.1 w1.1 in
        let y2 : d₃ ≡ written d 0 ((x ++ sr) ++ sk) = chain d 0 {m = c} (x ++ sr) sk (omega arith) (omega (arith, w0.0, w1.0, n1, lr)) y1 w2.1 in
        let y3 : d₄ ≡ written d 0 (((x ++ sr) ++ sk) ++ t) = chain d 0 {m = e} ((x ++ sr) ++ sk) t (omega arith) (omega (arith, w0.0, w1.0, w2.0, n1, n2, lr, lk)) y2 w3.1 in
        let body : sr ++ sk ≡ slot_bytes (map (redirect (moved s)) (slots s)) =
        ap (λ (i : ℕ). sr ++ slot_bytes (fill k (drop i fresh))) (sym (record_refs p.tables.at records))
        ∙ sym (slot_bytes_append (fill r fresh) (fill k (drop (length (references r)) fresh))) ∙ ap slot_bytes (sym (fill_append r k fresh))
        ∙ ap (λ (z : List Slot). slot_bytes (fill z fresh)) slots_are ∙ ap slot_bytes filled in
        let ta : a ≡ length (kept_text s) = w0.0 ∙ ap length xe in
        let tb : a + p.tables.count * 16 ≡ length (kept_text s) + table_count s * 16 = omega (arith, ta, counts) in
        let tc : c ≡ length (kept_text s) + table_count s * 16 + column_count s * 16 = omega (arith, ta, w1.0, counts) in
        let te : e + 20 ≡ length (kept_text s) + table_count s * 16 + column_count s * 16 + cell_count s * 16 + 20 = omega (arith, tc, w2.0, counts) in
        let tail : t ≡ trailer_with (length (kept_text s)) (table_count s) (column_count s) (cell_count s) (edition s) = cc (ta, tb, tc, te, ee) in
        let whole : ((x ++ sr) ++ sk) ++ t ≡ compacted s =
        ap (λ (z : List ℕ). z ++ t) (append_assoc x sr sk) ∙ append_assoc x (sr ++ sk) t
        ∙ ap₂ (λ (u v : List ℕ). x ++ (u ++ v)) body tail
        ∙ ap (λ (z : List ℕ). z ++ (slot_bytes (map (redirect (moved s)) (slots s)) ++ trailer_with (length (kept_text s)) (table_count s) (column_count s) (cell_count s) (edition s))) xe in
        let zero_plus : 0 + length (compacted s) ≡ length (compacted s) = omega arith in
        y3 ∙ ap (written d 0) whole ∙ ap (λ (i : ℕ). compacted s ++ drop i d) zero_plus

-- ---- what is answered

pub write_refused : (s out : List ℕ) (needed : ℕ) → needed ≡ length (compacted s) → length out < needed → Writes s out (Err (OutputTooShort needed)) out
write_refused s out needed e l node p =
    let short : leb (length (compacted s)) (length out) ≡ false = lt-leb (length (compacted s)) (length out) (omega arith) in
    ap (λ (k : ℕ). refuse out 15 k) e ∙ sym (ap (Sheet.written s out node (compacted s)) short)

same_node : (s : List ℕ) (m n : Node) → plan s ≡ done m → plan s ≡ done n → m ≡ n
same_node s m n p q = let e : ◌≡◌ {A = Answer Node} (done m) (done n) = sym p ∙ q in cc

pub write_done : (s : List ℕ) → Bytes s → (out out' : List ℕ) (n : Node) (needed cells wide : ℕ) → plan s ≡ done n → needed ≡ length (compacted s) → needed ≤ length out → cells ≡ cell_count s
    → wide ≡ columns (schema s) n → out' ≡ compacted s ++ drop (length (compacted s)) out
    → Writes s out (Ok (needed, record { cells = cells; columns = wide })) out'
write_done s b out out' n needed cells wide p e l c w o node q =
    let same = same_node s n node p q in
    let long : leb (length (compacted s)) (length out) ≡ true = le-leb (length (compacted s)) (length out) (omega arith) in
    let size : cells ≡ node_size node = c ∙ (sym (plan_size s b n p) ∙ ap node_size same) in
    let broad : wide ≡ columns (schema s) node = w ∙ ap (columns (schema s)) same in
    cc (e, size, broad, o, ap (Sheet.written s out node (compacted s)) long)

pub run_refused : (s : List ℕ) → Bytes s → (out : List ℕ) (n : Node) → plan s ≡ done n → 8192 < length (kept_text s) → Runs s out (Err NoRoom) out
unfolding kept_text compacted
run_refused s b out n p l node q =
    let over : leb (length (kept_text s)) 8192 ≡ false = lt-leb (length (kept_text s)) 8192 l in
    sym (ap (λ (t : Bool). cond t (Sheet.written s out node (compacted s) (leb (length (compacted s)) (length out))) (refuse out 14 0)) over)

pub run_written : (s out out' : List ℕ) (a : Result (ℕ × Counts) Refusal) → length (kept_text s) ≤ 8192 → Writes s out a out' → Runs s out a out'
unfolding kept_text compacted
run_written s out out' a l w node q =
    let few : leb (length (kept_text s)) 8192 ≡ true = le-leb (length (kept_text s)) 8192 l in
    w node q ∙ sym (ap (λ (t : Bool). cond t (Sheet.written s out node (compacted s) (leb (length (compacted s)) (length out))) (refuse out 14 0)) few)

-- Every refusal has a number.
some_number : (r : Refusal) → 1 ≤ number_of r
some_number Causes.Pass = omega arith
some_number Causes.Length = omega arith
some_number Causes.Edition = omega arith
some_number Causes.Parts = omega arith
some_number (Causes.Record i) = omega arith
some_number (Causes.Cell i) = omega arith
some_number (Causes.NotCarried i) = omega arith
some_number (Causes.NotOnePlan i) = omega arith
some_number (Causes.OutOfScope i) = omega arith
some_number (Causes.RepeatedTarget i) = omega arith
some_number (Causes.Overflow i) = omega arith
some_number (Causes.DivisionByZero i) = omega arith
some_number (Causes.Mismatch i) = omega arith
some_number Causes.NoRoom = omega arith
some_number (Causes.OutputTooShort needed) = omega arith
some_number Causes.OtherEdition = omega arith

-- What check refuses is refused.
pub compact_refused : (s out : List ℕ) (r : Refusal) → refusal_of r ≡ check s → returned (Err r) out ≡ compact s out
unfolding check compact
compact_refused s out r e = go (plan s) e
  where
    go : (a : Answer Node) → refusal_of r ≡ checked s a → returned (Err r) out ≡ handed_out s out a
    go (done node) g = absurd (omega (arith, some_number r, ap (λ (z : Numbers). z.number) g))
    go (refused number place) g = ap (λ (z : Numbers). record { numbers = z; output = out }) g

-- What it doesn't refuse is a plan with the columns that it counted.
pub counts_of : (s : List ℕ) (c : Counts) → answered (Ok c) ≡ check s → Counted s c.columns
unfolding check
counts_of s c e = go (plan s) refl e (plan_refused s)
  where
    go : (r : Answer Node) → plan s ≡ r → answered (Ok c) ≡ checked s r → RefusedBy (FromTo 2 10) r → Counted s c.columns
    go (done node) p g x = record { node = node; stands_for = p; counts = ap (λ (m : Numbers). m.columns) g }
    go (refused number place) p g x = absurd (omega (arith, x.0, ap (λ (m : Numbers). m.number) g))

pub compact_run : (s out out' : List ℕ) (a : Result (ℕ × Counts) Refusal) (n : Node) → plan s ≡ done n → Runs s out a out' → returned a out' ≡ compact s out
unfolding compact
compact_run s out out' a n p r = r n p ∙ sym (ap (handed_out s out) p)

-- ---- needs of the calls

pub whole_of : (s : List ℕ) (n : Node) → plan s ≡ done n → Whole s
whole_of s n h = let a = accepted s n h in record { length_is = a.length_is; parts_are = a.parts_are }

pub held_bytes : (s : List ℕ) → Bytes s → {bytes n : ℕ} {ks : List Kept} {fresh : List ℕ} → Ready s bytes n ks fresh → length (joined (held s ks)) ≡ length (kept_text s)
held_bytes s b g = ap length (ap joined g.strings ∙ text_is s b g.node g.stands_for)

-- The references listed are those of the sheet.
pub inside_listed : (s : List ℕ) → Bytes s → (n : Node) → plan s ≡ done n → {refs refs' : List ℕ} {r : ℕ} → Listed (slots s) refs 0 4368 refs' r → All (Inside s) (take r refs')
inside_listed s b n h l = subst (All (Inside s)) (sym l.is) (all_inside s b n h)

-- Over 8,192 bytes, by what was gathered.
pub gathered_over : (s : List ℕ) → Bytes s → (n : Node) → plan s ≡ done n → {refs refs' : List ℕ} {r : ℕ} → Listed (slots s) refs 0 4368 refs' r
    → 8192 < length (joined (kept (map (bytes_at s) (take r refs')))) → 8192 < length (kept_text s)
gathered_over s b n h {refs} {refs'} {r} l o =
    let e : length (joined (kept (map (bytes_at s) (take r refs')))) ≡ length (kept_text s) = ap (λ (x : List ℕ). length (joined (kept (map (bytes_at s) x)))) l.is ∙ ap length (text_is s b n h) in
    omega arith

pub gathered_ready : (s : List ℕ) → Bytes s → (w : ℕ) (c : Counted s w) {refs refs' : List ℕ} (buffer : List Kept) (fresh : List ℕ) {r : ℕ} (t : Total) → Listed (slots s) refs 0 4368 refs' r
    → Gathers s (take r refs') buffer fresh t → 4368 ≤ length fresh → Ready s t.bytes w (take t.count buffer) fresh
gathered_ready s b w c buffer fresh t l g long =
    let h = subst (λ (x : List ℕ). Gathers s x buffer fresh t) l.is g in
    record {
      node = c.node;
      stands_for = c.stands_for;
      counts = c.counts;
      inside = h.inside;
      strings = h.strings;
      refers = h.refers;
      bytes_are = h.bytes ∙ ap length (text_is s b c.node c.stands_for);
      short = h.short;
      fresh_long = long;
    }
