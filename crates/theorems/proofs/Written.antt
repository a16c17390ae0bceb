-- The sheet that is written for a plan: its front and its length; and that every element of it is a byte: text and records are the input's, numbers are
-- written as their bytes, and the tag, the flag and the zeros of a cell are small, since the sheet passes the checks.
use Prim.Native.Nat.{ℕ, zero, suc, ◌+◌, ◌*◌, ◌/◌, ◌≤◌, ◌<◌}
use native.Mathlib.Nat.{div-lt_iff_lt-mul, mod-lt, mod-add-div}
use native.Mathlib.Omega.{arith}
use borrow.Author.Tests.{leb-true, ltb-true, eqb-true}
use mathlib.Core.Path.{◌≡◌, refl, sym, ap, ◌∙◌, subst}
use mathlib.Core.Bool.{Bool, true, false, cond}
use mathlib.Core.List.{List, [], ◌∷◌, ◌++◌, append_assoc}
use lib.Dec.{leb, ltb, eqb}
use lib.ListN.{length, take, get_or, length-append}
use lib.Seq.{length-take-le, take_at}
use Rattle.sql.specs.Answer.{done}
use Rattle.sql.specs.Plan.{Node, node_size}
use Rattle.sheet.specs.Bytes.{half, bytes}
use Rattle.sheet.specs.Parts.{edition, tables_at, columns_at, cells_at, table_count, cell_count, record_at}
use Rattle.sheet.specs.Cell.{Cell, cell_from, cell, Tag, unknown, not_carried, carried, tags, tag_of, fields_ok, cell_ok, origins, bad_cell}
use Rattle.sheet.specs.Cells.{cells}
use Rattle.sheet.specs.Check.{plan}
use Rattle.sheet.specs.Write.{cell_bytes, cells_bytes, trailer, sheet_with, write}
use Rattle.sheet_laws.specs.Fits.{All}
use Rattle.sheet_laws.specs.Size.{node_length}
use Rattle.sheet_laws.specs.Content.{and_left, and_right}
use Rattle.sheet_laws.specs.Accepted.{accepted}
use Rattle.sheet_laws.specs.Layout.{none_failing}
use Rattle.sheet_laws.specs.Plan.{Bytes}
use Rattle.sheet_laws.proofs.Plan.{parts_of}
use Rattle.sheet_laws.specs.Tags.{tag_small}
use Rattle.sheet_laws.specs.Bytes.{byte_after, half_after, length_cell_bytes}
use Rattle.rows.specs.Equalities.{all}
use Rattle.sound.specs.Lists.{all_append, get_d_of}

abbrev Byte : ℕ → Type 0
Byte x = x < 256

false_true : {A : Type 0} → false ≡ true → A
false_true h = absurd (let z : ◌≡◌ {A = ℕ} 0 1 = cc in omega arith)

-- ---- a cell that keeps its layout

abbrev Small : Cell → Type 0
Small k = (k.tag < 256) × ((k.flag < 256) × (k.origin < 65536))

-- no tag has more than five flags
abbrev few : Tag → Bool
few unknown = true
few not_carried = true
few (carried flags a b c) = leb flags 5

few_at : (ts : List Tag) (i : ℕ) → all few ts ≡ true → few (get_or ts i unknown) ≡ true
few_at [] i h = refl
few_at (t ∷ ts) zero h = and_left (few t) (all few ts) h
few_at (t ∷ ts) (suc i) h = few_at ts i (and_right (few t) (all few ts) h)

fields_small : (origins bytes tables : ℕ) → origins ≤ 65536 → (k : Cell) (t : Tag) → few t ≡ true → fields_ok origins bytes tables k t ≡ true → (k.flag < 256) × (k.origin < 65536)
fields_small origins bytes tables m k unknown f h = false_true h
fields_small origins bytes tables m k not_carried f h = false_true h
fields_small origins bytes tables m k (carried flags a b c) f h =
    let l = leb-true flags 5 f in
    let g = ltb-true k.flag flags (and_left (ltb k.flag flags) _ h) in
    let z = and_right (ltb k.flag flags) _ h in
    (omega arith, (let o = ltb-true k.origin origins (and_left (ltb k.origin origins) _ z) in omega arith))

cell_small : (origins bytes tables : ℕ) → origins ≤ 65536 → (k : Cell) → cell_ok origins bytes tables k ≡ true → Small k
unfolding cell_ok tag_of
cell_small origins bytes tables m k h =
    let f = and_left (fields_ok origins bytes tables k (get_or tags k.tag unknown)) _ h in
    (omega (arith, tag_small origins bytes tables k f), fields_small origins bytes tables m k (get_or tags k.tag unknown) (few_at tags k.tag refl) f)

-- ---- what is written

bytes_below : (w : ℕ) → All Byte (bytes w)
unfolding bytes
bytes_below w = (mod-lt w (omega arith), (mod-lt (w / 256) (omega arith), (mod-lt (w / 65536) (omega arith), (mod-lt (w / 16777216) (omega arith), tt))))

cell_below : (k : Cell) → Small k → All Byte (cell_bytes k)
unfolding cell_bytes
cell_below k h = (
  h.0,
  (
    h.1.0,
    (
      mod-lt k.origin (omega arith),
      (
        (div-lt_iff_lt-mul {k = 256} {x = k.origin} {y = 256} (omega arith)).1 h.1.1,
        all_append Byte (bytes k.a) (bytes k.b ++ bytes k.c) (bytes_below k.a) (all_append Byte (bytes k.b) (bytes k.c) (bytes_below k.b) (bytes_below k.c)),
      ),
    ),
  ),
)

cells_below : (ks : List Cell) → All Small ks → All Byte (cells_bytes ks)
unfolding cells_bytes
cells_below [] h = tt
cells_below (k ∷ ks) h = all_append Byte (cell_bytes k) (cells_bytes ks) (cell_below k h.0) (cells_below ks h.1)

then_below : (w : ℕ) (l : List ℕ) → All Byte l → All Byte (bytes w ++ l)
then_below w l h = all_append Byte (bytes w) l (bytes_below w) h

trailer_below : (s : List ℕ) (total : ℕ) → All Byte (trailer s total)
unfolding trailer
trailer_below s total =
    let from_edition = then_below (edition s) (bytes total) (bytes_below total) in
    let cells = then_below (cells_at s) (bytes (edition s) ++ bytes total) from_edition in
    then_below (tables_at s) (bytes (columns_at s) ++ (bytes (cells_at s) ++ (bytes (edition s) ++ bytes total)))
    (then_below (columns_at s) (bytes (cells_at s) ++ (bytes (edition s) ++ bytes total)) cells)

front_below : (n : ℕ) (s : List ℕ) → Bytes s → All Byte (take n s)
front_below zero s b = tt
front_below (suc n) [] b = tt
front_below (suc n) (x ∷ s) b = (b 0, front_below n s (λ i. b (suc i)))

-- ---- the cells of a sheet that passes the checks

-- what is read where the cell k was written
first_small : (xs : List ℕ) (k : Cell) (ys : List ℕ) (p : ℕ) → p ≡ length xs → Small (cell_from (xs ++ (cell_bytes k ++ ys)) p) → Small k
unfolding cell_bytes half
first_small xs k ys p e h =
    let zs = cell_bytes k ++ ys in (
      subst Byte (byte_after xs zs p 0 (omega arith)) h.0,
      (
        subst Byte (byte_after xs zs (p + 1) 1 (omega arith)) h.1.0,
        subst (λ (o : ℕ). o < 65536) (half_after xs zs (p + 2) 2 (omega arith) ∙ mod-add-div k.origin 256) h.1.1,
      ),
    )

cells_small : (c : ℕ) (xs : List ℕ) (ks : List Cell) (ys : List ℕ) (i : ℕ) → length xs ≡ record_at c i
    → ((j : ℕ) → i ≤ j → j < i + length ks → Small (cell_from (xs ++ (cells_bytes ks ++ ys)) (record_at c j))) → All Small ks
unfolding cells_bytes
cells_small c xs [] ys i e h = tt
cells_small c xs (k ∷ ks) ys i e h =
    let l : (cell_bytes k ++ cells_bytes ks) ++ ys ≡ cell_bytes k ++ (cells_bytes ks ++ ys) = append_assoc (cell_bytes k) (cells_bytes ks) ys in
    let r : xs ++ ((cell_bytes k ++ cells_bytes ks) ++ ys) ≡ (xs ++ cell_bytes k) ++ (cells_bytes ks ++ ys) =
    ap (λ (z : List ℕ). xs ++ z) l ∙ sym (append_assoc xs (cell_bytes k) (cells_bytes ks ++ ys)) in
    let n : length (xs ++ cell_bytes k) ≡ record_at c (suc i) = length-append xs (cell_bytes k) ∙ omega (arith, length_cell_bytes k) in (
      first_small xs k (cells_bytes ks ++ ys) (record_at c i) (sym e)
          (subst (λ (z : List ℕ). Small (cell_from (xs ++ z) (record_at c i))) l (h i (omega arith) (omega arith))),
      cells_small c (xs ++ cell_bytes k) ks ys (suc i) n
          (λ j a b. subst (λ (z : List ℕ). Small (cell_from z (record_at c j))) r (h j (omega arith) (omega arith))),
    )

length_cells : (ks : List Cell) → length (cells_bytes ks) ≡ 16 * length ks
unfolding cells_bytes
length_cells [] = refl
length_cells (k ∷ ks) = length-append (cell_bytes k) (cells_bytes ks) ∙ omega (arith, length_cell_bytes k, length_cells ks)

few_origins : (s : List ℕ) → origins s ≤ 65536
few_origins s = go (eqb (edition s) 1)
  where
    go : (b : Bool) → cond b 1 65536 ≤ 65536
    go true = omega arith
    go false = omega arith

-- ---- the sheet that is written for the plan m

module _ (s : List ℕ) (n : Node) (h : plan s ≡ done n) (m : Node) where
  abbrev front : List ℕ
  front = take (cells_at s) s

  abbrev ends : List ℕ
  ends = trailer s (cells_at s + 16 * length (cells m) + 20)

  length_front : length front ≡ cells_at s
  length_front = let l = (parts_of (accepted s n h)).cells in length-take-le (cells_at s) s (omega arith)

  pub written_front : take (cells_at s) (write s m) ≡ take (cells_at s) s
  unfolding write sheet_with
  written_front = take_at front (cells_bytes (cells m) ++ ends) (cells_at s) length_front

  pub written_length : length (write s m) ≡ cells_at s + 16 * node_size m + 20
  unfolding write sheet_with trailer bytes
  written_length =
      length-append front (cells_bytes (cells m) ++ ends)
      ∙ omega (arith, length_front, length-append (cells_bytes (cells m)) ends, length_cells (cells m), node_length m)

  module _ (b : Bytes s) (p : plan (write s m) ≡ done m) (counted : cell_count (write s m) ≡ node_size m) where
    same_start : cells_at (write s m) ≡ cells_at s
    same_start = let l = (parts_of (accepted (write s m) m p)).cells in omega (arith, counted, written_length)

    each_small : (j : ℕ) → 0 ≤ j → j < 0 + length (cells m) → Small (cell_from (write s m) (record_at (cells_at s) j))
    unfolding bad_cell cell
    each_small j low high =
        let w = write s m in
        let ok = none_failing (λ i. cell_ok (origins w) (tables_at w) (table_count w) (cell w i)) 0 (cell_count w) (accepted w m p).cells_are j low (omega (arith, counted, node_length m)) in
        subst (λ (c : ℕ). Small (cell_from w (record_at c j))) same_start (cell_small (origins w) (tables_at w) (table_count w) (few_origins w) (cell w j) ok)

    all_below : All Byte (write s m)
    unfolding write sheet_with
    all_below =
        all_append Byte front (cells_bytes (cells m) ++ ends) (front_below (cells_at s) s b)
        (all_append Byte (cells_bytes (cells m)) ends
        (cells_below (cells m) (cells_small (cells_at s) front (cells m) ends 0 (length_front ∙ omega arith) each_small)) (trailer_below s _))

    pub written_bytes : Bytes (write s m)
    written_bytes i = get_d_of Byte (write s m) i 0 all_below (omega arith)
