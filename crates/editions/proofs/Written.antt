-- A sheet that is written for a plan, carried to another edition: its cells with the origins set, and the edition word. And its edition as it is written.
use Rattle.std.specs.Prelude.{ℕ, zero, suc, ◌+◌, ◌-◌, ◌*◌, ◌≡◌, length, take, set}
use Rattle.std.proofs.Common.{arith, ◌∙◌, length-append, length-take-le}
use Rattle.std.proofs.Math.Path.{refl, sym, ap, ap₂}
use mathlib.Core.List.{List, [], ◌∷◌, ◌++◌, append_assoc}
use Rattle.std.proofs.Math.Seq.{sets}
use Rattle.sql.specs.Answer.{done}
use Rattle.sql.specs.Plan.{Node, columns, node_size}
use Rattle.sheet.specs.Bytes.{word, bytes}
use Rattle.sheet.specs.Parts.{tables_at, columns_at, cells_at, edition, cell_count, record_at}
use Rattle.sheet.specs.Cell.{Cell}
use Rattle.sheet.specs.Content.{marked}
use Rattle.sheet.specs.Cells.{cells}
use Rattle.sheet.specs.Check.{Numbers, schema, plan, checked, check}
use Rattle.sheet.specs.Write.{cell_bytes, cells_bytes, trailer, sheet_with, write}
use Rattle.sheet_laws.specs.Size.{node_length}
use Rattle.sheet_laws.specs.Accepted.{accepted}
use Rattle.sheet_laws.proofs.Plan.{parts_of}
use Rattle.sheet_laws.specs.Bytes.{digits, word_after, length_cell_bytes}
use Rattle.sound.specs.HandedOut.{success}
use Rattle.editions.specs.Editions.{origin_bytes, with_origins, in_edition}

-- stores behind xs
set_behind : (xs zs : List ℕ) (i k v : ℕ) → i ≡ length xs + k → set (xs ++ zs) i v ≡ xs ++ set zs k v
set_behind [] zs i k v e = let f : i ≡ k = omega arith in ap (λ (j : ℕ). set zs j v) f
set_behind (x ∷ xs) zs zero k v e = absurd (omega arith)
set_behind (x ∷ xs) zs (suc i) k v e = ap (λ (l : List ℕ). x ∷ l) (set_behind xs zs i k v (omega arith))

sets_behind : (vs xs zs : List ℕ) (i k : ℕ) → i ≡ length xs + k → sets (xs ++ zs) i vs ≡ xs ++ sets zs k vs
sets_behind [] xs zs i k e = refl
sets_behind (v ∷ vs) xs zs i k e = ap (λ (l : List ℕ). sets l (suc i) vs) (set_behind xs zs i k v e) ∙ sets_behind vs xs (set zs k v) (suc i) (suc k) (omega arith)

-- cells with the origins that f gives their numbers, from i on
abbrev pub numbered : (ℕ → ℕ) → ℕ → List Cell → List Cell
numbered f i [] = []
numbered f i (k ∷ ks) = marked (f i) k ∷ numbered f (suc i) ks

pub numbered_length : (f : ℕ → ℕ) (i : ℕ) (ks : List Cell) → length (numbered f i ks) ≡ length ks
numbered_length f i [] = refl
numbered_length f i (k ∷ ks) = ap suc (numbered_length f (suc i) ks)

cell_origin_set : (xs : List ℕ) (k : Cell) (ys : List ℕ) (at og : ℕ) → at ≡ length xs → sets (xs ++ (cell_bytes k ++ ys)) (at + 2) (origin_bytes og) ≡ xs ++ (cell_bytes (marked og k) ++ ys)
unfolding cell_bytes
cell_origin_set xs k ys at og e = sets_behind (origin_bytes og) xs (cell_bytes k ++ ys) (at + 2) 2 (omega arith)

-- Cells that stand behind xs, with their origins set.
pub origins_written : (f : ℕ → ℕ) (at : ℕ) (xs : List ℕ) (ks : List Cell) (ys : List ℕ) (i : ℕ) → length xs ≡ record_at at i
    → with_origins f at i (length ks) (xs ++ (cells_bytes ks ++ ys)) ≡ xs ++ (cells_bytes (numbered f i ks) ++ ys)
unfolding cells_bytes
origins_written f at xs [] ys i e = refl
origins_written f at xs (k ∷ ks) ys i e =
    let l : (cell_bytes k ++ cells_bytes ks) ++ ys ≡ cell_bytes k ++ (cells_bytes ks ++ ys) = append_assoc (cell_bytes k) (cells_bytes ks) ys in
    let c = cell_bytes (marked (f i) k) in
    let r : xs ++ (c ++ (cells_bytes ks ++ ys)) ≡ (xs ++ c) ++ (cells_bytes ks ++ ys) = sym (append_assoc xs c (cells_bytes ks ++ ys)) in
    let n : length (xs ++ c) ≡ record_at at (suc i) = length-append xs c ∙ omega (arith, length_cell_bytes (marked (f i) k)) in
    let one : sets (xs ++ ((cell_bytes k ++ cells_bytes ks) ++ ys)) (record_at at i + 2) (origin_bytes (f i)) ≡ (xs ++ c) ++ (cells_bytes ks ++ ys) =
    ap (λ (z : List ℕ). sets (xs ++ z) (record_at at i + 2) (origin_bytes (f i))) l
    ∙ (cell_origin_set xs k (cells_bytes ks ++ ys) (record_at at i) (f i) (sym e) ∙ r) in
    let more : with_origins f at (suc i) (length ks) ((xs ++ c) ++ (cells_bytes ks ++ ys)) ≡ (xs ++ c) ++ (cells_bytes (numbered f (suc i) ks) ++ ys) =
    origins_written f at (xs ++ c) ks ys (suc i) n in
    ap (with_origins f at (suc i) (length ks)) one
    ∙ (more
    ∙ (append_assoc xs c (cells_bytes (numbered f (suc i) ks) ++ ys) ∙ sym (ap (λ (z : List ℕ). xs ++ z) (append_assoc c (cells_bytes (numbered f (suc i) ks)) ys))))

length_cells : (ks : List Cell) → length (cells_bytes ks) ≡ 16 * length ks
unfolding cells_bytes
length_cells [] = refl
length_cells (k ∷ ks) = length-append (cell_bytes k) (cells_bytes ks) ∙ omega (arith, length_cell_bytes k, length_cells ks)

-- a trailer of edition e
abbrev trailer_in : (e : ℕ) → List ℕ → ℕ → List ℕ
trailer_in e s total = bytes (tables_at s) ++ (bytes (columns_at s) ++ (bytes (cells_at s) ++ (bytes e ++ bytes total)))

trailer_set : (e : ℕ) (s : List ℕ) (total : ℕ) → sets (trailer s total) 12 (bytes e) ≡ trailer_in e s total
unfolding trailer bytes
trailer_set e s total = refl

trailer_length : (s : List ℕ) (total : ℕ) → length (trailer s total) ≡ 20
unfolding trailer bytes
trailer_length s total = refl

module _ (s : List ℕ) (n : Node) (h : plan s ≡ done n) (m : Node) (p : plan (write s m) ≡ done m)
    (answered : check (write s m) ≡ success (node_size m) (columns (schema s) m)) where
  abbrev w : List ℕ
  w = write s m

  abbrev front : List ℕ
  front = take (cells_at s) s

  abbrev total : ℕ
  total = cells_at s + 16 * length (cells m) + 20

  length_front : length front ≡ cells_at s
  length_front = let l = (parts_of (accepted s n h)).cells in length-take-le (cells_at s) s (omega arith)

  -- a sheet of this length with cells ks
  length_with : (ks : List Cell) → length (front ++ cells_bytes ks) ≡ cells_at s + 16 * length ks
  length_with ks = length-append front (cells_bytes ks) ∙ omega (arith, length_front, length_cells ks)

  w_is : w ≡ front ++ (cells_bytes (cells m) ++ trailer s total)
  unfolding write sheet_with
  w_is = refl

  length_w : length w ≡ cells_at s + 16 * length (cells m) + 20
  length_w =
      ap length (w_is ∙ sym (append_assoc front (cells_bytes (cells m)) (trailer s total)))
      ∙ (length-append (front ++ cells_bytes (cells m)) (trailer s total) ∙ omega (arith, length_with (cells m), trailer_length s total))

  count_w : cell_count w ≡ length (cells m)
  unfolding check
  count_w =
      let c : (checked w (done m)).cells ≡ node_size m = ap (λ r. (checked w r).cells) (sym p) ∙ ap (λ (r : Numbers). r.cells) answered in
      c ∙ sym (node_length m)

  cells_at_w : cells_at w ≡ cells_at s
  cells_at_w = let l = (parts_of (accepted w m p)).cells in omega (arith, count_w, length_w)

  -- It is of the edition of the sheet that it is written from.
  pub written_edition : edition w ≡ edition s
  unfolding trailer bytes word
  written_edition =
      ap (λ (l : List ℕ). word l (length w - 8)) (w_is ∙ sym (append_assoc front (cells_bytes (cells m)) (trailer s total)))
      ∙ (word_after (front ++ cells_bytes (cells m)) (trailer s total) (length w - 8) 12 (omega (arith, length_w, length_with (cells m)))
      ∙ digits (edition s) (omega (arith, (parts_of (accepted s n h)).edition_small)))

  -- Carried to another edition, it has the same front, the cells with their origins set, and a trailer of that edition.
  pub carried : (e : ℕ) (f : ℕ → ℕ) → in_edition e f w ≡ front ++ (cells_bytes (numbered f 0 (cells m)) ++ trailer_in e s total)
  unfolding in_edition
  carried e f =
      let ks = numbered f 0 (cells m) in
      let inner : with_origins f (cells_at w) 0 (cell_count w) w ≡ front ++ (cells_bytes ks ++ trailer s total) =
      ap₂ (λ (c k : ℕ). with_origins f c 0 k w) cells_at_w count_w
      ∙ (ap (with_origins f (cells_at s) 0 (length (cells m))) w_is
      ∙ origins_written f (cells_at s) front (cells m) (trailer s total) 0 (length_front ∙ omega arith)) in
      ap (λ (l : List ℕ). sets l (length w - 8) (bytes e)) (inner ∙ sym (append_assoc front (cells_bytes ks) (trailer s total)))
      ∙ (sets_behind (bytes e) (front ++ cells_bytes ks) (trailer s total) (length w - 8) 12 (omega (arith, length_w, length_with ks, numbered_length f 0 (cells m)))
      ∙ (ap (λ (l : List ℕ). (front ++ cells_bytes ks) ++ l) (trailer_set e s total) ∙ append_assoc front (cells_bytes ks) (trailer_in e s total)))
