-- What stays and what is set where a sheet is carried to another edition.
use Prim.Native.Nat.{ℕ, zero, suc, ◌+◌, ◌-◌, ◌/◌, ◌%◌, ◌≤◌, ◌<◌}
use Rattle.std.proofs.Math.Nat.{mod-add-div}
use native.Mathlib.Omega.{arith}
use Rattle.std.proofs.Common.{eqb-true, ◌∙◌, subst, get_or-set_other, length-take-le}
use Rattle.std.proofs.lemmas.Bool.{eqb-false}
use Rattle.std.specs.Prelude.{◌≡◌, ◌≢◌, Bool, true, false, eqb}
use Rattle.std.proofs.Math.Path.{refl, sym, ap}
use mathlib.Core.List.{List, [], ◌∷◌, ◌++◌, append_assoc}
use Rattle.std.proofs.Math.ListN.{length, take, drop, set}
use Rattle.std.proofs.lemmas.List.Edits.{sets}
use Rattle.std.proofs.Math.Seq.{length-sets, sets-eq, get_or-set_same}
use Rattle.sheet.specs.Bytes.{byte, half, word, bytes}
use Rattle.sheet.specs.Parts.{tables_at, columns_at, cells_at, edition, said_length, cell_count, record_at}
use Rattle.sheet.specs.Cell.{Cell, cell_from, cell}
use Rattle.sheet.specs.Content.{marked}
use Rattle.sheet_laws.specs.Fits.{Word}
use Rattle.sheet_laws.specs.Bytes.{word_written}
use Rattle.editions.specs.Editions.{origin_bytes, with_origins, in_edition}

-- A byte beside those that are set.
sets_other : (vs l : List ℕ) (i q : ℕ) → ((j : ℕ) → j < length vs → q ≢ i + j) → byte (sets l i vs) q ≡ byte l q
sets_other [] l i q n = refl
sets_other (v ∷ vs) l i q n =
    sets_other vs (set l i v) (suc i) q (λ j h e. n (suc j) (omega arith) (omega arith)) ∙ get_or-set_other l i q v 0 (λ e. n 0 (omega arith) (omega arith))

module _ (f : ℕ → ℕ) (at : ℕ) where
  pub length_origins : (i k : ℕ) (s : List ℕ) → length (with_origins f at i k s) ≡ length s
  length_origins i zero s = refl
  length_origins i (suc k) s =
      length_origins (suc i) k (sets s (record_at at i + 2) (origin_bytes (f i))) ∙ length-sets s (record_at at i + 2) (origin_bytes (f i))

  -- a byte that is no cell's origin
  pub origin_kept : (i k p : ℕ) (s : List ℕ) → ((j : ℕ) → i ≤ j → j < i + k → (p ≢ record_at at j + 2) × (p ≢ record_at at j + 3))
      → byte (with_origins f at i k s) p ≡ byte s p
  origin_kept i zero p s a = refl
  origin_kept i (suc k) p s a =
      let n = a i (omega arith) (omega arith) in
      origin_kept (suc i) k p (sets s (record_at at i + 2) (origin_bytes (f i))) (λ j l u. a j (omega arith) (omega arith))
      ∙ (get_or-set_other (set s (record_at at i + 2) (f i % 256)) (suc (record_at at i + 2)) p (f i / 256) 0 (λ e. n.1 (omega arith))
      ∙ get_or-set_other s (record_at at i + 2) p (f i % 256) 0 n.0)

  -- the origin of the first cell, and of any
  first_origin : (i k : ℕ) (s : List ℕ) → record_at at i + 4 ≤ length s → half (with_origins f at i (suc k) s) (record_at at i + 2) ≡ f i
  unfolding half
  first_origin i k s b =
      let p = record_at at i + 2 in
      let one = set s p (f i % 256) in
      let two = set one (suc p) (f i / 256) in
      let next : p + 1 ≡ suc p = omega arith in
      let low : byte (with_origins f at (suc i) k two) p ≡ f i % 256 =
      origin_kept (suc i) k p two (λ j l u. (omega arith, omega arith))
      ∙ (get_or-set_other one (suc p) p (f i / 256) 0 (omega arith) ∙ get_or-set_same s p (f i % 256) 0 (omega arith)) in
      let high : byte (with_origins f at (suc i) k two) (p + 1) ≡ f i / 256 =
      origin_kept (suc i) k (p + 1) two (λ j l u. (omega arith, omega arith))
      ∙ (ap (byte two) next ∙ get_or-set_same one (suc p) (f i / 256) 0 (omega (arith, length-sets s p (f i % 256 ∷ [])))) in
      rw (low, high) (mod-add-div (f i) 256)

  origin_set : (i k j : ℕ) (s : List ℕ) → i ≤ j → j < i + k → record_at at j + 4 ≤ length s → half (with_origins f at i k s) (record_at at j + 2) ≡ f j
  origin_set i zero j s l u b = absurd (omega arith)
  origin_set i (suc k) j s l u b =
      go (eqb i j) refl
      (λ m. origin_set (suc i) k j (sets s (record_at at i + 2) (origin_bytes (f i))) m (omega arith) (omega (arith, length-sets s (record_at at i + 2) (origin_bytes (f i)))))
    where
      go : (t : Bool) → eqb i j ≡ t → (suc i ≤ j → half (with_origins f at i (suc k) s) (record_at at j + 2) ≡ f j) → half (with_origins f at i (suc k) s) (record_at at j + 2) ≡ f j
      go true e later =
          let same = eqb-true i j e in
          subst (λ (m : ℕ). half (with_origins f at i (suc k) s) (record_at at m + 2) ≡ f m) same (first_origin i k s (omega arith))
      go false e later = let other = eqb-false i j e in later (omega arith)

-- The cells counted lie before the trailer.
pub cell_inside : (s : List ℕ) (j : ℕ) → j < cell_count s → record_at (cells_at s) j + 36 ≤ length s
cell_inside s j h = let d = mod-add-div (length s - 20 - cells_at s) 16 in omega arith

same_cell : (c d : Cell) → c.tag ≡ d.tag → c.flag ≡ d.flag → c.origin ≡ d.origin → c.a ≡ d.a → c.b ≡ d.b → c.c ≡ d.c → c ≡ d
same_cell c d p q r s t u =
    let e : ◌≡◌ {A = Cell} (record { tag = c.tag; flag = c.flag; origin = c.origin; a = c.a; b = c.b; c = c.c })
    (record { tag = d.tag; flag = d.flag; origin = d.origin; a = d.a; b = d.b; c = d.c }) = cc in
    e

module _ (e : ℕ) (f : ℕ → ℕ) (s : List ℕ) where
  abbrev d : List ℕ
  d = in_edition e f s

  -- the sheet with its origins set and its edition word as it was
  abbrev inner : List ℕ
  inner = with_origins f (cells_at s) 0 (cell_count s) s

  length_inner : length inner ≡ length s
  length_inner = length_origins f (cells_at s) 0 (cell_count s) s

  pub same_length : length d ≡ length s
  unfolding in_edition
  same_length = length-sets inner (length s - 8) (bytes e) ∙ length_inner

  -- no byte of an origin or of the edition word
  abbrev Stays : ℕ → Type 0
  Stays p =
      ((j : ℕ) → 0 ≤ j → j < 0 + cell_count s → (p ≢ record_at (cells_at s) j + 2) × (p ≢ record_at (cells_at s) j + 3))
      × ((j : ℕ) → j < 4 → p ≢ length s - 8 + j)

  stays : (p : ℕ) → Stays p → byte d p ≡ byte s p
  unfolding in_edition bytes
  stays p h = sets_other (bytes e) inner (length s - 8) p h.1 ∙ origin_kept f (cells_at s) 0 (cell_count s) p s h.0

  module _ (long : 20 ≤ length s) where
    -- the trailer's first three words and its last, text and records, and a cell's bytes beside its origin
    in_trailer : (p : ℕ) → length s - 20 ≤ p → p < length s - 8 → Stays p
    in_trailer p l u = (λ j a h. (let b = cell_inside s j (omega arith) in (omega arith, omega arith)), λ j h. omega arith)

    at_end : (p : ℕ) → length s - 4 ≤ p → Stays p
    at_end p l = (λ j a h. (let b = cell_inside s j (omega arith) in (omega arith, omega arith)), λ j h. omega arith)

    in_front : (p : ℕ) → p < cells_at s → p < length s - 20 → Stays p
    in_front p l u = (λ j a h. (omega arith, omega arith), λ j h. omega arith)

    in_cell : (i off : ℕ) → i < cell_count s → off < 16 → off ≢ 2 → off ≢ 3 → Stays (record_at (cells_at s) i + off)
    in_cell i off h o two three =
        let b = cell_inside s i h in
        (λ j a u. (omega arith, omega arith), λ j u. omega arith)

    word_stays : (p : ℕ) → Stays p → Stays (p + 1) → Stays (p + 2) → Stays (p + 3) → word d p ≡ word s p
    unfolding word
    word_stays p a b c g = cc (stays p a, stays (p + 1) b, stays (p + 2) c, stays (p + 3) g)

    trailer_word : (p : ℕ) → length s - 20 ≤ p → p + 4 ≤ length s - 8 → word d p ≡ word s p
    trailer_word p l u =
        word_stays p (in_trailer p (omega arith) (omega arith)) (in_trailer (p + 1) (omega arith) (omega arith)) (in_trailer (p + 2) (omega arith) (omega arith))
        (in_trailer (p + 3) (omega arith) (omega arith))

    pub same_tables_at : tables_at d ≡ tables_at s
    same_tables_at = ap (λ (n : ℕ). word d (n - 20)) same_length ∙ trailer_word (length s - 20) (omega arith) (omega arith)

    pub same_columns_at : columns_at d ≡ columns_at s
    same_columns_at = ap (λ (n : ℕ). word d (n - 16)) same_length ∙ trailer_word (length s - 16) (omega arith) (omega arith)

    pub same_cells_at : cells_at d ≡ cells_at s
    same_cells_at = ap (λ (n : ℕ). word d (n - 12)) same_length ∙ trailer_word (length s - 12) (omega arith) (omega arith)

    pub same_said : said_length d ≡ said_length s
    same_said =
        let p = length s - 4 in
        ap (λ (n : ℕ). word d (n - 4)) same_length
        ∙ word_stays p (at_end p (omega arith)) (at_end (p + 1) (omega arith)) (at_end (p + 2) (omega arith)) (at_end (p + 3) (omega arith))

    -- The edition word is the one set.
    pub edition_set : Word e → edition d ≡ e
    unfolding in_edition
    edition_set w =
        let p = length s - 8 in
        let is : d ≡ take p inner ++ bytes e ++ drop (p + length (bytes e)) inner = sets-eq (bytes e) inner p (omega (arith, length_inner, four)) in
        ap (λ (n : ℕ). word d (n - 8)) same_length
        ∙ (ap (λ (l : List ℕ). word l p) (is ∙ right p)
        ∙ word_written (take p inner) e (drop (p + length (bytes e)) inner) p (sym (length-take-le p inner (omega (arith, length_inner)))) w)
      where
        four : length (bytes e) ≡ 4
        four = refl

        right : (p : ℕ) → take p inner ++ bytes e ++ drop (p + length (bytes e)) inner ≡ take p inner ++ (bytes e ++ drop (p + length (bytes e)) inner)
        right p = append_assoc (take p inner) (bytes e) (drop (p + length (bytes e)) inner)

    -- text and records
    pub front_stays : (p : ℕ) → p < cells_at s → p < length s - 20 → byte d p ≡ byte s p
    front_stays p l u = stays p (in_front p l u)

    -- A cell has the origin set, and is else as it was.
    cell_byte : (i off : ℕ) → i < cell_count s → off < 16 → off ≢ 2 → off ≢ 3 → byte d (record_at (cells_at s) i + off) ≡ byte s (record_at (cells_at s) i + off)
    cell_byte i off h o two three = stays (record_at (cells_at s) i + off) (in_cell i off h o two three)

    cell_word : (i off : ℕ) → i < cell_count s → 4 ≤ off → off + 4 ≤ 16 → word d (record_at (cells_at s) i + off) ≡ word s (record_at (cells_at s) i + off)
    cell_word i off h l u = go (record_at (cells_at s) i + off) refl
      where
        byte_of : (p n : ℕ) → p ≡ record_at (cells_at s) i + off → n < 4 → Stays (p + n)
        byte_of p n e k =
            let same : record_at (cells_at s) i + (off + n) ≡ p + n = omega arith in
            subst Stays same (in_cell i (off + n) h (omega arith) (omega arith) (omega arith))

        go : (p : ℕ) → p ≡ record_at (cells_at s) i + off → word d p ≡ word s p
        go p e =
            let z : p + 0 ≡ p = omega arith in
            word_stays p (subst Stays z (byte_of p 0 e (omega arith))) (byte_of p 1 e (omega arith)) (byte_of p 2 e (omega arith)) (byte_of p 3 e (omega arith))

    cell_origin : (i : ℕ) → i < cell_count s → half d (record_at (cells_at s) i + 2) ≡ f i
    unfolding half in_edition
    cell_origin i h =
        let p = record_at (cells_at s) i + 2 in
        let b = cell_inside s i h in
        let low : byte d p ≡ byte inner p = sets_other (bytes e) inner (length s - 8) p (λ j u. omega arith) in
        let high : byte d (p + 1) ≡ byte inner (p + 1) = sets_other (bytes e) inner (length s - 8) (p + 1) (λ j u. omega arith) in
        rw (low, high) (origin_set f (cells_at s) 0 (cell_count s) i s (omega arith) (omega arith) (omega arith))

    pub cell_set : (i : ℕ) → i < cell_count s → cell d i ≡ marked (f i) (cell s i)
    unfolding cell
    cell_set i h =
        let at = record_at (cells_at s) i in
        let z : at ≡ at + 0 = omega arith in
        ap (λ (c : ℕ). cell_from d (record_at c i)) same_cells_at
        ∙ same_cell (cell_from d at) (marked (f i) (cell_from s at))
        (ap (byte d) z ∙ (cell_byte i 0 h (omega arith) (omega arith) (omega arith) ∙ sym (ap (byte s) z)))
        (cell_byte i 1 h (omega arith) (omega arith) (omega arith)) (cell_origin i h) (cell_word i 4 h (omega arith) (omega arith))
        (cell_word i 8 h (omega arith) (omega arith)) (cell_word i 12 h (omega arith) (omega arith))
