-- Laws for the functions of the crate: the loops over bytes and over cells, and the whole sheet.
-- Assumes nothing.
use Prim.Native.Nat.{ℕ, ◌+◌, ◌-◌, ◌*◌, ◌/◌, ◌≤◌, ◌<◌}
use native.Mathlib.Omega.{arith}
use native.Mathlib.Nat.{mul-div_cancel_left}
use mathlib.Core.Path.{◌≡◌, refl, sym, ap, ◌∙◌, subst}
use mathlib.Core.Bool.{Bool, true, false, cond}
use lib.Dec.{eqb}
use mathlib.Core.List.{List, [], ◌∷◌, ◌++◌, append_assoc, append-nil}
use lib.ListN.{length, take, drop, get_or, length-append, length-drop, take-append-drop}
use lib.Seq.{length-take-le, get_or-take, get_or-drop, drop-drop}
use Rattle.sql.specs.Plan.{Node}
use Rattle.sheet.specs.Bytes.{bytes}
use Rattle.sheet.specs.Parts.{edition, table_count, tables_at, columns_at, cells_at}
use Rattle.sheet.specs.Cell as Sheet
use Rattle.sheet.specs.Cells.{cells}
use Rattle.sheet.specs.Check.{text}
use Rattle.sheet.specs.Write.{cell_bytes, cells_bytes, trailer, sheet_with, write}
use Rattle.sheet_laws.specs.Fits.{All}
use Rattle.sheet_laws.specs.Size.{node_length}
use Rattle.sheet_laws.specs.Bytes.{length_cell_bytes}
use Rattle.layout.specs.Layout.{Laid}
use Rattle.layout.specs.declared.Parts.{Parts}
use Rattle.layout.proofs.Laws.{text_is, columns_start, cells_start}
use Rattle.cells.specs.declared.Cell.{Cell}
use Rattle.cells.specs.Cells.{cell_words, cell_at}
use Rattle.cells.specs.Room.{Wrote}
use Rattle.cells.proofs.Laws.{part_in, part_is, wrote_up}
use Rattle.words.specs.Words.{node_words}
use Rattle.words.specs.Place.{NodeHere}
use Rattle.words.proofs.Sizes.{words_long}
use Rattle.encode.specs.Encode.{written, as_cell, cells_in, Small, CellsAt, trailer_at, Lengths, Encodable, Encodes}
use Rattle.encode.proofs.Written.{written_none, chain, length_bytes}
use Rattle.encode.proofs.Says.{node_cells, node_small}

-- ---- cells

pub length_cells_bytes : (ks : List Sheet.Cell) → length (cells_bytes ks) ≡ 16 * length ks
unfolding cells_bytes
length_cells_bytes [] = refl
length_cells_bytes (k ∷ ks) = length-append (cell_bytes k) (cells_bytes ks) ∙ omega (arith, length_cell_bytes k, length_cells_bytes ks)

-- the cell that seven words say, and the rest
seven : (l : List ℕ) → cell_words ≤ length l
    → cells_in l ≡ record { tag = get_or l 1 0; flag = get_or l 2 0; origin = get_or l 0 0; a = get_or l 3 0; b = get_or l 4 0; c = get_or l 5 0 } ∷ cells_in (drop cell_words l)
unfolding cells_in
seven (o ∷ t ∷ f ∷ a ∷ b ∷ c ∷ n ∷ w) h = refl
seven [] h = absurd (omega arith)
seven (o ∷ []) h = absurd (omega arith)
seven (o ∷ t ∷ []) h = absurd (omega arith)
seven (o ∷ t ∷ f ∷ []) h = absurd (omega arith)
seven (o ∷ t ∷ f ∷ a ∷ []) h = absurd (omega arith)
seven (o ∷ t ∷ f ∷ a ∷ b ∷ []) h = absurd (omega arith)
seven (o ∷ t ∷ f ∷ a ∷ b ∷ c ∷ []) h = absurd (omega arith)

module _ (x : List ℕ) (n i : ℕ) (h : i + cell_words ≤ n) (long : n ≤ length x) where
  word : (p j : ℕ) → p ≡ i + j → j < cell_words → get_or (drop i (take n x)) j 0 ≡ get_or x p 0
  word p j e k = get_or-drop i (take n x) j 0 ∙ get_or-take n x (i + j) 0 (omega arith) ∙ ap (λ (m : ℕ). get_or x m 0) (sym e)

  pub next_cell : cells_in (drop i (take n x)) ≡ as_cell (cell_at x (i + cell_words)) ∷ cells_in (drop (i + cell_words) (take n x))
  next_cell =
      let l = drop i (take n x) in
      let e : length l ≡ n - i = length-drop i (take n x) ∙ ap (λ (m : ℕ). m - i) (length-take-le n x long) in
      seven l (omega arith)
      ∙ rw (word (i + cell_words - cell_words) 0 (omega arith) (omega arith), word (i + cell_words - 6) 1 (omega arith) (omega arith), word (i + cell_words - 5) 2 (omega arith) (omega arith), word (i + cell_words - 4) 3 (omega arith) (omega arith), word (i + cell_words - 3) 4 (omega arith) (omega arith), word (i + cell_words - 2) 5 (omega arith) (omega arith), drop-drop cell_words i (take n x))

-- The cells from word i on are still to be written, from byte `to` on.
pub record Going (x : List ℕ) (n : ℕ) (d₀ : List ℕ) (at : ℕ) (d : List ℕ) (to i : ℕ) : Type 0 where
  pub before : List ℕ
  pub is : d ≡ written d₀ at before
  pub so_far : to ≡ at + length before
  pub both : before ++ cells_bytes (cells_in (drop i (take n x))) ≡ cells_bytes (cells_in (take n x))
  pub whole : n ≡ i + cell_words * length (cells_in (drop i (take n x)))
  pub small : All Small (cells_in (drop i (take n x)))
  pub room : to + 16 * length (cells_in (drop i (take n x))) ≤ length d₀
  pub inside : n ≤ length x

pub going_start : {x : List ℕ} {n : ℕ} {d : List ℕ} {at : ℕ} → CellsAt x n d at → Going x n d at d at 0
going_start {x} {n} {d} {at} c =
    record {
      before = [];
      is = written_none d at;
      so_far = omega arith;
      both = refl;
      whole = omega (arith, c.whole);
      small = c.small;
      room = c.room;
      inside = c.inside;
    }

module _ {x : List ℕ} {n : ℕ} {d₀ : List ℕ} {at : ℕ} {d : List ℕ} {to i : ℕ} (g : Going x n d₀ at d to i) where
  pub cell_inside : i < n → (i + cell_words ≤ n) × (n ≤ length x)
  cell_inside h = (omega (arith, g.whole), g.inside)

  module _ (h : i < n) {k : Cell} (e : k ≡ cell_at x (i + cell_words)) where
    rest : List Sheet.Cell
    rest = cells_in (drop (i + cell_words) (take n x))

    next : cells_in (drop i (take n x)) ≡ as_cell k ∷ rest
    unfolding rest
    next = next_cell x n i (cell_inside h).0 g.inside ∙ ap (λ (c : Cell). as_cell c ∷ cells_in (drop (i + cell_words) (take n x))) (sym e)

    pub cell_room : length d ≡ length d₀ → (to + 16 ≤ length d) × Small (as_cell k)
    cell_room f =
        let s = subst (λ (ks : List Sheet.Cell). All Small ks) next g.small in
        (omega (arith, g.room, ap length next), s.0)

    pub going_on : {to' : ℕ} {d' : List ℕ} → (to' ≡ to + 16) × (d' ≡ written d to (cell_bytes (as_cell k))) → Going x n d₀ at d' to' (i + cell_words)
    unfolding rest cells_bytes
    going_on {to'} {d'} (f, q) =
        let c = cell_bytes (as_cell k) in
        let s = subst (λ (ks : List Sheet.Cell). All Small ks) next g.small in
        let m = ap length next in
        record {
          before = g.before ++ c;
          is = chain d₀ at g.before c (omega (arith, g.room, g.so_far)) g.so_far g.is q;
          so_far = omega (arith, g.so_far, length-append g.before c, length_cell_bytes (as_cell k));
          both = append_assoc g.before c (cells_bytes rest) ∙ ap (λ (ks : List Sheet.Cell). g.before ++ cells_bytes ks) (sym next) ∙ g.both;
          whole = omega (arith, g.whole);
          small = s.1;
          room = omega (arith, g.room);
          inside = g.inside;
        }

  pub going_done : n ≤ i → (to ≡ at + 16 * length (cells_in (take n x))) × (d ≡ written d₀ at (cells_bytes (cells_in (take n x))))
  unfolding cells_bytes
  going_done h =
      let e = none_left (cells_in (drop i (take n x))) (omega (arith, g.whole)) in
      let f : g.before ≡ cells_bytes (cells_in (take n x)) = sym (append-nil g.before) ∙ ap (λ (ks : List Sheet.Cell). g.before ++ cells_bytes ks) (sym e) ∙ g.both in
      (omega (arith, g.so_far, ap length f, length_cells_bytes (cells_in (take n x))), g.is ∙ ap (written d₀ at) f)
    where
      none_left : (ks : List Sheet.Cell) → length ks ≡ 0 → ks ≡ []
      none_left [] e = refl
      none_left (k ∷ ks) e = absurd (omega arith)

-- ---- the whole sheet

-- Every origin that a sheet has is a number of 2 bytes.
origins_small : (s : List ℕ) (ks : List Sheet.Cell) → All (λ c. c.origin < Sheet.origins s) ks → All (λ c. c.origin < 65536) ks
origins_small s [] h = tt
origins_small s (k ∷ ks) h = (few (eqb (edition s) 1) h.0, origins_small s ks h.1)
  where
    few : {og : ℕ} (b : Bool) → og < cond b 1 65536 → og < 65536
    few true h = omega arith
    few false h = h

module _ {x : List ℕ} {n : ℕ} (m : Node) (u : NodeHere x 0 n m) where
  words_are : take n x ≡ node_words m
  words_are = let e : n - 0 ≡ n = omega arith in ap (λ (k : ℕ). take k x) (sym e) ∙ part_is u.part

  cells_are : cells_in (take n x) ≡ cells m
  cells_are = ap cells_in words_are ∙ node_cells m

  long : n ≡ cell_words * length (cells m)
  long = omega (arith, u.part.high, words_long m, node_length m)

module _ (s : List ℕ) {p : Parts} (l : Laid s p) where
  start_long : length (take (cells_at s) s) ≡ cells_at s
  start_long = length-take-le (cells_at s) s (omega (arith, l.cells_end, cells_start l))

  trailer_is : (total : ℕ) → trailer_at p.tables.at p.columns.at p.cells.at (edition s) total ≡ trailer s total
  unfolding trailer
  trailer_is total = rw (text_is l, columns_start l, cells_start l)

  write_long : (m : Node) → length (write s m) ≡ p.cells.at + 16 * length (cells m) + 20
  unfolding write sheet_with trailer
  write_long m =
      let total = cells_at s + 16 * length (cells m) + 20 in
      let b = length_bytes in
      omega (
        arith,
        cells_start l,
        start_long,
        length-append (take (cells_at s) s) (cells_bytes (cells m) ++ trailer s total),
        length-append (cells_bytes (cells m)) (trailer s total),
        length_cells_bytes (cells m),
        length-append (bytes (tables_at s)) (bytes (columns_at s) ++ (bytes (cells_at s) ++ (bytes (edition s) ++ bytes total))),
        length-append (bytes (columns_at s)) (bytes (cells_at s) ++ (bytes (edition s) ++ bytes total)),
        length-append (bytes (cells_at s)) (bytes (edition s) ++ bytes total),
        length-append (bytes (edition s)) (bytes total),
        b (tables_at s),
        b (columns_at s),
        b (cells_at s),
        b (edition s),
        b total,
      )

  write_is : (m : Node) → take (cells_at s) s ++ (cells_bytes (cells m) ++ trailer s (cells_at s + 16 * length (cells m) + 20)) ≡ write s m
  unfolding write sheet_with
  write_is m = refl

  pub lengths : (n : ℕ) → Lengths s n (p.cells.at + 16 * (n / cell_words) + 20)
  lengths n m e =
      let f : n ≡ cell_words * length (cells m) = sym e ∙ omega (arith, words_long m, node_length m) in
      let g : n / cell_words ≡ length (cells m) = ap (λ (k : ℕ). k / cell_words) f ∙ mul-div_cancel_left (length (cells m)) (omega arith) in
      omega (arith, write_long m)

  module _ {x : List ℕ} {n : ℕ} {d : List ℕ} (e : Encodable s x n d) where
    pub room_start : 0 + length (take p.cells.at s) ≤ length d
    room_start = omega (arith, length-take-le p.cells.at s (omega (arith, l.cells_end)), e.room, write_long e.node)

    pub first_is : {first : ℕ} → first ≡ 0 + length (take p.cells.at s) → first ≡ p.cells.at
    first_is f = omega (arith, f, length-take-le p.cells.at s (omega (arith, l.cells_end)))

    pub room_cells : {d₁ : List ℕ} {first : ℕ} → length d₁ ≡ length d → first ≡ p.cells.at → CellsAt x n d₁ first
    room_cells q f =
        let c = cells_are e.node e.here in
        record {
          inside = (part_in e.here.part).1;
          whole = long e.node e.here ∙ ap (λ (ks : List Sheet.Cell). cell_words * length ks) (sym c);
          small = rw c (node_small (text s) (length (text s)) (table_count s) e.node e.fits (origins_small s (cells e.node) e.origins_are));
          room = omega (arith, e.room, write_long e.node, ap length c);
        }

    pub room_trailer : (d₂ : List ℕ) {first last : ℕ} → length d₂ ≡ length d → first ≡ p.cells.at → last ≡ first + 16 * length (cells_in (take n x)) → last + 20 ≤ length d₂
    room_trailer d₂ q f g = omega (arith, e.room, write_long e.node, ap length (cells_are e.node e.here))

    pub encodes : {d₁ d₂ d₃ : List ℕ} {first last said r : ℕ} → (first ≡ p.cells.at) × (d₁ ≡ written d 0 (take p.cells.at s))
        → (last ≡ first + 16 * length (cells_in (take n x))) × (d₂ ≡ written d₁ first (cells_bytes (cells_in (take n x))))
        → said ≡ edition s → (r ≡ last + 20) × (d₃ ≡ written d₂ last (trailer_at p.tables.at p.columns.at p.cells.at said (last + 20)))
        → Encodes s x n d r d₃
    encodes {d₁} {d₂} {d₃} {first} {last} {said} {r} (f, p₁) (g, p₂) o (h, p₃) m u =
        let ks = cells m in
        let c = cells_are m u in
        let start : take p.cells.at s ≡ take (cells_at s) s = ap (λ (k : ℕ). take k s) (cells_start l) in
        let total : last + 20 ≡ cells_at s + 16 * length ks + 20 = omega (arith, cells_start l, ap length c) in
        let q₁ : d₁ ≡ written d 0 (take (cells_at s) s) = p₁ ∙ ap (written d 0) start in
        let q₂ : d₂ ≡ written d₁ first (cells_bytes ks) = p₂ ∙ ap (λ (js : List Sheet.Cell). written d₁ first (cells_bytes js)) c in
        let q₃ : d₃ ≡ written d₂ last (trailer s (cells_at s + 16 * length ks + 20)) = p₃ ∙ ap (λ (k : ℕ). written d₂ last (trailer_at p.tables.at p.columns.at p.cells.at k (last + 20))) o ∙ ap (λ (k : ℕ). written d₂ last (trailer_at p.tables.at p.columns.at p.cells.at (edition s) k)) total ∙ ap (written d₂ last) (trailer_is (cells_at s + 16 * length ks + 20)) in
        let e₁ : first ≡ 0 + length (take (cells_at s) s) = omega (arith, start_long, cells_start l) in
        let x₂ = chain d 0 (take (cells_at s) s) (cells_bytes ks) (omega arith) e₁ q₁ q₂ in
        let e₂ : last ≡ 0 + length (take (cells_at s) s ++ cells_bytes ks) = omega (arith, length-append (take (cells_at s) s) (cells_bytes ks), length_cells_bytes ks, ap length c) in
        let x₃ = chain d 0 (take (cells_at s) s ++ cells_bytes ks) (trailer s (cells_at s + 16 * length ks + 20)) (omega arith) e₂ x₂ q₃ in
        let same : (take (cells_at s) s ++ cells_bytes ks) ++ trailer s (cells_at s + 16 * length ks + 20) ≡ write s m = append_assoc (take (cells_at s) s) (cells_bytes ks) (trailer s (cells_at s + 16 * length ks + 20)) ∙ write_is m in
        let z : 0 + length (write s m) ≡ length (write s m) = omega arith in
        (omega (arith, write_long m, cells_start l, ap length c), x₃ ∙ ap (written d 0) same ∙ ap (λ (k : ℕ). write s m ++ drop k d) z)

-- ---- for callers: where a plan stands that was written from the start of a slice

pub first_node : {x : List ℕ} {n : ℕ} (m : Node) → n ≤ length x → take n x ≡ node_words m → NodeHere x 0 n m
first_node {x} {n} m h e =
    record {
      part = record {
        before = [];
        after = drop n x;
        whole = sym (take-append-drop n x) ∙ ap (λ (l : List ℕ). l ++ drop n x) e;
        low = refl;
        high = omega (arith, ap length e, length-take-le n x h);
      };
    }

pub written_node : {x x' : List ℕ} {n : ℕ} (m : Node) → length x' ≡ length x → n ≤ length x → Wrote x 0 (node_words m) n x' → NodeHere x' 0 n m
written_node m e h w = let j = wrote_up w h in first_node m (omega arith) (w.is h).1
