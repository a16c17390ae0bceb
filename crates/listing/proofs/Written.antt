-- Lines written piece by piece, in the order of the code's calls.
use Prim.Native.Nat.{ℕ, zero, suc, ◌+◌}
use native.Mathlib.Omega.{arith}
use native.Mathlib.Nat.{add-zero}
use mathlib.Core.Path.{◌≡◌, sym, ap, ◌∙◌}
use mathlib.Core.List.{List, [], ◌∷◌, ◌++◌, map, append_assoc, append-nil}
use lib.ListN.{length}
use Rattle.sql.specs.Plan.{up_to}
use Rattle.sheet.specs.Parts.{cell_count}
use Rattle.sheet.specs.Cell.{Cell, cell}
use Rattle.sheet.specs.Check.{cells_of}
use Rattle.sheet.specs.Listing.{decimal, header, cell_line, cell_lines, is_expression, is_part, of_kind, totals_line, totals, listing}
use Rattle.layout.specs.Layout.{as_cell, IsCell}
use Rattle.layout.specs.declared.Cell as Code
use Rattle.cells.specs.Room.{Wrote}
use Rattle.cells.proofs.Laws.{then, nothing}
use Rattle.listing.specs.declared.Kinds.{Kinds}
use Rattle.listing.specs.Lines.{ended, IsKinds}
use Rattle.listing.proofs.Decimal.{as_written}

-- a number with the byte that ends it, and what is written after it
pub then_more : {d : List ℕ} {at m : ℕ} {d₁ w : List ℕ} {r : ℕ} {d₂ : List ℕ} (n end : ℕ)
    → length d₁ ≡ length d → Wrote d at (ended n end) m d₁ → Wrote d₁ m w r d₂ → Wrote d at (decimal n ++ (end ∷ w)) r d₂
then_more {w = w} n end k a b = as_written (append_assoc (decimal n) (end ∷ []) w) (then k a b)

-- the lines of the first i cells of the sheet s
abbrev pub lines_to : List ℕ → ℕ → List ℕ
lines_to s i = cell_lines 0 (map (cell s) (up_to 0 i))

one_more : (f : ℕ → Cell) (k j : ℕ) → cell_lines j (map f (up_to j (suc k))) ≡ cell_lines j (map f (up_to j k)) ++ cell_line (j + k) (f (j + k))
unfolding cell_lines
one_more f zero j = append-nil (cell_line j (f j)) ∙ ap (λ (i : ℕ). cell_line i (f i)) (sym (add-zero j))
one_more f (suc k) j =
    let e : suc j + k ≡ j + suc k = omega arith in
    ap (λ (l : List ℕ). cell_line j (f j) ++ l) (one_more f k (suc j))
    ∙ sym (append_assoc (cell_line j (f j)) (cell_lines (suc j) (map f (up_to (suc j) k))) (cell_line (suc j + k) (f (suc j + k))))
    ∙ ap (λ (i : ℕ). (cell_line j (f j) ++ cell_lines (suc j) (map f (up_to (suc j) k))) ++ cell_line i (f i)) e

lines_more : (s : List ℕ) (i : ℕ) → lines_to s (i + 1) ≡ lines_to s i ++ cell_line i (cell s i)
lines_more s i =
    let e : i + 1 ≡ suc i = omega arith in
    let z : 0 + i ≡ i = omega arith in
    ap (lines_to s) e ∙ one_more (cell s) i 0 ∙ ap (λ (j : ℕ). lines_to s i ++ cell_line j (cell s j)) z

-- no line yet, one line more, all lines
pub lines_none : (s d : List ℕ) (at : ℕ) → Wrote d at (lines_to s 0) at d
unfolding cell_lines
lines_none s d at = nothing d at

pub lines_next : {d₀ : List ℕ} {at m : ℕ} {d : List ℕ} {r : ℕ} {d' : List ℕ} (s : List ℕ) (i : ℕ) (k : Code.Cell)
    → length d ≡ length d₀ → Wrote d₀ at (lines_to s i) m d → IsCell (cell s i) k → Wrote d m (cell_line i (as_cell k)) r d' → Wrote d₀ at (lines_to s (i + 1)) r d'
lines_next s i k e a c b = as_written (sym (lines_more s i)) (then e a (as_written (ap (cell_line i) c.is) b))

pub lines_all : {d : List ℕ} {at r : ℕ} {d' : List ℕ} (s : List ℕ) (i : ℕ) → i ≡ cell_count s → Wrote d at (lines_to s i) r d' → Wrote d at (cell_lines 0 (cells_of s)) r d'
unfolding cells_of
lines_all s i e w = as_written (ap (lines_to s) e) w

-- the totals of a list of cells, by their counts
pub totals_written : {d : List ℕ} {at r : ℕ} {d' : List ℕ} (cells : List Cell) (k : Kinds) → IsKinds cells k
    → Wrote d at (totals_line k.expressions k.parts k.nodes) r d' → Wrote d at (totals cells) r d'
totals_written cells k c w =
    as_written
    (ap (λ (e : ℕ). totals_line e k.parts k.nodes) c.expressions_are
    ∙ ap (λ (p : ℕ). totals_line (of_kind is_expression cells) p k.nodes) c.parts_are
    ∙ ap (λ (n : ℕ). totals_line (of_kind is_expression cells) (of_kind is_part cells) n) c.nodes_are)
    w

pub listing_written : {d : List ℕ} {at m : ℕ} {d₁ : List ℕ} {l : ℕ} {d₂ : List ℕ} {r : ℕ} {d₃ : List ℕ} (s : List ℕ) (columns n : ℕ) → n ≡ cell_count s
    → length d₁ ≡ length d → Wrote d at (header n (length s) columns) m d₁
    → length d₂ ≡ length d₁ → Wrote d₁ m (cell_lines 0 (cells_of s)) l d₂
    → Wrote d₂ l (totals (cells_of s)) r d₃ → Wrote d at (listing s columns) r d₃
unfolding listing
listing_written s columns n e k a j b c =
    as_written (ap (λ (i : ℕ). header i (length s) columns ++ (cell_lines 0 (cells_of s) ++ totals (cells_of s))) e) (then k a (then j b c))
