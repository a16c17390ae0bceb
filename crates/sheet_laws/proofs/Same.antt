-- An accepted sheet's plan is written as the same bytes.
use Prim.Native.Nat.{ℕ, zero, suc, ◌+◌, ◌-◌, ◌*◌, ◌≤◌}
use native.Mathlib.Omega.{arith}
use Rattle.std.specs.Prelude.{◌≡◌}
use Rattle.std.proofs.Math.Path.{sym, ap}
use Rattle.std.proofs.Common.{◌∙◌, drop_of_length-le}
use mathlib.Core.List.{List, ◌++◌, map, append_assoc, append-nil}
use Rattle.std.proofs.Math.ListN.{length, take, drop, take-append-drop}
use Rattle.sql.specs.Answer.{done}
use Rattle.sql.specs.Plan.{Node, up_to}
use Rattle.sheet.specs.Bytes.{bytes}
use Rattle.sheet.specs.Parts.{tables_at, columns_at, cells_at, edition, said_length, cell_count, record_at}
use Rattle.sheet.specs.Cell.{Cell, cell}
use Rattle.sheet.specs.Cells.{cells}
use Rattle.sheet.specs.Check.{cells_of, plan}
use Rattle.sheet.specs.Write.{cell_bytes, cells_bytes, trailer, sheet_with, write}
use Rattle.sheet_laws.specs.Plan.{Bytes}
use Rattle.sheet_laws.proofs.Plan.{parts_of, plan_cells, length_cells_of}
use Rattle.sheet_laws.specs.Accepted.{accepted}
use Rattle.sheet_laws.specs.Layout.{Parts}
use Rattle.sheet_laws.specs.Bytes.{word_next, cell_next}

module _ (s : List ℕ) (b : Bytes s) where
  -- Behind a cell's place stand the bytes of the cells from there on.
  cells_next : (i k : ℕ) → record_at (cells_at s) (i + k) ≤ length s → drop (record_at (cells_at s) i) s ≡ cells_bytes (map (cell s) (up_to i k)) ++ drop (record_at (cells_at s) (i + k)) s
  unfolding cells_bytes cell
  cells_next i zero h = let e : i ≡ i + 0 = omega arith in ap (λ (j : ℕ). drop (record_at (cells_at s) j) s) e
  cells_next i (suc k) h =
      let e : suc i + k ≡ i + suc k = omega arith in
      cell_next s b (record_at (cells_at s) i) (record_at (cells_at s) (suc i)) (omega arith) (omega arith)
      ∙ ap (λ (l : List ℕ). cell_bytes (cell s i) ++ l)
      (cells_next (suc i) k (omega arith) ∙ ap (λ (j : ℕ). cells_bytes (map (cell s) (up_to (suc i) k)) ++ drop (record_at (cells_at s) j) s) e)
      ∙ sym (append_assoc (cell_bytes (cell s i)) (cells_bytes (map (cell s) (up_to (suc i) k))) (drop (record_at (cells_at s) (i + suc k)) s))

  trailer_next : Parts s → drop (length s - 20) s ≡ trailer s (length s)
  unfolding trailer
  trailer_next p =
      word_next s b (length s - 20) (length s - 16) (omega arith) (omega arith)
      ∙ ap (λ (l : List ℕ). bytes (tables_at s) ++ l) (word_next s b (length s - 16) (length s - 12) (omega arith) (omega arith)
      ∙ ap (λ (l : List ℕ). bytes (columns_at s) ++ l) (word_next s b (length s - 12) (length s - 8) (omega arith) (omega arith)
      ∙ ap (λ (l : List ℕ). bytes (cells_at s) ++ l) (word_next s b (length s - 8) (length s - 4) (omega arith) (omega arith)
      ∙ ap (λ (l : List ℕ). bytes (edition s) ++ l) (word_next s b (length s - 4) (length s) (omega arith) (omega arith)
      ∙ ap (λ (l : List ℕ). bytes (said_length s) ++ l) (drop_of_length-le s {i = length s} (omega arith))
      ∙ append-nil (bytes (said_length s))
      ∙ ap bytes p.said))))

  -- Writing gives back what was read.
  pub write_same : (n : Node) → plan s ≡ done n → write s n ≡ s
  unfolding write sheet_with cells_of
  write_same n h =
      let p = parts_of (accepted s n h) in
      let c = plan_cells s b n h in
      let start : cells_at s ≡ record_at (cells_at s) 0 = omega arith in
      let end : record_at (cells_at s) (0 + cell_count s) ≡ length s - 20 = omega (arith, p.cells) in
      let total : cells_at s + 16 * length (cells n) + 20 ≡ length s =
      omega (arith, p.cells, ap length c, length_cells_of s) in
      let rest : drop (cells_at s) s ≡ cells_bytes (cells n) ++ trailer s (length s) =
      ap (λ (i : ℕ). drop i s) start ∙ cells_next 0 (cell_count s) (omega (arith, p.cells))
      ∙ ap (λ (i : ℕ). cells_bytes (cells_of s) ++ drop i s) end ∙ ap (λ (l : List ℕ). cells_bytes (cells_of s) ++ l) (trailer_next p)
      ∙ ap (λ (ks : List Cell). cells_bytes ks ++ trailer s (length s)) c in
      ap (λ (v : ℕ). take (cells_at s) s ++ (cells_bytes (cells n) ++ trailer s v)) total
      ∙ sym (ap (λ (l : List ℕ). take (cells_at s) s ++ l) rest) ∙ take-append-drop (cells_at s) s
