-- Laws on cells of a sheet that follow each other, and one law for each answer of the loops over them.
use Prim.Native.Nat.{ℕ, zero, suc, ◌+◌, ◌-◌, ◌≤◌, ◌<◌, max}
use native.Mathlib.Omega.{arith}
use native.Mathlib.Nat.{sub_self, sub-zero}
use native.Mathlib.Numerals.{add-one}
use mathlib.Core.Path.{◌≡◌, refl, sym, ap, ◌∙◌}
use mathlib.Core.Bool.{true, false}
use mathlib.Core.List.{List, [], ◌∷◌, ◌++◌, map}
use mathlib.Core.Option.{some}
use lib.ListN.{length}
use borrow.Author.Tests.{ne_eqb}
use Rattle.sql.specs.Plan.{up_to}
use Rattle.sheet.specs.Cell.{Cell, cell}
use Rattle.sheet.specs.Parts.{cell_count}
use Rattle.sheet.specs.Check.{cells_of}
use Rattle.node_scope.specs.Own.{segment, column_below, column_out, first_row, row_has, rows_have, target_end, targets_end}

-- ---- cells that follow each other

module _ (s : List ℕ) where
  pub segment_none : (i : ℕ) → segment s i i ≡ []
  segment_none i = rw sub_self refl

  pub segment_first : {from to : ℕ} → from < to → segment s from to ≡ cell s from ∷ segment s (from + 1) to
  segment_first {from} {to} h =
      ap (λ (n : ℕ). map (cell s) (up_to from n)) (let e : to - from ≡ suc (to - (from + 1)) = omega arith in e)
      ∙ ap (λ (n : ℕ). cell s from ∷ map (cell s) (up_to n (to - (from + 1)))) (sym (add-one from))

  up_to_last : (from n : ℕ) → map (cell s) (up_to from (suc n)) ≡ map (cell s) (up_to from n) ++ (cell s (from + n) ∷ [])
  up_to_last from zero = ap (λ (i : ℕ). cell s i ∷ []) (omega arith)
  up_to_last from (suc n) =
      ap (λ (ks : List Cell). cell s from ∷ ks)
      (up_to_last (suc from) n ∙ ap (λ (i : ℕ). map (cell s) (up_to (suc from) n) ++ (cell s i ∷ [])) (omega arith))

  pub segment_last : {from to : ℕ} → from ≤ to → segment s from (to + 1) ≡ segment s from to ++ (cell s to ∷ [])
  segment_last {from} {to} h =
      ap (λ (n : ℕ). map (cell s) (up_to from n)) (let e : to + 1 - from ≡ suc (to - from) = omega arith in e)
      ∙ up_to_last from (to - from)
      ∙ ap (λ (i : ℕ). segment s from to ++ (cell s i ∷ [])) (omega arith)

  map_length : (from n : ℕ) → length (map (cell s) (up_to from n)) ≡ n
  map_length from zero = refl
  map_length from (suc n) = ap suc (map_length (suc from) n)

  pub segment_length : (from to : ℕ) → length (segment s from to) ≡ to - from
  segment_length from to = map_length from (to - from)

  pub segment_all : segment s 0 (cell_count s) ≡ cells_of s
  unfolding cells_of
  segment_all = rw sub-zero refl

  pub segment_end : {i to : ℕ} → i ≤ to → to ≤ i → segment s i to ≡ []
  segment_end {i} {to} h k = let e : i ≡ to = omega arith in rw e (segment_none to)

  -- ---- the cell at i, and those after it

  module _ {i to : ℕ} (h : i < to) {k : Cell} (is : k ≡ cell s i) where
    taken : segment s i to ≡ k ∷ segment s (i + 1) to
    taken = rw is (segment_first h)

    module _ (n : ℕ) where
      pub column_met : column_below n k ≡ false → column_out n i (segment s i to) ≡ some i
      column_met e = rw (taken, e) refl

      pub column_past : column_below n k ≡ true → column_out n (i + 1) (segment s (i + 1) to) ≡ column_out n i (segment s i to)
      column_past e = sym (rw (taken, e) (ap (λ (j : ℕ). column_out n j (segment s (i + 1) to)) (sym (add-one i))))

      pub row_fails : row_has n k ≡ false → rows_have n (segment s i to) ≡ false
      row_fails e = rw (taken, e) refl

      pub row_past : row_has n k ≡ true → rows_have n (segment s (i + 1) to) ≡ rows_have n (segment s i to)
      row_past e = sym (rw (taken, e) refl)

    pub row_met : k.tag ≡ 45 → first_row (segment s i to) ≡ k.a
    row_met e = rw (taken, e) refl

    pub row_none : (k.tag ≡ 45 → ⊥) → first_row (segment s (i + 1) to) ≡ first_row (segment s i to)
    row_none e = sym (rw (taken, ne_eqb _ _ e) refl)

    pub target_past : (end : ℕ) {next all : ℕ}
        → next ≡ max end (target_end k)
        → max end (targets_end (segment s i to)) ≡ all
        → max next (targets_end (segment s (i + 1) to)) ≡ all
    target_past end e f = let g = ap targets_end taken in omega arith

  pub targets_done : {i to end all : ℕ} → i ≤ to → to ≤ i → max end (targets_end (segment s i to)) ≡ all → end ≡ all
  targets_done h k e = let g = ap targets_end (segment_end h k) in omega arith
