-- The answer of the code, set beside the definition of crate `sheet`.
use Rattle.std.specs.Prelude.{ℕ, ◌≤◌, ◌<◌, ◌≡◌, ◌&&◌, cond, List, [], ◌∷◌, eqb, ltb, Option, Some, None}
use Rattle.std.proofs.Math.Option.{none}
use Rattle.sql.specs.Plan.{Node}
use Rattle.sheet.specs.Parts.{cell_count}
use Rattle.sheet.specs.Cell.{Cell, cell, bad_cell}
use Rattle.sheet.specs.Tree.{node_tree, stack, read}
use Rattle.sheet.specs.Scope.{target_repeated}
use Rattle.sheet.specs.Check.{text, cells_of}
use Rattle.layout.specs.Layout.{found}

-- The number of a Target that has one; 256, which no Target has, of any other cell.
abbrev pub target_number : Cell → ℕ
target_number k = cond (eqb k.tag 43 && eqb k.flag 1) k.a 256

-- The same in the code, which has no number for none.
abbrev pub numbered : ℕ → Option ℕ
numbered number = cond (ltb number 256) (Some number) None

-- None of the first n cells is a Target that has a number.
pub record Untargeted (s : List ℕ) (n : ℕ) : Type 0 where
  pub within : n ≤ cell_count s
  pub none_before : (i : ℕ) → i < n → 256 ≤ target_number (cell s i)

-- The answer of the search for a repeated Target, of the plan that the cells are.
abbrev pub Repeats : List ℕ → Option ℕ → Type 0
Repeats s r = (n : Node) → bad_cell s ≡ none → read (text s) 0 (cells_of s) [] ≡ stack (node_tree n ∷ []) → found r ≡ target_repeated 0 n
