-- The answers of the code, set beside the definitions of crate `sheet`.
use Rattle.std.specs.Prelude.{ℕ, ◌≡◌, cond, List, [], ◌∷◌, ltb, get_or, Result, Ok, Err}
use Rattle.std.proofs.Math.Option.{Option, none, some}
use Rattle.sql.specs.Plan.{Node, columns}
use Rattle.sheet.specs.Cell.{bad_cell}
use Rattle.sheet.specs.Tree.{node_tree, stack, read}
use Rattle.sheet.specs.Scope.{outside}
use Rattle.sheet.specs.Check.{text, schema, cells_of}

-- what is out of scope, if that is anything, and what is said otherwise
abbrev pub unless_outside : Option ℕ → Result ℕ ℕ → Result ℕ ℕ
unless_outside none otherwise = otherwise
unless_outside (some i) otherwise = Err i

-- of a plan with n columns
abbrev pub scope_of : Option ℕ → ℕ → Result ℕ ℕ
scope_of place n = unless_outside place (Ok n)

-- A sheet's cells are one plan: refusals 6 to 8 let them by.
pub record OnePlan (s : List ℕ) : Type 0 where
  pub n : Node
  pub cells_ok : bad_cell s ≡ none
  pub reads : read (text s) 0 (cells_of s) [] ≡ stack (node_tree n ∷ [])

-- The answer of the scope check, of the plan that the cells are.
abbrev pub Judges : List ℕ → Result ℕ ℕ → Type 0
Judges s r =
    (n : Node) → bad_cell s ≡ none → read (text s) 0 (cells_of s) [] ≡ stack (node_tree n ∷ []) → r ≡ scope_of (outside (schema s) 0 n) (columns (schema s) n)

-- What stands in a stack, its first `depth` numbers, at a place; 0 past its top.
abbrev pub width_at : List ℕ → (at depth : ℕ) → ℕ
width_at ws at depth = cond (ltb at depth) (get_or ws at 0) 0
