-- Refusal 8: the cells are not one plan.
use Rattle.std.specs.Prelude.{ℕ, zero, suc, ◌≡◌, List, [], ◌∷◌, get_or, Option as Left, Some, None}
use Rattle.std.proofs.Math.Option.{Option, none, some}
use Rattle.sql.specs.Answer.{Answer, done, refused}
use Rattle.sql.specs.Plan.{Node}
use Rattle.sheet.specs.Parts.{cell_count}
use Rattle.sheet.specs.Tree.{read}
use Rattle.sheet.specs.Check.{text, cells_of, one_plan}
use Rattle.sheet.specs.Content.{content_of}
use Rattle.arity.specs.declared.Sort.{Sort}
use Rattle.arity.specs.Arity.{sort_of, parts_only, children_of}
use Rattle.layout.specs.Layout.{as_cell}
use Rattle.layout.specs.declared.Cell.{Cell}
use Rattle.structure.specs.Sorts.{taken, reduced}

-- the place of a refusal, if there is one
abbrev pub place : {A : Type 0} → Answer A → Option ℕ
place (done a) = none
place (refused number p) = some p

-- The one plan of a sheet's cells, or refusal 8.
unfoldable pub plan_of : List ℕ → Answer Node
plan_of s = one_plan (cell_count s) (read (text s) 0 (cells_of s) [])

-- The first `height` entries of an array as a stack, whose top is the last of them and comes first.
unfoldable pub stacked : List Sort → ℕ → List Sort
stacked entries zero = []
stacked entries (suc height) = get_or entries height Sort.Constant ∷ stacked entries height

-- what an answer leaves on the stack: so many entries, or none where children are lacking
abbrev pub left : List Sort → Left ℕ → Option (List Sort)
left entries (Some height) = some (stacked entries height)
left entries None = none

-- r is what is left of a stack when n trees of a sort are taken off.
pub record Takes (entries : List Sort) (height : ℕ) (want : Sort) (n : ℕ) (r : Left ℕ) : Type 0 where
  pub is : left entries r ≡ taken want n (stacked entries height)

-- r is what cell k leaves of a stack, in the entries as they are after it; a cell's sort and children don't depend on the text.
pub record Reduces (entries : List Sort) (height : ℕ) (k : Cell) (r : Left ℕ) (after : List Sort) : Type 0 where
  pub is : (text : List ℕ)
      → left after r ≡ reduced (sort_of (content_of text (as_cell k))) (children_of (content_of text (as_cell k))) (stacked entries height)

-- r is what a cell over two expressions, an expression itself, leaves of a stack.
pub record Operates (entries : List Sort) (height : ℕ) (r : Left ℕ) (after : List Sort) : Type 0 where
  pub is : left after r ≡ reduced (Some Sort.Expression) (parts_only Sort.Expression 2) (stacked entries height)
