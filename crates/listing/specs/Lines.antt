-- The contracts of the functions that write the listing (crate sheet, Listing).
use Rattle.std.specs.Prelude.{ℕ, ◌+◌, ◌≤◌, ◌<◌, List, [], ◌∷◌, ◌++◌, length, ◌≡◌, Bool, cond}
use Rattle.sheet.specs.Cell.{Cell}
use Rattle.sheet.specs.Listing.{decimal, listing, is_expression, is_part, is_node, of_kind}
use Rattle.cells.specs.Room.{Wrote}
use Rattle.listing.specs.declared.Kinds.{Kinds}

-- a number and the byte that ends it
abbrev pub ended : ℕ → ℕ → List ℕ
ended n end = decimal n ++ (end ∷ [])

-- Cells counted by kind: so few that there may be one more, one more of this tag, and all of a list. No sheet has more than 2,048.
pub record FewKinds (k : Kinds) : Type 0 where
  pub few : k.expressions + k.parts + k.nodes < 2048

abbrev one_if : Bool → ℕ
one_if b = cond b 1 0

pub record OneMore (k : Kinds) (tag : ℕ) (r : Kinds) : Type 0 where
  pub more_expressions : r.expressions ≡ one_if (is_expression tag) + k.expressions
  pub more_parts : r.parts ≡ one_if (is_part tag) + k.parts
  pub more_nodes : r.nodes ≡ one_if (is_node tag) + k.nodes

pub record IsKinds (cells : List Cell) (r : Kinds) : Type 0 where
  pub expressions_are : r.expressions ≡ of_kind is_expression cells
  pub parts_are : r.parts ≡ of_kind is_part cells
  pub nodes_are : r.nodes ≡ of_kind is_node cells
  pub sum_few : r.expressions + r.parts + r.nodes ≤ 2048

-- The listing of the sheet s is written after the first `at` bytes of d. No sheet's listing is longer than 94,323 bytes, so that a slice of that length has
-- room for every one.
pub record Listed (s : List ℕ) (columns : ℕ) (d : List ℕ) (at r : ℕ) (d' : List ℕ) : Type 0 where
  pub wrote : Wrote d at (listing s columns) r d'
  pub short : length (listing s columns) ≤ 94323
