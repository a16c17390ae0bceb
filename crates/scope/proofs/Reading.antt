-- What reading a sheet's cells gives for the walk: they are the plan's cells, and the plan's numbers fit their fields.
use Prim.Native.Nat.{ℕ}
use mathlib.Core.Path.{◌≡◌, sym, ap, ◌∙◌}
use mathlib.Core.List.{List, [], ◌∷◌}
use mathlib.Core.Option.{none}
use Rattle.sql.specs.Plan.{by_key, by_index, Leaf, scan, lookup, nothing, values, Node, leaf, over, join}
use Rattle.sheet.specs.Parts.{tables_at, table_count}
use Rattle.sheet.specs.Cell.{bad_cell}
use Rattle.sheet.specs.Cells.{cells}
use Rattle.sheet.specs.Tree.{node_tree, stack, read}
use Rattle.sheet.specs.Check.{text, schema, cells_of}
use Rattle.sheet_laws.specs.Fits.{Each, ExactCell}
use Rattle.sheet_laws.proofs.Reading.{sound, read_runs}
use Rattle.sheet_laws.specs.Plan.{Bytes}
use Rattle.sheet_laws.proofs.Plan.{cells_pass}
use Rattle.std.specs.Prelude.{Result}
use Rattle.scope.specs.Scope.{Judges}
use Rattle.scope.proofs.Node.{Indexed}
use Rattle.scope.proofs.Walk.{Indexes, walk, walked}

module _ (text : List ℕ) (bytes tables : ℕ) where
  indexed : (og : ℕ) (l : Leaf) → Each (ExactCell text bytes tables) (leaf og l) → Indexed l
  indexed og (scan t al f) e = tt
  indexed og (lookup by_key t al vs) e = tt
  indexed og (lookup (by_index i) t al vs) e = e.1.1.0
  indexed og (nothing ls) e = tt
  indexed og (values rs) e = tt

  pub indexes : (n : Node) → Each (ExactCell text bytes tables) n → Indexes n
  indexes (leaf og l) e = indexed og l e
  indexes (over og o n) e = indexes n e.0
  indexes (join og outer j l r) e = (indexes l e.0, indexes r e.1.0)

-- A sheet's cells are a plan's, and say it exactly.
pub record Stands (s : List ℕ) (n : Node) : Type 0 where
  pub cells_are : cells n ≡ cells_of s
  pub exact : Each (ExactCell (text s) (tables_at s) (table_count s)) n

pub stands : (s : List ℕ) → Bytes s → (n : Node) → bad_cell s ≡ none → read (text s) 0 (cells_of s) [] ≡ stack (node_tree n ∷ []) → Stands s n
stands s b n ok reads =
    let d = sound (tables_at s) (table_count s) (ExactCell (text s) (tables_at s) (table_count s)) (λ k x. x) (cells_pass s b ok) (read_runs (text s) 0 (cells_of s) [] (node_tree n ∷ []) reads) in
    record { cells_are = d.cells_are; exact = (d.keeps tt).0 }

-- An answer of the walk over a sheet's cells is the one asked for.
pub judges : (s : List ℕ) {r : Result ℕ ℕ} → Bytes s → r ≡ walk (schema s) 0 [] [] (cells_of s) → Judges s r
judges s b e n ok reads =
    let d = stands s b n ok reads in
    e ∙ ap (walk (schema s) 0 [] []) (sym d.cells_are) ∙ walked (schema s) n (indexes (text s) (tables_at s) (table_count s) n d.exact)
