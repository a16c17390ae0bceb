-- What the code's answers stand for: a column that is looked up, and two columns that are set equal.
use Rattle.std.specs.Prelude as code
use Rattle.std.specs.Prelude.{ℕ, cond, ◌≡◌, List, eqb, ltb, Some, None}
use Rattle.std.proofs.Math.Option.{Option, none, some}
use Rattle.sql.specs.Expression.{Expression, is_column_lookup}
use Rattle.sql.specs.Optimizer.{equijoin}
use Rattle.cells.specs.declared.Cell.{Cell}
use Rattle.words.specs.Place.{ExpressionHere}
use Rattle.column_numbers.specs.declared.JoinedColumn.{JoinedColumn}
use Rattle.sheet.specs.Tags

-- the definitions' option, for the code's
abbrev pub found : {A : Type 0} → code.Option A → Option A
found (Some x) = some x
found None = none

-- the columns' numbers
abbrev pub pair : code.Option (JoinedColumn × JoinedColumn) → Option (ℕ × ℕ)
pair (Some (c, d)) = some (c.0, d.0)
pair None = none

-- is_column_lookup, and the equijoin, of the expression from lo up to hi
abbrev pub LooksUp : List ℕ → ℕ → ℕ → code.Option ℕ → Type 0
LooksUp s lo hi r = (e : Expression) → ExpressionHere s lo hi e → found r ≡ is_column_lookup e

abbrev pub SetsEqual : List ℕ → ℕ → ℕ → code.Option (JoinedColumn × JoinedColumn) → Type 0
SetsEqual s lo hi r = (e : Expression) → ExpressionHere s lo hi e → pair r ≡ equijoin e

-- ---- what the code's helpers answer of cells: a Column's tag is 6, and constants' tags are below

abbrev pub column_in : Cell → code.Option ℕ
column_in k = cond (eqb k.tag Tags.column) (Some k.a) None

abbrev pub equal_cells : Cell → Cell → code.Option ℕ
equal_cells l r = cond (ltb l.tag Tags.column) (column_in r) (cond (eqb l.tag Tags.column) (cond (ltb r.tag Tags.column) (Some l.a) None) None)
