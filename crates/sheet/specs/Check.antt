-- The operation `check`: a sheet's plan, or the refusal 2 to 10 that document 01 gives, and the answer in numbers.
use Rattle.std.specs.Prelude.{ℕ, zero, suc, ◌+◌, Bool, true, false, cond, List, [], ◌∷◌, map, eqb, length, take, get_or}
use Rattle.std.proofs.Math.Option.{Option, none, some}
use Rattle.sql.specs.Answer.{Answer, done, refused, ◌>>=◌}
use Rattle.sql.specs.Schema.{Kind, Boolean, Integer, Float, String, Column, Table, Schema}
use Rattle.sql.specs.Plan.{Node, columns, up_to}
use Rattle.sheet.specs.Parts.{tables_at, table_count, cell_count, length_ok, edition_ok, parts_ok, table_name, first_column, columns_of, key_of, column_name, kind_of, index_mark, bad_record}
use Rattle.sheet.specs.Cell.{Cell, cell, tag_of, bad_cell, bad_number}
use Rattle.sheet.specs.Tree.{Tree, expression_tree, label_tree, item_tree, key_tree, target_tree, agg_tree, row_tree, node_tree, Stack, Read, lacking, stack, read}
use Rattle.sheet.specs.Scope.{outside, target_repeated}

-- ---- what the parts hold

abbrev pub text : List ℕ → List ℕ
text s = take (tables_at s) s

abbrev pub kinds : List Kind
kinds = Boolean ∷ Integer ∷ Float ∷ String ∷ []

abbrev pub column : List ℕ → ℕ → Column
column s i = record { name = column_name s i; kind = get_or kinds (kind_of s i) Boolean; index = eqb (index_mark s i) 1 }

abbrev pub table : List ℕ → ℕ → Table
table s i = record { name = table_name s i; primary_key = key_of s i; columns = map (column s) (up_to (first_column s i) (columns_of s i)) }

unfoldable pub schema : List ℕ → Schema
schema s = map (table s) (up_to 0 (table_count s))

unfoldable pub cells_of : List ℕ → List Cell
cells_of s = map (cell s) (up_to 0 (cell_count s))

-- ---- the checks, in the order of their numbers

-- goes on if a test says true
abbrev pub test : {A : Type 0} → Bool → (number : ℕ) → Answer A → Answer A
test true number next = next
test false number next = refused number 0

-- goes on if nothing is found
abbrev pub unfound : {A : Type 0} → Option ℕ → (number : ℕ) → Answer A → Answer A
unfound none number next = next
unfound (some place) number next = refused number place

-- the lowest bad cell decides between 6 and 7
abbrev pub cells_checked : {A : Type 0} → List ℕ → Option ℕ → Answer A → Answer A
cells_checked s none next = next
cells_checked s (some place) next = refused (bad_number (tag_of (cell s place).tag)) place

-- The stack's one tree, if that is a node. Refusal 8 has the cell count for its place where each cell has its children and they are not one plan.
abbrev pub sole_node : ℕ → Stack → Answer Node
sole_node count [] = refused 8 count
sole_node count (node_tree n ∷ []) = done n
sole_node count (node_tree n ∷ t ∷ st) = refused 8 count
sole_node count (expression_tree e ∷ st) = refused 8 count
sole_node count (label_tree l ∷ st) = refused 8 count
sole_node count (item_tree i ∷ st) = refused 8 count
sole_node count (key_tree k ∷ st) = refused 8 count
sole_node count (target_tree t ∷ st) = refused 8 count
sole_node count (agg_tree a ∷ st) = refused 8 count
sole_node count (row_tree es ∷ st) = refused 8 count

abbrev pub one_plan : ℕ → Read → Answer Node
one_plan count (lacking place) = refused 8 place
one_plan count (stack st) = sole_node count st

abbrev pub in_scope : Schema → Node → Answer Node
in_scope tables node = unfound (outside tables 0 node) 9 (unfound (target_repeated 0 node) 10 (done node))

-- The plan that a sheet stands for.
unfoldable pub plan : List ℕ → Answer Node
unfolding schema cells_of
plan s =
    test (length_ok s) 2
    (test (edition_ok s) 3
    (test (parts_ok s) 4
    (unfound (bad_record s) 5
    (cells_checked s (bad_cell s) (one_plan (cell_count s) (read (text s) 0 (cells_of s) []) >>= in_scope (schema s))))))

-- ---- the answer

-- What an operation returns: 0 or the refusal's number, its place, and of a success the length of the sheet handed out, its cells and its columns.
pub record Numbers : Type 0 where
  pub number : ℕ
  pub place : ℕ
  pub length : ℕ
  pub cells : ℕ
  pub columns : ℕ

abbrev pub refusal : ℕ → ℕ → Numbers
refusal n p = record { number = n; place = p; length = 0; cells = 0; columns = 0 }

abbrev pub checked : List ℕ → Answer Node → Numbers
checked s (refused n p) = refusal n p
checked s (done node) = record { number = 0; place = 0; length = 0; cells = cell_count s; columns = columns (schema s) node }

-- The operation: every list of bytes gets success, with length 0, or one refusal.
unfoldable pub check : List ℕ → Numbers
unfolding plan schema
check s = checked s (plan s)
