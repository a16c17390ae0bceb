-- A node's own cells are those of its expressions and parts: they stand between the node before it, if any, and the node's cell, and none of them is a node. Here: what
-- refusal 9 asks of a node, and its column count, told by its own cells, its cell and its sources' column counts.
use Rattle.std.specs.Prelude.{ℕ, suc, ◌+◌, ◌-◌, ◌%◌, max, Bool, true, not, ◌&&◌, ◌||◌, cond, List, [], ◌∷◌, map, leb, ltb, eqb, length, get_or}
use Rattle.std.proofs.Math.Option.{Option, none}
use Rattle.sql.specs.Schema.{Schema}
use Rattle.sql.specs.Plan.{up_to}
use Rattle.sheet.specs.Cell.{Cell, cell}
use Rattle.sheet.specs.Scope.{first_of, unless, table_columns}
use Rattle.sheet.specs.Tags

-- the cells of a sheet from number `from` up to, but without, number `to`
abbrev pub segment : List ℕ → (from to : ℕ) → List Cell
segment s from to = map (cell s) (up_to from (to - from))

-- Tags from 50 on are nodes'.
abbrev pub is_node : ℕ → Bool
is_node tag = leb Tags.nodes tag

-- The number of sources of a node, for the tags from 50 to 63: 52 HashJoin and 56 NestedLoopJoin have two; 53 IndexLookup, 54 KeyLookup, 57 Nothing, 62 Scan
-- and 63 Values have none.
abbrev pub source_counts : List ℕ
source_counts = 1 ∷ 1 ∷ 2 ∷ 0 ∷ 0 ∷ 1 ∷ 2 ∷ 0 ∷ 1 ∷ 1 ∷ 1 ∷ 1 ∷ 0 ∷ 0 ∷ []

unfoldable pub sources : ℕ → ℕ
sources tag = get_or source_counts (tag - Tags.nodes) 0

-- IndexLookup, KeyLookup and Scan read a table.
abbrev pub of_table : ℕ → Bool
of_table tag = eqb tag Tags.index_lookup || (eqb tag Tags.key_lookup || eqb tag Tags.scan)

-- ---- own cells, one after the other

-- A cell is no Column, or one below n.
abbrev pub column_below : ℕ → Cell → Bool
column_below n k = not (eqb k.tag Tags.column) || ltb k.a n

-- The first Column that is not below n; the cells are numbered from `at`.
abbrev pub column_out : (n at : ℕ) → List Cell → Option ℕ
column_out n at [] = none
column_out n at (k ∷ ks) = first_of (unless (column_below n k) at) (column_out n (suc at) ks)

-- The number of expressions in the first Row; 0 where there is no Row.
abbrev pub first_row : List Cell → ℕ
first_row [] = 0
first_row (k ∷ ks) = cond (eqb k.tag Tags.row) k.a (first_row ks)

-- A cell is no Row, or one of n expressions.
abbrev pub row_has : ℕ → Cell → Bool
row_has n k = not (eqb k.tag Tags.row) || eqb k.a n

-- Each Row has n expressions.
abbrev pub rows_have : ℕ → List Cell → Bool
rows_have n [] = true
rows_have n (k ∷ ks) = row_has n k && rows_have n ks

-- One past the number of a Target; 0 where it has none.
abbrev pub target_end : Cell → ℕ
target_end k = cond (eqb k.flag 1) (k.a + 1) 0

-- One past the highest number of a Target.
abbrev pub targets_end : List Cell → ℕ
targets_end [] = 0
targets_end (k ∷ ks) = max (target_end k) (targets_end ks)

-- ---- a node with cell k

-- The number of columns that a node reads: its table's, or all its sources'.
abbrev pub columns_read : Schema → (left right : ℕ) → Cell → ℕ
columns_read schema left right k = cond (of_table k.tag) (table_columns schema k.a) (left + right)

-- The rule that a node has beside its Columns: 52 HashJoin's columns are below its sources', 53 IndexLookup's column is below its table's, 61 Remap has one
-- Target for each column of its source, the Rows of 63 Values are equally long. `n` is the number of columns that the node reads.
abbrev pub node_fits : (left right n : ℕ) → List Cell → Cell → Bool
node_fits left right n own k =
    cond (eqb k.tag Tags.hash_join) (ltb k.a left && ltb k.b right)
    (cond (eqb k.tag Tags.index_lookup) (ltb (k.c % 65536) n)
    (cond (eqb k.tag Tags.remap) (eqb k.a n)
    (cond (eqb k.tag Tags.values) (rows_have (first_row own) own) true)))

-- The lowest of its own cells, or the node, that is out of scope; the own cells are numbered from `at`.
abbrev pub node_outside : (left right n at : ℕ) → List Cell → Cell → Option ℕ
node_outside left right n at own k = first_of (column_out n at own) (unless (node_fits left right n own k) (at + length own))

-- The number of columns that a node emits: 50 Aggregate, 57 Nothing and 60 Projection have one for each Agg and expression, Label, or Item, 61 Remap up to the
-- highest Target, 63 Values as many as its first Row; any other as many as it reads.
abbrev pub node_columns : (n : ℕ) → List Cell → Cell → ℕ
node_columns n own k =
    cond (eqb k.tag Tags.aggregate) (k.a + k.b)
    (cond (eqb k.tag Tags.nothing || eqb k.tag Tags.projection) k.a
    (cond (eqb k.tag Tags.remap) (targets_end own)
    (cond (eqb k.tag Tags.values) (first_row own) n)))
