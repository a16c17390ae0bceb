-- The column numbers that a plan's cells say. In a sound plan with at most so many cells, over tables that have at most 256 columns, each is below the most columns
-- that a plan of so many cells has (crate sheet_laws, Counts).
use Rattle.std.specs.Prelude.{ℕ, ◌≤◌, ◌<◌, List, length}
use Rattle.sql.specs.Schema.{Schema, table_of}
use Rattle.sql.specs.Plan.{Node, columns, node_size}
use Rattle.sheet.specs.Content.{Content, constant_cell, column_cell, unary_cell, binary_cell, label_cell, item_cell, key_cell, target_cell, agg_cell, row_cell, aggregate_cell, filter_cell, hash_join_cell, index_lookup_cell, key_lookup_cell, limit_cell, offset_cell, nested_loop_join_cell, nothing_cell, order_cell, projection_cell, remap_cell, scan_cell, values_cell}
use Rattle.sheet_laws.specs.Fits.{Optional, Each}
use Rattle.sheet_laws.specs.Counts.{most_columns}
use Rattle.sound.specs.Sound.{Sound}

-- The column numbers that a cell says are below n: a Column's, a Target's, a HashJoin's two and an IndexLookup's. No other cell says one.
abbrev pub NumbersBelow : (n : ℕ) → Content → Type 0
NumbersBelow n (constant_cell v) = Unit {0}
NumbersBelow n (column_cell i) = i < n
NumbersBelow n (unary_cell o) = Unit {0}
NumbersBelow n (binary_cell o) = Unit {0}
NumbersBelow n (label_cell l) = Unit {0}
NumbersBelow n (item_cell l) = Unit {0}
NumbersBelow n (key_cell d) = Unit {0}
NumbersBelow n (target_cell t) = Optional (λ i. i < n) t
NumbersBelow n (agg_cell f) = Unit {0}
NumbersBelow n (row_cell k) = Unit {0}
NumbersBelow n (aggregate_cell k m) = Unit {0}
NumbersBelow n filter_cell = Unit {0}
NumbersBelow n (hash_join_cell outer l r) = (l < n) × (r < n)
NumbersBelow n (index_lookup_cell t al i k) = i < n
NumbersBelow n (key_lookup_cell t al k) = Unit {0}
NumbersBelow n (limit_cell k) = Unit {0}
NumbersBelow n (offset_cell k) = Unit {0}
NumbersBelow n (nested_loop_join_cell p outer) = Unit {0}
NumbersBelow n (nothing_cell k) = Unit {0}
NumbersBelow n (order_cell k) = Unit {0}
NumbersBelow n (projection_cell k) = Unit {0}
NumbersBelow n (remap_cell k) = Unit {0}
NumbersBelow n (scan_cell f t al) = Unit {0}
NumbersBelow n (values_cell k) = Unit {0}

-- Of every sound plan. Proved in proofs/Numbers.antt, under its name in small letters.
abbrev pub SoundBelow : Type 0
SoundBelow =
    (schema : Schema) → ((t : ℕ) → length (table_of schema t).columns ≤ 256) → (text : List ℕ) (tables cells : ℕ) (n : Node) → Sound schema text tables n
    → node_size n ≤ cells → Each (NumbersBelow (most_columns cells)) n
