-- Which plans a sheet can hold: what each cell says fits its fields, the text and the table records.
use Rattle.std.specs.Prelude.{ℕ, ◌^◌, ◌<◌, ◌≡◌, Bool, true, ◌||◌, not, List, [], ◌∷◌, eqb, length}
use Rattle.std.proofs.Math.Option.{Option, none, some}
use Rattle.std.specs.Float.Ieee as Ieee
use Rattle.std.specs.Int.Signed.{mag}
use Rattle.value.specs.Value.{integer, float, string, Value, truth, datum, the_nan}
use Rattle.value.specs.Meaning.{bytes_at}
use Rattle.sql.specs.Expression.{Marked, Expression, constant, column, unary, binary}
use Rattle.sql.specs.Plan.{Label, unlabelled, unqualified, qualified, Leaf, scan, lookup, nothing, values, limit, offset, order, projection, remap, aggregate, Over, filter, other, Join, nested_loop, hash, Node, leaf, over, join}
use Rattle.sheet.specs.Parts.{inside}
use Rattle.sheet.specs.Cell.{Cell}
use Rattle.sheet.specs.Content.{Content, constant_cell, column_cell, unary_cell, binary_cell, label_cell, item_cell, key_cell, target_cell, agg_cell, row_cell, aggregate_cell, filter_cell, hash_join_cell, index_lookup_cell, key_lookup_cell, limit_cell, offset_cell, nested_loop_join_cell, nothing_cell, order_cell, projection_cell, remap_cell, scan_cell, values_cell}
use Rattle.sheet.specs.Cells.{cells, present, lookup_content}

-- ---- a property of each cell of a plan, by what the cell says

abbrev pub All : {A : Type 0} → (A → Type 0) → List A → Type 0
All P [] = Unit {0}
All P (x ∷ xs) = P x × All P xs

abbrev pub Optional : {A : Type 0} → (A → Type 0) → Option A → Type 0
Optional P none = Unit {0}
Optional P (some x) = P x

module _ (P : Content → Type 0) where
  abbrev pub EachExpression : Expression → Type 0
  EachExpression (constant og v) = P (constant_cell v)
  EachExpression (column og i) = P (column_cell i)
  EachExpression (unary og o x) = EachExpression x × P (unary_cell o)
  EachExpression (binary og o l r) = EachExpression l × (EachExpression r × P (binary_cell o))

  abbrev pub EachItem : Expression × Label × ℕ → Type 0
  EachItem i = EachExpression i.0 × P (item_cell i.1)

  abbrev pub EachKey : Expression × Bool × ℕ → Type 0
  EachKey k = EachExpression k.0 × P (key_cell k.1)

  abbrev pub EachAgg : ℕ × Expression × ℕ → Type 0
  EachAgg a = EachExpression a.1 × P (agg_cell a.0)

  abbrev pub EachRow : Marked (List Expression) → Type 0
  EachRow es = All EachExpression es.0 × P (row_cell (length es.0))

  abbrev pub EachLeaf : Leaf → Type 0
  EachLeaf (scan t al f) = Optional EachExpression f × P (scan_cell (present f) t al)
  EachLeaf (lookup a t al vs) = All (λ v. P (constant_cell v.0)) vs × P (lookup_content a t al (length vs))
  EachLeaf (nothing ls) = All (λ l. P (label_cell l.0)) ls × P (nothing_cell (length ls))
  EachLeaf (values rs) = All EachRow rs × P (values_cell (length rs))

  -- without the source
  abbrev pub EachOver : Over → Type 0
  EachOver (filter e) = EachExpression e × P filter_cell
  EachOver (other (limit n)) = P (limit_cell n)
  EachOver (other (offset n)) = P (offset_cell n)
  EachOver (other (order ks)) = All EachKey ks × P (order_cell (length ks))
  EachOver (other (projection is)) = All EachItem is × P (projection_cell (length is))
  EachOver (other (remap ts)) = All (λ t. P (target_cell t.0)) ts × P (remap_cell (length ts))
  EachOver (other (aggregate es gs)) = All EachExpression es × (All EachAgg gs × P (aggregate_cell (length es) (length gs)))

  -- without the sources
  abbrev pub EachJoin : Bool → Join → Type 0
  EachJoin outer (nested_loop p) = Optional EachExpression p × P (nested_loop_join_cell (present p) outer)
  EachJoin outer (hash l r) = P (hash_join_cell outer l r)

  abbrev pub Each : Node → Type 0
  Each (leaf og l) = EachLeaf l
  Each (over og o n) = Each n × EachOver o
  Each (join og outer j l r) = Each l × (Each r × EachJoin outer j)

-- ---- what a cell can say

-- A text reference lies inside a text of so many bytes.
abbrev pub Reference : ℕ → ℕ → Type 0
Reference bytes r = inside bytes r ≡ true

-- An Integer has 64 bits; so has a Float, which is no NaN but the one; a String has its bytes from the text.
abbrev pub ValueFits : (text : List ℕ) (bytes : ℕ) → Value → Type 0
ValueFits text bytes (truth t) = Unit {0}
ValueFits text bytes (datum (integer n)) = mag n < 2 ^ 63
ValueFits text bytes (datum (float b)) = (b < 2 ^ 64) × (not (Ieee.nan_bits Ieee.binary64 b) || eqb b the_nan ≡ true)
ValueFits text bytes (datum (string r s)) = Reference bytes r × (s ≡ bytes_at text r)

abbrev pub LabelFits : (bytes : ℕ) → Label → Type 0
LabelFits bytes unlabelled = Unit {0}
LabelFits bytes (unqualified n) = Reference bytes n
LabelFits bytes (qualified q n) = Reference bytes q × Reference bytes n

-- a table that a record is of, and an alias inside the text
abbrev pub TableFits : (bytes tables : ℕ) → ℕ → Option ℕ → Type 0
TableFits bytes tables t al = (t < tables) × Optional (Reference bytes) al

-- All that a cell says but its column numbers and its counts of children.
abbrev pub ContentFits : (text : List ℕ) (bytes tables : ℕ) → Content → Type 0
ContentFits text bytes tables (constant_cell v) = ValueFits text bytes v
ContentFits text bytes tables (column_cell i) = Unit {0}
ContentFits text bytes tables (unary_cell o) = Unit {0}
ContentFits text bytes tables (binary_cell o) = Unit {0}
ContentFits text bytes tables (label_cell l) = LabelFits bytes l
ContentFits text bytes tables (item_cell l) = LabelFits bytes l
ContentFits text bytes tables (key_cell d) = Unit {0}
ContentFits text bytes tables (target_cell t) = Optional (λ i. i < 256) t
ContentFits text bytes tables (agg_cell f) = f < 5
ContentFits text bytes tables (row_cell n) = Unit {0}
ContentFits text bytes tables (aggregate_cell n m) = Unit {0}
ContentFits text bytes tables filter_cell = Unit {0}
ContentFits text bytes tables (hash_join_cell o l r) = Unit {0}
ContentFits text bytes tables (index_lookup_cell t al i n) = TableFits bytes tables t al
ContentFits text bytes tables (key_lookup_cell t al n) = TableFits bytes tables t al
ContentFits text bytes tables (limit_cell n) = n < 2 ^ 64
ContentFits text bytes tables (offset_cell n) = n < 2 ^ 64
ContentFits text bytes tables (nested_loop_join_cell p o) = Unit {0}
ContentFits text bytes tables (nothing_cell n) = Unit {0}
ContentFits text bytes tables (order_cell n) = Unit {0}
ContentFits text bytes tables (projection_cell n) = Unit {0}
ContentFits text bytes tables (remap_cell n) = Unit {0}
ContentFits text bytes tables (scan_cell f t al) = TableFits bytes tables t al
ContentFits text bytes tables (values_cell n) = Unit {0}

-- a number of 4 bytes
abbrev pub Word : ℕ → Type 0
Word n = n < 2 ^ 32

-- The column numbers and counts, which have 4 bytes, and 2 in an IndexLookup.
abbrev pub CountsFit : Content → Type 0
CountsFit (constant_cell v) = Unit {0}
CountsFit (column_cell i) = Word i
CountsFit (unary_cell o) = Unit {0}
CountsFit (binary_cell o) = Unit {0}
CountsFit (label_cell l) = Unit {0}
CountsFit (item_cell l) = Unit {0}
CountsFit (key_cell d) = Unit {0}
CountsFit (target_cell t) = Unit {0}
CountsFit (agg_cell f) = Unit {0}
CountsFit (row_cell n) = Word n
CountsFit (aggregate_cell n m) = Word n × Word m
CountsFit filter_cell = Unit {0}
CountsFit (hash_join_cell o l r) = Word l × Word r
CountsFit (index_lookup_cell t al i n) = (i < 2 ^ 16) × (n < 2 ^ 16)
CountsFit (key_lookup_cell t al n) = Word n
CountsFit (limit_cell n) = Unit {0}
CountsFit (offset_cell n) = Unit {0}
CountsFit (nested_loop_join_cell p o) = Unit {0}
CountsFit (nothing_cell n) = Word n
CountsFit (order_cell n) = Word n
CountsFit (projection_cell n) = Word n
CountsFit (remap_cell n) = Word n
CountsFit (scan_cell f t al) = Unit {0}
CountsFit (values_cell n) = Word n

-- ---- plans

-- A plan's constants, text references, tables, Targets, Agg functions and amounts can stand in a sheet with this text and so many tables.
abbrev pub Fits : (text : List ℕ) (tables : ℕ) → Node → Type 0
Fits text tables n = Each (ContentFits text (length text) tables) n

abbrev pub ExactCell : (text : List ℕ) (bytes tables : ℕ) → Content → Type 0
ExactCell text bytes tables k = ContentFits text bytes tables k × CountsFit k

-- The plan's column numbers and counts can, too, so that its cells say it exactly.
abbrev pub Exact : (text : List ℕ) (tables : ℕ) → Node → Type 0
Exact text tables n = Each (ExactCell text (length text) tables) n

-- ---- origins

-- The origins of a plan's cells are below a number.
abbrev pub OriginsBelow : ℕ → Node → Type 0
OriginsBelow bound n = All (λ c. c.origin < bound) (cells n)
