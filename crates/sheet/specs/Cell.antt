-- A cell of document 01: 16 bytes with a tag, a flag, its origin (two zeros in edition 1) and the numbers a, b, c. Here: what each tag allows in the other fields, and refusals 6 and 7.
use Rattle.std.specs.Prelude.{ℕ, ◌+◌, ◌*◌, ◌/◌, ◌%◌, Bool, true, false, not, ◌&&◌, ◌||◌, cond, List, [], ◌∷◌, leb, ltb, eqb, length, get_or}
use Rattle.std.proofs.Math.Option.{Option, none, some}
use Rattle.std.specs.Float.Ieee as Ieee
use Rattle.value.specs.Value.{the_nan}
use Rattle.sheet.specs.Bytes.{byte, half, word}
use Rattle.sheet.specs.Parts.{edition, cells_at, tables_at, table_count, cell_count, record_at, inside, first_failing}
use Rattle.sheet.specs.Tags

pub record Cell : Type 0 where
  pub tag : ℕ
  pub flag : ℕ
  pub origin : ℕ
  pub a : ℕ
  pub b : ℕ
  pub c : ℕ

-- the cell that starts at byte i
abbrev pub cell_from : List ℕ → ℕ → Cell
cell_from s i =
    record { tag = byte s i; flag = byte s (i + 1); origin = half s (i + 2); a = word s (i + 4); b = word s (i + 8); c = word s (i + 12) }

-- cell number i of a sheet
unfoldable pub cell : List ℕ → ℕ → Cell
cell s i = cell_from s (record_at (cells_at s) i)

-- What one of the numbers a, b, c holds. `text k` and `small k` are a text reference and a number up to 255 where the flag is at least k;
-- below that the field is unused, and 0.
pub data Field : Type 0 where
  unused any bit table : Field
  text small : ℕ → Field

-- What a tag stands for: nothing, an operator that is known but not carried over, or a cell with so many flags (0 is the first) and these fields.
pub data Tag : Type 0 where
  unknown not_carried : Tag
  carried : (flags : ℕ) (a b c : Field) → Tag

-- no fields, with flag 0 alone
abbrev plain : Tag
plain = carried 1 unused unused unused

-- one field a, with flag 0 alone
abbrev with_a : Field → Tag
with_a f = carried 1 f unused unused

abbrev counted : Tag
counted = carried 1 any unused unused

-- Tags from 0 to 63.
abbrev pub tags : List Tag
tags =
    unknown
    -- constants: 1 Null, 2 Boolean, 3 Integer, 4 Float, 5 String; 6 Column
    ∷ plain ∷ with_a bit ∷ carried 1 any any unused ∷ carried 1 any any unused ∷ with_a (text 0) ∷ with_a any
    ∷ unknown ∷ unknown ∷ unknown
    -- 10 And, 11 Or, 12 Equal, 13 GreaterThan, 14 LessThan, 15 Add, 16 Divide, 17 Subtract, 18 Multiply
    ∷ plain ∷ plain ∷ plain ∷ plain ∷ plain ∷ plain ∷ plain ∷ plain ∷ plain
    -- 19 Exponentiate, 20 Remainder, 21 Like
    ∷ not_carried ∷ not_carried ∷ not_carried
    ∷ unknown ∷ unknown ∷ unknown ∷ unknown ∷ unknown ∷ unknown ∷ unknown ∷ unknown
    -- 30 Not, 31 Is Null, 32 Is NaN, 33 Identity, 34 Negate
    ∷ plain ∷ plain ∷ plain ∷ plain ∷ plain
    -- 35 Factorial, 36 SquareRoot
    ∷ not_carried ∷ plain
    ∷ unknown ∷ unknown ∷ unknown
    -- parts: 40 Label, 41 Item, 42 Key, 43 Target, 44 Agg, 45 Row
    ∷ carried 3 (text 1) (text 2) unused ∷ carried 3 (text 1) (text 2) unused ∷ carried 2 unused unused unused
    ∷ carried 2 (small 1) unused unused ∷ carried 5 unused unused unused ∷ counted
    ∷ unknown ∷ unknown ∷ unknown ∷ unknown
    -- nodes: 50 Aggregate, 51 Filter, 52 HashJoin, 53 IndexLookup, 54 KeyLookup
    ∷ carried 1 any any unused ∷ plain ∷ carried 2 any any unused ∷ carried 2 table (text 1) any ∷ carried 2 table (text 1) any
    -- 55 Limit, 56 NestedLoopJoin, 57 Nothing, 58 Offset, 59 Order
    ∷ carried 1 any any unused ∷ carried 4 unused unused unused ∷ counted ∷ carried 1 any any unused ∷ counted
    -- 60 Projection, 61 Remap, 62 Scan, 63 Values
    ∷ counted ∷ counted ∷ carried 4 table (text 2) unused ∷ counted
    ∷ []

unfoldable pub tag_of : ℕ → Tag
tag_of t = get_or tags t unknown

-- A field's number is one that it may hold. `bytes` is the length of the text, `tables` the number of table records.
abbrev pub field_ok : (bytes tables flag : ℕ) → Field → ℕ → Bool
field_ok bytes tables flag unused v = eqb v 0
field_ok bytes tables flag any v = true
field_ok bytes tables flag bit v = ltb v 2
field_ok bytes tables flag table v = ltb v tables
field_ok bytes tables flag (text k) v = cond (leb k flag) (inside bytes v) (eqb v 0)
field_ok bytes tables flag (small k) v = cond (leb k flag) (ltb v 256) (eqb v 0)

abbrev pub fields_ok : (origins bytes tables : ℕ) → Cell → Tag → Bool
fields_ok origins bytes tables k unknown = false
fields_ok origins bytes tables k not_carried = false
fields_ok origins bytes tables k (carried flags a b c) =
    ltb k.flag flags
    && (ltb k.origin origins
    && (field_ok bytes tables k.flag a k.a && (field_ok bytes tables k.flag b k.b && field_ok bytes tables k.flag c k.c)))

-- a number of 64 bits from its low and its high half
abbrev pub wide : ℕ → ℕ → ℕ
wide low high = low + 4294967296 * high

-- A Float is no NaN but the one.
abbrev pub float_ok : Cell → Bool
float_ok k = not (eqb k.tag Tags.float) || (not (Ieee.nan_bits Ieee.binary64 (wide k.a k.b)) || eqb (wide k.a k.b) the_nan)

-- How many origins there are for a cell, counted from 0: an edition 1 sheet has 0 alone, an edition 2 sheet every number of 16 bits.
abbrev pub origins : List ℕ → ℕ
origins s = cond (eqb (edition s) 1) 1 65536

unfoldable pub cell_ok : (origins bytes tables : ℕ) → Cell → Bool
unfolding tag_of
cell_ok origins bytes tables k = fields_ok origins bytes tables k (tag_of k.tag) && float_ok k

-- Refusals 6 and 7 come from one walk: the lowest cell that breaks its layout.
unfoldable pub bad_cell : List ℕ → Option ℕ
unfolding first_failing
bad_cell s = first_failing (λ i. cell_ok (origins s) (tables_at s) (table_count s) (cell s i)) 0 (cell_count s)

-- A tag that is known and not carried over is 7 with any fields, and anything else 6.
abbrev pub bad_number : Tag → ℕ
bad_number unknown = 6
bad_number not_carried = 7
bad_number (carried flags a b c) = 6
