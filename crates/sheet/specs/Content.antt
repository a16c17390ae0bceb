-- What a cell says by itself, apart from its children, and how that is written as a cell.
use Rattle.std.specs.Prelude.{ℕ, zero, suc, ◌+◌, ◌*◌, ◌/◌, ◌%◌, Bool, true, false, cond, List, [], ◌∷◌, leb, eqb, get_or}
use Rattle.std.proofs.Math.Option.{Option, none, some}
use Rattle.value.specs.Value.{Truth, False, Unknown, True, Datum, integer, float, string, Value, truth, datum, boolean}
use Rattle.value.specs.Meaning.{integer_bits, integer_of_bits, bytes_at}
use Rattle.sql.specs.Expression.{Logical, And, Or, Function1, IsNull, IsNaN, Identity, Negate, SquareRoot, Function2, GreaterThan, LessThan, Add, Divide, Subtract, Multiply, Unary, Not, function, Binary, logical, Equal}
use Rattle.sql.specs.Plan.{Label, unlabelled, unqualified, qualified}
use Rattle.sheet.specs.Cell.{Cell, wide}
use Rattle.sheet.specs.Tags

-- A cell's content, with the number of children where it says one.
pub data Content : Type 0 where
  constant_cell : Value → Content
  column_cell : ℕ → Content
  unary_cell : Unary → Content
  binary_cell : Binary → Content
  label_cell item_cell : Label → Content
  key_cell : (descending : Bool) → Content
  target_cell : Option ℕ → Content
  agg_cell : (aggregate : ℕ) → Content
  row_cell : (expressions : ℕ) → Content
  aggregate_cell : (expressions aggs : ℕ) → Content
  filter_cell : Content
  hash_join_cell : (outer : Bool) (left right : ℕ) → Content
  index_lookup_cell : (table : ℕ) (alias : Option ℕ) (column constants : ℕ) → Content
  key_lookup_cell : (table : ℕ) (alias : Option ℕ) (constants : ℕ) → Content
  limit_cell offset_cell : ℕ → Content
  nested_loop_join_cell : (predicate outer : Bool) → Content
  nothing_cell : (labels : ℕ) → Content
  order_cell : (keys : ℕ) → Content
  projection_cell : (items : ℕ) → Content
  remap_cell : (targets : ℕ) → Content
  scan_cell : (filter : Bool) (table : ℕ) (alias : Option ℕ) → Content
  values_cell : (rows : ℕ) → Content

-- ---- numbers of 64 bits, by halves

abbrev pub low : ℕ → ℕ
low n = n % 4294967296

abbrev pub high : ℕ → ℕ
high n = n / 4294967296

-- ---- writing

abbrev pub bit : Bool → ℕ
bit true = 1
bit false = 0

abbrev with : (tag flag a b c : ℕ) → Cell
with t f a b c = record { tag = t; flag = f; origin = 0; a = a; b = b; c = c }

abbrev pub unary_tag : Unary → ℕ
unary_tag Not = Tags.not
unary_tag (function IsNull) = Tags.is_null
unary_tag (function IsNaN) = Tags.is_nan
unary_tag (function Identity) = Tags.identity
unary_tag (function Negate) = Tags.negate
unary_tag (function SquareRoot) = Tags.square_root

abbrev pub binary_tag : Binary → ℕ
binary_tag (logical And) = Tags.and
binary_tag (logical Or) = Tags.or
binary_tag Equal = Tags.equal
binary_tag (function GreaterThan) = Tags.greater_than
binary_tag (function LessThan) = Tags.less_than
binary_tag (function Add) = Tags.add
binary_tag (function Divide) = Tags.divide
binary_tag (function Subtract) = Tags.subtract
binary_tag (function Multiply) = Tags.multiply

abbrev pub constant_as_cell : Value → Cell
constant_as_cell (truth Unknown) = with Tags.null 0 0 0 0
constant_as_cell (truth False) = with Tags.boolean 0 0 0 0
constant_as_cell (truth True) = with Tags.boolean 0 1 0 0
constant_as_cell (datum (integer n)) = with Tags.integer 0 (low (integer_bits n)) (high (integer_bits n)) 0
constant_as_cell (datum (float b)) = with Tags.float 0 (low b) (high b) 0
constant_as_cell (datum (string r s)) = with Tags.string 0 r 0 0

-- 40 Label and 41 Item say their label in the same way.
abbrev pub labelled : ℕ → Label → Cell
labelled t unlabelled = with t 0 0 0 0
labelled t (unqualified n) = with t 1 n 0 0
labelled t (qualified q n) = with t 2 q n 0

abbrev pub target_as_cell : Option ℕ → Cell
target_as_cell none = with Tags.target 0 0 0 0
target_as_cell (some i) = with Tags.target 1 i 0 0

-- a lookup's flag, and the alias beside it
abbrev pub lookup_as_cell : (tag table : ℕ) (alias : Option ℕ) (c : ℕ) → Cell
lookup_as_cell t table none c = with t 0 table 0 c
lookup_as_cell t table (some r) c = with t 1 table r c

abbrev pub scan_as_cell : Bool → ℕ → Option ℕ → Cell
scan_as_cell f table none = with Tags.scan (bit f) table 0 0
scan_as_cell f table (some r) = with Tags.scan (bit f + 2) table r 0

abbrev pub cell_of : Content → Cell
cell_of (constant_cell v) = constant_as_cell v
cell_of (column_cell i) = with Tags.column 0 i 0 0
cell_of (unary_cell o) = with (unary_tag o) 0 0 0 0
cell_of (binary_cell o) = with (binary_tag o) 0 0 0 0
cell_of (label_cell l) = labelled Tags.label l
cell_of (item_cell l) = labelled Tags.item l
cell_of (key_cell d) = with Tags.key (bit d) 0 0 0
cell_of (target_cell t) = target_as_cell t
cell_of (agg_cell f) = with Tags.agg f 0 0 0
cell_of (row_cell n) = with Tags.row 0 n 0 0
cell_of (aggregate_cell n m) = with Tags.aggregate 0 n m 0
cell_of filter_cell = with Tags.filter 0 0 0 0
cell_of (hash_join_cell o l r) = with Tags.hash_join (bit o) l r 0
cell_of (index_lookup_cell t al i n) = lookup_as_cell Tags.index_lookup t al (i + 65536 * n)
cell_of (key_lookup_cell t al n) = lookup_as_cell Tags.key_lookup t al n
cell_of (limit_cell n) = with Tags.limit 0 (low n) (high n) 0
cell_of (offset_cell n) = with Tags.offset 0 (low n) (high n) 0
cell_of (nested_loop_join_cell p o) = with Tags.nested_loop_join (bit p + 2 * bit o) 0 0 0
cell_of (nothing_cell n) = with Tags.nothing 0 n 0 0
cell_of (order_cell n) = with Tags.order 0 n 0 0
cell_of (projection_cell n) = with Tags.projection 0 n 0 0
cell_of (remap_cell n) = with Tags.remap 0 n 0 0
cell_of (scan_cell f t al) = scan_as_cell f t al
cell_of (values_cell n) = with Tags.values 0 n 0 0

-- the same with an origin
abbrev pub marked : ℕ → Cell → Cell
marked og k = record { tag = k.tag; flag = k.flag; origin = og; a = k.a; b = k.b; c = k.c }

-- ---- reading, of a cell whose layout is right

-- what the flag's threshold k says is there
abbrev pub from_flag : ℕ → Cell → ℕ → Option ℕ
from_flag k c r = cond (leb k c.flag) (some r) none

abbrev pub label_of : Cell → Label
label_of c = cond (eqb c.flag 0) unlabelled (cond (eqb c.flag 1) (unqualified c.a) (qualified c.a c.b))

-- bit 0 and bit 1 of the flag
abbrev pub bit0 : Cell → Bool
bit0 c = eqb (c.flag % 2) 1

abbrev pub bit1 : Cell → Bool
bit1 c = leb 2 c.flag

abbrev pub amount : Cell → ℕ
amount c = wide c.a c.b

-- what a tag's cells say; `none` where no cell has the tag
abbrev pub Reader : Type 0
Reader = List ℕ → Cell → Option Content

abbrev no_cell : Reader
no_cell text c = none

abbrev unary_reader : Unary → Reader
unary_reader o text c = some (unary_cell o)

abbrev binary_reader : Binary → Reader
binary_reader o text c = some (binary_cell o)

-- cells that say a number of children in a
abbrev count_reader : (ℕ → Content) → Reader
count_reader f text c = some (f c.a)

-- Tags from 0 to 63.
abbrev pub readers : List Reader
readers =
    no_cell
    ∷ (λ text c. some (constant_cell (truth Unknown)))
    ∷ (λ text c. some (constant_cell (boolean (eqb c.a 1))))
    ∷ (λ text c. some (constant_cell (datum (integer (integer_of_bits (amount c))))))
    ∷ (λ text c. some (constant_cell (datum (float (amount c)))))
    ∷ (λ text c. some (constant_cell (datum (string c.a (bytes_at text c.a)))))
    ∷ (λ text c. some (column_cell c.a))
    ∷ no_cell ∷ no_cell ∷ no_cell
    ∷ binary_reader (logical And) ∷ binary_reader (logical Or) ∷ binary_reader Equal ∷ binary_reader (function GreaterThan)
    ∷ binary_reader (function LessThan) ∷ binary_reader (function Add) ∷ binary_reader (function Divide)
    ∷ binary_reader (function Subtract) ∷ binary_reader (function Multiply)
    ∷ no_cell ∷ no_cell ∷ no_cell ∷ no_cell ∷ no_cell ∷ no_cell ∷ no_cell ∷ no_cell ∷ no_cell ∷ no_cell ∷ no_cell
    ∷ unary_reader Not ∷ unary_reader (function IsNull) ∷ unary_reader (function IsNaN) ∷ unary_reader (function Identity) ∷ unary_reader (function Negate)
    ∷ no_cell ∷ unary_reader (function SquareRoot) ∷ no_cell ∷ no_cell ∷ no_cell
    ∷ (λ text c. some (label_cell (label_of c)))
    ∷ (λ text c. some (item_cell (label_of c)))
    ∷ (λ text c. some (key_cell (bit0 c)))
    ∷ (λ text c. some (target_cell (from_flag 1 c c.a)))
    ∷ (λ text c. some (agg_cell c.flag))
    ∷ count_reader row_cell
    ∷ no_cell ∷ no_cell ∷ no_cell ∷ no_cell
    ∷ (λ text c. some (aggregate_cell c.a c.b))
    ∷ (λ text c. some filter_cell)
    ∷ (λ text c. some (hash_join_cell (bit0 c) c.a c.b))
    ∷ (λ text c. some (index_lookup_cell c.a (from_flag 1 c c.b) (c.c % 65536) (c.c / 65536)))
    ∷ (λ text c. some (key_lookup_cell c.a (from_flag 1 c c.b) c.c))
    ∷ (λ text c. some (limit_cell (amount c)))
    ∷ (λ text c. some (nested_loop_join_cell (bit0 c) (bit1 c)))
    ∷ count_reader nothing_cell
    ∷ (λ text c. some (offset_cell (amount c)))
    ∷ count_reader order_cell
    ∷ count_reader projection_cell
    ∷ count_reader remap_cell
    ∷ (λ text c. some (scan_cell (bit0 c) c.a (from_flag 2 c c.b)))
    ∷ count_reader values_cell
    ∷ []

unfoldable pub content_of : List ℕ → Cell → Option Content
content_of text c = get_or readers c.tag no_cell text c
