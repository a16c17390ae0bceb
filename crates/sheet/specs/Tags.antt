-- The tags of cells, by document 01's names. Those that are known and not carried over are in Cell.antt alone.
use Rattle.std.specs.Prelude.{ℕ}

-- ---- constants, and a column

abbrev pub null : ℕ
null = 1

abbrev pub boolean : ℕ
boolean = 2

abbrev pub integer : ℕ
integer = 3

abbrev pub float : ℕ
float = 4

abbrev pub string : ℕ
string = 5

abbrev pub column : ℕ
column = 6

-- ---- operators: of two operands from `binary` on, of one from `unary` on

abbrev pub binary : ℕ
binary = 10

abbrev pub and : ℕ
and = 10

abbrev pub or : ℕ
or = 11

abbrev pub equal : ℕ
equal = 12

abbrev pub greater_than : ℕ
greater_than = 13

abbrev pub less_than : ℕ
less_than = 14

abbrev pub add : ℕ
add = 15

abbrev pub divide : ℕ
divide = 16

abbrev pub subtract : ℕ
subtract = 17

abbrev pub multiply : ℕ
multiply = 18

abbrev pub unary : ℕ
unary = 30

abbrev pub not : ℕ
not = 30

abbrev pub is_null : ℕ
is_null = 31

abbrev pub is_nan : ℕ
is_nan = 32

abbrev pub identity : ℕ
identity = 33

abbrev pub negate : ℕ
negate = 34

abbrev pub square_root : ℕ
square_root = 36

-- ---- parts of nodes, from `parts` up to `parts_end`

abbrev pub parts : ℕ
parts = 40

abbrev pub label : ℕ
label = 40

abbrev pub item : ℕ
item = 41

abbrev pub key : ℕ
key = 42

abbrev pub target : ℕ
target = 43

abbrev pub agg : ℕ
agg = 44

abbrev pub row : ℕ
row = 45

abbrev pub parts_end : ℕ
parts_end = 46

-- ---- nodes, from `nodes` on

abbrev pub nodes : ℕ
nodes = 50

abbrev pub aggregate : ℕ
aggregate = 50

abbrev pub filter : ℕ
filter = 51

abbrev pub hash_join : ℕ
hash_join = 52

abbrev pub index_lookup : ℕ
index_lookup = 53

abbrev pub key_lookup : ℕ
key_lookup = 54

abbrev pub limit : ℕ
limit = 55

abbrev pub nested_loop_join : ℕ
nested_loop_join = 56

abbrev pub nothing : ℕ
nothing = 57

abbrev pub offset : ℕ
offset = 58

abbrev pub order : ℕ
order = 59

abbrev pub projection : ℕ
projection = 60

abbrev pub remap : ℕ
remap = 61

abbrev pub scan : ℕ
scan = 62

abbrev pub values : ℕ
values = 63
