-- optimizer.rs: the five optimizers, as functions on plans, each under its Rust name. They know no limit of size: Room.antt has them with document 01's
-- limit (and where that doesn't refuse, they do the same: crate room). Crate literal ties the recursion here to the Rust's `transform`.
use Rattle.std.specs.Prelude.{ℕ, zero, suc, ◌+◌, ◌-◌, Bool, true, false, not, ◌&&◌, ◌||◌, cond, List, [], ◌∷◌, ◌++◌, map, eqb, ltb, leb, length, get_or}
use Rattle.std.proofs.Math.Option.{Option, none, some}
use Rattle.value.specs.Value.{Truth, False, Unknown, True, Value, truth, datum, Result, ok}
use Rattle.sql.specs.Schema.{Table, Schema, table_of, column_of}
use Rattle.sql.specs.Expression.{Marked, Logical, And, Or, Unary, Binary, logical, Equal, function, Expression, constant, column, unary, binary, and, origin, size, bind, evaluate, contains_column, replace_column, shift_column_down, shift_column_up, into_cnf_vec, and_vec, is_column, is_column_lookup, into_column_values}
use Rattle.sql.specs.Plan.{Label, unlabelled, unqualified, qualified, Access, by_key, by_index, Leaf, scan, lookup, nothing, values, Other, limit, offset, order, projection, remap, aggregate, Over, filter, other, Join, nested_loop, hash, Node, leaf, over, join, node_origin, columns, column_labels, row_size, item_size, key_size, node_size}
use Rattle.sql.specs.Answer.{Answer, done, refused, ◌>>=◌, at_place}

-- A transform is applied to the sources of a node.
abbrev pub map_sources : (Node → Node) → Node → Node
map_sources f (leaf og l) = leaf og l
map_sources f (over og o source) = over og o (f source)
map_sources f (join og outer j left right) = join og outer j (f left) (f right)

-- ======== ConstantFolding

-- What a constant operand does to And or Or. False decides And, and true leaves the other operand; Or is the mirror image. Null does neither.
pub data Operand : Type 0 where
  deciding neutral undetermined : Operand

abbrev pub truth_operand : Logical → Truth → Operand
truth_operand And False = deciding
truth_operand And Unknown = undetermined
truth_operand And True = neutral
truth_operand Or False = neutral
truth_operand Or Unknown = undetermined
truth_operand Or True = deciding

abbrev pub operand : Logical → Expression → Operand
operand o (constant og (truth t)) = truth_operand o t
operand o (constant og (datum d)) = undetermined
operand o (column og c) = undetermined
operand o (unary og p x) = undetermined
operand o (binary og p x y) = undetermined

abbrev pub decided : Logical → Truth
decided And = False
decided Or = True

abbrev pub simplify_logical : ℕ → Logical → Operand → Operand → Expression → Expression → Expression
simplify_logical og o deciding b l r = constant og (truth (decided o))
simplify_logical og o neutral deciding l r = constant og (truth (decided o))
simplify_logical og o neutral neutral l r = r
simplify_logical og o neutral undetermined l r = r
simplify_logical og o undetermined deciding l r = constant og (truth (decided o))
simplify_logical og o undetermined neutral l r = l
simplify_logical og o undetermined undetermined l r = binary og (logical o) l r

abbrev pub simplify : Expression → Expression
simplify (constant og v) = constant og v
simplify (column og c) = column og c
simplify (unary og o x) = unary og o x
simplify (binary og (logical o) l r) = simplify_logical og o (operand o l) (operand o r) l r
simplify (binary og Equal l r) = binary og Equal l r
simplify (binary og (function f) l r) = binary og (function f) l r

abbrev pub fold_by : Bool → ℕ → Expression → Answer Expression
fold_by true place e = done (simplify e)
fold_by false place e = at_place place (bind (evaluate [] e) (λ v. ok (constant (origin e) v)))

-- An expression without a Column becomes its value, or the refusal for the value's error, at the expression's own cell. Only if a Column is left,
-- And and Or are simplified.
abbrev pub fold : ℕ → Expression → Answer Expression
fold place e = fold_by (contains_column (λ c. true) e) place e

-- All of an expression, operands first. Places are cells of the given sheet, so each function of folding takes the number of the first cell of what it
-- folds: operands stand before their operator, in order, and sources before a node's own expressions.
abbrev pub fold_expression : ℕ → Expression → Answer Expression
fold_expression first (constant og v) = fold first (constant og v)
fold_expression first (column og c) = fold first (column og c)
fold_expression first (unary og o x) = do
  y ← fold_expression first x
  fold (first + size x) (unary og o y)
fold_expression first (binary og o l r) = do
  x ← fold_expression first l
  y ← fold_expression (first + size l) r
  fold (first + (size l + size r)) (binary og o x y)

-- parts that stand one behind the other
abbrev pub fold_each : {A : Type 0} → (ℕ → A → Answer A) → (A → ℕ) → ℕ → List A → Answer (List A)
fold_each f cells first [] = done []
fold_each f cells first (x ∷ xs) = do
  y ← f first x
  ys ← fold_each f cells (first + cells x) xs
  done (y ∷ ys)

abbrev pub fold_optional : ℕ → Option Expression → Answer (Option Expression)
fold_optional first none = done none
fold_optional first (some e) = do
  x ← fold_expression first e
  done (some x)

abbrev pub fold_row : ℕ → Marked (List Expression) → Answer (Marked (List Expression))
fold_row first row = do
  es ← fold_each fold_expression size first row.0
  done (es, row.1)

-- a Key or an Item: its expression, and its direction or label
abbrev pub fold_part : {A : Type 0} → ℕ → Expression × A × ℕ → Answer (Expression × A × ℕ)
fold_part first part = do
  x ← fold_expression first part.0
  done (x, part.1, part.2)

abbrev pub fold_leaf : ℕ → Leaf → Answer Leaf
fold_leaf first (scan table alias predicate) = do
  p ← fold_optional first predicate
  done (scan table alias p)
fold_leaf first (lookup access table alias constants) = done (lookup access table alias constants)
fold_leaf first (nothing labels) = done (nothing labels)
fold_leaf first (values rows) = do
  folded ← fold_each fold_row row_size first rows
  done (values folded)

-- Aggregate's expressions aren't visited.
abbrev pub fold_over : ℕ → Over → Answer Over
fold_over first (filter predicate) = do
  p ← fold_expression first predicate
  done (filter p)
fold_over first (other (limit amount)) = done (other (limit amount))
fold_over first (other (offset amount)) = done (other (offset amount))
fold_over first (other (order key)) = do
  folded ← fold_each fold_part key_size first key
  done (other (order folded))
fold_over first (other (projection items)) = do
  folded ← fold_each fold_part item_size first items
  done (other (projection folded))
fold_over first (other (remap targets)) = done (other (remap targets))
fold_over first (other (aggregate group_by aggregates)) = done (other (aggregate group_by aggregates))

abbrev pub fold_join : ℕ → Join → Answer Join
fold_join first (nested_loop predicate) = do
  p ← fold_optional first predicate
  done (nested_loop p)
fold_join first (hash left_column right_column) = done (hash left_column right_column)

-- A node's own expressions are folded before its sources, the left source before the right.
abbrev pub ConstantFolding : ℕ → Node → Answer Node
ConstantFolding first (leaf og l) = do
  m ← fold_leaf first l
  done (leaf og m)
ConstantFolding first (over og o source) = do
  p ← fold_over (first + node_size source) o
  s ← ConstantFolding first source
  done (over og p s)
ConstantFolding first (join og outer j left right) = do
  k ← fold_join (first + (node_size left + node_size right)) j
  l ← ConstantFolding first left
  r ← ConstantFolding (first + node_size left) right
  done (join og outer k l r)

-- ======== FilterPushdown

abbrev pub and_with : ℕ → Expression → Option Expression → Expression
and_with new e none = e
and_with new e (some p) = and new e p

-- The node with the expression in its predicate, or none if it can't take one.
abbrev pub push_into : ℕ → Expression → Node → Option Node
push_into new e (leaf og (scan table alias predicate)) = some (leaf og (scan table alias (some (and_with new e predicate))))
push_into new e (leaf og (lookup access table alias constants)) = none
push_into new e (leaf og (nothing labels)) = none
push_into new e (leaf og (values rows)) = none
push_into new e (over og (filter predicate) source) = some (over og (filter (and new e predicate)) source)
push_into new e (over og (other o) source) = none
push_into new e (join og outer (nested_loop predicate) left right) = some (join og outer (nested_loop (some (and_with new e predicate))) left right)
push_into new e (join og outer (hash left_column right_column) left right) = none

-- What becomes of a join's source that a part of the predicate is for, and what of that part comes back.
abbrev pub pushed_or_back : Expression → Node → Option Node → Node × List Expression
pushed_or_back e source none = (source, e ∷ [])
pushed_or_back e source (some pushed) = (pushed, [])

abbrev pub push_part : ℕ → Option Expression → Node → Node × List Expression
push_part new none source = (source, [])
push_part new (some e) source = pushed_or_back e source (push_into new e source)

-- ref_left and ref_right: whether an expression refers to a column of the left source, which has n columns, or to one of the right
abbrev pub ref_left : ℕ → Expression → Bool
ref_left n e = contains_column (λ c. ltb c n) e

abbrev pub ref_right : ℕ → Expression → Bool
ref_right n e = contains_column (λ c. not (ltb c n)) e

abbrev pub cons_if : {A : Type 0} → Bool → A → List A → List A
cons_if true x xs = x ∷ xs
cons_if false x xs = xs

-- those of a list that pass a test
abbrev pub keep : {A : Type 0} → (A → Bool) → List A → List A
keep test [] = []
keep test (x ∷ xs) = cons_if (test x) x (keep test xs)

-- A conjunct that refers to no column goes to both sides.
abbrev pub for_left : ℕ → List Expression → List Expression
for_left n cnf = keep (λ e. not (ref_right n e)) cnf

abbrev pub for_right : ℕ → List Expression → List Expression
for_right n cnf = keep (λ e. not (ref_left n e)) cnf

abbrev pub for_both : ℕ → List Expression → List Expression
for_both n cnf = keep (λ e. ref_left n e && ref_right n e) cnf

abbrev pub ordered : Option ℕ → Option ℕ → Option (ℕ × ℕ)
ordered none d = none
ordered (some c) none = none
ordered (some c) (some d) = some (cond (ltb d c) (d, c) (c, d))

-- The two columns of an Equal of two columns, the lower one first.
abbrev pub equijoin : Expression → Option (ℕ × ℕ)
equijoin (constant og v) = none
equijoin (column og c) = none
equijoin (unary og o x) = none
equijoin (binary og (logical o) l r) = none
equijoin (binary og Equal l r) = ordered (is_column l) (is_column r)
equijoin (binary og (function f) l r) = none

abbrev pub is_number : ℕ → Option ℕ → Bool
is_number c none = false
is_number c (some d) = eqb d c

abbrev pub is_lookup_of : ℕ → Expression → Bool
is_lookup_of c e = is_number c (is_column_lookup e)

abbrev pub or_else : {A : Type 0} → Option A → Option A → Option A
or_else none b = b
or_else (some a) b = some a

-- The last lookup of a column: the HashMap keeps the last one that is put in.
abbrev pub last_lookup : ℕ → List Expression → Option Expression
last_lookup c [] = none
last_lookup c (e ∷ es) = or_else (last_lookup c es) (cond (is_lookup_of c e) (some e) none)

abbrev pub copied : ℕ → ℕ → Option Expression → List Expression
copied from to none = []
copied from to (some e) = replace_column from to e ∷ []

-- For each equijoin that stays, the last of these lookups of one of its columns, copied to the other column: from the lower one, which is the left
-- source's, to the higher one; and from the higher one to the lower.
abbrev pub copy_up : List Expression → Option (ℕ × ℕ) → List Expression
copy_up lookups none = []
copy_up lookups (some pair) = copied pair.0 pair.1 (last_lookup pair.0 lookups)

abbrev pub copy_down : List Expression → Option (ℕ × ℕ) → List Expression
copy_down lookups none = []
copy_down lookups (some pair) = copied pair.1 pair.0 (last_lookup pair.1 lookups)

abbrev pub flat_map : {A B : Type 0} → (A → List B) → List A → List B
flat_map f [] = []
flat_map f (x ∷ xs) = f x ++ flat_map f xs

abbrev pub push_left : ℕ → List Expression → List Expression
push_left n cnf = for_left n cnf ++ flat_map (λ e. copy_down (for_right n cnf) (equijoin e)) (for_both n cnf)

abbrev pub push_right : ℕ → List Expression → List Expression
push_right n cnf = for_right n cnf ++ flat_map (λ e. copy_up (for_left n cnf) (equijoin e)) (for_both n cnf)

abbrev pub map_optional : {A B : Type 0} → (A → B) → Option A → Option B
map_optional f none = none
map_optional f (some a) = some (f a)

-- The join whose left source has n columns, after one split of its predicate, whose conjuncts are `cnf`. What a source doesn't take comes back behind
-- the conjuncts that stay.
abbrev pub split : ℕ → ℕ → Bool → List Expression → Node → Node → Node
split og n outer cnf left right =
    let l = push_part og (and_vec og (push_left n cnf)) left in
    let r = push_part og (map_optional (shift_column_down n) (and_vec og (push_right n cnf))) right in
    join og outer (nested_loop (and_vec og (for_both n cnf ++ (l.1 ++ map (shift_column_up n) r.1)))) l.0 r.0

abbrev pub go_on : (Node → Node) → Node → Option Node → Node
go_on f node none = node
go_on f node (some pushed) = f pushed

module _ (schema : Schema) where
  unfoldable pub maybe_push_join : Node → Node
  maybe_push_join (leaf og l) = leaf og l
  maybe_push_join (over og o source) = over og o source
  maybe_push_join (join og outer (nested_loop none) left right) = join og outer (nested_loop none) left right
  maybe_push_join (join og outer (nested_loop (some predicate)) left right) = split og (columns schema left) outer (into_cnf_vec predicate) left right
  maybe_push_join (join og outer (hash left_column right_column) left right) = join og outer (hash left_column right_column) left right

  -- A Filter that its source takes is gone, and push_filters goes on with the source: maybe_push_filter, then the join rule. The number bounds the
  -- nodes of the plan, which are one fewer after each merge.
  unfoldable pub maybe_push_filter : ℕ → Node → Node
  maybe_push_filter zero node = node
  maybe_push_filter (suc n) (leaf og l) = leaf og l
  maybe_push_filter (suc n) (over og (filter predicate) source) =
      go_on (λ pushed. maybe_push_join (maybe_push_filter n pushed)) (over og (filter predicate) source) (push_into og predicate source)
  maybe_push_filter (suc n) (over og (other o) source) = over og (other o) source
  maybe_push_filter (suc n) (join og outer j left right) = join og outer j left right

  abbrev pub push_filters : ℕ → Node → Node
  push_filters n node = maybe_push_join (maybe_push_filter n node)

  -- a node, then the sources of what it became
  unfoldable pub push_filters_from : ℕ → Node → Node
  push_filters_from zero node = node
  push_filters_from (suc n) node = map_sources (push_filters_from n) (push_filters (suc n) node)

  -- No plan has more nodes than cells.
  unfoldable pub FilterPushdown : Node → Node
  FilterPushdown node = push_filters_from (node_size node) node

-- ======== IndexLookup

-- The conjunct that a lookup is made of, its column, and the other conjuncts.
pub record Found : Type 0 where
  pub column_number : ℕ
  pub conjunct : Expression
  pub remaining : List Expression

abbrev pub filtered : ℕ → Option Expression → Node → Node
filtered og none node = node
filtered og (some predicate) node = over og (filter predicate) node

module _ (schema : Schema) (table : ℕ) where
  -- whether a lookup can go by this column: it is the primary key or has an index
  abbrev pub has_index : ℕ → Bool
  has_index c = eqb c (table_of schema table).primary_key || (column_of schema table c).index

  abbrev pub with_index : Option ℕ → Option ℕ
  with_index none = none
  with_index (some c) = cond (has_index c) (some c) none

  abbrev pub found_here : Expression → List Expression → Option ℕ → Option Found → Option Found
  found_here e es (some c) later = some (record { column_number = c; conjunct = e; remaining = es })
  found_here e es none none = none
  found_here e es none (some f) = some (record { column_number = f.column_number; conjunct = f.conjunct; remaining = e ∷ f.remaining })

  -- The first conjunct that is such a lookup. The key has no priority over an index.
  abbrev pub find_lookup : List Expression → Option Found
  find_lookup [] = none
  find_lookup (e ∷ es) = found_here e es (with_index (is_column_lookup e)) (find_lookup es)

  abbrev pub access : ℕ → Access
  access c = cond (eqb c (table_of schema table).primary_key) by_key (by_index c)

  -- Where no lookup is found, the ORIGINAL filter stays.
  abbrev pub lookup_or_scan : ℕ → Option ℕ → Expression → Option Found → Node
  lookup_or_scan og alias predicate none = leaf og (scan table alias (some predicate))
  lookup_or_scan og alias predicate (some f) =
      filtered og (and_vec og f.remaining) (leaf og (lookup (access f.column_number) table alias (into_column_values f.conjunct)))

module _ (schema : Schema) where
  unfoldable pub index_lookup : ℕ → Leaf → Node
  index_lookup og (scan table alias none) = leaf og (scan table alias none)
  index_lookup og (scan table alias (some predicate)) = lookup_or_scan schema table og alias predicate (find_lookup schema table (into_cnf_vec predicate))
  index_lookup og (lookup access table alias constants) = leaf og (lookup access table alias constants)
  index_lookup og (nothing labels) = leaf og (nothing labels)
  index_lookup og (values rows) = leaf og (values rows)

  -- Only a leaf is rewritten, and what it becomes holds no scan.
  unfoldable pub IndexLookup : Node → Node
  IndexLookup (leaf og l) = index_lookup og l
  IndexLookup (over og o source) = over og o (IndexLookup source)
  IndexLookup (join og outer j left right) = join og outer j (IndexLookup left) (IndexLookup right)

-- ======== HashJoin

abbrev pub hash_pair : ℕ → Expression → Option (ℕ × ℕ) → Join
hash_pair n predicate none = nested_loop (some predicate)
hash_pair n predicate (some pair) =
    cond (ltb pair.0 n && not (ltb pair.1 n)) (hash pair.0 (pair.1 - n)) (nested_loop (some predicate))

-- hash_join of a join whose left source has n columns. Document 01's departure from the Rust: it acts only if one column is on each side.
abbrev pub hash_join : ℕ → Join → Join
hash_join n (nested_loop none) = nested_loop none
hash_join n (nested_loop (some predicate)) = hash_pair n predicate (equijoin predicate)
hash_join n (hash left_column right_column) = hash left_column right_column

abbrev pub HashJoin : Schema → Node → Node
HashJoin schema (leaf og l) = leaf og l
HashJoin schema (over og o source) = over og o (HashJoin schema source)
HashJoin schema (join og outer j left right) = join og outer (hash_join (columns schema left) j) (HashJoin schema left) (HashJoin schema right)

-- ======== ShortCircuit

-- What is known of a predicate that is a constant: true, or false or Null; nothing of any other.
pub data Verdict : Type 0 where
  always never unknown : Verdict

abbrev pub verdict : Expression → Verdict
verdict (constant og (truth True)) = always
verdict (constant og (truth Unknown)) = never
verdict (constant og (truth False)) = never
verdict (constant og (datum d)) = unknown
verdict (column og c) = unknown
verdict (unary og o x) = unknown
verdict (binary og o l r) = unknown

abbrev pub optional_verdict : Option Expression → Verdict
optional_verdict none = unknown
optional_verdict (some e) = verdict e

abbrev pub is_always : Verdict → Bool
is_always always = true
is_always never = false
is_always unknown = false

abbrev pub is_never : Verdict → Bool
is_never always = false
is_never never = true
is_never unknown = false

-- a predicate that is always true is removed
abbrev pub remove_true : Option Expression → Option Expression
remove_true predicate = cond (is_always (optional_verdict predicate)) none predicate

abbrev pub is_unlabelled : Label → Bool
is_unlabelled unlabelled = true
is_unlabelled (unqualified name) = false
is_unlabelled (qualified table name) = false

abbrev pub is_column_number : ℕ → Expression → Bool
is_column_number i (constant og v) = false
is_column_number i (column og c) = eqb c i
is_column_number i (unary og o x) = false
is_column_number i (binary og o l r) = false

-- columns i, i + 1, .., without an alias
abbrev pub pass_through : ℕ → List (Expression × Label × ℕ) → Bool
pass_through i [] = true
pass_through i (item ∷ items) = (is_column_number i item.0 && is_unlabelled item.1) && pass_through (suc i) items

abbrev pub is_empty_list : {A : Type 0} → List A → Bool
is_empty_list [] = true
is_empty_list (x ∷ xs) = false

abbrev pub is_nothing : Node → Bool
is_nothing (leaf og (scan table alias predicate)) = false
is_nothing (leaf og (lookup access table alias constants)) = false
is_nothing (leaf og (nothing labels)) = true
is_nothing (leaf og (values rows)) = false
is_nothing (over og o source) = false
is_nothing (join og outer j left right) = false

-- of a node over a source that is a Nothing or not: a Limit above 0, a Remap and an Aggregate over a Nothing stay
abbrev pub is_empty_other : Other → Bool → Bool
is_empty_other (limit zero) source = true
is_empty_other (limit (suc n)) source = false
is_empty_other (offset amount) source = source
is_empty_other (order key) source = source
is_empty_other (projection items) source = source
is_empty_other (remap targets) source = false
is_empty_other (aggregate group_by aggregates) source = false

abbrev pub is_empty_join : Join → Bool
is_empty_join (nested_loop predicate) = is_never (optional_verdict predicate)
is_empty_join (hash left_column right_column) = false

-- is_empty: the node can't produce anything
abbrev pub is_empty : Node → Bool
is_empty (leaf og (scan table alias predicate)) = is_never (optional_verdict predicate)
is_empty (leaf og (lookup access table alias constants)) = is_empty_list constants
is_empty (leaf og (nothing labels)) = false
is_empty (leaf og (values rows)) = is_empty_list rows
is_empty (over og (filter predicate) source) = is_never (verdict predicate) || is_nothing source
is_empty (over og (other o) source) = is_empty_other o (is_nothing source)
is_empty (join og outer j left right) = is_empty_join j || (is_nothing left || is_nothing right)

module _ (schema : Schema) where
  -- a Projection that passes its source's columns through
  abbrev pub is_noop : List (Expression × Label × ℕ) → Node → Bool
  is_noop items source = eqb (columns schema source) (length items) && pass_through 0 items

  -- the first part of short_circuit: what is always true, or changes nothing, is removed
  abbrev pub remove_useless : Node → Node
  remove_useless (leaf og (scan table alias predicate)) = leaf og (scan table alias (remove_true predicate))
  remove_useless (leaf og (lookup access table alias constants)) = leaf og (lookup access table alias constants)
  remove_useless (leaf og (nothing labels)) = leaf og (nothing labels)
  remove_useless (leaf og (values rows)) = leaf og (values rows)
  remove_useless (over og (filter predicate) source) = cond (is_always (verdict predicate)) source (over og (filter predicate) source)
  remove_useless (over og (other (limit amount)) source) = over og (other (limit amount)) source
  remove_useless (over og (other (offset amount)) source) = over og (other (offset amount)) source
  remove_useless (over og (other (order key)) source) = over og (other (order key)) source
  remove_useless (over og (other (projection items)) source) = cond (is_noop items source) source (over og (other (projection items)) source)
  remove_useless (over og (other (remap targets)) source) = over og (other (remap targets)) source
  remove_useless (over og (other (aggregate group_by aggregates)) source) = over og (other (aggregate group_by aggregates)) source
  remove_useless (join og outer (nested_loop predicate) left right) = join og outer (nested_loop (remove_true predicate)) left right
  remove_useless (join og outer (hash left_column right_column) left right) = join og outer (hash left_column right_column) left right

  -- An emptied node becomes a Nothing that keeps its labels.
  abbrev pub empty_or_node : Bool → Node → Node
  empty_or_node true node = leaf (node_origin node) (nothing (map (λ (l : Label). (l, node_origin node)) (column_labels schema node)))
  empty_or_node false node = node

  abbrev pub short_circuit : Node → Node
  short_circuit node = empty_or_node (is_empty (remove_useless node)) (remove_useless node)

  -- sources before the node
  abbrev pub ShortCircuit : Node → Node
  ShortCircuit (leaf og l) = short_circuit (leaf og l)
  ShortCircuit (over og o source) = short_circuit (over og o (ShortCircuit source))
  ShortCircuit (join og outer j left right) = short_circuit (join og outer j (ShortCircuit left) (ShortCircuit right))

-- ======== OPTIMIZERS

abbrev pub Optimizer : Type 0
Optimizer = Node → Answer Node

-- one optimizer by its number; a pass asked for that is not one of the list's, counted from 1, is refusal 1
abbrev pub pass_of : List Optimizer → ℕ → Optimizer
pass_of optimizers zero node = refused 1 0
pass_of optimizers (suc n) node = get_or optimizers n (λ m. refused 1 0) node

-- the optimizers in turn, `try_fold` in the Rust
abbrev pub in_turn : List Optimizer → Optimizer
in_turn [] node = done node
in_turn (f ∷ fs) node = f node >>= in_turn fs

module _ (schema : Schema) where
  abbrev pub OPTIMIZERS : List Optimizer
  OPTIMIZERS =
      ConstantFolding 0
      ∷ (λ node. done (FilterPushdown schema node))
      ∷ (λ node. done (IndexLookup schema node))
      ∷ (λ node. done (HashJoin schema node))
      ∷ (λ node. done (ShortCircuit schema node))
      ∷ []

  abbrev pub pass : ℕ → Optimizer
  pass = pass_of OPTIMIZERS

  abbrev pub optimize : Optimizer
  optimize = in_turn OPTIMIZERS
