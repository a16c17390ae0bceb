-- Which refusals there are: `check` gives 2 to 10 only, ConstantFolding 11 to 13, and the passes that ask for room 14.
use Prim.Native.Nat.{ℕ, zero, suc, ◌+◌, ◌≤◌}
use Rattle.std.proofs.Common.{arith}
use Rattle.std.specs.Prelude.{◌≡◌, refl, Bool, true, false, List, [], ◌∷◌, leb}
use Rattle.std.proofs.Math.Option.{Option, none, some}
use Rattle.value.specs.Value.{Error, overflow, division_by_zero, mismatch, number, Result, ok, err}
use Rattle.sql.specs.Schema.{Schema}
use Rattle.sql.specs.Expression.{Marked, origin, Expression, constant, column, unary, binary, size, bind, evaluate, contains_column}
use Rattle.sql.specs.Plan.{Leaf, scan, lookup, nothing, values, limit, offset, order, projection, remap, aggregate, Over, filter, other, Join, nested_loop, hash, Node, leaf, over, join, row_size, item_size, key_size, node_size, over_size, join_size}
use Rattle.sql.specs.Answer.{Answer, done, refused, ◌>>=◌, at_place}
use Rattle.sql.specs.Optimizer.{fold_by, fold, fold_expression, fold_each, fold_optional, fold_row, fold_part, fold_leaf, fold_over, fold_join, ConstantFolding, push_into, Optimizer, in_turn}
use Rattle.sql.specs.Optimizer as Optimizer
use Rattle.sql.specs.Room.{if_room, join_predicate, scan_filter, go_on}
use Rattle.sql.specs.Room
use Rattle.sheet.specs.Parts.{length_ok, edition_ok, parts_ok, bad_record, cell_count}
use Rattle.sheet.specs.Cell.{Tag, unknown, not_carried, carried, tag_of, cell, bad_number, bad_cell}
use Rattle.sheet.specs.Tree.{expression_tree, label_tree, item_tree, key_tree, target_tree, agg_tree, row_tree, node_tree, Stack, Read, lacking, stack, read}
use Rattle.sheet.specs.Scope.{outside, target_repeated}
use Rattle.sheet.specs.Check.{text, schema, cells_of, test, unfound, cells_checked, sole_node, one_plan, in_scope, plan}
use Rattle.sheet_laws.specs.Fits.{All}
use Rattle.sound.specs.Lists.{getD_within}
use Rattle.sound.specs.Refusals.{RefusedBy, FromTo, C, F, R}

pub refused_then : {A B : Type 0} (N : ℕ → Type 0) (r : Answer A) (f : A → Answer B) → RefusedBy N r → ((a : A) → RefusedBy N (f a)) → RefusedBy N (r >>= f)
refused_then N (done a) f h k = k a
refused_then N (refused number place) f h k = h

pub refused_weaker : {A : Type 0} (M N : ℕ → Type 0) → ((k : ℕ) → M k → N k) → (r : Answer A) → RefusedBy M r → RefusedBy N r
refused_weaker M N f (done a) h = tt
refused_weaker M N f (refused number place) h = f number h

tested : {A : Type 0} (b : Bool) (number : ℕ) (next : Answer A) → C number → RefusedBy C next → RefusedBy C (test b number next)
tested true number next n h = h
tested false number next n h = n

if_unfound : {A : Type 0} (o : Option ℕ) (number : ℕ) (next : Answer A) → C number → RefusedBy C next → RefusedBy C (unfound o number next)
if_unfound none number next n h = h
if_unfound (some place) number next n h = n

cell_number : (t : Tag) → C (bad_number t)
cell_number unknown = (omega arith, omega arith)
cell_number not_carried = (omega arith, omega arith)
cell_number (carried flags a b c) = (omega arith, omega arith)

if_cells : {A : Type 0} (s : List ℕ) (o : Option ℕ) (next : Answer A) → RefusedBy C next → RefusedBy C (cells_checked s o next)
if_cells s none next h = h
if_cells s (some place) next h = cell_number (tag_of (cell s place).tag)

sole : (count : ℕ) (st : Stack) → RefusedBy C (sole_node count st)
sole count [] = (omega arith, omega arith)
sole count (node_tree n ∷ []) = tt
sole count (node_tree n ∷ t ∷ st) = (omega arith, omega arith)
sole count (expression_tree e ∷ st) = (omega arith, omega arith)
sole count (label_tree l ∷ st) = (omega arith, omega arith)
sole count (item_tree i ∷ st) = (omega arith, omega arith)
sole count (key_tree k ∷ st) = (omega arith, omega arith)
sole count (target_tree t ∷ st) = (omega arith, omega arith)
sole count (agg_tree a ∷ st) = (omega arith, omega arith)
sole count (row_tree es ∷ st) = (omega arith, omega arith)

one : (count : ℕ) (r : Read) → RefusedBy C (one_plan count r)
one count (lacking place) = (omega arith, omega arith)
one count (stack st) = sole count st

scoped : (tables : Schema) (n : Node) → RefusedBy C (in_scope tables n)
scoped tables n =
    if_unfound (outside tables 0 n) 9 (unfound (target_repeated 0 n) 10 (done n)) (omega arith, omega arith)
    (if_unfound (target_repeated 0 n) 10 (done n) (omega arith, omega arith) tt)

pub plan_refused : (s : List ℕ) → RefusedBy (FromTo 2 10) (plan s)
unfolding plan
plan_refused s =
    tested (length_ok s) 2 _ (omega arith, omega arith)
    (tested (edition_ok s) 3 _ (omega arith, omega arith)
    (tested (parts_ok s) 4 _ (omega arith, omega arith)
    (if_unfound (bad_record s) 5 _ (omega arith, omega arith)
    (if_cells s (bad_cell s) _
    (refused_then C (one_plan (cell_count s) (read (text s) 0 (cells_of s) [])) (in_scope (schema s)) (one (cell_count s) (read (text s) 0 (cells_of s) [])) (scoped (schema s)))))))

error_number : (e : Error) → F (number e)
error_number overflow = (omega arith, omega arith)
error_number division_by_zero = (omega arith, omega arith)
error_number mismatch = (omega arith, omega arith)

placed : {A : Type 0} (place : ℕ) (r : Result A) → RefusedBy F (at_place place r)
placed place (ok a) = tt
placed place (err e) = error_number e

fold_refused : (place : ℕ) (e : Expression) → RefusedBy F (fold place e)
fold_refused place e = go (contains_column (λ c. true) e)
  where
    go : (b : Bool) → RefusedBy F (fold_by b place e)
    go true = tt
    go false = placed place (bind (evaluate [] e) (λ v. ok (constant (origin e) v)))

expression_refused : (first : ℕ) (e : Expression) → RefusedBy F (fold_expression first e)
expression_refused first (constant og v) = fold_refused first (constant og v)
expression_refused first (column og c) = fold_refused first (column og c)
expression_refused first (unary og o x) =
    refused_then F (fold_expression first x) (λ y. fold (first + size x) (unary og o y)) (expression_refused first x) (λ y. fold_refused (first + size x) (unary og o y))
expression_refused first (binary og o l r) =
    let place = first + (size l + size r) in
    refused_then F (fold_expression first l) (λ x. fold_expression (first + size l) r >>= λ y. fold place (binary og o x y)) (expression_refused first l)
    (λ x. refused_then F (fold_expression (first + size l) r) (λ y. fold place (binary og o x y)) (expression_refused (first + size l) r) (λ y. fold_refused place (binary og o x y)))

each_refused : {A : Type 0} (f : ℕ → A → Answer A) (cells : A → ℕ) → ((first : ℕ) (x : A) → RefusedBy F (f first x))
    → (first : ℕ) (xs : List A) → RefusedBy F (fold_each f cells first xs)
each_refused f cells h first [] = tt
each_refused f cells h first (x ∷ xs) =
    refused_then F (f first x) (λ y. fold_each f cells (first + cells x) xs >>= λ ys. done (y ∷ ys)) (h first x)
    (λ y. refused_then F (fold_each f cells (first + cells x) xs) (λ ys. done (y ∷ ys)) (each_refused f cells h (first + cells x) xs) (λ ys. tt))

optional_refused : (first : ℕ) (p : Option Expression) → RefusedBy F (fold_optional first p)
optional_refused first none = tt
optional_refused first (some e) = refused_then F (fold_expression first e) (λ x. done (some x)) (expression_refused first e) (λ x. tt)

part_refused : {A : Type 0} (first : ℕ) (p : Expression × A × ℕ) → RefusedBy F (fold_part first p)
part_refused first p = refused_then F (fold_expression first p.0) (λ x. done (x, p.1, p.2)) (expression_refused first p.0) (λ x. tt)

row_refused : (first : ℕ) (row : Marked (List Expression)) → RefusedBy F (fold_row first row)
row_refused first row =
    refused_then F (fold_each fold_expression size first row.0) (λ es. done (es, row.1)) (each_refused fold_expression size expression_refused first row.0) (λ es. tt)

leaf_refused : (first : ℕ) (l : Leaf) → RefusedBy F (fold_leaf first l)
leaf_refused first (scan t al p) = refused_then F (fold_optional first p) (λ q. done (scan t al q)) (optional_refused first p) (λ q. tt)
leaf_refused first (lookup a t al vs) = tt
leaf_refused first (nothing ls) = tt
leaf_refused first (values rs) =
    refused_then F (fold_each fold_row row_size first rs) (λ q. done (values q)) (each_refused fold_row row_size row_refused first rs) (λ q. tt)

over_refused : (first : ℕ) (o : Over) → RefusedBy F (fold_over first o)
over_refused first (filter e) = refused_then F (fold_expression first e) (λ p. done (filter p)) (expression_refused first e) (λ p. tt)
over_refused first (other (limit k)) = tt
over_refused first (other (offset k)) = tt
over_refused first (other (order ks)) = refused_then F (fold_each fold_part key_size first ks) (λ q. done (other (order q))) (each_refused fold_part key_size part_refused first ks) (λ q. tt)
over_refused first (other (projection is)) =
    refused_then F (fold_each fold_part item_size first is) (λ q. done (other (projection q))) (each_refused fold_part item_size part_refused first is) (λ q. tt)
over_refused first (other (remap ts)) = tt
over_refused first (other (aggregate es gs)) = tt

join_refused : (first : ℕ) (j : Join) → RefusedBy F (fold_join first j)
join_refused first (nested_loop p) = refused_then F (fold_optional first p) (λ q. done (nested_loop q)) (optional_refused first p) (λ q. tt)
join_refused first (hash i j) = tt

pub folding_refused : (first : ℕ) (n : Node) → RefusedBy (FromTo 11 13) (ConstantFolding first n)
folding_refused first (leaf og l) = refused_then F (fold_leaf first l) (λ m. done (leaf og m)) (leaf_refused first l) (λ m. tt)
folding_refused first (over og o s) =
    refused_then F (fold_over (first + node_size s) o) (λ p. ConstantFolding first s >>= λ t. done (over og p t)) (over_refused (first + node_size s) o)
    (λ p. refused_then F (ConstantFolding first s) (λ t. done (over og p t)) (folding_refused first s) (λ t. tt))
folding_refused first (join og outer j a b) =
    refused_then F (fold_join (first + (node_size a + node_size b)) j)
    (λ k. ConstantFolding first a >>= λ l. ConstantFolding (first + node_size a) b >>= λ r. done (join og outer k l r)) (join_refused (first + (node_size a + node_size b)) j)
    (λ k. refused_then F (ConstantFolding first a) (λ l. ConstantFolding (first + node_size a) b >>= λ r. done (join og outer k l r)) (folding_refused first a)
    (λ l. refused_then F (ConstantFolding (first + node_size a) b) (λ r. done (join og outer k l r)) (folding_refused (first + node_size a) b) (λ r. tt)))

room_refused : (b : Bool) (n : Node) → RefusedBy R (if_room b n)
room_refused true n = tt
room_refused false n = refl

module _ (room : ℕ) (schema : Schema) where
  step_refused : (rest : ℕ) (n : Node) → RefusedBy R (Room.step room schema rest n)
  step_refused rest n = room_refused (leb (rest + node_size n) room) n

  rule_refused : (rest : ℕ) (n : Node) → RefusedBy R (Room.maybe_push_join room schema rest n)
  unfolding Room.maybe_push_join
  rule_refused rest n =
      let fits = Room.normal_forms_fit room schema (join_predicate n) in
      refused_then R (if_room fits n) (λ k. Room.step room schema rest (Optimizer.maybe_push_join schema k)) (room_refused fits n)
      (λ k. step_refused rest (Optimizer.maybe_push_join schema k))

  filter_refused : (k rest : ℕ) (n : Node) → RefusedBy R (Room.maybe_push_filter room schema k rest n)
  unfolding Room.maybe_push_filter
  filter_refused zero rest n = tt
  filter_refused (suc k) rest (leaf og l) = tt
  filter_refused (suc k) rest (over og (filter p) s) = go (push_into og p s) (filter_refused k rest)
    where
      on : Node → Answer Node
      on pushed = Room.step room schema rest pushed >>= Room.maybe_push_filter room schema k rest >>= Room.maybe_push_join room schema rest

      go : (o : Option Node) → ((m : Node) → RefusedBy R (Room.maybe_push_filter room schema k rest m)) → RefusedBy R (go_on on (over og (filter p) s) o)
      go none ih = tt
      go (some m) ih =
          refused_then R (Room.step room schema rest m >>= Room.maybe_push_filter room schema k rest) (Room.maybe_push_join room schema rest)
          (refused_then R (Room.step room schema rest m) (Room.maybe_push_filter room schema k rest) (step_refused rest m) ih) (rule_refused rest)
  filter_refused (suc k) rest (over og (other o) s) = tt
  filter_refused (suc k) rest (join og outer j a b) = tt

  -- a node over a source, and a join, whose sources are visited in turn
  module _ (f : ℕ → Node → Answer Node) where
    abbrev Source : Node → Type 0
    Source s = (rest : ℕ) → RefusedBy R (f rest s)

    visited : (og rest : ℕ) (o : Over) (s : Node) → Source s → RefusedBy R (f (rest + over_size o) s >>= λ t. done (over og o t))
    visited og rest o s h = refused_then R (f (rest + over_size o) s) (λ t. done (over og o t)) (h (rest + over_size o)) (λ t. tt)

    both_visited : (og rest : ℕ) (outer : Bool) (j : Join) (a b : Node) → Source a → Source b
        → RefusedBy R (f (rest + (node_size b + join_size j)) a >>= λ l. f (rest + (node_size l + join_size j)) b >>= λ r. done (join og outer j l r))
    both_visited og rest outer j a b h k =
        refused_then R (f (rest + (node_size b + join_size j)) a) (λ l. f (rest + (node_size l + join_size j)) b >>= λ r. done (join og outer j l r)) (h (rest + (node_size b + join_size j)))
        (λ l. refused_then R (f (rest + (node_size l + join_size j)) b) (λ r. done (join og outer j l r)) (k (rest + (node_size l + join_size j))) (λ r. tt))

    sources_refused : ((rest : ℕ) (n : Node) → RefusedBy R (f rest n)) → (rest : ℕ) (n : Node) → RefusedBy R (Room.each_source room schema f rest n)
    sources_refused h rest (leaf og l) = tt
    sources_refused h rest (over og o s) = visited og rest o s (λ r. h r s)
    sources_refused h rest (join og outer j a b) = both_visited og rest outer j a b (λ r. h r a) (λ r. h r b)

  from_refused : (k rest : ℕ) (n : Node) → RefusedBy R (Room.push_filters_from room schema k rest n)
  unfolding Room.push_filters_from
  from_refused zero rest n = tt
  from_refused (suc k) rest n =
      refused_then R (Room.push_filters room schema (suc k) rest n) (Room.each_source room schema (Room.push_filters_from room schema k) rest)
      (refused_then R (Room.maybe_push_filter room schema (suc k) rest n) (Room.maybe_push_join room schema rest) (filter_refused (suc k) rest n) (rule_refused rest))
      (sources_refused (Room.push_filters_from room schema k) (from_refused k) rest)

  pub pushdown_refused : (rest : ℕ) (n : Node) → RefusedBy (λ k. k ≡ 14) (Room.FilterPushdown room schema rest n)
  unfolding Room.FilterPushdown
  pushdown_refused rest n = from_refused (node_size n) rest n

  scan_refused : (og rest : ℕ) (l : Leaf) → RefusedBy R (Room.index_lookup room schema og rest l)
  unfolding Room.index_lookup
  scan_refused og rest l =
      let fits = Room.normal_forms_fit room schema (scan_filter l) in
      refused_then R (if_room fits (leaf og l)) (λ k. Room.step room schema rest (Optimizer.index_lookup schema og l)) (room_refused fits (leaf og l))
      (λ k. step_refused rest (Optimizer.index_lookup schema og l))

  pub lookup_refused : (rest : ℕ) (n : Node) → RefusedBy (λ k. k ≡ 14) (Room.IndexLookup room schema rest n)
  unfolding Room.IndexLookup
  lookup_refused rest (leaf og l) = scan_refused og rest l
  lookup_refused rest (over og o s) = visited (Room.IndexLookup room schema) og rest o s (λ r. lookup_refused r s)
  lookup_refused rest (join og outer j a b) = both_visited (Room.IndexLookup room schema) og rest outer j a b (λ r. lookup_refused r a) (λ r. lookup_refused r b)

  short_refused : (rest : ℕ) (n : Node) → RefusedBy R (Room.short_circuit room schema rest n)
  unfolding Room.short_circuit
  short_refused rest n = step_refused rest (Optimizer.short_circuit schema n)

  pub circuit_refused : (rest : ℕ) (n : Node) → RefusedBy (λ k. k ≡ 14) (Room.ShortCircuit room schema rest n)
  unfolding Room.ShortCircuit
  circuit_refused rest (leaf og l) = short_refused rest (leaf og l)
  circuit_refused rest (over og o s) =
      refused_then R (Room.ShortCircuit room schema (rest + over_size o) s) (λ t. Room.short_circuit room schema rest (over og o t)) (circuit_refused (rest + over_size o) s)
      (λ t. short_refused rest (over og o t))
  circuit_refused rest (join og outer j a b) =
      let on_left = rest + (node_size b + join_size j) in
      refused_then R (Room.ShortCircuit room schema on_left a)
      (λ l. Room.ShortCircuit room schema (rest + (node_size l + join_size j)) b >>= λ r. Room.short_circuit room schema rest (join og outer j l r)) (circuit_refused on_left a)
      (λ l. refused_then R (Room.ShortCircuit room schema (rest + (node_size l + join_size j)) b) (λ r. Room.short_circuit room schema rest (join og outer j l r))
      (circuit_refused (rest + (node_size l + join_size j)) b) (λ r. short_refused rest (join og outer j l r)))

  -- ---- one pass, and all five

  abbrev Refuses : Optimizer → Type 0
  Refuses f = (n : Node) → RefusedBy (FromTo 11 14) (f n)

  for_room : (r : Answer Node) → RefusedBy R r → RefusedBy (FromTo 11 14) r
  for_room = refused_weaker R (FromTo 11 14) (λ k h. (omega arith, omega arith))

  all_refuse : All Refuses (Room.OPTIMIZERS room schema)
  all_refuse = (
    λ n. refused_weaker F (FromTo 11 14) (λ k h. let (p, q) = h in (p, omega arith)) (ConstantFolding 0 n) (folding_refused 0 n),
    (
      λ n. for_room (Room.FilterPushdown room schema 0 n) (pushdown_refused 0 n),
      (
        λ n. for_room (Room.IndexLookup room schema 0 n) (lookup_refused 0 n),
        (λ n. tt, (λ n. for_room (Room.ShortCircuit room schema 0 n) (circuit_refused 0 n), tt)),
      ),
    ),
  )

  -- A pass that there is, 1 to 5, is refused by 11 to 14 only.
  pub pass_refused : (k : ℕ) → 1 ≤ k → k ≤ 5 → (n : Node) → RefusedBy (FromTo 11 14) (Room.pass room schema k n)
  pass_refused zero p q n = absurd (omega arith)
  pass_refused (suc k) p q n = getD_within Refuses (Room.OPTIMIZERS room schema) k (λ m. refused 1 0) all_refuse (omega arith) n

  in_turn_refused : (fs : List Optimizer) → All Refuses fs → Refuses (in_turn fs)
  in_turn_refused [] h n = tt
  in_turn_refused (f ∷ fs) h n = refused_then (FromTo 11 14) (f n) (in_turn fs) (h.0 n) (in_turn_refused fs h.1)

  pub optimize_refused : (n : Node) → RefusedBy (FromTo 11 14) (Room.optimize room schema n)
  optimize_refused = in_turn_refused (Room.OPTIMIZERS room schema) all_refuse
