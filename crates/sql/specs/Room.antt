-- The optimizers with room. Document 01 refuses, with 14 and place 0, if and only if the plan after some step, or a result of into_nnf or into_cnf, has
-- over 2,048 cells; a step is one visit of one node, one merge of a Filter into what is below, or one split of a join predicate.
--
-- The size that counts is that of the whole plan at that moment. So each function takes `rest`, the number of cells of the plan that lie outside the
-- node, and asks after each step whether rest and the node fit. The left source is visited with the right one and the node's own cells in `rest`, the
-- right source with what the left one has become.
use Rattle.std.specs.Prelude.{ℕ, zero, suc, ◌+◌, Bool, true, false, ◌&&◌, List, [], ◌∷◌, leb}
use Rattle.std.proofs.Math.Option.{Option, none, some}
use Rattle.sql.specs.Schema.{Schema}
use Rattle.sql.specs.Expression.{Expression, size, into_nnf, into_cnf}
use Rattle.sql.specs.Plan.{Leaf, scan, lookup, nothing, values, Over, filter, other, Join, nested_loop, hash, Node, leaf, over, join, over_size, join_size, node_size}
use Rattle.sql.specs.Answer.{Answer, done, refused, ◌>>=◌}
use Rattle.sql.specs.Optimizer.{push_into, Optimizer, pass_of, in_turn}
use Rattle.sql.specs.Optimizer

-- the cells that a sheet, and so a plan, can have
abbrev pub max_cells : ℕ
max_cells = 2048

abbrev pub if_room : Bool → Node → Answer Node
if_room true node = done node
if_room false node = refused 14 0

abbrev pub join_predicate : Node → Option Expression
join_predicate (leaf og l) = none
join_predicate (over og o source) = none
join_predicate (join og outer (nested_loop predicate) left right) = predicate
join_predicate (join og outer (hash left_column right_column) left right) = none

abbrev pub scan_filter : Leaf → Option Expression
scan_filter (scan table alias predicate) = predicate
scan_filter (lookup access table alias constants) = none
scan_filter (nothing labels) = none
scan_filter (values rows) = none

abbrev pub go_on : (Node → Answer Node) → Node → Option Node → Answer Node
go_on f node none = done node
go_on f node (some pushed) = f pushed

-- `room` is the number of cells that there is room for: max_cells in document 01.
module _ (room : ℕ) (schema : Schema) where
  -- whether the results of into_nnf and into_cnf fit
  abbrev pub normal_forms_fit : Option Expression → Bool
  normal_forms_fit none = true
  normal_forms_fit (some e) = leb (size (into_nnf e)) room && leb (size (into_cnf e)) room

  -- the plan after a step that makes this of the node
  abbrev pub step : ℕ → Node → Answer Node
  step rest node = if_room (leb (rest + node_size node) room) node

  -- ======== FilterPushdown

  unfoldable pub maybe_push_join : ℕ → Node → Answer Node
  maybe_push_join rest node =
      if_room (normal_forms_fit (join_predicate node)) node >>= λ n. step rest (Optimizer.maybe_push_join schema n)

  unfoldable pub maybe_push_filter : ℕ → ℕ → Node → Answer Node
  maybe_push_filter zero rest node = done node
  maybe_push_filter (suc n) rest (leaf og l) = done (leaf og l)
  maybe_push_filter (suc n) rest (over og (filter predicate) source) =
      go_on (λ pushed. step rest pushed >>= maybe_push_filter n rest >>= maybe_push_join rest) (over og (filter predicate) source) (push_into og predicate source)
  maybe_push_filter (suc n) rest (over og (other o) source) = done (over og (other o) source)
  maybe_push_filter (suc n) rest (join og outer j left right) = done (join og outer j left right)

  abbrev pub push_filters : ℕ → ℕ → Node → Answer Node
  push_filters n rest node = maybe_push_filter n rest node >>= maybe_push_join rest

  -- the sources of a node, left before right
  abbrev pub each_source : (ℕ → Node → Answer Node) → ℕ → Node → Answer Node
  each_source f rest (leaf og l) = done (leaf og l)
  each_source f rest (over og o source) = do
    s ← f (rest + over_size o) source
    done (over og o s)
  each_source f rest (join og outer j left right) = do
    l ← f (rest + (node_size right + join_size j)) left
    r ← f (rest + (node_size l + join_size j)) right
    done (join og outer j l r)

  unfoldable pub push_filters_from : ℕ → ℕ → Node → Answer Node
  push_filters_from zero rest node = done node
  push_filters_from (suc n) rest node = push_filters (suc n) rest node >>= each_source (push_filters_from n) rest

  unfoldable pub FilterPushdown : ℕ → Node → Answer Node
  FilterPushdown rest node = push_filters_from (node_size node) rest node

  -- ======== IndexLookup. A scan's normal form counts for room also where nothing is found and the original filter stays.

  unfoldable pub index_lookup : ℕ → ℕ → Leaf → Answer Node
  index_lookup og rest l = if_room (normal_forms_fit (scan_filter l)) (leaf og l) >>= λ n. step rest (Optimizer.index_lookup schema og l)

  unfoldable pub IndexLookup : ℕ → Node → Answer Node
  IndexLookup rest (leaf og l) = index_lookup og rest l
  IndexLookup rest (over og o source) = do
    s ← IndexLookup (rest + over_size o) source
    done (over og o s)
  IndexLookup rest (join og outer j left right) = do
    l ← IndexLookup (rest + (node_size right + join_size j)) left
    r ← IndexLookup (rest + (node_size l + join_size j)) right
    done (join og outer j l r)

  -- ======== ShortCircuit: sources before the node

  unfoldable pub short_circuit : ℕ → Node → Answer Node
  short_circuit rest node = step rest (Optimizer.short_circuit schema node)

  unfoldable pub ShortCircuit : ℕ → Node → Answer Node
  ShortCircuit rest (leaf og l) = short_circuit rest (leaf og l)
  ShortCircuit rest (over og o source) = ShortCircuit (rest + over_size o) source >>= λ s. short_circuit rest (over og o s)
  ShortCircuit rest (join og outer j left right) = do
    l ← ShortCircuit (rest + (node_size right + join_size j)) left
    r ← ShortCircuit (rest + (node_size l + join_size j)) right
    short_circuit rest (join og outer j l r)

  -- ======== one optimizer by its number, and the five in turn

  -- ConstantFolding and HashJoin put no more cells in the place of what they rewrite (crate room), so there is room for each of their steps.
  abbrev pub OPTIMIZERS : List Optimizer
  OPTIMIZERS =
      Optimizer.ConstantFolding 0
      ∷ FilterPushdown 0
      ∷ IndexLookup 0
      ∷ (λ node. done (Optimizer.HashJoin schema node))
      ∷ ShortCircuit 0
      ∷ []

  abbrev pub pass : ℕ → Optimizer
  pass = pass_of OPTIMIZERS

  abbrev pub optimize : Optimizer
  optimize = in_turn OPTIMIZERS
