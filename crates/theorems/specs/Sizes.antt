-- Refusal 14, as document 01 says it: "Room is refused if and only if the plan after some step, or a result of into_nnf or into_cnf, has over 2,048 cells,
-- where a step is one visit of one node, one merge of a Filter into what is below, or one split of a join predicate."
--
-- Here are those sizes, each of them, in the order in which they come up. The passes are the Rust's, which know no limit (crate sql, Optimizer.antt), and each
-- function here has the name of the one whose steps it lists. The size that counts is that of the whole plan, so each takes `rest`, the number of the plan's
-- cells that lie outside the node at that moment: the left source is visited with the right one outside it, the right source with what the left one has become.
-- All passes but ShortCircuit visit a node before its sources.
use Rattle.std.specs.Prelude.{ℕ, zero, suc, ◌+◌, List, [], ◌∷◌, ◌++◌, get_or}
use Rattle.std.proofs.Math.Option.{Option, none, some}
use Rattle.sql.specs.Schema.{Schema}
use Rattle.sql.specs.Expression.{Expression, size, into_nnf, into_cnf}
use Rattle.sql.specs.Plan.{filter, other, Node, leaf, over, join, columns, over_size, join_size, node_size}
use Rattle.sql.specs.Answer.{Answer, done, refused}
use Rattle.sql.specs.Optimizer.{fold_leaf, fold_over, fold_join, push_into, hash_join}
use Rattle.sql.specs.Optimizer
use Rattle.sql.specs.Room.{join_predicate, scan_filter}

-- the two normal forms of a predicate
abbrev pub normal_forms : Option Expression → List ℕ
normal_forms none = []
normal_forms (some e) = size (into_nnf e) ∷ size (into_cnf e) ∷ []

-- the plan after a step that leaves this node
abbrev pub step : (rest : ℕ) → Node → List ℕ
step rest node = (rest + node_size node) ∷ []

abbrev pub if_pushed : (Node → List ℕ) → Option Node → List ℕ
if_pushed f none = []
if_pushed f (some pushed) = f pushed

-- ======== ConstantFolding

-- There is no plan after a visit that is refused, by 11 to 13, and no visit after it.
abbrev pub if_done : {A : Type 0} → Answer A → (A → List ℕ) → List ℕ
if_done (refused number place) f = []
if_done (done folded) f = f folded

-- A visit folds the node's own expressions. `first` is the number of the node's first cell, for the places of refusals.
abbrev pub ConstantFolding : (first rest : ℕ) → Node → List ℕ
ConstantFolding first rest (leaf og l) = if_done (fold_leaf first l) (λ m. step rest (leaf og m))
ConstantFolding first rest (over og o source) =
    if_done (fold_over (first + node_size source) o) (λ p. step rest (over og p source) ++ ConstantFolding first (rest + over_size p) source)
ConstantFolding first rest (join og outer j left right) =
    if_done (fold_join (first + (node_size left + node_size right)) j) (λ k.
    step rest (join og outer k left right)
    ++ (ConstantFolding first (rest + (node_size right + join_size k)) left
    ++ if_done (Optimizer.ConstantFolding first left) (λ l. ConstantFolding (first + node_size left) (rest + (node_size l + join_size k)) right)))

module _ (schema : Schema) where
  -- ======== FilterPushdown

  -- one split of a join's predicate, or the visit of another node
  abbrev pub maybe_push_join : (rest : ℕ) → Node → List ℕ
  maybe_push_join rest node = normal_forms (join_predicate node) ++ step rest (Optimizer.maybe_push_join schema node)

  -- a merge of a Filter into what is below, which is tried again, and the join rule once more
  unfoldable pub maybe_push_filter : ℕ → (rest : ℕ) → Node → List ℕ
  maybe_push_filter zero rest node = []
  maybe_push_filter (suc n) rest (leaf og l) = []
  maybe_push_filter (suc n) rest (over og (filter predicate) source) =
      if_pushed
      (λ pushed. (step rest pushed ++ maybe_push_filter n rest pushed) ++ maybe_push_join rest (Optimizer.maybe_push_filter schema n pushed))
      (push_into og predicate source)
  maybe_push_filter (suc n) rest (over og (other o) source) = []
  maybe_push_filter (suc n) rest (join og outer j left right) = []

  abbrev pub push_filters : ℕ → (rest : ℕ) → Node → List ℕ
  push_filters n rest node = maybe_push_filter n rest node ++ maybe_push_join rest (Optimizer.maybe_push_filter schema n node)

  -- the sources of a node, of which f makes something with these sizes
  abbrev pub each_source : (f : Node → Node) (sizes : ℕ → Node → List ℕ) → (rest : ℕ) → Node → List ℕ
  each_source f sizes rest (leaf og l) = []
  each_source f sizes rest (over og o source) = sizes (rest + over_size o) source
  each_source f sizes rest (join og outer j left right) =
      sizes (rest + (node_size right + join_size j)) left ++ sizes (rest + (node_size (f left) + join_size j)) right

  unfoldable pub push_filters_from : ℕ → (rest : ℕ) → Node → List ℕ
  push_filters_from zero rest node = []
  push_filters_from (suc n) rest node =
      push_filters (suc n) rest node
      ++ each_source (Optimizer.push_filters_from schema n) (push_filters_from n) rest (Optimizer.push_filters schema (suc n) node)

  abbrev pub FilterPushdown : (rest : ℕ) → Node → List ℕ
  FilterPushdown rest node = push_filters_from (node_size node) rest node

  -- ======== IndexLookup

  -- A Scan that becomes a Filter over a lookup: the lookup is visited too, and stays.
  abbrev pub IndexLookup : (rest : ℕ) → Node → List ℕ
  IndexLookup rest (leaf og l) =
      let found = Optimizer.index_lookup schema og l in
      normal_forms (scan_filter l) ++ (step rest found ++ each_source (λ lookup. lookup) step rest found)
  IndexLookup rest (over og o source) = step rest (over og o source) ++ IndexLookup (rest + over_size o) source
  IndexLookup rest (join og outer j left right) =
      step rest (join og outer j left right)
      ++ (IndexLookup (rest + (node_size right + join_size j)) left
      ++ IndexLookup (rest + (node_size (Optimizer.IndexLookup schema left) + join_size j)) right)

  -- ======== HashJoin

  abbrev pub HashJoin : (rest : ℕ) → Node → List ℕ
  HashJoin rest (leaf og l) = step rest (leaf og l)
  HashJoin rest (over og o source) = step rest (over og o source) ++ HashJoin (rest + over_size o) source
  HashJoin rest (join og outer j left right) =
      let k = hash_join (columns schema left) j in
      step rest (join og outer k left right)
      ++ (HashJoin (rest + (node_size right + join_size k)) left
      ++ HashJoin (rest + (node_size (Optimizer.HashJoin schema left) + join_size k)) right)

  -- ======== ShortCircuit: sources before the node

  abbrev pub ShortCircuit : (rest : ℕ) → Node → List ℕ
  ShortCircuit rest (leaf og l) = step rest (Optimizer.ShortCircuit schema (leaf og l))
  ShortCircuit rest (over og o source) = ShortCircuit (rest + over_size o) source ++ step rest (Optimizer.ShortCircuit schema (over og o source))
  ShortCircuit rest (join og outer j left right) =
      ShortCircuit (rest + (node_size right + join_size j)) left
      ++ (ShortCircuit (rest + (node_size (Optimizer.ShortCircuit schema left) + join_size j)) right
      ++ step rest (Optimizer.ShortCircuit schema (join og outer j left right)))

  -- ======== One pass by its number, and all five.

  abbrev pub pass : ℕ → Node → List ℕ
  pass zero node = []
  pass (suc k) node = get_or (ConstantFolding 0 0 ∷ FilterPushdown 0 ∷ IndexLookup 0 ∷ HashJoin 0 ∷ ShortCircuit 0 ∷ []) k (λ n. []) node

  -- of the plan that ConstantFolding gives, in the four passes after it
  abbrev pub after_folding : Node → List ℕ
  after_folding folded =
      let pushed = Optimizer.FilterPushdown schema folded in
      let looked_up = Optimizer.IndexLookup schema pushed in
      let hashed = Optimizer.HashJoin schema looked_up in
      FilterPushdown 0 folded ++ (IndexLookup 0 pushed ++ (HashJoin 0 looked_up ++ ShortCircuit 0 hashed))

  abbrev pub optimize : Node → List ℕ
  optimize node = ConstantFolding 0 0 node ++ if_done (Optimizer.ConstantFolding 0 node) after_folding
