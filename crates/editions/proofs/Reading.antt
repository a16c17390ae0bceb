-- Reading doesn't see origins: cells with their origins put through a function are read as the plan with its origins put through it, and where a cell lacks
-- its children, it lacks them.
use Prim.Native.Nat.{ℕ, zero, suc}
use Rattle.std.proofs.Math.Path.{◌≡◌, refl, ap}
use Rattle.std.proofs.Common.{sym, ◌∙◌}
use Rattle.std.specs.Prelude.{Bool, true, false, get_or}
use mathlib.Core.List.{List, [], ◌∷◌, map}
use Rattle.std.proofs.Math.Option.{Option, none, some}
use Rattle.std.proofs.Math.ListN.{get_or-map}
use Rattle.sql.specs.Expression.{Marked, Expression, constant, column, unary, binary}
use Rattle.sql.specs.Plan.{Label, Node}
use Rattle.sql.specs.Optimizer.{map_optional}
use Rattle.sheet.specs.Cell.{Cell}
use Rattle.sheet.specs.Content.{Content, Reader, readers, content_of, marked, constant_cell, column_cell, unary_cell, binary_cell, label_cell, item_cell, key_cell, target_cell, agg_cell, row_cell, aggregate_cell, filter_cell, hash_join_cell, index_lookup_cell, key_lookup_cell, limit_cell, offset_cell, nested_loop_join_cell, nothing_cell, order_cell, projection_cell, remap_cell, scan_cell, values_cell}
use Rattle.sheet.specs.Tree.{Tree, expression_tree, label_tree, item_tree, key_tree, target_tree, agg_tree, row_tree, node_tree, bind, an_expression, value_of, a_constant, a_label, an_item, a_key, a_target, an_agg, a_row, a_node, Stack, pop, children, child, if_any, reduce, after, Read, lacking, stack, read}
use Rattle.sheet.specs.Check.{sole_node, one_plan}
use Rattle.origins.specs.Origins.{map_origins, map_mark, map_row, map_part, map_aggregate, map_node_origins, map_answer}
use Rattle.sound.specs.Origins.{remarked}

-- ---- what a cell says

-- a reader that sees 0 for every origin; none of them looks
abbrev blindfold : Reader → Reader
blindfold r text c = r text (marked 0 c)

all_blind : map blindfold readers ≡ readers
all_blind = refl

content_zero : (text : List ℕ) (c : Cell) → content_of text c ≡ get_or readers c.tag (λ t k. none) text (marked 0 c)
unfolding content_of
content_zero text c =
    ap (λ (rs : List Reader). get_or rs c.tag (λ t k. none) text c) (sym all_blind) ∙ ap (λ (r : Reader). r text c) (get_or-map blindfold readers c.tag (λ t k. none))

content_blind : (text : List ℕ) (c : Cell) (og : ℕ) → content_of text (marked og c) ≡ content_of text c
content_blind text c og = content_zero text (marked og c) ∙ sym (content_zero text c)

by_tree : (P : Tree → Type 0) → ((x : Expression) → P (expression_tree x)) → ((x : Marked Label) → P (label_tree x)) → ((x : Expression × Label × ℕ) → P (item_tree x))
    → ((x : Expression × Bool × ℕ) → P (key_tree x)) → ((x : Marked (Option ℕ)) → P (target_tree x)) → ((x : ℕ × Expression × ℕ) → P (agg_tree x))
    → ((x : Marked (List Expression)) → P (row_tree x)) → ((x : Node) → P (node_tree x)) → (t : Tree) → P t
by_tree P e l i k t g r n (expression_tree x) = e x
by_tree P e l i k t g r n (label_tree x) = l x
by_tree P e l i k t g r n (item_tree x) = i x
by_tree P e l i k t g r n (key_tree x) = k x
by_tree P e l i k t g r n (target_tree x) = t x
by_tree P e l i k t g r n (agg_tree x) = g x
by_tree P e l i k t g r n (row_tree x) = r x
by_tree P e l i k t g r n (node_tree x) = n x

module _ (h : ℕ → ℕ) where
  abbrev E : Expression → Expression
  E = map_origins h

  abbrev M : Node → Node
  M = map_node_origins h

  abbrev map_tree : Tree → Tree
  map_tree (expression_tree e) = expression_tree (E e)
  map_tree (label_tree l) = label_tree (map_mark h l)
  map_tree (item_tree i) = item_tree (map_part h i)
  map_tree (key_tree k) = key_tree (map_part h k)
  map_tree (target_tree t) = target_tree (map_mark h t)
  map_tree (agg_tree a) = agg_tree (map_aggregate h a)
  map_tree (row_tree es) = row_tree (map_row h es)
  map_tree (node_tree n) = node_tree (M n)

  abbrev S : Stack → Stack
  S = map map_tree

  abbrev OS : Option Stack → Option Stack
  OS = map_optional S

  -- ---- a tree as a child of a sort

  abbrev Alike : {A : Type 0} → (A → A) → (Tree → Option A) → Type 0
  Alike u sort = (t : Tree) → sort (map_tree t) ≡ map_optional u (sort t)

  expression_alike : Alike E an_expression
  expression_alike = by_tree (λ t. an_expression (map_tree t) ≡ map_optional E (an_expression t)) (λ x. refl) (λ x. refl) (λ x. refl) (λ x. refl) (λ x. refl) (λ x. refl) (λ x. refl) (λ x. refl)

  value_alike : (e : Expression) → value_of (E e) ≡ map_optional (map_mark h) (value_of e)
  value_alike (constant og v) = refl
  value_alike (column og i) = refl
  value_alike (unary og o x) = refl
  value_alike (binary og o l r) = refl

  constant_alike : Alike (map_mark h) a_constant
  constant_alike = by_tree (λ t. a_constant (map_tree t) ≡ map_optional (map_mark h) (a_constant t)) value_alike (λ x. refl) (λ x. refl) (λ x. refl) (λ x. refl) (λ x. refl) (λ x. refl) (λ x. refl)

  label_alike : Alike (map_mark h) a_label
  label_alike = by_tree (λ t. a_label (map_tree t) ≡ map_optional (map_mark h) (a_label t)) (λ x. refl) (λ x. refl) (λ x. refl) (λ x. refl) (λ x. refl) (λ x. refl) (λ x. refl) (λ x. refl)

  item_alike : Alike (map_part h) an_item
  item_alike = by_tree (λ t. an_item (map_tree t) ≡ map_optional (map_part h) (an_item t)) (λ x. refl) (λ x. refl) (λ x. refl) (λ x. refl) (λ x. refl) (λ x. refl) (λ x. refl) (λ x. refl)

  key_alike : Alike (map_part h) a_key
  key_alike = by_tree (λ t. a_key (map_tree t) ≡ map_optional (map_part h) (a_key t)) (λ x. refl) (λ x. refl) (λ x. refl) (λ x. refl) (λ x. refl) (λ x. refl) (λ x. refl) (λ x. refl)

  target_alike : Alike (map_mark h) a_target
  target_alike = by_tree (λ t. a_target (map_tree t) ≡ map_optional (map_mark h) (a_target t)) (λ x. refl) (λ x. refl) (λ x. refl) (λ x. refl) (λ x. refl) (λ x. refl) (λ x. refl) (λ x. refl)

  agg_alike : Alike (map_aggregate h) an_agg
  agg_alike = by_tree (λ t. an_agg (map_tree t) ≡ map_optional (map_aggregate h) (an_agg t)) (λ x. refl) (λ x. refl) (λ x. refl) (λ x. refl) (λ x. refl) (λ x. refl) (λ x. refl) (λ x. refl)

  row_alike : Alike (map_row h) a_row
  row_alike = by_tree (λ t. a_row (map_tree t) ≡ map_optional (map_row h) (a_row t)) (λ x. refl) (λ x. refl) (λ x. refl) (λ x. refl) (λ x. refl) (λ x. refl) (λ x. refl) (λ x. refl)

  node_alike : Alike M a_node
  node_alike = by_tree (λ t. a_node (map_tree t) ≡ map_optional M (a_node t)) (λ x. refl) (λ x. refl) (λ x. refl) (λ x. refl) (λ x. refl) (λ x. refl) (λ x. refl) (λ x. refl)

  -- ---- children taken off the stack

  module _ {A : Type 0} (u : A → A) (sort : Tree → Option A) (k : Alike u sort) where
    abbrev both : List A × Stack → List A × Stack
    both p = (map u p.0, S p.1)

    pop_alike : (n : ℕ) (later : List A) (st : Stack) → pop sort n (map u later) (S st) ≡ map_optional both (pop sort n later st)
    unfolding pop
    pop_alike zero later st = refl
    pop_alike (suc n) later [] = refl
    pop_alike (suc n) later (t ∷ st) =
        ap (λ (o : Option A). elim o [ none ↦ none | some a ↦ pop sort n (a ∷ map u later) (S st) ]) (k t) ∙ go (sort t) (λ a. pop_alike n (a ∷ later) st)
      where
        go : (o : Option A) → ((a : A) → pop sort n (u a ∷ map u later) (S st) ≡ map_optional both (pop sort n (a ∷ later) st))
            → ◌≡◌ {A = Option (List A × Stack)} (elim (map_optional u o) [ none ↦ none | some a ↦ pop sort n (a ∷ map u later) (S st) ])
            (map_optional both (elim o [ none ↦ none | some a ↦ pop sort n (a ∷ later) st ]))
        go none ih = refl
        go (some a) ih = ih a

    children_alike : (n : ℕ) (st : Stack) (f g : List A → Stack → Option Stack) → ((xs : List A) (rest : Stack) → g (map u xs) (S rest) ≡ OS (f xs rest))
        → children sort n (S st) g ≡ OS (children sort n st f)
    children_alike n st f g e = ap (λ (o : Option (List A × Stack)). bind o (λ p. g p.0 p.1)) (pop_alike n [] st) ∙ go (pop sort n [] st)
      where
        go : (o : Option (List A × Stack)) → bind (map_optional both o) (λ p. g p.0 p.1) ≡ OS (bind o (λ p. f p.0 p.1))
        go none = refl
        go (some p) = e p.0 p.1

    child_alike : (st : Stack) (f g : A → Stack → Option Stack) → ((a : A) (rest : Stack) → g (u a) (S rest) ≡ OS (f a rest)) → child sort (S st) g ≡ OS (child sort st f)
    child_alike [] f g e = refl
    child_alike (t ∷ st) f g e = ap (λ (o : Option A). bind o (λ a. g a (S st))) (k t) ∙ go (sort t)
      where
        go : (o : Option A) → bind (map_optional u o) (λ a. g a (S st)) ≡ OS (bind o (λ a. f a st))
        go none = refl
        go (some a) = e a st

  if_any_alike : (b : Bool) (st : Stack) (f g : Option Expression → Stack → Option Stack)
      → ((o : Option Expression) (rest : Stack) → g (map_optional E o) (S rest) ≡ OS (f o rest)) → if_any b (S st) g ≡ OS (if_any b st f)
  if_any_alike false st f g e = e none st
  if_any_alike true st f g e = child_alike E an_expression expression_alike st (λ x rest. f (some x) rest) (λ x rest. g (some x) rest) (λ x rest. e (some x) rest)

  -- ---- a cell

  reduce_alike : (og : ℕ) (k : Content) (st : Stack) → reduce (h og) k (S st) ≡ OS (reduce og k st)
  unfolding reduce
  reduce_alike og (constant_cell v) st = refl
  reduce_alike og (column_cell i) st = refl
  reduce_alike og (unary_cell o) st = child_alike E an_expression expression_alike st _ _ (λ x rest. refl)
  reduce_alike og (binary_cell o) st =
      child_alike E an_expression expression_alike st _ _ (λ r below. child_alike E an_expression expression_alike below _ _ (λ l rest. refl))
  reduce_alike og (label_cell l) st = refl
  reduce_alike og (item_cell l) st = child_alike E an_expression expression_alike st _ _ (λ e rest. refl)
  reduce_alike og (key_cell d) st = child_alike E an_expression expression_alike st _ _ (λ e rest. refl)
  reduce_alike og (target_cell t) st = refl
  reduce_alike og (agg_cell f) st = child_alike E an_expression expression_alike st _ _ (λ e rest. refl)
  reduce_alike og (row_cell n) st = children_alike E an_expression expression_alike n st _ _ (λ es rest. refl)
  reduce_alike og (aggregate_cell n m) st =
      children_alike (map_aggregate h) an_agg agg_alike m st _ _
      (λ gs below. children_alike E an_expression expression_alike n below _ _ (λ es low. child_alike M a_node node_alike low _ _ (λ s rest. refl)))
  reduce_alike og filter_cell st =
      child_alike E an_expression expression_alike st _ _ (λ e below. child_alike M a_node node_alike below _ _ (λ s rest. refl))
  reduce_alike og (hash_join_cell o i j) st = child_alike M a_node node_alike st _ _ (λ r below. child_alike M a_node node_alike below _ _ (λ l rest. refl))
  reduce_alike og (index_lookup_cell t al i n) st = children_alike (map_mark h) a_constant constant_alike n st _ _ (λ vs rest. refl)
  reduce_alike og (key_lookup_cell t al n) st = children_alike (map_mark h) a_constant constant_alike n st _ _ (λ vs rest. refl)
  reduce_alike og (limit_cell n) st = child_alike M a_node node_alike st _ _ (λ s rest. refl)
  reduce_alike og (offset_cell n) st = child_alike M a_node node_alike st _ _ (λ s rest. refl)
  reduce_alike og (nested_loop_join_cell p o) st =
      if_any_alike p st _ _ (λ e below. child_alike M a_node node_alike below _ _ (λ r low. child_alike M a_node node_alike low _ _ (λ l rest. refl)))
  reduce_alike og (nothing_cell n) st = children_alike (map_mark h) a_label label_alike n st _ _ (λ ls rest. refl)
  reduce_alike og (order_cell n) st =
      children_alike (map_part h) a_key key_alike n st _ _ (λ ks below. child_alike M a_node node_alike below _ _ (λ s rest. refl))
  reduce_alike og (projection_cell n) st =
      children_alike (map_part h) an_item item_alike n st _ _ (λ is below. child_alike M a_node node_alike below _ _ (λ s rest. refl))
  reduce_alike og (remap_cell n) st =
      children_alike (map_mark h) a_target target_alike n st _ _ (λ ts below. child_alike M a_node node_alike below _ _ (λ s rest. refl))
  reduce_alike og (scan_cell f t al) st = if_any_alike f st _ _ (λ e rest. refl)
  reduce_alike og (values_cell n) st = children_alike (map_row h) a_row row_alike n st _ _ (λ rs rest. refl)

  after_alike : (text : List ℕ) (c : Cell) (st : Stack) → after text (remarked h c) (S st) ≡ OS (after text c st)
  after_alike text c st =
      ap (λ (o : Option Content). bind o (λ k. reduce (h c.origin) k (S st))) (content_blind text c (h c.origin)) ∙ go (content_of text c)
    where
      go : (o : Option Content) → bind o (λ k. reduce (h c.origin) k (S st)) ≡ OS (bind o (λ k. reduce c.origin k st))
      go none = refl
      go (some k) = reduce_alike c.origin k st

  -- ---- all cells

  abbrev map_read : Read → Read
  map_read (lacking i) = lacking i
  map_read (stack st) = stack (S st)

  pub read_alike : (text : List ℕ) (i : ℕ) (cs : List Cell) (st : Stack) → read text i (map (remarked h) cs) (S st) ≡ map_read (read text i cs st)
  unfolding read
  read_alike text i [] st = refl
  read_alike text i (c ∷ cs) st =
      ap (λ (o : Option Stack). elim o [ none ↦ lacking i | some next ↦ read text (suc i) (map (remarked h) cs) next ]) (after_alike text c st)
      ∙ go (after text c st) (λ next. read_alike text (suc i) cs next)
    where
      go : (o : Option Stack) → ((next : Stack) → read text (suc i) (map (remarked h) cs) (S next) ≡ map_read (read text (suc i) cs next))
          → ◌≡◌ {A = Read} (elim (OS o) [ none ↦ lacking i | some next ↦ read text (suc i) (map (remarked h) cs) next ])
          (map_read (elim o [ none ↦ lacking i | some next ↦ read text (suc i) cs next ]))
      go none ih = refl
      go (some next) ih = ih next

  sole_alike : (count : ℕ) (st : Stack) → sole_node count (S st) ≡ map_answer M (sole_node count st)
  sole_alike count [] = refl
  sole_alike count (node_tree n ∷ []) = refl
  sole_alike count (node_tree n ∷ t ∷ st) = refl
  sole_alike count (expression_tree e ∷ st) = refl
  sole_alike count (label_tree l ∷ st) = refl
  sole_alike count (item_tree i ∷ st) = refl
  sole_alike count (key_tree k ∷ st) = refl
  sole_alike count (target_tree t ∷ st) = refl
  sole_alike count (agg_tree a ∷ st) = refl
  sole_alike count (row_tree es ∷ st) = refl

  -- The plan that the cells stand for, or refusal 8 with its place.
  pub one_plan_alike : (count : ℕ) (text : List ℕ) (cs : List Cell) → one_plan count (read text 0 (map (remarked h) cs) []) ≡ map_answer M (one_plan count (read text 0 cs []))
  one_plan_alike count text cs = ap (one_plan count) (read_alike text 0 cs []) ∙ go (read text 0 cs [])
    where
      go : (r : Read) → one_plan count (map_read r) ≡ map_answer M (one_plan count r)
      go (lacking i) = refl
      go (stack st) = sole_alike count st
