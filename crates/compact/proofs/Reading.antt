-- Reading with references put through a function: cells that say the same but for their references are read as the plan with its references put through it.
use Prim.Native.Nat.{ℕ, zero, suc}
use Rattle.std.proofs.Common.{arith, sym, ◌∙◌}
use Rattle.std.proofs.Math.Path.{◌≡◌, refl, ap}
use Rattle.std.specs.Prelude.{Bool, true, false}
use mathlib.Core.List.{List, [], ◌∷◌, map}
use Rattle.std.proofs.Math.Option.{Option, none, some}
use Rattle.value.specs.Value.{Value}
use Rattle.sql.specs.Expression.{Marked, Expression, constant, column, unary, binary}
use Rattle.sql.specs.Plan.{Label, Node, over, other, remap}
use Rattle.sql.specs.Optimizer.{map_optional}
use Rattle.sheet.specs.Cell.{Cell}
use Rattle.sheet.specs.Content.{Content, content_of, constant_cell, column_cell, unary_cell, binary_cell, label_cell, item_cell, key_cell, target_cell, agg_cell, row_cell, aggregate_cell, filter_cell, hash_join_cell, index_lookup_cell, key_lookup_cell, limit_cell, offset_cell, nested_loop_join_cell, nothing_cell, order_cell, projection_cell, remap_cell, scan_cell, values_cell}
use Rattle.sheet.specs.Tree.{Tree, expression_tree, label_tree, item_tree, key_tree, target_tree, agg_tree, row_tree, node_tree, bind, an_expression, value_of, a_constant, a_label, an_item, a_key, a_target, an_agg, a_row, a_node, Stack, pop, children, child, if_any, reduce, after, Read, lacking, stack, read}
use Rattle.compact.specs.References

map_same : {A : Type 0} (xs : List A) → map (λ x. x) xs ≡ xs
map_same [] = refl
map_same (x ∷ xs) = ap (λ ys. x ∷ ys) (map_same xs)

by_tree : (P : Tree → Type 0) → ((x : Expression) → P (expression_tree x)) → ((x : Marked Label) → P (label_tree x)) → ((x : Expression × Label × ℕ) → P (item_tree x))
    → ((x : Expression × Bool × ℕ) → P (key_tree x)) → ((x : Marked (Option ℕ)) → P (target_tree x)) → ((x : ℕ × Expression × ℕ) → P (agg_tree x))
    → ((x : Marked (List Expression)) → P (row_tree x)) → ((x : Node) → P (node_tree x)) → (t : Tree) → P t
by_tree P e l i k t g r n (expression_tree x) = e x
by_tree P e l i k t g r n (label_tree x) = l x
by_tree P e l i k t g r n (item_tree x) = i x
by_tree P e l i k t g r n (key_tree x) = k x
by_tree P e l i k t g r n (target_tree x) = t x
by_tree P e l i k t g r n (agg_tree x) = g x
by_tree P e l i k t g r n (row_tree x) = r x
by_tree P e l i k t g r n (node_tree x) = n x

module _ (h : ℕ → ℕ) where
  abbrev E : Expression → Expression
  E = References.map_expression h

  abbrev M : Node → Node
  M = References.map_node h

  abbrev map_tree : Tree → Tree
  map_tree (expression_tree e) = expression_tree (E e)
  map_tree (label_tree l) = label_tree (References.map_marked_label h l)
  map_tree (item_tree i) = item_tree (References.map_item h i)
  map_tree (key_tree k) = key_tree (References.map_key h k)
  map_tree (target_tree t) = target_tree t
  map_tree (agg_tree a) = agg_tree (References.map_agg h a)
  map_tree (row_tree es) = row_tree (References.map_row h es)
  map_tree (node_tree n) = node_tree (M n)

  abbrev S : Stack → Stack
  S = map map_tree

  abbrev OS : Option Stack → Option Stack
  OS = map_optional S

  -- ---- a tree as a child of a sort

  abbrev Alike : {A : Type 0} → (A → A) → (Tree → Option A) → Type 0
  Alike u sort = (t : Tree) → sort (map_tree t) ≡ map_optional u (sort t)

  expression_alike : Alike E an_expression
  expression_alike = by_tree (λ t. an_expression (map_tree t) ≡ map_optional E (an_expression t)) (λ x. refl) (λ x. refl) (λ x. refl) (λ x. refl) (λ x. refl) (λ x. refl) (λ x. refl) (λ x. refl)

  value_alike : (e : Expression) → value_of (E e) ≡ map_optional (References.map_constant h) (value_of e)
  value_alike (constant og v) = refl
  value_alike (column og i) = refl
  value_alike (unary og o x) = refl
  value_alike (binary og o l r) = refl

  constant_alike : Alike (References.map_constant h) a_constant
  constant_alike = by_tree (λ t. a_constant (map_tree t) ≡ map_optional (References.map_constant h) (a_constant t)) value_alike (λ x. refl) (λ x. refl) (λ x. refl) (λ x. refl) (λ x. refl) (λ x. refl) (λ x. refl)

  label_alike : Alike (References.map_marked_label h) a_label
  label_alike = by_tree (λ t. a_label (map_tree t) ≡ map_optional (References.map_marked_label h) (a_label t)) (λ x. refl) (λ x. refl) (λ x. refl) (λ x. refl) (λ x. refl) (λ x. refl) (λ x. refl) (λ x. refl)

  item_alike : Alike (References.map_item h) an_item
  item_alike = by_tree (λ t. an_item (map_tree t) ≡ map_optional (References.map_item h) (an_item t)) (λ x. refl) (λ x. refl) (λ x. refl) (λ x. refl) (λ x. refl) (λ x. refl) (λ x. refl) (λ x. refl)

  key_alike : Alike (References.map_key h) a_key
  key_alike = by_tree (λ t. a_key (map_tree t) ≡ map_optional (References.map_key h) (a_key t)) (λ x. refl) (λ x. refl) (λ x. refl) (λ x. refl) (λ x. refl) (λ x. refl) (λ x. refl) (λ x. refl)

  target_alike : Alike (λ t. t) a_target
  target_alike = by_tree (λ t. a_target (map_tree t) ≡ map_optional (λ x. x) (a_target t)) (λ x. refl) (λ x. refl) (λ x. refl) (λ x. refl) (λ x. refl) (λ x. refl) (λ x. refl) (λ x. refl)

  agg_alike : Alike (References.map_agg h) an_agg
  agg_alike = by_tree (λ t. an_agg (map_tree t) ≡ map_optional (References.map_agg h) (an_agg t)) (λ x. refl) (λ x. refl) (λ x. refl) (λ x. refl) (λ x. refl) (λ x. refl) (λ x. refl) (λ x. refl)

  row_alike : Alike (References.map_row h) a_row
  row_alike = by_tree (λ t. a_row (map_tree t) ≡ map_optional (References.map_row h) (a_row t)) (λ x. refl) (λ x. refl) (λ x. refl) (λ x. refl) (λ x. refl) (λ x. refl) (λ x. refl) (λ x. refl)

  node_alike : Alike M a_node
  node_alike = by_tree (λ t. a_node (map_tree t) ≡ map_optional M (a_node t)) (λ x. refl) (λ x. refl) (λ x. refl) (λ x. refl) (λ x. refl) (λ x. refl) (λ x. refl) (λ x. refl)

  -- ---- children taken off the stack

  module _ {A : Type 0} (u : A → A) (sort : Tree → Option A) (k : Alike u sort) where
    abbrev both : List A × Stack → List A × Stack
    both p = (map u p.0, S p.1)

    pop_alike : (n : ℕ) (later : List A) (st : Stack) → pop sort n (map u later) (S st) ≡ map_optional both (pop sort n later st)
    unfolding pop
    pop_alike zero later st = refl
    pop_alike (suc n) later [] = refl
    pop_alike (suc n) later (t ∷ st) =
        ap (λ (o : Option A). elim o [ none ↦ none | some a ↦ pop sort n (a ∷ map u later) (S st) ]) (k t) ∙ go (sort t) (λ a. pop_alike n (a ∷ later) st)
      where
        go : (o : Option A) → ((a : A) → pop sort n (u a ∷ map u later) (S st) ≡ map_optional both (pop sort n (a ∷ later) st))
            → ◌≡◌ {A = Option (List A × Stack)} (elim (map_optional u o) [ none ↦ none | some a ↦ pop sort n (a ∷ map u later) (S st) ])
            (map_optional both (elim o [ none ↦ none | some a ↦ pop sort n (a ∷ later) st ]))
        go none ih = refl
        go (some a) ih = ih a

    children_alike : (n : ℕ) (st : Stack) (f g : List A → Stack → Option Stack) → ((xs : List A) (rest : Stack) → g (map u xs) (S rest) ≡ OS (f xs rest))
        → children sort n (S st) g ≡ OS (children sort n st f)
    children_alike n st f g e = ap (λ (o : Option (List A × Stack)). bind o (λ p. g p.0 p.1)) (pop_alike n [] st) ∙ go (pop sort n [] st)
      where
        go : (o : Option (List A × Stack)) → bind (map_optional both o) (λ p. g p.0 p.1) ≡ OS (bind o (λ p. f p.0 p.1))
        go none = refl
        go (some p) = e p.0 p.1

    child_alike : (st : Stack) (f g : A → Stack → Option Stack) → ((a : A) (rest : Stack) → g (u a) (S rest) ≡ OS (f a rest)) → child sort (S st) g ≡ OS (child sort st f)
    child_alike [] f g e = refl
    child_alike (t ∷ st) f g e = ap (λ (o : Option A). bind o (λ a. g a (S st))) (k t) ∙ go (sort t)
      where
        go : (o : Option A) → bind (map_optional u o) (λ a. g a (S st)) ≡ OS (bind o (λ a. f a st))
        go none = refl
        go (some a) = e a st

  if_any_alike : (b : Bool) (st : Stack) (f g : Option Expression → Stack → Option Stack)
      → ((o : Option Expression) (rest : Stack) → g (map_optional E o) (S rest) ≡ OS (f o rest)) → if_any b (S st) g ≡ OS (if_any b st f)
  if_any_alike false st f g e = e none st
  if_any_alike true st f g e = child_alike E an_expression expression_alike st (λ x rest. f (some x) rest) (λ x rest. g (some x) rest) (λ x rest. e (some x) rest)

  -- ---- a cell

  -- what a cell says, with its references put through the function
  abbrev pub map_content : Content → Content
  map_content (constant_cell v) = constant_cell (References.map_value h v)
  map_content (column_cell i) = column_cell i
  map_content (unary_cell o) = unary_cell o
  map_content (binary_cell o) = binary_cell o
  map_content (label_cell l) = label_cell (References.map_label h l)
  map_content (item_cell l) = item_cell (References.map_label h l)
  map_content (key_cell d) = key_cell d
  map_content (target_cell t) = target_cell t
  map_content (agg_cell f) = agg_cell f
  map_content (row_cell n) = row_cell n
  map_content (aggregate_cell n m) = aggregate_cell n m
  map_content filter_cell = filter_cell
  map_content (hash_join_cell o l r) = hash_join_cell o l r
  map_content (index_lookup_cell t al i n) = index_lookup_cell t (map_optional h al) i n
  map_content (key_lookup_cell t al n) = key_lookup_cell t (map_optional h al) n
  map_content (limit_cell n) = limit_cell n
  map_content (offset_cell n) = offset_cell n
  map_content (nested_loop_join_cell p o) = nested_loop_join_cell p o
  map_content (nothing_cell n) = nothing_cell n
  map_content (order_cell n) = order_cell n
  map_content (projection_cell n) = projection_cell n
  map_content (remap_cell n) = remap_cell n
  map_content (scan_cell f t al) = scan_cell f t (map_optional h al)
  map_content (values_cell n) = values_cell n

  reduce_alike : (og : ℕ) (k : Content) (st : Stack) → reduce og (map_content k) (S st) ≡ OS (reduce og k st)
  unfolding reduce
  reduce_alike og (constant_cell v) st = refl
  reduce_alike og (column_cell i) st = refl
  reduce_alike og (unary_cell o) st = child_alike E an_expression expression_alike st _ _ (λ x rest. refl)
  reduce_alike og (binary_cell o) st =
      child_alike E an_expression expression_alike st _ _ (λ r below. child_alike E an_expression expression_alike below _ _ (λ l rest. refl))
  reduce_alike og (label_cell l) st = refl
  reduce_alike og (item_cell l) st = child_alike E an_expression expression_alike st _ _ (λ e rest. refl)
  reduce_alike og (key_cell d) st = child_alike E an_expression expression_alike st _ _ (λ e rest. refl)
  reduce_alike og (target_cell t) st = refl
  reduce_alike og (agg_cell f) st = child_alike E an_expression expression_alike st _ _ (λ e rest. refl)
  reduce_alike og (row_cell n) st = children_alike E an_expression expression_alike n st _ _ (λ es rest. refl)
  reduce_alike og (aggregate_cell n m) st =
      children_alike (References.map_agg h) an_agg agg_alike m st _ _
      (λ gs below. children_alike E an_expression expression_alike n below _ _ (λ es low. child_alike M a_node node_alike low _ _ (λ s rest. refl)))
  reduce_alike og filter_cell st =
      child_alike E an_expression expression_alike st _ _ (λ e below. child_alike M a_node node_alike below _ _ (λ s rest. refl))
  reduce_alike og (hash_join_cell o i j) st = child_alike M a_node node_alike st _ _ (λ r below. child_alike M a_node node_alike below _ _ (λ l rest. refl))
  reduce_alike og (index_lookup_cell t al i n) st = children_alike (References.map_constant h) a_constant constant_alike n st _ _ (λ vs rest. refl)
  reduce_alike og (key_lookup_cell t al n) st = children_alike (References.map_constant h) a_constant constant_alike n st _ _ (λ vs rest. refl)
  reduce_alike og (limit_cell n) st = child_alike M a_node node_alike st _ _ (λ s rest. refl)
  reduce_alike og (offset_cell n) st = child_alike M a_node node_alike st _ _ (λ s rest. refl)
  reduce_alike og (nested_loop_join_cell p o) st =
      if_any_alike p st _ _ (λ e below. child_alike M a_node node_alike below _ _ (λ r low. child_alike M a_node node_alike low _ _ (λ l rest. refl)))
  reduce_alike og (nothing_cell n) st = children_alike (References.map_marked_label h) a_label label_alike n st _ _ (λ ls rest. refl)
  reduce_alike og (order_cell n) st =
      children_alike (References.map_key h) a_key key_alike n st _ _ (λ ks below. child_alike M a_node node_alike below _ _ (λ s rest. refl))
  reduce_alike og (projection_cell n) st =
      children_alike (References.map_item h) an_item item_alike n st _ _ (λ is below. child_alike M a_node node_alike below _ _ (λ s rest. refl))
  reduce_alike og (remap_cell n) st =
      children_alike (λ t. t) a_target target_alike n st _ _
      (λ ts below. child_alike M a_node node_alike below _ _ (λ s rest. ap (λ (us : List (Marked (Option ℕ))). some (node_tree (over og (other (remap us)) (M s)) ∷ S rest)) (map_same ts)))
  reduce_alike og (scan_cell f t al) st = if_any_alike f st _ _ (λ e rest. refl)
  reduce_alike og (values_cell n) st = children_alike (References.map_row h) a_row row_alike n st _ _ (λ rs rest. refl)

  -- ---- all cells

  -- d says of a text what c says of another, but for references, and has its origin.
  pub record AlikeCells (text' text : List ℕ) (d c : Cell) : Type 0 where
    pub says : content_of text' d ≡ map_optional map_content (content_of text c)
    pub origin_is : d.origin ≡ c.origin

  after_alike : (text' text : List ℕ) (d c : Cell) → AlikeCells text' text d c → (st : Stack) → after text' d (S st) ≡ OS (after text c st)
  after_alike text' text d c a st =
      ap (λ (o : Option Content). bind o (λ k. reduce d.origin k (S st))) a.says
      ∙ (ap (λ (og : ℕ). bind (map_optional map_content (content_of text c)) (λ k. reduce og k (S st))) a.origin_is ∙ go (content_of text c))
    where
      go : (o : Option Content) → bind (map_optional map_content o) (λ k. reduce c.origin k (S st)) ≡ OS (bind o (λ k. reduce c.origin k st))
      go none = refl
      go (some k) = reduce_alike c.origin k st

  -- cells one by one
  pub data EachAlike (text' text : List ℕ) : List Cell → List Cell → Type 0 where
    none_left : EachAlike text' text [] []
    one_more : {d c : Cell} {ds cs : List Cell} → AlikeCells text' text d c → EachAlike text' text ds cs → EachAlike text' text (d ∷ ds) (c ∷ cs)

  abbrev map_read : Read → Read
  map_read (lacking i) = lacking i
  map_read (stack st) = stack (S st)

  read_alike : (text' text : List ℕ) {ds cs : List Cell} → EachAlike text' text ds cs → (i : ℕ) (st : Stack) → read text' i ds (S st) ≡ map_read (read text i cs st)
  unfolding read
  read_alike text' text none_left i st = refl
  read_alike text' text (one_more {d} {c} {ds} {cs} a e) i st =
      ap (λ (o : Option Stack). elim o [ none ↦ lacking i | some next ↦ read text' (suc i) ds next ]) (after_alike text' text d c a st)
      ∙ go (after text c st) (λ next. read_alike text' text e (suc i) next)
    where
      go : (o : Option Stack) → ((next : Stack) → read text' (suc i) ds (S next) ≡ map_read (read text (suc i) cs next))
          → ◌≡◌ {A = Read} (elim (OS o) [ none ↦ lacking i | some next ↦ read text' (suc i) ds next ])
          (map_read (elim o [ none ↦ lacking i | some next ↦ read text (suc i) cs next ]))
      go none ih = refl
      go (some next) ih = ih next

  -- Cells that are read as one plan are read as this plan with its references put through the function.
  pub node_alike_read : (text' text : List ℕ) (ds cs : List Cell) (n : Node) → EachAlike text' text ds cs → read text 0 cs [] ≡ stack (node_tree n ∷ [])
      → read text' 0 ds [] ≡ stack (node_tree (M n) ∷ [])
  node_alike_read text' text ds cs n e r = read_alike text' text e 0 [] ∙ ap map_read r

-- ---- two readings that agree

-- Cell by cell, the contents agree when the references of one are put through g, and those of the other through g'.
pub record Agreeing (g g' : ℕ → ℕ) (text' text : List ℕ) (d c : Cell) : Type 0 where
  pub says : map_optional (map_content g) (content_of text' d) ≡ map_optional (map_content g') (content_of text c)
  pub origin_is : d.origin ≡ c.origin

pub data EachAgreeing (g g' : ℕ → ℕ) (text' text : List ℕ) : List Cell → List Cell → Type 0 where
  none_more : EachAgreeing g g' text' text [] []
  and_one : {d c : Cell} {ds cs : List Cell} → Agreeing g g' text' text d c → EachAgreeing g g' text' text ds cs → EachAgreeing g g' text' text (d ∷ ds) (c ∷ cs)

-- what a cell does to a stack, its references put through h
abbrev put_through : (h : ℕ → ℕ) (text : List ℕ) → Cell → Stack → Option Stack
put_through h text c st = bind (map_optional (map_content h) (content_of text c)) (λ k. reduce c.origin k st)

after_through : (h : ℕ → ℕ) (text : List ℕ) (c : Cell) (st : Stack) → map_optional (S h) (after text c st) ≡ put_through h text c (S h st)
after_through h text c st = go (content_of text c)
  where
    go : (o : Option Content) → map_optional (S h) (bind o (λ k. reduce c.origin k st)) ≡ bind (map_optional (map_content h) o) (λ k. reduce c.origin k (S h st))
    go none = refl
    go (some k) = sym (reduce_alike h c.origin k st)

module _ (g g' : ℕ → ℕ) (text' text : List ℕ) where
  after_agree : (d c : Cell) (st st' : Stack) → Agreeing g g' text' text d c → S g st ≡ S g' st' → map_optional (S g) (after text' d st) ≡ map_optional (S g') (after text c st')
  after_agree d c st st' a e =
      after_through g text' d st
      ∙ ap (λ (x : Stack). put_through g text' d x) e
      ∙ ap (λ (o : Option Content). bind o (λ k. reduce d.origin k (S g' st'))) a.says
      ∙ ap (λ (og : ℕ). bind (map_optional (map_content g') (content_of text c)) (λ k. reduce og k (S g' st'))) a.origin_is
      ∙ sym (after_through g' text c st')

  read_agree : {ds cs : List Cell} → EachAgreeing g g' text' text ds cs → (i : ℕ) (st st' : Stack) → S g st ≡ S g' st' → map_read g (read text' i ds st) ≡ map_read g' (read text i cs st')
  unfolding read
  read_agree none_more i st st' e = ap stack e
  read_agree (and_one {d} {c} {ds} {cs} a l) i st st' e =
      go (after text' d st) (after text c st') (after_agree d c st st' a e) (λ x y q. read_agree l (suc i) x y q)
    where
      go : (x y : Option Stack) → map_optional (S g) x ≡ map_optional (S g') y → ((x y : Stack) → S g x ≡ S g' y → map_read g (read text' (suc i) ds x) ≡ map_read g' (read text (suc i) cs y))
          → map_read g (elim x [ none ↦ lacking i | some next ↦ read text' (suc i) ds next ]) ≡ map_read g' (elim y [ none ↦ lacking i | some next ↦ read text (suc i) cs next ])
      go none none q ih = refl
      go none (some y) q ih = absurd (let z : ◌≡◌ {A = ℕ} 0 1 = cc in omega arith)
      go (some x) none q ih = absurd (let z : ◌≡◌ {A = ℕ} 0 1 = cc in omega arith)
      go (some x) (some y) q ih = ih x y (cc)

  -- The two plans agree.
  pub plans_agree : (ds cs : List Cell) (m n : Node) → EachAgreeing g g' text' text ds cs → read text' 0 ds [] ≡ stack (node_tree m ∷ []) → read text 0 cs [] ≡ stack (node_tree n ∷ [])
      → References.map_node g m ≡ References.map_node g' n
  plans_agree ds cs m n l p q =
      let e : map_read g (stack (node_tree m ∷ [])) ≡ map_read g' (stack (node_tree n ∷ [])) = sym (ap (map_read g) p) ∙ (read_agree l 0 [] [] refl ∙ ap (map_read g') q) in
      cc
