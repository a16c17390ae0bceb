-- The words of a plan say its cells, in the order of a sheet.
-- Assumes nothing.
use Prim.Native.Nat.{ℕ, ◌+◌, ◌<◌}
use native.Mathlib.Omega.{arith}
use mathlib.Core.Path.{◌≡◌, refl, sym, ap, subst}
use mathlib.Core.Bool.{Bool, true, false}
use mathlib.Core.List.{List, [], ◌∷◌, ◌++◌, append_assoc}
use mathlib.Core.Option.{Option, none, some}
use lib.ListN.{length}
use Rattle.value.specs.Value.{Value, False, Unknown, True, truth, datum, integer, float, string}
use Rattle.sql.specs.Expression.{Marked, Expression, constant, column, unary, binary, Unary, Not, function, IsNull, IsNaN, Identity, Negate, SquareRoot, Binary, logical, And, Or, Equal, GreaterThan, LessThan, Add, Divide, Subtract, Multiply}
use Rattle.sql.specs.Plan.{unlabelled, unqualified, qualified, by_key, by_index, Leaf, scan, lookup, nothing, values, limit, offset, order, projection, remap, aggregate, Over, filter, other, Join, nested_loop, hash, Node, leaf, over, join}
use Rattle.sheet.specs.Cell as Sheet
use Rattle.sheet.specs.Content.{Content, cell_of, marked, constant_cell, column_cell, unary_cell, binary_cell, label_cell, item_cell, key_cell, target_cell, agg_cell, row_cell, aggregate_cell, filter_cell, hash_join_cell, index_lookup_cell, key_lookup_cell, limit_cell, offset_cell, nested_loop_join_cell, nothing_cell, order_cell, projection_cell, remap_cell, scan_cell, values_cell}
use Rattle.sheet.specs.Cells.{all_cells, alone, expression_cells, optional_cells, constant_cells, label_cells, target_cells, item_cells, key_cells, agg_cells, row_cells, leaf_cells, other_cells, over_cells, join_cells, cells}
use Rattle.sheet_laws.specs.Fits.{All, Optional, EachExpression, EachItem, EachKey, EachAgg, EachRow, EachLeaf, EachOver, EachJoin, Each, ContentFits, OriginsBelow}
use Rattle.cells.specs.Cells.{cell_words, words, sized}
use Rattle.words.specs.Words.{cell, all_words, expression_words, optional_words, constant_words, label_words, target_words, item_words, key_words, agg_words, row_words, node_words}
use Rattle.encode.specs.Encode.{cells_in, Small}

-- The words say the cells ks, and Q holds of what each says.
data Says (Q : Content → Type 0) : List ℕ → List Sheet.Cell → Type 0 where
  none_said : Says Q [] []
  one_said : (og : ℕ) (k : Content) (n : ℕ) {w : List ℕ} {ks : List Sheet.Cell} → Q k → Says Q w ks → Says Q (words (cell og k) n ++ w) (marked og (cell_of k) ∷ ks)

module _ {Q : Content → Type 0} where
  both_said : {v w : List ℕ} {js ks : List Sheet.Cell} → Says Q v js → Says Q w ks → Says Q (v ++ w) (js ++ ks)
  both_said none_said q = q
  both_said (one_said og k n x p) q = one_said og k n x (both_said p q)

  same_said : {w : List ℕ} {js ks : List Sheet.Cell} → Says Q w js → js ≡ ks → Says Q w ks
  same_said {w} p e = subst (λ (ks : List Sheet.Cell). Says Q w ks) e p

  -- a cell over what was said
  over_said : {w : List ℕ} {ks : List Sheet.Cell} (og : ℕ) (k : Content) → Says Q w ks → Q k → Says Q (sized w (cell og k)) (ks ++ alone og k)
  over_said {w} og k p x = both_said p (one_said og k (length w + cell_words) x none_said)

  -- a node's cell over its sources and its own parts
  node_said : {v w : List ℕ} {js ks : List Sheet.Cell} (og : ℕ) (k : Content) → Says Q v js → Says Q w ks → Q k → Says Q (sized (v ++ w) (cell og k)) (js ++ (ks ++ alone og k))
  node_said {js = js} {ks = ks} og k p q x = same_said (over_said og k (both_said p q) x) (append_assoc js ks (alone og k))

  all_said : {A : Type 0} (f : A → List Sheet.Cell) (g : A → List ℕ) (P : A → Type 0) → ((x : A) → P x → Says Q (g x) (f x)) → (xs : List A) → All P xs
      → Says Q (all_words g xs) (all_cells f xs)
  all_said f g P r [] q = none_said
  all_said f g P r (x ∷ xs) q = both_said (r x q.0) (all_said f g P r xs q.1)

  expression_said : (e : Expression) → EachExpression Q e → Says Q (expression_words e) (expression_cells e)
  unfolding expression_cells expression_words
  expression_said (constant og v) x = one_said og (constant_cell v) cell_words x none_said
  expression_said (column og i) x = one_said og (column_cell i) cell_words x none_said
  expression_said (unary og o e) x = over_said og (unary_cell o) (expression_said e x.0) x.1
  expression_said (binary og o l r) x = node_said og (binary_cell o) (expression_said l x.0) (expression_said r x.1.0) x.1.1

  optional_said : (e : Option Expression) → Optional (EachExpression Q) e → Says Q (optional_words e) (optional_cells e)
  optional_said none x = none_said
  optional_said (some e) x = expression_said e x

  expressions_said : (es : List Expression) → All (EachExpression Q) es → Says Q (all_words expression_words es) (all_cells expression_cells es)
  expressions_said = all_said expression_cells expression_words (EachExpression Q) expression_said

  row_said : (es : Marked (List Expression)) → EachRow Q es → Says Q (row_words es) (row_cells es)
  row_said es x = over_said es.1 (row_cell (length es.0)) (expressions_said es.0 x.0) x.1

  constants_said : (vs : List (Marked Value)) → All (λ v. Q (constant_cell v.0)) vs → Says Q (all_words constant_words vs) (all_cells constant_cells vs)
  constants_said = all_said constant_cells constant_words (λ v. Q (constant_cell v.0)) (λ v x. one_said v.1 (constant_cell v.0) cell_words x none_said)

  leaf_said : (og : ℕ) (l : Leaf) → EachLeaf Q l → Says Q (node_words (leaf og l)) (leaf_cells og l)
  unfolding leaf_cells node_words
  leaf_said og (scan t al none) x = over_said og (scan_cell false t al) none_said x.1
  leaf_said og (scan t al (some e)) x = over_said og (scan_cell true t al) (expression_said e x.0) x.1
  leaf_said og (lookup by_key t al vs) x = over_said og (key_lookup_cell t al (length vs)) (constants_said vs x.0) x.1
  leaf_said og (lookup (by_index i) t al vs) x = over_said og (index_lookup_cell t al i (length vs)) (constants_said vs x.0) x.1
  leaf_said og (nothing ls) x =
      over_said og (nothing_cell (length ls)) (all_said label_cells label_words (λ l. Q (label_cell l.0)) (λ l y. one_said l.1 (label_cell l.0) cell_words y none_said) ls x.0) x.1
  leaf_said og (values rs) x = over_said og (values_cell (length rs)) (all_said row_cells row_words (EachRow Q) row_said rs x.0) x.1

  over_node_said : (og : ℕ) (o : Over) → EachOver Q o → (n : Node) → Says Q (node_words n) (cells n) → Says Q (node_words (over og o n)) (cells n ++ over_cells og o)
  unfolding over_cells other_cells node_words
  over_node_said og (filter e) x n s = node_said og filter_cell s (expression_said e x.0) x.1
  over_node_said og (other (limit m)) x n s = node_said og (limit_cell m) s none_said x
  over_node_said og (other (offset m)) x n s = node_said og (offset_cell m) s none_said x
  over_node_said og (other (order ks)) x n s =
      node_said og (order_cell (length ks)) s
      (all_said key_cells key_words (EachKey Q) (λ k y. over_said k.2 (key_cell k.1) (expression_said k.0 y.0) y.1) ks x.0) x.1
  over_node_said og (other (projection is)) x n s =
      node_said og (projection_cell (length is)) s
      (all_said item_cells item_words (EachItem Q) (λ i y. over_said i.2 (item_cell i.1) (expression_said i.0 y.0) y.1) is x.0) x.1
  over_node_said og (other (remap ts)) x n s =
      node_said og (remap_cell (length ts)) s
      (all_said target_cells target_words (λ t. Q (target_cell t.0)) (λ t y. one_said t.1 (target_cell t.0) cell_words y none_said) ts x.0) x.1
  over_node_said og (other (aggregate es gs)) x n s =
      same_said (node_said og (aggregate_cell (length es) (length gs)) s
      (both_said (expressions_said es x.0)
      (all_said agg_cells agg_words (EachAgg Q) (λ g y. over_said g.2 (agg_cell g.0) (expression_said g.1 y.0) y.1) gs x.1.0)) x.1.1)
      (simp append_assoc)

  join_said : (og : ℕ) (outer : Bool) (j : Join) → EachJoin Q outer j → (l r : Node) → Says Q (node_words l) (cells l) → Says Q (node_words r) (cells r)
      → Says Q (node_words (join og outer j l r)) (cells l ++ (cells r ++ join_cells og outer j))
  unfolding join_cells node_words
  join_said og outer (nested_loop none) x l r s t = same_said (node_said og (nested_loop_join_cell false outer) s (both_said t none_said) x.1) (simp append_assoc)
  join_said og outer (nested_loop (some e)) x l r s t =
      same_said (node_said og (nested_loop_join_cell true outer) s (both_said t (expression_said e x.0)) x.1) (simp append_assoc)
  join_said og outer (hash i j) x l r s t = same_said (node_said og (hash_join_cell outer i j) s (both_said t none_said) x) (simp append_assoc)

  plan_said : (n : Node) → Each Q n → Says Q (node_words n) (cells n)
  unfolding cells
  plan_said (leaf og l) x = leaf_said og l x
  plan_said (over og o n) x = over_node_said og o x.1 n (plan_said n x.0)
  plan_said (join og outer j l r) x = join_said og outer j x.1.1 l r (plan_said l x.0) (plan_said r x.1.0)

  all_of : (R : Sheet.Cell → Type 0) → ((og : ℕ) (k : Content) → Q k → R (marked og (cell_of k))) → {w : List ℕ} {ks : List Sheet.Cell} → Says Q w ks → All R ks
  all_of R f none_said = tt
  all_of R f (one_said og k n x p) = (f og k x, all_of R f p)

-- ---- every plan's words say its cells

-- what holds of any cell
abbrev Any : Content → Type 0
Any k = Unit {0}

any_all : {A : Type 0} (P : A → Type 0) → ((x : A) → P x) → (xs : List A) → All P xs
any_all P f [] = tt
any_all P f (x ∷ xs) = (f x, any_all P f xs)

any_expression : (e : Expression) → EachExpression Any e
any_expression (constant og v) = tt
any_expression (column og i) = tt
any_expression (unary og o x) = (any_expression x, tt)
any_expression (binary og o l r) = (any_expression l, (any_expression r, tt))

any_expressions : (es : List Expression) → All (EachExpression Any) es
any_expressions = any_all (EachExpression Any) any_expression

any_leaf : (l : Leaf) → EachLeaf Any l
any_leaf (scan t al none) = (tt, tt)
any_leaf (scan t al (some e)) = (any_expression e, tt)
any_leaf (lookup a t al vs) = (any_all (λ v. Unit {0}) (λ v. tt) vs, tt)
any_leaf (nothing ls) = (any_all (λ l. Unit {0}) (λ l. tt) ls, tt)
any_leaf (values rs) = (any_all (EachRow Any) (λ es. (any_expressions es.0, tt)) rs, tt)

any_over : (o : Over) → EachOver Any o
any_over (filter e) = (any_expression e, tt)
any_over (other (limit n)) = tt
any_over (other (offset n)) = tt
any_over (other (order ks)) = (any_all (EachKey Any) (λ k. (any_expression k.0, tt)) ks, tt)
any_over (other (projection is)) = (any_all (EachItem Any) (λ i. (any_expression i.0, tt)) is, tt)
any_over (other (remap ts)) = (any_all (λ t. Unit {0}) (λ t. tt) ts, tt)
any_over (other (aggregate es gs)) = (any_expressions es, (any_all (EachAgg Any) (λ g. (any_expression g.1, tt)) gs, tt))

any_join : (outer : Bool) (j : Join) → EachJoin Any outer j
any_join outer (nested_loop none) = (tt, tt)
any_join outer (nested_loop (some e)) = (any_expression e, tt)
any_join outer (hash i j) = tt

any : (n : Node) → Each Any n
any (leaf og l) = any_leaf l
any (over og o n) = (any n, any_over o)
any (join og outer j l r) = (any l, (any r, any_join outer j))

-- A cell's tag is a byte, and so is its flag if it can stand in a sheet.
record Plain (k : Sheet.Cell) : Type 0 where
  tag : k.tag < 256

plain : {t f a b c : ℕ} → t < 256 → Plain (record { tag = t; flag = f; origin = 0; a = a; b = b; c = c })
plain h = record { tag = h }

unary_plain : (o : Unary) → Plain (cell_of (unary_cell o))
unary_plain Not = plain (omega arith)
unary_plain (function IsNull) = plain (omega arith)
unary_plain (function IsNaN) = plain (omega arith)
unary_plain (function Identity) = plain (omega arith)
unary_plain (function Negate) = plain (omega arith)
unary_plain (function SquareRoot) = plain (omega arith)

binary_plain : (o : Binary) → Plain (cell_of (binary_cell o))
binary_plain (logical And) = plain (omega arith)
binary_plain (logical Or) = plain (omega arith)
binary_plain Equal = plain (omega arith)
binary_plain (function GreaterThan) = plain (omega arith)
binary_plain (function LessThan) = plain (omega arith)
binary_plain (function Add) = plain (omega arith)
binary_plain (function Divide) = plain (omega arith)
binary_plain (function Subtract) = plain (omega arith)
binary_plain (function Multiply) = plain (omega arith)

plain_cell : (k : Content) → Plain (cell_of k)
plain_cell (constant_cell (truth Unknown)) = plain (omega arith)
plain_cell (constant_cell (truth False)) = plain (omega arith)
plain_cell (constant_cell (truth True)) = plain (omega arith)
plain_cell (constant_cell (datum (integer n))) = plain (omega arith)
plain_cell (constant_cell (datum (float b))) = plain (omega arith)
plain_cell (constant_cell (datum (string r s))) = plain (omega arith)
plain_cell (column_cell i) = plain (omega arith)
plain_cell (unary_cell o) = unary_plain o
plain_cell (binary_cell o) = binary_plain o
plain_cell (label_cell unlabelled) = plain (omega arith)
plain_cell (label_cell (unqualified n)) = plain (omega arith)
plain_cell (label_cell (qualified q n)) = plain (omega arith)
plain_cell (item_cell unlabelled) = plain (omega arith)
plain_cell (item_cell (unqualified n)) = plain (omega arith)
plain_cell (item_cell (qualified q n)) = plain (omega arith)
plain_cell (key_cell d) = plain (omega arith)
plain_cell (target_cell none) = plain (omega arith)
plain_cell (target_cell (some i)) = plain (omega arith)
plain_cell (agg_cell f) = plain (omega arith)
plain_cell (row_cell n) = plain (omega arith)
plain_cell (aggregate_cell n m) = plain (omega arith)
plain_cell filter_cell = plain (omega arith)
plain_cell (hash_join_cell o l r) = plain (omega arith)
plain_cell (index_lookup_cell t none i n) = plain (omega arith)
plain_cell (index_lookup_cell t (some r) i n) = plain (omega arith)
plain_cell (key_lookup_cell t none n) = plain (omega arith)
plain_cell (key_lookup_cell t (some r) n) = plain (omega arith)
plain_cell (limit_cell n) = plain (omega arith)
plain_cell (offset_cell n) = plain (omega arith)
plain_cell (nested_loop_join_cell p o) = plain (omega arith)
plain_cell (nothing_cell n) = plain (omega arith)
plain_cell (order_cell n) = plain (omega arith)
plain_cell (projection_cell n) = plain (omega arith)
plain_cell (remap_cell n) = plain (omega arith)
plain_cell (scan_cell f t none) = plain (omega arith)
plain_cell (scan_cell f t (some r)) = plain (omega arith)
plain_cell (values_cell n) = plain (omega arith)

said_in : {Q : Content → Type 0} {w : List ℕ} {ks : List Sheet.Cell} → Says Q w ks → cells_in w ≡ ks
unfolding cells_in cell
said_in none_said = refl
said_in (one_said og k n x p) = ap (λ (l : List Sheet.Cell). marked og (cell_of k) ∷ l) (said_in p)

pub node_cells : (m : Node) → cells_in (node_words m) ≡ cells m
node_cells m = said_in (plan_said {Q = Any} m (any m))

-- ---- what holds of what each cell says, by Q, holds of the cells that the words say, by R

module _ {Q : Content → Type 0} (R : Sheet.Cell → Type 0) (f : (og : ℕ) (k : Content) → Q k → R (marked og (cell_of k))) where
  each_in : {w : List ℕ} {ks : List Sheet.Cell} → Says Q w ks → All R (cells_in w)
  each_in p = subst (All R) (sym (said_in p)) (all_of R f p)

  pub optional_in : (e : Option Expression) → Optional (EachExpression Q) e → All R (cells_in (optional_words e))
  optional_in e x = each_in (optional_said e x)

  -- with a cell over it
  pub optional_under : (og : ℕ) (k : Content) (e : Option Expression) → Optional (EachExpression Q) e → Q k → All R (cells_in (sized (optional_words e) (cell og k)))
  optional_under og k e x y = each_in (over_said og k (optional_said e x) y)

  pub node_in : (n : Node) → Each Q n → All R (cells_in (node_words n))
  node_in n x = each_in (plan_said n x)

-- ---- the flags of a plan that can stand in a sheet

module _ (text : List ℕ) (bytes tables : ℕ) where
  abbrev P : Content → Type 0
  P k = ContentFits text bytes tables k

  bit_small : (d : Bool) → Rattle.sheet.specs.Content.bit d < 2
  bit_small true = omega arith
  bit_small false = omega arith

  flag_small : (k : Content) → P k → (cell_of k).flag < 256
  flag_small (constant_cell (truth Unknown)) x = omega arith
  flag_small (constant_cell (truth False)) x = omega arith
  flag_small (constant_cell (truth True)) x = omega arith
  flag_small (constant_cell (datum (integer n))) x = omega arith
  flag_small (constant_cell (datum (float b))) x = omega arith
  flag_small (constant_cell (datum (string r s))) x = omega arith
  flag_small (column_cell i) x = omega arith
  flag_small (unary_cell o) x = omega arith
  flag_small (binary_cell o) x = omega arith
  flag_small (label_cell unlabelled) x = omega arith
  flag_small (label_cell (unqualified n)) x = omega arith
  flag_small (label_cell (qualified q n)) x = omega arith
  flag_small (item_cell unlabelled) x = omega arith
  flag_small (item_cell (unqualified n)) x = omega arith
  flag_small (item_cell (qualified q n)) x = omega arith
  flag_small (key_cell d) x = omega (arith, bit_small d)
  flag_small (target_cell none) x = omega arith
  flag_small (target_cell (some i)) x = omega arith
  flag_small (agg_cell f) x = omega arith
  flag_small (row_cell n) x = omega arith
  flag_small (aggregate_cell n m) x = omega arith
  flag_small filter_cell x = omega arith
  flag_small (hash_join_cell o l r) x = omega (arith, bit_small o)
  flag_small (index_lookup_cell t none i n) x = omega arith
  flag_small (index_lookup_cell t (some r) i n) x = omega arith
  flag_small (key_lookup_cell t none n) x = omega arith
  flag_small (key_lookup_cell t (some r) n) x = omega arith
  flag_small (limit_cell n) x = omega arith
  flag_small (offset_cell n) x = omega arith
  flag_small (nested_loop_join_cell p o) x = omega (arith, bit_small p, bit_small o)
  flag_small (nothing_cell n) x = omega arith
  flag_small (order_cell n) x = omega arith
  flag_small (projection_cell n) x = omega arith
  flag_small (remap_cell n) x = omega arith
  flag_small (scan_cell f t none) x = omega (arith, bit_small f)
  flag_small (scan_cell f t (some r)) x = omega (arith, bit_small f)
  flag_small (values_cell n) x = omega arith

  pub node_small : (m : Node) → Each P m → OriginsBelow 65536 m → All Small (cells m)
  node_small m x b = go (cells m) (all_of (λ c. (c.tag < 256) × (c.flag < 256)) (λ og k y. ((plain_cell k).tag, flag_small k y)) (plan_said m x)) b
    where
      go : (ks : List Sheet.Cell) → All (λ c. (c.tag < 256) × (c.flag < 256)) ks → All (λ c. c.origin < 65536) ks → All Small ks
      go [] p q = tt
      go (k ∷ ks) p q = (record { tag = p.0.0; flag = p.0.1; origin = q.0 }, go ks p.1 q.1)
