-- The cells of a plan tell what its nodes are: a test that no part's cell passes is passed by one of a plan's cells if and only if a node's own cell passes it.
use Prim.Native.Nat.{ℕ, ◌%◌, ◌<◌}
use native.Mathlib.Omega.{arith}
use mathlib.Core.Bool.{Bool, true, false, ◌&&◌, ◌||◌}
use mathlib.Core.Path.{◌≡◌, refl, sym, ap, ◌∙◌}
use mathlib.Core.List.{List, [], ◌∷◌, ◌++◌}
use mathlib.Core.Option.{Option, none, some}
use lib.Dec.{eqb}
use lib.ListN.{length}
use borrow.Author.Tests.{ne_eqb}
use Rattle.value.specs.Value.{Value, False, Unknown, True, truth, datum, integer, float, string}
use Rattle.sql.specs.Expression.{Marked, Expression, constant, column, unary, binary, Unary, Not, function, IsNull, IsNaN, Identity, Negate, SquareRoot, Binary, logical, And, Or, Equal, GreaterThan, LessThan, Add, Divide, Subtract, Multiply}
use Rattle.sql.specs.Plan.{Label, unlabelled, unqualified, qualified, by_key, by_index, Leaf, scan, lookup, nothing, values, limit, offset, order, projection, remap, aggregate, Over, filter, other, Join, nested_loop, hash, Node, leaf, over, join}
use Rattle.sheet.specs.Cell.{Cell}
use Rattle.sheet.specs.Content.{Content, cell_of, marked, constant_as_cell, unary_tag, binary_tag, labelled, target_as_cell, constant_cell, column_cell, unary_cell, binary_cell, label_cell, item_cell, key_cell, target_cell, agg_cell, row_cell, aggregate_cell, filter_cell, limit_cell, offset_cell, order_cell, projection_cell, remap_cell, scan_cell, nothing_cell, values_cell, nested_loop_join_cell, hash_join_cell}
use Rattle.sheet.specs.Cells.{all_cells, alone, present, lookup_content, expression_cells, optional_cells, constant_cells, label_cells, target_cells, item_cells, key_cells, agg_cells, row_cells, leaf_cells, other_cells, over_cells, join_cells, cells}
use Rattle.predicates.specs.Predicates.{leaf_has_filter, join_has_predicate, is_filter, has_predicate, any_cell, predicated}

or_assoc : (a b c : Bool) → (a || b) || c ≡ a || (b || c)
or_assoc true b c = refl
or_assoc false b c = refl

or_false : (a : Bool) → a || false ≡ a
or_false true = refl
or_false false = refl

-- ---- the tags of parts

constant_low : (v : Value) → (constant_as_cell v).tag < 50
constant_low (truth Unknown) = omega arith
constant_low (truth False) = omega arith
constant_low (truth True) = omega arith
constant_low (datum (integer n)) = omega arith
constant_low (datum (float b)) = omega arith
constant_low (datum (string r s)) = omega arith

unary_low : (o : Unary) → unary_tag o < 50
unary_low Not = omega arith
unary_low (function IsNull) = omega arith
unary_low (function IsNaN) = omega arith
unary_low (function Identity) = omega arith
unary_low (function Negate) = omega arith
unary_low (function SquareRoot) = omega arith

binary_low : (o : Binary) → binary_tag o < 50
binary_low (logical And) = omega arith
binary_low (logical Or) = omega arith
binary_low Equal = omega arith
binary_low (function GreaterThan) = omega arith
binary_low (function LessThan) = omega arith
binary_low (function Add) = omega arith
binary_low (function Divide) = omega arith
binary_low (function Subtract) = omega arith
binary_low (function Multiply) = omega arith

labelled_low : (t : ℕ) → t < 50 → (l : Label) → (labelled t l).tag < 50
labelled_low t h unlabelled = h
labelled_low t h (unqualified n) = h
labelled_low t h (qualified q n) = h

target_low : (i : Option ℕ) → (target_as_cell i).tag < 50
target_low none = omega arith
target_low (some i) = omega arith

-- ---- a node's own cell, which stands behind its parts

abbrev leaf_own : Leaf → Content
leaf_own (scan t al f) = scan_cell (present f) t al
leaf_own (lookup a t al vs) = lookup_content a t al (length vs)
leaf_own (nothing ls) = nothing_cell (length ls)
leaf_own (values rs) = values_cell (length rs)

abbrev over_own : Over → Content
over_own (filter e) = filter_cell
over_own (other (limit n)) = limit_cell n
over_own (other (offset n)) = offset_cell n
over_own (other (order ks)) = order_cell (length ks)
over_own (other (projection is)) = projection_cell (length is)
over_own (other (remap ts)) = remap_cell (length ts)
over_own (other (aggregate es gs)) = aggregate_cell (length es) (length gs)

abbrev join_own : Bool → Join → Content
join_own outer (nested_loop p) = nested_loop_join_cell (present p) outer
join_own outer (hash l r) = hash_join_cell outer l r

-- ---- a test that no part's cell passes

module _ (test : Cell → Bool) (no_part : (k : Cell) → k.tag < 50 → test k ≡ false) where
  any_append : (u v : List Cell) → any_cell test (u ++ v) ≡ any_cell test u || any_cell test v
  any_append [] v = refl
  any_append (c ∷ u) v = ap (λ (b : Bool). test c || b) (any_append u v) ∙ sym (or_assoc (test c) (any_cell test u) (any_cell test v))

  -- behind what has none
  behind : (u v : List Cell) {b : Bool} → any_cell test u ≡ false → any_cell test v ≡ b → any_cell test (u ++ v) ≡ b
  behind u v h k = any_append u v ∙ ap (λ (b : Bool). b || any_cell test v) h ∙ k

  -- a cell alone
  itself : (og : ℕ) (k : Content) → any_cell test (alone og k) ≡ test (marked og (cell_of k))
  itself og k = or_false (test (marked og (cell_of k)))

  low : (og : ℕ) (k : Content) → (cell_of k).tag < 50 → any_cell test (alone og k) ≡ false
  low og k h = itself og k ∙ no_part (marked og (cell_of k)) h

  none_all : {A : Type 0} (f : A → List Cell) → ((x : A) → any_cell test (f x) ≡ false) → (xs : List A) → any_cell test (all_cells f xs) ≡ false
  none_all f h [] = refl
  none_all f h (x ∷ xs) = behind (f x) (all_cells f xs) (h x) (none_all f h xs)

  in_expression : (e : Expression) → any_cell test (expression_cells e) ≡ false
  unfolding expression_cells
  in_expression (constant og v) = low og (constant_cell v) (constant_low v)
  in_expression (column og i) = low og (column_cell i) (omega arith)
  in_expression (unary og o x) = behind (expression_cells x) _ (in_expression x) (low og (unary_cell o) (unary_low o))
  in_expression (binary og o l r) =
      behind (expression_cells l) _ (in_expression l) (behind (expression_cells r) _ (in_expression r) (low og (binary_cell o) (binary_low o)))

  in_expressions : (es : List Expression) → any_cell test (all_cells expression_cells es) ≡ false
  in_expressions = none_all expression_cells in_expression

  in_optional : (e : Option Expression) → any_cell test (optional_cells e) ≡ false
  in_optional none = refl
  in_optional (some e) = in_expression e

  -- what stands behind an expression, in a part
  in_part : (e : Expression) (og : ℕ) (k : Content) → (cell_of k).tag < 50 → any_cell test (expression_cells e ++ alone og k) ≡ false
  in_part e og k h = behind (expression_cells e) _ (in_expression e) (low og k h)

  in_row : (es : Marked (List Expression)) → any_cell test (row_cells es) ≡ false
  in_row es = behind (all_cells expression_cells es.0) _ (in_expressions es.0) (low es.1 (row_cell (length es.0)) (omega arith))

  in_leaf : (og : ℕ) (l : Leaf) → any_cell test (leaf_cells og l) ≡ test (marked og (cell_of (leaf_own l)))
  unfolding leaf_cells
  in_leaf og (scan t al f) = behind (optional_cells f) _ (in_optional f) (itself og (leaf_own (scan t al f)))
  in_leaf og (lookup a t al vs) =
      behind (all_cells constant_cells vs) _ (none_all constant_cells (λ v. low v.1 (constant_cell v.0) (constant_low v.0)) vs) (itself og (leaf_own (lookup a t al vs)))
  in_leaf og (nothing ls) =
      behind (all_cells label_cells ls) _ (none_all label_cells (λ l. low l.1 (label_cell l.0) (labelled_low 40 (omega arith) l.0)) ls) (itself og (leaf_own (nothing ls)))
  in_leaf og (values rs) = behind (all_cells row_cells rs) _ (none_all row_cells in_row rs) (itself og (leaf_own (values rs)))

  in_over : (og : ℕ) (o : Over) → any_cell test (over_cells og o) ≡ test (marked og (cell_of (over_own o)))
  unfolding over_cells other_cells
  in_over og (filter e) = behind (expression_cells e) _ (in_expression e) (itself og (over_own (filter e)))
  in_over og (other (limit n)) = itself og (over_own (other (limit n)))
  in_over og (other (offset n)) = itself og (over_own (other (offset n)))
  in_over og (other (order ks)) =
      behind (all_cells key_cells ks) _ (none_all key_cells (λ k. in_part k.0 k.2 (key_cell k.1) (omega arith)) ks) (itself og (over_own (other (order ks))))
  in_over og (other (projection is)) =
      behind (all_cells item_cells is) _ (none_all item_cells (λ i. in_part i.0 i.2 (item_cell i.1) (labelled_low 41 (omega arith) i.1)) is)
      (itself og (over_own (other (projection is))))
  in_over og (other (remap ts)) =
      behind (all_cells target_cells ts) _ (none_all target_cells (λ t. low t.1 (target_cell t.0) (target_low t.0)) ts) (itself og (over_own (other (remap ts))))
  in_over og (other (aggregate es gs)) =
      behind (all_cells expression_cells es) _ (in_expressions es)
      (behind (all_cells agg_cells gs) _ (none_all agg_cells (λ g. in_part g.1 g.2 (agg_cell g.0) (omega arith)) gs)
      (itself og (over_own (other (aggregate es gs)))))

  in_join : (og : ℕ) (outer : Bool) (j : Join) → any_cell test (join_cells og outer j) ≡ test (marked og (cell_of (join_own outer j)))
  unfolding join_cells
  in_join og outer (nested_loop p) = behind (optional_cells p) _ (in_optional p) (itself og (join_own outer (nested_loop p)))
  in_join og outer (hash l r) = itself og (join_own outer (hash l r))

  -- A property of plans that is found in a source, or in what the node's own cell says, is told by the cells.
  told : (P : Node → Bool) → ((og : ℕ) (l : Leaf) → test (marked og (cell_of (leaf_own l))) ≡ P (leaf og l))
      → ((og : ℕ) (o : Over) (n : Node) → P n || test (marked og (cell_of (over_own o))) ≡ P (over og o n))
      → ((og : ℕ) (outer : Bool) (j : Join) (l r : Node) → P l || (P r || test (marked og (cell_of (join_own outer j)))) ≡ P (join og outer j l r))
      → (p : Node) → any_cell test (cells p) ≡ P p
  unfolding cells
  told P f g h (leaf og l) = in_leaf og l ∙ f og l
  told P f g h (over og o n) =
      any_append (cells n) (over_cells og o) ∙ ap (λ (b : Bool). b || any_cell test (over_cells og o)) (told P f g h n) ∙ ap (λ (b : Bool). P n || b) (in_over og o) ∙ g og o n
  told P f g h (join og outer j l r) =
      any_append (cells l) (cells r ++ join_cells og outer j)
      ∙ ap (λ (b : Bool). any_cell test (cells l) || b) (any_append (cells r) (join_cells og outer j))
      ∙ both (told P f g h l) (told P f g h r) (in_join og outer j)
      ∙ h og outer j l r
    where
      both : {a b c a' b' c' : Bool} → a ≡ a' → b ≡ b' → c ≡ c' → a || (b || c) ≡ a' || (b' || c')
      both x y z = cc

-- ---- predicates

no_part_is : (tag : ℕ) → 50 < tag → (k : Cell) → k.tag < 50 → eqb k.tag tag ≡ false
no_part_is tag h k l = ne_eqb k.tag tag (λ e. omega arith)

no_part_predicated : (k : Cell) → k.tag < 50 → predicated k ≡ false
no_part_predicated k h =
    let a = no_part_is 51 (omega arith) k h in
    let b = no_part_is 56 (omega arith) k h in
    let c = no_part_is 62 (omega arith) k h in
    ap (λ (z : Bool). z || ((eqb k.tag 56 || eqb k.tag 62) && eqb (k.flag % 2) 1)) a ∙ ap (λ (z : Bool). (z || eqb k.tag 62) && eqb (k.flag % 2) 1) b
    ∙ ap (λ (z : Bool). z && eqb (k.flag % 2) 1) c

leaf_predicated : (l : Leaf) → predicated (cell_of (leaf_own l)) ≡ leaf_has_filter l
leaf_predicated (scan t none none) = refl
leaf_predicated (scan t none (some e)) = refl
leaf_predicated (scan t (some r) none) = refl
leaf_predicated (scan t (some r) (some e)) = refl
leaf_predicated (lookup by_key t none vs) = refl
leaf_predicated (lookup by_key t (some r) vs) = refl
leaf_predicated (lookup (by_index i) t none vs) = refl
leaf_predicated (lookup (by_index i) t (some r) vs) = refl
leaf_predicated (nothing ls) = refl
leaf_predicated (values rs) = refl

over_predicated : (o : Over) → predicated (cell_of (over_own o)) ≡ is_filter o
over_predicated (filter e) = refl
over_predicated (other (limit n)) = refl
over_predicated (other (offset n)) = refl
over_predicated (other (order ks)) = refl
over_predicated (other (projection is)) = refl
over_predicated (other (remap ts)) = refl
over_predicated (other (aggregate es gs)) = refl

join_predicated : (outer : Bool) (j : Join) → predicated (cell_of (join_own outer j)) ≡ join_has_predicate j
join_predicated true (nested_loop none) = refl
join_predicated false (nested_loop none) = refl
join_predicated true (nested_loop (some e)) = refl
join_predicated false (nested_loop (some e)) = refl
join_predicated outer (hash l r) = refl

pub predicate_told : (p : Node) → any_cell predicated (cells p) ≡ has_predicate p
predicate_told =
    told predicated no_part_predicated has_predicate (λ og l. leaf_predicated l) (λ og o n. ap (λ (b : Bool). has_predicate n || b) (over_predicated o))
    (λ og outer j l r. ap (λ (b : Bool). has_predicate l || (has_predicate r || b)) (join_predicated outer j))
