-- The number of trees that a cell stands over is that of the children that its content asks for.
-- Assumes nothing.
use Prim.Native.Nat.{ℕ, ◌+◌, ◌-◌, ◌*◌, ◌/◌, ◌≤◌, ◌<◌}
use native.Mathlib.Omega.{arith}
use mathlib.Core.Path.{◌≡◌, refl, sym, ap, ◌∙◌}
use mathlib.Core.Bool.{Bool, true, false, cond}
use mathlib.Core.List.{List}
use mathlib.Core.Option.{none, some}
use lib.Dec.{ltb}
use lib.ListN.{get_or, get_or-eq_default}
use borrow.Author.Tests.{lt-ltb, le-ltb}
use Rattle.value.specs.Value.{False, Unknown, True, truth, datum, integer, float, string}
use Rattle.sql.specs.Expression.{Unary, Not, function, IsNull, IsNaN, Identity, Negate, SquareRoot, Binary, logical, And, Or, Equal, GreaterThan, LessThan, Add, Divide, Subtract, Multiply}
use Rattle.sql.specs.Plan.{unlabelled, unqualified, qualified}
use Rattle.sheet.specs.Cell.{Cell}
use Rattle.sheet.specs.Content.{Content, cell_of, marked, constant_cell, column_cell, unary_cell, binary_cell, label_cell, item_cell, key_cell, target_cell, agg_cell, row_cell, aggregate_cell, filter_cell, hash_join_cell, index_lookup_cell, key_lookup_cell, limit_cell, offset_cell, nested_loop_join_cell, nothing_cell, order_cell, projection_cell, remap_cell, scan_cell, values_cell}
use Rattle.sheet_laws.specs.Fits.{CountsFit}
use Rattle.sheet_laws.specs.Content.{high_part}
use Rattle.arity.specs.Arity.{children}
use Rattle.arity.specs.declared.Children.{Children}
use Rattle.decode.specs.Decode.{part_trees, node_trees, trees}

abbrev pub total : Children → ℕ
total n = n.nodes + n.parts + n.aggs

unary_trees : (o : Unary) → trees (cell_of (unary_cell o)) ≡ 1
unfolding trees
unary_trees Not = refl
unary_trees (function IsNull) = refl
unary_trees (function IsNaN) = refl
unary_trees (function Identity) = refl
unary_trees (function Negate) = refl
unary_trees (function SquareRoot) = refl

binary_trees : (o : Binary) → trees (cell_of (binary_cell o)) ≡ 2
unfolding trees
binary_trees (logical And) = refl
binary_trees (logical Or) = refl
binary_trees Equal = refl
binary_trees (function GreaterThan) = refl
binary_trees (function LessThan) = refl
binary_trees (function Add) = refl
binary_trees (function Divide) = refl
binary_trees (function Subtract) = refl
binary_trees (function Multiply) = refl

-- an IndexLookup's count, behind its column
counted : {i n : ℕ} → (i < 65536) × (n < 65536) → (i + 65536 * n) / 65536 ≡ 0 + n + 0
counted {i} {n} h = high_part 65536 i n h.0 ∙ omega arith

pub trees_said : (k : Content) → CountsFit k → trees (cell_of k) ≡ total (children k)
unfolding trees
trees_said (constant_cell (truth Unknown)) x = refl
trees_said (constant_cell (truth False)) x = refl
trees_said (constant_cell (truth True)) x = refl
trees_said (constant_cell (datum (integer n))) x = refl
trees_said (constant_cell (datum (float b))) x = refl
trees_said (constant_cell (datum (string r s))) x = refl
trees_said (column_cell i) x = refl
trees_said (unary_cell o) x = unary_trees o
trees_said (binary_cell o) x = binary_trees o
trees_said (label_cell unlabelled) x = refl
trees_said (label_cell (unqualified n)) x = refl
trees_said (label_cell (qualified q n)) x = refl
trees_said (item_cell unlabelled) x = refl
trees_said (item_cell (unqualified n)) x = refl
trees_said (item_cell (qualified q n)) x = refl
trees_said (key_cell d) x = refl
trees_said (target_cell none) x = refl
trees_said (target_cell (some i)) x = refl
trees_said (agg_cell f) x = refl
trees_said (row_cell n) x = omega arith
trees_said (aggregate_cell n m) x = refl
trees_said filter_cell x = refl
trees_said (hash_join_cell o l r) x = refl
trees_said (index_lookup_cell t none i n) x = counted x
trees_said (index_lookup_cell t (some r) i n) x = counted x
trees_said (key_lookup_cell t none n) x = omega arith
trees_said (key_lookup_cell t (some r) n) x = omega arith
trees_said (limit_cell n) x = refl
trees_said (offset_cell n) x = refl
trees_said (nested_loop_join_cell false false) x = refl
trees_said (nested_loop_join_cell false true) x = refl
trees_said (nested_loop_join_cell true false) x = refl
trees_said (nested_loop_join_cell true true) x = refl
trees_said (nothing_cell n) x = omega arith
trees_said (order_cell n) x = omega arith
trees_said (projection_cell n) x = omega arith
trees_said (remap_cell n) x = omega arith
trees_said (scan_cell false t none) x = refl
trees_said (scan_cell true t none) x = refl
trees_said (scan_cell false t (some r)) x = refl
trees_said (scan_cell true t (some r)) x = refl
trees_said (values_cell n) x = omega arith

-- whatever its origin is
pub marked_trees : (og : ℕ) (k : Content) → CountsFit k → trees (marked og (cell_of k)) ≡ total (children k)
unfolding trees
marked_trees og k x = trees_said k x

-- ---- the branches of the code

-- What stands in a list for the tag n, whose tags are counted from `first`.
pub said_at : (n : ℕ) {r : ℕ} (l : List ℕ) (first tag : ℕ) → tag ≡ n → r ≡ get_or l (n - first) 0 → r ≡ get_or l (tag - first) 0
said_at n l first tag e h = h ∙ ap (λ (t : ℕ). get_or l (t - first) 0) (sym e)

module _ (k : Cell) where
  -- what is left of the definition behind a test that fails
  behind : (n m v : ℕ) → n ≤ k.tag → cond (ltb k.tag n) v m ≡ m
  behind n m v h = ap (λ (b : Bool). cond b v m) (le-ltb k.tag n h)

  before : (n m v : ℕ) → k.tag < n → cond (ltb k.tag n) v m ≡ v
  before n m v h = ap (λ (b : Bool). cond b v m) (lt-ltb k.tag n h)

  abbrev nodes : ℕ
  nodes = get_or (node_trees k) (k.tag - 50) 0

  abbrev from_46 : ℕ
  from_46 = cond (ltb k.tag 50) 0 nodes

  abbrev from_40 : ℕ
  from_40 = cond (ltb k.tag 46) (get_or (part_trees k.a) (k.tag - 40) 0) from_46

  abbrev from_30 : ℕ
  from_30 = cond (ltb k.tag 40) 1 from_40

  abbrev from_10 : ℕ
  from_10 = cond (ltb k.tag 30) 2 from_30

  pub leaf_trees : k.tag < 10 → 0 ≡ trees k
  unfolding trees
  leaf_trees h = sym (before 10 from_10 0 h)

  module _ (h : 10 ≤ k.tag) where
    pub two_trees : k.tag < 30 → 2 ≡ trees k
    unfolding trees
    two_trees j = sym (behind 10 from_10 0 h ∙ before 30 from_30 2 j)

    module _ (i : 30 ≤ k.tag) where
      pub one_tree : k.tag < 40 → 1 ≡ trees k
      unfolding trees
      one_tree j = sym (behind 10 from_10 0 h ∙ behind 30 from_30 2 i ∙ before 40 from_40 1 j)

      module _ (l : 40 ≤ k.tag) where
        pub parts_said : {r : ℕ} → k.tag < 46 → r ≡ get_or (part_trees k.a) (k.tag - 40) 0 → r ≡ trees k
        unfolding trees
        parts_said j e =
            e ∙ sym (behind 10 from_10 0 h ∙ behind 30 from_30 2 i ∙ behind 40 from_40 1 l ∙ before 46 from_46 (get_or (part_trees k.a) (k.tag - 40) 0) j)

        module _ (m : 46 ≤ k.tag) where
          from_all : trees k ≡ from_46
          unfolding trees
          from_all = behind 10 from_10 0 h ∙ behind 30 from_30 2 i ∙ behind 40 from_40 1 l ∙ behind 46 from_46 (get_or (part_trees k.a) (k.tag - 40) 0) m

          pub no_trees : k.tag < 50 → 0 ≡ trees k
          no_trees j = sym (from_all ∙ before 50 nodes 0 j)

          pub nodes_said : {r : ℕ} → 50 ≤ k.tag → r ≡ get_or (node_trees k) (k.tag - 50) 0 → r ≡ trees k
          nodes_said j e = e ∙ sym (from_all ∙ behind 50 nodes 0 j)

          pub past_trees : 64 ≤ k.tag → 0 ≡ trees k
          past_trees j = nodes_said (omega arith) (sym (get_or-eq_default (node_trees k) 0 {n = k.tag - 50} (omega arith)))
