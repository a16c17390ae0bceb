-- A plan has as many cells as its size says.
use Rattle.std.specs.Prelude.{ℕ, ◌≡◌, refl, Bool, List, [], ◌∷◌, length}
use Rattle.std.proofs.Common.{arith, length-append}
use Rattle.std.proofs.Math.Option.{Option, none, some}
use Rattle.sql.specs.Expression.{Marked, Expression, constant, column, unary, binary, size}
use Rattle.sql.specs.Plan.{Label, Leaf, scan, lookup, nothing, values, limit, offset, order, projection, remap, aggregate, Over, filter, other, Join, nested_loop, hash, Node, leaf, over, join, sum, optional_size, row_size, item_size, key_size, aggregate_size, leaf_size, over_size, join_size, node_size}
use Rattle.sheet.specs.Cell.{Cell}
use Rattle.sheet.specs.Cells.{all_cells, expression_cells, optional_cells, constant_cells, label_cells, target_cells, item_cells, key_cells, agg_cells, row_cells, leaf_cells, other_cells, over_cells, join_cells, cells}

pub expression_length : (e : Expression) → length (expression_cells e) ≡ size e
unfolding expression_cells
expression_length (constant og v) = refl
expression_length (column og c) = refl
expression_length (unary og o x) = simp length-append (omega (arith, expression_length x))
expression_length (binary og o l r) = simp length-append (omega (arith, expression_length l, expression_length r))

pub optional_length : (e : Option Expression) → length (optional_cells e) ≡ optional_size e
optional_length none = refl
optional_length (some e) = expression_length e

-- of a row of parts that follow each other
pub all_length : {A : Type 0} (f : A → List Cell) (g : A → ℕ) → ((x : A) → length (f x) ≡ g x) → (xs : List A) → length (all_cells f xs) ≡ sum g xs
all_length f g h [] = refl
all_length f g h (x ∷ xs) = simp length-append (omega (arith, h x, all_length f g h xs))

-- parts of one cell each
pub all_single : {A : Type 0} (f : A → List Cell) → ((x : A) → length (f x) ≡ 1) → (xs : List A) → length (all_cells f xs) ≡ length xs
all_single f h [] = refl
all_single f h (x ∷ xs) = simp length-append (omega (arith, h x, all_single f h xs))

pub expressions_length : (es : List Expression) → length (all_cells expression_cells es) ≡ sum size es
expressions_length es = all_length expression_cells size expression_length es

pub row_length : (es : Marked (List Expression)) → length (row_cells es) ≡ row_size es
row_length es = simp length-append (omega (arith, expressions_length es.0))

pub item_length : (i : Expression × Label × ℕ) → length (item_cells i) ≡ item_size i
item_length i = simp length-append (omega (arith, expression_length i.0))

pub key_length : (k : Expression × Bool × ℕ) → length (key_cells k) ≡ key_size k
key_length k = simp length-append (omega (arith, expression_length k.0))

pub agg_length : (a : ℕ × Expression × ℕ) → length (agg_cells a) ≡ aggregate_size a
agg_length a = simp length-append (omega (arith, expression_length a.1))

pub leaf_length : (og : ℕ) (l : Leaf) → length (leaf_cells og l) ≡ leaf_size l
unfolding leaf_cells
leaf_length og (scan t al f) = simp length-append (omega (arith, optional_length f))
leaf_length og (lookup a t al vs) = simp length-append (omega (arith, all_single constant_cells (λ v. refl) vs))
leaf_length og (nothing ls) = simp length-append (omega (arith, all_single label_cells (λ l. refl) ls))
leaf_length og (values rs) = simp length-append (omega (arith, all_length row_cells row_size row_length rs))

pub over_length : (og : ℕ) (o : Over) → length (over_cells og o) ≡ over_size o
unfolding over_cells other_cells
over_length og (filter e) = simp length-append (omega (arith, expression_length e))
over_length og (other (limit n)) = refl
over_length og (other (offset n)) = refl
over_length og (other (order ks)) = simp length-append (omega (arith, all_length key_cells key_size key_length ks))
over_length og (other (projection is)) = simp length-append (omega (arith, all_length item_cells item_size item_length is))
over_length og (other (remap ts)) = simp length-append (omega (arith, all_single target_cells (λ t. refl) ts))
over_length og (other (aggregate es gs)) =
    simp length-append (omega (arith, expressions_length es, all_length agg_cells aggregate_size agg_length gs))

pub join_length : (og : ℕ) (outer : Bool) (j : Join) → length (join_cells og outer j) ≡ join_size j
unfolding join_cells
join_length og outer (nested_loop p) = simp length-append (omega (arith, optional_length p))
join_length og outer (hash l r) = refl

-- The number of cells of a plan is its size.
pub node_length : (n : Node) → length (cells n) ≡ node_size n
unfolding cells
node_length (leaf og l) = leaf_length og l
node_length (over og o n) = simp length-append (omega (arith, node_length n, over_length og o))
node_length (join og outer j l r) =
    simp length-append (omega (arith, node_length l, node_length r, join_length og outer j))
