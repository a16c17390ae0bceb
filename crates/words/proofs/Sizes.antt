-- The working form has seven words for each cell that a node's size counts.
use Prim.Native.Nat.{ℕ, ◌+◌, ◌*◌}
use native.Mathlib.Omega.{arith}
use mathlib.Core.Bool.{Bool}
use mathlib.Core.Path.{◌≡◌, refl}
use mathlib.Core.List.{List, [], ◌∷◌}
use mathlib.Core.Option.{Option, none, some}
use lib.ListN.{length, length-append}
use Rattle.sql.specs.Expression.{Expression, constant, column, unary, binary, size}
use Rattle.sql.specs.Plan.{Label, Leaf, scan, lookup, nothing, values, limit, offset, order, projection, remap, aggregate, Over, filter, other, Join, nested_loop, hash, Node, leaf, over, join, sum, optional_size, row_size, item_size, key_size, aggregate_size, leaf_size, over_size, join_size, node_size}
use Rattle.cells.specs.declared.Cell.{Cell}
use Rattle.cells.specs.Cells.{cell_words, words, sized}
use Rattle.words.specs.Words.{all_words, expression_words, optional_words, constant_words, label_words, target_words, item_words, key_words, agg_words, row_words, leaf_own, over_own, join_own, node_words}

pub sized_long : (b : List ℕ) (k : Cell) → length (sized b k) ≡ length b + cell_words
sized_long b k = length-append b (words k (length b + cell_words))

pub expression_long : (e : Expression) → length (expression_words e) ≡ cell_words * size e
unfolding expression_words
expression_long (constant og v) = refl
expression_long (column og i) = refl
expression_long (unary og o x) = simp length-append (omega (arith, expression_long x))
expression_long (binary og o l r) = simp length-append (omega (arith, expression_long l, expression_long r))

optional_long : (e : Option Expression) → length (optional_words e) ≡ cell_words * optional_size e
optional_long none = refl
optional_long (some e) = expression_long e

-- of parts that follow each other
all_long : {A : Type 0} (f : A → List ℕ) (g : A → ℕ) → ((x : A) → length (f x) ≡ cell_words * g x) → (xs : List A) → length (all_words f xs) ≡ cell_words * sum g xs
all_long f g h [] = refl
all_long f g h (x ∷ xs) = simp length-append (omega (arith, h x, all_long f g h xs))

-- parts of one cell each
pub all_single : {A : Type 0} (f : A → List ℕ) → ((x : A) → length (f x) ≡ cell_words) → (xs : List A) → length (all_words f xs) ≡ cell_words * length xs
all_single f h [] = refl
all_single f h (x ∷ xs) = simp length-append (omega (arith, h x, all_single f h xs))

expressions_long : (es : List Expression) → length (all_words expression_words es) ≡ cell_words * sum size es
expressions_long es = all_long expression_words size expression_long es

row_long : (es : List Expression × ℕ) → length (row_words es) ≡ cell_words * row_size es
row_long es = simp length-append (omega (arith, expressions_long es.0))

item_long : (i : Expression × Label × ℕ) → length (item_words i) ≡ cell_words * item_size i
item_long i = simp length-append (omega (arith, expression_long i.0))

key_long : (k : Expression × Bool × ℕ) → length (key_words k) ≡ cell_words * key_size k
key_long k = simp length-append (omega (arith, expression_long k.0))

agg_long : (a : ℕ × Expression × ℕ) → length (agg_words a) ≡ cell_words * aggregate_size a
agg_long a = simp length-append (omega (arith, expression_long a.1))

-- a node's own words and its cell
pub leaf_long : (l : Leaf) → length (leaf_own l) + cell_words ≡ cell_words * leaf_size l
leaf_long (scan t al f) = omega (arith, optional_long f)
leaf_long (lookup a t al vs) = omega (arith, all_single constant_words (λ v. refl) vs)
leaf_long (nothing ls) = omega (arith, all_single label_words (λ l. refl) ls)
leaf_long (values rs) = omega (arith, all_long row_words row_size row_long rs)

pub over_long : (o : Over) → length (over_own o) + cell_words ≡ cell_words * over_size o
over_long (filter e) = omega (arith, expression_long e)
over_long (other (limit n)) = refl
over_long (other (offset n)) = refl
over_long (other (order ks)) = omega (arith, all_long key_words key_size key_long ks)
over_long (other (projection is)) = omega (arith, all_long item_words item_size item_long is)
over_long (other (remap ts)) = omega (arith, all_single target_words (λ t. refl) ts)
over_long (other (aggregate es gs)) =
    simp length-append (omega (arith, expressions_long es, all_long agg_words aggregate_size agg_long gs))

pub join_long : (j : Join) → length (join_own j) + cell_words ≡ cell_words * join_size j
join_long (nested_loop p) = omega (arith, optional_long p)
join_long (hash l r) = refl

pub words_long : (p : Node) → length (node_words p) ≡ cell_words * node_size p
unfolding node_words
words_long (leaf og l) = simp length-append (omega (arith, leaf_long l))
words_long (over og o n) = simp length-append (omega (arith, words_long n, over_long o))
words_long (join og outer j l r) = simp length-append (omega (arith, words_long l, words_long r, join_long j))
