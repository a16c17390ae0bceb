-- Laws on a node's own words: how many trees they are, and what the node's cell asks for.
use Prim.Native.Nat.{ℕ, ◌+◌, ◌-◌, ◌*◌, ◌%◌, ◌≤◌, ◌<◌}
use native.Mathlib.Omega.{arith}
use mathlib.Core.Logic.{⊎_elim}
use mathlib.Core.Bool.{Bool, true, false}
use mathlib.Core.Path.{◌≡◌, refl, sym, ap, ◌∙◌, subst}
use mathlib.Core.List.{List, []}
use mathlib.Core.Option.{Option, none, some}
use lib.ListN.{length}
use Rattle.sql.specs.Expression.{origin, Expression}
use Rattle.sql.specs.Plan.{Label, unlabelled, unqualified, qualified, Leaf, scan, lookup, nothing, values, limit, offset, order, projection, remap, aggregate, Over, filter, other, Join, nested_loop, hash, Node, leaf, over, join}
use Rattle.sheet.specs.Content.{constant_cell, label_cell, target_cell, item_cell, key_cell, agg_cell, row_cell}
use Rattle.cells.specs.declared.Cell.{Cell}
use Rattle.cells.specs.Cells.{cell_words, cell_at, tag_at}
use Rattle.cells.proofs.Laws.{lt_or_ge}
use Rattle.words.specs.Words.{cell, all_words, root, operand_words, expression_words, constant_words, label_words, target_words, item_words, key_words, agg_words, row_words, leaf_own, over_own, join_own, own_words, source_words, source_count}
use Rattle.words.specs.Place.{NodeHere, NodeAt}
use Rattle.words.proofs.Expressions.{tag_cell, shape, by_leaf}
use Rattle.words.proofs.Nodes.{node_cell_is, node_tag, own_part, node_in, node_long}
use Rattle.words.proofs.Sizes.{over_long}
use Rattle.words.proofs.Tags.{tag_of, tagged, tag_known, told, sources_by_tag, by_aggregate, by_filter, by_remap, by_nested_loop}
use Rattle.nodes.specs.Trees.{Trees, Parts, PartsAt, trees_start}
use Rattle.nodes.specs.Trees as trees
use Rattle.nodes.specs.Own.{leaf_count, over_count, join_count, own_count, OwnStart, SourcedAt, OwnTrees, SourceCount}
use Rattle.nodes.proofs.Trees.{plain, parts_one, append_parts, all_parts, trees_start_is, trees_few}

-- ---- a node's own words are so many parts

-- an expression of a tag below 10 has no operands
leaf_alone : (e : Expression) → (cell (origin e) (root e)).tag < 10 → length (operand_words e) ≡ 0
leaf_alone e h = by_leaf (λ e. length (operand_words e) ≡ 0) (λ og v. refl) (λ og i. refl) e (rw (tag_cell (origin e) (root e)) at h)

one_part : (e : Expression) → Parts 1 (expression_words e)
one_part e = rw (shape e) (parts_one (operand_words e) (cell (origin e) (root e)) (leaf_alone e))

expression_parts : (es : List Expression) → Parts (length es) (all_words expression_words es)
expression_parts es = all_parts expression_words operand_words (λ e. cell (origin e) (root e)) shape leaf_alone es

pub one_tree : (e : Expression) → Trees 1 (expression_words e)
one_tree e = plain (one_part e)

pub expression_trees : (es : List Expression) → Trees (length es) (all_words expression_words es)
expression_trees es = plain (expression_parts es)

-- an Item's tag
item_tag : (og : ℕ) (l : Label) → (cell og (item_cell l)).tag ≡ 41
unfolding cell
item_tag og unlabelled = refl
item_tag og (unqualified n) = refl
item_tag og (qualified q n) = refl

leaf_parts : (l : Leaf) → Parts (leaf_count l) (leaf_own l)
unfolding cell
leaf_parts (scan t al none) = trees.no_part
leaf_parts (scan t al (some e)) = one_part e
leaf_parts (lookup a t al vs) = all_parts constant_words (λ v. []) (λ v. cell v.1 (constant_cell v.0)) (λ v. refl) (λ v h. refl) vs
leaf_parts (nothing ls) = all_parts label_words (λ l. []) (λ l. cell l.1 (label_cell l.0)) (λ l. refl) (λ l h. refl) ls
leaf_parts (values rs) =
    all_parts row_words (λ es. all_words expression_words es.0) (λ es. cell es.1 (row_cell (length es.0))) (λ es. refl) (λ es h. absurd (omega arith)) rs

over_parts : (o : Over) → Parts (over_count o) (over_own o)
unfolding cell
over_parts (filter e) = one_part e
over_parts (other (limit n)) = trees.no_part
over_parts (other (offset n)) = trees.no_part
over_parts (other (order ks)) =
    all_parts key_words (λ k. expression_words k.0) (λ k. cell k.2 (key_cell k.1)) (λ k. refl) (λ k h. absurd (omega arith)) ks
over_parts (other (projection is)) =
    all_parts item_words (λ i. expression_words i.0) (λ i. cell i.2 (item_cell i.1)) (λ i. refl)
    (λ i h. absurd (omega (arith, item_tag i.2 i.1))) is
over_parts (other (remap ts)) = all_parts target_words (λ t. []) (λ t. cell t.1 (target_cell t.0)) (λ t. refl) (λ t h. refl) ts
over_parts (other (aggregate es gs)) =
    append_parts (expression_parts es)
    (all_parts agg_words (λ g. expression_words g.1) (λ g. cell g.2 (agg_cell g.0)) (λ g. refl) (λ g h. absurd (omega arith)) gs)

join_parts : (j : Join) → Parts (join_count j) (join_own j)
join_parts (nested_loop none) = trees.no_part
join_parts (nested_loop (some e)) = one_part e
join_parts (hash i j) = trees.no_part

own_parts : (p : Node) → Parts (own_count p) (own_words p)
own_parts (leaf og l) = leaf_parts l
own_parts (over og o n) = over_parts o
own_parts (join og outer j l r) = join_parts j

pub own_trees : (p : Node) → Trees (own_count p) (own_words p)
own_trees p = plain (own_parts p)

-- ---- the number of them, by the node's cell

module _ {s : List ℕ} {lo hi : ℕ} {c : Cell} (q : c ≡ cell_at s hi) where
  tag_said : (p : Node) → NodeHere s lo hi p → c.tag ≡ tag_of p
  tag_said p u = ap (λ (k : Cell). k.tag) q ∙ node_tag p u ∙ tagged p

  pub aggregate_trees : c.tag ≡ 50 → OwnTrees s lo hi (c.a + c.b)
  unfolding cell
  aggregate_trees z p u y =
      by_aggregate (λ p. NodeHere s lo hi p → c.a + c.b ≡ own_count p)
      (λ og es gs n u. ap (λ (k : Cell). k.a + k.b) (q ∙ node_cell_is (over og (other (aggregate es gs)) n) u)) p (sym (tag_said p u) ∙ z) u

  pub list_trees : 59 ≤ c.tag → OwnTrees s lo hi c.a
  unfolding cell
  list_trees z p u y = go p u (tag_said p u) y
    where
      go : (p : Node) → NodeHere s lo hi p → c.tag ≡ tag_of p → (source_count p ≡ 0 → ⊥) → c.a ≡ own_count p
      go (leaf og l) u e y = absurd (y refl)
      go (over og (filter x) n) u e y = absurd (omega arith)
      go (over og (other (limit x)) n) u e y = absurd (omega arith)
      go (over og (other (offset x)) n) u e y = absurd (omega arith)
      go (over og (other (order ks)) n) u e y = ap (λ (k : Cell). k.a) (q ∙ node_cell_is (over og (other (order ks)) n) u)
      go (over og (other (projection is)) n) u e y = ap (λ (k : Cell). k.a) (q ∙ node_cell_is (over og (other (projection is)) n) u)
      go (over og (other (remap ts)) n) u e y = ap (λ (k : Cell). k.a) (q ∙ node_cell_is (over og (other (remap ts)) n) u)
      go (over og (other (aggregate es gs)) n) u e y = absurd (omega arith)
      go (join og outer (nested_loop x) l r) u e y = absurd (omega arith)
      go (join og outer (hash a b) l r) u e y = absurd (omega arith)

  pub filter_trees : c.tag ≡ 51 → OwnTrees s lo hi 1
  filter_trees z p u y = by_filter (λ p. 1 ≡ own_count p) (λ og e n. refl) p (sym (tag_said p u) ∙ z)

  pub join_trees_said : c.tag ≡ 56 → OwnTrees s lo hi (c.flag % 2)
  unfolding cell
  join_trees_said z p u y = by_nested_loop (λ p. NodeHere s lo hi p → c.flag % 2 ≡ own_count p) go p (sym (tag_said p u) ∙ z) u
    where
      go : (og : ℕ) (outer : Bool) (x : Option Expression) (l r : Node) → NodeHere s lo hi (join og outer (nested_loop x) l r) → c.flag % 2 ≡ own_count (join og outer (nested_loop x) l r)
      go og false none l r u = ap (λ (k : Cell). k.flag % 2) (q ∙ node_cell_is (join og false (nested_loop none) l r) u)
      go og true none l r u = ap (λ (k : Cell). k.flag % 2) (q ∙ node_cell_is (join og true (nested_loop none) l r) u)
      go og false (some x) l r u = ap (λ (k : Cell). k.flag % 2) (q ∙ node_cell_is (join og false (nested_loop (some x)) l r) u)
      go og true (some x) l r u = ap (λ (k : Cell). k.flag % 2) (q ∙ node_cell_is (join og true (nested_loop (some x)) l r) u)

  pub no_trees : (c.tag ≡ 50 → ⊥) → (c.tag < 62 → c.tag < 59) → (c.tag ≡ 51 → ⊥) → (c.tag ≡ 56 → ⊥) → OwnTrees s lo hi 0
  no_trees a b d f p u y = go p (tag_said p u) y
    where
      go : (p : Node) → c.tag ≡ tag_of p → (source_count p ≡ 0 → ⊥) → 0 ≡ own_count p
      go (leaf og l) e y = absurd (y refl)
      go (over og (filter x) n) e y = absurd (d e)
      go (over og (other (limit x)) n) e y = refl
      go (over og (other (offset x)) n) e y = refl
      go (over og (other (order ks)) n) e y = absurd (omega arith)
      go (over og (other (projection is)) n) e y = absurd (omega arith)
      go (over og (other (remap ts)) n) e y = absurd (omega arith)
      go (over og (other (aggregate es gs)) n) e y = absurd (a e)
      go (join og outer (nested_loop x) l r) e y = absurd (f e)
      go (join og outer (hash i j) l r) e y = refl

  -- an Aggregate's parts stand in the list
  pub aggregate_few : c.tag ≡ 50 → NodeAt s lo hi → c.a + c.b ≤ hi
  aggregate_few z t =
      by_aggregate (λ p. NodeHere s lo hi p → c.a + c.b ≤ hi)
      (λ og es gs n u.
      let p = over og (other (aggregate es gs)) n in
      omega (arith, aggregate_trees z p u (λ y. omega arith), trees_few (record { lo = lo + length (source_words p); w = own_words p; trees = own_trees p; part = own_part p u refl })))
      t.p (sym (tag_said t.p t.here) ∙ z) t.here

-- ---- where they start

module _ {s : List ℕ} {lo hi n : ℕ} (k : SourceCount s lo hi n) where
  pub leaf_start : n ≡ 0 → OwnStart s lo hi lo
  leaf_start z p u = go p (sym (k p u) ∙ z)
    where
      go : (p : Node) → source_count p ≡ 0 → lo ≡ lo + length (source_words p)
      go (leaf og l) h = omega arith
      go (over og o n) h = absurd (omega arith)
      go (join og outer j l r) h = absurd (omega arith)

  pub has_sources : (n ≡ 0 → ⊥) → NodeAt s lo hi → SourcedAt s lo hi
  has_sources z t = record { node = t; sourced = λ y. z (k t.p t.here ∙ y) }

  module _ (z : n ≡ 0 → ⊥) {r : ℕ} (f : OwnTrees s lo hi r) where
    pub own_at : NodeAt s lo hi → PartsAt s r (hi - cell_words)
    own_at t =
        subst (λ (m : ℕ). PartsAt s m (hi - cell_words)) (sym (f t.p t.here (λ y. z (k t.p t.here ∙ y))))
        (record { lo = lo + length (source_words t.p); w = own_words t.p; parts = own_parts t.p; part = own_part t.p t.here refl })

    pub own_start_said : {m : ℕ} → m ≡ trees_start s r (hi - cell_words) → OwnStart s lo hi m
    own_start_said e p u =
        e ∙ ap (λ (i : ℕ). trees_start s i (hi - cell_words)) (f p u (λ y. z (k p u ∙ y))) ∙ trees_start_is (own_trees p) (own_part p u refl)

-- a Remap's, whose Targets are one cell each
module _ {s : List ℕ} {lo hi r : ℕ} (f : OwnTrees s lo hi r) (z : tag_at s hi ≡ 61) where
  remap_here : (P : Node → Type 0)
      → ((og : ℕ) (ts : List (Option ℕ × ℕ)) (n : Node) → hi ≡ lo + length (source_words (over og (other (remap ts)) n)) + cell_words * r + cell_words → P (over og (other (remap ts)) n))
      → (p : Node) → NodeHere s lo hi p → P p
  remap_here P g p u =
      by_remap (λ p. NodeHere s lo hi p → P p)
      (λ og ts n u. let q = over og (other (remap ts)) n in g og ts n (omega (arith, f q u (λ y. omega arith), over_long (other (remap ts)), node_long q u)))
      p (sym (tagged p) ∙ sym (node_tag p u) ∙ z) u

  pub targets_fit : NodeAt s lo hi → cell_words * r + cell_words ≤ hi
  targets_fit t = remap_here (λ p. cell_words * r + cell_words ≤ hi) (λ og ts n e. omega arith) t.p t.here

  pub remap_start : OwnStart s lo hi (hi - cell_words - cell_words * r)
  remap_start p u = remap_here (λ p. hi - cell_words - cell_words * r ≡ lo + length (source_words p)) (λ og ts n e. omega arith) p u

pub at_in : {s : List ℕ} {lo hi : ℕ} → NodeAt s lo hi → (lo + cell_words ≤ hi) × (hi ≤ length s)
at_in t = node_in t.p t.here

-- a node's sources, by its tag
pub tag_in : {s : List ℕ} {lo hi : ℕ} → NodeAt s lo hi → {t : ℕ} → t ≡ tag_at s hi → (50 ≤ t) × (t < 64)
tag_in a e = let (h, k) = tag_known a.p in let i = e ∙ node_tag a.p a.here ∙ tagged a.p in (omega arith, omega arith)

pub sources_told : {s : List ℕ} {lo hi t : ℕ} → t ≡ tag_at s hi → SourceCount s lo hi (told t)
sources_told e p u = ap told (e ∙ node_tag p u ∙ tagged p) ∙ sym (sources_by_tag p)

-- what the code's tests of a tag tell of it
module _ {t : ℕ} where
  either : {n k : ℕ} → (t ≡ n → told t ≡ k) → (n + 1 ≤ t → told t ≡ k) → n ≤ t → told t ≡ k
  either {n} {k} f g h = ⊎_elim (λ (z : t < n + 1). f (omega arith)) g (lt_or_ge t (n + 1))

  is : {n k : ℕ} → told n ≡ k → t ≡ n → told t ≡ k
  is e h = ap told h ∙ e

  pub told_low : 50 ≤ t → (t ≡ 52 → ⊥) → t < 53 → told t ≡ 1
  told_low a b d = either (is {n = 50} refl) (either (is {n = 51} refl) (λ h. absurd (b (omega arith)))) a

  pub told_lookup : 53 ≤ t → t < 55 → told t ≡ 0
  told_lookup a b = either (is {n = 53} refl) (either (is {n = 54} refl) (λ h. absurd (omega arith))) a

  pub told_high : 55 ≤ t → (t ≡ 56 → ⊥) → (t ≡ 57 → ⊥) → t < 62 → told t ≡ 1
  told_high a b d e =
      either (is {n = 55} refl)
      (either (λ z. absurd (b z))
      (either (λ z. absurd (d z))
      (either (is {n = 58} refl) (either (is {n = 59} refl) (either (is {n = 60} refl) (either (is {n = 61} refl) (λ h. absurd (omega arith)))))))) a

  pub told_last : 62 ≤ t → t < 64 → told t ≡ 0
  told_last a b = either (is {n = 62} refl) (either (is {n = 63} refl) (λ h. absurd (omega arith))) a

pub count_told : {s : List ℕ} {lo hi t : ℕ} → t ≡ tag_at s hi → {k : ℕ} → told t ≡ k → SourceCount s lo hi k
count_told e z p u = sym z ∙ sources_told e p u
