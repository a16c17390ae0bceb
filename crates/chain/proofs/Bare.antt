-- Laws on bare nodes: going down through them, and the chain that they are.
use Prim.Native.Nat.{ℕ, ◌+◌, ◌-◌, ◌≤◌, ◌<◌}
use native.Mathlib.Omega.{arith}
use mathlib.Core.Bool.{false}
use mathlib.Core.Path.{◌≡◌, refl, sym, ap, ◌∙◌, subst}
use mathlib.Core.List.{List, [], ◌∷◌}
use lib.ListN.{length}
use Rattle.cells.specs.Cells.{cell_words}
use Rattle.sql.specs.Expression.{Marked, Expression, origin}
use Rattle.sql.specs.Plan.{Other, Over, filter, other, Node, leaf, over, join}
use Rattle.words.specs.Words.{cell, root, operand_words, expression_words, over_own, own_words, source_count}
use Rattle.words.specs.Place.{NodeHere, NodeAt}
use Rattle.words.proofs.Expressions.{shape}
use Rattle.words.proofs.Nodes.{node_in, node_long, over_source}
use Rattle.words.proofs.Sizes.{sized_long}
use Rattle.words.proofs.Tags.{by_over}
use Rattle.nodes.specs.Trees.{Trees}
use Rattle.nodes.specs.Trees as trees
use Rattle.nodes.specs.Own.{own_count, OwnStart, OwnTrees, SourceCount}
use Rattle.nodes.proofs.Trees.{trees_long}
use Rattle.nodes.proofs.Own.{own_trees}
use Rattle.chain.specs.Chain.{chain, no_words, is_bare, Bare, no_more, one_more, GoesBelow}
use Rattle.chain.proofs.Chains.{Each}

pub no_length : (w : List ℕ) → length w ≡ 0 → w ≡ []
no_length [] h = refl
no_length (v ∷ w) h = absurd (omega arith)

some_length : (w : List ℕ) → 0 < length w → no_words w ≡ false
some_length [] h = absurd (omega arith)
some_length (v ∷ w) h = refl

expression_has_cell : (e : Expression) → cell_words ≤ length (expression_words e)
expression_has_cell e = omega (arith, ap length (shape e), sized_long (operand_words e) (cell (origin e) (root e)))

-- ---- what is below

module _ {s : List ℕ} {lo end : ℕ} (c : SourceCount s lo (end + cell_words) 1) (own : OwnStart s lo (end + cell_words) end) where
  -- a node that has one source and no words of its own
  by_bare : (P : Node → Type 0) → ((og : ℕ) (o : Other) (q : Node) → over_own (other o) ≡ [] → NodeHere s lo end q → P (over og (other o) q))
      → (p : Node) → NodeHere s lo (end + cell_words) p → P p
  by_bare P f p u = by_over (λ p. NodeHere s lo (end + cell_words) p → P p) go p (sym (c p u)) u
    where
      go : (og : ℕ) (o : Over) (q : Node) → NodeHere s lo (end + cell_words) (over og o q) → P (over og o q)
      go og (filter e) q v = absurd (omega (arith, expression_has_cell e, node_long (over og (filter e) q) v, own (over og (filter e) q) v))
      go og (other o) q v =
          f og o q (no_length (over_own (other o)) (omega (arith, node_long (over og (other o) q) v, own (over og (other o) q) v)))
          (over_source og (other o) q v (own (over og (other o) q) v))

-- p is a chain of bare nodes over one that ends before `end`.
pub record Below (s : List ℕ) (lo end : ℕ) (p : Node) : Type 0 where
  pub above : List (Marked Other)
  pub bare : Each (λ o. over_own (other o) ≡ []) above
  pub q : Node
  pub is : p ≡ chain above q
  pub here : NodeHere s lo end q

pub bare_chain : {s : List ℕ} {lo hi end : ℕ} → Bare s lo hi end → (p : Node) → NodeHere s lo hi p → Below s lo end p
bare_chain {s} {lo} (no_more e) p u = record { above = []; bare = tt; q = p; is = refl; here = subst (λ (n : ℕ). NodeHere s lo n p) (sym e) u }
bare_chain {s} {lo} (one_more {end} c own b) p u =
    let r = bare_chain b p u in
    by_bare c own (λ q. p ≡ chain r.above q → Below s lo end p)
    (λ og o q e v k. record { above = (o, og) ∷ r.above; bare = (e, r.bare); q = q; is = k; here = v }) r.q r.here r.is

pub bare_at : {s : List ℕ} {lo hi end : ℕ} → Bare s lo hi end → NodeAt s lo hi → NodeAt s lo end
bare_at b g = let r = bare_chain b g.p g.here in record { p = r.q; here = r.here }

pub bare_in : {s : List ℕ} {lo hi end : ℕ} → Bare s lo hi end → end ≤ hi
bare_in (no_more e) = omega arith
bare_in (one_more c own b) = let h = bare_in b in omega arith

-- ---- one more

no_trees : {n : ℕ} {w : List ℕ} → Trees n w → n ≡ 0 → length w ≡ 0
no_trees trees.none h = refl
no_trees (trees.one_more t b k) h = absurd (omega arith)

-- a node with one source, by the number of its own trees
module _ {s : List ℕ} {lo end g n : ℕ} (c : SourceCount s lo end g) (one : g ≡ 1) (f : OwnTrees s lo end n) where
  trees_are : (p : Node) → NodeHere s lo end p → n ≡ own_count p
  trees_are p u = f p u (λ y. omega (arith, c p u))

  none_own : n ≡ 0 → OwnStart s lo end (end - cell_words)
  none_own z p u = omega (arith, node_long p u, no_trees (own_trees p) (sym (trees_are p u) ∙ z))

  some_own : (n ≡ 0 → ⊥) → (p : Node) → NodeHere s lo end p → 0 < length (own_words p)
  some_own z p u = omega (arith, trees_long (own_trees p), trees_are p u)

module _ {s : List ℕ} {lo hi end : ℕ} (b : Bare s lo hi end) where
  -- what the code may ask for
  pub cell_inside : NodeAt s lo hi → cell_words ≤ end
  cell_inside g = let d = bare_at b g in omega (arith, (node_in d.p d.here).0)

  pub down_bare : NodeAt s lo hi → {g n : ℕ} → SourceCount s lo end g → g ≡ 1 → OwnTrees s lo end n → n ≡ 0 → Bare s lo hi (end - cell_words)
  down_bare at c one f z =
      let i = cell_inside at in
      let e : end ≡ end - cell_words + cell_words = omega arith in
      let back : (p : Node) → NodeHere s lo (end - cell_words + cell_words) p → NodeHere s lo end p = λ p. subst (λ (n : ℕ). NodeHere s lo n p) (sym e) in
      one_more (λ p u. sym one ∙ c p (back p u)) (λ p u. none_own c one f z p (back p u)) (subst (Bare s lo hi) e b)

  -- a node that is not bare
  pub own_left : {g n : ℕ} → SourceCount s lo end g → g ≡ 1 → OwnTrees s lo end n → (n ≡ 0 → ⊥) → GoesBelow s lo hi end
  own_left c one f z = record { down = b; last = λ p u. go p (some_own c one f z p u) }
    where
      go : (p : Node) → 0 < length (own_words p) → is_bare p ≡ false
      go (leaf og l) h = refl
      go (over og o n) h = some_length (over_own o) h
      go (join og outer j l r) h = refl
