-- Laws on the route of a label through one node.
use Prim.Native.Nat.{ℕ, zero, suc, ◌+◌, ◌-◌, ◌*◌, ◌≤◌, ◌<◌}
use native.Mathlib.Omega.{arith}
use native.Mathlib.Numerals.{add-one}
use mathlib.Core.Logic.{◌⊎◌, ⊎_elim}
use mathlib.Core.Bool.{Bool, true, false, ◌&&◌}
use mathlib.Core.Path.{◌≡◌, refl, sym, ap, ◌∙◌, subst}
use mathlib.Core.List.{List, [], ◌∷◌, ◌++◌, append-nil}
use mathlib.Core.Option.{Option, none, some}
use lib.Dec.{eqb}
use lib.ListN.{length, length-append}
use borrow.Author.Tests.{eq-eqb, ne_eqb}
use Rattle.sql.specs.Expression.{origin, Expression, constant, column, unary, binary}
use Rattle.sql.specs.Plan.{unlabelled, unqualified, qualified, Other, limit, offset, order, projection, remap, aggregate, Over, filter, other, Node, over, routed, group_label, item_label, items_label, remap_source, optional_label, other_label}
use Rattle.sql.specs.Plan as plan
use Rattle.sheet.specs.Content.{label_of, item_cell, target_cell, agg_cell}
use Rattle.cells.specs.declared.Cell.{Cell}
use Rattle.cells.specs.Cells.{cell_words, cell_at, tag_at, Part}
use Rattle.cells.proofs.Laws.{part_left, part_right, part_in, body_part, cell_is, cell_in}
use Rattle.words.specs.Words.{cell, root, operand_words, all_words, expression_words, item_words, agg_words, target_words, source_words}
use Rattle.words.specs.Place.{ExpressionHere, NodeHere, NodeAt}
use Rattle.words.proofs.Expressions.{by_column, root_is, root_tag, here_in, shape}
use Rattle.words.proofs.Nodes.{node_tag, own_part}
use Rattle.words.proofs.Tags.{tagged, over_tag, by_over, by_projection, by_aggregate, over_aggregate, over_projection}
use Rattle.nodes.specs.Trees.{Trees, TreesAt, trees_start}
use Rattle.nodes.specs.Trees as trees
use Rattle.nodes.specs.Own.{OwnStart, SourceCount}
use Rattle.nodes.proofs.Trees.{all_trees}
use Rattle.nodes.proofs.Widths.{a_here, b_here}
use Rattle.labels.specs.declared.Label.{Label}
use Rattle.labels.specs.declared.Label.TheVariants.{Unlabelled, Unqualified, Qualified}
use Rattle.labels.specs.declared.Route.{Route}
use Rattle.labels.specs.declared.Route.TheVariants.{To, Ends}
use Rattle.labels.specs.Labels.{routed_by, Labelled, ExpressionEnds, ExpressionRoute, ItemEnds, ItemRoute, TargetsUp, RemapRoute, Routes}
use Rattle.labels.proofs.Parts.{Nth, NthPart, behind_at, nth_part}

-- ---- a choice by a test

pub chosen : {A : Type 0} (b : Bool) (x y : A) → b ≡ true → x ≡ elim b [ true ↦ x | false ↦ y ]
chosen true x y e = refl
chosen false x y e = let z : ◌≡◌ {A = ℕ} 0 1 = cc in absurd (omega arith)

pub passed : {A : Type 0} (b : Bool) (x y : A) → b ≡ false → y ≡ elim b [ true ↦ x | false ↦ y ]
passed true x y e = let z : ◌≡◌ {A = ℕ} 0 1 = cc in absurd (omega arith)
passed false x y e = refl

-- ---- the label that a cell says

pub says_none : (flag a b : ℕ) → flag ≡ 0 → Labelled flag a b Unlabelled
says_none flag a b e = rw (eq-eqb flag 0 e)

pub says_name : (flag a b : ℕ) → (flag ≡ 0 → ⊥) → flag ≡ 1 → Labelled flag a b (Unqualified a)
says_name flag a b h e = rw (ne_eqb flag 0 h, eq-eqb flag 1 e)

pub says_both : (flag a b : ℕ) → (flag ≡ 0 → ⊥) → (flag ≡ 1 → ⊥) → Labelled flag a b (Qualified a b)
says_both flag a b h k = rw (ne_eqb flag 0 h, ne_eqb flag 1 k)

-- ---- an expression

module _ {s : List ℕ} {hi : ℕ} where
  pub expression_in : ExpressionEnds s hi → (cell_words ≤ hi) × (hi ≤ length s)
  expression_in t = let (h, k) = here_in t.e (record { part = t.part }) in (omega arith, k)

  module _ {c : Cell} (q : c ≡ cell_at s hi) where
    pub to_column : c.tag ≡ 6 → ExpressionRoute s hi (To c.a)
    unfolding cell
    to_column z source lo e p =
        by_column (λ e. ExpressionHere s lo hi e → source c.a ≡ routed source e)
        (λ og i u. ap (λ (k : Cell). source k.a) (q ∙ root_is (column og i) u)) e
        (sym (root_tag e (record { part = p })) ∙ sym (ap (λ (k : Cell). k.tag) q) ∙ z) (record { part = p })

    pub no_column : (c.tag ≡ 6 → ⊥) → ExpressionRoute s hi (Ends Unlabelled)
    no_column z source lo (constant og v) p = refl
    no_column z source lo (column og i) p = absurd (z (ap (λ (k : Cell). k.tag) q ∙ root_tag (column og i) (record { part = p })))
    no_column z source lo (unary og o x) p = refl
    no_column z source lo (binary og o l r) p = refl

-- ---- an Item

module _ {s : List ℕ} {hi : ℕ} where
  pub item_in : ItemEnds s hi → (2 * cell_words ≤ hi) × (hi ≤ length s)
  item_in t =
      let (h, k) = cell_in (expression_words t.item.0) (cell t.item.2 (item_cell t.item.1)) t.part in
      let (g, j) = here_in {lo = t.lo} {hi = hi - cell_words} t.item.0 (record { part = body_part (expression_words t.item.0) (cell t.item.2 (item_cell t.item.1)) t.part }) in
      (omega arith, k)

  pub item_expression : ItemEnds s hi → ExpressionEnds s (hi - cell_words)
  item_expression t = record { lo = t.lo; e = t.item.0; part = body_part (expression_words t.item.0) (cell t.item.2 (item_cell t.item.1)) t.part }

  module _ {c : Cell} (q : c ≡ cell_at s hi) where
    item_cell_is : (lo : ℕ) (item : Expression × plan.Label × ℕ) → Part s lo hi (item_words item) → c ≡ cell item.2 (item_cell item.1)
    item_cell_is lo item p = q ∙ cell_is (expression_words item.0) (cell item.2 (item_cell item.1)) p

    pub to_expression : c.flag ≡ 0 → (r : Route) → ExpressionRoute s (hi - cell_words) r → ItemRoute s hi r
    unfolding cell
    to_expression z r f source lo (e, unlabelled, og) p = f source lo e (body_part (expression_words e) (cell og (item_cell unlabelled)) p)
    to_expression z r f source lo (e, unqualified n, og) p = absurd (omega (arith, z, ap (λ (k : Cell). k.flag) (item_cell_is lo (e, unqualified n, og) p)))
    to_expression z r f source lo (e, qualified t n, og) p = absurd (omega (arith, z, ap (λ (k : Cell). k.flag) (item_cell_is lo (e, qualified t n, og) p)))

    pub own_label : (c.flag ≡ 0 → ⊥) → (l : Label) → Labelled c.flag c.a c.b l → ItemRoute s hi (Ends l)
    unfolding cell
    own_label z l f source lo (e, unlabelled, og) p = absurd (z (ap (λ (k : Cell). k.flag) (item_cell_is lo (e, unlabelled, og) p)))
    own_label z l f source lo (e, unqualified n, og) p =
        f ∙ ap (λ (k : Cell). label_of (record { tag = 0; flag = k.flag; origin = 0; a = k.a; b = k.b; c = 0 })) (item_cell_is lo (e, unqualified n, og) p)
    own_label z l f source lo (e, qualified t n, og) p =
        f ∙ ap (λ (k : Cell). label_of (record { tag = 0; flag = k.flag; origin = 0; a = k.a; b = k.b; c = 0 })) (item_cell_is lo (e, qualified t n, og) p)

-- ---- lists of parts

items_none : (source : ℕ → plan.Label) (is : List (Expression × plan.Label × ℕ)) (i : ℕ) → length is ≤ i → unlabelled ≡ items_label source is i
items_none source [] i h = refl
items_none source (x ∷ xs) zero h = absurd (omega arith)
items_none source (x ∷ xs) (suc i) h = items_none source xs i (omega arith)

items_at : (source : ℕ → plan.Label) (before : List (Expression × plan.Label × ℕ)) (x : Expression × plan.Label × ℕ) (after : List (Expression × plan.Label × ℕ))
    → item_label source x ≡ items_label source (before ++ (x ∷ after)) (length before)
items_at source [] x after = refl
items_at source (y ∷ ys) x after = items_at source ys x after

items_nth : (source : ℕ → plan.Label) (is : List (Expression × plan.Label × ℕ)) (i : ℕ) (n : Nth is i) → item_label source n.x ≡ items_label source is i
items_nth source is i n = items_at source n.before n.x n.after ∙ cc (n.is, n.at)

group_none : (source : ℕ → plan.Label) (es : List Expression) (i : ℕ) → length es ≤ i → unlabelled ≡ group_label source es i
group_none source [] i h = refl
group_none source (x ∷ xs) zero h = absurd (omega arith)
group_none source (x ∷ xs) (suc i) h = group_none source xs i (omega arith)

group_at : (source : ℕ → plan.Label) (before : List Expression) (x : Expression) (after : List Expression)
    → routed source x ≡ group_label source (before ++ (x ∷ after)) (length before)
group_at source [] x after = refl
group_at source (y ∷ ys) x after = group_at source ys x after

group_nth : (source : ℕ → plan.Label) (es : List Expression) (i : ℕ) (n : Nth es i) → routed source n.x ≡ group_label source es i
group_nth source es i n = group_at source n.before n.x n.after ∙ cc (n.is, n.at)

-- a property of those nodes over a source that are no Filter
abbrev on_other : (Other → Type 0) → Over → Type 0
on_other P (filter e) = Unit {0}
on_other P (other o) = P o

-- ---- a Projection

module _ {s : List ℕ} {lo hi : ℕ} {c : Cell} (q : c ≡ cell_at s hi) (z : tag_at s hi ≡ 60) where
  a_projection : (P : Other → Type 0) (og : ℕ) (o : Other) (n : Node) → NodeHere s lo hi (over og (other o) n)
      → ((is : List (Expression × plan.Label × ℕ)) → NodeHere s lo hi (over og (other (projection is)) n) → P (projection is)) → P o
  a_projection P og o n u f =
      over_projection (on_other (λ o. NodeHere s lo hi (over og (other o) n) → P o)) f (other o)
      (sym (tagged (over og (other o) n)) ∙ sym (node_tag (over og (other o) n) u) ∙ z) u

  module _ (og : ℕ) (is : List (Expression × plan.Label × ℕ)) (n : Node) (u : NodeHere s lo hi (over og (other (projection is)) n)) where
    item_count : c.a ≡ length is
    item_count = a_here q (over og (other (projection is)) n) u

    items_part : Part s (lo + length (source_words (over og (other (projection is)) n))) (hi - cell_words) (all_words item_words is ++ [])
    items_part =
        subst (λ (w : List ℕ). Part s (lo + length (source_words (over og (other (projection is)) n))) (hi - cell_words) w) (sym (append-nil (all_words item_words is)))
        (own_part (over og (other (projection is)) n) u refl)

    module _ (i : ℕ) (h : i < c.a) where
      behind_item : TreesAt s (c.a - 1 - i) (hi - cell_words)
      behind_item =
          let e : length is - 1 - i + 0 ≡ c.a - 1 - i = omega (arith, item_count) in
          subst (λ (m : ℕ). TreesAt s m (hi - cell_words)) e
          (behind_at item_words (λ x. expression_words x.0) (λ x. cell x.2 (item_cell x.1)) (λ x. refl) trees.none is items_part i (omega (arith, item_count)))

      item_at : {end : ℕ} → end ≡ trees_start s (c.a - 1 - i) (hi - cell_words) → NthPart item_words s is i end
      item_at e =
          let g : c.a - 1 - i ≡ length is - 1 - i + 0 = omega (arith, item_count) in
          nth_part item_words (λ x. expression_words x.0) (λ x. cell x.2 (item_cell x.1)) (λ x. refl) trees.none is items_part i (omega (arith, item_count))
          (e ∙ ap (λ (m : ℕ). trees_start s m (hi - cell_words)) g)

  pub projection_ends : (i : ℕ) → c.a ≤ i → Routes s lo hi i (Ends Unlabelled)
  projection_ends i h source og o n u =
      a_projection (λ o. unlabelled ≡ other_label o source i) og o n u (λ is u. items_none source is i (omega (arith, item_count og is n u)))

  when_projection : NodeAt s lo hi → (P : Type 0) → ((og : ℕ) (is : List (Expression × plan.Label × ℕ)) (n : Node) → NodeHere s lo hi (over og (other (projection is)) n) → P) → P
  when_projection t P f =
      by_projection (λ p. NodeHere s lo hi p → P) f t.p (sym (tagged t.p) ∙ sym (node_tag t.p t.here) ∙ z) t.here

  module _ (i : ℕ) (h : i < c.a) where
    pub items_behind : NodeAt s lo hi → TreesAt s (c.a - 1 - i) (hi - cell_words)
    items_behind t = when_projection t (TreesAt s (c.a - 1 - i) (hi - cell_words)) (λ og is n u. behind_item og is n u i h)

    module _ {end : ℕ} (e : end ≡ trees_start s (c.a - 1 - i) (hi - cell_words)) where
      pub item_ends : NodeAt s lo hi → ItemEnds s end
      item_ends t =
          when_projection t (ItemEnds s end) (λ og is n u. let x = item_at og is n u i h e in record { lo = x.lo; item = x.one.x; part = x.part })

      pub projection_goes : (r : Route) → ItemRoute s end r → Routes s lo hi i r
      projection_goes r f source og o n u =
          a_projection (λ o. routed_by source r ≡ other_label o source i) og o n u
          (λ is u. let x = item_at og is n u i h e in f source x.lo x.one.x x.part ∙ items_nth source is i x.one)

-- ---- an Aggregate

module _ {s : List ℕ} {lo hi : ℕ} {c : Cell} (q : c ≡ cell_at s hi) (z : tag_at s hi ≡ 50) where
  an_aggregate : (P : Other → Type 0) (og : ℕ) (o : Other) (n : Node) → NodeHere s lo hi (over og (other o) n)
      → ((es : List Expression) (gs : List (ℕ × Expression × ℕ)) → NodeHere s lo hi (over og (other (aggregate es gs)) n) → P (aggregate es gs)) → P o
  an_aggregate P og o n u f =
      over_aggregate (on_other (λ o. NodeHere s lo hi (over og (other o) n) → P o)) f (other o)
      (sym (tagged (over og (other o) n)) ∙ sym (node_tag (over og (other o) n) u) ∙ z) u

  module _ (og : ℕ) (es : List Expression) (gs : List (ℕ × Expression × ℕ)) (n : Node) (u : NodeHere s lo hi (over og (other (aggregate es gs)) n)) where
    group_count : c.a ≡ length es
    group_count = a_here q (over og (other (aggregate es gs)) n) u

    agg_count : c.b ≡ length gs
    agg_count = b_here q (over og (other (aggregate es gs)) n) u

    agg_trees : Trees (length gs) (all_words agg_words gs)
    agg_trees = all_trees agg_words (λ g. expression_words g.1) (λ g. cell g.2 (agg_cell g.0)) (λ g. refl) gs

    module _ (i : ℕ) (h : i < c.a) where
      behind_group : TreesAt s (c.a - 1 - i + c.b) (hi - cell_words)
      behind_group =
          let e : length es - 1 - i + length gs ≡ c.a - 1 - i + c.b = omega (arith, group_count, agg_count) in
          subst (λ (m : ℕ). TreesAt s m (hi - cell_words)) e
          (behind_at expression_words operand_words (λ x. cell (origin x) (root x)) shape agg_trees es (own_part (over og (other (aggregate es gs)) n) u refl) i (omega (arith, group_count)))

      group_part : {end : ℕ} → end ≡ trees_start s (c.a - 1 - i + c.b) (hi - cell_words) → NthPart expression_words s es i end
      group_part e =
          let g : c.a - 1 - i + c.b ≡ length es - 1 - i + length gs = omega (arith, group_count, agg_count) in
          nth_part expression_words operand_words (λ x. cell (origin x) (root x)) shape agg_trees es (own_part (over og (other (aggregate es gs)) n) u refl) i (omega (arith, group_count))
          (e ∙ ap (λ (m : ℕ). trees_start s m (hi - cell_words)) g)

  pub aggregate_ends : (i : ℕ) → c.a ≤ i → Routes s lo hi i (Ends Unlabelled)
  aggregate_ends i h source og o n u =
      an_aggregate (λ o. unlabelled ≡ other_label o source i) og o n u (λ es gs u. group_none source es i (omega (arith, group_count og es gs n u)))

  when_aggregate : NodeAt s lo hi → (P : Type 0)
      → ((og : ℕ) (es : List Expression) (gs : List (ℕ × Expression × ℕ)) (n : Node) → NodeHere s lo hi (over og (other (aggregate es gs)) n) → P) → P
  when_aggregate t P f =
      by_aggregate (λ p. NodeHere s lo hi p → P) f t.p (sym (tagged t.p) ∙ sym (node_tag t.p t.here) ∙ z) t.here

  module _ (i : ℕ) (h : i < c.a) where
    pub groups_behind : NodeAt s lo hi → TreesAt s (c.a - 1 - i + c.b) (hi - cell_words)
    groups_behind t = when_aggregate t (TreesAt s (c.a - 1 - i + c.b) (hi - cell_words)) (λ og es gs n u. behind_group og es gs n u i h)

    module _ {end : ℕ} (e : end ≡ trees_start s (c.a - 1 - i + c.b) (hi - cell_words)) where
      pub group_ends : NodeAt s lo hi → ExpressionEnds s end
      group_ends t =
          when_aggregate t (ExpressionEnds s end)
          (λ og es gs n u. let x = group_part og es gs n u i h e in record { lo = x.lo; e = x.one.x; part = x.part })

      pub aggregate_goes : (r : Route) → ExpressionRoute s end r → Routes s lo hi i r
      aggregate_goes r f source og o n u =
          an_aggregate (λ o. routed_by source r ≡ other_label o source i) og o n u
          (λ es gs u. let x = group_part og es gs n u i h e in f source x.lo x.one.x x.part ∙ group_nth source es i x.one)

-- ---- a Remap

-- The Targets from `at` up to hi are left, and the first of them is for source column `from`.
pub record Untried (s : List ℕ) (hi at from i : ℕ) (targets : List (Option ℕ × ℕ)) : Type 0 where
  pub rest : List (Option ℕ × ℕ)
  pub part : Part s at hi (all_words target_words rest)
  pub is : remap_source from rest i ≡ remap_source 0 targets i

pub untried_all : {s : List ℕ} {lo hi : ℕ} (i : ℕ) (targets : List (Option ℕ × ℕ)) → Part s lo hi (all_words target_words targets) → Untried s hi lo 0 i targets
untried_all i targets p = record { rest = targets; part = p; is = refl }

module _ {s : List ℕ} {hi at from : ℕ} (i : ℕ) (targets : List (Option ℕ × ℕ)) (g : Untried s hi at from i targets) where
  one_untried : (P : Type 0) → at < hi
      → ((t : Option ℕ × ℕ) (ts : List (Option ℕ × ℕ)) → Part s at (at + cell_words) (target_words t) → Part s (at + cell_words) hi (all_words target_words ts)
      → remap_source from (t ∷ ts) i ≡ remap_source 0 targets i → P)
      → P
  one_untried P h f = go g.rest g.part g.is
    where
      go : (rest : List (Option ℕ × ℕ)) → Part s at hi (all_words target_words rest) → remap_source from rest i ≡ remap_source 0 targets i → P
      go [] p e = absurd (omega (arith, p.high))
      go (t ∷ ts) p e = f t ts (part_left (target_words t) (all_words target_words ts) p) (part_right (target_words t) (all_words target_words ts) p) e

  pub untried_in : at < hi → (at + cell_words ≤ hi) × (hi ≤ length s)
  untried_in h = one_untried ((at + cell_words ≤ hi) × (hi ≤ length s)) h (λ t ts p r e. ((part_in r).0, (part_in r).1))

  module _ (h : at < hi) {c : Cell} (q : c ≡ cell_at s (at + cell_words)) where
    target_is : (t : Option ℕ × ℕ) → Part s at (at + cell_words) (target_words t) → c ≡ cell t.1 (target_cell t.0)
    target_is t p = q ∙ cell_is [] (cell t.1 (target_cell t.0)) p

    pub untried_hit : eqb c.flag 1 && eqb c.a i ≡ true → some from ≡ remap_source 0 targets i
    unfolding cell
    untried_hit b = one_untried (some from ≡ remap_source 0 targets i) h (λ t ts p r e. go t ts (ap (λ (k : Cell). eqb k.flag 1 && eqb k.a i) (sym (target_is t p)) ∙ b) ∙ e)
      where
        go : (t : Option ℕ × ℕ) (ts : List (Option ℕ × ℕ)) → eqb (cell t.1 (target_cell t.0)).flag 1 && eqb (cell t.1 (target_cell t.0)).a i ≡ true → some from ≡ remap_source from (t ∷ ts) i
        go (none, og) ts e = let x : ◌≡◌ {A = ℕ} 0 1 = cc in absurd (omega arith)
        go (some a, og) ts e = chosen (eqb a i) (some from) (remap_source (suc from) ts i) e

    pub untried_next : eqb c.flag 1 && eqb c.a i ≡ false → Untried s hi (at + cell_words) (from + 1) i targets
    unfolding cell
    untried_next b =
        one_untried (Untried s hi (at + cell_words) (from + 1) i targets) h
        (λ t ts p r e. record { rest = ts; part = r; is = ap (λ (n : ℕ). remap_source n ts i) (add-one from) ∙ go t ts (ap (λ (k : Cell). eqb k.flag 1 && eqb k.a i) (sym (target_is t p)) ∙ b) ∙ e })
      where
        go : (t : Option ℕ × ℕ) (ts : List (Option ℕ × ℕ)) → eqb (cell t.1 (target_cell t.0)).flag 1 && eqb (cell t.1 (target_cell t.0)).a i ≡ false
            → remap_source (suc from) ts i ≡ remap_source from (t ∷ ts) i
        go (none, og) ts e = refl
        go (some a, og) ts e = passed (eqb a i) (some from) (remap_source (suc from) ts i) e

  pub untried_none : hi ≤ at → none ≡ remap_source 0 targets i
  untried_none h = go g.rest g.part g.is
    where
      go : (rest : List (Option ℕ × ℕ)) → Part s at hi (all_words target_words rest) → remap_source from rest i ≡ remap_source 0 targets i → none ≡ remap_source 0 targets i
      go [] p e = e
      go (t ∷ ts) p e = absurd (omega (arith, p.high, length-append (target_words t) (all_words target_words ts)))

pub hits_some : (flag a i : ℕ) → flag ≡ 1 → eqb a i ≡ (eqb flag 1 && eqb a i)
hits_some flag a i e = rw (eq-eqb flag 1 e)

pub hits_none : (flag a i : ℕ) → (flag ≡ 1 → ⊥) → false ≡ (eqb flag 1 && eqb a i)
hits_none flag a i h = rw (ne_eqb flag 1 h)

-- the Targets of a Remap
module _ {s : List ℕ} {lo hi m : ℕ} (k : SourceCount s lo hi 1) (own : OwnStart s lo hi m) (g : (tag_at s hi ≡ 50) ⊎ (60 ≤ tag_at s hi)) (y : tag_at s hi ≡ 50 → ⊥)
    (z : tag_at s hi ≡ 60 → ⊥) where
  a_remap : (P : Other → Type 0) (og : ℕ) (o : Other) (n : Node) → NodeHere s lo hi (over og (other o) n)
      → ((ts : List (Option ℕ × ℕ)) → Part s m (hi - cell_words) (all_words target_words ts) → P (remap ts)) → P o
  a_remap P og o n u f = go o u (node_tag (over og (other o) n) u ∙ tagged (over og (other o) n))
    where
      high : 60 ≤ tag_at s hi
      high = ⊎_elim (λ i. absurd (y i)) (λ i. i) g

      go : (o : Other) → NodeHere s lo hi (over og (other o) n) → tag_at s hi ≡ over_tag (other o) → P o
      go (limit a) u i = absurd (omega (arith, high))
      go (offset a) u i = absurd (omega (arith, high))
      go (order ks) u i = absurd (omega (arith, high))
      go (projection is) u i = absurd (z i)
      go (remap ts) u i = f ts (own_part (over og (other (remap ts)) n) u (own (over og (other (remap ts)) n) u))
      go (aggregate es gs) u i = absurd (y i)

  pub targets_up : NodeAt s lo hi → TargetsUp s m (hi - cell_words)
  targets_up t = by_over (λ p. NodeHere s lo hi p → TargetsUp s m (hi - cell_words)) go t.p (sym (k t.p t.here)) t.here
    where
      go : (og : ℕ) (o : Over) (n : Node) → NodeHere s lo hi (over og o n) → TargetsUp s m (hi - cell_words)
      go og (filter e) n u =
          let i = node_tag (over og (filter e) n) u ∙ tagged (over og (filter e) n) in
          ⊎_elim (λ (j : tag_at s hi ≡ 50). absurd (y j)) (λ (j : 60 ≤ tag_at s hi). absurd (omega arith)) g
      go og (other o) n u = a_remap (λ o. TargetsUp s m (hi - cell_words)) og o n u (λ ts p. record { targets = ts; part = p })

  pub remap_goes : (i : ℕ) (r : Route) → RemapRoute s m (hi - cell_words) i r → Routes s lo hi i r
  remap_goes i r f source og o n u = a_remap (λ o. routed_by source r ≡ other_label o source i) og o n u (λ ts p. f source ts p)
