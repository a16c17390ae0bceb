-- Laws on the rewrites, one node each.
use Prim.Native.Nat.{ℕ, ◌+◌, ◌-◌, ◌≤◌}
use native.Mathlib.Omega.{arith}
use mathlib.Core.Bool.{Bool, true, false, cond, ◌&&◌}
use mathlib.Core.Path.{◌≡◌, refl, sym, ap, ◌∙◌, subst}
use mathlib.Core.List.{List, [], ◌++◌, append-nil}
use mathlib.Core.Option.{Option, none, some}
use lib.Dec.{eqb}
use lib.ListN.{length}
use borrow.Author.Tests.{eq-eqb, ne_eqb}
use Rattle.sql.specs.Expression.{Expression}
use Rattle.sql.specs.Plan.{Label, scan, lookup, nothing, values, limit, offset, order, projection, remap, aggregate, filter, other, nested_loop, hash, Node, leaf, over, join, columns}
use Rattle.sql.specs.Optimizer.{optional_verdict, is_always, remove_true, pass_through, is_noop, remove_useless}
use Rattle.sheet.specs.Content.{scan_cell, nested_loop_join_cell}
use Rattle.sheet.specs.Cells.{present}
use Rattle.cells.specs.declared.Cell.{Cell}
use Rattle.cells.specs.Cells.{cell_words, sized, cell_at, tag_at, Part}
use Rattle.cells.specs.Room.{Wrote, Seals}
use Rattle.cells.proofs.Laws.{nothing as none_written}
use Rattle.words.specs.Words.{cell, all_words, optional_words, item_words, node_words, source_words}
use Rattle.words.specs.Place.{NodeHere, NodeAt}
use Rattle.words.proofs.Nodes.{node_cell_is, node_tag, own_part, source_part, over_source}
use Rattle.words.proofs.Tags.{tag_of, tagged, by_scan, by_nested_loop, by_filter, by_projection}
use Rattle.nodes.specs.Own.{OwnStart, SourceCount}
use Rattle.nodes.specs.Columns.{ColumnCount}
use Rattle.nodes.proofs.Widths.{a_here}
use Rattle.labels.specs.Labels.{ExpressionEnds}
use Rattle.remove_useless.specs.RemoveUseless.{AlwaysTrue, OptionalAt, OptionalTrue, ItemsAt, PassesThrough, Rewrites, Stays, Projects, Removes}
use Rattle.remove_useless.proofs.Standing.{part_wrote, here_wrote}

clash : {P : Type 0} → true ≡ false → P
clash e = let w : ◌≡◌ {A = ℕ} 0 1 = cc in absurd (omega arith)

removed : (q : Option Expression) → is_always (optional_verdict q) ≡ true → remove_true q ≡ none
removed q e = ap (λ (b : Bool). cond b none q) e

kept : (q : Option Expression) → is_always (optional_verdict q) ≡ false → remove_true q ≡ q
kept q e = ap (λ (b : Bool). cond b none q) e

module _ {y : List ℕ} {lo hi : ℕ} where
  pub tag_is : {n : ℕ} (p : Node) → NodeHere y lo hi p → tag_at y hi ≡ n → tag_of p ≡ n
  tag_is p u z = sym (node_tag p u ∙ tagged p) ∙ z

  -- ---- a Scan
  module _ (z : tag_at y hi ≡ 62) where
    a_scan : (P : Node → Type 0) → ((og t : ℕ) (al : Option ℕ) (q : Option Expression) → NodeHere y lo hi (leaf og (scan t al q)) → P (leaf og (scan t al q)))
        → (p : Node) → NodeHere y lo hi p → P p
    a_scan P f p u = by_scan (λ p. NodeHere y lo hi p → P p) f p (tag_is p u z) u

    predicate_part : (og t : ℕ) (al : Option ℕ) (q : Option Expression) → NodeHere y lo hi (leaf og (scan t al q)) → Part y lo (hi - cell_words) (optional_words q)
    predicate_part og t al q u = own_part (leaf og (scan t al q)) u {m = lo} (omega arith)

    pub scan_predicate : NodeAt y lo hi → OptionalAt y lo (hi - cell_words)
    scan_predicate t = a_scan (λ p. OptionalAt y lo (hi - cell_words)) (λ og i al q u. record { predicate = q; part = predicate_part og i al q u }) t.p t.here

    module _ {c : Cell} (e : c ≡ cell_at y hi) (f : OptionalTrue y lo (hi - cell_words) true) where
      scan_cell_is : (og t : ℕ) (al : Option ℕ) (q : Option Expression) → NodeHere y lo hi (leaf og (scan t al q)) → c ≡ cell og (scan_cell (present q) t al)
      scan_cell_is og t al q u = e ∙ node_cell_is (leaf og (scan t al q)) u

      pub scan_flag : NodeAt y lo hi → 1 ≤ c.flag
      unfolding cell
      scan_flag t = a_scan (λ p. 1 ≤ c.flag) (λ og i al q u. go og i al q (scan_cell_is og i al q u) (f q (predicate_part og i al q u))) t.p t.here
        where
          go : (og i : ℕ) (al : Option ℕ) (q : Option Expression) → c ≡ cell og (scan_cell (present q) i al) → true ≡ is_always (optional_verdict q) → 1 ≤ c.flag
          go og i al none k h = clash h
          go og i none (some x) k h = omega (arith, ap (λ (k : Cell). k.flag) k)
          go og i (some r) (some x) k h = omega (arith, ap (λ (k : Cell). k.flag) k)

      pub scan_written : {n : ℕ} {y' : List ℕ} → Seals y lo lo (record c { flag = c.flag - 1 }) n y' → Rewrites y lo hi n y'
      unfolding cell node_words
      scan_written {n} {y'} s schema p u =
          a_scan (λ p. Wrote y lo (node_words (remove_useless schema p)) n y')
          (λ og t al q u.
          let h = f q (predicate_part og t al q u) in
          subst (λ (o : Option Expression). Wrote y lo (node_words (leaf og (scan t al o))) n y') (sym (removed q (sym h)))
          (subst (λ (k : Cell). Wrote y lo (sized [] k) n y') (go og t al q (scan_cell_is og t al q u) h) (s y [] refl (none_written y lo)))) p u
        where
          go : (og t : ℕ) (al : Option ℕ) (q : Option Expression) → c ≡ cell og (scan_cell (present q) t al) → true ≡ is_always (optional_verdict q)
              → record c { flag = c.flag - 1 } ≡ cell og (scan_cell false t al)
          go og t al none k h = clash h
          go og t none (some x) k h = ap (λ (k : Cell). record k { flag = k.flag - 1 }) k
          go og t (some r) (some x) k h = ap (λ (k : Cell). record k { flag = k.flag - 1 }) k

    pub scan_same : OptionalTrue y lo (hi - cell_words) false → Rewrites y lo hi hi y
    scan_same f schema p u =
        a_scan (λ p. Wrote y lo (node_words (remove_useless schema p)) hi y)
        (λ og t al q u. subst (λ (o : Option Expression). Wrote y lo (node_words (leaf og (scan t al o))) hi y) (sym (kept q (sym (f q (predicate_part og t al q u)))))
        (here_wrote (leaf og (scan t al q)) u)) p u

  -- ---- a NestedLoopJoin
  module _ (z : tag_at y hi ≡ 56) {m : ℕ} (own : OwnStart y lo hi m) where
    a_join : (P : Node → Type 0)
        → ((og : ℕ) (outer : Bool) (q : Option Expression) (l r : Node) → NodeHere y lo hi (join og outer (nested_loop q) l r) → P (join og outer (nested_loop q) l r))
        → (p : Node) → NodeHere y lo hi p → P p
    a_join P f p u = by_nested_loop (λ p. NodeHere y lo hi p → P p) f p (tag_is p u z) u

    join_part : (og : ℕ) (outer : Bool) (q : Option Expression) (l r : Node) → NodeHere y lo hi (join og outer (nested_loop q) l r) → Part y m (hi - cell_words) (optional_words q)
    join_part og outer q l r u = own_part (join og outer (nested_loop q) l r) u (own (join og outer (nested_loop q) l r) u)

    pub join_predicate : NodeAt y lo hi → OptionalAt y m (hi - cell_words)
    join_predicate t = a_join (λ p. OptionalAt y m (hi - cell_words)) (λ og outer q l r u. record { predicate = q; part = join_part og outer q l r u }) t.p t.here

    module _ {c : Cell} (e : c ≡ cell_at y hi) (f : OptionalTrue y m (hi - cell_words) true) where
      join_cell_is : (og : ℕ) (outer : Bool) (q : Option Expression) (l r : Node) → NodeHere y lo hi (join og outer (nested_loop q) l r) → c ≡ cell og (nested_loop_join_cell (present q) outer)
      join_cell_is og outer q l r u = e ∙ node_cell_is (join og outer (nested_loop q) l r) u

      pub join_flag : NodeAt y lo hi → 1 ≤ c.flag
      unfolding cell
      join_flag t = a_join (λ p. 1 ≤ c.flag) (λ og outer q l r u. go og outer q (join_cell_is og outer q l r u) (f q (join_part og outer q l r u))) t.p t.here
        where
          go : (og : ℕ) (outer : Bool) (q : Option Expression) → c ≡ cell og (nested_loop_join_cell (present q) outer) → true ≡ is_always (optional_verdict q) → 1 ≤ c.flag
          go og outer none k h = clash h
          go og false (some x) k h = omega (arith, ap (λ (k : Cell). k.flag) k)
          go og true (some x) k h = omega (arith, ap (λ (k : Cell). k.flag) k)

      pub join_written : {n : ℕ} {y' : List ℕ} → Seals y lo m (record c { flag = c.flag - 1 }) n y' → Rewrites y lo hi n y'
      unfolding cell node_words
      join_written {n} {y'} s schema p u =
          a_join (λ p. Wrote y lo (node_words (remove_useless schema p)) n y')
          (λ og outer q l r u.
          let h = f q (join_part og outer q l r u) in
          let x = source_part (join og outer (nested_loop q) l r) u (own (join og outer (nested_loop q) l r) u) in
          subst (λ (o : Option Expression). Wrote y lo (node_words (join og outer (nested_loop o) l r)) n y') (sym (removed q (sym h)))
          (subst (λ (w : List ℕ). Wrote y lo (sized (node_words l ++ w) (cell og (nested_loop_join_cell false outer))) n y') (sym (append-nil (node_words r)))
          (subst (λ (k : Cell). Wrote y lo (sized (node_words l ++ node_words r) k) n y') (go og outer q (join_cell_is og outer q l r u) h)
          (s y (node_words l ++ node_words r) refl (part_wrote x))))) p u
        where
          go : (og : ℕ) (outer : Bool) (q : Option Expression) → c ≡ cell og (nested_loop_join_cell (present q) outer) → true ≡ is_always (optional_verdict q)
              → record c { flag = c.flag - 1 } ≡ cell og (nested_loop_join_cell false outer)
          go og outer none k h = clash h
          go og false (some x) k h = ap (λ (k : Cell). record k { flag = k.flag - 1 }) k
          go og true (some x) k h = ap (λ (k : Cell). record k { flag = k.flag - 1 }) k

    pub join_same : OptionalTrue y m (hi - cell_words) false → Rewrites y lo hi hi y
    join_same f schema p u =
        a_join (λ p. Wrote y lo (node_words (remove_useless schema p)) hi y)
        (λ og outer q l r u. subst (λ (o : Option Expression). Wrote y lo (node_words (join og outer (nested_loop o) l r)) hi y)
        (sym (kept q (sym (f q (join_part og outer q l r u))))) (here_wrote (join og outer (nested_loop q) l r) u)) p u

  -- ---- a Filter
  module _ (z : tag_at y hi ≡ 51) where
    a_filter : (P : Node → Type 0) → ((og : ℕ) (e : Expression) (n : Node) → NodeHere y lo hi (over og (filter e) n) → P (over og (filter e) n)) → (p : Node) → NodeHere y lo hi p → P p
    a_filter P f p u = by_filter (λ p. NodeHere y lo hi p → P p) f p (tag_is p u z) u

    pub filter_ends : NodeAt y lo hi → ExpressionEnds y (hi - cell_words)
    filter_ends t =
        a_filter (λ p. ExpressionEnds y (hi - cell_words))
        (λ og e n u. record { lo = lo + length (source_words (over og (filter e) n)); e = e; part = own_part (over og (filter e) n) u refl }) t.p t.here

    pub filter_source : {m : ℕ} → OwnStart y lo hi m → AlwaysTrue y (hi - cell_words) true → Stays y lo hi m
    filter_source {m} own f schema p u =
        a_filter (λ p. NodeHere y lo m (remove_useless schema p))
        (λ og e n u. subst (λ (b : Bool). NodeHere y lo m (cond b n (over og (filter e) n)))
        (f (lo + length (source_words (over og (filter e) n))) e (own_part (over og (filter e) n) u refl)) (over_source og (filter e) n u (own (over og (filter e) n) u))) p u

    pub filter_same : AlwaysTrue y (hi - cell_words) false → Stays y lo hi hi
    filter_same f schema p u =
        a_filter (λ p. NodeHere y lo hi (remove_useless schema p))
        (λ og e n u. subst (λ (b : Bool). NodeHere y lo hi (cond b n (over og (filter e) n)))
        (f (lo + length (source_words (over og (filter e) n))) e (own_part (over og (filter e) n) u refl)) u) p u

  -- ---- a Projection
  module _ (z : tag_at y hi ≡ 60) {m : ℕ} (own : OwnStart y lo hi m) {c : Cell} (e : c ≡ cell_at y hi) where
    a_projection : (P : Node → Type 0)
        → ((og : ℕ) (is : List (Expression × Label × ℕ)) (n : Node) → NodeHere y lo hi (over og (other (projection is)) n) → Part y m (hi - cell_words) (all_words item_words is) → c.a ≡ length is
        → P (over og (other (projection is)) n))
        → (p : Node) → NodeHere y lo hi p → P p
    a_projection P f p u =
        by_projection (λ p. NodeHere y lo hi p → P p)
        (λ og is n u. f og is n u (own_part (over og (other (projection is)) n) u (own (over og (other (projection is)) n) u)) (a_here e (over og (other (projection is)) n) u)) p (tag_is p u z) u

    pub items_at : NodeAt y lo hi → ItemsAt y m (hi - cell_words) c.a
    items_at t = a_projection (λ p. ItemsAt y m (hi - cell_words) c.a) (λ og is n u p k. record { items = is; part = p; count = k }) t.p t.here

    pub projection_one : SourceCount y lo hi 1
    projection_one p u = a_projection (λ p. 1 ≡ Rattle.words.specs.Words.source_count p) (λ og is n u p k. refl) p u

    module _ {b : Bool} (f : PassesThrough y m (hi - cell_words) c.a b) {records : List ℕ} where
      pub projection_source : b ≡ true → {w : ℕ} → ColumnCount records y lo m w → w ≡ c.a → Projects records y lo hi m
      projection_source h {w} g i schema p k u =
          a_projection (λ p. NodeHere y lo m (remove_useless schema p))
          (λ og is n u p j.
          let v = over_source og (other (projection is)) n u (own (over og (other (projection is)) n) u) in
          let x : eqb (columns schema n) (length is) ≡ true = eq-eqb (columns schema n) (length is) (sym (g schema n k v) ∙ i ∙ j) in
          let r : is_noop schema is n ≡ true = ap (λ (t : Bool). t && pass_through 0 is) x ∙ sym (f is p j) ∙ h in
          subst (λ (t : Bool). NodeHere y lo m (cond t n (over og (other (projection is)) n))) (sym r) v) p u

      pub projection_wide : {w : ℕ} → ColumnCount records y lo m w → (w ≡ c.a → ⊥) → Projects records y lo hi hi
      projection_wide {w} g i schema p k u =
          a_projection (λ p. NodeHere y lo hi (remove_useless schema p))
          (λ og is n u p j.
          let v = over_source og (other (projection is)) n u (own (over og (other (projection is)) n) u) in
          let x : eqb (columns schema n) (length is) ≡ false = ne_eqb (columns schema n) (length is) (λ q. i (g schema n k v ∙ q ∙ sym j)) in
          let r : is_noop schema is n ≡ false = ap (λ (t : Bool). t && pass_through 0 is) x in
          subst (λ (t : Bool). NodeHere y lo hi (cond t n (over og (other (projection is)) n))) (sym r) u) p u

      pub projection_same : b ≡ false → Projects records y lo hi hi
      projection_same h schema p k u =
          a_projection (λ p. NodeHere y lo hi (remove_useless schema p))
          (λ og is n u p j.
          let r : is_noop schema is n ≡ false = go (eqb (columns schema n) (length is)) (pass_through 0 is) (sym (f is p j) ∙ h) in
          subst (λ (t : Bool). NodeHere y lo hi (cond t n (over og (other (projection is)) n))) (sym r) u) p u
        where
          go : (s t : Bool) → t ≡ false → (s && t) ≡ false
          go true t k = k
          go false t k = refl

  -- ---- all nodes
  module _ {records : List ℕ} where
    pub stays_removed : {r : ℕ} → Stays y lo hi r → Removes records y lo hi r y
    stays_removed f schema p k u = here_wrote (remove_useless schema p) (f schema p u)

    pub projects_removed : {r : ℕ} → Projects records y lo hi r → Removes records y lo hi r y
    projects_removed f schema p k u = here_wrote (remove_useless schema p) (f schema p k u)

    pub rewrites_removed : {r : ℕ} {y' : List ℕ} → Rewrites y lo hi r y' → Removes records y lo hi r y'
    rewrites_removed f schema p k u = f schema p u

    pub others_removed : (tag_at y hi ≡ 62 → ⊥) → (tag_at y hi ≡ 56 → ⊥) → (tag_at y hi ≡ 51 → ⊥) → (tag_at y hi ≡ 60 → ⊥) → Removes records y lo hi hi y
    others_removed a b d e schema p k u = go p u (node_tag p u ∙ tagged p)
      where
        go : (p : Node) → NodeHere y lo hi p → tag_at y hi ≡ tag_of p → Wrote y lo (node_words (remove_useless schema p)) hi y
        go (leaf og (scan t al q)) u i = absurd (a i)
        go (leaf og (lookup x t al vs)) u i = here_wrote (leaf og (lookup x t al vs)) u
        go (leaf og (nothing ls)) u i = here_wrote (leaf og (nothing ls)) u
        go (leaf og (values rs)) u i = here_wrote (leaf og (values rs)) u
        go (over og (filter x) n) u i = absurd (d i)
        go (over og (other (limit x)) n) u i = here_wrote (over og (other (limit x)) n) u
        go (over og (other (offset x)) n) u i = here_wrote (over og (other (offset x)) n) u
        go (over og (other (order ks)) n) u i = here_wrote (over og (other (order ks)) n) u
        go (over og (other (projection is)) n) u i = absurd (e i)
        go (over og (other (remap ts)) n) u i = here_wrote (over og (other (remap ts)) n) u
        go (over og (other (aggregate es gs)) n) u i = here_wrote (over og (other (aggregate es gs)) n) u
        go (join og outer (nested_loop q) l r) u i = absurd (b i)
        go (join og outer (hash i₁ j₁) l r) u i = here_wrote (join og outer (hash i₁ j₁) l r) u
